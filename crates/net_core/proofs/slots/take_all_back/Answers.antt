use Rattle.std.proofs.Common.{[], ◌∷◌}
use Rattle.net_core.proofs.SlotLists.{more_back, more_sent}
use Rattle.net_core.proofs.slots.take_all_back.Goals as goal

pub loop-slot-preserved : goal.loop-slot-preserved
loop-slot-preserved c = record {
  back = more_back c.loop-slot.yielded (c.in-Some.slot ∷ []) c.args.parts.now c.loop-slot.parts
      c.take_noted.new.parts c.args.journal.now c.loop-slot.journal c.take_noted.new.journal
      c.loop-slot.invariant.back c.in_ok-take_noted.ensures.back;
  sent = more_sent c.loop-slot.yielded c.in-Some.slot c.args.senders.now.items
      c.loop-slot.senders.items c.take_noted.new.senders.items c.loop-slot.invariant.sent
      c.in_ok-take_noted.ensures.sent;
}
