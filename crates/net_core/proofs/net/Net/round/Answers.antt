use Rattle.std.proofs.Common.{◌≡◌, ℕ, List, ◌+◌, ◌*◌, ◌-◌, ◌<◌, ◌≤◌, ◌^◌, length, sym, ap, subst}
use Rattle.std.proofs.Common.{refl}
use Rattle.std.proofs.Common.{arith}
use Rattle.net_laws.specs.Site.{Site}
use Rattle.net_core.specs.Parts.{net_of}
use Rattle.net_core.specs.Scheduling.{numbers}
use Rattle.net_core.specs.Whole.{NetParts, IsWhole}
use Rattle.net_core.specs.Working.{HasWorked}
use Rattle.net_core.specs.inside.Rests.{AreStill}
use Rattle.net_core.specs.inside.Runs.{spread}
use Rattle.net_core.proofs.RoundDone.{has_worked}
use Rattle.net_core.proofs.StillRests.{still_rests, turns_grow}
use Rattle.net_core.proofs.net.Net.round.Goals as goal

pub overflow_add-events : goal.overflow_add-events
overflow_add-events g c =
    let inside = c.self.inside in
    let few : inside.events + c.args.quota * length inside.parts.sites.items < 2 ^ 32 - 1 =
    subst (λ (v : NetParts). v.events + c.args.quota * length v.net.sites < 2 ^ 32 - 1)
    (sym c.self.view_is) c.requires.few in
    let within : length c.in-Ok.journal ≤ c.args.quota * length inside.parts.sites.items =
    c.in-Ok.ensures.round.within in
    let count : c.len.result ≡ length c.in-Ok.journal = c.len.ensures.count in
    omega arith

pub invariant_of-net : goal.invariant_of-net
invariant_of-net g c =
    let inside = c.self.inside in
    let few : inside.events + c.args.quota * length inside.parts.sites.items < 2 ^ 32 - 1 =
    subst (λ (v : NetParts). v.events + c.args.quota * length v.net.sites < 2 ^ 32 - 1)
    (sym c.self.view_is) c.requires.few in
    let old = net_of inside.code.seen inside.parts in
    let new = net_of inside.code.seen c.round_by.new.parts in
    let done = c.in-Ok.ensures.round in
    record {
      net = record {
        whole = subst (λ (k : ℕ). IsWhole inside.code c.round_by.new.parts (inside.events + k))
            (sym c.len.ensures.count) (done.whole inside.events few c.self.invariant.net.whole);
        sent = c.in-Ok.ensures.sent.many;
      };
      rests = still_rests inside.code old new inside.asked.items c.keep_asked.new.asked.items
          (turns_grow inside.code c.args.quota (numbers old) (length old.packets) old new
          c.in-Ok.journal done.turns)
          done.tree
          (subst (λ (ss : List Site). AreStill ss inside.asked.items c.keep_asked.new.asked.items)
          c.as_slice.ensures.value c.keep_asked.ensures) c.self.invariant.rests;
      quiet = c.in-Ok.ensures.idle;
    }

pub returns-in-Ok : goal.returns-in-Ok
returns-in-Ok g c =
    let inside = c.self.inside in
    let done = c.in-Ok.ensures.round in
    let old : NetParts = record {
      code = inside.code;
      net = net_of inside.code.seen inside.parts;
      froms = spread inside.senders.items;
      events = inside.events;
    } in
    let new : NetParts = record {
      code = inside.code;
      net = net_of inside.code.seen c.round_by.new.parts;
      froms = spread c.round_by.new.senders.items;
      events = inside.events + c.len.result;
    } in
    subst (λ (v : NetParts). HasWorked c.args.quota v c.in-Ok.journal new) c.self.view_is
    (has_worked old new
    c.args.quota inside.events c.in-Ok.journal c.self.invariant.net.whole.running
    done.turns refl (ap (λ (k : ℕ). inside.events + k) c.len.ensures.count)
    done.within done.tree done.sites c.in-Ok.ensures.sent.turns)
