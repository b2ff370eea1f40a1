use Rattle.std.proofs.Common.{◌≡◌, ◌+◌, ◌++◌, length, rules}
use Rattle.net_core.specs.inside.Slots.{IsTaken}
use Rattle.net_core.specs.declared.parts.Parts.{Parts}
use Rattle.net_core.proofs.Fitting.{on_ok_both}
use Rattle.net_core.proofs.SlotLists.{both_sent, both_counted}
use Rattle.net_core.proofs.slots.take_work.Goals as goal

pub returns : goal.returns
returns c =
    let w = c.args.work in
    let old = c.args.parts.now in
    let mid = c.send.new in
    let last = c.send-2.new in
    let new : Parts = record {
      version = old.version;
      sites = old.sites;
      tree = old.tree;
      trace = c.add_piece.new.pieces;
      flights = last.flights;
      under_way = last.under_way;
    } in
    on_ok_both (last.flights.items ≡ mid.flights.items ++ w.made.sends)
    (last.under_way ≡ mid.under_way + length w.made.sends)
    (IsTaken w old c.args.journal.now new c.append.new.self)
    c.send-2.result
    (λ flights count. record {
      version = search rules;
      sites = search rules;
      tree = search rules;
      trace = search rules;
      flights = both_sent w.on w.made.sends old.flights.items mid.flights.items
          last.flights.items c.in_ok-send.ensures.flights flights;
      count = both_counted w.on w.made.sends old.under_way mid.under_way last.under_way
          c.in_ok-send.ensures.count count;
      few = λ low. c.send-2.ensures.few;
      events = search rules;
    })
    c.send-2.ensures.flights c.send-2.ensures.count
