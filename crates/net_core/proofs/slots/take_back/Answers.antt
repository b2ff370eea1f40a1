use Rattle.std.proofs.Common.{◌≡◌, Some, refl, rules, [], ◌∷◌}
use Rattle.net_core.specs.declared.parts.Parts.{Parts}
use Rattle.net_core.specs.declared.turn.Work.{Work}
use Rattle.net_core.specs.inside.Slots.{IsTaken, AreBack}
use Rattle.net_core.proofs.Fitting.{on_ok}
use Rattle.net_core.proofs.SlotLists.{taken_back}
use Rattle.net_core.proofs.slots.take_back.Goals as goal

pub returns-in-Some : goal.returns-in-Some
returns-in-Some c =
    let s = c.args.slot in
    let w : Work = c.in-Some.work in
    let is : s.work ≡ Some w = search rules in
    let old = c.args.parts.now in
    let mid : Parts = record {
      version = old.version;
      sites = c.push.new.self;
      tree = old.tree;
      trace = old.trace;
      flights = old.flights;
      under_way = old.under_way;
    } in
    let es = c.args.journal.now in
    let new = c.take_work.new.parts in
    let fs = c.take_work.new.journal in
    on_ok (IsTaken w mid es new fs) (AreBack (s ∷ []) old es new fs) c.take_work.result
    (λ t. taken_back s w is old mid new es fs refl c.in_ok-push.ensures.items refl refl refl refl t)
    c.take_work.ensures
