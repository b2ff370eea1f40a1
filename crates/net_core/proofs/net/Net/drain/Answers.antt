use Rattle.std.proofs.Common.{◌≡◌, ◌∙◌, List, length, refl, sym, ap, subst, arith}
use Rattle.net_core.specs.declared.drained.FlightFrom.{FlightFrom}
use Rattle.net_core.specs.declared.parts.Parts.{Parts}
use Rattle.net_core.specs.Drained.{AreHandedOut}
use Rattle.net_core.specs.Parts.{net_of}
use Rattle.net_core.specs.Whole.{NetParts}
use Rattle.net_core.specs.inside.Pairing.{paired}
use Rattle.net_core.specs.inside.Runs.{spread}
use Rattle.net_core.proofs.StillRests.{rests_by}
use Rattle.net_core.proofs.Taken.{AreDrained, drained_both, are_handed_out}
use Rattle.net_core.proofs.net.Net.drain.Goals as goal

pub invariant_of-self : goal.invariant_of-self
invariant_of-self c =
    let old = c.self.inside.parts in
    let new : Parts = record {
      version = old.version;
      sites = old.sites;
      tree = old.tree;
      trace = old.trace;
      flights = c.replace-flights.new.dest;
      under_way = 0;
    } in
    let drained : AreDrained old new = record {
      version = refl;
      sites = refl;
      tree = refl;
      trace = refl;
      flights = ap (λ fs. fs.items) c.replace-flights.ensures.after ∙ c.new.ensures.items;
      under_way = refl;
    } in
    record {
      net = drained_both c.self.inside.code old new c.self.inside.senders.items
          c.replace-senders.new.dest.items c.self.inside.events c.self.invariant.net drained
          (ap (λ rs. rs.items) c.replace-senders.ensures.after ∙ c.new-2.ensures.items);
      rests = rests_by c.self.inside.code (net_of c.self.inside.code.seen old)
          (net_of c.self.inside.code.seen new) c.self.inside.asked.items refl refl refl
          c.self.invariant.rests;
      quiet = c.self.invariant.quiet;
    }

pub invariant_of-result : goal.invariant_of-result
invariant_of-result c = omega (
  arith,
  ap (λ fs. length fs.items) c.replace-flights.ensures.value,
  ap (λ rs. length (spread rs.items)) c.replace-senders.ensures.value,
  c.self.invariant.net.sent,
  c.self.invariant.net.whole.flying.counted,
)

pub returns : goal.returns
returns c =
    let code = c.self.inside.code in
    let old = c.self.inside.parts in
    let new : Parts = record {
      version = old.version;
      sites = old.sites;
      tree = old.tree;
      trace = old.trace;
      flights = c.replace-flights.new.dest;
      under_way = 0;
    } in
    let drained : AreDrained old new = record {
      version = refl;
      sites = refl;
      tree = refl;
      trace = refl;
      flights = ap (λ fs. fs.items) c.replace-flights.ensures.after ∙ c.new.ensures.items;
      under_way = refl;
    } in
    let after : NetParts = record {
      code = code;
      net = net_of code.seen new;
      froms = spread c.replace-senders.new.dest.items;
      events = c.self.inside.events;
    } in
    let handed : paired c.replace-flights.result.items (spread c.replace-senders.result.items)
    ≡ paired old.flights.items (spread c.self.inside.senders.items) =
    λ i. paired (c.replace-flights.ensures.value i).items
    (spread (c.replace-senders.ensures.value i).items) in
    let none = ap (λ rs. rs.items) c.replace-senders.ensures.after ∙ c.new-2.ensures.items in
    subst (λ (v : NetParts).
    AreHandedOut v (paired c.replace-flights.result.items (spread c.replace-senders.result.items))
    after) c.self.view_is
    (subst (λ (fs : List FlightFrom). AreHandedOut (record {
      code = code;
      net = net_of code.seen old;
      froms = spread c.self.inside.senders.items;
      events = c.self.inside.events;
    }) fs after) (sym handed)
    (are_handed_out code old new c.self.inside.senders.items c.replace-senders.new.dest.items
    c.self.inside.events c.self.invariant.net drained none))
