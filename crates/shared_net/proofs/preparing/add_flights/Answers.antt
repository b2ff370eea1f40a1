use Rattle.std.proofs.Common.{◌≡◌, ◌∷◌, ◌∙◌, List, length, ap, sym, rules, arith}
use Rattle.std.proofs.lemmas.List.{nil_from_length}
use Rattle.std.specs.Vec.Iter.{into_iter_items}
use Rattle.wire_packet.specs.declared.packet.Flight.{Flight}
use Rattle.shared_net.specs.inside.Beginning.{with_flights}
use Rattle.shared_net.proofs.preparing.add_flights.Goals as goal

pub loop-flight-init : goal.loop-flight-init
loop-flight-init c = ap (λ (fs : List Flight). with_flights fs c.args.mails.now)
    (c.into_iter-flight-iterator.ensures.into_iter_gives.0
    ∙ c.into_vec-flight-items.ensures.members)

pub loop-flight-preserved : goal.loop-flight-preserved
loop-flight-preserved c =
    let l = c.loop-flight in
    let rest = into_iter_items c.next.new.self in
    let items : into_iter_items l.flight-iterator ≡ c.in-Some.flight ∷ rest = search rules in
    ap (with_flights rest) c.in_ok-add_text.ensures
    ∙ sym (ap (λ (fs : List Flight). with_flights fs l.mails) items) ∙ l.invariant

pub returns : goal.returns
returns c =
    let l = c.loop-flight in
    let end : length (into_iter_items l.flight-iterator) ≡ 0 =
    omega (arith, l.flight-iterator.rest.ok, c.in-None.ensures.steps.0) in
    let none = nil_from_length (into_iter_items l.flight-iterator) end in
    sym (ap (λ (fs : List Flight). with_flights fs l.mails) none) ∙ l.invariant
