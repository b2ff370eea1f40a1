use Rattle.std.proofs.Common.{◌≡◌, ◌∷◌, ◌++◌, ◌∙◌, List, Option, ap, sym}
use Rattle.std.specs.Option.{option_to_list}
use Rattle.site_solution.specs.declared.effects.Effects.{Effects}
use Rattle.shared_net.specs.inside.Beginning.{with_sends}
use Rattle.shared_net.proofs.preparing.add_handed.Goals as goal

pub loop-effects-preserved : goal.loop-effects-preserved
loop-effects-preserved c =
    let l = c.loop-effects in
    let rest = c.pop_front.new.self.items in
    let front : l.handed.items ≡ c.in-Some.effects ∷ rest = c.pop_front.ensures.items
    ∙ ap (λ (o : Option Effects). option_to_list o ++ rest) c.in-Some.is in
    ap (with_sends rest) c.in_ok-add_flights.ensures
    ∙ sym (ap (λ (es : List Effects). with_sends es l.mails) front) ∙ l.invariant
