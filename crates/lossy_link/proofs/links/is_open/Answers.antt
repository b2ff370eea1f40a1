use Rattle.std.proofs.Common.{false, true, ◌≡◌, refl}
use Rattle.lossy_link.proofs.links.is_open.Goals as goal

pub returns-in-Some : goal.returns-in-Some
returns-in-Some c = (λ _. (c.in-Some.field-0.now, c.in-Some.ensures.some), λ _. refl)

pub returns-in-None : goal.returns-in-None
returns-in-None c = (
  λ bad. let clash : false ≡ true = bad in absurd (cc),
  λ some. absurd (c.in-None.ensures.none some.0 some.1),
)
