use Rattle.std.proofs.Common.{◌≡◌, ◌<◌, List, Some, None, true, false, length, subst}
use Rattle.lossy_link.specs.declared.line.Line.{Line}
use Rattle.lossy_link.specs.Links.{HasLeast}
use Rattle.lossy_link.proofs.Filing.{least_is, no_keys, none_is_open}
use Rattle.lossy_link.proofs.lines.Lines.least_open.Goals as goal

pub returns-in-Some : goal.returns-in-Some
returns-in-Some c =
    let p = c.in-Some.pair.now in
    subst (λ (ls : List Line). HasLeast ls (Some (p.0, p.1, c.acked_of-number.result)))
    c.self.view_is (least_is c.self.inside.table.entries c.self.inside.pairs p.0 p.1
    c.acked_of-number.result c.self.invariant.open_ones c.in-Some.ensures.member
    c.in-Some.ensures.least c.acked_of-number.ensures)

pub returns-in-None : goal.returns-in-None
returns-in-None c =
    let none : 0 < length c.self.inside.pairs.keys → ⊥ =
    λ some. (let e : false ≡ true = c.in-None.ensures.variant.1 some in cc) in
    subst (λ (ls : List Line). HasLeast ls None) c.self.view_is
    (none_is_open c.self.inside.table.entries c.self.inside.pairs c.self.invariant.open_ones
    (no_keys c.self.inside.pairs.keys none))
