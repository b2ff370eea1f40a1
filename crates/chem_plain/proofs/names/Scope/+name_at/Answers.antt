-- A binder without a name further out has the one of its own level.
use Rattle.std.proofs.Common.{ap, sym, ◌∙◌}
use Rattle.chem_model.specs.Fill.{name_at}
use Rattle.chem_plain.specs.inside.Names.{or_name, levels_around, names_of}
use Rattle.chem_plain.proofs.Finds.{in_both}
use Rattle.chem_plain.proofs.names.Scope.+name_at.Goals as goal

pub returns-in-Some-name_at : goal.returns-in-Some-name_at
returns-in-Some-name_at t c =
    let m = c.self.inside.entries.now in
    let b = c.args.binder in
    let within = ap (levels_around m) (sym c.in-Some.is) ∙ c.self.view_is in
    ap (λ o. or_name o (name_at m b)) (sym c.in-Some-name_at.is ∙ c.name_at.ensures)
    ∙ sym (in_both (names_of c.in-Some.outer.now) m b)
    ∙ ap (λ ms. name_at (names_of ms) b) within

pub returns-in-None-name_at : goal.returns-in-None-name_at
returns-in-None-name_at t c =
    let m = c.self.inside.entries.now in
    let b = c.args.binder in
    let within = ap (levels_around m) (sym c.in-Some.is) ∙ c.self.view_is in
    c.find.ensures
    ∙ ap (λ o. or_name o (name_at m b)) (sym c.in-None-name_at.is ∙ c.name_at.ensures)
    ∙ sym (in_both (names_of c.in-Some.outer.now) m b)
    ∙ ap (λ ms. name_at (names_of ms) b) within
