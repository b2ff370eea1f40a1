use Rattle.std.proofs.Common.{ap, sym, ◌∙◌}
use Rattle.sort_check.specs.inside.Told.{in_map}
use Rattle.sort_check.proofs.Told.{named, found}
use Rattle.sort_check.proofs.uses.Uses.find.Goals as goal

pub returns-in-Some : goal.returns-in-Some
returns-in-Some c = ap named (sym c.in-Some.is ∙ c.copied.ensures ∙ c.get.ensures.value)
    ∙ found c.args.text.now c.self.inside.sorts.entries
    ∙ ap (λ m. in_map m c.args.text.now) c.self.view_is

pub returns-in-None : goal.returns-in-None
returns-in-None c = ap named (sym c.in-None.is ∙ c.copied.ensures ∙ c.get.ensures.value)
    ∙ found c.args.text.now c.self.inside.sorts.entries
    ∙ ap (λ m. in_map m c.args.text.now) c.self.view_is
