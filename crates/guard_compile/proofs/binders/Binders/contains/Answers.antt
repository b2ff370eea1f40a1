use Rattle.std.proofs.Common.{ap, ◌∙◌}
use Rattle.std.specs.Prelude.{is_some}
use Rattle.guard_compile.proofs.Positions.{among_placed}
use Rattle.guard_compile.proofs.binders.Binders.contains.Goals as goal

pub returns : goal.returns
returns c =
    c.is_some.ensures ∙ ap is_some c.place.ensures ∙ among_placed 0 c.args.self.now c.args.binder
