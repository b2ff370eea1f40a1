use Rattle.std.proofs.Common.{◌≡◌, ◌∙◌, length, arith, subst, ap, Some}
use Rattle.std.specs.Prelude.{slice_get}
use Rattle.env_store.specs.CodeParts.{CodeParts}
use Rattle.env_store.specs.CodeFacts.{IsCode}
use Rattle.env_store.proofs.GuardNumbers.{level_fits, reads}
use Rattle.env_store.proofs.code.Code.level.Goals as goal

pub returns-clause-fits : goal.returns-clause-fits
returns-clause-fits c =
    let view = c.self.view_is in
    let code : IsCode c.args.self.now = subst IsCode view c.self.invariant in
    let levels = c.as_slice.ensures.members ∙ ap (λ (v : CodeParts). v.levels) view in
    let guards = ap (λ (v : CodeParts). length v.guards) view in
    let level = c.index-as_slice-number.result in
    let at : slice_get c.args.self.now.levels c.args.number ≡ Some level =
    reads c.as_slice.result.now c.args.self.now.levels c.args.number level levels
    c.requires c.index-as_slice-number.is in
    level_fits c.args.self.now c.args.number level code at (omega arith) (omega (arith, guards))
