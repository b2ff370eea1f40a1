use Rattle.std.proofs.Common.{◌≡◌, ◌≤◌, List, length, sym, ap, ◌∙◌, subst}
use Rattle.chem_model.specs.declared.name.Loc.{Loc}
use Rattle.env_store.specs.CodeParts.{CodeParts}
use Rattle.loc_tree.specs.Tree.{bare}
use Rattle.code_run.proofs.Runs.{drop_past}
use Rattle.net_laws.specs.Opened.{with_tops}
use Rattle.reducer.proofs.opened.first_tree.Goals as goal

pub returns : goal.returns
returns c =
    let tops = c.args.code.now.tops in
    let members : c.as_slice-loc-items.result.now ≡ tops =
    c.as_slice-loc-items.ensures.members ∙ ap (λ (x : CodeParts). x.tops) c.code.view_is in
    let past : length tops ≤ c.loop-loc.loc-index =
    subst (λ (ls : List Loc). length ls ≤ c.loop-loc.loc-index) members c.loop-loc-test.false in
    sym (ap (with_tops (bare c.loop-loc.tree)) (drop_past tops c.loop-loc.loc-index past))
    ∙ c.loop-loc.invariant.all
