use Rattle.std.proofs.Common.{◌≡◌, drop}
use Rattle.std.specs.Prelude.{is_some}
use Rattle.std.specs.List.{list_all}
use Rattle.chem_model.specs.declared.name.Loc.{Loc}
use Rattle.loc_tree.specs.Tree.{spot}
use Rattle.site_solution.proofs.site.tops_are_there.Given as goal

abbrev pub invariant-loop-loc : goal.invariant-loop-loc
invariant-loop-loc l = list_all (λ (x : Loc). is_some (spot l.tree x)) (drop l.loc-index l.tops)
    ≡ list_all (λ (x : Loc). is_some (spot l.tree x)) l.tops
