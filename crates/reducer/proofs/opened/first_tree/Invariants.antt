use Rattle.std.proofs.Common.{◌≡◌, ◌<◌, length, drop}
use Rattle.chem_model.specs.Each.{Each}
use Rattle.chem_model.specs.declared.name.Loc.{Loc}
use Rattle.loc_tree.specs.Tree.{unmarked_roots, bare}
use Rattle.net_laws.specs.Opened.{with_tops}
use Rattle.reducer.proofs.opened.first_tree.Given as goal

abbrev pub invariant-loop-loc : goal.invariant-loop-loc
invariant-loop-loc l = record {
  all :
      with_tops (bare l.tree) (drop l.loc-index l.code.tops)
      ≡ with_tops (unmarked_roots (length l.code.sites)) l.code.tops;
  roots : l.tree.roots ≡ length l.code.sites;
  low : Each (λ (x : Loc). x.site < length l.code.sites) (drop l.loc-index l.code.tops);
}
