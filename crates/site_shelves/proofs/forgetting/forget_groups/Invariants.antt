use Rattle.std.proofs.Common.{◌≡◌, ℕ, cond, None, take}
use Rattle.std.specs.Prelude.{◌&&◌}
use Rattle.std.specs.HashMap as hash
use Rattle.chem_model.specs.declared.name.Loc.{Loc}
use Rattle.chem_model.specs.Solution.{same_loc}
use Rattle.site_shelves.specs.inside.Index.{same_key, key_of, told_of}
use Rattle.site_shelves.specs.inside.Forgotten.{has_any}
use Rattle.site_shelves.proofs.forgetting.forget_groups.Given as goal

abbrev pub invariant-loop-group : goal.invariant-loop-group
invariant-loop-group l = record {
  named : (site k : ℕ) (at : Loc)
      → hash.get same_key l.spots.marks (key_of site k at)
      ≡ cond (same_loc l.loc at && has_any (take l.group (told_of l.groups.groups)) site k at) None
      (hash.get same_key l.fn.spots.marks (key_of site k at));
  serials : l.spots.serials ≡ l.fn.spots.serials;
  next : l.spots.next ≡ l.fn.spots.next;
}
