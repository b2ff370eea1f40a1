-- When the groups of a site are those of a code's levels.
use Rattle.std.specs.Prelude.{ℕ, Bool, false, ◌&&◌, ◌==◌, List, Option, Some, None}
use Rattle.std.specs.Prelude.{slice_get, length, is_some, zip}
use Rattle.std.specs.List.{list_all}
use Rattle.chem_model.specs.declared.name.Loc.{Loc}
use Rattle.env_store.specs.declared.code.Level.{Level}
use Rattle.env_store.specs.CodeParts.{CodeParts}
use Rattle.loc_tree.specs.Tree.{Tree, spot}
use Rattle.net_laws.specs.Site.{Told, Site, told_in}

abbrev pub same_pairs : List (ℕ × ℕ) → Bool
same_pairs ps = list_all (λ (p : ℕ × ℕ). p.0 == p.1) ps

abbrev pub same_counts : List ℕ → List ℕ → Bool
same_counts ns ms = (length ns == length ms) && same_pairs (zip ns ms)

-- the level has the counts and the guards that are told, and its environments have this length
abbrev pub is_level_of : Option Level → Told → Bool
is_level_of None d = false
is_level_of (Some v) d =
    same_counts v.counts d.counts && ((v.guards == d.guards) && (v.depth == length d.inst.env))

abbrev pub is_told_by : CodeParts → Told → Bool
is_told_by c d = is_level_of (slice_get c.levels d.inst.level) d

-- each group is of a level of the code, and each location of the code's `tops` is in the tree
abbrev pub is_in_code : CodeParts → Tree → Site → Bool
is_in_code c t s =
    list_all (is_told_by c) (told_in s.groups)
    && list_all (λ (l : Loc). is_some (spot t l)) c.tops
