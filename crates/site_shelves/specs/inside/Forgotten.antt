-- What is left of an index where a location leaves.
use Rattle.std.specs.Prelude.{ℕ, Bool, cond, List, [], ◌∷◌}
use Rattle.std.specs.List.{list_any}
use Rattle.chem_model.specs.declared.name.Loc.{Loc}
use Rattle.chem_model.specs.Solution.{same_loc}
use Rattle.net_laws.specs.Site.{Told}
use Rattle.site_shelves.specs.inside.Index.{has_channel}

-- one of these groups has this channel
abbrev pub has_any : List Told → ℕ → ℕ → Loc → Bool
has_any ds site k home = list_any (λ (d : Told). has_channel d site k home) ds

-- the serials of the groups that don't stand at the location
abbrev pub serials_but : Loc → List ℕ → List Told → List ℕ
serials_but l [] ds = []
serials_but l (s ∷ ss) [] = []
serials_but l (s ∷ ss) (d ∷ ds) =
    cond (same_loc l d.inst.loc) (serials_but l ss ds) (s ∷ serials_but l ss ds)
