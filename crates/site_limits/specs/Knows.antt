-- What a site knows of all that it holds and names.
use Rattle.std.specs.Prelude.{◌≡◌, ◌==◌, Bool, true, false, ◌&&◌, ◌||◌, nat_lt, List, slice_index}
use Rattle.chem_model.specs.declared.name.Loc.{Loc}
use Rattle.chem_model.specs.declared.name.Name.{Name}
use Rattle.net_laws.specs.Site.{Site}
use Rattle.net_laws.specs.Net.{among}
use Rattle.site_shelves.specs.Named.{names_in}
use Rattle.site_limits.specs.declared.known.Known.{Known}
use Rattle.site_limits.specs.Limits.{Limits, IsWithin, IsWider}
use Rattle.site_limits.specs.Shapes.{is_shaped}

-- a root whose site is below the number, or one of the other locations
abbrev pub is_known : Known → Loc → Bool
is_known a l = ((l.k == 0) && nat_lt l.site a.roots) || among a.named.locs l

abbrev pub limits_of : Known → Limits
limits_of a = record {
  known = is_known a;
  after = λ i. slice_index a.atoms.items i;
  drawn = a.drawn;
  shaped = is_shaped a.shapes.items;
}

-- all of the site stands within these limits, where they aren't given up
abbrev pub IsKnown : Known → Site → Type 0
IsKnown a s = a.lost ≡ false → IsWithin (limits_of a) s.number s

-- the limits are no narrower than before, and this holds of them
pub record Notes (old new : Known) (Holds : Limits → Type 0) : Type 0 where
  pub kept : old.lost ≡ false
  pub wider : IsWider (limits_of old) (limits_of new)
  pub holds : Holds (limits_of new)

abbrev pub Noted : Known → Known → (Limits → Type 0) → Type 0
Noted old new Holds = new.lost ≡ false → Notes old new Holds

-- these names stand within the limits, where they aren't given up
abbrev pub AreNoted : Known → List Name → Type 0
AreNoted a ns = a.lost ≡ false → names_in (limits_of a).known ns ≡ true
