-- When what a run made may be left at a site.
use Rattle.std.specs.Prelude.{◌≡◌, ℕ, ◌+◌, ◌≤◌, List, [], ◌∷◌, ◌++◌, true}
use Rattle.chem_model.specs.declared.name.Loc.{Loc}
use Rattle.chem_model.specs.declared.event.AtomId.{AtomId}
use Rattle.chem_model.specs.Each.{Each}
use Rattle.net_laws.specs.Site.{Told, Site, told_in}
use Rattle.net_laws.specs.Net.{among, home_or}
use Rattle.net_laws.specs.Kept.{AreApart}
use Rattle.net_laws.specs.Posting.{Posted, a_message, a_request}
use Rattle.site_shelves.specs.CanLay.{HasNumbers}
use Rattle.site_shelves.specs.Counted.{is_id, times}
pub use Rattle.site_limits.specs.Hosted.{AreNew}

-- a message on a channel stands at its home, and a request at one of these locations
abbrev pub MayStand : List Loc → Posted → Type 0
MayStand ls (a_message l m) = home_or l m.on ≡ l
MayStand ls (a_request q) = among ls q.loc ≡ true

-- how often an id occurs among what is posted
abbrev pub times_posted : AtomId → List Posted → ℕ
times_posted i [] = 0
times_posted i (a_message l m ∷ ps) = is_id i m.id + times_posted i ps
times_posted i (a_request q ∷ ps) = is_id i q.id + times_posted i ps

-- the births are new here; groups stand where they may, share no channel with each other or with
-- those here, and have numbers of 64 bits; what is posted stands where it may, and its ids are new
-- and different
pub record CanLeave (births : List Loc) (ds : List Told) (ps : List Posted)
    (s : Site) : Type 0 where
  pub births_new : AreNew s.locs births
  pub laid_here : Each (λ (d : Told). among (s.locs ++ births) d.inst.loc ≡ true) ds
  pub apart : AreApart (told_in s.groups ++ ds)
  pub numbers : Each HasNumbers ds
  pub posted : Each (MayStand (s.locs ++ births)) ps
  pub once : (i : AtomId) → times i s + times_posted i ps ≤ 1
