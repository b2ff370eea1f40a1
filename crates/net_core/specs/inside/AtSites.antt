-- What a call does at one site of a list, or at two.
use Rattle.std.specs.Prelude.{◌≡◌, ℕ, List, true, Some, slice_get, slice_set, is_some, IsTrue}
use Rattle.chem_model.specs.declared.name.Loc.{Loc}
use Rattle.chem_model.specs.declared.name.Name.{Name}
use Rattle.chem_model.specs.declared.name.Name.TheVariants as name
use Rattle.chem_model.specs.declared.event.AtomId.{AtomId}
use Rattle.chem_model.specs.declared.event.Event.{Event}
use Rattle.chem_model.specs.Each.{Each}
use Rattle.wire_packet.specs.declared.packet.Ask.TheVariants as ask
use Rattle.wire_packet.specs.GroupFacts.{RequestParts}
use Rattle.env_store.specs.CodeParts.{CodeParts}
use Rattle.loc_tree.specs.Tree.{Tree, IsFresh}
use Rattle.net_laws.specs.Site.{Site}
use Rattle.net_laws.specs.Holding.{request_with}
use Rattle.site_solution.specs.InTree.{is_in_tree}
use Rattle.site_solution.specs.InCode.{is_in_code}
use Rattle.site_solution.specs.Draws.{all_drawn}
use Rattle.site_solution.specs.declared.effects.Effects.{Effects}
use Rattle.reducer.specs.declared.pick.Pick.{Pick}
use Rattle.reducer.specs.Picks.{Picked, Fires}
use Rattle.reducer.specs.Fronts.{event_of}
use Rattle.reducer.specs.Reacted.{Reacts, StaysFit}
use Rattle.failure.specs.Halts.{can_halt, IsHalt}
use Rattle.failure.specs.Deaths.{dead_for}
use Rattle.failure.specs.Detects.{IsDetection}
use Rattle.migration.specs.Moves.{can_go}
use Rattle.migration.specs.Within.{leads_into, IsMoveWithin}
use Rattle.migration.specs.Across.{can_join, IsMoveBetween}

-- each site meets what its calls need, but that its count may have reached 2^63
pub record AllStayFit (c : CodeParts) (t : Tree) (sites : List Site) : Type 0 where
  pub in_tree : Each (λ (s : Site). IsTrue (is_in_tree t s)) sites
  pub in_code : Each (λ (s : Site). IsTrue (is_in_code c t s)) sites
  pub drawn : Each (λ (s : Site). IsTrue (all_drawn s)) sites
  pub fresh : Each (λ (s : Site). IsFresh t s.number s.made) sites

-- ---- reactions

-- the site with this number may make the reaction of the pick
pub record MayReactAt (c : CodeParts) (t : Tree) (sites : List Site) (i : ℕ) (p : Pick) : Type 0
  where
    pub site : Site
    pub site_is : slice_get sites i ≡ Some site
    pub pick : Picked
    pub fires : Fires c t site p pick

-- the site makes it, with this event and these effects
pub record ReactsAt (c : CodeParts) (t : Tree) (i : ℕ) (p : Pick) (s : Site) (x : Picked)
    (old new : List Site) (ev : Event) (e : Effects) : Type 0 where
  pub after : Site
  pub reacts : Reacts c t s p x after e
  pub event : ev ≡ event_of p x
  pub sites : new ≡ slice_set old i after
  pub fit : StaysFit c t s.number after e

-- ---- halts

pub record MayHaltAt (t : Tree) (sites : List Site) (i : ℕ) (a : AtomId) : Type 0 where
  pub site : Site
  pub site_is : slice_get sites i ≡ Some site
  pub can : can_halt t a site ≡ true

pub record HaltsAt (t u : Tree) (i : ℕ) (a : AtomId) (s : Site) (old new : List Site) : Type 0 where
  pub after : Site
  pub halts : IsHalt a t s u after
  pub sites : new ≡ slice_set old i after

-- ---- detections

pub record MayDetectAt (t : Tree) (sites : List Site) (i : ℕ) (a : AtomId) : Type 0 where
  pub site : Site
  pub site_is : slice_get sites i ≡ Some site
  pub can : is_some (dead_for t a site) ≡ true

pub record DetectsAt (seen : List ℕ) (t : Tree) (i : ℕ) (a : AtomId) (s : Site)
    (old new : List Site) (e : Effects) : Type 0 where
  pub after : Site
  pub detects : IsDetection seen a t s after e
  pub sites : new ≡ slice_set old i after

-- ---- moves, where a location may move or in version 2 fall

-- to a location that the site itself hosts
pub record MayMoveAt (version : ℕ) (t : Tree) (sites : List Site) (i : ℕ) (a : AtomId) : Type 0
  where
    pub site : Site
    pub site_is : slice_get sites i ≡ Some site
    pub can : can_go version t a site ≡ true
    pub hosted : leads_into a site site ≡ true

pub record MovesAt (seen : List ℕ) (t u : Tree) (i : ℕ) (a : AtomId) (s : Site)
    (old new : List Site) (e : Effects) : Type 0 where
  pub after : Site
  pub moves : IsMoveWithin seen a t s u after e
  pub sites : new ≡ slice_set old i after

-- to a location that another one hosts
pub record MayCrossAt (version : ℕ) (t : Tree) (sites : List Site) (i j : ℕ) (a : AtomId) : Type 0
  where
    pub from : Site
    pub into : Site
    pub from_is : slice_get sites i ≡ Some from
    pub into_is : slice_get sites j ≡ Some into
    pub away : i ≡ j → ⊥
    pub can : can_go version t a from ≡ true
    pub hosted : leads_into a from into ≡ true
    pub joins : can_join a from into ≡ true

pub record CrossesAt (seen : List ℕ) (t u : Tree) (i j : ℕ) (a : AtomId) (from into : Site)
    (old new : List Site) (e : Effects) : Type 0 where
  pub left : Site
  pub after : Site
  pub moves : IsMoveBetween seen a t from into u left after e
  pub sites : new ≡ slice_set (slice_set old i left) j after

-- to wherever the request leads
pub record MayGoAt (version : ℕ) (t : Tree) (sites : List Site) (i : ℕ) (a : AtomId) : Type 0 where
  pub site : Site
  pub site_is : slice_get sites i ≡ Some site
  pub can : can_go version t a site ≡ true

-- the site with this number has a request to go to a location
pub record HasGoal (sites : List Site) (i : ℕ) (a : AtomId) (target : Loc) : Type 0 where
  pub site : Site
  pub site_is : slice_get sites i ≡ Some site
  pub request : RequestParts
  pub here : request_with a site.requests ≡ Some request
  pub cont : Name
  pub asks : request.ask ≡ ask.Go (name.Place target) cont
