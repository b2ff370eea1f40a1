-- A reaction of a site with its event.
use Rattle.std.specs.Prelude.{◌≡◌}
use Rattle.chem_model.specs.declared.event.Event.{Event}
use Rattle.env_store.specs.CodeParts.{CodeParts}
use Rattle.loc_tree.specs.Tree.{Tree}
use Rattle.net_laws.specs.Site.{Site}
use Rattle.site_solution.specs.declared.effects.Effects.{Effects}
use Rattle.reducer.specs.declared.pick.Pick.{Pick}
use Rattle.reducer.specs.Picks.{Picked, Picks}
use Rattle.reducer.specs.Fronts.{event_of}
use Rattle.reducer.specs.Reacted.{Reacts, StaysFit}

-- the reaction of a pick was made
pub record ReactsOnce (c : CodeParts) (t : Tree) (s : Site) (q : Pick) (x : Picked) (e : Event)
    (effects : Effects) (new : Site) : Type 0 where
  pub reacts : Reacts c t s q x new effects
  pub event_is : e ≡ event_of q x
  pub fit : StaysFit c t s.number new effects

abbrev pub ReactsBy : CodeParts → Tree → Site → Pick → Event → Effects → Site → Type 0
ReactsBy c t s q e effects new =
    (x : Picked) → Picks c s q x → ReactsOnce c t s q x e effects new
