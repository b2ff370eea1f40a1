-- Events that are proposed at a desk: what the calls that make an event come to.
use Rattle.std.specs.Prelude.{◌≡◌, ◌↔◌, ◌⊎◌, Bool, true, IsTrue}
use Rattle.chem_model.specs.declared.event.AtomId.{AtomId}
use Rattle.chem_model.specs.declared.event.Event.{Event}
use Rattle.chem_model.specs.declared.event.Event.TheVariants as event
use Rattle.env_store.specs.CodeParts.{CodeParts}
use Rattle.loc_tree.specs.Tree.{Tree}
use Rattle.net_laws.specs.Site.{Site}
use Rattle.reducer.specs.declared.pick.Pick.{Pick}
use Rattle.site_turn.specs.declared.next.Chosen.{Chosen}
use Rattle.site_turn.specs.declared.next.Chosen.TheVariants as chosen
use Rattle.site_turn.specs.declared.turn.Made.{Made}
use Rattle.site_turn.specs.declared.turn.Turn.{Turn}
use Rattle.site_turn.specs.After.{IsEventOf, FitsHere, FitsAcross, AfterPick, AfterChosen}
use Rattle.site_turn.specs.After.{AfterCrossing}

-- what the desk may answer to an event that fits or not, from the desk and what the worker carries
-- to both as they are then
module _ {D P : Type 0} (decides : D → P → Event → Bool → Turn → D → P → Type 0) where
  -- the reaction of the pick was proposed, and made where the answer says so
  pub record ProposesPick (c : CodeParts) (t : Tree) (s : Site) (p : Pick) (desk : D)
      (carried : P) (made : Made) (new : Site) (after : D) (carries : P) : Type 0 where
    pub event : Event
    pub event_is : IsEventOf c s (chosen.Pick p) event
    pub decided : decides desk carried event true made.turn after carries
    pub site : AfterPick c t s p made.turn new made.effects

  -- the event of what the site chose was
  pub record ProposesChosen (c : CodeParts) (t : Tree) (s : Site) (x : Chosen) (desk : D)
      (carried : P) (made : Made) (u : Tree) (new : Site) (after : D) (carries : P)
      : Type 0 where
    pub event : Event
    pub event_is : IsEventOf c s x event
    pub fits : Bool
    pub fits_is : IsTrue fits ↔ FitsHere s event
    pub decided : decides desk carried event fits made.turn after carries
    pub does : AfterChosen c t s x made.turn u new made.effects

  -- the move of the request to the second site was
  pub record ProposesMove (c : CodeParts) (t : Tree) (from into : Site) (a : AtomId) (desk : D)
      (carried : P) (made : Made) (u : Tree) (left new : Site) (after : D) (carries : P)
      : Type 0 where
    pub fits : Bool
    pub fits_is : IsTrue fits ↔ FitsAcross c t from into a
    pub decided : decides desk carried (event.Move a) fits made.turn after carries
    pub does : AfterCrossing made.turn c.seen t from into a u left new made.effects

  -- such an event was proposed
  pub record HasProposed (Is : Event → Type 0) (desk : D) (carried : P) (after : D)
      (carries : P) : Type 0 where
    pub event : Event
    pub event_is : Is event
    pub fits : Bool
    pub turn : Turn
    pub decided : decides desk carried event fits turn after carries

  -- on want of memory: nothing was proposed, and the desk and what the worker carries are as they
  -- were, or such an event was
  abbrev pub MayHaveProposed :
      (D → D → Type 0) → (Event → Type 0) → D → P → D → P → Type 0
  MayHaveProposed keeps Is desk carried after carries =
      (keeps desk after × (carries ≡ carried)) ⊎ HasProposed Is desk carried after carries
