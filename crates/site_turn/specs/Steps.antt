-- What the two parts of a turn at a site come to: with the tree lent to be read, and to be changed.
use Rattle.std.specs.Prelude.{◌≡◌, ◌≢◌, ◌⊎◌, ℕ, Bool, cond, List}
use Rattle.chem_model.specs.declared.event.AtomId.{AtomId}
use Rattle.chem_model.specs.declared.event.Event.{Event}
use Rattle.wire_packet.specs.declared.packet.Flight.{Flight}
use Rattle.env_store.specs.CodeParts.{CodeParts}
use Rattle.loc_tree.specs.Tree.{Tree}
use Rattle.net_laws.specs.Site.{Site}
use Rattle.reducer.specs.declared.pick.Pick.{Pick}
use Rattle.site_turn.specs.declared.next.Chosen.{Chosen}
use Rattle.site_turn.specs.declared.next.Chosen.TheVariants as chosen
use Rattle.site_turn.specs.declared.turn.Made.{Made}
use Rattle.site_turn.specs.declared.turn.Turn.{Turn}
use Rattle.site_turn.specs.declared.turn.Turn.TheVariants.{Did, Passed, Nothing, NotEnabled, Full}
use Rattle.site_turn.specs.declared.stepping.Step.{Step}
use Rattle.site_turn.specs.declared.stepping.Step.TheVariants as step
use Rattle.site_turn.specs.declared.stepping.WideStep.{WideStep}
use Rattle.site_turn.specs.declared.stepping.WideStep.TheVariants as wide
use Rattle.site_turn.specs.Arriving.{Arrives}
use Rattle.site_turn.specs.Next.{ChoosesPick, Chooses, OpensNone, IsToGo}
use Rattle.site_turn.specs.Desk.{ProposesPick, ProposesChosen}

-- what a turn answers whose event came to this, where a message of its mail went on or not
abbrev pub passed_or : Turn → Bool → Turn
passed_or (Did place) passed = Did place
passed_or Passed passed = Passed
passed_or Nothing passed = cond passed Passed Nothing
passed_or NotEnabled passed = NotEnabled
passed_or Full passed = Full

-- any event at all
abbrev pub IsAny : Event → Type 0
IsAny e = Unit {0}

-- neither the site nor the desk nor what the worker carries has changed
pub record AreSame {D P : Type 0} (s : Site) (desk : D) (carried : P) (new : Site) (after : D)
    (carries : P) : Type 0 where
  pub site : new ≡ s
  pub desk_is : after ≡ desk
  pub carried_is : carries ≡ carried

module _ {D P : Type 0} (decides : D → P → Event → Bool → Turn → D → P → Type 0) where
  -- ---- the tree stays

  -- the site chose a reaction that opens no location, and it was proposed
  pub record EndsHere (c : CodeParts) (t : Tree) (s : Site) (desk : D) (carried : P)
      (turn : Turn) (new : Site) (after : D) (carries : P) : Type 0 where
    pub pick : Pick
    pub chooses : ChoosesPick c t s pick
    pub opens : OpensNone c s pick
    pub made : Made
    pub proposes : ProposesPick decides c t s pick desk carried made new after carries
    pub passed : Bool
    pub turn_is : turn ≡ passed_or made.turn passed

  -- the site chose nothing
  pub record Idles (version : ℕ) (c : CodeParts) (t : Tree) (s : Site) (desk : D)
      (carried : P) (turn : Turn) (new : Site) (after : D) (carries : P) : Type 0 where
    pub chooses : Chooses version c t s chosen.Nothing
    pub same : AreSame s desk carried new after carries
    pub passed : Bool
    pub turn_is : turn ≡ passed_or Nothing passed

  -- the site chose something else
  pub record NeedsTree (version : ℕ) (c : CodeParts) (t : Tree) (s : Site) (desk : D)
      (carried : P) (new : Site) (after : D) (carries : P) : Type 0 where
    pub choice : Chosen
    pub chooses : Chooses version c t s choice
    pub some : choice ≢ chosen.Nothing
    pub other : (p : Pick) → choice ≡ chosen.Pick p → OpensNone c s p → ⊥
    pub same : AreSame s desk carried new after carries

  abbrev pub StepsHere :
      ℕ → CodeParts → Tree → Site → D → P → Step → Site → D → P → Type 0
  StepsHere version c t s desk carried (step.Ended turn) new after carries =
      EndsHere c t s desk carried turn new after carries
      ⊎ Idles version c t s desk carried turn new after carries
  StepsHere version c t s desk carried (step.Wide passed) new after carries =
      NeedsTree version c t s desk carried new after carries

  -- the mail comes first
  pub record ActsHere (version : ℕ) (c : CodeParts) (t : Tree) (s : Site)
      (mail : List (List ℕ)) (desk : D) (carried : P) (result : Step) (new : Site) (after : D)
      (carries : P) : Type 0 where
    pub between : Site
    pub on : List Flight
    pub arrives : Arrives t s mail between on
    pub steps : StepsHere version c t between desk carried result new after carries

  -- ---- the tree may change

  -- the site chose something, and its event was proposed
  pub record EndsWide (version : ℕ) (c : CodeParts) (t : Tree) (s : Site) (desk : D)
      (carried : P) (turn : Turn) (u : Tree) (new : Site) (after : D) (carries : P)
      : Type 0 where
    pub choice : Chosen
    pub chooses : Chooses version c t s choice
    pub made : Made
    pub proposes : ProposesChosen decides c t s choice desk carried made u new after carries
    pub passed : Bool
    pub turn_is : turn ≡ passed_or made.turn passed

  -- the site chose nothing
  pub record EndsIdle (version : ℕ) (c : CodeParts) (t : Tree) (s : Site) (desk : D)
      (carried : P) (turn : Turn) (u : Tree) (new : Site) (after : D) (carries : P)
      : Type 0 where
    pub tree : u ≡ t
    pub idles : Idles version c t s desk carried turn new after carries

  -- it chose a request to go to a location that another site hosts
  pub record LeadsAway (version : ℕ) (c : CodeParts) (t : Tree) (s : Site) (desk : D)
      (carried : P) (atom : AtomId) (u : Tree) (new : Site) (after : D) (carries : P)
      : Type 0 where
    pub chooses : Chooses version c t s (chosen.Ask atom)
    pub goes : IsToGo atom s
    pub tree : u ≡ t
    pub same : AreSame s desk carried new after carries

  abbrev pub EndsWhere :
      ℕ → CodeParts → Tree → Site → D → P → Turn → Tree → Site → D → P → Type 0
  EndsWhere version c t s desk carried turn u new after carries =
      EndsWide version c t s desk carried turn u new after carries
      ⊎ EndsIdle version c t s desk carried turn u new after carries

  abbrev pub StepsWide :
      ℕ → CodeParts → Tree → Site → D → P → WideStep → Tree → Site → D → P → Type 0
  StepsWide version c t s desk carried (wide.Ended turn) u new after carries =
      EndsWhere version c t s desk carried turn u new after carries
  StepsWide version c t s desk carried (wide.Leads leading) u new after carries =
      LeadsAway version c t s desk carried leading.atom u new after carries

  pub record ActsWide (version : ℕ) (c : CodeParts) (t : Tree) (s : Site)
      (mail : List (List ℕ)) (desk : D) (carried : P) (result : WideStep) (u : Tree)
      (new : Site) (after : D) (carries : P) : Type 0 where
    pub between : Site
    pub on : List Flight
    pub arrives : Arrives t s mail between on
    pub steps : StepsWide version c t between desk carried result u new after carries
