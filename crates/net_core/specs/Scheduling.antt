-- The schedule of a run in rounds: a function of the network as contracts see it.
use Rattle.std.specs.Prelude.{◌≡◌, ℕ, ◌+◌, ◌-◌, ◌/◌, ◌<◌, ◌≤◌, ◌==◌, min, cond, List, [], ◌∷◌, ◌++◌}
use Rattle.std.specs.Prelude.{Option, Some, None, length, slice_get, take}
use Rattle.std.specs.List.{range_with_len}
use Rattle.chem_model.specs.declared.event.Event.{Event}
use Rattle.chem_model.specs.ProgramFacts.{ProgramTerms, IsProgram}
use Rattle.env_store.specs.declared.code.Guard.{Guard}
use Rattle.env_store.specs.CodeParts.{CodeParts}
use Rattle.env_store.specs.CodeFacts.{IsCode}
use Rattle.env_store.specs.Reading.{IsCodeOf}
use Rattle.reducer.specs.declared.pick.Pick.{Pick}
use Rattle.reducer.specs.Ready.{IsReady}
use Rattle.net_laws.specs.Site.{Site}
use Rattle.net_laws.specs.Net.{Addressed, Net}
use Rattle.net_laws.specs.Opened.{opened_net}
use Rattle.net_core.specs.declared.choice.Choice.{Choice}
use Rattle.net_core.specs.Acting.{Reacts, Delivers}
use Rattle.net_core.specs.Choosing.{Allows, IsNext}
use Rattle.net_core.specs.Acts.{Acts}
use Rattle.net_core.specs.Asking.{asks}

-- ---- a site's turn: what was under way to it arrives

-- one place further on
abbrev pub next_place : Option ℕ → Option ℕ
next_place None = None
next_place (Some f) = Some (f + 1)

-- the place of the first of these messages that goes to the site i
abbrev pub first_to : ℕ → List Addressed → Option ℕ
first_to i [] = None
first_to i (p ∷ ps) = cond (p.target == i) (Some 0) (next_place (first_to i ps))

-- of the first `old` messages under way those to the site i are delivered, in their order; of the
-- first `old` there are then `left`
pub data Collects (i : ℕ) : ℕ → Net → ℕ → Net → Type 0 where
  all_in :
      (old : ℕ) (net : Net) → first_to i (take old net.packets) ≡ None
      → Collects i old net old net
  brings :
      (old left f : ℕ) (net mid new : Net)
      → first_to i (take old net.packets) ≡ Some f → Delivers net f mid
      → Collects i (old - 1) mid left new → Collects i old net left new

-- ---- and then it reacts

-- of the site i this reaction is ready
pub record IsReadyAt (c : CodeParts) (net : Net) (i : ℕ) (p : Pick) : Type 0 where
  pub site : Site
  pub site_is : slice_get net.sites i ≡ Some site
  pub ready : IsReady c net.tree site p

-- how many locations the reaction opens
abbrev pub births_or : Option Guard → ℕ
births_or None = 0
births_or (Some guard) = guard.births

abbrev pub births_of : CodeParts → Pick → ℕ
births_of c p = births_or (slice_get c.guards p.guard)

-- none is ready at the site i but one that opens a location
abbrev pub ReadyOpens : CodeParts → Net → ℕ → Type 0
ReadyOpens c net i = (p : Pick) → IsReadyAt c net i p → 0 < births_of c p

-- none is ready there that opens one
abbrev pub ReadyOpensNone : CodeParts → Net → ℕ → Type 0
ReadyOpensNone c net i = (p : Pick) → IsReadyAt c net i p → births_of c p ≡ 0

-- reactions of the site i, each the one that is ready, until the quota is used up, or none is ready
-- but one that opens a location
pub data ReactsUpTo (c : CodeParts) (i : ℕ) : ℕ → Net → List Event → Net → Type 0 where
  used_up : (net : Net) → ReactsUpTo c i 0 net [] net
  rests : (quota : ℕ) (net : Net) → ReadyOpens c net i → ReactsUpTo c i quota net [] net
  reacts :
      (quota : ℕ) (net mid new : Net) (p : Pick) (e : Event) (es : List Event)
      → 0 < quota → IsReadyAt c net i p → births_of c p ≡ 0
      → Reacts c net i p.group p.guard e mid → ReactsUpTo c i (quota - 1) mid es new
      → ReactsUpTo c i quota net (e ∷ es) new

-- a turn of the site i: its events, and how many of the first `old` messages it leaves
pub record IsTurn (c : CodeParts) (quota i old : ℕ) (net : Net) (left : ℕ) (es : List Event)
    (new : Net) : Type 0 where
  pub mid : Net
  pub collects : Collects i old net left mid
  pub reacts : ReactsUpTo c i quota mid es new

-- these sites have their turns, one after another
pub data AreTurns (c : CodeParts) (quota : ℕ)
    : List ℕ → ℕ → Net → List Event → Net → Type 0 where
  no_site : (old : ℕ) (net : Net) → AreTurns c quota [] old net [] net
  a_site :
      (i : ℕ) (others : List ℕ) (old left : ℕ) (net mid new : Net) (es more : List Event)
      → IsTurn c quota i old net left es mid → AreTurns c quota others left mid more new
      → AreTurns c quota (i ∷ others) old net (es ++ more) new

-- ---- what comes after the turns

module _ {X : Type 0} (Makes : Net → X → Event → Net → Type 0) (Passes : Net → X → Type 0) where
  -- each of these is made, or passed by, as the network is at its turn, while budget is left
  pub data InTurn : ℕ → List X → Net → List Event → Net → Type 0 where
    spent : (xs : List X) (net : Net) → InTurn 0 xs net [] net
    no_more : (left : ℕ) (net : Net) → InTurn left [] net [] net
    passes :
        (left : ℕ) (x : X) (xs : List X) (net new : Net) (es : List Event)
        → 0 < left → Passes net x → InTurn left xs net es new → InTurn left (x ∷ xs) net es new
    makes :
        (left : ℕ) (x : X) (xs : List X) (net mid new : Net) (e : Event) (es : List Event)
        → 0 < left → Makes net x e mid → InTurn (left - 1) xs mid es new
        → InTurn left (x ∷ xs) net (e ∷ es) new

-- the reaction that is ready at the site i, and opens a location
pub record Opens (c : CodeParts) (net : Net) (i : ℕ) (e : Event) (new : Net) : Type 0 where
  pub pick : Pick
  pub ready : IsReadyAt c net i pick
  pub some : 0 < births_of c pick
  pub reacts : Reacts c net i pick.group pick.guard e new

-- the choice, with its event
abbrev pub Meets : CodeParts → Net → Choice → Event → Net → Type 0
Meets c net x e new = Acts c net x (Some e) new

-- it is not enabled
abbrev pub Forbids : CodeParts → Net → Choice → Type 0
Forbids c net x = Allows c net x → ⊥

-- ---- a round

-- the numbers of the sites
abbrev pub numbers : Net → List ℕ
numbers net = range_with_len 0 (length net.sites)

-- with `budget` events left, of which each site may make an equal share, and 64 at most: each site
-- has its turn; then each site makes the reaction that is ready there, if that opens a location;
-- and then each request that stands at that moment is met, in the order of their ids, where it can
-- be
pub record IsRound (c : CodeParts) (budget : ℕ) (net : Net) (es : List Event) (new : Net)
    : Type 0 where
  pub worked : List Event
  pub after_work : Net
  pub turns :
      AreTurns c (min 64 (budget / length net.sites)) (numbers net) (length net.packets) net
      worked after_work
  pub opened : List Event
  pub after_opening : Net
  pub opens :
      InTurn (Opens c) (ReadyOpensNone c) (budget - length worked) (numbers net) after_work
      opened after_opening
  pub asked : List Event
  pub meets :
      InTurn (Meets c) (Forbids c) (budget - length worked - length opened)
      (asks after_opening) after_opening asked new
  pub events : es ≡ worked ++ (opened ++ asked)

-- ---- a run in rounds

-- one choice after another, each the one that comes next, until the budget is used up or none is
-- enabled
pub data GoesOn (c : CodeParts) : ℕ → Net → List Event → Net → Type 0 where
  all_spent : (net : Net) → GoesOn c 0 net [] net
  none_enabled :
      (budget : ℕ) (net : Net) → ((x : Choice) → Allows c net x → ⊥) → GoesOn c budget net [] net
  commits :
      (budget : ℕ) (net mid new : Net) (x : Choice) (e : Event) (es : List Event)
      → 0 < budget → IsNext c net x → Acts c net x (Some e) mid
      → GoesOn c (budget - 1) mid es new → GoesOn c budget net (e ∷ es) new
  carries :
      (budget : ℕ) (net mid new : Net) (x : Choice) (es : List Event)
      → 0 < budget → IsNext c net x → Acts c net x None mid
      → GoesOn c budget mid es new → GoesOn c budget net es new

-- rounds, until one makes no event and leaves nothing under way. Where the budget has less than one
-- event for each site, the rest is made one choice after another
pub data AreRounds (c : CodeParts) : ℕ → Net → List Event → Net → Type 0 where
  few_left :
      (budget : ℕ) (net new : Net) (es : List Event)
      → budget < length net.sites → GoesOn c budget net es new → AreRounds c budget net es new
  last_round :
      (budget : ℕ) (net new : Net)
      → length net.sites ≤ budget → IsRound c budget net [] new → new.packets ≡ []
      → AreRounds c budget net [] new
  one_round :
      (budget : ℕ) (net mid new : Net) (es more : List Event)
      → length net.sites ≤ budget → IsRound c budget net es mid
      → (es ≡ [] → mid.packets ≡ [] → ⊥) → AreRounds c (budget - length es) mid more new
      → AreRounds c budget net (es ++ more) new

-- the schedule of the rounds of a program's code, of this version: its events, and the network in
-- the end
abbrev pub ScheduleOfRounds : ℕ → CodeParts → ℕ → List Event → Net → Type 0
ScheduleOfRounds version c budget es end = AreRounds c budget (opened_net version c) es end

-- a program's code has at most one for each budget
abbrev pub SchedulesOfRoundsAreOne : Type 0
SchedulesOfRoundsAreOne =
    (p : ProgramTerms) (c : CodeParts) → IsProgram p → IsCode c → IsCodeOf p c
    → (budget : ℕ) (es other : List Event) (end last : Net)
    → ScheduleOfRounds p.version c budget es end → ScheduleOfRounds p.version c budget other last
    → (es ≡ other) × (end ≡ last)

-- and it has one for each
abbrev pub HasOneScheduleOfRounds : Type 0
HasOneScheduleOfRounds =
    (p : ProgramTerms) (c : CodeParts) → IsProgram p → IsCode c → IsCodeOf p c
    → (budget : ℕ) → (es : List Event) × (end : Net) × ScheduleOfRounds p.version c budget es end
    × ((other : List Event) (last : Net)
    → ScheduleOfRounds p.version c budget other last → (other ≡ es) × (last ≡ end))
