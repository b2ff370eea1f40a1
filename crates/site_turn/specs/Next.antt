-- What a site does next.
use Rattle.std.specs.Prelude.{◌≡◌, ℕ, Bool, true, false, ◌||◌, Some, is_some}
use Rattle.chem_model.specs.declared.name.Loc.{Loc}
use Rattle.chem_model.specs.declared.name.Name.{Name}
use Rattle.chem_model.specs.declared.name.Name.TheVariants as name
use Rattle.chem_model.specs.declared.event.AtomId.{AtomId}
use Rattle.wire_packet.specs.declared.packet.Ask.TheVariants as request
use Rattle.wire_packet.specs.GroupFacts.{RequestParts}
use Rattle.env_store.specs.CodeParts.{CodeParts}
use Rattle.loc_tree.specs.Tree.{Tree}
use Rattle.net_laws.specs.Site.{Site}
use Rattle.net_laws.specs.Net.{address}
use Rattle.net_laws.specs.Holding.{precedes, request_with}
use Rattle.site_solution.specs.Staying.{CanAct}
use Rattle.reducer.specs.declared.pick.Pick.{Pick}
use Rattle.reducer.specs.Picks.{Picked, Picks}
use Rattle.reducer.specs.Ready.{NoneFires, IsReady}
use Rattle.failure.specs.Halts.{can_halt}
use Rattle.failure.specs.Deaths.{dead_for}
use Rattle.migration.specs.Moves.{can_go}
use Rattle.site_turn.specs.declared.next.Chosen.{Chosen}
use Rattle.site_turn.specs.declared.next.Chosen.TheVariants as chosen

-- ---- requests

-- the site has a request with this id, and the rule for it lets it be met in a program of this
-- version: to go, to halt, or to detect a failure
abbrev pub may_meet : ℕ → Tree → Site → AtomId → Bool
may_meet version t s a = can_go version t a s || (can_halt t a s || is_some (dead_for t a s))

abbrev pub NoneMeets : ℕ → Tree → Site → Type 0
NoneMeets version t s = (b : AtomId) → may_meet version t s b ≡ false

-- of those that may be met it has the least id
pub record IsLeastMet (version : ℕ) (t : Tree) (s : Site) (a : AtomId) : Type 0 where
  pub met : may_meet version t s a ≡ true
  pub least : (b : AtomId) → may_meet version t s b ≡ true → precedes b a ≡ false

-- the request asks to go
pub record IsToGo (a : AtomId) (s : Site) : Type 0 where
  pub asked : RequestParts
  pub target : Name
  pub cont : Name
  pub here : request_with a s.requests ≡ Some asked
  pub asks : asked.ask ≡ request.Go target cont

-- and it asks to go to a location of the site with this number
pub record LeadsTo (t : Tree) (s : Site) (a : AtomId) (number : ℕ) : Type 0 where
  pub asked : RequestParts
  pub target : Loc
  pub cont : Name
  pub here : request_with a s.requests ≡ Some asked
  pub asks : asked.ask ≡ request.Go (name.Place target) cont
  pub number_is : number ≡ address t target

-- ---- choices

-- the reaction that is ready, whatever the version
abbrev pub ChoosesPick : CodeParts → Tree → Site → Pick → Type 0
ChoosesPick c t s p = CanAct c t s × IsReady c t s p

-- where none is ready, the request with the least id that may be met; and nothing where there is
-- neither, or where the site hasn't what the calls need
abbrev pub Chooses : ℕ → CodeParts → Tree → Site → Chosen → Type 0
Chooses version c t s (chosen.Pick p) = ChoosesPick c t s p
Chooses version c t s (chosen.Ask a) =
    CanAct c t s × (NoneFires c t s × IsLeastMet version t s a)
Chooses version c t s chosen.Nothing = CanAct c t s → NoneFires c t s × NoneMeets version t s

-- the guard of the pick opens no location
abbrev pub OpensNone : CodeParts → Site → Pick → Type 0
OpensNone c s p = (x : Picked) → Picks c s p x → x.guard.births ≡ 0

-- ---- what may be made

-- the site chose it: the reaction that is ready, or a request that may be met, in version 2 at least
abbrev pub MayMake : CodeParts → Tree → Site → Chosen → Type 0
MayMake c t s (chosen.Pick p) = ChoosesPick c t s p
MayMake c t s (chosen.Ask a) = CanAct c t s × (may_meet 2 t s a ≡ true)
MayMake c t s chosen.Nothing = ⊥
