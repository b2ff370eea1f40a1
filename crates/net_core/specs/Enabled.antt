-- Which choices of a network are enabled, where its sites run code.
use Rattle.std.specs.Prelude.{◌≡◌, ℕ, List, [], ◌∷◌, Some, slice_get, ◌↔◌, true}
use Rattle.chem_model.specs.declared.event.AtomId.{AtomId}
use Rattle.chem_model.specs.declared.name.Loc.{Loc}
use Rattle.chem_model.specs.declared.name.Name.{Name}
use Rattle.chem_model.specs.declared.name.Name.TheVariants as name
use Rattle.chem_model.specs.declared.numbered.Numbered.{Numbered}
use Rattle.chem_model.specs.ProgramFacts.{ProgramTerms, IsProgram}
use Rattle.chem_model.specs.Each.{Each}
use Rattle.chem_model.specs.Numbered.{erase}
use Rattle.chem_model.specs.Reduction.{Quiet}
use Rattle.wire_packet.specs.MessageFacts.{MessageParts}
use Rattle.wire_packet.specs.declared.packet.Ask.TheVariants as request
use Rattle.env_store.specs.CodeParts.{CodeParts}
use Rattle.env_store.specs.CodeFacts.{IsCode}
use Rattle.env_store.specs.Reading.{IsCodeOf}
use Rattle.env_store.specs.Laws.{rules_of_group}
use Rattle.loc_tree.specs.Tree.{is_alive, is_dead}
use Rattle.net_laws.specs.Net.{Addressed, Net, Stands}
use Rattle.net_laws.specs.Opened.{RunsCode}
use Rattle.net_core.specs.Acting.{HasGuard, Asks, MayGo}

-- the queue of the channel has a message
abbrev pub HasFront : List (List MessageParts) → ℕ → Type 0
HasFront queues c =
    (m : MessageParts) × (rest : List MessageParts) × (slice_get queues c ≡ Some (m ∷ rest))

-- a request to halt, in a location that is alive
pub record MayHalt (net : Net) (a : AtomId) : Type 0 where
  pub asks : Asks net a
  pub is : asks.request.ask ≡ request.Halt
  pub alive : is_alive net.tree asks.request.loc ≡ true

-- a request to detect the failure of a location that is dead, in one that is alive
pub record MayDetect (net : Net) (a : AtomId) : Type 0 where
  pub asks : Asks net a
  pub target : Loc
  pub cont : Name
  pub is : asks.request.ask ≡ request.Fail (name.Place target) cont
  pub alive : is_alive net.tree asks.request.loc ≡ true
  pub dead : is_dead net.tree target ≡ true

-- a guard of a live location each of whose queues has a front, a message under way, or a request
-- for which the tree has what its rule needs
pub data IsEnabled (c : CodeParts) (net : Net) : Type 0 where
  react :
      (i j k : ℕ) (by : HasGuard c net i j k)
      → Each (HasFront by.group.queues) by.guard.chans → IsEnabled c net
  deliver : (f : ℕ) (p : Addressed) → slice_get net.packets f ≡ Some p → IsEnabled c net
  move : (a : AtomId) → MayGo net a → IsEnabled c net
  halt : (a : AtomId) → MayHalt net a → IsEnabled c net
  detect : (a : AtomId) → MayDetect net a → IsEnabled c net

-- none is exactly where nothing is under way and the machine is quiet
abbrev pub NoneEnabledIsQuiet : Type 0
NoneEnabledIsQuiet =
    (p : ProgramTerms) (c : CodeParts) → IsProgram p → IsCode c → IsCodeOf p c
    → (net : Net) (n : Numbered) → Stands (rules_of_group p) net n → RunsCode p c net
    → (IsEnabled c net → ⊥) ↔ ((net.packets ≡ []) × Quiet n.version n.seen (erase n))
