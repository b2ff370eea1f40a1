-- What a network does by a choice.
use Rattle.std.specs.Prelude.{ℕ, Option, Some, None}
use Rattle.chem_model.specs.declared.event.AtomId.{AtomId}
use Rattle.chem_model.specs.declared.event.Event.{Event}
use Rattle.chem_model.specs.declared.event.Event.TheVariants as event
use Rattle.env_store.specs.CodeParts.{CodeParts}
use Rattle.reducer.specs.declared.pick.Pick.{Pick}
use Rattle.net_laws.specs.Net.{Net}
use Rattle.net_core.specs.declared.choice.Choice.{Choice}
use Rattle.net_core.specs.declared.choice.Choice.TheVariants as choice
use Rattle.net_core.specs.Acting.{Reacts, Delivers, Halts, Detects, Moves}

-- the choice, its event if it has one, and the network that it leaves
pub data Acts (c : CodeParts) (net : Net) : Choice → Option Event → Net → Type 0 where
  react :
      (i : ℕ) (p : Pick) (e : Event) (new : Net) → Reacts c net i p.group p.guard e new
      → Acts c net (choice.React i p) (Some e) new
  deliver : (f : ℕ) (new : Net) → Delivers net f new → Acts c net (choice.Deliver f) None new
  move :
      (a : AtomId) (new : Net) → Moves net a new
      → Acts c net (choice.Move a) (Some (event.Move a)) new
  halt :
      (a : AtomId) (new : Net) → Halts net a new
      → Acts c net (choice.Halt a) (Some (event.Halt a)) new
  detect :
      (a : AtomId) (new : Net) → Detects net a new
      → Acts c net (choice.Detect a) (Some (event.Detect a)) new
