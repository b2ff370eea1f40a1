-- How a list of choices is made.
use Rattle.std.specs.Prelude.{◌≡◌, ◌+◌, ◌≤◌, List, [], ◌∷◌, Some, None, length, take, drop}
use Rattle.chem_model.specs.declared.event.Event.{Event}
use Rattle.chem_model.specs.declared.numbered.Numbered.{Numbered}
use Rattle.chem_model.specs.ProgramFacts.{ProgramTerms, IsProgram}
use Rattle.env_store.specs.CodeParts.{CodeParts}
use Rattle.env_store.specs.Reading.{IsCodeOf}
use Rattle.env_store.specs.Laws.{rules_of_group}
use Rattle.net_laws.specs.Net.{Net, Stands}
use Rattle.net_laws.specs.Opened.{RunsCode}
use Rattle.net_core.specs.declared.choice.Choice.{Choice}
use Rattle.net_core.specs.declared.plays.Played.{Played}
use Rattle.net_core.specs.declared.plays.PlayStop.{PlayStop}
use Rattle.net_core.specs.declared.plays.PlayStop.TheVariants as stop
use Rattle.net_core.specs.Acts.{Acts}
use Rattle.net_core.specs.Choosing.{Allows}
use Rattle.net_core.specs.Playing.{IsPlayed}
use Rattle.net_core.specs.Whole.{NetParts}

-- choices are made one after another: their events in order, and the network that is left
pub data ActsAll (c : CodeParts) : Net → List Choice → List Event → Net → Type 0 where
  stops : (net : Net) → ActsAll c net [] [] net
  makes :
      (net mid end : Net) (x : Choice) (xs : List Choice) (e : Event) (es : List Event)
      → Acts c net x (Some e) mid → ActsAll c mid xs es end → ActsAll c net (x ∷ xs) (e ∷ es) end
  carries :
      (net mid end : Net) (x : Choice) (xs : List Choice) (es : List Event)
      → Acts c net x None mid → ActsAll c mid xs es end → ActsAll c net (x ∷ xs) es end

-- the first of these choices is enabled
pub record GoesOn (c : CodeParts) (net : Net) (xs : List Choice) : Type 0 where
  pub next : Choice
  pub rest : List Choice
  pub is : xs ≡ next ∷ rest
  pub allowed : Allows c net next

-- and it isn't
pub record GetsStuck (c : CodeParts) (net : Net) (xs : List Choice) : Type 0 where
  pub next : Choice
  pub rest : List Choice
  pub is : xs ≡ next ∷ rest
  pub not : Allows c net next → ⊥

-- of the choices that are left: there are none; the next one isn't enabled; or it is, and there was
-- no memory
abbrev pub Stops : PlayStop → CodeParts → Net → List Choice → Type 0
Stops stop.All c net left = left ≡ []
Stops stop.NotEnabled c net left = GetsStuck c net left
Stops stop.Memory c net left = GoesOn c net left

-- from each solution for which the network stood the events replay to one for which it then stands
abbrev pub Replays : CodeParts → Net → List Event → Net → Type 0
Replays c net es new =
    (p : ProgramTerms) (n : Numbered) → IsProgram p → IsCodeOf p c
    → Stands (rules_of_group p) net n → RunsCode p c net → IsPlayed p c n es new

-- the first `done` choices were made and no other, and these are their events
pub record HasPlayed (old : NetParts) (xs : List Choice) (p : Played) (new : NetParts) : Type 0
  where
    pub made : ActsAll old.code old.net (take p.done xs) p.events new.net
    pub within : p.done ≤ length xs
    pub stops : Stops p.stop new.code new.net (drop p.done xs)
    pub code : new.code ≡ old.code
    pub events : new.events ≡ old.events + length p.events
    pub replays : Replays old.code old.net p.events new.net
