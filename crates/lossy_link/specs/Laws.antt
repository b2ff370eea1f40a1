-- The laws of steps over links: whatever they lose, repeat and reorder.
use Rattle.std.specs.Prelude.{List, Option}
use Rattle.chem_model.specs.declared.event.Event.{Event}
use Rattle.net_core.specs.Played.{Replays}
use Rattle.net_core.specs.Whole.{NetParts}
use Rattle.lossy_link.specs.declared.step.Step.{Step}
use Rattle.lossy_link.specs.Lines.{AreInOrder}
use Rattle.lossy_link.specs.Links.{Links}
use Rattle.lossy_link.specs.Over.{StepsTo, AllStepTo}
use Rattle.lossy_link.specs.Standing.{LinksLead, net_of_links}
use Rattle.lossy_link.specs.Whole.{IsWhole}

-- a step keeps what links keep, and leads from each solution for which they stood to the one to
-- which its event leads, or without one to the same
abbrev pub StepsLead : Type 0
StepsLead =
    (l new : Links NetParts) (x : Step) (o : Option Event) → IsWhole l → StepsTo l x o new
    → IsWhole new × LinksLead l o new

-- a list of steps keeps it too, its events replay from each solution for which the links stood, and
-- of each pair what was handed over is the front of what was sent
abbrev pub ListsReplayOverLinks : Type 0
ListsReplayOverLinks =
    (l end : Links NetParts) (xs : List Step) (es : List Event) → IsWhole l
    → AllStepTo l xs es end
    → IsWhole end × AreInOrder end.lines
    × Replays l.net.code (net_of_links l) es (net_of_links end)
