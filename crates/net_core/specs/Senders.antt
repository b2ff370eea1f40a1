-- Which site sent each packet under way: a list beside the packets, in their order.
use Rattle.std.specs.Prelude.{◌≡◌, ℕ, ◌+◌, List, [], ◌∷◌, ◌++◌, replicate, length, Some, slice_get}
use Rattle.chem_model.specs.declared.event.AtomId.{AtomId}
use Rattle.env_store.specs.declared.code.SiteCode.{SiteCode}
use Rattle.env_store.specs.CodeParts.{CodeParts}
use Rattle.reducer.specs.declared.pick.Pick.{Pick}
use Rattle.net_laws.specs.Net.{Addressed, Net}
use Rattle.net_laws.specs.Opened.{opened_by, with_opened, unopened}
use Rattle.net_core.specs.declared.choice.Choice.{Choice}
use Rattle.net_core.specs.declared.choice.Choice.TheVariants as choice
use Rattle.net_core.specs.Acting.{Asks, MayGo}
use Rattle.net_core.specs.Parts.{without}

-- ---- of a choice

-- the site that sends what the choice sends: for a reaction its own; for a delivery the packet's
-- target, from where it goes on; for a move the one to which the location goes, where it goes on;
-- for a halt or a detection the one that has the request
pub data IsSentBy (net : Net) : Choice → ℕ → Type 0 where
  react : (i : ℕ) (p : Pick) → IsSentBy net (choice.React i p) i
  deliver :
      (f : ℕ) (p : Addressed) → slice_get net.packets f ≡ Some p
      → IsSentBy net (choice.Deliver f) p.target
  move : (a : AtomId) (go : MayGo net a) → IsSentBy net (choice.Move a) go.target.site
  halt : (a : AtomId) (asks : Asks net a) → IsSentBy net (choice.Halt a) asks.number
  detect : (a : AtomId) (asks : Asks net a) → IsSentBy net (choice.Detect a) asks.number

-- what the choice keeps of a list with a member for each packet under way: a delivery takes its own
-- out
abbrev pub kept : {X : Type 0} → Choice → List X → List X
kept (choice.React i p) xs = xs
kept (choice.Deliver f) xs = without f xs
kept (choice.Move a) xs = xs
kept (choice.Halt a) xs = xs
kept (choice.Detect a) xs = xs

-- ---- of the opening

-- these sites are opened one after another, from the number i on, and each sends what its opening
-- sends
abbrev pub opened_from : CodeParts → ℕ → List SiteCode → Net → List ℕ
opened_from c i [] net = []
opened_from c i (site ∷ sites) net =
    replicate (length (opened_by c net.tree i site).sends) i
    ++ opened_from c (i + 1) sites (with_opened c i site net)

-- in the opened network of this version
abbrev pub opened_froms : ℕ → CodeParts → List ℕ
opened_froms version c = opened_from c 0 c.sites (unopened version c)
