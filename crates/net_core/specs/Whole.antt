-- What contracts see of a network with its code, and what its type keeps.
use Rattle.std.specs.Prelude.{◌≡◌, ℕ, ◌+◌, ◌*◌, ◌<◌, ◌^◌, List, length, IsTrue}
use Rattle.chem_model.specs.declared.numbered.Numbered.{Numbered}
use Rattle.chem_model.specs.ProgramFacts.{ProgramTerms, IsProgram}
use Rattle.chem_model.specs.Each.{Each}
use Rattle.env_store.specs.CodeParts.{CodeParts}
use Rattle.env_store.specs.CodeFacts.{IsCode}
use Rattle.env_store.specs.Reading.{IsCodeOf}
use Rattle.env_store.specs.Laws.{rules_of_group}
use Rattle.loc_tree.specs.Tree.{Tree}
use Rattle.net_laws.specs.Site.{Site}
use Rattle.net_laws.specs.Net.{Net, Stands}
use Rattle.net_laws.specs.Opened.{RunsCode}
use Rattle.site_solution.specs.InTree.{is_in_tree}
use Rattle.site_solution.specs.InCode.{is_in_code}
use Rattle.site_solution.specs.Draws.{CanDraw}
use Rattle.net_core.specs.declared.parts.Parts.{Parts}
use Rattle.net_core.specs.declared.senders.Run.{Run}
use Rattle.net_core.specs.Parts.{net_of, IsMessageFlight}
use Rattle.net_core.specs.Rising.{AllMade}
use Rattle.net_core.specs.inside.Runs.{spread}

-- the code, the network, which site sent each packet under way, and how many events there were
pub record NetParts : Type 0 where
  pub code : CodeParts
  pub net : Net
  pub froms : List ℕ
  pub events : ℕ

-- the code is a program's, the network runs it, and it stands for some sound numbered solution
pub record RunsSome (c : CodeParts) (net : Net) : Type 0 where
  pub program : ProgramTerms
  pub is_program : IsProgram program
  pub of_program : IsCodeOf program c
  pub solution : Numbered
  pub stands : Stands (rules_of_group program) net solution
  pub runs : RunsCode program c net

-- each site meets what its calls need
pub record AllFit (c : CodeParts) (t : Tree) (sites : List Site) : Type 0 where
  pub in_tree : Each (λ (s : Site). IsTrue (is_in_tree t s)) sites
  pub in_code : Each (λ (s : Site). IsTrue (is_in_code c t s)) sites
  pub draws : Each (CanDraw t) sites

-- beside that, each site meets what its calls need, and no site has made more than 1,048,576
-- numbers for each event and one time more
pub record IsRunning (c : CodeParts) (net : Net) (events : ℕ) : Type 0 where
  pub code : IsCode c
  pub some : RunsSome c net
  pub fit : AllFit c net.tree net.sites
  pub few_sites : length net.sites < 2 ^ 32
  pub made : AllMade (1048576 * (events + 1)) net

-- each packet under way is the spelling of a message, and there are so many, fewer than 2^32
pub record AreFlying (p : Parts) : Type 0 where
  pub spelled : Each IsMessageFlight p.flights.items
  pub counted : p.under_way ≡ length p.flights.items
  pub few : p.under_way < 2 ^ 32

pub record IsWhole (c : CodeParts) (p : Parts) (events : ℕ) : Type 0 where
  pub running : IsRunning c (net_of c.seen p) events
  pub flying : AreFlying p

-- and it is known which site sent each of them
pub record IsNetWhole (c : CodeParts) (p : Parts) (senders : List Run) (events : ℕ) : Type 0 where
  pub whole : IsWhole c p events
  pub sent : length (spread senders) ≡ p.under_way
