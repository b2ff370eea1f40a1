-- The network with which a run begins.
use Rattle.std.specs.Prelude.{◌≡◌}
use Rattle.chem_model.specs.ProgramFacts.{ProgramTerms}
use Rattle.chem_model.specs.Opening.{opening}
use Rattle.env_store.specs.CodeFacts.{IsCode}
use Rattle.env_store.specs.Laws.{rules_of_group}
use Rattle.env_store.specs.Reading.{IsCodeOf}
use Rattle.guard_compile.specs.Written.{code_of}
use Rattle.net_core.specs.Senders.{opened_froms}
use Rattle.net_core.specs.Whole.{NetParts}
use Rattle.net_laws.specs.Net.{Stands}
use Rattle.net_laws.specs.Opened.{opened_net, RunsCode}

-- the network of this program's code, before any event
pub record IsBegun (p : ProgramTerms) (net : NetParts) : Type 0 where
  pub code : net.code ≡ code_of p
  pub is_code : IsCode net.code
  pub of_program : IsCodeOf p net.code
  pub opened : net.net ≡ opened_net p.version net.code
  pub froms : net.froms ≡ opened_froms p.version net.code
  pub events : net.events ≡ 0
  pub stands : Stands (rules_of_group p) net.net (opening p)
  pub runs : RunsCode p net.code net.net
