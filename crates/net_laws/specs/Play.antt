-- Lists of choices, from a program's opening on.
use Rattle.std.specs.Prelude.{◌≡◌, ℕ, ◌+◌, List, [], ◌∷◌, Some, None, slice_get, length}
use Rattle.chem_model.specs.declared.name.Loc.{Loc}
use Rattle.chem_model.specs.declared.event.Event.{Event}
use Rattle.chem_model.specs.declared.event.Out.{Out}
use Rattle.chem_model.specs.declared.program.SiteTerm.{SiteTerm}
use Rattle.chem_model.specs.declared.numbered.NumberedRule.{NumberedRule}
use Rattle.chem_model.specs.declared.numbered.Numbered.{Numbered}
use Rattle.chem_model.specs.Process.{definitions}
use Rattle.chem_model.specs.ProgramFacts.{ProgramTerms, IsProgram}
use Rattle.chem_model.specs.Fill.{Naming}
use Rattle.chem_model.specs.Opening.{counts_of, site_names, named_sites}
use Rattle.chem_model.specs.Apply.{replay, states, replay_from}
use Rattle.chem_model.specs.Reduction.{Quiet}
use Rattle.chem_model.specs.Numbered.{erase}
use Rattle.chem_model.specs.Runs.{IsRun}
use Rattle.chem_model.specs.Laws.{erase_all}
use Rattle.wire_packet.specs.GroupFacts.{GroupParts}
use Rattle.net_laws.specs.Site.{Told, Site}
use Rattle.net_laws.specs.Net.{Net, Stands}
use Rattle.net_laws.specs.Posting.{Posted, pour_here}
use Rattle.net_laws.specs.Enabled.{Enabled}
use Rattle.net_laws.specs.Opening.{IsBare, site_opened}
use Rattle.net_laws.specs.Choices.{with_outcome, Choice, Runs, Works}
use Rattle.net_laws.specs.Kept.{IsNet}

module _ (rules_of : GroupParts → List NumberedRule) where
  -- the sites run their openings, one after another
  pub data OpensHere (m : Naming) : ℕ → List SiteTerm → Net → Net → Type 0 where
    opened : (i : ℕ) (net : Net) → OpensHere m i [] net net
    opens :
        (i : ℕ) (t : SiteTerm) (ts : List SiteTerm) (net end : Net) (s : Site)
        (next : ℕ) (births : List Loc) (ds : List Told) (ps : List Posted) (outs : List Out)
        → slice_get net.sites i ≡ Some s
        → Runs rules_of (length net.sites) net.tree i s
        (site_opened net.seen i m s.made (definitions t.defs) t.body) next births ds ps outs
        → OpensHere m (i + 1) ts
        (with_outcome net i (pour_here net.tree next births ds ps s) outs births) end
        → OpensHere m i (t ∷ ts) net end

  -- a list of choices: their events, and the network in the end
  pub data WorksAll : Net → List Choice → List Event → Net → Type 0 where
    stops : (net : Net) → WorksAll net [] [] net
    makes :
        (net mid end : Net) (a : Choice) (e : Event) (more : List Choice) (es : List Event)
        → Works rules_of net a (Some e) mid → WorksAll mid more es end
        → WorksAll net (a ∷ more) (e ∷ es) end
    carries :
        (net mid end : Net) (a : Choice) (more : List Choice) (es : List Event)
        → Works rules_of net a None mid → WorksAll mid more es end
        → WorksAll net (a ∷ more) es end

  -- its events replay from the program, what they pass is a run of the machine, and the network
  -- stands for what they lead to; and no choice is enabled exactly where nothing is under way and
  -- the machine is quiet
  pub record IsNetworkRun (p : ProgramTerms) (es : List Event) (net : Net) : Type 0 where
    pub after : Numbered
    pub replays : replay p es ≡ Some after
    pub is_run : IsRun p (erase_all (states p es))
    pub stands : Stands rules_of net after
    pub keeps : IsNet rules_of net
    pub quiet_if_none :
        (Enabled rules_of net → ⊥)
        → (net.packets ≡ []) × Quiet after.version after.seen (erase after)
    pub none_if_quiet :
        net.packets ≡ [] → Quiet after.version after.seen (erase after) → Enabled rules_of net → ⊥

  abbrev pub NetworkRuns : Type 0
  NetworkRuns =
      (p : ProgramTerms) (first start end : Net) (choices : List Choice) (es : List Event)
      → IsProgram p → IsBare first (named_sites p.version (counts_of p.seen) p.sites)
      → OpensHere (site_names p.sites) 0 p.sites first start
      → WorksAll start choices es end
      → IsNetworkRun p es end

  -- ---- the same from any network on

  -- the events replay, and the network stands for what they lead to
  pub record Reached (n : Numbered) (es : List Event) (net : Net) : Type 0 where
    pub after : Numbered
    pub replays : replay_from (Some n) es ≡ Some after
    pub stands : Stands rules_of net after
    pub keeps : IsNet rules_of net

  abbrev pub ChoicesReplay : Type 0
  ChoicesReplay =
      (net end : Net) (n : Numbered) (choices : List Choice) (es : List Event)
      → Stands rules_of net n → IsNet rules_of net → WorksAll net choices es end
      → Reached n es end
