-- A site that is lent for a round: it works on its own, with the tree as it was when the round
-- began. What all sites leave of a round is what their turns, one after another, leave.
use Rattle.std.specs.Prelude.{◌≡◌, ℕ, ◌+◌, ◌-◌, ◌<◌, ◌==◌, cond, List, [], ◌∷◌, ◌++◌, length}
use Rattle.std.specs.Prelude.{replicate}
use Rattle.chem_model.specs.declared.event.Event.{Event}
use Rattle.chem_model.specs.declared.event.Event.TheVariants as event
use Rattle.chem_model.specs.declared.event.Out.{Out}
use Rattle.chem_model.specs.declared.numbered.Numbered.{Numbered}
use Rattle.chem_model.specs.ProgramFacts.{ProgramTerms, IsProgram}
use Rattle.wire_packet.specs.MessageFacts.{MessageParts}
use Rattle.env_store.specs.CodeParts.{CodeParts}
use Rattle.env_store.specs.CodeFacts.{IsCode}
use Rattle.env_store.specs.Reading.{IsCodeOf}
use Rattle.env_store.specs.Running.{Ran, code_made}
use Rattle.env_store.specs.Laws.{rules_of_group}
use Rattle.loc_tree.specs.Tree.{Tree}
use Rattle.reducer.specs.declared.pick.Pick.{Pick}
use Rattle.reducer.specs.Picks.{rule_of}
use Rattle.reducer.specs.Ready.{IsReady}
use Rattle.net_laws.specs.Site.{Site}
use Rattle.net_laws.specs.Net.{Addressed, Net, Stands}
use Rattle.net_laws.specs.Changes.{Takes, ids}
use Rattle.net_laws.specs.Posting.{Outcome, with_queues}
use Rattle.net_laws.specs.ByCode.{args_of, run_here}
use Rattle.net_laws.specs.Opened.{RunsCode}
use Rattle.net_laws.specs.Rounds.{WorksOff}
use Rattle.net_core.specs.Scheduling.{births_of, AreTurns, numbers}

-- the messages of a list that go to the site i, and the others
abbrev pub mail_to : ℕ → List Addressed → List Addressed
mail_to i [] = []
mail_to i (p ∷ ps) = cond (p.target == i) (p ∷ mail_to i ps) (mail_to i ps)

-- the reaction that is ready at a site with the number i: the fronts of its guard's queues go, and
-- its body is run
pub record ReactsAlone (c : CodeParts) (t : Tree) (i : ℕ) (s : Site) (q : Pick) (e : Event)
    (outs : List Out) (o : Outcome) : Type 0 where
  pub ready : IsReady c t s q
  pub taken : List MessageParts
  pub left : List (List MessageParts)
  pub takes : Takes ready.pick.group.queues ready.pick.guard.chans taken left
  pub event_is : e ≡ event.React (rule_of q ready.pick) (ids taken)
  pub ran : Ran
  pub ran_is :
      let g = ready.pick.group.told.inst in
      ran ≡ code_made c i ready.pick.guard.body (g.env ++ args_of taken) g.loc s.made
  pub outs_are : outs ≡ ran.outs
  pub outcome_is : o ≡ run_here c t ran (with_queues s q.group ready.pick.group left)

-- reactions one after another, each the one that is ready, until the quota is used up, or none is
-- ready but one that opens a location: their events, their observables, and what they send
pub data WorksAlone (c : CodeParts) (t : Tree) (i : ℕ)
    : ℕ → Site → List Event → List Out → List Addressed → Site → Type 0 where
  used_up : (s : Site) → WorksAlone c t i 0 s [] [] [] s
  rests :
      (quota : ℕ) (s : Site) → ((q : Pick) → IsReady c t s q → 0 < births_of c q)
      → WorksAlone c t i quota s [] [] [] s
  reacts :
      (quota : ℕ) (s new : Site) (q : Pick) (e : Event) (outs : List Out) (o : Outcome)
      (es : List Event) (later_outs : List Out) (later : List Addressed)
      → 0 < quota → ReactsAlone c t i s q e outs o → births_of c q ≡ 0
      → WorksAlone c t i (quota - 1) o.site es later_outs later new
      → WorksAlone c t i quota s (e ∷ es) (outs ++ later_outs) (o.sends ++ later) new

-- the sites from the number i on, each with its mail among these packets: it works its mail off and
-- then reacts. What they leave: their events, observables and packets, site after site, of each
-- site those that go on before those that it sends
pub data AllAreLent (c : CodeParts) (quota : ℕ) (t : Tree) (packets : List Addressed)
    : ℕ → List Site → List Event → List Out → List Addressed → List Site → Type 0 where
  no_site : (i : ℕ) → AllAreLent c quota t packets i [] [] [] [] []
  a_site :
      (i : ℕ) (s mid new : Site) (on sends : List Addressed) (es : List Event) (outs : List Out)
      (ss news : List Site) (later_es : List Event) (later_outs : List Out)
      (later : List Addressed)
      → WorksOff t s (mail_to i packets) on mid → WorksAlone c t i quota mid es outs sends new
      → AllAreLent c quota t packets (i + 1) ss later_es later_outs later news
      → AllAreLent c quota t packets i (s ∷ ss) (es ++ later_es) (outs ++ later_outs)
      ((on ++ sends) ++ later) (new ∷ news)

-- and who sends what they leave: each site its own
pub data AreSentInTurn (c : CodeParts) (quota : ℕ) (t : Tree) (packets : List Addressed)
    : ℕ → List Site → List ℕ → Type 0 where
  no_sender : (i : ℕ) → AreSentInTurn c quota t packets i [] []
  a_sender :
      (i : ℕ) (s mid new : Site) (on sends : List Addressed) (es : List Event) (outs : List Out)
      (ss : List Site) (later : List ℕ)
      → WorksOff t s (mail_to i packets) on mid → WorksAlone c t i quota mid es outs sends new
      → AreSentInTurn c quota t packets (i + 1) ss later
      → AreSentInTurn c quota t packets i (s ∷ ss) (replicate (length (on ++ sends)) i ++ later)

-- of a network that stands for a solution and runs the code of a program
abbrev pub LentSitesHaveTurns : Type 0
LentSitesHaveTurns =
    (p : ProgramTerms) (c : CodeParts) → IsProgram p → IsCode c → IsCodeOf p c
    → (net : Net) (n : Numbered) → Stands (rules_of_group p) net n → RunsCode p c net
    → (quota : ℕ) (es : List Event) (outs : List Out) (packets : List Addressed)
    (news : List Site)
    → AllAreLent c quota net.tree net.packets 0 net.sites es outs packets news
    → AreTurns c quota (numbers net) (length net.packets) net es
    (record net { sites = news; trace = net.trace ++ outs; packets = packets })
