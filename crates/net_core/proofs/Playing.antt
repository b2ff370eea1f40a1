-- For every list of choices the events replay.
use Rattle.std.proofs.Common.{ℕ, ◌+◌, ◌*◌, List, ◌∷◌, Option, Some, None, refl, ap, ◌∙◌, arith}
use Rattle.std.proofs.Common.{length}
use Rattle.chem_model.specs.declared.event.Event.{Event}
use Rattle.chem_model.specs.declared.numbered.Numbered.{Numbered}
use Rattle.chem_model.specs.ProgramFacts.{ProgramTerms, IsProgram}
use Rattle.chem_model.specs.Apply.{replay_from}
use Rattle.chem_model.specs.Opening.{opening}
use Rattle.env_store.specs.CodeParts.{CodeParts}
use Rattle.env_store.specs.CodeFacts.{IsCode}
use Rattle.env_store.specs.Reading.{IsCodeOf}
use Rattle.env_store.specs.Laws.{rules_of_group}
use Rattle.net_laws.specs.Net.{Net, Stands}
use Rattle.net_laws.specs.Opened.{RunsCode, opened_net}
use Rattle.net_laws.proofs.Opened.{opened_stands}
use Rattle.net_core.specs.Laws.{IsLedFrom}
use Rattle.net_core.specs.Playing.{Does, react, deliver, halt, detect, move, DoesAll, stops, makes}
use Rattle.net_core.specs.Playing.{carries, ListsReplay, OpenedPlay}
use Rattle.net_core.specs.Rising.{AllMade, Rises}
use Rattle.net_core.proofs.Leading.{acts_lead}
use Rattle.net_core.proofs.Rising.{all_more, counts_rise}

-- each choice is one event or none
pub one_leads : (c : CodeParts) (net new : Net) (o : Option Event) → IsCode c → Does c net o new
    → IsLedFrom net o new c
one_leads c net new o kept (react i j k e _ does) = (acts_lead c net new kept).0 i j k e does
one_leads c net new o kept (deliver f _ does) = (acts_lead c net new kept).1 f does
one_leads c net new o kept (halt a _ does) = (acts_lead c net new kept).2 a does
one_leads c net new o kept (detect a _ does) = (acts_lead c net new kept).3 a does
one_leads c net new o kept (move a _ does) = (acts_lead c net new kept).4 a does

pub lists_replay : ListsReplay
lists_replay c net end es kept (stops _) p n ok is stands runs =
    record { after = n; replays = refl; stands = stands; runs = runs }
lists_replay c net end es kept (makes _ mid _ e rest does more) p n ok is stands runs =
    let step = one_leads c net mid (Some e) kept does p n ok is stands runs in
    let later =
    lists_replay c mid end rest kept more p step.leads.after ok is step.leads.stands step.runs in
    record {
      after = later.after;
      replays = ap (λ o. replay_from o rest) step.leads.applies ∙ later.replays;
      stands = later.stands;
      runs = later.runs;
    }
lists_replay c net end es kept (carries _ mid _ _ does more) p n ok is stands runs =
    let step = one_leads c net mid None kept does p n ok is stands runs in
    lists_replay c mid end es kept more p n ok is step.leads step.runs

-- how many numbers a choice may draw
abbrev pub rise : Option Event → ℕ
rise None = 0
rise (Some e) = 1048576

pub one_rises : (c : CodeParts) (net new : Net) (o : Option Event) (most : ℕ) → Rises c net new
    → Does c net o new → AllMade most net → AllMade (most + rise o) new
one_rises c net new o most rises (react i j k e _ does) all = rises.reacts i j k most e does all
one_rises c net new o most rises (deliver f _ does) all =
    all_more most (most + 0) (omega arith) new.sites (rises.delivers f most does all)
one_rises c net new o most rises (halt a _ does) all =
    all_more most (most + 1048576) (omega arith) new.sites (rises.halts a most does all)
one_rises c net new o most rises (detect a _ does) all =
    all_more (most + 1) (most + 1048576) (omega arith) new.sites (rises.detects a most does all)
one_rises c net new o most rises (move a _ does) all =
    all_more (most + 1) (most + 1048576) (omega arith) new.sites (rises.moves a most does all)

all_rise :
    (c : CodeParts) (net end : Net) (es : List Event) → IsCode c → DoesAll c net es end
    → (p : ProgramTerms) (n : Numbered) → IsProgram p → IsCodeOf p c
    → Stands (rules_of_group p) net n → RunsCode p c net → (most : ℕ) → AllMade most net
    → AllMade (most + 1048576 * length es) end
all_rise c net end es kept (stops _) p n ok is stands runs most all =
    all_more most (most + 1048576 * 0) (omega arith) net.sites all
all_rise c net end es kept (makes _ mid _ e rest does more) p n ok is stands runs most all =
    let step = one_leads c net mid (Some e) kept does p n ok is stands runs in
    let first =
    one_rises c net mid (Some e) most (counts_rise p c ok kept is net mid n stands runs) does all in
    let later = all_rise c mid end rest kept more p step.leads.after ok is
    step.leads.stands step.runs (most + 1048576) first in
    all_more (most + 1048576 + 1048576 * length rest) (most + 1048576 * length (e ∷ rest))
    (omega arith) end.sites later
all_rise c net end es kept (carries _ mid _ _ does more) p n ok is stands runs most all =
    let step = one_leads c net mid None kept does p n ok is stands runs in
    let first = all_more (most + 0) most (omega arith) mid.sites
    (one_rises c net mid None most (counts_rise p c ok kept is net mid n stands runs) does all) in
    all_rise c mid end es kept more p n ok is step.leads step.runs most first

pub opened_play : OpenedPlay
opened_play p c ok kept is end es does =
    let opened = opened_stands p c ok kept is in
    let made = all_rise c (opened_net p.version c) end es kept does p (opening p) ok is
    opened.0 opened.1 1048576 opened.2 in (
      lists_replay c (opened_net p.version c) end es kept does p (opening p) ok is
          opened.0 opened.1,
      all_more (1048576 + 1048576 * length es) (1048576 * (length es + 1)) (omega arith)
          end.sites made,
    )
