-- What a network keeps over one choice.
use Rattle.std.proofs.Common.{◌≡◌, ℕ, ◌+◌, ◌*◌, ◌<◌, ◌≤◌, ◌^◌, List, [], ◌∷◌, Option, Some, None}
use Rattle.std.proofs.Common.{arith, length}
use Rattle.chem_model.specs.declared.event.Event.{Event}
use Rattle.env_store.specs.CodeParts.{CodeParts}
use Rattle.net_laws.specs.Site.{Site}
use Rattle.net_laws.specs.Net.{Net}
use Rattle.chem_model.specs.Each.{Each}
use Rattle.net_core.specs.inside.AtSites.{AllStayFit}
use Rattle.net_core.specs.Making.{counted}
use Rattle.net_core.specs.Playing.{Does}
use Rattle.net_core.specs.Rising.{AllMade}
use Rattle.net_core.specs.Whole.{RunsSome, AllFit, IsRunning}
use Rattle.net_core.proofs.Fitting.{stays_fit}
use Rattle.net_core.proofs.Playing.{one_leads, one_rises, rise}
use Rattle.net_core.proofs.Rising.{all_more, counts_rise}

still_runs : (c : CodeParts) (net new : Net) (o : Option Event) (events : ℕ)
    → IsRunning c net events → Does c net o new → RunsSome c new
still_runs c net new None events h does =
    let some = h.some in
    let led = one_leads c net new None h.code does
    some.program some.solution some.is_program some.of_program some.stands some.runs in
    record {
      program = some.program;
      is_program = some.is_program;
      of_program = some.of_program;
      solution = some.solution;
      stands = led.leads;
      runs = led.runs;
    }
still_runs c net new (Some e) events h does =
    let some = h.some in
    let led = one_leads c net new (Some e) h.code does
    some.program some.solution some.is_program some.of_program some.stands some.runs in
    record {
      program = some.program;
      is_program = some.is_program;
      of_program = some.of_program;
      solution = led.leads.after;
      stands = led.leads.stands;
      runs = led.runs;
    }

still_few : (c : CodeParts) (net new : Net) (o : Option Event) (events : ℕ) → IsRunning c net events
    → Does c net o new → AllMade (1048576 * (events + counted o + 1)) new
still_few c net new o events h does =
    let some = h.some in
    let rises = counts_rise some.program c some.is_program h.code some.of_program net new
    some.solution some.stands some.runs in
    go o (one_rises c net new o (1048576 * (events + 1)) rises does h.made)
  where
    go : (o : Option Event) → AllMade (1048576 * (events + 1) + rise o) new
        → AllMade (1048576 * (events + counted o + 1)) new
    go None all = all_more (1048576 * (events + 1) + 0) (1048576 * (events + 0 + 1)) (omega arith)
        new.sites all
    go (Some e) all = all_more (1048576 * (events + 1) + 1048576) (1048576 * (events + 1 + 1))
        (omega arith) new.sites all

pub running_on : (c : CodeParts) (net new : Net) (o : Option Event) (events : ℕ)
    → IsRunning c net events → Does c net o new → AllFit c new.tree new.sites
    → length new.sites ≡ length net.sites → IsRunning c new (events + counted o)
running_on c net new o events h does fit many = record {
  code = h.code;
  some = still_runs c net new o events h does;
  fit = fit;
  few_sites = omega (arith, many, h.few_sites);
  made = still_few c net new o events h does;
}

made_few : (events : ℕ) → events < 2 ^ 32 → (ss : List Site)
    → Each (λ (s : Site). s.made ≤ 1048576 * (events + 1 + 1)) ss
    → Each (λ (s : Site). s.made < 2 ^ 63) ss
made_few events few [] h = tt
made_few events few (s ∷ ss) h = (omega (arith, h.0), made_few events few ss h.1)

-- and over an event, where the counts of sites may have risen
pub event_running : (c : CodeParts) (net new : Net) (e : Event) (events : ℕ)
    → IsRunning c net events → Does c net (Some e) new → AllStayFit c new.tree new.sites
    → length new.sites ≡ length net.sites → events < 2 ^ 32 → IsRunning c new (events + 1)
event_running c net new e events h does fit many few =
    running_on c net new (Some e) events h does (stays_fit c new.tree new.sites fit
    (made_few events few new.sites (still_few c net new (Some e) events h does))) many
