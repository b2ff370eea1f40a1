-- At the start nothing is appended; each turn appends the first event; and the run ends where none
-- is possible or the budget is spent.
use Rattle.std.proofs.Common.{◌≡◌, ℕ, ◌+◌, ◌<◌, ◌≤◌, length, sym, ap, ◌∙◌, subst, arith}
use Rattle.chem_model.specs.ProgramFacts.{ProgramTerms}
use Rattle.trace_history.specs.Book.{IsStuck}
use Rattle.trace_history.specs.First.{IsFirst}
use Rattle.site_runner.proofs.Going.{Goes, begins, first_not_stuck, still_stuck, possible_on_err}
use Rattle.site_runner.proofs.Going.{after_event, stops, is_spent, whole, some_site}
use Rattle.site_runner.proofs.one_thread.run_on.Goals as goal

pub loop-place-init : goal.loop-place-init
loop-place-init c =
    let program : ProgramTerms = record {
      version = c.program.inside.version;
      seen = c.program.inside.seen;
      sites = c.program.inside.sites;
      tops = c.program.inside.tops;
      spell = c.program.inside.spell;
    } in (
      begins c.args.book.now c.args.budget c.replays.ensures.0 c.replays.ensures.1,
      some_site program c.args.book.now.program c.program.invariant
          (c.program.view_is ∙ c.program-program.ensures),
      sym (c.len-place.ensures.count ∙ ap length c.journal.ensures),
      λ still. still,
    )

pub loop-place-preserved : goal.loop-place-preserved
loop-place-preserved c =
    let g = c.loop-place.invariant.0 in
    let run = c.loop-place.book in
    let found = c.in-Some.found in
    let at = c.loop-place.invariant.2 in
    let low : length run.journal < c.args.budget = omega arith in
    let sites : c.len-sites.result ≡ length c.args.book.now.program.sites =
    c.len-sites.ensures.count
    ∙ ap (λ (p : ProgramTerms). length p.sites) (c.program.view_is ∙ c.program-program.ensures) in
    let first : IsFirst g.last c.loop-place.from found.site found.event =
    (rw c.in-Some.is at c.in_ok-found.ensures.first) g.last g.leads in
    let more = after_event c.args.book.now c.args.budget run c.loop-place.from g found first low
    c.len-sites.result sites
    c.in_ok-_commit-in-Some._commit c.append.new.self c.in_ok-_commit-in-Some.ensures.done in (
      subst (λ (s : ℕ). Goes c.args.book.now c.args.budget c.append.new.self s)
          (sym c.after-from.ensures.after) more.0,
      subst (λ (s : ℕ). c.after-from.result < s) sites c.after-from.ensures.within,
      more.1 ∙ ap (λ (k : ℕ). k + 1) at,
      still_stuck c.args.book.now run c.append.new.self c.loop-place.invariant.3
          (first_not_stuck run g.last g.leads c.loop-place.from found.site found.event first),
    )

pub returns-in-None-clause-run : goal.returns-in-None-clause-run
returns-in-None-clause-run c =
    let stuck : IsStuck c.loop-place.book = rw c.in-None.is at c.in_ok-found.ensures.first in
    let at = c.loop-place.invariant.2 in
    let within : length c.loop-place.book.journal ≤ c.args.budget = omega arith in
    stops c.args.book.now c.args.budget c.loop-place.book c.loop-place.from c.loop-place.invariant.0
    within stuck

pub returns-in-None-clause-whole : goal.returns-in-None-clause-whole
returns-in-None-clause-whole c =
    let stuck : IsStuck c.loop-place.book = rw c.in-None.is at c.in_ok-found.ensures.first in
    let at = c.loop-place.invariant.2 in
    let within : length c.loop-place.book.journal ≤ c.args.budget = omega arith in
    whole c.args.book.now c.args.budget c.loop-place.book (stops c.args.book.now c.args.budget
    c.loop-place.book c.loop-place.from c.loop-place.invariant.0 within stuck)

pub returns-clause-run : goal.returns-clause-run
returns-clause-run c =
    let at = c.loop-place.invariant.2 in
    let start : c.len-place.result ≡ length c.args.book.now.journal =
    c.len-place.ensures.count ∙ ap length c.journal.ensures in
    let spent : length c.loop-place.book.journal ≡ c.args.budget = omega arith in
    is_spent c.args.book.now c.args.budget c.loop-place.book c.loop-place.from
    c.loop-place.invariant.0 spent

pub returns-clause-whole : goal.returns-clause-whole
returns-clause-whole c =
    let at = c.loop-place.invariant.2 in
    let start : c.len-place.result ≡ length c.args.book.now.journal =
    c.len-place.ensures.count ∙ ap length c.journal.ensures in
    let spent : length c.loop-place.book.journal ≡ c.args.budget = omega arith in
    whole c.args.book.now c.args.budget c.loop-place.book (is_spent c.args.book.now c.args.budget
    c.loop-place.book c.loop-place.from c.loop-place.invariant.0 spent)

pub returns-in_err-found-clause-possible : goal.returns-in_err-found-clause-possible
returns-in_err-found-clause-possible c = possible_on_err c.from_residual.result c.args.book.now
    c.loop-place.book c.loop-place.invariant.3 c.in_err-found.ensures.memory

pub returns-in_err-_commit-in-Some-clause-possible :
    goal.returns-in_err-_commit-in-Some-clause-possible
returns-in_err-_commit-in-Some-clause-possible c =
    let g = c.loop-place.invariant.0 in
    let found = c.in-Some.found in
    let first : IsFirst g.last c.loop-place.from found.site found.event =
    (rw c.in-Some.is at c.in_ok-found.ensures.first) g.last g.leads in
    possible_on_err c.from_residual-in_err-_commit-in-Some.result c.args.book.now c.loop-place.book
    c.loop-place.invariant.3 (first_not_stuck c.loop-place.book g.last g.leads c.loop-place.from
    found.site found.event first)
