-- What is made is the journal's last event.
use Rattle.std.proofs.Common.{◌≡◌, ◌∙◌, ◌∷◌, ◌++◌, [], List, sym, subst}
use Rattle.std.proofs.lemmas.Result.{IfOk-weaker}
use Rattle.chem_model.specs.declared.event.Event.{Event}
use Rattle.chem_model.specs.Apply.{apply}
use Rattle.chem_commit.specs.Replaces.{Replaces}
use Rattle.trace_history.proofs.Replays.{last_is}
use Rattle.trace_history.proofs.book.make_last.Goals as goal

pub returns-in-Some-clause-done : goal.returns-in-Some-clause-done
returns-in-Some-clause-done c =
    let n = c.args.solution.now in
    let a = c.in-Some.event.now in
    IfOk-weaker c.make_event.result
    (λ made. Replaces (apply n a) n made c.make_event.new.solution)
    (λ made. (e : Event) (es : List Event) → c.args.journal.now ≡ es ++ e ∷ []
    → Replaces (apply n e) n made c.make_event.new.solution)
    (λ made done e es is.
    let same : e ≡ a = last_is es c.as_slice-events.result.now e a c.saturating_sub.result
    (c.as_slice-events.ensures.members ∙ is) c.saturating_sub.ensures
    c.in-Some.ensures.lookup.1 in
    subst (λ (x : Event). Replaces (apply n x) n made c.make_event.new.solution) (sym same) done)
    c.make_event.ensures.done
