-- An event is possible in what the journal leads to where it is in what the book has.
use Rattle.std.proofs.Common.{◌≡◌, Some, sym, ◌∙◌, subst}
use Rattle.chem_model.specs.declared.numbered.Numbered.{Numbered}
use Rattle.chem_model.specs.Sound.{IsSound}
use Rattle.chem_model.specs.Apply.{replay}
use Rattle.trace_history.specs.Kept.{BookKept, solution}
use Rattle.trace_history.proofs.Holding.{possible_whole, enabled_in}
use Rattle.trace_history.proofs.book.Book.enabled.Goals as goal

pub returns : goal.returns
returns c =
    let sound : (m : Numbered) → replay c.self.inside.program c.self.inside.journal ≡ Some m
    → IsSound m =
    subst (λ (b : BookKept). (m : Numbered) → solution b ≡ Some m → IsSound m) (sym c.self.view_is)
    c.is_sound.ensures in
    let o = replay c.self.inside.program c.self.inside.journal in
    let old = c.self.inside.store.older.table in
    let n = c.self.inside.solution in
    let h = c.self.invariant.0 in
    let leads : solution c.args.self.now ≡ Some h.left = rw (← c.self.view_is) h.replays in
    c.is_possible.ensures ∙ sym (possible_whole o old n h sound c.args.event.now)
    ∙ sym (enabled_in c.args.self.now h.left c.args.event.now leads)
