-- The cause in what the journal leads to is that in what the book has.
use Rattle.std.proofs.Common.{◌≡◌, Some, sym, subst}
use Rattle.std.proofs.lemmas.Result.{IfOk-weaker}
use Rattle.trace_history.specs.Book.{OnItsSolution}
use Rattle.book_store.specs.Older.{whole}
use Rattle.trace_history.specs.Left.{AreLeft}
use Rattle.chem_model.specs.declared.numbered.Numbered.{Numbered}
use Rattle.chem_model.specs.Sound.{IsSound}
use Rattle.chem_model.specs.Apply.{replay}
use Rattle.trace_history.specs.Kept.{BookKept, solution}
use Rattle.trace_history.proofs.Holding.{whole_sound, base_sound, possible_whole}
use Rattle.trace_history.proofs.LeftLaws.{all_left_in, all_left_book}
use Rattle.trace_history.proofs.book.Book.causes.Goals as goal

pub all_left-requires-clause-all : goal.all_left-requires-clause-all
all_left-requires-clause-all c =
    let sound : (m : Numbered) → replay c.self.inside.program c.self.inside.journal ≡ Some m
    → IsSound m =
    subst (λ (b : BookKept). (m : Numbered) → solution b ≡ Some m → IsSound m) (sym c.self.view_is)
    c.is_sound.ensures in
    let o = replay c.self.inside.program c.self.inside.journal in
    let old = c.self.inside.store.older.table in
    let n = c.self.inside.solution in
    let h = c.self.invariant.0 in
    whole_sound o old n h sound

pub all_left-requires-clause-sound : goal.all_left-requires-clause-sound
all_left-requires-clause-sound c =
    let sound : (m : Numbered) → replay c.self.inside.program c.self.inside.journal ≡ Some m
    → IsSound m =
    subst (λ (b : BookKept). (m : Numbered) → solution b ≡ Some m → IsSound m) (sym c.self.view_is)
    c.is_sound.ensures in
    let o = replay c.self.inside.program c.self.inside.journal in
    let old = c.self.inside.store.older.table in
    let n = c.self.inside.solution in
    let h = c.self.invariant.0 in
    base_sound o old n h sound

pub returns : goal.returns
returns c =
    let sound : (m : Numbered) → replay c.self.inside.program c.self.inside.journal ≡ Some m
    → IsSound m =
    subst (λ (b : BookKept). (m : Numbered) → solution b ≡ Some m → IsSound m) (sym c.self.view_is)
    c.is_sound.ensures in
    let o = replay c.self.inside.program c.self.inside.journal in
    let old = c.self.inside.store.older.table in
    let n = c.self.inside.solution in
    let h = c.self.invariant.0 in
    let leads : solution c.args.self.now ≡ Some h.left = rw (← c.self.view_is) h.replays in
    IfOk-weaker c.all_left.result (AreLeft (whole old n))
    (λ lefts. OnItsSolution c.args.self.now (λ m. AreLeft m lefts))
    (λ lefts is. all_left_book c.args.self.now h.left leads lefts
    (all_left_in o old n h (possible_whole o old n h sound) lefts is)) c.all_left.ensures
