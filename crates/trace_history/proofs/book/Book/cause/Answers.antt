-- The cause in what the journal leads to is that in what the book has.
use Rattle.std.proofs.Common.{◌≡◌, Some, sym, subst}
use Rattle.chem_model.specs.declared.numbered.Numbered.{Numbered}
use Rattle.chem_model.specs.Sound.{IsSound}
use Rattle.chem_model.specs.Apply.{replay}
use Rattle.trace_history.specs.Kept.{BookKept, solution}
use Rattle.trace_history.proofs.Holding.{whole_sound, base_sound, possible_whole}
use Rattle.trace_history.proofs.LeftLaws.{left_in, left_book}
use Rattle.trace_history.proofs.book.Book.cause.Goals as goal

pub left_at-requires-clause-all : goal.left_at-requires-clause-all
left_at-requires-clause-all c =
    let sound : (m : Numbered) → replay c.self.inside.program c.self.inside.journal ≡ Some m
    → IsSound m =
    subst (λ (b : BookKept). (m : Numbered) → solution b ≡ Some m → IsSound m) (sym c.self.view_is)
    c.is_sound.ensures in
    let o = replay c.self.inside.program c.self.inside.journal in
    let old = c.self.inside.store.older.table in
    let n = c.self.inside.solution in
    let h = c.self.invariant.0 in
    whole_sound o old n h sound

pub left_at-requires-clause-sound : goal.left_at-requires-clause-sound
left_at-requires-clause-sound c =
    let sound : (m : Numbered) → replay c.self.inside.program c.self.inside.journal ≡ Some m
    → IsSound m =
    subst (λ (b : BookKept). (m : Numbered) → solution b ≡ Some m → IsSound m) (sym c.self.view_is)
    c.is_sound.ensures in
    let o = replay c.self.inside.program c.self.inside.journal in
    let old = c.self.inside.store.older.table in
    let n = c.self.inside.solution in
    let h = c.self.invariant.0 in
    base_sound o old n h sound

pub returns : goal.returns
returns c =
    let sound : (m : Numbered) → replay c.self.inside.program c.self.inside.journal ≡ Some m
    → IsSound m =
    subst (λ (b : BookKept). (m : Numbered) → solution b ≡ Some m → IsSound m) (sym c.self.view_is)
    c.is_sound.ensures in
    let o = replay c.self.inside.program c.self.inside.journal in
    let old = c.self.inside.store.older.table in
    let n = c.self.inside.solution in
    let h = c.self.invariant.0 in
    let leads : solution c.args.self.now ≡ Some h.left = rw (← c.self.view_is) h.replays in
    left_book c.args.self.now h.left leads c.args.atom.now c.left_at.result (left_in o old n h
    (possible_whole o old n h sound) c.args.atom.now c.left_at.result c.left_at.ensures)
