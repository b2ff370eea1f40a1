-- No event is possible in what the journal leads to where none is in what the book has.
use Rattle.std.proofs.Common.{◌≡◌, Some, None, false, sym, subst, IsTrue, ◌↔◌, is_some}
use Rattle.chem_model.specs.declared.event.Event.{Event}
use Rattle.chem_model.specs.declared.numbered.Numbered.{Numbered}
use Rattle.chem_model.specs.Sound.{IsSound}
use Rattle.chem_model.specs.Apply.{apply, replay}
use Rattle.trace_history.specs.Kept.{BookKept, solution}
use Rattle.trace_history.proofs.Quiets.{stuck_book, quiet_book}
use Rattle.trace_history.proofs.Holding.{whole_sound, base_sound, left_sound, found_left}
use Rattle.trace_history.proofs.Holding.{stuck_whole}
use Rattle.trace_history.proofs.book.Book.quiet.Goals as goal

pub is_stuck-requires-clause-all : goal.is_stuck-requires-clause-all
is_stuck-requires-clause-all c =
    let sound : (m : Numbered) → replay c.self.inside.program c.self.inside.journal ≡ Some m
    → IsSound m =
    subst (λ (b : BookKept). (m : Numbered) → solution b ≡ Some m → IsSound m) (sym c.self.view_is)
    c.is_sound.ensures in
    let o = replay c.self.inside.program c.self.inside.journal in
    let old = c.self.inside.store.older.table in
    let n = c.self.inside.solution in
    let h = c.self.invariant.0 in
    whole_sound o old n h sound

pub is_stuck-requires-clause-sound : goal.is_stuck-requires-clause-sound
is_stuck-requires-clause-sound c =
    let sound : (m : Numbered) → replay c.self.inside.program c.self.inside.journal ≡ Some m
    → IsSound m =
    subst (λ (b : BookKept). (m : Numbered) → solution b ≡ Some m → IsSound m) (sym c.self.view_is)
    c.is_sound.ensures in
    let o = replay c.self.inside.program c.self.inside.journal in
    let old = c.self.inside.store.older.table in
    let n = c.self.inside.solution in
    let h = c.self.invariant.0 in
    base_sound o old n h sound

pub returns-clause-stuck : goal.returns-clause-stuck
returns-clause-stuck c =
    let sound : (m : Numbered) → replay c.self.inside.program c.self.inside.journal ≡ Some m
    → IsSound m =
    subst (λ (b : BookKept). (m : Numbered) → solution b ≡ Some m → IsSound m) (sym c.self.view_is)
    c.is_sound.ensures in
    let o = replay c.self.inside.program c.self.inside.journal in
    let old = c.self.inside.store.older.table in
    let n = c.self.inside.solution in
    let h = c.self.invariant.0 in
    let leads : solution c.args.self.now ≡ Some h.left = rw (← c.self.view_is) h.replays in
    let t = c.is_stuck.result in
    let tells : IsTrue t ↔ ((f : Event) → is_some (apply h.left f) ≡ false) = (
      λ is. found_left o old n h sound 0 None (c.is_stuck.ensures.0 is),
      λ none. c.is_stuck.ensures.1 (stuck_whole o old n h sound 0 none),
    ) in
    stuck_book c.args.self.now h.left leads t tells

pub returns-clause-machine : goal.returns-clause-machine
returns-clause-machine c =
    let sound : (m : Numbered) → replay c.self.inside.program c.self.inside.journal ≡ Some m
    → IsSound m =
    subst (λ (b : BookKept). (m : Numbered) → solution b ≡ Some m → IsSound m) (sym c.self.view_is)
    c.is_sound.ensures in
    let o = replay c.self.inside.program c.self.inside.journal in
    let old = c.self.inside.store.older.table in
    let n = c.self.inside.solution in
    let h = c.self.invariant.0 in
    let leads : solution c.args.self.now ≡ Some h.left = rw (← c.self.view_is) h.replays in
    let t = c.is_stuck.result in
    let tells : IsTrue t ↔ ((f : Event) → is_some (apply h.left f) ≡ false) = (
      λ is. found_left o old n h sound 0 None (c.is_stuck.ensures.0 is),
      λ none. c.is_stuck.ensures.1 (stuck_whole o old n h sound 0 none),
    ) in
    quiet_book c.args.self.now h.left leads (left_sound o old n h sound) c.stuck_is_quiet.ensures t
    tells
