-- The journal with the event at its end replays to what the event makes, which is a reduction away.
use Rattle.std.proofs.Common.{◌≡◌, Some, None, [], ◌∷◌, ℕ, List, length, take, ap, sym, ◌∙◌, subst}
use Rattle.std.proofs.Common.{is_some}
use Rattle.std.proofs.Math.Seq.{take-append_seam}
use Rattle.chem_model.specs.declared.event.Event.{Event}
use Rattle.chem_model.specs.declared.numbered.NumberedAtom.{NumberedAtom}
use Rattle.chem_model.specs.declared.numbered.Numbered.{Numbered}
use Rattle.chem_model.specs.Sound.{IsSound}
use Rattle.chem_model.specs.Apply.{apply, replay}
use Rattle.trace_history.specs.Kept.{BookKept, solution}
use Rattle.trace_history.specs.inside.Holds.{Holds}
use Rattle.book_store.specs.Older.{whole}
use Rattle.book_store.specs.declared.older.Older.{Older}
use Rattle.trace_history.proofs.Replays.{replaced, replay_pushed, unchanged}
use Rattle.trace_history.proofs.Committing.{moved_holds, stored_as}
use Rattle.trace_history.proofs.Holding.{left_sound, whole_sound, base_sound, sound_made}
use Rattle.trace_history.proofs.Holding.{event_made, event_not_made, not_replaced, enabled_in}
use Rattle.trace_history.proofs.Holding.{commits_place, commits_none}
use Rattle.book_store.proofs.SoundLaws.{sound_rest}
use Rattle.trace_history.proofs.Quiets.{one_reduction}
use Rattle.trace_history.proofs.book.Book.append.Goals as goal

pub ready-requires-clause-sound : goal.ready-requires-clause-sound
ready-requires-clause-sound c =
    let sound : (m : Numbered) → replay c.self.inside.program c.self.inside.journal ≡ Some m
    → IsSound m =
    subst (λ (b : BookKept). (m : Numbered) → solution b ≡ Some m → IsSound m) (sym c.self.view_is)
    c.is_sound.ensures in
    whole_sound (replay c.self.inside.program c.self.inside.journal)
    c.self.inside.store.older.table c.self.inside.solution c.self.invariant.0 sound

pub site_of-site-requires : goal.site_of-site-requires
site_of-site-requires c =
    let sound : (m : Numbered) → replay c.self.inside.program c.self.inside.journal ≡ Some m
    → IsSound m =
    subst (λ (b : BookKept). (m : Numbered) → solution b ≡ Some m → IsSound m) (sym c.self.view_is)
    c.is_sound.ensures in
    let o = replay c.self.inside.program c.self.inside.journal in
    let store = c.ready.new.store in
    let old = store.older.table in
    let n = c.ready.new.solution in
    let h : Holds o old n = moved_holds o c.self.inside.solution n c.self.inside.store store
    c.self.invariant.0 c.in_ok-ready.ensures.moves in
    base_sound o old n h sound

pub make_last-requires : goal.make_last-requires
make_last-requires c =
    let sound : (m : Numbered) → replay c.self.inside.program c.self.inside.journal ≡ Some m
    → IsSound m =
    subst (λ (b : BookKept). (m : Numbered) → solution b ≡ Some m → IsSound m) (sym c.self.view_is)
    c.is_sound.ensures in
    let o = replay c.self.inside.program c.self.inside.journal in
    let store = c.ready.new.store in
    let old = store.older.table in
    let n = c.ready.new.solution in
    let h : Holds o old n = moved_holds o c.self.inside.solution n c.self.inside.store store
    c.self.invariant.0 c.in_ok-ready.ensures.moves in
    base_sound o old n h sound

pub invariant_of-self-in-Ok-true : goal.invariant_of-self-in-Ok-true
invariant_of-self-in-Ok-true c =
    let sound : (m : Numbered) → replay c.self.inside.program c.self.inside.journal ≡ Some m
    → IsSound m =
    subst (λ (b : BookKept). (m : Numbered) → solution b ≡ Some m → IsSound m) (sym c.self.view_is)
    c.is_sound.ensures in
    let o = replay c.self.inside.program c.self.inside.journal in
    let store = c.ready.new.store in
    let old = store.older.table in
    let n = c.ready.new.solution in
    let h : Holds o old n = moved_holds o c.self.inside.solution n c.self.inside.store store
    c.self.invariant.0 c.in_ok-ready.ensures.moves in
    let e = c.args.event in
    let after = c.make_last.new.solution in
    let done = c.in-Ok-true.ensures.done e c.self.inside.journal c.in_ok-push.ensures.ok in
    let made : apply n e ≡ Some after =
    replaced _ n after c.in-Ok-true.field-0 done c.in-Ok-true.field-0-test in
    let m = event_made o old n h sound c.event_is_a_reduction.ensures e after
    c.in_ok-ready.ensures.gone made in
    let pushed : replay c.self.inside.program c.push.new.self ≡ Some m.after =
    replay_pushed c.self.inside.program c.self.inside.journal c.push.new.self e
    h.left m.after h.replays c.in_ok-push.ensures.ok m.applied in (
      subst (λ (xs : List NumberedAtom).
          Holds (replay c.self.inside.program c.push.new.self) xs after)
          (ap (λ (x : Older). x.table) (sym c.tidy.ensures.older))
          (m.holds (replay c.self.inside.program c.push.new.self) pushed),
      c.tidy.ensures.stored,
    )

pub tidy-requires : goal.tidy-requires
tidy-requires c =
    let sound : (m : Numbered) → replay c.self.inside.program c.self.inside.journal ≡ Some m
    → IsSound m =
    subst (λ (b : BookKept). (m : Numbered) → solution b ≡ Some m → IsSound m) (sym c.self.view_is)
    c.is_sound.ensures in
    let o = replay c.self.inside.program c.self.inside.journal in
    let store = c.ready.new.store in
    let old = store.older.table in
    let n = c.ready.new.solution in
    let h : Holds o old n = moved_holds o c.self.inside.solution n c.self.inside.store store
    c.self.invariant.0 c.in_ok-ready.ensures.moves in
    let e = c.args.event in
    let after = c.make_last.new.solution in
    let done = c.in-Ok-true.ensures.done e c.self.inside.journal c.in_ok-push.ensures.ok in
    let made : apply n e ≡ Some after =
    replaced _ n after c.in-Ok-true.field-0 done c.in-Ok-true.field-0-test in
    let all : IsSound (whole old after) =
    sound_made o old n h sound c.event_is_a_reduction.ensures e after
    c.in_ok-ready.ensures.gone made
    in record {
      sound = all;
      base = sound_rest old after all;
      stored = c.in_ok-ready.ensures.after after made;
    }

pub returns-in-Ok-true-clause-done : goal.returns-in-Ok-true-clause-done
returns-in-Ok-true-clause-done c =
    let sound : (m : Numbered) → replay c.self.inside.program c.self.inside.journal ≡ Some m
    → IsSound m =
    subst (λ (b : BookKept). (m : Numbered) → solution b ≡ Some m → IsSound m) (sym c.self.view_is)
    c.is_sound.ensures in
    let o = replay c.self.inside.program c.self.inside.journal in
    let store = c.ready.new.store in
    let old = store.older.table in
    let n = c.ready.new.solution in
    let h : Holds o old n = moved_holds o c.self.inside.solution n c.self.inside.store store
    c.self.invariant.0 c.in_ok-ready.ensures.moves in
    let e = c.args.event in
    let after = c.make_last.new.solution in
    let done = c.in-Ok-true.ensures.done e c.self.inside.journal c.in_ok-push.ensures.ok in
    let made : apply n e ≡ Some after =
    replaced _ n after c.in-Ok-true.field-0 done c.in-Ok-true.field-0-test in
    let m = event_made o old n h sound c.event_is_a_reduction.ensures e after
    c.in_ok-ready.ensures.gone made in
    let leads : solution c.args.self.now ≡ Some h.left = rw (← c.self.view_is) h.replays in
    commits_place c.args.self.now c.self.inside.program c.self.inside.journal c.push.new.self e
    c.len-place.result c.self.view_is
    (enabled_in c.args.self.now h.left e leads ∙ ap is_some m.applied)
    c.in_ok-push.ensures.ok c.len-place.ensures.count

pub returns-in-Ok-true-clause-reduction : goal.returns-in-Ok-true-clause-reduction
returns-in-Ok-true-clause-reduction c =
    let sound : (m : Numbered) → replay c.self.inside.program c.self.inside.journal ≡ Some m
    → IsSound m =
    subst (λ (b : BookKept). (m : Numbered) → solution b ≡ Some m → IsSound m) (sym c.self.view_is)
    c.is_sound.ensures in
    let o = replay c.self.inside.program c.self.inside.journal in
    let store = c.ready.new.store in
    let old = store.older.table in
    let n = c.ready.new.solution in
    let h : Holds o old n = moved_holds o c.self.inside.solution n c.self.inside.store store
    c.self.invariant.0 c.in_ok-ready.ensures.moves in
    let e = c.args.event in
    let after = c.make_last.new.solution in
    let done = c.in-Ok-true.ensures.done e c.self.inside.journal c.in_ok-push.ensures.ok in
    let made : apply n e ≡ Some after =
    replaced _ n after c.in-Ok-true.field-0 done c.in-Ok-true.field-0-test in
    let m = event_made o old n h sound c.event_is_a_reduction.ensures e after
    c.in_ok-ready.ensures.gone made in
    let pushed : replay c.self.inside.program c.push.new.self ≡ Some m.after =
    replay_pushed c.self.inside.program c.self.inside.journal c.push.new.self e
    h.left m.after h.replays c.in_ok-push.ensures.ok m.applied in
    let leads : solution c.args.self.now ≡ Some h.left = rw (← c.self.view_is) h.replays in
    one_reduction c.event_is_a_reduction.ensures (solution c.args.self.now)
    (replay c.self.inside.program c.push.new.self) h.left m.after e leads pushed
    m.applied (left_sound o old n h sound)

pub invariant_of-self-in-Ok-false : goal.invariant_of-self-in-Ok-false
invariant_of-self-in-Ok-false c =
    let o = replay c.self.inside.program c.self.inside.journal in
    let store = c.ready.new.store in
    let old = store.older.table in
    let n = c.ready.new.solution in
    let h : Holds o old n = moved_holds o c.self.inside.solution n c.self.inside.store store
    c.self.invariant.0 c.in_ok-ready.ensures.moves in
    let journal = c.self.inside.journal in
    let back : c.truncate.new.self ≡ journal =
    c.truncate.ensures ∙ ap (λ (k : ℕ). take k c.push.new.self) c.len-place.ensures.count
    ∙ ap (take (length journal)) c.in_ok-push.ensures.ok
    ∙ take-append_seam journal (c.args.event ∷ []) in
    let done =
    c.in-Ok-false.ensures.done c.args.event c.self.inside.journal c.in_ok-push.ensures.ok in
    let same : n ≡ c.make_last.new.solution =
    sym (unchanged _ n c.make_last.new.solution c.in-Ok-false.field-0 done
    c.in-Ok-false.field-0-test) in (
      subst
          (λ (l : List Event). Holds (replay c.self.inside.program l) old c.make_last.new.solution)
          (sym back) (subst (λ (x : Numbered). Holds o old x) same h),
      stored_as n c.make_last.new.solution store same c.in_ok-ready.ensures.stored,
    )

pub returns-in-Ok-false-clause-done : goal.returns-in-Ok-false-clause-done
returns-in-Ok-false-clause-done c =
    let sound : (m : Numbered) → replay c.self.inside.program c.self.inside.journal ≡ Some m
    → IsSound m =
    subst (λ (b : BookKept). (m : Numbered) → solution b ≡ Some m → IsSound m) (sym c.self.view_is)
    c.is_sound.ensures in
    let o = replay c.self.inside.program c.self.inside.journal in
    let store = c.ready.new.store in
    let old = store.older.table in
    let n = c.ready.new.solution in
    let h : Holds o old n = moved_holds o c.self.inside.solution n c.self.inside.store store
    c.self.invariant.0 c.in_ok-ready.ensures.moves in
    let journal = c.self.inside.journal in
    let back : c.truncate.new.self ≡ journal =
    c.truncate.ensures ∙ ap (λ (k : ℕ). take k c.push.new.self) c.len-place.ensures.count
    ∙ ap (take (length journal)) c.in_ok-push.ensures.ok
    ∙ take-append_seam journal (c.args.event ∷ []) in
    let leads : solution c.args.self.now ≡ Some h.left = rw (← c.self.view_is) h.replays in
    let e = c.args.event in
    let done = c.in-Ok-false.ensures.done e c.self.inside.journal c.in_ok-push.ensures.ok in
    let not : apply n e ≡ None =
    not_replaced _ n c.make_last.new.solution c.in-Ok-false.field-0 done
    c.in-Ok-false.field-0-test in
    commits_none c.args.self.now c.self.inside.program journal c.truncate.new.self e c.self.view_is
    (enabled_in c.args.self.now h.left e leads
    ∙ event_not_made o old n h sound e c.in_ok-ready.ensures.gone not) back

pub invariant_of-self-in-Err : goal.invariant_of-self-in-Err
invariant_of-self-in-Err c =
    let o = replay c.self.inside.program c.self.inside.journal in
    let store = c.ready.new.store in
    let old = store.older.table in
    let n = c.ready.new.solution in
    let h : Holds o old n = moved_holds o c.self.inside.solution n c.self.inside.store store
    c.self.invariant.0 c.in_ok-ready.ensures.moves in
    let journal = c.self.inside.journal in
    let back : c.truncate-in-Err.new.self ≡ journal =
    c.truncate-in-Err.ensures ∙ ap (λ (k : ℕ). take k c.push.new.self) c.len-place.ensures.count
    ∙ ap (take (length journal)) c.in_ok-push.ensures.ok
    ∙ take-append_seam journal (c.args.event ∷ []) in
    let same : n ≡ c.make_last.new.solution = sym c.in-Err.ensures.err in (
      subst
          (λ (l : List Event). Holds (replay c.self.inside.program l) old c.make_last.new.solution)
          (sym back) (subst (λ (x : Numbered). Holds o old x) same h),
      stored_as n c.make_last.new.solution store same c.in_ok-ready.ensures.stored,
    )
