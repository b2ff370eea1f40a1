-- The event comes first in what the journal leads to, and its site is one of the program.
use Rattle.std.proofs.Common.{◌≡◌, ◌<◌, length, Some, None, sym, subst}
use Rattle.std.specs.Prelude.{IfSome}
use Rattle.std.proofs.lemmas.Result.{IfOk-weaker, IfErr-weaker}
use Rattle.chem_model.specs.declared.numbered.Numbered.{Numbered}
use Rattle.chem_model.specs.Sound.{IsSound}
use Rattle.chem_model.specs.Apply.{replay}
use Rattle.trace_history.specs.Kept.{BookKept, solution}
use Rattle.trace_history.specs.Book.{IsStuck, Finds}
use Rattle.trace_history.specs.inside.Search.{IsFound}
use Rattle.book_store.specs.Older.{whole}
use Rattle.trace_history.proofs.Quiets.{found_site, stuck_found}
use Rattle.trace_history.proofs.Holding.{whole_sound, base_sound, found_left, stuck_whole, finds_of}
use Rattle.trace_history.proofs.book.Book.first_enabled.Goals as goal

pub first_event-requires-clause-all : goal.first_event-requires-clause-all
first_event-requires-clause-all c =
    let sound : (m : Numbered) → replay c.self.inside.program c.self.inside.journal ≡ Some m
    → IsSound m =
    subst (λ (b : BookKept). (m : Numbered) → solution b ≡ Some m → IsSound m) (sym c.self.view_is)
    c.is_sound.ensures in
    let o = replay c.self.inside.program c.self.inside.journal in
    let old = c.self.inside.store.older.table in
    let n = c.self.inside.solution in
    let h = c.self.invariant.0 in
    whole_sound o old n h sound

pub first_event-requires-clause-sound : goal.first_event-requires-clause-sound
first_event-requires-clause-sound c =
    let sound : (m : Numbered) → replay c.self.inside.program c.self.inside.journal ≡ Some m
    → IsSound m =
    subst (λ (b : BookKept). (m : Numbered) → solution b ≡ Some m → IsSound m) (sym c.self.view_is)
    c.is_sound.ensures in
    let o = replay c.self.inside.program c.self.inside.journal in
    let old = c.self.inside.store.older.table in
    let n = c.self.inside.solution in
    let h = c.self.invariant.0 in
    base_sound o old n h sound

pub returns-clause-first : goal.returns-clause-first
returns-clause-first c =
    let sound : (m : Numbered) → replay c.self.inside.program c.self.inside.journal ≡ Some m
    → IsSound m =
    subst (λ (b : BookKept). (m : Numbered) → solution b ≡ Some m → IsSound m) (sym c.self.view_is)
    c.is_sound.ensures in
    let o = replay c.self.inside.program c.self.inside.journal in
    let old = c.self.inside.store.older.table in
    let n = c.self.inside.solution in
    let h = c.self.invariant.0 in
    let leads : solution c.args.self.now ≡ Some h.left = rw (← c.self.view_is) h.replays in
    IfOk-weaker c.first_event.result (IsFound (whole old n) c.args.from)
    (Finds c.args.self.now c.args.from)
    (λ f found. finds_of c.args.self.now h.left leads c.args.from f
    (found_left o old n h sound c.args.from f found)) c.first_event.ensures.found

pub returns-clause-site : goal.returns-clause-site
returns-clause-site c =
    let sound : (m : Numbered) → replay c.self.inside.program c.self.inside.journal ≡ Some m
    → IsSound m =
    subst (λ (b : BookKept). (m : Numbered) → solution b ≡ Some m → IsSound m) (sym c.self.view_is)
    c.is_sound.ensures in
    let o = replay c.self.inside.program c.self.inside.journal in
    let old = c.self.inside.store.older.table in
    let n = c.self.inside.solution in
    let h = c.self.invariant.0 in
    let leads : solution c.args.self.now ≡ Some h.left = rw (← c.self.view_is) h.replays in
    IfOk-weaker c.first_event.result (IsFound (whole old n) c.args.from)
    (λ f. IfSome f (λ e. e.site < length c.args.self.now.program.sites))
    (λ f found. found_site c.args.self.now h.left leads c.args.from f
    (found_left o old n h sound c.args.from f found)) c.first_event.ensures.found

pub returns-clause-memory : goal.returns-clause-memory
returns-clause-memory c =
    let sound : (m : Numbered) → replay c.self.inside.program c.self.inside.journal ≡ Some m
    → IsSound m =
    subst (λ (b : BookKept). (m : Numbered) → solution b ≡ Some m → IsSound m) (sym c.self.view_is)
    c.is_sound.ensures in
    let o = replay c.self.inside.program c.self.inside.journal in
    let old = c.self.inside.store.older.table in
    let n = c.self.inside.solution in
    let h = c.self.invariant.0 in
    let leads : solution c.args.self.now ≡ Some h.left = rw (← c.self.view_is) h.replays in
    IfErr-weaker c.first_event.result (λ _. IsFound (whole old n) c.args.from None → ⊥)
    (λ _. IsStuck c.args.self.now → ⊥)
    (λ _ g stuck. g (stuck_whole o old n h sound
    c.args.from (stuck_found c.args.self.now h.left leads c.args.from stuck)))
    c.first_event.ensures.memory
