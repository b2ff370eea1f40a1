-- A program has one schedule for each budget.
use Rattle.std.proofs.Common.{◌≡◌, ℕ, zero, suc, ◌+◌, List, [], ◌∷◌, Option, Some, None, refl, ap}
use Rattle.std.proofs.Common.{sym, ◌∙◌, subst, arith, length, ◌⊎◌, inl, inr}
use Rattle.chem_model.specs.declared.event.Event.{Event}
use Rattle.chem_model.specs.declared.numbered.Numbered.{Numbered}
use Rattle.chem_model.specs.Opening.{opening}
use Rattle.chem_model.specs.Apply.{apply}
use Rattle.chem_model.specs.Sound.{IsSound}
use Rattle.chem_model.specs.Laws.{OpeningIsAStart, EventIsAReduction}
use Rattle.trace_history.specs.declared.book.Found.{Found}
use Rattle.trace_history.specs.First.{IsFirst}
use Rattle.trace_history.specs.inside.Search.{IsFound}
use Rattle.trace_history.proofs.Replays.{same_some}
use Rattle.trace_history.proofs.OneFirst.{one_first}
use Rattle.trace_history.proofs.SomeFirst.{some_first}
use Rattle.site_runner.specs.Schedule.{after, IsSchedule, spent, stuck, first, HasOneSchedule}
use Rattle.site_runner.proofs.Going.{some_of, none_of}

-- the first event of a schedule, and the schedule from there
record BeginsJournal (budget : ℕ) (n : Numbered) (from : ℕ) (e : Event)
    (journal : List Event) : Type 0 where
  pub left : ℕ
  pub leaves : budget ≡ left + 1
  pub next : Numbered
  pub site : ℕ
  pub is_first : IsFirst n from site e
  pub leads : apply n e ≡ Some next
  pub rest : IsSchedule left next (after (length n.counts) site) journal

-- what a schedule's journal says of it
abbrev Says : ℕ → Numbered → ℕ → List Event → Type 0
Says budget n from [] = (budget ≡ 0) ⊎ ((e : Event) → apply n e ≡ None)
Says budget n from (e ∷ journal) = BeginsJournal budget n from e journal

says : {budget : ℕ} {n : Numbered} {from : ℕ} {journal : List Event}
    → IsSchedule budget n from journal → Says budget n from journal
says spent = inl refl
says (stuck h) = inr h
says (first {budget = left} {m = next} {site = site} f a s) = record {
  left = left;
  leaves = refl;
  next = next;
  site = site;
  is_first = f;
  leads = a;
  rest = s;
}

-- where a schedule has an event, it doesn't end
goes_on : (budget : ℕ) (n : Numbered) (from : ℕ) (e : Event) (journal : List Event)
    → BeginsJournal budget n from e journal → (budget ≡ 0) ⊎ ((e : Event) → apply n e ≡ None) → ⊥
goes_on budget n from e journal b (inl h) = let more = b.leaves in omega arith
goes_on budget n from e journal b (inr h) = let not = h e in let is = b.leads in cc

module _ (start : OpeningIsAStart) (law : EventIsAReduction) where
  -- two schedules from one solution have the same events
  same_journal : (budget : ℕ) (n : Numbered) (from : ℕ) → IsSound n → (one other : List Event)
      → IsSchedule budget n from one → IsSchedule budget n from other → one ≡ other
  same_journal budget n from sound [] [] s t = refl
  same_journal budget n from sound [] (f ∷ other) s t =
      absurd (goes_on budget n from f other (says t) (says s))
  same_journal budget n from sound (e ∷ one) [] s t =
      absurd (goes_on budget n from e one (says s) (says t))
  same_journal budget n from sound (e ∷ one) (f ∷ other) s t =
      let a : BeginsJournal budget n from e one = says s in
      let b : BeginsJournal budget n from f other = says t in
      let same = one_first n sound from a.site b.site e f a.is_first b.is_first in
      let next : b.next ≡ a.next =
      same_some b.next a.next (sym b.leads ∙ ap (apply n) (sym same.1) ∙ a.leads) in
      let one_left = a.leaves in
      let other_left = b.leaves in
      let left : b.left ≡ a.left = omega arith in
      let rest : IsSchedule a.left a.next (after (length n.counts) a.site) other =
      rw (sym next, sym left, same.0) b.rest in
      ap (λ x. x ∷ one) same.1
      ∙ ap (λ xs. f ∷ xs) (same_journal a.left a.next (after (length n.counts) a.site)
      (law n a.next e sound a.leads).sound one other a.rest rest)

  -- what was found goes on with what comes after it
  found_next : (budget : ℕ) (n : Numbered) (from : ℕ) → IsSound n
      → ((m : Numbered) (site : ℕ) → IsSound m
      → (journal : List Event) × IsSchedule budget m site journal)
      → (o : Option Found) → IsFound n from o
      → (journal : List Event) × IsSchedule (budget + 1) n from journal
  found_next budget n from sound later None h = ([], stuck (λ e. none_of (apply n e) (h e)))
  found_next budget n from sound later (Some f) h =
      let next = some_of (apply n f.event) h.0.possible in
      let rest =
      later next.0 (after (length n.counts) f.site) (law n next.0 f.event sound next.1).sound in
      (f.event ∷ rest.0, first h.0 next.1 rest.1)

  some_journal : (budget : ℕ) (n : Numbered) (from : ℕ) → IsSound n
      → (journal : List Event) × IsSchedule budget n from journal
  some_journal zero n from sound = ([], spent)
  some_journal (suc budget) n from sound =
      let found = some_first n sound from in
      let journal = found_next budget n from sound (some_journal budget) found.0 found.1 in
      let one_more : budget + 1 ≡ suc budget = omega arith in
      (journal.0, subst (λ (k : ℕ). IsSchedule k n from journal.0) one_more journal.1)

  pub one_schedule : HasOneSchedule
  one_schedule p is budget =
      let sound = (start p is).0 in
      let journal = some_journal budget (opening p) 0 sound in (
        journal.0,
        journal.1,
        λ other s. same_journal budget (opening p) 0 sound other journal.0 s journal.1,
      )
