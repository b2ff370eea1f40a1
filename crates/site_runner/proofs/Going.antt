-- A run on its way: what it appended so far is the beginning of a schedule.
use Rattle.std.proofs.Common.{◌≡◌, ℕ, ◌+◌, ◌-◌, ◌<◌, ◌≤◌, List, [], ◌∷◌, ◌++◌, Option, Some, None}
use Rattle.std.proofs.Common.{true, false, refl, ap, sym, ◌∙◌, subst, arith, length, length-append}
use Rattle.std.proofs.Common.{append_assoc, append-nil, inl, inr, is_some}
use Rattle.std.specs.Prelude.{Result, Ok, Err, OnErr}
use Rattle.chem_model.specs.declared.event.Event.{Event}
use Rattle.chem_model.specs.declared.numbered.Numbered.{Numbered}
use Rattle.chem_model.specs.ProgramFacts.{ProgramTerms, IsProgram}
use Rattle.chem_model.specs.Opening.{opening}
use Rattle.chem_model.specs.Apply.{apply, apply_if, replay}
use Rattle.trace_history.specs.declared.book.Commit.{Commit}
use Rattle.trace_history.specs.declared.book.Commit.TheVariants.{Place, NotEnabled}
use Rattle.trace_history.specs.declared.book.Found.{Found}
use Rattle.trace_history.specs.Kept.{BookKept, solution, is_enabled}
use Rattle.trace_history.specs.First.{IsFirst}
use Rattle.trace_history.specs.Book.{Commits, IsStuck}
use Rattle.trace_history.proofs.Replays.{replay_more, replay_sites}
use Rattle.site_runner.specs.Schedule.{after, IsSchedule, spent, stuck, first, ScheduleOf}
use Rattle.site_runner.specs.Run.{RunsOn}

-- each schedule that goes on from here is the rest of one from the beginning
pub record Goes (old : BookKept) (budget : ℕ) (now : BookKept) (from : ℕ) : Type 0 where
  pub program : now.program ≡ old.program
  pub added : List Event
  pub journal : now.journal ≡ old.journal ++ added
  pub last : Numbered
  pub leads : solution now ≡ Some last
  pub schedule : (n : Numbered) → solution old ≡ Some n → (rest : List Event)
      → IsSchedule (budget - length now.journal) last from rest
      → IsSchedule (budget - length old.journal) n 0 (added ++ rest)

same_some : {X : Type 0} (x y : X) → Some x ≡ Some y → x ≡ y
same_some x y e = cc

-- at the beginning
pub begins : (b : BookKept) (budget : ℕ) (n : Numbered) → solution b ≡ Some n → Goes b budget b 0
begins b budget n e = record {
  program = refl;
  added = [];
  journal = sym (append-nil b.journal);
  last = n;
  leads = e;
  schedule = λ m f rest s. subst (λ (x : Numbered). IsSchedule (budget - length b.journal) x 0 rest)
      (same_some n m (sym e ∙ f)) s;
}

one_more : {X : Type 0} (xs : List X) (x : X) → length (xs ++ x ∷ []) ≡ length xs + 1
one_more xs x = length-append xs (x ∷ [])

append_one : {X : Type 0} (xs : List X) (x : X) (ys : List X)
    → (xs ++ x ∷ []) ++ ys ≡ xs ++ (x ∷ ys)
append_one [] x ys = refl
append_one (y ∷ xs) x ys = ap (λ zs. y ∷ zs) (append_one xs x ys)

pub some_of : (o : Option Numbered) → is_some o ≡ true → (m : Numbered) × (o ≡ Some m)
some_of None e = cc
some_of (Some m) e = (m, refl)

-- where an event comes first, the book isn't stuck
pub first_not_stuck : (b : BookKept) (n : Numbered) → solution b ≡ Some n
    → (from site : ℕ) (e : Event) → IsFirst n from site e → IsStuck b → ⊥
first_not_stuck b n leads from site e finds still =
    let enabled : is_enabled b e ≡ is_some (apply n e) = ap (λ o. is_some (apply_if o e)) leads in
    let possible = finds.possible in
    let not = still e in
    cc

-- a run that began where no event is possible makes none
pub still_stuck : (old now new : BookKept) → (IsStuck old → IsStuck now) → (IsStuck now → ⊥)
    → IsStuck old → IsStuck new
still_stuck old now new keeps not still = elim (not (keeps still)) [ ]

-- on want of memory at an event, one was possible at the beginning
pub possible_on_err : {X Y : Type 0} (o : Result X Y) (old now : BookKept)
    → (IsStuck old → IsStuck now) → (IsStuck now → ⊥) → OnErr o (IsStuck old → ⊥)
possible_on_err (Ok x) old now keeps not = tt
possible_on_err (Err y) old now keeps not = λ still. not (keeps still)

-- one more event, the first one
module _ (old : BookKept) (budget : ℕ) (now : BookKept) (from : ℕ) (g : Goes old budget now from)
    (f : Found) (finds : IsFirst g.last from f.site f.event)
    (low : length now.journal < budget) where
  next : (m : Numbered) × (apply g.last f.event ≡ Some m)
  next = some_of (apply g.last f.event) finds.possible

  pub after_event : (sites : ℕ) → sites ≡ length old.program.sites → (c : Commit) (new : BookKept)
      → Commits now f.event c new
      → Goes old budget new (after sites f.site) × (length new.journal ≡ length now.journal + 1)
  after_event sites is (Place k) new h = (
    record {
      program = ap (λ (b : BookKept). b.program) h.2 ∙ g.program;
      added = g.added ++ f.event ∷ [];
      journal = ap (λ (b : BookKept). b.journal) h.2
          ∙ ap (λ (j : List Event). j ++ f.event ∷ []) g.journal
          ∙ append_assoc old.journal g.added (f.event ∷ []);
      last = next.0;
      leads = ap solution h.2
          ∙ replay_more now.program now.journal f.event g.last next.0 g.leads next.1;
      schedule = goes_on;
    },
    longer,
  )
    where
      longer : length new.journal ≡ length now.journal + 1
      longer = ap (λ (b : BookKept). length b.journal) h.2 ∙ one_more now.journal f.event

      counts : length g.last.counts ≡ sites
      counts = replay_sites now.program now.journal g.last g.leads
          ∙ ap (λ (p : ProgramTerms). length p.sites) g.program ∙ sym is

      left : (budget - length new.journal) + 1 ≡ budget - length now.journal
      left = let l = longer in omega arith

      goes_on : (n : Numbered) → solution old ≡ Some n → (rest : List Event)
          → IsSchedule (budget - length new.journal) next.0 (after sites f.site) rest
          → IsSchedule (budget - length old.journal) n 0 ((g.added ++ f.event ∷ []) ++ rest)
      goes_on n e rest s =
          let s' : IsSchedule (budget - length new.journal)
          next.0 (after (length g.last.counts) f.site) rest =
          subst (λ (k : ℕ). IsSchedule (budget - length new.journal) next.0 (after k f.site) rest)
          (sym counts) s in
          let t : IsSchedule ((budget - length new.journal) + 1) g.last from (f.event ∷ rest) =
          first finds next.1 s' in
          let u : IsSchedule (budget - length now.journal) g.last from (f.event ∷ rest) =
          subst (λ (k : ℕ). IsSchedule k g.last from (f.event ∷ rest)) left t in
          subst (λ (j : List Event). IsSchedule (budget - length old.journal) n 0 j)
          (sym (append_one g.added f.event rest)) (g.schedule n e (f.event ∷ rest) u)
  after_event sites is NotEnabled new h =
      let possible : is_enabled now f.event ≡ true =
      ap (λ o. is_some (apply_if o f.event)) g.leads ∙ finds.possible in
      let not = h.0 in cc

-- ---- at the end

pub none_of : (o : Option Numbered) → is_some o ≡ false → o ≡ None
none_of None e = refl
none_of (Some m) e = cc

-- where no event is possible
pub stops : (old : BookKept) (budget : ℕ) (now : BookKept) (from : ℕ) (g : Goes old budget now from)
    → length now.journal ≤ budget → IsStuck now → RunsOn old budget now
stops old budget now from g within h = record {
  program = g.program;
  added = g.added;
  journal = g.journal;
  schedule = λ n e. subst (λ (j : List Event). IsSchedule (budget - length old.journal) n 0 j)
      (append-nil g.added) (g.schedule n e [] (stuck
      (λ x. none_of (apply g.last x) (ap (λ o. is_some (apply_if o x)) (sym g.leads) ∙ h x))));
  within = within;
  ends = inl h;
}

-- where the budget is spent
pub is_spent :
    (old : BookKept) (budget : ℕ) (now : BookKept) (from : ℕ) (g : Goes old budget now from)
    → length now.journal ≡ budget → RunsOn old budget now
is_spent old budget now from g h = record {
  program = g.program;
  added = g.added;
  journal = g.journal;
  schedule = λ n e. subst (λ (j : List Event). IsSchedule (budget - length old.journal) n 0 j)
      (append-nil g.added)
      (g.schedule n e [] (nothing (budget - length now.journal) (omega arith)));
  within = omega (arith, h);
  ends = inr h;
}
  where
    nothing : (k : ℕ) → k ≡ 0 → IsSchedule k g.last from []
    nothing k e = subst (λ (i : ℕ). IsSchedule i g.last from []) (sym e) spent

-- from an empty journal the whole journal is the program's schedule
pub whole : (old : BookKept) (budget : ℕ) (new : BookKept) → RunsOn old budget new
    → old.journal ≡ [] → ScheduleOf old.program budget new.journal
whole old budget new r e =
    let leads : solution old ≡ Some (opening old.program) = ap (replay old.program) e in
    let s = r.schedule (opening old.program) leads in
    let empty : length old.journal ≡ 0 = ap length e in
    let left : budget - length old.journal ≡ budget = omega arith in
    let journal : new.journal ≡ r.added = r.journal ∙ ap (λ (j : List Event). j ++ r.added) e in
    subst (λ (j : List Event). IsSchedule budget (opening old.program) 0 j) (sym journal)
    (subst (λ (k : ℕ). IsSchedule k (opening old.program) 0 r.added) left s)

-- a program has a site
pub some_site : (p q : ProgramTerms) → IsProgram p → p ≡ q → 0 < length q.sites
some_site p q h e =
    let one = h.some_site in
    let here : 0 < length p.sites = omega arith in
    subst (λ (x : ProgramTerms). 0 < length x.sites) e here
