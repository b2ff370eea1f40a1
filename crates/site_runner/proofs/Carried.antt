-- What the workers leave of the passes, and of the journal after the finish on one thread.
use Rattle.std.proofs.Common.{◌≡◌, ◌≢◌, ℕ, zero, suc, ◌-◌, ◌<◌, List, [], ◌∷◌, ◌++◌, length, take}
use Rattle.std.proofs.Common.{drop, map, refl, ap, sym, ◌∙◌, subst, arith, Option, Some, None}
use Rattle.std.proofs.Common.{IfSome, Result, Ok, Err, IfOk, is_some, true}
use Rattle.std.specs.Prelude.{slice_get}
use Rattle.chem_model.specs.Each.{Each}
use Rattle.chem_model.specs.ProgramFacts.{ProgramTerms}
use Rattle.chem_model.specs.declared.event.Event.{Event}
use Rattle.chem_model.specs.declared.memory.Memory.{Memory}
use Rattle.trace_history.specs.Kept.{BookKept}
use Rattle.trace_history.specs.Book.{OnItsSolution}
use Rattle.shared_net.specs.declared.closing.Closed.{Closed}
use Rattle.shared_net.specs.declared.closing.Closed.TheVariants as closed
use Rattle.shared_net.specs.declared.differs.Differs.{Differs}
use Rattle.shared_net.specs.declared.receipt.Receipt.{Receipt}
use Rattle.shared_net.specs.declared.report.Worked.{Worked}
use Rattle.shared_net.specs.Agrees.{row_of, all_receipts, Stands}
use Rattle.shared_net.specs.Causes.{DifferInNumber, IsCause, IsOfStarted}
use Rattle.shared_net.specs.Closes.{IsAgreed, HaveBudget, Closes}
use Rattle.shared_net.specs.Passes.{PassKept}
use Rattle.shared_net.specs.Reports.{Reported}
use Rattle.shared_net.specs.Turning.{HaveSameOwners}
use Rattle.site_runner.specs.declared.outcome.Done.{Done}
use Rattle.site_runner.specs.Free.{IsFinished, HasEnded, AreRows, AreFirst, GoesOnAlone, HasCause}
use Rattle.site_runner.specs.Free.{IsMadeWith, IsFree}
use Rattle.site_runner.specs.inside.Rows.{rows_of}
use Rattle.site_runner.specs.Run.{RunsOn}
use Rattle.site_runner.specs.Schedule.{IsSchedule, ScheduleOf}

pub lent_whole : (old w : List PassKept) → length w ≡ length old
    → take (length old) (w ++ drop (length w) old) ≡ w
lent_whole [] [] l = refl
lent_whole [] (x ∷ xs) l = absurd (omega arith)
lent_whole (o ∷ os) [] l = absurd (omega arith)
lent_whole (o ∷ os) (x ∷ xs) l =
    ap (λ (ys : List PassKept). x ∷ ys) (lent_whole os xs (omega arith))

head_same : (a b : ℕ × ℕ) (cs ds : List (ℕ × ℕ)) → a ∷ cs ≡ b ∷ ds → a ≡ b
head_same a b cs ds e = cc

tail_same : (a b : ℕ × ℕ) (cs ds : List (ℕ × ℕ)) → a ∷ cs ≡ b ∷ ds → cs ≡ ds
tail_same a b cs ds e = cc

no_cons : (a : ℕ × ℕ) (cs : List (ℕ × ℕ)) → [] ≡ a ∷ cs → ⊥
no_cons a cs e = cc

pub same_length : (xs ys : List PassKept) → HaveSameOwners xs ys → length ys ≡ length xs
same_length [] [] e = refl
same_length [] (y ∷ ys) e = absurd (no_cons _ _ (sym e))
same_length (x ∷ xs) [] e = absurd (no_cons _ _ e)
same_length (x ∷ xs) (y ∷ ys) e = let rest = same_length xs ys (tail_same _ _ _ _ e) in omega arith

pub same_budgets : (budget : ℕ) (xs ys : List PassKept) → HaveSameOwners xs ys
    → HaveBudget budget xs → HaveBudget budget ys
same_budgets budget [] [] e each = tt
same_budgets budget [] (y ∷ ys) e each = absurd (no_cons _ _ (sym e))
same_budgets budget (x ∷ xs) [] e each = tt
same_budgets budget (x ∷ xs) (y ∷ ys) e each = (
  ap (λ (o : ℕ × ℕ). o.1) (head_same _ _ _ _ e) ∙ each.0,
  same_budgets budget xs ys (tail_same _ _ _ _ e) each.1,
)

pub same_numbers : (xs ys : List PassKept) → HaveSameOwners xs ys
    → map (λ (w : Worked). w.number) (map row_of ys) ≡ map (λ (p : PassKept). p.number) xs
same_numbers [] [] e = refl
same_numbers [] (y ∷ ys) e = absurd (no_cons _ _ (sym e))
same_numbers (x ∷ xs) [] e = absurd (no_cons _ _ e)
same_numbers (x ∷ xs) (y ∷ ys) e =
    let first : y.number ≡ x.number = ap (λ (o : ℕ × ℕ). o.0) (head_same _ _ _ _ e) in
    let rest = same_numbers xs ys (tail_same _ _ _ _ e) in
    ap (λ (n : ℕ). n ∷ map (λ (w : Worked). w.number) (map row_of ys)) first
    ∙ ap (λ (ns : List ℕ). x.number ∷ ns) rest

others : (n : ℕ) (xs ys : List PassKept) → HaveSameOwners xs ys
    → Each (λ v. v.number ≢ n) (map row_of xs) → Each (λ v. v.number ≢ n) (map row_of ys)
others n [] [] e each = tt
others n [] (y ∷ ys) e each = absurd (no_cons _ _ (sym e))
others n (x ∷ xs) [] e each = tt
others n (x ∷ xs) (y ∷ ys) e each = (
  (λ is. each.0 (ap (λ (o : ℕ × ℕ). o.0) (sym (head_same _ _ _ _ e)) ∙ is)),
  others n xs ys (tail_same _ _ _ _ e) each.1,
)

pub same_apart : (xs ys : List PassKept) → HaveSameOwners xs ys → DifferInNumber (map row_of xs)
    → DifferInNumber (map row_of ys)
same_apart [] [] e apart = tt
same_apart [] (y ∷ ys) e apart = absurd (no_cons _ _ (sym e))
same_apart (x ∷ xs) [] e apart = tt
same_apart (x ∷ xs) (y ∷ ys) e apart =
    let is : x.number ≡ y.number = ap (λ (o : ℕ × ℕ). o.0) (sym (head_same _ _ _ _ e)) in (
      subst (λ (n : ℕ). Each (λ v. v.number ≢ n) (map row_of ys)) is
          (others x.number xs ys (tail_same _ _ _ _ e) apart.0),
      same_apart xs ys (tail_same _ _ _ _ e) apart.1,
    )

pub have_ended : (sites : ℕ) (ps : List PassKept) → Each (λ p. HasEnded sites (row_of p)) ps
    → Each (HasEnded sites) (map row_of ps)
have_ended sites [] each = tt
have_ended sites (p ∷ ps) each = (each.0, have_ended sites ps each.1)

stays : (xs ys : List Event) (k : ℕ) (x : Event) → slice_get xs k ≡ Some x
    → slice_get (xs ++ ys) k ≡ Some x
stays [] ys k x e = absurd cc
stays (y ∷ xs) ys zero x e = e
stays (y ∷ xs) ys (suc k) x e = stays xs ys k x e

pub still_stand : (xs ys : List Event) (rs : List Receipt) → Each (Stands xs) rs
    → Each (Stands (xs ++ ys)) rs
still_stand xs ys [] each = tt
still_stand xs ys (r ∷ rs) each = (stays xs ys r.place r.event each.0, still_stand xs ys rs each.1)

-- ---- how the run was made

pub are_rows : (sites : ℕ) (old w : List PassKept) → HaveSameOwners old w
    → Each (λ p. HasEnded sites (row_of p)) w
    → AreRows sites (map (λ (p : PassKept). p.number) old) (map row_of w)
are_rows sites old w same ended =
    record { numbered = same_numbers old w same; ended = have_ended sites w ended }

-- the receipts agree with the beginning of a journal
pub are_first :
    (program : ProgramTerms) (budget : ℕ) (rows : List Worked) (book : BookKept)
    (final : List Event) (events : ℕ) (added : List Event)
    → IsAgreed program budget rows book → events ≡ length book.journal
    → final ≡ book.journal ++ added
    → AreFirst events (all_receipts rows) final
are_first program budget rows book final events added agreed many more = record {
  as_many = agreed.as_many ∙ sym many;
  agrees = record {
    stands = subst (λ (j : List Event). Each (Stands j) (all_receipts rows)) (sym more)
        (still_stand book.journal added (all_receipts rows) agreed.agrees.stands);
    once = agreed.agrees.once;
  };
  each_place = λ k l. agreed.each_place k (subst (λ (n : ℕ). k < n) many l);
}

pub has_cause : (p : ProgramTerms) (report : Reported) → is_some report.differs ≡ true
    → IfSome report.differs (IsCause report.workers) → IfSome report.differs (IsOfStarted p)
    → HasCause p report
has_cause p report some cause started = of report.differs refl some cause started
  where
    of : (differs : Option Differs) → report.differs ≡ differs → is_some differs ≡ true
        → IfSome differs (IsCause report.workers) → IfSome differs (IsOfStarted p)
        → HasCause p report
    of None same some is started = absurd cc
    of (Some cause) same some is started =
        record { cause = cause; differs = same; is_true = is; started = started }

-- what the one thread adds to the book with which the receipts agree
pub goes_on_alone : (book new : BookKept) (budget events : ℕ) → events ≡ length book.journal
    → RunsOn book budget new → GoesOnAlone book.program budget events new.journal
goes_on_alone book new budget events many run = record {
  first = book.journal;
  rest = run.added;
  journal_is = run.journal;
  as_many = sym many;
  schedule = subst (λ (k : ℕ). OnItsSolution book (λ n. IsSchedule (budget - k) n 0 run.added))
      (sym many) run.schedule;
}

module _ (sites : ℕ) (old w : List PassKept) (p : ProgramTerms) (budget : ℕ)
    (same : HaveSameOwners old w) (ended : Each (λ p. HasEnded sites (row_of p)) w) where
  -- the rows are those of the passes that came back
  with_rows : (rows : List Worked) → rows ≡ map row_of w → (r : Result Done Memory)
      → IfOk r (λ (d : Done). IsMadeWith rows p budget d.book.journal d.how)
      → IfOk r (λ (d : Done).
      IsFree sites (map (λ (p : PassKept). p.number) old) p budget d.book.journal d.how)
  with_rows rows is (Err e) made = tt
  with_rows rows is (Ok d) made = record {
    rows = map row_of w;
    are_rows = are_rows sites old w same ended;
    made = subst (λ (ws : List Worked). IsMadeWith ws p budget d.book.journal d.how) is made;
  }

  pub closed_is_free : (end : Closed) → Closes p budget (map row_of w) end
      → (r : Result Done Memory)
      → IfOk r (λ (d : Done). IsMadeWith (rows_of end) p budget d.book.journal d.how)
      → IfOk r (λ (d : Done).
      IsFree sites (map (λ (p : PassKept). p.number) old) p budget d.book.journal d.how)
  closed_is_free (closed.Agreed book report) closes r made =
      with_rows report.workers (ap (λ (r : Reported). r.workers) closes.1) r made
  closed_is_free (closed.Differs report) closes r made = with_rows report.workers closes.0 r made

module _ (p : ProgramTerms) (budget : ℕ) where
  -- the rows are those of the report
  pub closes_own : (rows : List Worked) (end : Closed) → Closes p budget rows end
      → Closes p budget (rows_of end) end
  closes_own rows (closed.Agreed book report) closes =
      subst (λ (ws : List Worked). Closes p budget ws (closed.Agreed book report))
      (sym (ap (λ (r : Reported). r.workers) closes.1)) closes
  closes_own rows (closed.Differs report) closes =
      subst (λ (ws : List Worked). Closes p budget ws (closed.Differs report)) (sym closes.0) closes

  pub made_shared : (book : BookKept) (report : Reported)
      → Closes p budget report.workers (closed.Agreed book report) → (r : Result Done Memory)
      → IfOk r (λ (d : Done). IsMadeWith report.workers book.program budget d.book.journal d.how)
      → IfOk r (λ (d : Done). IsMadeWith report.workers p budget d.book.journal d.how)
  made_shared book report closes r made = subst (λ (q : ProgramTerms).
      IfOk r (λ (d : Done). IsMadeWith report.workers q budget d.book.journal d.how))
      closes.0.same made

-- the run from a program's book before any event
module _ (p : ProgramTerms) (budget : ℕ) (book : BookKept) (same : book.program ≡ p) where
  pub is_finished : (r : Result BookKept Memory) → IfOk r (RunsOn book budget)
      → IfOk r (IsFinished p budget)
  is_finished (Err e) run = tt
  is_finished (Ok end) run =
      record { program = run.program ∙ same; within = run.within; ends = run.ends }

  pub is_scheduled : book.journal ≡ [] → (r : Result BookKept Memory)
      → IfOk r (λ (end : BookKept). book.journal ≡ [] → ScheduleOf book.program budget end.journal)
      → IfOk r (λ (end : BookKept). ScheduleOf p budget end.journal)
  is_scheduled none (Err e) whole = tt
  is_scheduled none (Ok end) whole =
      subst (λ (q : ProgramTerms). ScheduleOf q budget end.journal) same (whole none)
