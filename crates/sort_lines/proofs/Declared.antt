-- The sorts that lines without a fault declare, and that a text has one outcome.
use Rattle.std.proofs.Common.{◌≡◌, ℕ, ◌+◌, ◌≤◌, ◌<◌, List, [], ◌∷◌, ◌++◌, length, take, get_or}
use Rattle.std.proofs.Common.{Option, Some, None, Result, Ok, Err, IfOk, IfErr, Bool, true, false}
use Rattle.std.proofs.Common.{cond, refl, sym, ap, ◌∙◌, subst, arith, inl, inr, ◌⊎◌}
use Rattle.std.proofs.lemmas.List.{take_more}
use Rattle.chem_model.specs.Each.{Each}
use Rattle.join_lex.specs.Spelling.{first_version, is_hash, in_line}
use Rattle.join_lex.specs.Tokens.{TokensOfText}
use Rattle.join_lex.specs.Lexical.{AreTokensIn}
use Rattle.join_lex.proofs.StepLaws.{outcome}
use Rattle.sort_laws.specs.declared.sorts.Sorts.{Sorts}
use Rattle.sort_lines.specs.declared.content.Content.{Content}
use Rattle.sort_lines.specs.declared.lines.SortLine.{SortLine}
use Rattle.sort_lines.specs.declared.read.SaidLine.{SaidLine}
use Rattle.sort_lines.specs.declared.read.SortEnd.{SortEnd}
use Rattle.sort_lines.specs.declared.read.SortEnd.TheVariants as sort_end
use Rattle.sort_lines.specs.Lines.{Line, is_colon, line_after, to_end, read_lines, lines_of}
use Rattle.sort_lines.specs.Contents.{kinds, ReadsAs}
use Rattle.sort_lines.specs.Faults.{ReadAs, defined_in, defined, decl_in, decls_of, use_in, uses_of}
use Rattle.sort_lines.specs.Faults.{IsSooner, IsFirstFault, AreSortsOf}
use Rattle.sort_lines.specs.Outcomes.{NamesFault, AnswersSorts, AnswersFault, LinesHaveOneOutcome}
use Rattle.sort_lines.specs.inside.Told.{told_one, told, AreShort}
use Rattle.sort_lines.specs.inside.Reading.{content_in, IsSaid}
use Rattle.sort_lines.specs.inside.Judging.{IsSaidLine, AreSaid, defined_by, used_by, names_in}
use Rattle.sort_lines.specs.inside.Judging.{decls_in, uses_in, wrong_content, wrong_in, or_later}
use Rattle.sort_lines.specs.inside.Judging.{first_wrong, EndsIn, Declare}
use Rattle.sort_lines.proofs.Reading.{one_reading, read_by, read_back, reads_by}
use Rattle.sort_lines.proofs.One.{sorts_are_one}
use Rattle.sort_lines.proofs.Told.{told-append}
use Rattle.sort_lines.proofs.FirstWrong.{Rise, lines_rise, said-push, some_first, no_first}

-- ---- what is said without a fault

record Say (ls : List Line) (rs : List SaidLine) : Type 0 where
  pub contents : List Content
  pub read : ReadAs ls contents
  pub names : names_in rs ≡ defined contents
  pub decls : (ns : List (List ℕ)) → decls_in ns rs ≡ decls_of ns contents
  pub uses : (ns : List (List ℕ)) → uses_in ns rs ≡ uses_of ns contents

say : (ls : List Line) (rs : List SaidLine) → AreSaid ls rs
    → (names : List (List ℕ)) (n : ℕ) (spells : List (List ℕ))
    → first_wrong names n spells rs ≡ None → Say ls rs
say [] [] said names n spells e =
    record { contents = []; read = tt; names = refl; decls = λ ns. refl; uses = λ ns. refl }
say [] (r ∷ rs) said names n spells e = absurd said
say (l ∷ ls) [] said names n spells e = absurd said
say (l ∷ ls) (r ∷ rs) said names n spells e = go r.content refl said.0.1 e (say ls rs said.1)
  where
    none_later : (o : Option ℕ) (place : ℕ) (rest : Option (ℕ × ℕ)) → or_later o place rest ≡ None
        → rest ≡ None
    none_later None place rest f = f
    none_later (Some k) place rest f = let clash = f in cc

    go : (o : Option Content) → r.content ≡ o → IsSaid l.text o
        → or_later (wrong_in names n spells o)
        r.place (first_wrong names (n + length (defined_by o)) (spells ++ used_by o) rs) ≡ None
        → ((ms : List (List ℕ)) (m : ℕ) (ss : List (List ℕ)) → first_wrong ms m ss rs ≡ None
        → Say ls rs) → Say (l ∷ ls) (r ∷ rs)
    go None c h f ih = let clash = f in cc
    go (Some x) c h f ih =
        let s = ih names (n + length (defined_in x)) (spells ++ used_by (Some x))
        (none_later (wrong_content names n spells x) r.place
        (first_wrong names (n + length (defined_in x)) (spells ++ used_by (Some x)) rs) f) in
        record {
          contents = x ∷ s.contents;
          read = (h.0, s.read);
          names = (λ i. defined_by (c i) ++ s.names i);
          decls = λ ns. ap (λ o. decls_in ns (record { place = r.place; content = o } ∷ rs)) c
              ∙ ap (λ ds. decl_in ns x ++ ds) (s.decls ns);
          uses = λ ns. ap (λ o. uses_in ns (record { place = r.place; content = o } ∷ rs)) c
              ∙ ap (λ us. use_in ns x ++ us) (s.uses ns);
        }

module _ (lines : List Line) (rs : List SaidLine) (said : AreSaid lines rs) (from : ℕ)
    (rising : Rise from lines) where
  declared : (sorts : Sorts) → Declare (names_in rs) rs sorts → AreSortsOf lines sorts
  declared sorts d =
      let s = say lines rs said (names_in rs) 0 [] d.0 in
      record {
        contents = s.contents;
        read = s.read;
        are = d.1 ∙ (λ i. record { decls = s.decls (s.names i) i; uses = s.uses (s.names i) i });
        none = λ j q h. no_first lines rs said from rising d.0 j q h;
      }

  faulty : (e : SortEnd) → EndsIn (first_wrong (names_in rs) 0 [] rs) e → NamesFault lines e
  faulty (sort_end.Fault k p) h = some_first lines rs said from rising k p h
  faulty sort_end.Memory h = tt

-- ---- lines that are short enough

to_end-short : (text : List ℕ) → length (to_end text) ≤ length text
to_end-short [] = omega arith
to_end-short (b ∷ text) = go (in_line b) (to_end-short text)
  where
    go : (t : Bool) → length (to_end text) ≤ length text
        → length (cond t (b ∷ to_end text) []) ≤ length (b ∷ text)
    go true h = omega (arith, h)
    go false h = omega arith

abbrev IsUpTo : ℕ → Line → Type 0
IsUpTo n l = length l.text ≤ n

one_short : (n place : ℕ) (behind : List ℕ) (ls : List Line) → length behind ≤ n
    → Each (IsUpTo n) ls → Each (IsUpTo n) (line_after place behind ++ ls)
one_short n place [] ls h e = e
one_short n place (b ∷ behind) ls h e = go (is_colon b)
  where
    go : (t : Bool)
        → Each (IsUpTo n) (cond t (record { place = place; text = behind } ∷ []) [] ++ ls)
    go true = (omega (arith, h), e)
    go false = e

short : (n : ℕ) (inside : Bool) (place : ℕ) (text : List ℕ) → length text ≤ n
    → Each (IsUpTo n) (read_lines inside place text)
short n true place [] h = tt
short n false place [] h = tt
short n true place (b ∷ text) h = short n (in_line b) (place + 1) text (omega (arith, h))
short n false place (b ∷ text) h =
    go (is_hash b) (short n (is_hash b) (place + 1) text (omega (arith, h)))
  where
    go : (t : Bool) → Each (IsUpTo n) (read_lines (is_hash b) (place + 1) text)
        → Each (IsUpTo n)
        (cond t (line_after place (to_end text)) [] ++ read_lines (is_hash b) (place + 1) text)
    go true e = one_short n place (to_end text) (read_lines (is_hash b) (place + 1) text)
        (omega (arith, h, to_end-short text)) e
    go false e = e

told_short : (ls : List SortLine) → Each (IsUpTo 1048576) (told ls) → AreShort ls
told_short [] h = tt
told_short (l ∷ ls) h = (h.0, told_short ls h.1)

pub are_short : (text : List ℕ) (ls : List SortLine) → length text ≤ 1048576
    → told ls ≡ lines_of text → AreShort ls
are_short text ls h e =
    told_short ls (subst (Each (IsUpTo 1048576)) (sym e) (short 1048576 false 0 text h))

-- ---- what was read

-- one line more
pub said_more : (ls : List SortLine) (i : ℕ) (d : SortLine) (rs new : List SaidLine) (r : SaidLine)
    → i < length ls → AreSaid (told (take i ls)) rs → IsSaidLine (told_one (get_or ls i d)) r
    → new ≡ rs ++ r ∷ [] → AreSaid (told (take (i + 1) ls)) new
said_more ls i d rs new r h said s e =
    let front : told (take (i + 1) ls) ≡ told (take i ls) ++ told_one (get_or ls i d) ∷ [] =
    ap told (take_more ls i d h) ∙ told-append (take i ls) (get_or ls i d ∷ []) in
    subst (AreSaid (told (take (i + 1) ls))) (sym e) (subst (λ l. AreSaid l (rs ++ r ∷ []))
    (sym front) (said-push (told (take i ls)) rs (told_one (get_or ls i d)) r said s))

pub read_sorts_are :
    (text : List ℕ) (ls : List SortLine) (rs : List SaidLine) (names : List (List ℕ))
    (result : Result Sorts SortEnd) → told ls ≡ lines_of text → AreSaid (told ls) rs
    → names ≡ names_in rs → IfOk result (Declare names rs)
    → IfOk result (AreSortsOf (lines_of text))
read_sorts_are text ls rs names (Ok sorts) e said n h =
    declared (lines_of text) rs (subst (λ l. AreSaid l rs) e said) 0 (lines_rise text) sorts
    (subst (λ m. Declare m rs sorts) n h)
read_sorts_are text ls rs names (Err x) e said n h = tt

pub read_fault_is :
    (text : List ℕ) (ls : List SortLine) (rs : List SaidLine) (names : List (List ℕ))
    (result : Result Sorts SortEnd) → told ls ≡ lines_of text → AreSaid (told ls) rs
    → names ≡ names_in rs → IfErr result (EndsIn (first_wrong names 0 [] rs))
    → IfErr result (NamesFault (lines_of text))
read_fault_is text ls rs names (Ok sorts) e said n h = tt
read_fault_is text ls rs names (Err x) e said n h =
    faulty (lines_of text) rs (subst (λ l. AreSaid l rs) e said) 0 (lines_rise text) x
    (subst (λ m. EndsIn (first_wrong m 0 [] rs) x) n h)

-- ---- one outcome

one_first : (lines : List Line) (k p j q : ℕ) → IsFirstFault lines k p → IsFirstFault lines j q
    → (k ≡ j) × (p ≡ q)
one_first lines k p j q a b = go (a.1 j q b.0) (b.1 k p a.0)
  where
    go : IsSooner k p j q → IsSooner j q k p → (k ≡ j) × (p ≡ q)
    go (inl x) (inl y) = absurd (omega arith)
    go (inl x) (inr y) = absurd (omega (arith, x, y.0))
    go (inr x) (inl y) = absurd (omega (arith, x.0, y))
    go (inr x) (inr y) = (omega (arith, x.1, y.1), x.0)

pub answers_sorts : (lines : List Line) (result : Result Sorts SortEnd)
    → IfOk result (AreSortsOf lines) → IfErr result (NamesFault lines) → AnswersSorts lines result
answers_sorts lines (Ok a) ok err = λ b h. inl (ap Ok (sorts_are_one lines a b ok h))
answers_sorts lines (Err sort_end.Memory) ok err = λ b h. inr refl
answers_sorts lines (Err (sort_end.Fault k p)) ok err = λ b h. absurd (h.none k p err.0)

pub answers_fault : (lines : List Line) (result : Result Sorts SortEnd)
    → IfOk result (AreSortsOf lines) → IfErr result (NamesFault lines) → AnswersFault lines result
answers_fault lines (Ok a) ok err = λ j q h. absurd (ok.none j q h.0)
answers_fault lines (Err sort_end.Memory) ok err = λ j q h. inr refl
answers_fault lines (Err (sort_end.Fault k p)) ok err =
    λ j q h. (let same = one_first lines k p j q err h in
    inl (λ i. Err (sort_end.Fault (same.0 i) (same.1 i))))

-- what a line says
said_so : (text : List ℕ) → length text ≤ 1048576 → (o : Option Content) × IsSaid text o
said_so text few = elim (outcome first_version text).some [
  | inl h ↦ tokens_say h.0 h.1 (content_in (kinds h.0.list)) refl
  | inr h ↦ (
    None,
    λ c r. (outcome first_version text).not_both (record { list = r.tokens; length = length text })
        h.0 h.1 (reads_by text c few r) h.2,
  )
]
  where
    tokens_say : (t : TokensOfText) → AreTokensIn first_version t text → (o : Option Content)
        → content_in (kinds t.list) ≡ o → (o : Option Content) × IsSaid text o
    tokens_say t a None e = (
      None,
      λ c r. (
          let same =
          (outcome first_version text).one_list (record { list = r.tokens; length = length text }) t
          (reads_by text c few r) a in
          let clash : None ≡ Some c =
          sym e ∙ ap (λ (u : TokensOfText). content_in (kinds u.list)) (sym same)
          ∙ read_by text c r in
          cc
          ),
    )
    tokens_say t a (Some c) e =
        let r : ReadsAs text c = read_back text t c a.stand e in
        (Some c, (r, λ d q. one_reading text d c q r))

said_all : (ls : List Line) → Each (IsUpTo 1048576) ls → (rs : List SaidLine) × AreSaid ls rs
said_all [] h = ([], tt)
said_all (l ∷ ls) h =
    let s = said_so l.text h.0 in
    let rest = said_all ls h.1 in
    (record { place = l.place; content = s.0 } ∷ rest.0, ((refl, s.1), rest.1))

pub one_outcome : LinesHaveOneOutcome
one_outcome text h = record {
  some = go (first_wrong (names_in all.0) 0 [] all.0) refl;
  one_list = λ a b x y. sorts_are_one (lines_of text) a b x y;
  one_fault = λ k p j q a b. one_first (lines_of text) k p j q a b;
  not_both = λ sorts k p a b. a.none k p b.0;
}
  where
    all : (rs : List SaidLine) × AreSaid (lines_of text) rs
    all = said_all (lines_of text) (short 1048576 false 0 text h)

    go : (o : Option (ℕ × ℕ)) → first_wrong (names_in all.0) 0 [] all.0 ≡ o
        → ((sorts : Sorts) × AreSortsOf (lines_of text) sorts)
        ⊎ ((kind : ℕ) × (place : ℕ) × IsFirstFault (lines_of text) kind place)
    go None e =
        let made : Sorts =
        record { decls = decls_in (names_in all.0) all.0; uses = uses_in (names_in all.0) all.0 } in
        inl (made, declared (lines_of text) all.0 all.1 0 (lines_rise text) made (e, refl))
    go (Some f) e =
        inr (f.0, f.1, some_first (lines_of text) all.0 all.1 0 (lines_rise text) f.0 f.1 e)
