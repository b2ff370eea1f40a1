-- The first fault of lines whose places rise is the one that is computed.
use Rattle.std.proofs.Common.{◌≡◌, ℕ, ◌+◌, ◌≤◌, List, [], ◌∷◌, ◌++◌, length, Option, Some, None}
use Rattle.std.proofs.Common.{Bool, true, false, cond, refl, sym, ap, ◌∙◌, subst, arith, inl, inr}
use Rattle.std.proofs.Common.{◌⊎◌, append_assoc, append-nil, length-append}
use Rattle.join_lex.specs.Spelling.{is_hash, in_line}
use Rattle.sort_lines.specs.declared.read.SaidLine.{SaidLine}
use Rattle.sort_lines.specs.Lines.{Line, is_colon, line_after, to_end, read_lines, lines_of}
use Rattle.sort_lines.specs.Faults.{IsWrongLine, IsFault, IsSooner, IsFirstFault}
use Rattle.sort_lines.specs.inside.Judging.{IsSaidLine, AreSaid, defined_by, used_by, names_in}
use Rattle.sort_lines.specs.inside.Judging.{spells_in, wrong_in, or_later, first_wrong}
use Rattle.sort_lines.proofs.Wrong.{IsLeast, wrong_line}

-- ---- the places of the lines of a text

abbrev pub Rise : ℕ → List Line → Type 0
Rise from [] = Unit {0}
Rise from (l ∷ ls) = (from ≤ l.place) × Rise (l.place + 1) ls

later : (from upto : ℕ) (ls : List Line) → from ≤ upto → Rise upto ls → Rise from ls
later from upto [] h r = tt
later from upto (l ∷ ls) h r = (omega (arith, h, r.0), r.1)

one_before : (place : ℕ) (behind : List ℕ) (ls : List Line) → Rise (place + 1) ls
    → Rise place (line_after place behind ++ ls)
one_before place [] ls r = later place (place + 1) ls (omega arith) r
one_before place (b ∷ behind) ls r = go (is_colon b)
  where
    go : (t : Bool) → Rise place (cond t (record { place = place; text = behind } ∷ []) [] ++ ls)
    go true = (omega arith, r)
    go false = later place (place + 1) ls (omega arith) r

rise : (inside : Bool) (place : ℕ) (text : List ℕ) → Rise place (read_lines inside place text)
rise true place [] = tt
rise false place [] = tt
rise true place (b ∷ text) = later place (place + 1) (read_lines (in_line b) (place + 1) text)
    (omega arith) (rise (in_line b) (place + 1) text)
rise false place (b ∷ text) = go (is_hash b) (rise (is_hash b) (place + 1) text)
  where
    go : (t : Bool) → Rise (place + 1) (read_lines (is_hash b) (place + 1) text)
        → Rise place
        (cond t (line_after place (to_end text)) [] ++ read_lines (is_hash b) (place + 1) text)
    go true r = one_before place (to_end text) (read_lines (is_hash b) (place + 1) text) r
    go false r = later place (place + 1) (read_lines (is_hash b) (place + 1) text) (omega arith) r

pub lines_rise : (text : List ℕ) → Rise 0 (lines_of text)
lines_rise text = rise false 0 text

risen : (from : ℕ) (between : List Line) (line : Line) (after : List Line)
    → Rise from (between ++ line ∷ after) → from ≤ line.place
risen from [] line after r = r.0
risen from (l ∷ between) line after r =
    omega (arith, r.0, risen (l.place + 1) between line after r.1)

-- ---- the faults of some lines, behind others

record IsFaultOf (all before ls : List Line) (kind place : ℕ) : Type 0 where
  pub between : List Line
  pub line : Line
  pub after : List Line
  pub whole : ls ≡ between ++ line ∷ after
  pub here : place ≡ line.place
  pub wrong : IsWrongLine all (before ++ between) line kind

-- the first of them, or none
record IsBest (all before ls : List Line) (o : Option (ℕ × ℕ)) : Type 0 where
  pub found : (f : ℕ × ℕ) → o ≡ Some f → IsFaultOf all before ls f.0 f.1
  pub first : (f : ℕ × ℕ) → o ≡ Some f → (j q : ℕ) → IsFaultOf all before ls j q
      → IsSooner f.0 f.1 j q
  pub no_fault : o ≡ None → (j q : ℕ) → IsFaultOf all before ls j q → ⊥

nothing : {X : Type 0} (xs : List X) (x : X) (ys : List X) → [] ≡ xs ++ x ∷ ys → ⊥
nothing [] x ys e = let clash = e in cc
nothing (z ∷ xs) x ys e = let clash = e in cc

module _ (all before : List Line) (l : Line) (ls : List Line) where
  -- of the first line, or of those behind it
  split : (j q : ℕ) → IsFaultOf all before (l ∷ ls) j q
      → ((q ≡ l.place) × IsWrongLine all before l j) ⊎ IsFaultOf all (before ++ l ∷ []) ls j q
  split j q f = go f.between f.whole f.wrong
    where
      go : (between : List Line) → l ∷ ls ≡ between ++ f.line ∷ f.after
          → IsWrongLine all (before ++ between) f.line j
          → ((q ≡ l.place) × IsWrongLine all before l j) ⊎ IsFaultOf all (before ++ l ∷ []) ls j q
      go [] e w =
          let is : l ≡ f.line = cc in
          inl (
            f.here ∙ ap (λ (m : Line). m.place) (sym is),
            subst (λ (m : Line). IsWrongLine all before m j) (sym is)
                (subst (λ bs. IsWrongLine all bs f.line j) (append-nil before) w),
          )
      go (x ∷ xs) e w =
          let is : l ≡ x = cc in
          let rest : ls ≡ xs ++ f.line ∷ f.after = cc in
          let same : before ++ x ∷ xs ≡ (before ++ l ∷ []) ++ xs =
          ap (λ m. before ++ m ∷ xs) (sym is) ∙ sym (append_assoc before (l ∷ []) xs) in
          inr (record {
            between = xs;
            line = f.line;
            after = f.after;
            whole = rest;
            here = f.here;
            wrong = subst (λ bs. IsWrongLine all bs f.line j) same w;
          })

  behind_it : (j q : ℕ) → IsFaultOf all (before ++ l ∷ []) ls j q
      → IsFaultOf all before (l ∷ ls) j q
  behind_it j q f = record {
    between = l ∷ f.between;
    line = f.line;
    after = f.after;
    whole = ap (λ xs. l ∷ xs) f.whole;
    here = f.here;
    wrong =
        subst (λ bs. IsWrongLine all bs f.line j) (append_assoc before (l ∷ []) f.between) f.wrong;
  }

  -- the first of them, where this is the least that is wrong with the first line
  module _ (place : ℕ) (here : place ≡ l.place) (rising : Rise (l.place + 1) ls)
      (rest : Option (ℕ × ℕ)) (best : IsBest all (before ++ l ∷ []) ls rest) where
    joined : (o : Option ℕ) → IsLeast (IsWrongLine all before l) o
        → IsBest all before (l ∷ ls) (or_later o place rest)
    joined None w = record {
      found = λ f e. behind_it f.0 f.1 (best.found f e);
      first = λ f e j q h. elim (split j q h) [
        | inl a ↦ (let x = w.least j a.1 in let clash : None ≡ Some x.0 = x.1 in cc)
        | inr b ↦ best.first f e j q b
      ];
      no_fault = λ e j q h. elim (split j q h) [
        | inl a ↦ (let x = w.least j a.1 in let clash : None ≡ Some x.0 = x.1 in cc)
        | inr b ↦ best.no_fault e j q b
      ];
    }
    joined (Some k) w = record {
      found = λ f e. (
          let is : (k, place) ≡ f = cc in
          let there : IsFaultOf all before (l ∷ ls) k place = record {
            between = [];
            line = l;
            after = ls;
            whole = refl;
            here = here;
            wrong = subst (λ bs. IsWrongLine all bs l k) (sym (append-nil before)) (w.holds k refl);
          } in
          subst (λ (g : ℕ × ℕ). IsFaultOf all before (l ∷ ls) g.0 g.1) is there
          );
      first = λ f e j q h. (
          let is : (k, place) ≡ f = cc in
          let sooner : IsSooner k place j q = elim (split j q h) [
            | inl a ↦ (let x = w.least j a.1 in let same : Some k ≡ Some x.0 = x.1 in
                let k_is : k ≡ x.0 = cc in inr (here ∙ sym a.0, omega (arith, k_is, x.2)))
            | inr b ↦ inl (omega (
              arith,
              here,
              b.here,
              risen (l.place + 1)
                  b.between b.line b.after (subst (Rise (l.place + 1)) b.whole rising),
            ))
          ] in
          subst (λ (g : ℕ × ℕ). IsSooner g.0 g.1 j q) is sooner
          );
      no_fault = λ e j q h. (let clash = e in cc);
    }

-- ---- all lines

names_in-append : (rs qs : List SaidLine) → names_in (rs ++ qs) ≡ names_in rs ++ names_in qs
names_in-append [] qs = refl
names_in-append (r ∷ rs) qs = ap (λ l. defined_by r.content ++ l) (names_in-append rs qs)
    ∙ sym (append_assoc (defined_by r.content) (names_in rs) (names_in qs))

spells_in-append : (rs qs : List SaidLine) → spells_in (rs ++ qs) ≡ spells_in rs ++ spells_in qs
spells_in-append [] qs = refl
spells_in-append (r ∷ rs) qs = ap (λ l. used_by r.content ++ l) (spells_in-append rs qs)
    ∙ sym (append_assoc (used_by r.content) (spells_in rs) (spells_in qs))

pub said-push : (ls : List Line) (rs : List SaidLine) (l : Line) (r : SaidLine) → AreSaid ls rs
    → IsSaidLine l r → AreSaid (ls ++ l ∷ []) (rs ++ r ∷ [])
said-push [] [] l r h s = (s, tt)
said-push [] (x ∷ rs) l r h s = absurd h
said-push (y ∷ ls) [] l r h s = absurd h
said-push (y ∷ ls) (x ∷ rs) l r h s = (h.0, said-push ls rs l r h.1 s)

best : (all : List Line) (every : List SaidLine) → AreSaid all every
    → (from : ℕ) (before ls : List Line) (behind rs : List SaidLine) → AreSaid before behind
    → AreSaid ls rs → Rise from ls → every ≡ behind ++ rs
    → IsBest all before ls
    (first_wrong (names_in every) (length (names_in behind)) (spells_in behind) rs)
best all every said from before [] behind [] sb sl r e = record {
  found = λ f q. (let clash = q in cc);
  first = λ f q. (let clash = q in cc);
  no_fault = λ q j p h. nothing h.between h.line h.after h.whole;
}
best all every said from before [] behind (x ∷ rs) sb sl r e = absurd sl
best all every said from before (l ∷ ls) behind [] sb sl r e = absurd sl
best all every said from before (l ∷ ls) behind (x ∷ rs) sb sl r e =
    let are : names_in every ≡ names_in behind ++ (defined_by x.content ++ names_in rs) =
    ap names_in e ∙ names_in-append behind (x ∷ rs) in
    let again : every ≡ (behind ++ x ∷ []) ++ rs = e ∙ sym (append_assoc behind (x ∷ []) rs) in
    let rest = best all every said (l.place + 1) (before ++ l ∷ []) ls (behind ++ x ∷ []) rs
    (said-push before behind l x sb sl.0) sl.1 r.1 again in
    let count : length (names_in (behind ++ x ∷ []))
    ≡ length (names_in behind) + length (defined_by x.content) =
    ap length (names_in-append behind (x ∷ [])
    ∙ ap (λ l. names_in behind ++ l) (append-nil (defined_by x.content)))
    ∙ length-append (names_in behind) (defined_by x.content) in
    let spells : spells_in (behind ++ x ∷ []) ≡ spells_in behind ++ used_by x.content =
    spells_in-append behind (x ∷ [])
    ∙ ap (λ l. spells_in behind ++ l) (append-nil (used_by x.content)) in
    joined all before l ls x.place sl.0.0 r.1
    (first_wrong (names_in every) (length (names_in behind) + length (defined_by x.content))
    (spells_in behind ++ used_by x.content) rs)
    (subst (λ n. IsBest all (before ++ l ∷ []) ls
    (first_wrong (names_in every) n (spells_in behind ++ used_by x.content) rs)) count
    (subst (λ s. IsBest all (before ++ l ∷ []) ls
    (first_wrong (names_in every) (length (names_in (behind ++ x ∷ []))) s rs)) spells rest))
    (wrong_in (names_in every) (length (names_in behind)) (spells_in behind) x.content)
    (wrong_line all before every behind said sb l x (names_in rs) sl.0 are)

module _ (lines : List Line) (rs : List SaidLine) (said : AreSaid lines rs) (from : ℕ)
    (rising : Rise from lines) where
  whole : IsBest lines [] lines (first_wrong (names_in rs) 0 [] rs)
  whole = best lines rs said from [] lines [] rs tt said rising refl

  of_lines : (j q : ℕ) → IsFault lines j q → IsFaultOf lines [] lines j q
  of_lines j q f = record {
    between = f.before;
    line = f.line;
    after = f.after;
    whole = f.all;
    here = f.here;
    wrong = f.wrong;
  }

  pub some_first : (k p : ℕ) → first_wrong (names_in rs) 0 [] rs ≡ Some (k, p)
      → IsFirstFault lines k p
  some_first k p e =
      let f = whole.found (k, p) e in (
        record {
          before = f.between;
          line = f.line;
          after = f.after;
          all = f.whole;
          here = f.here;
          wrong = f.wrong;
        },
        λ j q h. whole.first (k, p) e j q (of_lines j q h),
      )

  pub no_first : first_wrong (names_in rs) 0 [] rs ≡ None → (j q : ℕ) → IsFault lines j q → ⊥
  no_first e j q h = whole.no_fault e j q (of_lines j q h)
