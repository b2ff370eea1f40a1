-- One step of the walk over the bytes of a text.
use Rattle.std.proofs.Common.{◌≡◌, ℕ, zero, suc, ◌+◌, ◌-◌, ◌≤◌, ◌<◌, true, false, cond, List, []}
use Rattle.std.proofs.Common.{◌∷◌, ◌++◌, length, take, drop, get_or, refl, sym, ap, ◌∙◌, subst}
use Rattle.std.proofs.Common.{arith, append_assoc, append-nil}
use Rattle.sort_lines.specs.Lines.{Line, is_colon, line_after, to_end, read_lines, lines_of}
use Rattle.join_lex.specs.Spelling.{is_hash, in_line}
use Rattle.sort_lines.specs.declared.lines.SortLine.{SortLine}
use Rattle.sort_lines.specs.inside.Told.{told, EndsAt, GoesOn}
use Rattle.sort_lines.proofs.Drops.{drop_at, drop_all}
use Rattle.sort_lines.proofs.PieceLaws.{no_hash_end}

drop_next : (xs : List ℕ) (i x : ℕ) → i < length xs → x ≡ get_or xs i x
    → drop i xs ≡ x ∷ drop (i + 1) xs
drop_next xs i x h e =
    let same : suc i ≡ i + 1 = omega arith in
    subst (λ k. drop i xs ≡ x ∷ drop k xs) same (drop_at xs i x h e)

-- ---- to the end of a line, told by what is behind

-- the bytes from `from` up to `at` are in the line
pub record InLine (bytes : List ℕ) (from at : ℕ) : Type 0 where
  pub after : from ≤ at
  pub within : at ≤ length bytes
  pub line : take (at - from) (drop from bytes) ++ to_end (drop at bytes) ≡ to_end (drop from bytes)
  pub rest : (place : ℕ)
      → read_lines true place (drop from bytes)
      ≡ read_lines true (place + (at - from)) (drop at bytes)

pub in_line_none : (bytes : List ℕ) (from : ℕ) → from ≤ length bytes → InLine bytes from from
in_line_none bytes from h =
    let none : from - from ≡ 0 = omega arith in
    record {
      after = omega arith;
      within = h;
      line = ap (λ k. take k (drop from bytes) ++ to_end (drop from bytes)) none;
      rest = λ place. ap (λ k. read_lines true k (drop from bytes)) (omega arith);
    }

take_next : (xs : List ℕ) (k x : ℕ) (rest : List ℕ) → drop k xs ≡ x ∷ rest
    → take (suc k) xs ≡ take k xs ++ x ∷ []
take_next [] zero x rest e = cc
take_next [] (suc k) x rest e = cc
take_next (y ∷ xs) zero x rest e = let is : y ≡ x = cc in ap (λ z. z ∷ []) is
take_next (y ∷ xs) (suc k) x rest e = ap (λ l. y ∷ l) (take_next xs k x rest e)

drop_drop : (xs : List ℕ) (i j : ℕ) → drop i (drop j xs) ≡ drop (j + i) xs
drop_drop xs i zero = ap (λ k. drop k xs) (omega arith)
drop_drop [] i (suc j) = nothing i ∙ sym (drop_all [] (suc j + i) (omega arith))
  where
    nothing : (k : ℕ) → drop {A = ℕ} k [] ≡ []
    nothing zero = refl
    nothing (suc k) = refl
drop_drop (x ∷ xs) i (suc j) = drop_drop xs i j
    ∙ (let same : suc j + i ≡ suc (j + i) = omega arith in ap (λ k. drop k (x ∷ xs)) (sym same))

pub in_line_next : (bytes : List ℕ) (from at b : ℕ) → InLine bytes from at → at < length bytes
    → b ≡ get_or bytes at b → in_line b ≡ true → InLine bytes from (at + 1)
in_line_next bytes from at b i h e goes =
    let here : drop at bytes ≡ b ∷ drop (at + 1) bytes = drop_next bytes at b h e in
    let there : drop (at - from) (drop from bytes) ≡ b ∷ drop (at + 1) bytes =
    drop_drop bytes (at - from) from ∙ ap (λ k. drop k bytes) (omega (arith, i.after)) ∙ here in
    let longer : suc (at - from) ≡ at + 1 - from = omega (arith, i.after) in
    let taken : take (at + 1 - from) (drop from bytes)
    ≡ take (at - from) (drop from bytes) ++ b ∷ [] =
    subst (λ k. take k (drop from bytes) ≡ take (at - from) (drop from bytes) ++ b ∷ []) longer
    (take_next (drop from bytes) (at - from) b (drop (at + 1) bytes) there) in
    let line : to_end (drop at bytes) ≡ b ∷ to_end (drop (at + 1) bytes) =
    ap to_end here ∙ ap (λ u. cond u (b ∷ to_end (drop (at + 1) bytes)) []) goes in
    record {
      after = omega (arith, i.after);
      within = omega (arith, h);
      line = ap (λ l. l ++ to_end (drop (at + 1) bytes)) taken
          ∙ append_assoc (take (at - from) (drop from bytes)) (b ∷ [])
          (to_end (drop (at + 1) bytes))
          ∙ ap (λ l. take (at - from) (drop from bytes) ++ l) (sym line) ∙ i.line;
      rest = λ place. i.rest place ∙ ap (read_lines true (place + (at - from))) here
          ∙ (λ j. read_lines (goes j) (place + (at - from) + 1) (drop (at + 1) bytes))
          ∙ ap (λ k. read_lines true k (drop (at + 1) bytes)) (omega (arith, i.after));
    }

pub ends_here : (bytes : List ℕ) (from at : ℕ) → InLine bytes from at → to_end (drop at bytes) ≡ []
    → ((place : ℕ) → read_lines true place (drop at bytes) ≡ read_lines false place (drop at bytes))
    → EndsAt bytes from at
ends_here bytes from at i e f = record {
  after = i.after;
  within = i.within;
  line = sym (append-nil (take (at - from) (drop from bytes)))
      ∙ ap (λ l. take (at - from) (drop from bytes) ++ l) (sym e) ∙ i.line;
  rest = λ place. i.rest place ∙ f (place + (at - from));
}

pub ends_at_feed : (bytes : List ℕ) (from at b : ℕ) → InLine bytes from at → at < length bytes
    → b ≡ get_or bytes at b → in_line b ≡ false → EndsAt bytes from at
ends_at_feed bytes from at b i h e stops =
    let here = drop_at bytes at b h e in
    ends_here bytes from at i
    (ap to_end here ∙ ap (λ u. cond u (b ∷ to_end (drop (suc at) bytes)) []) stops)
    (λ place.
    ap (read_lines true place) here ∙ (λ j. read_lines (stops j) (place + 1) (drop (suc at) bytes))
    ∙ (λ j. cond (sym (no_hash_end b stops) j) (line_after place (to_end (drop (suc at) bytes))) []
    ++ read_lines (sym (no_hash_end b stops) j) (place + 1) (drop (suc at) bytes))
    ∙ ap (read_lines false place) (sym here))

pub ends_at_end : (bytes : List ℕ) (from at : ℕ) → InLine bytes from at → length bytes ≤ at
    → EndsAt bytes from at
ends_at_end bytes from at i h =
    let gone = drop_all bytes at h in
    ends_here bytes from at i (ap to_end gone)
    (λ place. ap (read_lines true place) gone ∙ sym (ap (read_lines false place) gone))

-- ---- a step

pub passes_one : (bytes : List ℕ) (place b : ℕ) (lines : List Line) → place < length bytes
    → b ≡ get_or bytes place b → is_hash b ≡ false → GoesOn bytes place (place + 1) lines lines
passes_one bytes place b lines h e other =
    let here : drop place bytes ≡ b ∷ drop (place + 1) bytes = drop_next bytes place b h e in
    record {
      further = omega arith;
      within = omega (arith, h);
      same = ap (λ l. lines ++ l) (sym (ap (read_lines false place) here
          ∙ (λ j. cond (other j) (line_after place (to_end (drop (place + 1) bytes))) []
          ++ read_lines (other j) (place + 1) (drop (place + 1) bytes))));
    }

pub passes_line : (bytes : List ℕ) (place b upto : ℕ) (old new : List Line) → place < length bytes
    → b ≡ get_or bytes place b → is_hash b ≡ true → EndsAt bytes (place + 1) upto
    → new ≡ old ++ line_after place (take (upto - (place + 1)) (drop (place + 1) bytes))
    → GoesOn bytes place upto old new
passes_line bytes place b upto old new h e hash ends made =
    let rest = drop (place + 1) bytes in
    let here : drop place bytes ≡ b ∷ rest = drop_next bytes place b h e in
    let last : place + 1 + (upto - (place + 1)) ≡ upto = omega (arith, ends.after) in
    let whole : read_lines false place (drop place bytes)
    ≡ line_after place (to_end rest) ++ read_lines false upto (drop upto bytes) =
    ap (read_lines false place) here
    ∙
    (λ j. cond (hash j) (line_after place (to_end rest)) [] ++ read_lines (hash j) (place + 1) rest)
    ∙ ap (λ l. line_after place (to_end rest) ++ l)
    (ends.rest (place + 1) ∙ ap (λ k. read_lines false k (drop upto bytes)) last) in
    record {
      further = omega (arith, ends.after);
      within = ends.within;
      same = ap (λ l. l ++ read_lines false upto (drop upto bytes)) made
          ∙ append_assoc old (line_after place (take (upto - (place + 1)) rest))
          (read_lines false upto (drop upto bytes))
          ∙
          (λ j. old ++ (line_after place (ends.line j) ++ read_lines false upto (drop upto bytes)))
          ∙ ap (λ l. old ++ l) (sym whole);
    }

pub told-append : (xs ys : List SortLine) → told (xs ++ ys) ≡ told xs ++ told ys
told-append [] ys = refl
told-append (x ∷ xs) ys =
    ap (λ l. record { place = x.place; text = x.text.now } ∷ l) (told-append xs ys)

pub told_push : (old new : List SortLine) (l : SortLine) → new ≡ old ++ l ∷ []
    → told new ≡ told old ++ record { place = l.place; text = l.text.now } ∷ []
told_push old new l e = ap told e ∙ told-append old (l ∷ [])

read_first : (xs : List ℕ) (d : ℕ) → 0 < length xs → xs ≡ get_or xs 0 d ∷ drop 1 xs
read_first [] d h = absurd (omega arith)
read_first (x ∷ xs) d h = refl

-- what stands behind the `#` is no line, or one
pub line_after-none : (place : ℕ) (behind : List ℕ) (d : ℕ) → is_colon (get_or behind 0 d) ≡ false
    → line_after place behind ≡ []
line_after-none place [] d c = refl
line_after-none place (x ∷ xs) d c =
    ap (λ u. cond u (record { place = place; text = xs } ∷ []) []) c

pub line_after-one : (place : ℕ) (behind : List ℕ) (d : ℕ) → 0 < length behind
    → is_colon (get_or behind 0 d) ≡ true
    → line_after place behind ≡ record { place = place; text = drop 1 behind } ∷ []
line_after-one place [] d h c = absurd (omega arith)
line_after-one place (x ∷ xs) d h c =
    ap (λ u. cond u (record { place = place; text = xs } ∷ []) []) c

-- at the end all is told
pub all_told : (bytes : List ℕ) (place : ℕ) (lines : List Line) → length bytes ≤ place
    → lines ++ read_lines false place (drop place bytes) ≡ lines_of bytes → lines ≡ lines_of bytes
all_told bytes place lines h e = sym (append-nil lines)
    ∙ ap (λ bs. lines ++ read_lines false place bs) (sym (drop_all bytes place h)) ∙ e

-- ---- with bytes that are read

byte_read : (xs : List ℕ) (i d e : ℕ) → i < length xs → get_or xs i d ≡ get_or xs i e
byte_read [] i d e h = absurd (omega arith)
byte_read (x ∷ xs) zero d e h = refl
byte_read (x ∷ xs) (suc i) d e h = byte_read xs i d e (omega arith)

pub next_read : (bytes : List ℕ) (from at d : ℕ) → InLine bytes from at → at < length bytes
    → in_line (get_or bytes at d) ≡ true → InLine bytes from (at + 1)
next_read bytes from at d i h goes = in_line_next bytes from at (get_or bytes at d) i h
    (byte_read bytes at d (get_or bytes at d) h) goes

pub feed_read : (bytes : List ℕ) (from at d : ℕ) → InLine bytes from at → at < length bytes
    → in_line (get_or bytes at d) ≡ false → EndsAt bytes from at
feed_read bytes from at d i h stops = ends_at_feed bytes from at (get_or bytes at d) i h
    (byte_read bytes at d (get_or bytes at d) h) stops

pub one_read : (bytes : List ℕ) (place d : ℕ) (lines : List Line) → place < length bytes
    → is_hash (get_or bytes place d) ≡ false → GoesOn bytes place (place + 1) lines lines
one_read bytes place d lines h other = passes_one bytes place (get_or bytes place d) lines h
    (byte_read bytes place d (get_or bytes place d) h) other

pub line_read : (bytes : List ℕ) (place d upto : ℕ) (old new : List Line) → place < length bytes
    → is_hash (get_or bytes place d) ≡ true → EndsAt bytes (place + 1) upto
    → new ≡ old ++ line_after place (take (upto - (place + 1)) (drop (place + 1) bytes))
    → GoesOn bytes place upto old new
line_read bytes place d upto old new h hash ends made =
    passes_line bytes place (get_or bytes place d) upto old new h
    (byte_read bytes place d (get_or bytes place d) h) hash ends made
