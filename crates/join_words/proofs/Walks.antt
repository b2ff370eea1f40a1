-- The walk of the kit's parser over the words, beside the reading of the line.
use Rattle.std.proofs.Common.{◌≡◌, ◌∙◌, ◌+◌, ◌⊎◌, inl, inr, ℕ, Bool, cond, true, false, zero, suc}
use Rattle.std.proofs.Common.{refl, sym, ap, ap₂, subst, arith, List, [], ◌∷◌, ◌++◌, length, Option}
use Rattle.std.proofs.Common.{Some, None, codes, true≢false}
use Rattle.std.specs.Prelude.{◌==◌, ◌&&◌, ◌||◌, not, is_some, fold, slice_get, option_and_then}
use Rattle.std.specs.Prelude.{option_map}
use Rattle.std.specs.List.{All}
use Rattle.std.specs.Str.{IsUtf8, bytes_eq, chars}
use Rattle.std.specs.Char.{encode_utf8}
use Rattle.std.specs.Str.{encode_utf8_all}
use Rattle.std.proofs.lemmas.Str.{encodes-chars}
use Rattle.std.proofs.lemmas.List.Elements.{All-head, All-tail}
use Rattle.clap.specs.declared.builder.value_parser.Reading.TheVariants.{AsWritten}
use Rattle.clap.specs.declared.error.kind.ErrorKind.TheVariants as kind
use Rattle.clap.specs.Walk.{Held, Row, Rule, Step, Waiting, Walk, after_flag, after_step}
use Rattle.clap.specs.Walk.{arg_by_index, arg_by_long, has_row, idle, is_pending, long_met, option}
use Rattle.clap.specs.Walk.{positional, pushed, settled, settled_rows, to_positional, value, walked}
use Rattle.clap.specs.Faults.{bundle_fault, bundle_step_fault, flags_fault, long_fault}
use Rattle.clap.specs.Faults.{positional_fault, settle_fault, step_fault, stray_fault, turn_fault}
use Rattle.clap.specs.Faults.{use_fault, walk_fault, word_fault}
use Rattle.clap.specs.Kinds.{Kinds, or_else}
use Rattle.join_words.specs.Line.{Field, Kind, Line, Plain, Reading, Text, budget, by, dashed_word}
use Rattle.join_words.specs.Line.{flag, into, is_dashed, given, kind_of, loss, name_of, none, one}
use Rattle.join_words.specs.Line.{option_word, read_from, read_word, two, unknown, value_of, valued}
use Rattle.join_words.specs.Line.{with_plain, workers}
use Rattle.join_words.specs.Asks.{judged}
use Rattle.join_words.proofs.Texts.{parts}
use Rattle.join_words.proofs.Rows.{has-look, look, new_row, put, put-other, put-same}
use Rattle.join_words.proofs.Lines.{asks, asks-none, at, given-is, rest, rest-next, set, spoiled}
use Rattle.join_words.proofs.Command.{all_rules, by_long, field_id, field_rule, field_use}
use Rattle.join_words.proofs.Command.{field_used, kind_rule, log_rule, log_use, mode_rule, mode_use}
use Rattle.join_words.proofs.Command.{repeat, ring_rule, ring_use, shape}

-- ---- faults

abbrev pub Fails : Kinds → Type 0
Fails [] = ⊥
Fails (k ∷ ks) = Unit {0}

pub fails-first : (a b : Kinds) → Fails a → Fails (or_else a b)
fails-first [] b h = absurd h
fails-first (k ∷ ks) b h = tt

pub fails-next : (a b : Kinds) → Fails b → Fails (or_else a b)
fails-next [] b h = h
fails-next (k ∷ ks) b h = tt

and_false : (a : Bool) → (a && false) ≡ false
and_false true = refl
and_false false = refl

or_false : (a : Bool) → (a || false) ≡ a
or_false true = refl
or_false false = refl

-- ---- the states of the walk

abbrev pub held : List Row → Option (Text × List Text) → Held
held rows p = record { rows = rows; pending = p; skip = 0 }

abbrev pub walk_at : Held → Waiting → ℕ → Bool → Walk
walk_at h wt pos t =
    record { held = h; waiting = wt; position = pos; is_trailing = t; stopped = None }

abbrev pub rows_now : Option (Text × List Text) → List Row → List Row
rows_now p rows = settled_rows all_rules p rows

abbrev pub owes : Option (Text × List Text) → List Row → Kinds
owes p rows = settle_fault all_rules false (held rows p)

abbrev pub is_free : Waiting → Bool
is_free (option id) = false
is_free _ = true

-- ---- a word is one of these

data View : Text → Type 0 where
  empty : View []
  other : (c : ℕ) (t : Text) → (c == 45) ≡ false → View (c ∷ t)
  dash : View (45 ∷ [])
  short : (d : ℕ) (t : Text) → (d == 45) ≡ false → View (45 ∷ d ∷ t)
  ends : View (45 ∷ 45 ∷ [])
  long : (c : ℕ) (t : Text) → View (45 ∷ 45 ∷ c ∷ t)

is_45 : (c : ℕ) → (c == 45) ≡ true → 45 ≡ c
is_45 c e = omega (arith, Rattle.std.proofs.Common.eqb-true c 45 e)

view_long : (t : Text) → View (45 ∷ 45 ∷ t)
view_long [] = ends
view_long (c ∷ t) = long c t

view_second : (d : ℕ) (t : Text) (b : Bool) → (d == 45) ≡ b → View (45 ∷ d ∷ t)
view_second d t false e = short d t e
view_second d t true e = subst (λ (n : ℕ). View (45 ∷ n ∷ t)) (is_45 d e) (view_long t)

view_dashed : (t : Text) → View (45 ∷ t)
view_dashed [] = dash
view_dashed (d ∷ t) = view_second d t (d == 45) refl

view_first : (c : ℕ) (t : Text) (b : Bool) → (c == 45) ≡ b → View (c ∷ t)
view_first c t false e = other c t e
view_first c t true e = subst (λ (n : ℕ). View (n ∷ t)) (is_45 c e) (view_dashed t)

view : (w : Text) → View w
view [] = empty
view (c ∷ t) = view_first c t (c == 45) refl

-- ---- a word `--name` or `--name=value`

module _ (wt : Waiting) (pos : ℕ) (x : Text) (h : Held) where
  abbrev long_step : Option Rule → Option Text → Held × Step
  long_step o v =
      after_flag all_rules wt x (long_met all_rules o v h).0 (long_met all_rules o v h).1

  abbrev long_turn : Option Rule → Option Text → Kinds
  long_turn o v = or_else (long_fault all_rules false o v h)
      (step_fault shape pos (long_step o v).0 (long_step o v).1)

  abbrev long_next : Option Rule → Option Text → Walk
  long_next o v =
      after_step all_rules x (walk_at h wt pos false) (long_step o v).0 (long_step o v).1

turn-long : (wt : Waiting) (pos c : ℕ) (t : Text) (h : Held)
    → turn_fault shape [] (walk_at h wt pos false) (45 ∷ 45 ∷ c ∷ t)
    ≡ long_turn wt pos (45 ∷ 45 ∷ c ∷ t) h (kind_rule (kind_of (45 ∷ 45 ∷ name_of (c ∷ t))))
    (value_of (c ∷ t))
turn-long idle pos c t h =
    ap (λ q. long_turn idle pos (45 ∷ 45 ∷ c ∷ t) h (arg_by_long all_rules q.0) q.1) (parts (c ∷ t))
    ∙ ap (λ o. long_turn idle pos (45 ∷ 45 ∷ c ∷ t) h o (value_of (c ∷ t)))
    (by_long (name_of (c ∷ t)))
turn-long positional pos c t h =
    ap (λ q. long_turn positional pos (45 ∷ 45 ∷ c ∷ t) h (arg_by_long all_rules q.0) q.1)
    (parts (c ∷ t))
    ∙ ap (λ o. long_turn positional pos (45 ∷ 45 ∷ c ∷ t) h o (value_of (c ∷ t)))
    (by_long (name_of (c ∷ t)))
turn-long (option id) pos c t h =
    ap (λ q. long_turn (option id) pos (45 ∷ 45 ∷ c ∷ t) h (arg_by_long all_rules q.0) q.1)
    (parts (c ∷ t))
    ∙ ap (λ o. long_turn (option id) pos (45 ∷ 45 ∷ c ∷ t) h o (value_of (c ∷ t)))
    (by_long (name_of (c ∷ t)))

next-long : (wt : Waiting) (pos c : ℕ) (t : Text) (h : Held)
    → walked all_rules [] (walk_at h wt pos false) (45 ∷ 45 ∷ c ∷ t)
    ≡ long_next wt pos (45 ∷ 45 ∷ c ∷ t) h (kind_rule (kind_of (45 ∷ 45 ∷ name_of (c ∷ t))))
    (value_of (c ∷ t))
unfolding walked
next-long idle pos c t h =
    ap (λ q. long_next idle pos (45 ∷ 45 ∷ c ∷ t) h (arg_by_long all_rules q.0) q.1) (parts (c ∷ t))
    ∙ ap (λ o. long_next idle pos (45 ∷ 45 ∷ c ∷ t) h o (value_of (c ∷ t)))
    (by_long (name_of (c ∷ t)))
next-long positional pos c t h =
    ap (λ q. long_next positional pos (45 ∷ 45 ∷ c ∷ t) h (arg_by_long all_rules q.0) q.1)
    (parts (c ∷ t))
    ∙ ap (λ o. long_next positional pos (45 ∷ 45 ∷ c ∷ t) h o (value_of (c ∷ t)))
    (by_long (name_of (c ∷ t)))
next-long (option id) pos c t h =
    ap (λ q. long_next (option id) pos (45 ∷ 45 ∷ c ∷ t) h (arg_by_long all_rules q.0) q.1)
    (parts (c ∷ t))
    ∙ ap (λ o. long_next (option id) pos (45 ∷ 45 ∷ c ∷ t) h o (value_of (c ∷ t)))
    (by_long (name_of (c ∷ t)))

-- ---- a word `-x`

abbrev HasChar : Text → Type 0
HasChar t = (y : ℕ) × (ys : List ℕ) × (chars t ≡ y ∷ ys)

flags-word : (d : ℕ) (t : Text) (rows : List Row) (p : Option (Text × List Text)) → HasChar (d ∷ t)
    → bundle_fault all_rules false (d ∷ t) (held rows p) ≡ kind.UnknownArgument ∷ []
unfolding flags_fault
flags-word d t rows p y = ap (λ cs. bundle_step_fault all_rules false (slice_get cs 0) (d ∷ t) 0
    (held rows p) (flags_fault all_rules false (length t))) y.2

short-word : (wt : Waiting) (pos d : ℕ) (t : Text) (rows : List Row) (p : Option (Text × List Text))
    → (d == 45) ≡ false → HasChar (d ∷ t)
    → word_fault shape [] false wt (45 ∷ d ∷ t) (held rows p) ≡ kind.UnknownArgument ∷ []
short-word idle pos d t rows p e y = rw (e, e) (flags-word d t rows p y)
short-word positional pos d t rows p e y = rw (e, e) (flags-word d t rows p y)
short-word (option id) pos d t rows p e y = rw (e, e) (flags-word d t rows p y)

short-fails :
    (wt : Waiting) (pos d : ℕ) (t : Text) (rows : List Row) (p : Option (Text × List Text))
    → (d == 45) ≡ false → HasChar (d ∷ t)
    → Fails (turn_fault shape [] (walk_at (held rows p) wt pos false) (45 ∷ d ∷ t))
short-fails wt pos d t rows p e y =
    fails-first (word_fault shape [] false wt (45 ∷ d ∷ t) (held rows p)) _
    (subst Fails (sym (short-word wt pos d t rows p e y)) tt)

-- ---- a pending use that is refused is refused in the end

abbrev Ends : Walk → List Text → Type 0
Ends w words = Fails (walk_fault shape [] w words)
    ⊎ Fails (settle_fault all_rules false (fold (walked all_rules []) w words).held)

turn-fails : (w : Walk) (x : Text) (ws : List Text) → Fails (turn_fault shape [] w x)
    → Ends w (x ∷ ws)
unfolding walk_fault
turn-fails w x ws h = inl (fails-first (turn_fault shape [] w x) _ h)

turn-passes : (w after : Walk) (x : Text) (ws : List Text) → walked all_rules [] w x ≡ after
    → Ends after ws → Ends w (x ∷ ws)
unfolding walk_fault
turn-passes w after x ws e (inl h) = inl (fails-next (turn_fault shape [] w x) _
    (subst (λ (v : Walk). Fails (walk_fault shape [] v ws)) (sym e) h))
turn-passes w after x ws e (inr h) = inr (subst
    (λ (v : Walk). Fails (settle_fault all_rules false (fold (walked all_rules []) v ws).held))
    (sym e) h)

-- what is pending is settled by each option and flag
long-settles :
    (wt : Waiting) (pos : ℕ) (x : Text) (rows : List Row) (p : Option (Text × List Text)) (k : Kind)
    (v : Option Text) → Fails (owes p rows)
    → Fails (long_turn wt pos x (held rows p) (kind_rule k) v)
long-settles wt pos x rows p unknown v h = tt
long-settles wt pos x rows p flag (Some v) h = tt
long-settles wt pos x rows p flag None h = fails-first _ _ (fails-first (owes p rows) _ h)
long-settles wt pos x rows p (valued f) (Some v) h = fails-first _ _ (fails-first (owes p rows) _ h)
long-settles wt pos x rows p (valued f) None h = fails-first _ _ h

-- and by each plain word
plain-settles : (pos : ℕ) (rows : List Row) (p : Option (Text × List Text)) → Fails (owes p rows)
    → Fails (step_fault shape pos (held rows p) value)
plain-settles pos rows p h = go (1 == pos) (2 == pos)
  where
    go : (a b : Bool)
        → Fails (Rattle.std.specs.Option.option_map_or
        (λ r. positional_fault all_rules false r (held rows p))
        (cond a (Some mode_rule) (cond b (Some ring_rule) None)) (stray_fault shape))
    go true b = subst (λ (q : Bool). Fails (cond q [] (owes p rows)))
        (sym (and_false (is_pending mode_rule p))) h
    go false true = subst (λ (q : Bool). Fails (cond q [] (owes p rows)))
        (sym (and_false (is_pending ring_rule p))) h
    go false false = tt

-- a plain word is handed to a positional
abbrev Hands : Waiting → Bool → Text → Type 0
Hands wt t x = (h : Held) (pos : ℕ)
    → (turn_fault shape [] (walk_at h wt pos t) x ≡ step_fault shape pos h value)
    × (walked all_rules [] (walk_at h wt pos t) x
    ≡ to_positional all_rules (arg_by_index all_rules pos) x (walk_at h wt pos t) h)

hands-ended : (wt : Waiting) (x : Text) → Hands wt true x
unfolding walked
hands-ended wt x h pos = (refl, refl)

hands-empty : (wt : Waiting) → is_free wt ≡ true → Hands wt false []
unfolding walked
hands-empty idle e h pos = (refl, refl)
hands-empty positional e h pos = (refl, refl)
hands-empty (option id) e h pos = absurd (true≢false (sym e))

hands-dash : (wt : Waiting) → is_free wt ≡ true → Hands wt false (45 ∷ [])
unfolding walked
hands-dash idle e h pos = (refl, refl)
hands-dash positional e h pos = (refl, refl)
hands-dash (option id) e h pos = absurd (true≢false (sym e))

hands-other : (wt : Waiting) (c : ℕ) (t : Text) → (c == 45) ≡ false → is_free wt ≡ true
    → Hands wt false (c ∷ t)
unfolding walked
hands-other idle c t n e h pos = (rw (n, n) refl, rw (n, n) refl)
hands-other positional c t n e h pos = (rw (n, n) refl, rw (n, n) refl)
hands-other (option id) c t n e h pos = absurd (true≢false (sym e))

ended-next : (wt : Waiting) (pos : ℕ) (h : Held)
    → walked all_rules [] (walk_at h wt pos false) (45 ∷ 45 ∷ []) ≡ walk_at h wt pos true
unfolding walked
ended-next idle pos h = refl
ended-next positional pos h = refl
ended-next (option id) pos h = refl

has-char : (d : ℕ) (t : Text) → IsUtf8 (45 ∷ d ∷ t) → HasChar (d ∷ t)
unfolding chars encode_utf8
has-char d t u = go (chars (d ∷ t)) refl
  where
    back : encode_utf8_all (45 ∷ chars (d ∷ t)) ≡ 45 ∷ d ∷ t
    back = encodes-chars (45 ∷ d ∷ t) u

    go : (cs : List ℕ) → chars (d ∷ t) ≡ cs → HasChar (d ∷ t)
    go [] e =
        let short : 45 ∷ [] ≡ 45 ∷ d ∷ t = sym (ap (λ cs. encode_utf8_all (45 ∷ cs)) e) ∙ back in
        absurd (cc)
    go (y ∷ ys) e = (y, ys, e)

doomed_at : (x : Text) (ws : List Text) → IsUtf8 x → View x
    → (wt : Waiting) (pos : ℕ) (rows : List Row) (p : Option (Text × List Text))
    → Fails (owes p rows)
    → ((pos : ℕ) → Ends (walk_at (held rows p) wt pos true) ws) → is_free wt ≡ true
    → Ends (walk_at (held rows p) wt pos false) (x ∷ ws)
doomed_at x ws u empty wt pos rows p h next e = turn-fails _ [] ws
    (subst Fails (sym (hands-empty wt e (held rows p) pos).0) (plain-settles pos rows p h))
doomed_at x ws u dash wt pos rows p h next e = turn-fails _ (45 ∷ []) ws
    (subst Fails (sym (hands-dash wt e (held rows p) pos).0) (plain-settles pos rows p h))
doomed_at x ws u (other c t n) wt pos rows p h next e = turn-fails _ (c ∷ t) ws
    (subst Fails (sym (hands-other wt c t n e (held rows p) pos).0) (plain-settles pos rows p h))
doomed_at x ws u (short d t n) wt pos rows p h next e =
    turn-fails _ (45 ∷ d ∷ t) ws (short-fails wt pos d t rows p n (has-char d t u))
doomed_at x ws u (long c t) wt pos rows p h next e =
    turn-fails _ (45 ∷ 45 ∷ c ∷ t) ws
    (subst Fails (sym (turn-long wt pos c t (held rows p))) (long-settles wt pos (45 ∷ 45 ∷ c ∷ t)
    rows p (kind_of (45 ∷ 45 ∷ name_of (c ∷ t))) (value_of (c ∷ t)) h))
doomed_at x ws u ends wt pos rows p h next e =
    turn-passes _ _ (45 ∷ 45 ∷ []) ws (ended-next wt pos (held rows p)) (next pos)

doomed : (words : List Text) → All IsUtf8 words
    → (wt : Waiting) (pos : ℕ) (t : Bool) (rows : List Row) (p : Option (Text × List Text))
    → Fails (owes p rows)
    → ((t ≡ true) ⊎ (is_free wt ≡ true)) → Ends (walk_at (held rows p) wt pos t) words
doomed [] u wt pos t rows p h f = inr h
doomed (x ∷ ws) u wt pos true rows p h f = turn-fails _ x ws
    (subst Fails (sym (hands-ended wt x (held rows p) pos).0) (plain-settles pos rows p h))
doomed (x ∷ ws) u wt pos false rows p h (inl f) = absurd (true≢false (sym f))
doomed (x ∷ ws) u wt pos false rows p h (inr f) =
    doomed_at x ws (All-head IsUtf8 x ws u) (view x) wt pos rows p h
    (λ q. doomed ws (All-tail IsUtf8 x ws u) wt q true rows p h (inl refl)) f

-- ---- the rows hold what was read of the line

abbrev pub text_row : Text → Option Text → Option Row
text_row id = option_map (λ v. new_row id AsWritten (v ∷ []))

abbrev pub mode_of : Plain → Option Text
mode_of none = None
mode_of (one m) = Some m
mode_of (two m n) = Some m

abbrev pub ring_of : Plain → Option Text
ring_of none = None
ring_of (one m) = None
ring_of (two m n) = Some n

abbrev pub place : Plain → ℕ
place none = 1
place (one m) = 2
place (two m n) = 3

pub record Match (rows : List Row) (l : Line) : Type 0 where
  pub fields : (f : Field) → look (field_id f) rows ≡ text_row (field_id f) (at f l)
  pub mode : look (codes "mode") rows ≡ text_row (codes "mode") (mode_of l.plain)
  pub ring : look (codes "ring") rows ≡ text_row (codes "ring") (ring_of l.plain)
  pub log :
      look (codes "log") rows
      ≡ cond l.log (Some (new_row (codes "log") AsWritten (codes "true" ∷ []))) None

field-free : (f : Field) (rows : List Row) (l : Line) → Match rows l → at f l ≡ None
    → look (field_id f) rows ≡ None
field-free f rows l m e = m.fields f ∙ ap (text_row (field_id f)) e

field-fields : (f g : Field) (v : Text) (rows : List Row) (l : Line) → Match rows l
    → look (field_id f) rows ≡ None
    → look (field_id g) (put (field_id f) AsWritten (v ∷ []) rows)
    ≡ text_row (field_id g) (at g (set f v l))
field-fields budget budget v rows l m free =
    put-same (codes "budget") AsWritten (v ∷ []) rows free refl
field-fields budget workers v rows l m free =
    put-other (codes "budget") AsWritten (v ∷ []) rows free (codes "workers") refl
    ∙ m.fields workers
field-fields budget by v rows l m free =
    put-other (codes "budget") AsWritten (v ∷ []) rows free (codes "by") refl ∙ m.fields by
field-fields budget loss v rows l m free =
    put-other (codes "budget") AsWritten (v ∷ []) rows free (codes "loss") refl ∙ m.fields loss
field-fields workers budget v rows l m free =
    put-other (codes "workers") AsWritten (v ∷ []) rows free (codes "budget") refl ∙ m.fields budget
field-fields workers workers v rows l m free =
    put-same (codes "workers") AsWritten (v ∷ []) rows free refl
field-fields workers by v rows l m free =
    put-other (codes "workers") AsWritten (v ∷ []) rows free (codes "by") refl ∙ m.fields by
field-fields workers loss v rows l m free =
    put-other (codes "workers") AsWritten (v ∷ []) rows free (codes "loss") refl ∙ m.fields loss
field-fields by budget v rows l m free =
    put-other (codes "by") AsWritten (v ∷ []) rows free (codes "budget") refl ∙ m.fields budget
field-fields by workers v rows l m free =
    put-other (codes "by") AsWritten (v ∷ []) rows free (codes "workers") refl ∙ m.fields workers
field-fields by by v rows l m free =
    put-same (codes "by") AsWritten (v ∷ []) rows free refl
field-fields by loss v rows l m free =
    put-other (codes "by") AsWritten (v ∷ []) rows free (codes "loss") refl ∙ m.fields loss
field-fields loss budget v rows l m free =
    put-other (codes "loss") AsWritten (v ∷ []) rows free (codes "budget") refl ∙ m.fields budget
field-fields loss workers v rows l m free =
    put-other (codes "loss") AsWritten (v ∷ []) rows free (codes "workers") refl ∙ m.fields workers
field-fields loss by v rows l m free =
    put-other (codes "loss") AsWritten (v ∷ []) rows free (codes "by") refl ∙ m.fields by
field-fields loss loss v rows l m free =
    put-same (codes "loss") AsWritten (v ∷ []) rows free refl

match-field : (f : Field) (v : Text) (rows : List Row) (l : Line) → Match rows l
    → look (field_id f) rows ≡ None → Match (put (field_id f) AsWritten (v ∷ []) rows) (set f v l)
match-field budget v rows l m free = record {
  fields = λ g. field-fields budget g v rows l m free;
  mode = put-other (codes "budget") AsWritten (v ∷ []) rows free (codes "mode") refl ∙ m.mode;
  ring = put-other (codes "budget") AsWritten (v ∷ []) rows free (codes "ring") refl ∙ m.ring;
  log = put-other (codes "budget") AsWritten (v ∷ []) rows free (codes "log") refl ∙ m.log;
}
match-field workers v rows l m free = record {
  fields = λ g. field-fields workers g v rows l m free;
  mode = put-other (codes "workers") AsWritten (v ∷ []) rows free (codes "mode") refl ∙ m.mode;
  ring = put-other (codes "workers") AsWritten (v ∷ []) rows free (codes "ring") refl ∙ m.ring;
  log = put-other (codes "workers") AsWritten (v ∷ []) rows free (codes "log") refl ∙ m.log;
}
match-field by v rows l m free = record {
  fields = λ g. field-fields by g v rows l m free;
  mode = put-other (codes "by") AsWritten (v ∷ []) rows free (codes "mode") refl ∙ m.mode;
  ring = put-other (codes "by") AsWritten (v ∷ []) rows free (codes "ring") refl ∙ m.ring;
  log = put-other (codes "by") AsWritten (v ∷ []) rows free (codes "log") refl ∙ m.log;
}
match-field loss v rows l m free = record {
  fields = λ g. field-fields loss g v rows l m free;
  mode = put-other (codes "loss") AsWritten (v ∷ []) rows free (codes "mode") refl ∙ m.mode;
  ring = put-other (codes "loss") AsWritten (v ∷ []) rows free (codes "ring") refl ∙ m.ring;
  log = put-other (codes "loss") AsWritten (v ∷ []) rows free (codes "log") refl ∙ m.log;
}

log-fields : (g : Field) (v : Text) (rows : List Row) (l : Line) → Match rows l
    → look (codes "log") rows ≡ None
    → look (field_id g) (put (codes "log") AsWritten (codes "true" ∷ []) rows)
    ≡ text_row (field_id g) (at g l)
log-fields budget v rows l m free =
    put-other (codes "log") AsWritten (codes "true" ∷ []) rows free (codes "budget") refl
    ∙ m.fields budget
log-fields workers v rows l m free =
    put-other (codes "log") AsWritten (codes "true" ∷ []) rows free (codes "workers") refl
    ∙ m.fields workers
log-fields by v rows l m free =
    put-other (codes "log") AsWritten (codes "true" ∷ []) rows free (codes "by") refl ∙ m.fields by
log-fields loss v rows l m free =
    put-other (codes "log") AsWritten (codes "true" ∷ []) rows free (codes "loss") refl
    ∙ m.fields loss

mode-fields : (g : Field) (v : Text) (rows : List Row) (l : Line) → Match rows l
    → look (codes "mode") rows ≡ None
    → look (field_id g) (put (codes "mode") AsWritten (v ∷ []) rows)
    ≡ text_row (field_id g) (at g l)
mode-fields budget v rows l m free =
    put-other (codes "mode") AsWritten (v ∷ []) rows free (codes "budget") refl ∙ m.fields budget
mode-fields workers v rows l m free =
    put-other (codes "mode") AsWritten (v ∷ []) rows free (codes "workers") refl ∙ m.fields workers
mode-fields by v rows l m free =
    put-other (codes "mode") AsWritten (v ∷ []) rows free (codes "by") refl ∙ m.fields by
mode-fields loss v rows l m free =
    put-other (codes "mode") AsWritten (v ∷ []) rows free (codes "loss") refl ∙ m.fields loss

ring-fields : (g : Field) (v : Text) (rows : List Row) (l : Line) → Match rows l
    → look (codes "ring") rows ≡ None
    → look (field_id g) (put (codes "ring") AsWritten (v ∷ []) rows)
    ≡ text_row (field_id g) (at g l)
ring-fields budget v rows l m free =
    put-other (codes "ring") AsWritten (v ∷ []) rows free (codes "budget") refl ∙ m.fields budget
ring-fields workers v rows l m free =
    put-other (codes "ring") AsWritten (v ∷ []) rows free (codes "workers") refl ∙ m.fields workers
ring-fields by v rows l m free =
    put-other (codes "ring") AsWritten (v ∷ []) rows free (codes "by") refl ∙ m.fields by
ring-fields loss v rows l m free =
    put-other (codes "ring") AsWritten (v ∷ []) rows free (codes "loss") refl ∙ m.fields loss

at-log : (g : Field) (l : Line) → at g (record l { log = true }) ≡ at g l
at-log budget l = refl
at-log workers l = refl
at-log by l = refl
at-log loss l = refl

at-plain : (g : Field) (p : Plain) (l : Line) → at g (record l { plain = p }) ≡ at g l
at-plain budget p l = refl
at-plain workers p l = refl
at-plain by p l = refl
at-plain loss p l = refl

match-log : (rows : List Row) (l : Line) → Match rows l → look (codes "log") rows ≡ None
    → Match (put (codes "log") AsWritten (codes "true" ∷ []) rows) (record l { log = true })
match-log rows l m free = record {
  fields = λ g. log-fields g [] rows l m free ∙ ap (text_row (field_id g)) (sym (at-log g l));
  mode =
      put-other (codes "log") AsWritten (codes "true" ∷ []) rows free (codes "mode") refl ∙ m.mode;
  ring =
      put-other (codes "log") AsWritten (codes "true" ∷ []) rows free (codes "ring") refl ∙ m.ring;
  log = put-same (codes "log") AsWritten (codes "true" ∷ []) rows free refl;
}

match-one : (v : Text) (rows : List Row) (l : Line) → Match rows (record l { plain = none })
    → Match (put (codes "mode") AsWritten (v ∷ []) rows) (record l { plain = one v })
match-one v rows l m = record {
  fields = λ g. mode-fields g v rows (record l { plain = none }) m m.mode
      ∙ ap (text_row (field_id g)) (at-plain g none l ∙ sym (at-plain g (one v) l));
  mode = put-same (codes "mode") AsWritten (v ∷ []) rows m.mode refl;
  ring = put-other (codes "mode") AsWritten (v ∷ []) rows m.mode (codes "ring") refl ∙ m.ring;
  log = put-other (codes "mode") AsWritten (v ∷ []) rows m.mode (codes "log") refl ∙ m.log;
}

match-two : (u v : Text) (rows : List Row) (l : Line) → Match rows (record l { plain = one u })
    → Match (put (codes "ring") AsWritten (v ∷ []) rows) (record l { plain = two u v })
match-two u v rows l m = record {
  fields = λ g. ring-fields g v rows (record l { plain = one u }) m m.ring
      ∙ ap (text_row (field_id g)) (at-plain g (one u) l ∙ sym (at-plain g (two u v) l));
  mode = put-other (codes "ring") AsWritten (v ∷ []) rows m.ring (codes "mode") refl ∙ m.mode;
  ring = put-same (codes "ring") AsWritten (v ∷ []) rows m.ring refl;
  log = put-other (codes "ring") AsWritten (v ∷ []) rows m.ring (codes "log") refl ∙ m.log;
}

-- ---- the walk and the reading, side by side

abbrev reading : Line → Option Field → Bool → Reading
reading l waits t = record { line = l; waits = waits; ended = t }

-- nothing waits for a value, or an option does
pub data Sim : Walk → Reading → Type 0 where
  ready : (rows : List Row) (p : Option (Text × List Text)) (wt : Waiting) (t : Bool) (l : Line)
      → is_free wt ≡ true → owes p rows ≡ [] → Match (rows_now p rows) l
      → Sim (walk_at (held rows p) wt (place l.plain) t) (reading l None t)
  waiting : (f : Field) (rows : List Row) (l : Line) → Match rows l
      → Sim
      (walk_at (held rows (Some (field_id f, []))) (option (field_id f)) (place l.plain) false)
      (reading l (Some f) false)

-- one word takes both a step on, or both refuse, whatever words follow
data OneWord (w : Walk) (r : Reading) (x : Text) : Type 0 where
  stops : ((ws : List Text) → All IsUtf8 ws → Ends w (x ∷ ws))
      → ((ws : List Text) → asks r (x ∷ ws) ≡ None) → OneWord w r x
  goes : (walk_after : Walk) (reading_after : Reading) → walked all_rules [] w x ≡ walk_after
      → turn_fault shape [] w x ≡ [] → read_word r x ≡ Some reading_after
      → Sim walk_after reading_after → OneWord w r x

refused : (w : Walk) (r : Reading) (x : Text) → Fails (turn_fault shape [] w x)
    → read_word r x ≡ None → OneWord w r x
refused w r x h e = stops (λ ws u. turn-fails w x ws h) (λ ws. asks-none r x ws e)

module _ (wt : Waiting) (pos : ℕ) (x : Text) (rows : List Row) (p : Option (Text × List Text))
    (clear : owes p rows ≡ []) where
  log-turn : (b : Bool) → has_row (codes "log") (rows_now p rows) ≡ b
      → long_turn wt pos x (held rows p) (Some log_rule) None ≡ or_else (repeat b) []
  log-turn b e = ap₂ (λ (a u : Kinds). or_else (or_else a u) []) clear
      (log_use (rows_now p rows) ∙ ap repeat e)

  field-turn : (f : Field) (v : Text) (b : Bool) → has_row (field_id f) (rows_now p rows) ≡ b
      → long_turn wt pos x (held rows p) (Some (field_rule f)) (Some v) ≡ or_else (repeat b) []
  field-turn f v b e = ap₂ (λ (a u : Kinds). or_else (or_else a u) []) clear
      (field_use f v (rows_now p rows) ∙ ap repeat e)

  wait-turn : (f : Field) → long_turn wt pos x (held rows p) (Some (field_rule f)) None ≡ []
  wait-turn f = ap (λ (a : Kinds). or_else a []) clear

has-none : (id : Text) (rows : List Row) → look id rows ≡ None → has_row id rows ≡ false
has-none id rows e = has-look id rows ∙ ap is_some e

none-at : (f : Field) (l : Line) → is_some (at f l) ≡ false → at f l ≡ None
none-at f l e = go (at f l) e
  where
    go : (o : Option Text) → is_some o ≡ false → o ≡ None
    go None e = refl
    go (Some v) e = cc

has-field : (f : Field) (rows : List Row) (l : Line) → Match rows l
    → has_row (field_id f) rows ≡ is_some (at f l)
has-field f rows l m = has-look (field_id f) rows ∙ ap is_some (m.fields f) ∙ go (at f l)
  where
    go : (o : Option Text) → is_some (text_row (field_id f) o) ≡ is_some o
    go None = refl
    go (Some v) = refl

has-log : (rows : List Row) (l : Line) → Match rows l → has_row (codes "log") rows ≡ l.log
has-log rows l m = has-look (codes "log") rows ∙ ap is_some m.log ∙ go l.log
  where
    go : (b : Bool)
        → is_some (cond b (Some (new_row (codes "log") AsWritten (codes "true" ∷ []))) None) ≡ b
    go true = refl
    go false = refl

place-set : (f : Field) (v : Text) (l : Line) → place (set f v l).plain ≡ place l.plain
place-set budget v l = refl
place-set workers v l = refl
place-set by v l = refl
place-set loss v l = refl

-- a word `--name` or `--name=value`, where nothing waits
module _ (c : ℕ) (t : Text) (rows : List Row) (p : Option (Text × List Text)) (wt : Waiting)
    (l : Line) (free : is_free wt ≡ true)
    (clear : owes p rows ≡ []) (m : Match (rows_now p rows) l) where
  abbrev here : Walk
  here = walk_at (held rows p) wt (place l.plain) false

  abbrev word : Text
  word = 45 ∷ 45 ∷ c ∷ t

  named_step : (k : Kind) (v : Option Text)
      → turn_fault shape [] here word
      ≡ long_turn wt (place l.plain) word (held rows p) (kind_rule k) v
      → walked all_rules [] here word
      ≡ long_next wt (place l.plain) word (held rows p) (kind_rule k) v
      → read_word (reading l None false) word ≡ option_word k v (reading l None false)
      → OneWord here (reading l None false) word
  named_step unknown v turn next read =
      refused here (reading l None false) word (subst Fails (sym turn) tt) read
  named_step flag (Some v) turn next read =
      refused here (reading l None false) word (subst Fails (sym turn) tt) read
  named_step flag None turn next read = by_log l.log refl
    where
      by_log : (b : Bool) → l.log ≡ b → OneWord here (reading l None false) word
      by_log true e = refused here (reading l None false) word
          (subst Fails (sym (turn
          ∙ log-turn wt (place l.plain) word rows p clear true (has-log (rows_now p rows) l m ∙ e)))
          tt)
          (read
          ∙ ap (λ b. option_map (λ changed. record (reading l None false) { line = changed })
          (cond b None (Some (record l { log = true })))) e)
      by_log false e =
          let absent : look (codes "log") (rows_now p rows) ≡ None =
          m.log
          ∙ ap (λ b. cond b (Some (new_row (codes "log") AsWritten (codes "true" ∷ []))) None) e in
          goes
          (walk_at (held (put (codes "log") AsWritten (codes "true" ∷ []) (rows_now p rows)) None)
          idle (place l.plain) false) (reading (record l { log = true }) None false)
          next
          (turn
          ∙ log-turn wt (place l.plain) word rows p clear false (has-log (rows_now p rows) l m ∙ e))
          (read
          ∙ ap (λ b. option_map (λ changed. record (reading l None false) { line = changed })
          (cond b None (Some (record l { log = true })))) e)
          (ready (put (codes "log") AsWritten (codes "true" ∷ []) (rows_now p rows)) None idle false
          (record l { log = true }) refl refl
          (match-log (rows_now p rows) l m absent))
  named_step (valued f) None turn next read =
      goes (walk_at (held (rows_now p rows) (Some (field_id f, []))) (option (field_id f))
      (place l.plain) false) (reading l (Some f) false)
      next (turn ∙ wait-turn wt (place l.plain) word rows p clear f) read
      (waiting f (rows_now p rows) l m)
  named_step (valued f) (Some v) turn next read = by_field (is_some (at f l)) refl
    where
      told : (b : Bool) → is_some (at f l) ≡ b → given f v l ≡ cond b None (Some (set f v l))
      told b e = given-is f v l ∙ ap (λ b. cond b None (Some (set f v l))) e

      by_field : (b : Bool) → is_some (at f l) ≡ b → OneWord here (reading l None false) word
      by_field true e = refused here (reading l None false) word
          (subst Fails (sym (turn
          ∙ field-turn wt (place l.plain) word rows p clear f v true
          (has-field f (rows_now p rows) l m ∙ e))) tt)
          (read
          ∙ ap (option_map (λ changed. record (reading l None false) { line = changed }))
          (told true e))
      by_field false e =
          goes (walk_at (held (put (field_id f) AsWritten (v ∷ []) (rows_now p rows)) None) idle
          (place l.plain) false) (reading (set f v l) None false)
          (next
          ∙ ap (λ rs. walk_at (held rs None) idle (place l.plain) false)
          (field_used f v (rows_now p rows)))
          (turn
          ∙ field-turn wt (place l.plain) word rows p clear f v false
          (has-field f (rows_now p rows) l m ∙ e))
          (read
          ∙ ap (option_map (λ changed. record (reading l None false) { line = changed }))
          (told false e))
          (subst (λ (n : ℕ). Sim
          (walk_at (held (put (field_id f) AsWritten (v ∷ []) (rows_now p rows)) None) idle n false)
          (reading (set f v l) None false)) (place-set f v l)
          (ready (put (field_id f) AsWritten (v ∷ []) (rows_now p rows)) None idle false (set f v l)
          refl refl
          (match-field f v (rows_now p rows) l m
          (field-free f (rows_now p rows) l m (none-at f l e)))))

  long_ready : OneWord here (reading l None false) word
  long_ready = named_step (kind_of (45 ∷ 45 ∷ name_of (c ∷ t))) (value_of (c ∷ t))
      (turn-long wt (place l.plain) c t (held rows p))
      (next-long wt (place l.plain) c t (held rows p)) refl

-- ---- a plain word, where nothing waits

module _ (x : Text) (rows : List Row) (p : Option (Text × List Text)) (wt : Waiting) (t : Bool)
    (l : Line) (hands : Hands wt t x) (clear : owes p rows ≡ []) where
  plain_step : (pl : Plain) → Match (rows_now p rows) (record l { plain = pl })
      → read_word (reading (record l { plain = pl }) None t) x
      ≡ into (reading (record l { plain = pl }) None t) (with_plain pl x (record l { plain = pl }))
      → OneWord (walk_at (held rows p) wt (place pl) t) (reading (record l { plain = pl }) None t) x
  plain_step none m read =
      goes (walk_at (held (rows_now p rows) (Some (codes "mode", x ∷ []))) idle 2 t)
      (reading (record l { plain = one x }) None t)
      ((hands (held rows p) 1).1
      ∙ ap₂ (λ (q b : Bool). walk_at
      (pushed (codes "mode") x (cond q (held rows p) (settled all_rules (held rows p)))) idle 2 b)
      (and_false (is_pending mode_rule p)) (or_false t))
      ((hands (held rows p) 1).0
      ∙ ap (λ (q : Bool). cond q [] (owes p rows)) (and_false (is_pending mode_rule p)) ∙ clear)
      read
      (ready (rows_now p rows) (Some (codes "mode", x ∷ [])) idle t (record l { plain = one x })
      refl
      (mode_use x (rows_now p rows) ∙ ap repeat (has-none (codes "mode") (rows_now p rows) m.mode))
      (match-one x (rows_now p rows) l m))
  plain_step (one u) m read =
      goes (walk_at (held (rows_now p rows) (Some (codes "ring", x ∷ []))) idle 3 t)
      (reading (record l { plain = two u x }) None t)
      ((hands (held rows p) 2).1
      ∙ ap₂ (λ (q b : Bool). walk_at
      (pushed (codes "ring") x (cond q (held rows p) (settled all_rules (held rows p)))) idle 3 b)
      (and_false (is_pending ring_rule p)) (or_false t))
      ((hands (held rows p) 2).0
      ∙ ap (λ (q : Bool). cond q [] (owes p rows)) (and_false (is_pending ring_rule p)) ∙ clear)
      read
      (ready (rows_now p rows) (Some (codes "ring", x ∷ [])) idle t (record l { plain = two u x })
      refl
      (ring_use x (rows_now p rows) ∙ ap repeat (has-none (codes "ring") (rows_now p rows) m.ring))
      (match-two u x (rows_now p rows) l m))
  plain_step (two u v) m read =
      refused (walk_at (held rows p) wt 3 t) (reading (record l { plain = two u v }) None t) x
      (subst Fails (sym (hands (held rows p) 3).0) tt) read

-- ---- what the reading makes of a word

dashed-other : (c : ℕ) (t : Text) → (c == 45) ≡ false → is_dashed (c ∷ t) ≡ false
dashed-other c [] e = refl
dashed-other c (d ∷ t) e = e

reads-plain : (x : Text) (l : Line) (t b : Bool) → (is_dashed x && not t) ≡ false
    → read_word (reading l None t) x ≡ into (reading l None t) (with_plain l.plain x l)
reads-plain x l t b e = ap (λ q.
    cond q (dashed_word x (reading l None t)) (into (reading l None t) (with_plain l.plain x l))) e

not_45 : (d : ℕ) → (d == 45) ≡ false → (45 == d) ≡ false
not_45 d e = go (45 == d) refl
  where
    go : (b : Bool) → (45 == d) ≡ b → b ≡ false
    go false h = refl
    go true h =
        let same : d ≡ 45 = omega (arith, Rattle.std.proofs.Common.eqb-true 45 d h) in
        absurd (true≢false (sym (Rattle.std.proofs.Common.eq-eqb d 45 same) ∙ e))

kind-short : (d : ℕ) (t : Text) → (d == 45) ≡ false → kind_of (name_of (45 ∷ d ∷ t)) ≡ unknown
kind-short d t e = go (d == 61)
  where
    go : (b : Bool) → kind_of (45 ∷ cond b [] (d ∷ name_of t)) ≡ unknown
    go true = refl
    go false = let s = not_45 d e in rw s refl

reads-short : (d : ℕ) (t : Text) (l : Line) → (d == 45) ≡ false
    → read_word (reading l None false) (45 ∷ d ∷ t) ≡ None
reads-short d t l e =
    let no_end : bytes_eq (45 ∷ d ∷ t) (codes "--") ≡ false = ap (λ b. b && bytes_eq t []) e in
    ap (λ b. cond b (Some (reading l None true))
    (option_word (kind_of (name_of (45 ∷ d ∷ t))) (value_of (45 ∷ d ∷ t)) (reading l None false)))
    no_end
    ∙ ap (λ k. option_word k (value_of (45 ∷ d ∷ t)) (reading l None false)) (kind-short d t e)

ended-turn : (wt : Waiting) (pos : ℕ) (h : Held)
    → turn_fault shape [] (walk_at h wt pos false) (45 ∷ 45 ∷ []) ≡ []
ended-turn idle pos h = refl
ended-turn positional pos h = refl
ended-turn (option id) pos h = refl

ready_step : (x : Text) → IsUtf8 x → View x
    → (rows : List Row) (p : Option (Text × List Text)) (wt : Waiting) (l : Line)
    → is_free wt ≡ true → owes p rows ≡ []
    → Match (rows_now p rows) l
    → OneWord (walk_at (held rows p) wt (place l.plain) false) (reading l None false) x
ready_step x u empty rows p wt l free clear m =
    plain_step [] rows p wt false l (hands-empty wt free) clear l.plain m refl
ready_step x u dash rows p wt l free clear m =
    plain_step (45 ∷ []) rows p wt false l (hands-dash wt free) clear l.plain m refl
ready_step x u (other c t n) rows p wt l free clear m =
    plain_step (c ∷ t) rows p wt false l (hands-other wt c t n free) clear l.plain m
    (reads-plain (c ∷ t) l false false (ap (λ b. b && true) (dashed-other c t n)))
ready_step x u (short d t n) rows p wt l free clear m =
    refused (walk_at (held rows p) wt (place l.plain) false) (reading l None false) (45 ∷ d ∷ t)
    (short-fails wt (place l.plain) d t rows p n (has-char d t u)) (reads-short d t l n)
ready_step x u (long c t) rows p wt l free clear m = long_ready c t rows p wt l free clear m
ready_step x u ends rows p wt l free clear m =
    goes (walk_at (held rows p) wt (place l.plain) true) (reading l None true)
    (ended-next wt (place l.plain) (held rows p)) (ended-turn wt (place l.plain) (held rows p)) refl
    (ready rows p wt true l free clear m)

ended_step : (x : Text) (rows : List Row) (p : Option (Text × List Text)) (wt : Waiting) (l : Line)
    → owes p rows ≡ []
    → Match (rows_now p rows) l
    → OneWord (walk_at (held rows p) wt (place l.plain) true) (reading l None true) x
ended_step x rows p wt l clear m = plain_step x rows p wt true l (hands-ended wt x) clear l.plain m
    (reads-plain x l true true (and_false (is_dashed x)))

-- ---- the word after an option

Takes : Text → Type 0
Takes x = (f : Field) (rows : List Row) (pos : ℕ)
    → (turn_fault shape []
    (walk_at (held rows (Some (field_id f, []))) (option (field_id f)) pos false) x ≡ [])
    × (walked all_rules []
    (walk_at (held rows (Some (field_id f, []))) (option (field_id f)) pos false) x
    ≡ walk_at (held rows (Some (field_id f, x ∷ []))) idle pos false)

takes-empty : Takes []
unfolding walked Takes
takes-empty budget rows pos = (refl, refl)
takes-empty workers rows pos = (refl, refl)
takes-empty by rows pos = (refl, refl)
takes-empty loss rows pos = (refl, refl)

takes-dash : Takes (45 ∷ [])
unfolding walked Takes
takes-dash budget rows pos = (refl, refl)
takes-dash workers rows pos = (refl, refl)
takes-dash by rows pos = (refl, refl)
takes-dash loss rows pos = (refl, refl)

takes-other : (c : ℕ) (t : Text) → (c == 45) ≡ false → Takes (c ∷ t)
unfolding walked Takes
takes-other c t n budget rows pos = (rw (n, n) refl, rw (n, n) refl)
takes-other c t n workers rows pos = (rw (n, n) refl, rw (n, n) refl)
takes-other c t n by rows pos = (rw (n, n) refl, rw (n, n) refl)
takes-other c t n loss rows pos = (rw (n, n) refl, rw (n, n) refl)

owes-field : (f : Field) (x : Text) (rows : List Row)
    → owes (Some (field_id f, x ∷ [])) rows ≡ use_fault false (field_rule f) (x ∷ []) rows
owes-field budget x rows = refl
owes-field workers x rows = refl
owes-field by x rows = refl
owes-field loss x rows = refl

rows-field : (f : Field) (x : Text) (rows : List Row)
    → rows_now (Some (field_id f, x ∷ [])) rows ≡ put (field_id f) AsWritten (x ∷ []) rows
rows-field budget x rows = refl
rows-field workers x rows = refl
rows-field by x rows = refl
rows-field loss x rows = refl

owes-waiting : (f : Field) (rows : List Row) → Fails (owes (Some (field_id f, [])) rows)
owes-waiting budget rows = tt
owes-waiting workers rows = tt
owes-waiting by rows = tt
owes-waiting loss rows = tt

at-set : (f : Field) (v : Text) (l : Line) → at f (set f v l) ≡ Some v
at-set budget v l = refl
at-set workers v l = refl
at-set by v l = refl
at-set loss v l = refl

module _ (f : Field) (rows : List Row) (l : Line) (m : Match rows l) where
  abbrev at_option : Walk
  at_option =
      walk_at (held rows (Some (field_id f, []))) (option (field_id f)) (place l.plain) false

  reads-value : (x : Text) (b : Bool) → is_some (at f l) ≡ b
      → read_word (reading l (Some f) false) x ≡ cond b None (Some (reading (set f x l) None false))
  reads-value x b e = ap
      (option_map (λ changed. record (reading l (Some f) false) { line = changed; waits = None }))
      (given-is f x l ∙ ap (λ b. cond b None (Some (set f x l))) e) ∙ go b
    where
      go : (b : Bool)
          → option_map
          (λ changed. record (reading l (Some f) false) { line = changed; waits = None })
          (cond b None (Some (set f x l))) ≡ cond b None (Some (reading (set f x l) None false))
      go true = refl
      go false = refl

  value_step : (x : Text) → Takes x → OneWord at_option (reading l (Some f) false) x
  unfolding Takes
  value_step x takes = by_field (is_some (at f l)) refl
    where
      owed : (b : Bool) → is_some (at f l) ≡ b → owes (Some (field_id f, x ∷ [])) rows ≡ repeat b
      owed b e = owes-field f x rows ∙ field_use f x rows ∙ ap repeat (has-field f rows l m ∙ e)

      by_field : (b : Bool) → is_some (at f l) ≡ b → OneWord at_option (reading l (Some f) false) x
      by_field true e = stops
          (λ ws u. turn-passes at_option
          (walk_at (held rows (Some (field_id f, x ∷ []))) idle (place l.plain) false) x ws
          (takes f rows (place l.plain)).1
          (doomed ws u idle (place l.plain) false rows (Some (field_id f, x ∷ []))
          (subst Fails (sym (owed true e)) tt) (inr refl)))
          (λ ws. asks-none (reading l (Some f) false) x ws (reads-value x true e))
      by_field false e =
          goes (walk_at (held rows (Some (field_id f, x ∷ []))) idle (place l.plain) false)
          (reading (set f x l) None false)
          (takes f rows (place l.plain)).1 (takes f rows (place l.plain)).0 (reads-value x false e)
          (subst (λ (n : ℕ). Sim (walk_at (held rows (Some (field_id f, x ∷ []))) idle n false)
          (reading (set f x l) None false)) (place-set f x l)
          (ready rows (Some (field_id f, x ∷ [])) idle false (set f x l) refl (owed false e)
          (subst (λ (rs : List Row). Match rs (set f x l)) (sym (rows-field f x rows))
          (match-field f x rows l m (field-free f rows l m (none-at f l e))))))

  dashed-value : (t : Text) (ws : List Text)
      → asks (reading l (Some f) false) ((45 ∷ t) ∷ ws) ≡ None
  dashed-value t ws = by_field (is_some (at f l)) refl
    where
      by_field : (b : Bool) → is_some (at f l) ≡ b
          → asks (reading l (Some f) false) ((45 ∷ t) ∷ ws) ≡ None
      by_field true e =
          asks-none (reading l (Some f) false) (45 ∷ t) ws (reads-value (45 ∷ t) true e)
      by_field false e =
          ap (option_and_then judged) (rest-next (reading l (Some f) false)
          (reading (set f (45 ∷ t) l) None false) (45 ∷ t) ws (reads-value (45 ∷ t) false e))
          ∙ spoiled f t ws (reading (set f (45 ∷ t) l) None false) (at-set f (45 ∷ t) l)

  waiting_step : (x : Text) → IsUtf8 x → View x → OneWord at_option (reading l (Some f) false) x
  waiting_step x u empty = value_step [] takes-empty
  waiting_step x u dash = value_step (45 ∷ []) takes-dash
  waiting_step x u (other c t n) = value_step (c ∷ t) (takes-other c t n)
  waiting_step x u (short d t n) =
      stops (λ ws us. turn-fails at_option (45 ∷ d ∷ t) ws (short-fails (option (field_id f))
      (place l.plain) d t rows (Some (field_id f, [])) n (has-char d t u)))
      (dashed-value (d ∷ t))
  waiting_step x u (long c t) = stops
      (λ ws us. turn-fails at_option (45 ∷ 45 ∷ c ∷ t) ws (subst Fails (sym
      (turn-long (option (field_id f)) (place l.plain) c t (held rows (Some (field_id f, [])))))
      (long-settles (option (field_id f)) (place l.plain) (45 ∷ 45 ∷ c ∷ t) rows
      (Some (field_id f, [])) (kind_of (45 ∷ 45 ∷ name_of (c ∷ t))) (value_of (c ∷ t))
      (owes-waiting f rows))))
      (dashed-value (45 ∷ c ∷ t))
  waiting_step x u ends = stops
      (λ ws us. turn-passes at_option
      (walk_at (held rows (Some (field_id f, []))) (option (field_id f)) (place l.plain) true)
      (45 ∷ 45 ∷ []) ws
      (ended-next (option (field_id f)) (place l.plain) (held rows (Some (field_id f, []))))
      (doomed ws us (option (field_id f)) (place l.plain) true rows (Some (field_id f, []))
      (owes-waiting f rows) (inl refl)))
      (dashed-value (45 ∷ []))

-- ---- the whole walk

-- all words take both to their end, or both refuse
pub data Run (w : Walk) (r : Reading) (words : List Text) : Type 0 where
  fails : Ends w words → asks r words ≡ None → Run w r words
  passes : (l : Line) → walk_fault shape [] w words ≡ []
      → settle_fault all_rules false (fold (walked all_rules []) w words).held ≡ []
      → (fold (walked all_rules []) w words).stopped ≡ None → rest r words ≡ Some l
      → Match (settled all_rules (fold (walked all_rules []) w words).held).rows l → Run w r words

step_of : (w : Walk) (r : Reading) (x : Text) → IsUtf8 x → Sim w r → OneWord w r x
step_of w r x u (ready rows p wt false l free clear m) =
    ready_step x u (view x) rows p wt l free clear m
step_of w r x u (ready rows p wt true l free clear m) = ended_step x rows p wt l clear m
step_of w r x u (waiting f rows l m) = waiting_step f rows l m x u (view x)

joined : (w : Walk) (r : Reading) (x : Text) (ws : List Text) → All IsUtf8 ws → OneWord w r x
    → ((walk_after : Walk) (reading_after : Reading) → Sim walk_after reading_after
    → Run walk_after reading_after ws) → Run w r (x ∷ ws)
unfolding walk_fault
joined w r x ws us (stops a b) next = fails (a ws us) (b ws)
joined w r x ws us (goes walk_after reading_after step turn read sim) next =
    elim (next walk_after reading_after sim) [
      | fails e n ↦ fails (turn-passes w walk_after x ws step e)
          (ap (option_and_then judged) (rest-next r reading_after x ws read) ∙ n)
      | passes l walk settle top n m ↦ passes l
          (ap₂ or_else turn (ap (λ v. walk_fault shape [] v ws) step ∙ walk))
          (ap (λ v. settle_fault all_rules false (fold (walked all_rules []) v ws).held) step
          ∙ settle)
          (ap (λ (v : Walk). (fold (walked all_rules []) v ws).stopped) step ∙ top)
          (rest-next r reading_after x ws read ∙ n)
          (subst
          (λ (v : Walk). Match (settled all_rules (fold (walked all_rules []) v ws).held).rows l)
          (sym step) m)
    ]

last : (w : Walk) (r : Reading) → Sim w r → Run w r []
unfolding walk_fault read_from
last w r (ready rows p wt t l free clear m) = passes l refl clear refl refl m
last w r (waiting f rows l m) = fails (inr (owes-waiting f rows)) refl

pub simulate : (words : List Text) → All IsUtf8 words → (w : Walk) (r : Reading) → Sim w r
    → Run w r words
simulate [] us w r s = last w r s
simulate (x ∷ ws) us w r s = joined w r x ws (All-tail IsUtf8 x ws us)
    (step_of w r x (All-head IsUtf8 x ws us) s) (simulate ws (All-tail IsUtf8 x ws us))
