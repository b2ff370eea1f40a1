-- What the kit's parser makes of one word, at the command of this crate.
use Rattle.std.proofs.Common.{◌≡◌, Bool, cond, true, false, refl, List, [], ◌∷◌, Option, Some, None}
use Rattle.std.proofs.Common.{codes}
use Rattle.std.specs.Prelude.{◌||◌, ◌&&◌, fold}
use Rattle.std.specs.Str.{bytes_eq}
use Rattle.clap.specs.declared.builder.value_parser.Reading.TheVariants.{AsWritten}
use Rattle.clap.specs.declared.error.kind.ErrorKind.TheVariants as kind
use Rattle.clap.specs.Walk.{Row, Rule, Text, arg_by_long, has_row, used, with_default}
use Rattle.clap.specs.Simple.{Shape, built, filled, is_simple, with_index}
use Rattle.clap.specs.Faults.{default_fault, defaults_fault, is_simple_and_free, use_fault}
use Rattle.clap.specs.Kinds.{Kinds, or_else}
use Rattle.join_words.specs.Line.{Field, Kind, budget, by, flag, kind_of, loss, unknown, valued}
use Rattle.join_words.specs.Line.{workers}
use Rattle.join_words.specs.inside.Command.{flagged, line_app, optional, positional}
use Rattle.join_words.proofs.Rows.{put}

abbrev pub shape : Shape
shape = (built line_app).top

abbrev pub all_rules : List Rule
all_rules = shape.rules

pub line_app-simple : is_simple line_app ≡ true
line_app-simple = refl

pub line_app-free : is_simple_and_free line_app ≡ true
line_app-free = refl

abbrev pub mode_rule : Rule
mode_rule = with_index 1 (filled (positional (codes "mode")))

abbrev pub ring_rule : Rule
ring_rule = with_index 2 (filled (positional (codes "ring")))

abbrev pub field_id : Field → Text
field_id budget = codes "budget"
field_id workers = codes "workers"
field_id by = codes "by"
field_id loss = codes "loss"

abbrev pub field_rule : Field → Rule
field_rule f = filled (optional (field_id f))

abbrev pub log_rule : Rule
log_rule = filled (flagged (codes "log"))

abbrev pub kind_rule : Kind → Option Rule
kind_rule (valued f) = Some (field_rule f)
kind_rule flag = Some log_rule
kind_rule unknown = None

pub by_long : (name : Text) → arg_by_long all_rules name ≡ kind_rule (kind_of (45 ∷ 45 ∷ name))
by_long name = go (bytes_eq (codes "budget") name) (bytes_eq (codes "workers") name)
    (bytes_eq (codes "by") name) (bytes_eq (codes "loss") name) (bytes_eq (codes "log") name)
  where
    go : (b w y s l : Bool)
        → cond (b || false) (Some (field_rule budget))
        (cond (w || false) (Some (field_rule workers))
        (cond (y || false) (Some (field_rule by))
        (cond (s || false) (Some (field_rule loss)) (cond (l || false) (Some log_rule) None))))
        ≡ kind_rule (cond b (valued budget)
        (cond w (valued workers) (cond y (valued by) (cond s (valued loss) (cond l flag unknown)))))
    go true w y s l = refl
    go false true y s l = refl
    go false false true s l = refl
    go false false false true l = refl
    go false false false false true = refl
    go false false false false false = refl

-- ---- one use

abbrev pub repeat : Bool → Kinds
repeat b = cond b (kind.ArgumentConflict ∷ []) []

abbrev text_fault : Bool → Kinds
text_fault b = or_else (cond b (kind.ArgumentConflict ∷ []) []) []

text-repeat : (b : Bool) → text_fault (b && true) ≡ repeat b
text-repeat true = refl
text-repeat false = refl

pub mode_use : (v : Text) (rows : List Row)
    → use_fault false mode_rule (v ∷ []) rows ≡ repeat (has_row (codes "mode") rows)
mode_use v rows = text-repeat (has_row (codes "mode") rows)

pub ring_use : (v : Text) (rows : List Row)
    → use_fault false ring_rule (v ∷ []) rows ≡ repeat (has_row (codes "ring") rows)
ring_use v rows = text-repeat (has_row (codes "ring") rows)

pub field_use : (f : Field) (v : Text) (rows : List Row)
    → use_fault false (field_rule f) (v ∷ []) rows ≡ repeat (has_row (field_id f) rows)
field_use budget v rows = text-repeat (has_row (codes "budget") rows)
field_use workers v rows = text-repeat (has_row (codes "workers") rows)
field_use by v rows = text-repeat (has_row (codes "by") rows)
field_use loss v rows = text-repeat (has_row (codes "loss") rows)

pub log_use : (rows : List Row)
    → use_fault false log_rule [] rows ≡ repeat (has_row (codes "log") rows)
log_use rows = text-repeat (has_row (codes "log") rows)

pub field_used : (f : Field) (v : Text) (rows : List Row)
    → used (field_rule f) (v ∷ []) rows ≡ put (field_id f) AsWritten (v ∷ []) rows
field_used budget v rows = refl
field_used workers v rows = refl
field_used by v rows = refl
field_used loss v rows = refl

-- ---- after the words

same : {X : Type 0} (b : Bool) (x : X) → cond b x x ≡ x
same true x = refl
same false x = refl

pub finish : (rows : List Row) → fold with_default rows all_rules ≡ with_default rows log_rule
finish rows = simp (same {X = List Row})

no_default : (b : Bool) (ks : Kinds) → cond (b || true) [] ks ≡ []
no_default true ks = refl
no_default false ks = refl

one_more : (a : Rule) (rest : List Rule) → ((rows : List Row) → default_fault rows a ≡ [])
    → ((rows : List Row) → defaults_fault rows rest ≡ [])
    → (rows : List Row) → defaults_fault rows (a ∷ rest) ≡ []
unfolding defaults_fault
one_more a rest h t rows = rw (h rows) (t (with_default rows a))

nothing_left : (rows : List Row) → defaults_fault rows [] ≡ []
unfolding defaults_fault
nothing_left rows = refl

pub defaults_pass : (rows : List Row) → defaults_fault rows all_rules ≡ []
defaults_pass = one_more mode_rule _ (λ rows. no_default (has_row (codes "mode") rows) _)
    (one_more ring_rule _ (λ rows. no_default (has_row (codes "ring") rows) _)
    (one_more (field_rule budget) _ (λ rows. no_default (has_row (codes "budget") rows) _)
    (one_more (field_rule workers) _ (λ rows. no_default (has_row (codes "workers") rows) _)
    (one_more (field_rule by) _ (λ rows. no_default (has_row (codes "by") rows) _)
    (one_more (field_rule loss) _ (λ rows. no_default (has_row (codes "loss") rows) _)
    (one_more log_rule _ (λ rows. log_default (has_row (codes "log") rows)) nothing_left))))))
  where
    log_default : (b : Bool) → cond {A = Kinds} (b || false) [] [] ≡ []
    log_default true = refl
    log_default false = refl
