-- The kit's parser takes the words exactly where they are a line whose values may stand, and its
-- matches are the line's texts.
use Rattle.std.proofs.Common.{◌≡◌, ◌∙◌, ◌⊎◌, inl, inr, Bool, cond, true, false, refl, sym, ap, ap₂}
use Rattle.std.proofs.Common.{subst, List, [], ◌∷◌, Option, Some, None, codes}
use Rattle.std.specs.Prelude.{is_some, fold, slice_get, option_and_then}
use Rattle.std.specs.List.{All}
use Rattle.std.specs.Str.{IsUtf8, bytes_eq}
use Rattle.clap.specs.declared.builder.value_parser.Reading.TheVariants.{AsWritten}
use Rattle.clap.specs.declared.parser.matches.ValueSource.TheVariants.{DefaultValue}
use Rattle.clap.specs.Walk.{Row, Text, Walk, finished, first_of, has_row, nothing_held, one_of}
use Rattle.clap.specs.Walk.{row_text, settled, walk, walk_from, walked, with_default, with_values}
use Rattle.clap.specs.Simple.{built, entered, matches_of}
use Rattle.clap.specs.Faults.{defaults_fault, entered_fault, fault_of, level_fault, settle_fault}
use Rattle.clap.specs.Faults.{walk_fault}
use Rattle.clap.specs.Kinds.{Kinds, or_else}
use Rattle.join_words.specs.Line.{Field, Line, budget, by, line_of, loss, nothing_read, workers}
use Rattle.join_words.specs.Asks.{asked}
use Rattle.join_words.specs.inside.Command.{line_app}
use Rattle.join_words.proofs.Rows.{at_none, has-look, look, look-other, look-same}
use Rattle.join_words.proofs.Lines.{at}
use Rattle.join_words.proofs.Command.{all_rules, defaults_pass, field_id, finish, log_rule, shape}
use Rattle.join_words.proofs.Walks.{Fails, Match, Sim, fails, fails-first, fails-next, mode_of}
use Rattle.join_words.proofs.Walks.{passes, ready, ring_of, simulate, text_row}

-- the matches show the line's texts
pub record Sees (rows : List Row) (l : Line) : Type 0 where
  pub fields : (f : Field) → first_of (field_id f) rows ≡ at f l
  pub mode : first_of (codes "mode") rows ≡ mode_of l.plain
  pub ring : first_of (codes "ring") rows ≡ ring_of l.plain
  pub log : one_of (codes "log") rows ≡ Some (cond l.log (codes "true") (codes "false"))

pub data Outcome (words : List Text) : Type 0 where
  refused : Fails (fault_of line_app words) → asked words ≡ None → Outcome words
  taken : (l : Line) → fault_of line_app words ≡ [] → line_of words ≡ Some l
      → Sees (matches_of line_app words) l → Outcome words

start : Sim (walk_from nothing_held) nothing_read
start = ready [] None Rattle.clap.specs.Walk.idle false nothing_read.line refl refl
    (record { fields = no_field; mode = refl; ring = refl; log = refl })
  where
    no_field : (f : Field) → look (field_id f) [] ≡ text_row (field_id f) (at f nothing_read.line)
    no_field budget = refl
    no_field workers = refl
    no_field by = refl
    no_field loss = refl

abbrev default_row : Row
default_row = record {
  id = codes "log";
  values = codes "false" ∷ [];
  count = None;
  source = Some DefaultValue;
  reading = AsWritten;
}

-- the flag's default changes no other row
kept : (id : Text) → bytes_eq (codes "log") id ≡ false → (rows : List Row)
    → look id (with_default rows log_rule) ≡ look id rows
kept id ne rows =
    go (has_row (codes "log") rows) (look (codes "log") rows) (has-look (codes "log") rows) refl
  where
    go : (b : Bool) (o : Option Row) → b ≡ is_some o → look (codes "log") rows ≡ o
        → look id
        (cond b rows (with_values (codes "log") AsWritten DefaultValue (codes "false" ∷ []) rows))
        ≡ look id rows
    go true o e h = refl
    go false None e h = ap (look id) (at_none (codes "log")
        (Rattle.clap.specs.Walk.more_values DefaultValue (codes "false" ∷ [])) (default_row ∷ [])
        rows h) ∙ look-other id default_row rows ne
    go false (Some r) e h = cc

seen : (id : Text) (o : Option Text)
    → option_and_then (λ (r : Row). slice_get r.values 0) (text_row id o) ≡ o
seen id None = refl
seen id (Some v) = refl

sees-field : (f : Field) (rows : List Row) (l : Line) → Match rows l
    → first_of (field_id f) (with_default rows log_rule) ≡ at f l
sees-field budget rows l m = ap (option_and_then (λ (r : Row). slice_get r.values 0))
    (kept (codes "budget") refl rows ∙ m.fields budget) ∙ seen (codes "budget") l.budget
sees-field workers rows l m = ap (option_and_then (λ (r : Row). slice_get r.values 0))
    (kept (codes "workers") refl rows ∙ m.fields workers) ∙ seen (codes "workers") l.workers
sees-field by rows l m = ap (option_and_then (λ (r : Row). slice_get r.values 0))
    (kept (codes "by") refl rows ∙ m.fields by) ∙ seen (codes "by") l.by
sees-field loss rows l m = ap (option_and_then (λ (r : Row). slice_get r.values 0))
    (kept (codes "loss") refl rows ∙ m.fields loss) ∙ seen (codes "loss") l.loss

sees-log : (rows : List Row) (b : Bool) → look (codes "log") rows ≡ cond b
    (Some (Rattle.join_words.proofs.Rows.new_row (codes "log") AsWritten (codes "true" ∷ []))) None
    → one_of (codes "log") (with_default rows log_rule)
    ≡ Some (cond b (codes "true") (codes "false"))
sees-log rows true e = ap (λ h. option_and_then row_text (look (codes "log")
    (cond h rows (with_values (codes "log") AsWritten DefaultValue (codes "false" ∷ []) rows))))
    (has-look (codes "log") rows ∙ ap is_some e)
    ∙ ap (option_and_then row_text) e
sees-log rows false e = ap (λ h. option_and_then row_text (look (codes "log")
    (cond h rows (with_values (codes "log") AsWritten DefaultValue (codes "false" ∷ []) rows))))
    (has-look (codes "log") rows ∙ ap is_some e)
    ∙ ap (option_and_then row_text) (ap (look (codes "log"))
    (at_none (codes "log") (Rattle.clap.specs.Walk.more_values DefaultValue (codes "false" ∷ []))
    (default_row ∷ []) rows e) ∙ look-same (codes "log") default_row rows refl e)

sees : (rows : List Row) (l : Line) → Match rows l → Sees (with_default rows log_rule) l
sees rows l m = record {
  fields = λ f. sees-field f rows l m;
  mode = ap (option_and_then (λ (r : Row). slice_get r.values 0))
      (kept (codes "mode") refl rows ∙ m.mode) ∙ seen (codes "mode") (mode_of l.plain);
  ring = ap (option_and_then (λ (r : Row). slice_get r.values 0))
      (kept (codes "ring") refl rows ∙ m.ring) ∙ seen (codes "ring") (ring_of l.plain);
  log = sees-log rows l.log m.log;
}

module _ (words : List Text) where
  abbrev end : Walk
  end = fold (walked all_rules []) (walk_from nothing_held) words

  abbrev level : Option (Text × List Text) → Kinds
  level stop = level_fault shape [] nothing_held words (is_some (entered (built line_app) stop))
      (entered_fault (built line_app) stop)

  fails-level :
      Fails (walk_fault shape [] (walk_from nothing_held) words)
      ⊎ Fails (settle_fault all_rules false end.held) → (stop : Option (Text × List Text))
      → Fails (level stop)
  fails-level (inl h) stop = fails-first (walk_fault shape [] (walk_from nothing_held) words) _ h
  fails-level (inr h) stop = fails-next (walk_fault shape [] (walk_from nothing_held) words) _
      (fails-next (entered_fault (built line_app) stop) _
      (fails-first (settle_fault all_rules false end.held) _ h))

  pub outcome : All IsUtf8 words → Outcome words
  outcome us = elim (simulate words us (walk_from nothing_held) nothing_read start) [
    | fails e n ↦ refused (fails-level e end.stopped) n
    | passes l walk settle top n m ↦ taken l
        (ap level top
        ∙ ap₂ (λ a b. or_else a
        (or_else b (or_else (defaults_fault (settled all_rules end.held).rows all_rules) []))) walk
        settle ∙ ap (λ a. or_else a []) (defaults_pass (settled all_rules end.held).rows))
        n
        (subst (λ (rs : List Row). Sees rs l) (sym (finish (settled all_rules end.held).rows))
        (sees (settled all_rules end.held).rows l m))
  ]
