-- How the lines of pairs are filed: under their pairs, with the set of those that are open.
use Rattle.std.specs.Prelude.{◌≡◌, ℕ, ◌≤◌, List, Bool, ◌==◌, ◌&&◌, nat_lt, length}
use Rattle.std.specs.declared.cmp.Ordering.{Ordering}
use Rattle.std.specs.Ordering.{nat_cmp, ordering_then}
use Rattle.std.specs.BTreeSet.{BTreeSet, contains}
use Rattle.std.specs.Map.{values_of}
use Rattle.indexmap.specs.IndexMap.{insert_entry}
use Rattle.chem_model.specs.Each.{Each}
use Rattle.lossy_link.specs.declared.line.Line.{Line}
use Rattle.lossy_link.specs.Lines.{line_of}

abbrev pub Pair : Type 0
Pair = ℕ × ℕ

abbrev pub Entries : Type 0
Entries = List (Pair × Line)

abbrev pub same_pair : Pair → Pair → Bool
same_pair p q = (p.0 == q.0) && (p.1 == q.1)

abbrev pub pair_cmp : Pair → Pair → Ordering
pair_cmp p q = ordering_then (nat_cmp p.0 q.0) (nat_cmp p.1 q.1)

-- the line of a pair among the entries
abbrev pub line_in : ℕ → ℕ → Entries → Line
line_in f t es = line_of f t (values_of es)

-- the entries with this one as that of the pair
abbrev pub with_entry : ℕ → ℕ → Line → Entries → Entries
with_entry f t l es = insert_entry same_pair es (f, t) l

-- the line has a packet that isn't acknowledged
abbrev pub has_open : Line → Bool
has_open l = nat_lt l.acked (length l.history.sent)

-- the line is under its pair
pub record IsFiled (e : Pair × Line) : Type 0 where
  pub from : e.0.0 ≡ e.1.from
  pub into : e.0.1 ≡ e.1.into

-- no more is acknowledged than was sent
abbrev pub IsAcked : Line → Type 0
IsAcked l = l.acked ≤ length l.history.sent

-- each line is under its pair, no more is acknowledged than was sent, and the set has exactly the
-- pairs that have a packet that isn't acknowledged
pub record AreFiled (es : Entries) (pairs : BTreeSet Pair) : Type 0 where
  pub filed : Each IsFiled es
  pub acked : Each IsAcked (values_of es)
  pub open_ones : (f t : ℕ) → contains pair_cmp pairs (f, t) ≡ has_open (line_in f t es)
