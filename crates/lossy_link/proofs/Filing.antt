-- Lines that are filed under their pairs: what a look-up finds, and what a change leaves.
use Rattle.std.proofs.Common.{◌≡◌, ℕ, ◌+◌, ◌<◌, ◌≤◌, List, [], ◌∷◌, Bool, true, false, cond}
use Rattle.std.proofs.Common.{Some}
use Rattle.std.proofs.Common.{None, length, slice_get, get_or, refl, sym, ap, subst, ◌∙◌, arith}
use Rattle.std.proofs.Common.{inl}
use Rattle.std.proofs.Common.{inr, ◌++◌, length-append}
use Rattle.std.proofs.lemmas.Bool.Decides.{nat_tests}
use Rattle.std.proofs.lemmas.Bool.{and_parts, eqb-true}
use Rattle.std.proofs.lemmas.Option.{same_Some, slice_get-get_or}
use Rattle.std.specs.Prelude.{◌==◌, ◌&&◌, if◌then◌else◌, nat_lt, is_some, not, Result, Ok, Err}
use Rattle.std.specs.Prelude.{OnOk, OnErr}
use Rattle.chem_laws.proofs.Lists.{has_none}
use Rattle.std.specs.Ordering.{is_eq, is_gt}
use Rattle.std.specs.Map.{lookup, set_value, values_of}
use Rattle.std.specs.BTreeSet.{BTreeSet, contains}
use Rattle.chem_model.specs.Each.{Each}
use Rattle.lossy_link.specs.declared.line.Line.{Line}
use Rattle.lossy_link.specs.Lines.{is_between, no_line, line_of, with_line, sent_more, handed_more}
use Rattle.lossy_link.specs.Lines.{acked_more, flight_from, with_sent, with_handed}
use Rattle.lossy_link.specs.Lines.{with_acked}
use Rattle.lossy_link.specs.Links.{NoneOpen, NoneIsOpen, HasLeast, Precedes}
use Rattle.lossy_link.specs.inside.Table.{Pair, Entries, same_pair, pair_cmp, line_in, with_entry}
use Rattle.lossy_link.specs.inside.Table.{has_open, IsFiled, IsAcked, AreFiled}
use Rattle.lossy_link.proofs.LineLaws.{between, each_with, line_has, line_with, pair_of}

-- ---- one entry

pair_test : (f t : ℕ) (e : Pair × Line) → IsFiled e
    → same_pair (f, t) e.0 ≡ is_between f t e.1.from e.1.into
pair_test f t e h =
    ap (λ (n : ℕ). (f == n) && (t == e.0.1)) h.from
    ∙ ap (λ (n : ℕ). (f == e.1.from) && (t == n)) h.into

line_first : (f t : ℕ) (e : Pair × Line) (es : Entries) → IsFiled e
    → line_in f t (e ∷ es) ≡ cond (same_pair (f, t) e.0) e.1 (line_in f t es)
line_first f t e es h =
    ap (λ (b : Bool). cond b e.1 (line_in f t es)) (sym (pair_test f t e h))

-- ---- what a look-up finds

pub found_line : (f t : ℕ) (es : Entries) (l : Line) → Each IsFiled es
    → lookup (same_pair (f, t)) es ≡ Some l → line_in f t es ≡ l
found_line f t [] l h at = cc
found_line f t (e ∷ es) l h at =
    line_first f t e es h.0 ∙ go (same_pair (f, t) e.0) at (found_line f t es l h.1)
  where
    go : (b : Bool) → cond b (Some e.1) (lookup (same_pair (f, t)) es) ≡ Some l
        → (lookup (same_pair (f, t)) es ≡ Some l → line_in f t es ≡ l)
        → cond b e.1 (line_in f t es) ≡ l
    go true at rest = same_Some e.1 l at
    go false at rest = rest at

pub found_none : (f t : ℕ) (es : Entries) → Each IsFiled es → lookup (same_pair (f, t)) es ≡ None
    → line_in f t es ≡ no_line f t
found_none f t [] h at = refl
found_none f t (e ∷ es) h at =
    line_first f t e es h.0 ∙ go (same_pair (f, t) e.0) at (found_none f t es h.1)
  where
    go : (b : Bool) → cond b (Some e.1) (lookup (same_pair (f, t)) es) ≡ None
        → (lookup (same_pair (f, t)) es ≡ None → line_in f t es ≡ no_line f t)
        → cond b e.1 (line_in f t es) ≡ no_line f t
    go true at rest = cc
    go false at rest = rest at

-- a pair that sent a packet is found
pub some_found : (f t : ℕ) (es : Entries) → Each IsFiled es
    → 0 < length (line_in f t es).history.sent → lookup (same_pair (f, t)) es ≡ None → ⊥
some_found f t es h more at =
    let none : length (line_in f t es).history.sent ≡ 0 =
    ap (λ (l : Line). length l.history.sent) (found_none f t es h at) in
    absurd (omega arith)

-- ---- what a change leaves

module _ (f t : ℕ) (l : Line) (from : l.from ≡ f) (into : l.into ≡ t) where
  line_test : (k : Line) → is_between f t k.from k.into ≡ is_between l.from l.into k.from k.into
  line_test k =
      ap (λ (n : ℕ). is_between n t k.from k.into) (sym from)
      ∙ ap (λ (n : ℕ). is_between l.from n k.from k.into) (sym into)

  pub values_put : (es : Entries) → Each IsFiled es
      → values_of (with_entry f t l es) ≡ with_line l (values_of es)
  values_put [] h = refl
  values_put (e ∷ es) h =
      ap (λ (b : Bool). values_of (if b then (e.0, l) ∷ es else e ∷ with_entry f t l es))
      (pair_test f t e h.0 ∙ line_test e.1)
      ∙ go (is_between l.from l.into e.1.from e.1.into) (values_put es h.1)
    where
      go : (b : Bool) → values_of (with_entry f t l es) ≡ with_line l (values_of es)
          → values_of (if b then (e.0, l) ∷ es else e ∷ with_entry f t l es)
          ≡ cond b (l ∷ values_of es) (e.1 ∷ with_line l (values_of es))
      go true rest = refl
      go false rest = ap (λ (ls : List Line). e.1 ∷ ls) rest

  pub filed_put : (es : Entries) → Each IsFiled es → Each IsFiled (with_entry f t l es)
  filed_put [] h = (record { from = sym from; into = sym into }, tt)
  filed_put (e ∷ es) h = go (same_pair (f, t) e.0) refl (filed_put es h.1)
    where
      go : (b : Bool) → same_pair (f, t) e.0 ≡ b → Each IsFiled (with_entry f t l es)
          → Each IsFiled (if b then (e.0, l) ∷ es else e ∷ with_entry f t l es)
      go true same rest =
          let parts = and_parts (f == e.0.0) (t == e.0.1) same in (
            record {
              from = sym (from ∙ eqb-true f e.0.0 parts.0);
              into = sym (into ∙ eqb-true t e.0.1 parts.1);
            },
            h.1,
          )
      go false same rest = (h.0, rest)

  pub acked_put : (es : Entries) → Each IsFiled es → IsAcked l → Each IsAcked (values_of es)
      → Each IsAcked (values_of (with_entry f t l es))
  acked_put es h one all =
      subst (Each IsAcked) (sym (values_put es h)) (each_with IsAcked l (values_of es) one all)

  -- the line of each pair
  pub line_put : (g u : ℕ) (es : Entries) → Each IsFiled es
      → line_in g u (with_entry f t l es) ≡ cond (is_between g u f t) l (line_in g u es)
  line_put g u es h =
      ap (line_of g u) (values_put es h) ∙ line_with g u l (values_of es)
      ∙ ap (λ (n : ℕ). cond (is_between g u n l.into) l (line_in g u es)) from
      ∙ ap (λ (n : ℕ). cond (is_between g u f n) l (line_in g u es)) into

-- what is written through a look-up
pub set_put : (f t : ℕ) (l k : Line) (es : Entries) → lookup (same_pair (f, t)) es ≡ Some l
    → set_value (same_pair (f, t)) es k ≡ with_entry f t k es
set_put f t l k [] at = cc
set_put f t l k (e ∷ es) at = go (same_pair (f, t) e.0) at (set_put f t l k es)
  where
    go : (b : Bool) → cond b (Some e.1) (lookup (same_pair (f, t)) es) ≡ Some l
        → (lookup (same_pair (f, t)) es ≡ Some l
        → set_value (same_pair (f, t)) es k ≡ with_entry f t k es)
        → cond b ((e.0, k) ∷ es) (e ∷ set_value (same_pair (f, t)) es k)
        ≡ (if b then (e.0, k) ∷ es else e ∷ with_entry f t k es)
    go true at rest = refl
    go false at rest = ap (λ (fs : Entries). e ∷ fs) (rest at)

-- and where it is the line that was there
pub set_same : (f t : ℕ) (l : Line) (es : Entries) → lookup (same_pair (f, t)) es ≡ Some l
    → set_value (same_pair (f, t)) es l ≡ es
set_same f t l [] at = refl
set_same f t l (e ∷ es) at = go (same_pair (f, t) e.0) at (set_same f t l es)
  where
    go : (b : Bool) → cond b (Some e.1) (lookup (same_pair (f, t)) es) ≡ Some l
        → (lookup (same_pair (f, t)) es ≡ Some l → set_value (same_pair (f, t)) es l ≡ es)
        → cond b ((e.0, l) ∷ es) (e ∷ set_value (same_pair (f, t)) es l) ≡ e ∷ es
    go true at rest =
        let is : l ≡ e.1 = sym (same_Some e.1 l at) in
        ap (λ (k : Line). (e.0, k) ∷ es) is
    go false at rest = ap (λ (fs : Entries). e ∷ fs) (rest at)

-- ---- the set of open pairs

pub pair_is : (f t g u : ℕ) → is_eq (pair_cmp (f, t) (g, u)) ≡ is_between g u f t
pair_is f t g u = grind arith

-- after a line was put, where the set has the pair exactly where it is open
pub open_put : (f t : ℕ) (l : Line) (es : Entries) (old new : BTreeSet Pair) (b : Bool)
    → l.from ≡ f → l.into ≡ t → Each IsFiled es → b ≡ has_open l
    → ((g u : ℕ) → contains pair_cmp old (g, u) ≡ has_open (line_in g u es))
    → ((q : Pair) → contains pair_cmp new q
    ≡ cond (is_eq (pair_cmp (f, t) q)) b (contains pair_cmp old q))
    → (g u : ℕ) → contains pair_cmp new (g, u) ≡ has_open (line_in g u (with_entry f t l es))
open_put f t l es old new b from into h is was updates g u =
    updates (g, u)
    ∙ ap (λ (c : Bool). cond c b (contains pair_cmp old (g, u))) (pair_is f t g u)
    ∙ go (is_between g u f t) (was g u)
    ∙ ap has_open (sym (line_put f t l from into g u es h))
  where
    go : (c : Bool) → contains pair_cmp old (g, u) ≡ has_open (line_in g u es)
        → cond c b (contains pair_cmp old (g, u)) ≡ has_open (cond c l (line_in g u es))
    go true same = is
    go false same = same

-- a pair that is open keeps its place in the set where it stays open
pub open_stays : (f t : ℕ) (l : Line) (es : Entries) (pairs : BTreeSet Pair) → l.from ≡ f
    → l.into ≡ t → Each IsFiled es → has_open l ≡ has_open (line_in f t es)
    → ((g u : ℕ) → contains pair_cmp pairs (g, u) ≡ has_open (line_in g u es))
    → (g u : ℕ) → contains pair_cmp pairs (g, u) ≡ has_open (line_in g u (with_entry f t l es))
open_stays f t l es pairs from into h same was g u =
    was g u ∙ go (is_between g u f t) refl ∙ ap has_open (sym (line_put f t l from into g u es h))
  where
    go : (b : Bool) → is_between g u f t ≡ b
        → has_open (line_in g u es) ≡ has_open (cond b l (line_in g u es))
    go true is =
        let p = between g u f t is in
        ap (λ (n : ℕ). has_open (line_in n u es)) p.0
        ∙ ap (λ (n : ℕ). has_open (line_in f n es)) p.1 ∙ sym same
    go false is = refl

-- an acknowledgement may close a line, and opens none
pub still_open : (l : Line) (n : ℕ) → has_open (acked_more l n) ≡ true → has_open l ≡ true
still_open l n is = grind (arith, nat_tests)

-- a pair that was added is taken out again
module _ (f t : ℕ) (old mid : BTreeSet Pair)
    (added : (q : Pair) → contains pair_cmp mid q
    ≡ cond (is_eq (pair_cmp (f, t) q)) true (contains pair_cmp old q)) where
  pub taken_out : (new : BTreeSet Pair) → contains pair_cmp old (f, t) ≡ false
      → ((q : Pair) → contains pair_cmp new q
      ≡ cond (is_eq (pair_cmp (f, t) q)) false (contains pair_cmp mid q))
      → (g u : ℕ) → contains pair_cmp new (g, u) ≡ contains pair_cmp old (g, u)
  taken_out new absent removed g u =
      removed (g, u)
      ∙ ap (λ (b : Bool). cond (is_eq (pair_cmp (f, t) (g, u))) false b) (added (g, u))
      ∙ ap (λ (b : Bool). cond b false (cond b true (contains pair_cmp old (g, u))))
      (pair_is f t g u) ∙ go (is_between g u f t) refl
    where
      go : (b : Bool) → is_between g u f t ≡ b
          → cond b false (cond b true (contains pair_cmp old (g, u)))
          ≡ contains pair_cmp old (g, u)
      go true is =
          let p = between g u f t is in
          sym absent ∙ ap (λ (n : ℕ). contains pair_cmp old (n, t)) (sym p.0)
          ∙ ap (λ (n : ℕ). contains pair_cmp old (g, n)) (sym p.1)
      go false is = refl

-- ---- the least open pair

all_closed : (a b : ℕ) → nat_lt a b ≡ false → b ≤ a
all_closed a b is = grind (arith, nat_tests)

is_open : (a b : ℕ) → nat_lt a b ≡ true → a < b
is_open a b is = grind (arith, nat_tests)

pub none_is_open : (es : Entries) (pairs : BTreeSet Pair)
    → ((f t : ℕ) → contains pair_cmp pairs (f, t) ≡ has_open (line_in f t es)) → pairs.keys ≡ []
    → NoneIsOpen (values_of es)
none_is_open es pairs is none f t =
    let closed : has_open (line_in f t es) ≡ false =
    sym (is f t) ∙ ap (λ (ks : List Pair). contains pair_cmp (record { keys = ks }) (f, t)) none in
    all_closed (line_in f t es).acked (length (line_in f t es).history.sent) closed

after_pair : (f t g u : ℕ) → Precedes g u f t → is_gt (pair_cmp (f, t) (g, u)) ≡ true
after_pair f t g u (inl less) = grind (arith, nat_tests)
after_pair f t g u (inr same) =
    let one = same.0 in
    let two = same.1 in
    grind (arith, nat_tests)

pub least_is : (es : Entries) (pairs : BTreeSet Pair) (f t n : ℕ)
    → ((g u : ℕ) → contains pair_cmp pairs (g, u) ≡ has_open (line_in g u es))
    → contains pair_cmp pairs (f, t) ≡ true
    → ((q : Pair) → contains pair_cmp pairs q ≡ true → is_gt (pair_cmp (f, t) q) ≡ false)
    → n ≡ (line_in f t es).acked → HasLeast (values_of es) (Some (f, t, n))
least_is es pairs f t n is there lower at =
    let l = line_in f t es in
    let some : l.acked < length l.history.sent =
    is_open l.acked (length l.history.sent) (sym (is f t) ∙ there) in
    let text = get_or l.history.sent l.acked [] in (
      text,
      record {
        at = at;
        is = subst (λ (k : ℕ). slice_get l.history.sent k ≡ Some text) (sym at)
            (slice_get-get_or l.history.sent l.acked [] some);
        least = λ g u before. all_closed (line_in g u es).acked
            (length (line_in g u es).history.sent)
            (go g u before (has_open (line_in g u es)) refl);
      },
    )
  where
    go : (g u : ℕ) → Precedes g u f t → (b : Bool) → has_open (line_in g u es) ≡ b
        → has_open (line_in g u es) ≡ false
    go g u before true more =
        let clash : true ≡ false =
        sym (after_pair f t g u before) ∙ lower (g, u) (is g u ∙ more) in
        cc
    go g u before false e = e

-- ---- each line

pub found_each : (P : Line → Type 0) (test : Pair → Bool) (es : Entries) (l : Line)
    → Each P (values_of es) → lookup test es ≡ Some l → P l
found_each P test [] l all at = cc
found_each P test (e ∷ es) l all at = go (test e.0) at (found_each P test es l all.1)
  where
    go : (b : Bool) → cond b (Some e.1) (lookup test es) ≡ Some l
        → (lookup test es ≡ Some l → P l) → P l
    go true at rest = subst P (same_Some e.1 l at) all.0
    go false at rest = rest at

-- ---- what the code changes

grown_open : (a : ℕ) (xs : List (List ℕ)) (x : List ℕ) → a ≤ length xs
    → nat_lt a (length (xs ++ x ∷ [])) ≡ true
grown_open a xs x within =
    let more = length-append xs (x ∷ []) in
    let below : a < length (xs ++ x ∷ []) = omega arith in
    grind (arith, nat_tests)

module _ (f t : ℕ) (es : Entries) (pairs : BTreeSet Pair) (are : AreFiled es pairs) where
  abbrev line : Line
  line = line_in f t es

  line_from : line.from ≡ f
  line_from = (pair_of f t (values_of es)).0

  line_into : line.into ≡ t
  line_into = (pair_of f t (values_of es)).1

  line_acked : IsAcked line
  line_acked = line_has IsAcked f t (values_of es) (let e : 0 ≤ 0 = omega arith in e) are.acked

  -- a packet that leaves
  module _ (x : List ℕ) (new : Entries) (is : new ≡ with_entry f t (sent_more line x) es) where
    abbrev sent_line : Line
    sent_line = sent_more line x

    sent_acked : IsAcked sent_line
    sent_acked =
        let more = length-append line.history.sent (x ∷ []) in
        let a = line_acked in
        omega arith

    pub left_values : values_of new ≡ with_sent (flight_from f t x) (values_of es)
    left_values = ap values_of is ∙ values_put f t sent_line line_from line_into es are.filed

    pub left_filed : (now : BTreeSet Pair)
        → ((q : Pair) → contains pair_cmp now q
        ≡ cond (is_eq (pair_cmp (f, t) q)) true (contains pair_cmp pairs q))
        → AreFiled new now
    left_filed now added = subst (λ (fs : Entries). AreFiled fs now) (sym is) (record {
      filed = filed_put f t sent_line line_from line_into es are.filed;
      acked = acked_put f t sent_line line_from line_into es are.filed sent_acked are.acked;
      open_ones = open_put f t sent_line es pairs now true line_from line_into are.filed
          (sym (grown_open line.acked line.history.sent x line_acked)) are.open_ones added;
    })

  -- a packet that is handed out
  module _ (x : List ℕ) (new : Entries) (is : new ≡ with_entry f t (handed_more line x) es) where
    pub handed_values : values_of new ≡ with_handed f t x (values_of es)
    handed_values =
        ap values_of is ∙ values_put f t (handed_more line x) line_from line_into es are.filed

    pub handed_filed : AreFiled new pairs
    handed_filed = subst (λ (fs : Entries). AreFiled fs pairs) (sym is) (record {
      filed = filed_put f t (handed_more line x) line_from line_into es are.filed;
      acked = acked_put f t (handed_more line x) line_from line_into es are.filed line_acked
          are.acked;
      open_ones = open_stays f t (handed_more line x) es pairs line_from line_into are.filed refl
          are.open_ones;
    })

  -- an acknowledgement
  module _ (n : ℕ) (new : Entries) (is : new ≡ with_entry f t (acked_more line n) es)
      (within : n ≤ length line.history.sent) where
    abbrev acked_line : Line
    acked_line = acked_more line n

    acked_acked : IsAcked acked_line
    acked_acked = let a = line_acked in omega arith

    pub acked_values : values_of new ≡ with_acked f t n (values_of es)
    acked_values = ap values_of is ∙ values_put f t acked_line line_from line_into es are.filed

    -- it leaves the pair open
    pub open_filed : has_open acked_line ≡ true → AreFiled new pairs
    open_filed more = subst (λ (fs : Entries). AreFiled fs pairs) (sym is) (record {
      filed = filed_put f t acked_line line_from line_into es are.filed;
      acked = acked_put f t acked_line line_from line_into es are.filed acked_acked are.acked;
      open_ones = open_stays f t acked_line es pairs line_from line_into are.filed
          (more ∙ sym (still_open line n more)) are.open_ones;
    })

    -- or closes it
    pub closed_filed : has_open acked_line ≡ false → (now : BTreeSet Pair)
        → ((q : Pair) → contains pair_cmp now q
        ≡ cond (is_eq (pair_cmp (f, t) q)) false (contains pair_cmp pairs q))
        → AreFiled new now
    closed_filed closed now removed = subst (λ (fs : Entries). AreFiled fs now) (sym is) (record {
      filed = filed_put f t acked_line line_from line_into es are.filed;
      acked = acked_put f t acked_line line_from line_into es are.filed acked_acked are.acked;
      open_ones = open_put f t acked_line es pairs now false line_from line_into are.filed
          (sym closed) are.open_ones removed;
    })

-- the same pairs and the same entries
pub same_filed : (es now : Entries) (pairs others : BTreeSet Pair) → AreFiled es pairs → now ≡ es
    → ((g u : ℕ) → contains pair_cmp others (g, u) ≡ contains pair_cmp pairs (g, u))
    → AreFiled now others
same_filed es now pairs others are is same =
    subst (λ (fs : Entries). AreFiled fs others) (sym is) (record {
      filed = are.filed;
      acked = are.acked;
      open_ones = λ g u. same g u ∙ are.open_ones g u;
    })

-- ---- what a look-up tells of the lines

module _ (es : Entries) (ls : List Line) (view : values_of es ≡ ls) (filed : Each IsFiled es)
    (f t : ℕ) where
  pub read_some : (l : Line) → Some l ≡ lookup (same_pair (f, t)) es → line_of f t ls ≡ l
  read_some l at = ap (line_of f t) (sym view) ∙ found_line f t es l filed (sym at)

  pub read_none : None ≡ lookup (same_pair (f, t)) es → line_of f t ls ≡ no_line f t
  read_none at = ap (line_of f t) (sym view) ∙ found_none f t es filed (sym at)

  pub none_open : (n : ℕ) → None ≡ lookup (same_pair (f, t)) es → NoneOpen f t n ls
  none_open n at bytes h =
      let there : slice_get [] n ≡ Some bytes =
      subst (λ (l : Line). slice_get l.history.sent n ≡ Some bytes) (read_none at) h.is in
      cc

-- ---- what is written through a look-up

module _ (f t : ℕ) (es new : Entries) (l k : Line) (at : Some l ≡ lookup (same_pair (f, t)) es)
    (is : new ≡ set_value (same_pair (f, t)) es k) where
  pub written : (h : Line → Line) → Each IsFiled es → k ≡ h l
      → new ≡ with_entry f t (h (line_in f t es)) es
  written h filed made =
      is ∙ set_put f t l k es (sym at)
      ∙ ap (λ (m : Line). with_entry f t m es)
      (made ∙ ap h (sym (found_line f t es l filed (sym at))))

  pub unwritten : k ≡ l → new ≡ es
  unwritten same =
      is ∙ ap (set_value (same_pair (f, t)) es) same ∙ set_same f t l es (sym at)

-- a line that is the first of its pair
pub first_written : (f t : ℕ) (x : List ℕ) (es : Entries) (l : Line) → Each IsFiled es
    → is_some (lookup (same_pair (f, t)) es) ≡ false → l ≡ sent_more (no_line f t) x
    → with_entry f t l es ≡ with_entry f t (sent_more (line_in f t es) x) es
first_written f t x es l filed none made =
    ap (λ (m : Line). with_entry f t m es)
    (made ∙ ap (λ (m : Line). sent_more m x)
    (sym (found_none f t es filed (has_none (lookup (same_pair (f, t)) es) none))))

pub either_filed : {A E : Type 0} (r : Result A E) (f t : ℕ) (es : Entries)
    (pairs : BTreeSet Pair) (x : List ℕ) (new : Entries) → AreFiled es pairs
    → OnOk r (new ≡ with_entry f t (handed_more (line_in f t es) x) es) → OnErr r (new ≡ es)
    → AreFiled new pairs
either_filed (Ok a) f t es pairs x new are ok err = handed_filed f t es pairs are x new ok
either_filed (Err e) f t es pairs x new are ok err =
    same_filed es new pairs pairs are err (λ g u. refl)

pub not_true : (b : Bool) → not b ≡ true → b ≡ false
not_true true e = sym e
not_true false e = refl

pub no_keys : (ks : List Pair) → (0 < length ks → ⊥) → ks ≡ []
no_keys [] none = refl
no_keys (k ∷ ks) none = absurd (none (omega arith))
