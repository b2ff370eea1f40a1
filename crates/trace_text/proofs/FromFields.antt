-- What the fields of a log spell is the log's text.
use Rattle.std.proofs.Common.{◌≡◌, ℕ, zero, suc, ◌<◌, ◌≤◌, List, [], ◌∷◌, ◌++◌, length, codes, refl}
use Rattle.std.proofs.Common.{sym, ap, subst, ◌∙◌, append-nil, append_assoc, arith}
use Rattle.std.proofs.lemmas.Bool.{le-leb, lt-leb}
use Rattle.std.specs.Prelude.{decimal}
use Rattle.chem_model.specs.declared.event.AtomId.{AtomId}
use Rattle.chem_model.specs.declared.event.Event.{Event}
use Rattle.chem_model.specs.declared.event.Event.TheVariants.{React, Move, Halt, Detect}
use Rattle.chem_model.specs.Each.{Each}
use Rattle.trace_text.specs.LogText.{LogParts, IsAtom, IsLogged, Spells, pair_text, atoms_text}
use Rattle.trace_text.specs.LogText.{event_text, events_text, beginning, log_text}
use Rattle.trace_text.proofs.Pieces.{three, four, log_cut}
use Rattle.trace_text.specs.Fields.{Format, whole, field, number, counted, IsNumber, SpellsBy}
use Rattle.trace_text.specs.LogFields.{literal, pair, further, taken, one_pair, event_line, lines}
use Rattle.trace_text.specs.LogFields.{counted_text, last_part, events_part, least_budget}
use Rattle.trace_text.specs.LogFields.{most_budget, budget_part, log_fields}

-- an atom behind a space, and those behind it
one_atom : (bytes later r : List ℕ) (a : AtomId) (more : List AtomId) (rest : List ℕ)
    → bytes ≡ codes " " ++ later → later ≡ pair_text a.site a.k ++ r
    → r ≡ atoms_text more ++ (codes "\n" ++ rest)
    → bytes ≡ atoms_text (a ∷ more) ++ (codes "\n" ++ rest)
one_atom bytes later r a more rest e g h = e
    ∙ (ap (λ t. codes " " ++ t) (g ∙ ap (λ t. pair_text a.site a.k ++ t) h)
    ∙ sym (three (codes " ") (pair_text a.site a.k) (atoms_text more) (codes "\n" ++ rest)))

-- a word, and the line behind it
behind_word : (w text rest bytes later : List ℕ) → bytes ≡ w ++ later
    → later ≡ text ++ (codes "\n" ++ rest) → bytes ≡ (w ++ text ++ codes "\n") ++ rest
behind_word w text rest bytes later e g =
    e ∙ (ap (λ t. w ++ t) g ∙ sym (three w text (codes "\n") rest))

-- a reaction: its rule, and its atoms
react_line : (bytes later r rest : List ℕ) (rule : AtomId) (took : List AtomId)
    → bytes ≡ codes "react " ++ later → later ≡ pair_text rule.site rule.k ++ r
    → r ≡ atoms_text took ++ (codes "\n" ++ rest)
    → bytes ≡ event_text (React (record { site = rule.site; k = rule.k }) took) ++ rest
react_line bytes later r rest rule took e g h =
    e
    ∙ (ap (λ t. codes "react " ++ t) (g ∙ ap (λ t. pair_text rule.site rule.k ++ t) h)
    ∙ sym (four (codes "react ") (pair_text rule.site rule.k) (atoms_text took) (codes "\n") rest))

-- the parts of a log, one behind the other
log_is : (log : LogParts) (bytes a s b c1 c d1 d e1 e t : List ℕ) (count : ℕ)
    → bytes ≡ beginning log.budget ++ a
    → a ≡ decimal (length log.source) ++ (codes "\n" ++ (log.source ++ s))
    → s ≡ codes "\nbudget " ++ b
    → b ≡ decimal log.budget ++ c1
    → c1 ≡ codes "\nevents " ++ c
    → c ≡ decimal count ++ d1
    → d1 ≡ codes "\n" ++ d
    → d ≡ events_text log.events ++ e1
    → e1 ≡ codes "trace " ++ e
    → e ≡ decimal (length log.trace) ++ (codes "\n" ++ (log.trace ++ t))
    → length log.events ≡ count
    → t ≡ []
    → bytes ≡ log_text log
log_is log bytes a s b c1 c d1 d e1 e t count h1 h2 h3 h4 h5 h6 h7 h8 h9 h10 h11 h12 =
    rw (h1, h2, h3, h4, h5, h6, h7, h8, h9, h10, h12, append-nil log.trace, ← h11)
    (sym (log_cut log))

module _ {A : Type 0} (y : A) where
  pub record LiteralSpelt (text : List ℕ) (next : Format A) (bytes : List ℕ) : Type 0 where
    pub rest : List ℕ
    pub is : bytes ≡ text ++ rest
    pub follows : SpellsBy next y rest

  literal_spelt : (text : List ℕ) (next : Format A) (bytes : List ℕ)
      → SpellsBy (literal text next) y bytes → LiteralSpelt text next bytes
  literal_spelt text next bytes (zero, rest, e, h) = record { rest = rest; is = e; follows = h }
  literal_spelt text next bytes (suc i, rest, e, h) = absurd e.1

  pub record PairSpelt (next : AtomId → Format A) (bytes : List ℕ) : Type 0 where
    pub atom : AtomId
    pub rest : List ℕ
    pub bounded : IsAtom atom
    pub is : bytes ≡ pair_text atom.site atom.k ++ rest
    pub follows : SpellsBy (next atom) y rest

  pair_spelt : (next : AtomId → Format A) (bytes : List ℕ) → SpellsBy (pair next) y bytes
      → PairSpelt next bytes
  pair_spelt next bytes (site, r, n, h) =
      let p = literal_spelt (codes ".")
      (field (number 0 18446744073709551615) (λ k. next (record { site = site; k = k }))) r h in
      let q = p.follows in
      let k = q.0 in
      let rest = q.1 in
      let m : IsNumber 0 18446744073709551615 k p.rest rest = q.2 in
      record {
        atom = record { site = site; k = k };
        rest = rest;
        bounded = (omega (arith, n.small), omega (arith, m.small));
        is = n.is
            ∙ (ap (λ t. decimal site ++ t) (p.is ∙ ap (λ t. codes "." ++ t) m.is)
            ∙ sym (three (decimal site) (codes ".") (decimal k) rest));
        follows = q.3;
      }

  pub record AtomsSpelt (front : List AtomId) (next : List AtomId → Format A)
      (bytes : List ℕ) : Type 0 where
    pub more : List AtomId
    pub rest : List ℕ
    pub bounded : Each IsAtom more
    pub is : bytes ≡ atoms_text more ++ (codes "\n" ++ rest)
    pub follows : SpellsBy (next (front ++ more)) y rest

  -- no atom more
  none_more : (front : List AtomId) (next : List AtomId → Format A) (bytes rest : List ℕ)
      → bytes ≡ codes "\n" ++ rest → SpellsBy (next front) y rest → AtomsSpelt front next bytes
  none_more front next bytes rest e h = record {
    more = [];
    rest = rest;
    bounded = tt;
    is = e;
    follows = subst (λ (f : List AtomId). SpellsBy (next f) y rest) (sym (append-nil front)) h;
  }

  -- one atom, and those behind it
  one_more :
      (front : List AtomId) (next : List AtomId → Format A) (bytes later : List ℕ) (a : AtomId)
      (r : List ℕ) → IsAtom a
      → bytes ≡ codes " " ++ later → later ≡ pair_text a.site a.k ++ r
      → AtomsSpelt (front ++ a ∷ []) next r → AtomsSpelt front next bytes
  one_more front next bytes later a r bounded e g s = record {
    more = a ∷ s.more;
    rest = s.rest;
    bounded = (bounded, s.bounded);
    is = one_atom bytes later r a s.more s.rest e g s.is;
    follows = subst (λ (f : List AtomId). SpellsBy (next f) y s.rest)
        (append_assoc front (a ∷ []) s.more) s.follows;
  }

  further_spelt : (n : ℕ) (front : List AtomId) (next : List AtomId → Format A) (bytes : List ℕ)
      → SpellsBy (further n front next) y bytes → AtomsSpelt front next bytes
  unfolding further
  further_spelt zero front next bytes h =
      let p = literal_spelt (codes "\n") (next front) bytes h in
      none_more front next bytes p.rest p.is p.follows
  further_spelt (suc n) front next bytes (zero, later, e, h) =
      let p = pair_spelt (λ atom. further n (front ++ atom ∷ []) next) later h in
      one_more front next bytes later p.atom p.rest p.bounded e
      p.is (further_spelt n (front ++ p.atom ∷ []) next p.rest p.follows)
  further_spelt (suc n) front next bytes (suc zero, later, e, h) =
      none_more front next bytes later e.1 h
  further_spelt (suc n) front next bytes (suc (suc i), later, e, h) = absurd e.1.1

  pub record EventSpelt (next : Event → Format A) (bytes : List ℕ) : Type 0 where
    pub event : Event
    pub rest : List ℕ
    pub logged : IsLogged event
    pub is : bytes ≡ event_text event ++ rest
    pub follows : SpellsBy (next event) y rest

  -- a pair, and the end of its line
  alone : (next : AtomId → Format A) (later : List ℕ) → SpellsBy (one_pair next) y later
      → (a : AtomId) × (rest : List ℕ) × IsAtom a
      × (later ≡ pair_text a.site a.k ++ (codes "\n" ++ rest)) × SpellsBy (next a) y rest
  alone next later h =
      let p = pair_spelt (λ atom. literal (codes "\n") (next atom)) later h in
      let q = literal_spelt (codes "\n") (next p.atom) p.rest p.follows in (
        p.atom,
        q.rest,
        p.bounded,
        p.is ∙ ap (λ t. pair_text p.atom.site p.atom.k ++ t) q.is,
        q.follows,
      )

  pub record TakenSpelt (next : List AtomId → Format A) (bytes : List ℕ) : Type 0 where
    pub took : List AtomId
    pub rest : List ℕ
    pub some : 0 < length took
    pub bounded : Each IsAtom took
    pub is : bytes ≡ atoms_text took ++ (codes "\n" ++ rest)
    pub follows : SpellsBy (next took) y rest

  taken_spelt : (n : ℕ) (next : List AtomId → Format A) (bytes : List ℕ)
      → SpellsBy (taken n next) y bytes → TakenSpelt next bytes
  taken_spelt n next bytes h =
      let q = literal_spelt (codes " ") (pair (λ atom. further n (atom ∷ []) next)) bytes h in
      let first = pair_spelt (λ atom. further n (atom ∷ []) next) q.rest q.follows in
      let s = further_spelt n (first.atom ∷ []) next first.rest first.follows in
      record {
        took = first.atom ∷ s.more;
        rest = s.rest;
        some = omega arith;
        bounded = (first.bounded, s.bounded);
        is = one_atom bytes q.rest first.rest first.atom s.more s.rest q.is first.is s.is;
        follows = s.follows;
      }

  abbrev reacts : (Event → Format A) → AtomId → List AtomId → Format A
  reacts next rule took = next (React (record { site = rule.site; k = rule.k }) took)

  reacted : (next : Event → Format A) (bytes later r : List ℕ) (rule : AtomId) → IsAtom rule
      → bytes ≡ codes "react " ++ later → later ≡ pair_text rule.site rule.k ++ r
      → TakenSpelt (reacts next rule) r → EventSpelt next bytes
  reacted next bytes later r rule bounded e g s = record {
    event = React (record { site = rule.site; k = rule.k }) s.took;
    rest = s.rest;
    logged = (bounded, (s.some, s.bounded));
    is = react_line bytes later r s.rest rule s.took e g s.is;
    follows = s.follows;
  }

  react_spelt : (n : ℕ) (next : Event → Format A) (bytes later : List ℕ)
      → bytes ≡ codes "react " ++ later
      → SpellsBy (pair (λ rule. taken n (reacts next rule))) y later → EventSpelt next bytes
  react_spelt n next bytes later e h =
      let p = pair_spelt (λ rule. taken n (reacts next rule)) later h in
      reacted next bytes later p.rest p.atom p.bounded e
      p.is (taken_spelt n (reacts next p.atom) p.rest p.follows)

  event_spelt : (n : ℕ) (next : Event → Format A) (bytes : List ℕ)
      → SpellsBy (event_line n next) y bytes → EventSpelt next bytes
  event_spelt n next bytes (zero, later, e, h) = react_spelt n next bytes later e h
  event_spelt n next bytes (suc zero, later, e, h) =
      let p = alone (λ atom. next (Move atom)) later h in
      record {
        event = Move p.0;
        rest = p.1;
        logged = p.2;
        is = behind_word (codes "move ") (pair_text p.0.site p.0.k) p.1 bytes later e.1 p.3;
        follows = p.4;
      }
  event_spelt n next bytes (suc (suc zero), later, e, h) =
      let p = alone (λ atom. next (Halt atom)) later h in
      record {
        event = Halt p.0;
        rest = p.1;
        logged = p.2;
        is = behind_word (codes "halt ") (pair_text p.0.site p.0.k) p.1 bytes later e.1.1 p.3;
        follows = p.4;
      }
  event_spelt n next bytes (suc (suc (suc zero)), later, e, h) =
      let p = alone (λ atom. next (Detect atom)) later h in
      record {
        event = Detect p.0;
        rest = p.1;
        logged = p.2;
        is = behind_word (codes "detect ") (pair_text p.0.site p.0.k) p.1 bytes later e.1.1.1 p.3;
        follows = p.4;
      }
  event_spelt n next bytes (suc (suc (suc (suc i))), later, e, h) = absurd e.1.1.1.1

  pub record LinesSpelt (front : List Event) (count : ℕ) (next : List Event → Format A)
      (bytes : List ℕ) : Type 0 where
    pub events : List Event
    pub rest : List ℕ
    pub counted : length events ≡ count
    pub logged : Each IsLogged events
    pub is : bytes ≡ events_text events ++ rest
    pub follows : SpellsBy (next (front ++ events)) y rest

  lines_spelt :
      (n : ℕ) (front : List Event) (count : ℕ) (next : List Event → Format A) (bytes : List ℕ)
      → SpellsBy (lines n front count next) y bytes → LinesSpelt front count next bytes
  unfolding lines
  lines_spelt n front zero next bytes h = record {
    events = [];
    rest = bytes;
    counted = refl;
    logged = tt;
    is = refl;
    follows = subst (λ (f : List Event). SpellsBy (next f) y bytes) (sym (append-nil front)) h;
  }
  lines_spelt n front (suc count) next bytes h =
      let p = event_spelt n (λ event. lines n (front ++ event ∷ []) count next) bytes h in
      let s = lines_spelt n (front ++ p.event ∷ []) count next p.rest p.follows in
      record {
        events = p.event ∷ s.events;
        rest = s.rest;
        counted = omega (arith, s.counted);
        logged = (p.logged, s.logged);
        is = p.is
            ∙ (ap (λ t. event_text p.event ++ t) s.is
            ∙ sym (append_assoc (event_text p.event) (events_text s.events) s.rest));
        follows = subst (λ (f : List Event). SpellsBy (next f) y s.rest)
            (append_assoc front (p.event ∷ []) s.events) s.follows;
      }

  pub record CountedSpelt (most : ℕ) (next : List ℕ → Format A) (bytes : List ℕ) : Type 0 where
    pub text : List ℕ
    pub rest : List ℕ
    pub small : length text ≤ most
    pub is : bytes ≡ decimal (length text) ++ (codes "\n" ++ (text ++ rest))
    pub follows : SpellsBy (next text) y rest

  counted_spelt : (most : ℕ) (next : List ℕ → Format A) (bytes : List ℕ)
      → SpellsBy (counted_text most next) y bytes → CountedSpelt most next bytes
  counted_spelt most next bytes (count, r, n, h) =
      let p = literal_spelt (codes "\n") (field (counted count) next) r h in
      let q = p.follows in
      let len : length q.0 ≡ count = q.2.0 in
      record {
        text = q.0;
        rest = q.1;
        small = omega (arith, n.small, len);
        is = rw len (n.is ∙ ap (λ t. decimal count ++ t) (p.is ∙ ap (λ t. codes "\n" ++ t) q.2.1));
        follows = q.3;
      }

the_log : (made log : LogParts) (bytes : List ℕ) → made ≡ log → Spells made bytes → Spells log bytes
the_log made log bytes e h = subst (λ (l : LogParts). Spells l bytes) e h

-- the budgets of a kind of logs, and how these begin
record IsKind (kind : ℕ) (start : List ℕ) : Type 0 where
  begins : (budget : ℕ) → least_budget kind ≤ budget → budget ≤ most_budget kind
      → beginning budget ≡ start
  small : most_budget kind ≤ 4000000

first : IsKind 0 (codes "joinlog 1\nsource ")
unfolding beginning
first =
    record { begins = λ budget low high. rw (le-leb budget 1000000 high) refl; small = omega arith }

second : IsKind 1 (codes "joinlog 2\nsource ")
unfolding beginning
second = record {
  begins = λ budget low high. rw (lt-leb budget 1000000 (omega (arith, low))) refl;
  small = omega arith;
}

kind_spelt : (n kind : ℕ) (start : List ℕ) (log : LogParts) (bytes a : List ℕ) → IsKind kind start
    → bytes ≡ start ++ a → SpellsBy (counted_text 1048576 (budget_part n kind)) log a
    → Spells log bytes
kind_spelt n kind start log bytes a k e h =
    let source = counted_spelt log 1048576 (budget_part n kind) a h in
    let b = literal_spelt log (codes "\nbudget ")
    (field (number (least_budget kind) (most_budget kind)) (events_part n source.text))
    source.rest source.follows in
    let budget = b.follows in
    let b_is : IsNumber (least_budget kind) (most_budget kind) budget.0 b.rest budget.1 =
    budget.2 in
    let starts : bytes ≡ beginning budget.0 ++ a =
    e ∙ ap (λ t. t ++ a) (sym (k.begins budget.0 b_is.large b_is.small)) in
    let c = literal_spelt log (codes "\nevents ") (field (number 0 budget.0)
    (λ count. literal (codes "\n") (lines n [] count (last_part source.text budget.0))))
    budget.1 budget.3 in
    let count = c.follows in
    let c_is : IsNumber 0 budget.0 count.0 c.rest count.1 = count.2 in
    let d = literal_spelt log (codes "\n") (lines n [] count.0 (last_part source.text budget.0))
    count.1 count.3 in
    let events = lines_spelt log n [] count.0 (last_part source.text budget.0) d.rest d.follows in
    let last : List ℕ → Format LogParts =
    λ trace. whole
    (record { source = source.text; budget = budget.0; events = events.events; trace = trace }) in
    let t = literal_spelt log (codes "trace ") (counted_text 18446744073709551615 last)
    events.rest events.follows in
    let trace = counted_spelt log 18446744073709551615 last t.rest t.follows in
    let made : LogParts = record {
      source = source.text;
      budget = budget.0;
      events = events.events;
      trace = trace.text;
    } in
    let is_log : made ≡ log = trace.follows.0 in
    let all : bytes ≡ log_text made =
    log_is made bytes a source.rest b.rest budget.1 c.rest count.1 d.rest events.rest t.rest
    trace.rest count.0 starts source.is b.is b_is.is c.is c_is.is d.is events.is t.is trace.is
    events.counted trace.follows.1 in
    let spells : Spells made bytes = record {
      is = all;
      source = source.small;
      budget = omega (arith, b_is.small, k.small);
      events = omega (arith, c_is.small, events.counted);
      logged = events.logged;
      trace = omega (arith, trace.small);
    } in
    the_log made log bytes is_log spells

pub log_spelt : (n : ℕ) (log : LogParts) (bytes : List ℕ) → SpellsBy (log_fields n) log bytes
    → Spells log bytes
unfolding log_fields
log_spelt n log bytes (zero, a, e, h) =
    kind_spelt n 0 (codes "joinlog 1\nsource ") log bytes a first e h
log_spelt n log bytes (suc zero, a, e, h) =
    kind_spelt n 1 (codes "joinlog 2\nsource ") log bytes a second e.1 h
log_spelt n log bytes (suc (suc i), a, e, h) = absurd e.1.1
