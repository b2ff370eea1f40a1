-- A log's text is spelled by the fields of a log, where no reaction takes too many atoms.
use Rattle.std.proofs.Common.{◌≡◌, ◌≢◌, ℕ, zero, suc, ◌+◌, ◌<◌, ◌≤◌, ◌^◌, List, [], ◌∷◌, ◌++◌}
use Rattle.std.proofs.Common.{length, codes, drop, refl, sym, ap, subst, ◌∙◌, append-nil}
use Rattle.std.proofs.Common.{append_assoc, arith, cond, inl, inr}
use Rattle.std.proofs.lemmas.Bool.{cases_lt, le-leb, lt-leb}
use Rattle.std.specs.Prelude.{decimal}
use Rattle.std.proofs.lemmas.List.{length-append}
use Rattle.chem_model.specs.declared.event.AtomId.{AtomId}
use Rattle.chem_model.specs.declared.event.Event.{Event}
use Rattle.chem_model.specs.declared.event.Event.TheVariants.{React, Move, Halt, Detect}
use Rattle.chem_model.specs.Each.{Each}
use Rattle.trace_text.specs.LogText.{LogParts, IsAtom, IsLogged, Spells, pair_text, atoms_text}
use Rattle.trace_text.specs.LogText.{event_text, events_text, beginning, log_text}
use Rattle.trace_text.proofs.Pieces.{three, four, last_five, log_cut}
use Rattle.trace_text.specs.Fields.{Format, whole, NoDigit, IsWord, IsNumber, SpellsBy}
use Rattle.trace_text.specs.LogFields.{literal, pair, further, taken, one_pair, event_line, lines}
use Rattle.trace_text.specs.LogFields.{counted_text, last_part, events_part, beginnings}
use Rattle.trace_text.specs.LogFields.{least_budget, most_budget, budget_part, log_fields}

pair_cut : (bytes a b c rest : List ℕ) → bytes ≡ (a ++ b ++ c) ++ rest
    → bytes ≡ a ++ (b ++ (c ++ rest))
pair_cut bytes a b c rest e = e ∙ three a b c rest

atom_cut : (bytes : List ℕ) (a : AtomId) (more : List AtomId) (rest : List ℕ)
    → bytes ≡ atoms_text (a ∷ more) ++ rest
    → bytes ≡ codes " " ++ (pair_text a.site a.k ++ (atoms_text more ++ rest))
atom_cut bytes a more rest e = e ∙ three (codes " ") (pair_text a.site a.k) (atoms_text more) rest

react_cut : (bytes w a b rest : List ℕ) → bytes ≡ (w ++ a ++ b ++ codes "\n") ++ rest
    → bytes ≡ w ++ (a ++ (b ++ (codes "\n" ++ rest)))
react_cut bytes w a b rest e = e ∙ four w a b (codes "\n") rest

-- ---- counts

atoms_fit : (took : List AtomId) → length took ≤ length (atoms_text took)
atoms_fit [] = omega arith
atoms_fit (a ∷ more) = omega (
  arith,
  atoms_fit more,
  length-append (codes " " ++ pair_text a.site a.k) (atoms_text more),
  length-append (codes " ") (pair_text a.site a.k),
)

-- each reaction takes at most so many atoms
abbrev pub Few : ℕ → Event → Type 0
Few n (React r took) = length took ≤ n
Few n (Move a) = Unit {0}
Few n (Halt a) = Unit {0}
Few n (Detect a) = Unit {0}

event_fits : (n : ℕ) (e : Event) → length (event_text e) ≤ n → Few n e
event_fits n (React r took) le =
    let text : length (event_text (React r took))
    ≡ length ((codes "react " ++ pair_text r.site r.k) ++ atoms_text took) + 1 =
    length-append ((codes "react " ++ pair_text r.site r.k) ++ atoms_text took) (codes "\n") in
    omega (
      arith,
      le,
      text,
      atoms_fit took,
      length-append (codes "react " ++ pair_text r.site r.k) (atoms_text took),
    )
event_fits n (Move a) le = tt
event_fits n (Halt a) le = tt
event_fits n (Detect a) le = tt

events_fit : (n : ℕ) (events : List Event) → length (events_text events) ≤ n → Each (Few n) events
events_fit n [] le = tt
events_fit n (e ∷ events) le =
    let both : length (events_text (e ∷ events))
    ≡ length (event_text e) + length (events_text events) =
    length-append (event_text e) (events_text events) in
    (event_fits n e (omega (arith, le, both)), events_fit n events (omega (arith, le, both)))

part_fits : (n : ℕ) (bytes front text rest : List ℕ) → bytes ≡ front ++ (text ++ rest)
    → length bytes ≤ n → length text ≤ n
part_fits n bytes front text rest e le =
    omega (arith, le, ap length e, length-append front (text ++ rest), length-append text rest)

log_fits : (log : LogParts) (bytes : List ℕ) (n : ℕ) → bytes ≡ log_text log → length bytes ≤ n
    → length (events_text log.events) ≤ n
log_fits log bytes n e le =
    let front : List ℕ = beginning log.budget ++ decimal (length log.source) ++ codes "\n"
    ++ log.source ++ codes "\nbudget " ++ decimal log.budget ++ codes "\nevents "
    ++ decimal (length log.events) ++ codes "\n" in
    part_fits n bytes front (events_text log.events)
    (codes "trace " ++ (decimal (length log.trace) ++ (codes "\n" ++ log.trace))) (e
    ∙ last_five front (events_text log.events) (codes "trace ") (decimal (length log.trace))
    (codes "\n") log.trace) le

-- ---- parts

-- bytes that begin with another byte
unlike : (b c : ℕ) (text other bytes : List ℕ) → b ≢ c → bytes ≡ b ∷ text → bytes ≢ c ∷ other
unlike b c text other bytes differ e g =
    let both : b ∷ text ≡ c ∷ other = sym e ∙ g in
    let same : b ≡ c = cc in
    differ same

module _ {A : Type 0} (y : A) where
  literal_spells : (text : List ℕ) (next : Format A) (bytes rest : List ℕ) → bytes ≡ text ++ rest
      → SpellsBy next y rest → SpellsBy (literal text next) y bytes
  literal_spells text next bytes rest e h = (0, rest, e, h)

  pair_spells : (next : AtomId → Format A) (a : AtomId) (bytes rest : List ℕ) → IsAtom a
      → NoDigit rest → bytes ≡ pair_text a.site a.k ++ rest → SpellsBy (next a) y rest
      → SpellsBy (pair next) y bytes
  pair_spells next a bytes rest bounded no_digit e h =
      let behind_point : List ℕ = decimal a.k ++ rest in
      let k_is : IsNumber 0 18446744073709551615 a.k behind_point rest = record {
        large = omega arith;
        small = omega (arith, bounded.1);
        bits = bounded.1;
        is = refl;
        longest = no_digit;
      } in
      let site_is : IsNumber 0 4294967295 a.site bytes (codes "." ++ behind_point) = record {
        large = omega arith;
        small = omega (arith, bounded.0);
        bits = omega (arith, bounded.0);
        is = pair_cut bytes (decimal a.site) (codes ".") (decimal a.k) rest e;
        longest = refl;
      } in
      (a.site, codes "." ++ behind_point, site_is, (0, behind_point, refl, (a.k, rest, k_is, h)))

  no_digit_behind : (more : List AtomId) (rest : List ℕ)
      → NoDigit (atoms_text more ++ (codes "\n" ++ rest))
  no_digit_behind [] rest = refl
  no_digit_behind (a ∷ more) rest = refl

  further_spells :
      (n : ℕ) (front more : List AtomId) (next : List AtomId → Format A) (bytes rest : List ℕ)
      → length more ≤ n → Each IsAtom more
      → bytes ≡ atoms_text more ++ (codes "\n" ++ rest) → SpellsBy (next (front ++ more)) y rest
      → SpellsBy (further n front next) y bytes
  unfolding further
  further_spells zero front [] next bytes rest few bounded e h =
      literal_spells (codes "\n") (next front) bytes rest e
      (subst (λ (f : List AtomId). SpellsBy (next f) y rest) (append-nil front) h)
  further_spells zero front (a ∷ more) next bytes rest few bounded e h = absurd (omega (arith, few))
  further_spells (suc n) front [] next bytes rest few bounded e h =
      let no_space : (other : List ℕ) → bytes ≢ codes " " ++ other =
      λ other g. let both : codes "\n" ++ rest ≡ codes " " ++ other = sym e ∙ g in cc in (
        1,
        rest,
        (no_space, e),
        subst (λ (f : List AtomId). SpellsBy (next f) y rest) (append-nil front) h,
      )
  further_spells (suc n) front (a ∷ more) next bytes rest few bounded e h =
      let later : List ℕ = atoms_text more ++ (codes "\n" ++ rest) in
      let more_spelled = further_spells n (front ++ a ∷ []) more next later rest
      (omega (arith, few)) bounded.1 refl (subst (λ (f : List AtomId). SpellsBy (next f) y rest)
      (sym (append_assoc front (a ∷ []) more)) h) in (
        0,
        pair_text a.site a.k ++ later,
        atom_cut bytes a more (codes "\n" ++ rest) e,
        pair_spells (λ atom. further n (front ++ atom ∷ []) next) a (pair_text a.site a.k ++ later)
            later bounded.0 (no_digit_behind more rest) refl more_spelled,
      )

  taken_spells : (n : ℕ) (took : List AtomId) (next : List AtomId → Format A) (bytes rest : List ℕ)
      → 0 < length took → length took ≤ n → Each IsAtom took
      → bytes ≡ atoms_text took ++ (codes "\n" ++ rest) → SpellsBy (next took) y rest
      → SpellsBy (taken n next) y bytes
  taken_spells n [] next bytes rest some few bounded e h = absurd (omega (arith, some))
  taken_spells n (a ∷ more) next bytes rest some few bounded e h =
      let later : List ℕ = atoms_text more ++ (codes "\n" ++ rest) in
      let behind_space : List ℕ = pair_text a.site a.k ++ later in
      let more_spelled =
      further_spells n (a ∷ []) more next later rest (omega (arith, few)) bounded.1 refl h in
      literal_spells (codes " ") (pair (λ atom. further n (atom ∷ []) next)) bytes behind_space
      (atom_cut bytes a more (codes "\n" ++ rest) e)
      (pair_spells (λ atom. further n (atom ∷ []) next) a behind_space later
      bounded.0 (no_digit_behind more rest) refl more_spelled)

  one_pair_spells : (next : AtomId → Format A) (a : AtomId) (rest : List ℕ) → IsAtom a
      → SpellsBy (next a) y rest
      → SpellsBy (one_pair next) y (pair_text a.site a.k ++ (codes "\n" ++ rest))
  one_pair_spells next a rest bounded h = pair_spells (λ atom. literal (codes "\n") (next atom)) a
      (pair_text a.site a.k ++ (codes "\n" ++ rest)) (codes "\n" ++ rest) bounded refl refl
      (literal_spells (codes "\n") (next a) (codes "\n" ++ rest) rest refl h)

  event_spells : (n : ℕ) (next : Event → Format A) (e : Event) (bytes rest : List ℕ) → IsLogged e
      → Few n e → bytes ≡ event_text e ++ rest → SpellsBy (next e) y rest
      → SpellsBy (event_line n next) y bytes
  event_spells n next (React r took) bytes rest logged few e h =
      let rule : AtomId = record { site = r.site; k = r.k } in
      let after : AtomId → List AtomId → Format A =
      λ i took. next (React (record { site = i.site; k = i.k }) took) in
      let later : List ℕ = atoms_text took ++ (codes "\n" ++ rest) in (
        0,
        pair_text r.site r.k ++ later,
        react_cut bytes (codes "react ") (pair_text r.site r.k) (atoms_text took) rest e,
        pair_spells (λ i. taken n (after i)) rule (pair_text r.site r.k ++ later) later
            logged.0 (no_digit_behind took rest) refl
            (taken_spells n took (after rule) later rest logged.1.0 few logged.1.1 refl h),
      )
  event_spells n next (Move a) bytes rest logged few e h =
      let later : List ℕ = pair_text a.site a.k ++ (codes "\n" ++ rest) in
      let text : bytes ≡ codes "move " ++ later =
      pair_cut bytes (codes "move ") (pair_text a.site a.k) (codes "\n") rest e in (
        1,
        later,
        (
          (λ other g. unlike 109 114 (codes "ove " ++ later) (codes "eact " ++ other) bytes
              (λ s. omega (arith, s)) text g),
          text,
        ),
        one_pair_spells (λ atom. next (Move atom)) a rest logged h,
      )
  event_spells n next (Halt a) bytes rest logged few e h =
      let later : List ℕ = pair_text a.site a.k ++ (codes "\n" ++ rest) in
      let text : bytes ≡ codes "halt " ++ later =
      pair_cut bytes (codes "halt ") (pair_text a.site a.k) (codes "\n") rest e in (
        2,
        later,
        (
          (λ other g. unlike 104 114 (codes "alt " ++ later) (codes "eact " ++ other) bytes
              (λ s. omega (arith, s)) text g),
          (
            (λ other g. unlike 104 109 (codes "alt " ++ later) (codes "ove " ++ other) bytes
                (λ s. omega (arith, s)) text g),
            text,
          ),
        ),
        one_pair_spells (λ atom. next (Halt atom)) a rest logged h,
      )
  event_spells n next (Detect a) bytes rest logged few e h =
      let later : List ℕ = pair_text a.site a.k ++ (codes "\n" ++ rest) in
      let text : bytes ≡ codes "detect " ++ later =
      pair_cut bytes (codes "detect ") (pair_text a.site a.k) (codes "\n") rest e in (
        3,
        later,
        (
          (λ other g. unlike 100 114 (codes "etect " ++ later) (codes "eact " ++ other) bytes
              (λ s. omega (arith, s)) text g),
          (
            (λ other g. unlike 100 109 (codes "etect " ++ later) (codes "ove " ++ other) bytes
                (λ s. omega (arith, s)) text g),
            (
              (λ other g. unlike 100 104 (codes "etect " ++ later) (codes "alt " ++ other) bytes
                  (λ s. omega (arith, s)) text g),
              text,
            ),
          ),
        ),
        one_pair_spells (λ atom. next (Detect atom)) a rest logged h,
      )

  lines_spells :
      (n : ℕ) (front events : List Event) (next : List Event → Format A) (bytes rest : List ℕ)
      → Each IsLogged events → Each (Few n) events
      → bytes ≡ events_text events ++ rest → SpellsBy (next (front ++ events)) y rest
      → SpellsBy (lines n front (length events) next) y bytes
  unfolding lines
  lines_spells n front [] next bytes rest logged few e h =
      subst (λ (b : List ℕ). SpellsBy (next front) y b) (sym e)
      (subst (λ (f : List Event). SpellsBy (next f) y rest) (append-nil front) h)
  lines_spells n front (x ∷ events) next bytes rest logged few e h =
      event_spells n (λ event. lines n (front ++ event ∷ []) (length events) next) x bytes
      (events_text events ++ rest)
      logged.0 few.0 (e ∙ append_assoc (event_text x) (events_text events) rest)
      (lines_spells n (front ++ x ∷ []) events next (events_text events ++ rest) rest
      logged.1 few.1 refl (subst (λ (f : List Event). SpellsBy (next f) y rest)
      (sym (append_assoc front (x ∷ []) events)) h))

  counted_spells : (most : ℕ) (next : List ℕ → Format A) (text bytes rest : List ℕ)
      → length text ≤ most → length text < 2 ^ 64
      → bytes ≡ decimal (length text) ++ (codes "\n" ++ (text ++ rest))
      → SpellsBy (next text) y rest → SpellsBy (counted_text most next) y bytes
  counted_spells most next text bytes rest small bits e h =
      let count_is : IsNumber 0 most (length text) bytes (codes "\n" ++ (text ++ rest)) =
      record { large = omega arith; small = small; bits = bits; is = e; longest = refl } in (
        length text,
        codes "\n" ++ (text ++ rest),
        count_is,
        (0, text ++ rest, refl, (text, rest, (refl, refl), h)),
      )

-- the kind of a log whose budget is this, with what is behind its beginning
record IsBegun (budget : ℕ) (bytes rest : List ℕ) : Type 0 where
  kind : ℕ
  word : IsWord beginnings kind bytes rest
  large : least_budget kind ≤ budget
  small : budget ≤ most_budget kind

begun : (budget : ℕ) (bytes rest : List ℕ) → budget ≤ 4000000 → bytes ≡ beginning budget ++ rest
    → IsBegun budget bytes rest
unfolding beginning
begun budget bytes rest most e =
    elim (cases_lt 1000000 budget) [
      | inl lt ↦
          let text : bytes ≡ codes "joinlog 2\nsource " ++ rest =
          rw
          (sym (ap (λ t. cond t (codes "joinlog 1\nsource ") (codes "joinlog 2\nsource ") ++ rest)
          (lt-leb budget 1000000 lt))) e in
          let other : (later : List ℕ) → bytes ≢ codes "joinlog 1\nsource " ++ later =
          λ later g. unlike 50 49 (codes "\nsource " ++ rest) (codes "\nsource " ++ later)
          (drop 8 bytes) (λ s. omega (arith, s)) (ap (drop 8) text) (ap (drop 8) g) in
          record { kind = 1; word = (other, text); large = omega (arith, lt); small = most }
      | inr le ↦
          let text : bytes ≡ codes "joinlog 1\nsource " ++ rest =
          rw
          (sym (ap (λ t. cond t (codes "joinlog 1\nsource ") (codes "joinlog 2\nsource ") ++ rest)
          (le-leb budget 1000000 le))) e in
          record { kind = 0; word = text; large = omega arith; small = le }
    ]

pub log_spells : (n : ℕ) (log : LogParts) (bytes : List ℕ) → Spells log bytes → length bytes ≤ n
    → SpellsBy (log_fields n) log bytes
unfolding log_fields
log_spells n log bytes h le =
    let r9 : List ℕ = decimal (length log.trace) ++ (codes "\n" ++ log.trace) in
    let r8 : List ℕ = codes "trace " ++ r9 in
    let r7 : List ℕ = events_text log.events ++ r8 in
    let r6 : List ℕ = codes "\n" ++ r7 in
    let r5 : List ℕ = decimal (length log.events) ++ r6 in
    let r4 : List ℕ = codes "\nevents " ++ r5 in
    let r3 : List ℕ = decimal log.budget ++ r4 in
    let r2 : List ℕ = codes "\nbudget " ++ r3 in
    let r1 : List ℕ = decimal (length log.source) ++ (codes "\n" ++ (log.source ++ r2)) in
    let b = begun log.budget bytes r1 h.budget (h.is ∙ log_cut log) in
    let few : Each (Few n) log.events = events_fit n log.events (log_fits log bytes n h.is le) in
    let last : List ℕ → Format LogParts =
    λ trace. whole
    (record { source = log.source; budget = log.budget; events = log.events; trace = trace }) in
    let trace_spelled =
    counted_spells log 18446744073709551615 last log.trace r9 [] (omega (arith, h.trace))
    h.trace (ap (λ t. decimal (length log.trace) ++ (codes "\n" ++ t)) (sym (append-nil log.trace)))
    (refl, refl) in
    let lines_spelled = lines_spells log n [] log.events (last_part log.source log.budget) r7 r8
    h.logged few refl (literal_spells log (codes "trace ") (counted_text 18446744073709551615 last)
    r8 r9 refl trace_spelled) in
    let count_is : IsNumber 0 log.budget (length log.events) r5 r6 = record {
      large = omega arith;
      small = h.events;
      bits = omega (arith, h.events, h.budget);
      is = refl;
      longest = refl;
    } in
    let budget_is : IsNumber (least_budget b.kind) (most_budget b.kind) log.budget r3 r4 = record {
      large = b.large;
      small = b.small;
      bits = omega (arith, h.budget);
      is = refl;
      longest = refl;
    } in
    let events_spelled : SpellsBy (events_part n log.source log.budget) log r4 =
    (0, r5, refl, (length log.events, r6, count_is, (0, r7, refl, lines_spelled))) in
    let budget_spelled : SpellsBy (budget_part n b.kind log.source) log r2 =
    (0, r3, refl, (log.budget, r4, budget_is, events_spelled)) in (
      b.kind,
      r1,
      b.word,
      counted_spells log 1048576 (budget_part n b.kind) log.source r1 r2
          h.source (omega (arith, h.source)) refl budget_spelled,
    )
