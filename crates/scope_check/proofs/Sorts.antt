-- A block with no clash gives each spelling one sort, and words without a repetition have different
-- numbers.
use Rattle.std.proofs.Common.{◌≡◌, ℕ, ◌+◌, ◌≤◌, ◌⊎◌, inl, inr, Bool, true, false, cond, eqb, List}
use Rattle.std.proofs.Common.{[], ◌∷◌, ◌++◌, Option, Some, None, refl, sym, ap, ◌∙◌, subst, arith}
use Rattle.std.proofs.Common.{append_assoc, append-nil}
use Rattle.std.proofs.lemmas.Bool.{cases_eq, or_left, or_right}
use Rattle.std.proofs.lemmas.Bool.Decides.{nat_tests}
use Rattle.std.specs.Str.{bytes_eq}
use Rattle.std.specs.List.{list_any}
use Rattle.std.specs.Cmp.Lexicographic.{bytes_decides}
use Rattle.join_base.specs.declared.fault.Kind.{Kind}
use Rattle.join_base.specs.declared.fault.Kind.TheVariants.{Scope2, Arity2}
use Rattle.join_parse.specs.declared.word.Word.{Word}
use Rattle.scope_names.specs.declared.scope.Sort.{Sort}
use Rattle.scope_names.specs.declared.scope.Sort.TheVariants.{Channel, Location, Observed}
use Rattle.scope_names.specs.declared.scope.Sort.TheVariants.{Parameter}
use Rattle.chem_model.specs.Binders.{times}
use Rattle.scope_check.specs.declared.fault.Fault.{Fault}
use Rattle.scope_check.specs.Blocks.{Defining, first_in}
use Rattle.scope_check.specs.inside.FaultList.{fault, unless, clash, clash_if, clashes}
use Rattle.scope_check.specs.inside.FaultList.{is_spelled_in, repeated_if, repeats}
use Rattle.scope_check.specs.Numbers.{Binder, is_same, in_params, index_of}
use Rattle.scope_check.specs.Stands.{numbers}
use Rattle.scope_check.proofs.Lists.{or_sort, first-append, spelled-append, none_left, none_right}
use Rattle.scope_check.proofs.Counted.{index-tells}
use Rattle.scope_check.proofs.Size.{sum-cons}

-- ---- one sort for each spelling

-- an occurrence of this spelling and sort
abbrev pub Has : List ℕ → Sort → List Defining → Type 0
Has text sort [] = ⊥
Has text sort (d ∷ ds) = ((text ≡ d.0.text) × (sort ≡ d.1)) ⊎ Has text sort ds

has-append : (text : List ℕ) (sort : Sort) (xs ys : List Defining) → Has text sort (xs ++ ys)
    → Has text sort xs ⊎ Has text sort ys
has-append text sort [] ys h = inr h
has-append text sort (x ∷ xs) ys (inl e) = inl (inl e)
has-append text sort (x ∷ xs) ys (inr h) =
    elim (has-append text sort xs ys h) [ inl a ↦ inl (inr a) | inr b ↦ inr b ]

pub has-left : (text : List ℕ) (sort : Sort) (xs ys : List Defining) → Has text sort xs
    → Has text sort (xs ++ ys)
has-left text sort [] ys h = absurd h
has-left text sort (x ∷ xs) ys (inl e) = inl e
has-left text sort (x ∷ xs) ys (inr h) = inr (has-left text sort xs ys h)

pub has-right : (text : List ℕ) (sort : Sort) (xs ys : List Defining) → Has text sort ys
    → Has text sort (xs ++ ys)
has-right text sort [] ys h = h
has-right text sort (x ∷ xs) ys h = inr (has-right text sort xs ys h)

abbrev pub IsChannel : Sort → Type 0
IsChannel (Channel m at) = Unit {0}
IsChannel Location = ⊥
IsChannel (Observed m i) = ⊥
IsChannel Parameter = ⊥

-- every occurrence has the sort of the first one of its spelling
abbrev pub Settled : List Defining → Type 0
Settled names =
    (text : List ℕ) (sort : Sort) → Has text sort names → first_in text names ≡ Some sort

unless-none : (b : Bool) (f : Fault) → unless b (f ∷ []) ≡ [] → b ≡ true
unless-none true f e = refl
unless-none false f e = absurd cc

channels-same : (m at n here : ℕ) (w : Word) → clash (Channel m at) w (Channel n here) ≡ []
    → Channel n here ≡ Channel m at
channels-same m at n here w e =
    let count = unless (eqb m n) (fault Arity2 w) in
    let place = unless (eqb at here) (fault Scope2 w) in
    let a =
    unless-none (eqb m n) (record { kind = Arity2; place = w.place }) (none_left count place e) in
    let b = unless-none (eqb at here) (record { kind = Scope2; place = w.place })
    (none_right count place e) in
    let p : n ≡ m = grind (arith, nat_tests) in
    let q : here ≡ at = grind (arith, nat_tests) in
    λ i. Channel (p i) (q i)

clash-none : (first : Sort) (w : Word) (later : Sort) → clash first w later ≡ []
    → (later ≡ first) × IsChannel first
clash-none (Channel m at) w (Channel n here) e = (channels-same m at n here w e, tt)
clash-none (Channel m at) w Location e = absurd cc
clash-none (Channel m at) w (Observed n i) e = absurd cc
clash-none (Channel m at) w Parameter e = absurd cc
clash-none Location w later e = absurd cc
clash-none (Observed n i) w later e = absurd cc
clash-none Parameter w later e = absurd cc

settled-more : (before : List Defining) (d : Defining) → Settled before
    → clash_if (first_in d.0.text before) d.0 d.1 ≡ [] → Settled (before ++ d ∷ [])
settled-more before d ok none text sort h = first-append text before (d ∷ [])
    ∙ elim (has-append text sort before (d ∷ [])
    h) [ inl a ↦ earlier a | inr (inl e) ↦ here e | inr (inr x) ↦ absurd x ]
  where
    earlier : Has text sort before
        → or_sort (first_in text before) (first_in text (d ∷ [])) ≡ Some sort
    earlier a = ap (λ o. or_sort o (first_in text (d ∷ []))) (ok text sort a)

    found : (o : Option Sort) → clash_if o d.0 d.1 ≡ []
        → or_sort o (first_in d.0.text (d ∷ [])) ≡ Some d.1
    found None q = ap (λ b. cond b (Some d.1) None) ((bytes_decides d.0.text d.0.text).1 refl)
    found (Some first) q = ap Some (sym (clash-none first d.0 d.1 q).0)

    here : (text ≡ d.0.text) × (sort ≡ d.1)
        → or_sort (first_in text before) (first_in text (d ∷ [])) ≡ Some sort
    here e =
        ap (λ x. or_sort (first_in x before) (first_in x (d ∷ []))) e.0
        ∙ found (first_in d.0.text before) none
        ∙ ap Some (sym e.1)

settled-all : (before names : List Defining) → Settled before → clashes before names ≡ []
    → Settled (before ++ names)
settled-all before [] ok none = subst Settled (sym (append-nil before)) ok
settled-all before (d ∷ ds) ok none =
    subst Settled (append_assoc before (d ∷ []) ds)
    (settled-all (before ++ d ∷ []) ds (settled-more before d ok
    (none_left (clash_if (first_in d.0.text before) d.0 d.1) (clashes (before ++ d ∷ []) ds) none))
    (none_right (clash_if (first_in d.0.text before) d.0 d.1) (clashes (before ++ d ∷ []) ds) none))

pub settled : (names : List Defining) → clashes [] names ≡ [] → Settled names
settled names none = settled-all [] names (λ text sort h. absurd h) none

-- ---- lists of numbers

pub repeated-none : (b : Bool) (kind : Kind) (w : Word) → repeated_if b kind w ≡ [] → b ≡ false
repeated-none true kind w e = absurd cc
repeated-none false kind w e = refl

pub times-cons : (n : ℕ) (ns : List ℕ) (b : ℕ) → times (n ∷ ns) b ≡ cond (eqb n b) 1 0 + times ns b
times-cons n ns b = sum-cons (λ c. cond (eqb c b) 1 0) n ns

-- ---- binders that are among these

module _ (bs : List Binder) where
  abbrev pub AllIn : List Binder → Type 0
  AllIn [] = Unit {0}
  AllIn (x ∷ xs) = (list_any (is_same x) bs ≡ true) × AllIn xs

  pub in_front : (xs ys : List Binder) → AllIn (xs ++ ys) → AllIn xs
  in_front [] ys h = tt
  in_front (x ∷ xs) ys h = (h.0, in_front xs ys h.1)

  pub in_back : (xs ys : List Binder) → AllIn (xs ++ ys) → AllIn ys
  in_back [] ys h = h
  in_back (x ∷ xs) ys h = in_back xs ys h.1

  pub in_both : (xs ys : List Binder) → AllIn xs → AllIn ys → AllIn (xs ++ ys)
  in_both [] ys a b = b
  in_both (x ∷ xs) ys a b = (a.0, in_both xs ys a.1 b)

  -- the number tells a spelling from all others of its scope
  pub tells : (k : ℕ) (text other : List ℕ)
      → list_any (is_same (record { scope = k; text = text })) bs ≡ true
      → index_of bs (record { scope = k; text = text })
      ≡ index_of bs (record { scope = k; text = other }) → text ≡ other
  tells k text other h e = ap (λ (b : Binder). b.text)
      (index-tells bs (record { scope = k; text = text }) (record { scope = k; text = other }) h e)

  abbrev number_at : ℕ → List ℕ → ℕ
  number_at k text = index_of bs (record { scope = k; text = text })

  -- no word repeats an earlier one
  pub once-each : (kind : Kind) (k : ℕ) (before ws : List Word) → AllIn (in_params k ws)
      → repeats kind before ws ≡ []
      → ((b : ℕ) → times (numbers (index_of bs) k ws) b ≤ 1)
      × ((text : List ℕ) → is_spelled_in text before ≡ true
      → times (numbers (index_of bs) k ws) (number_at k text) ≡ 0)
  once-each kind k before [] all none = ((λ b. omega arith), (λ text h. refl))
  once-each kind k before (w ∷ ws) all none =
      let now : is_spelled_in w.text before ≡ false =
      repeated-none (is_spelled_in w.text before) kind w
      (none_left _ (repeats kind (before ++ w ∷ []) ws) none) in
      let ih = once-each kind k (before ++ w ∷ []) ws
      all.1 (none_right (repeated_if (is_spelled_in w.text before) kind w)
      (repeats kind (before ++ w ∷ []) ws) none) in
      let n = number_at k w.text in
      let ns = numbers (index_of bs) k ws in
      let later : times ns n ≡ 0 =
      ih.1 w.text (spelled-append w.text before w
      ∙ or_right (is_spelled_in w.text before) (bytes_eq w.text w.text)
      ((bytes_decides w.text w.text).1 refl)) in
      ((λ b. here n ns b ih.0 later), λ text h. there now ih.1 text h)
    where
      here : (n : ℕ) (ns : List ℕ) (b : ℕ) → ((b : ℕ) → times ns b ≤ 1) → times ns n ≡ 0
          → times (n ∷ ns) b ≤ 1
      here n ns b one later = elim (cases_eq n b) [
        | inl same ↦ (let e : times ns b ≡ 0 = sym (ap (times ns) same) ∙ later in
            at_most (eqb n b) (times ns b) (times (n ∷ ns) b) (times-cons n ns b) e)
        | inr other ↦ (let e : eqb n b ≡ false = grind (arith, nat_tests) in
            omega (arith, times-cons n ns b ∙ ap (λ t. cond t 1 0 + times ns b) e, one b))
      ]
        where
          at_most : (t : Bool) (x y : ℕ) → y ≡ cond t 1 0 + x → x ≡ 0 → y ≤ 1
          at_most true x y e z = omega arith
          at_most false x y e z = omega arith

      there : is_spelled_in w.text before ≡ false
          → ((text : List ℕ) → is_spelled_in text (before ++ w ∷ []) ≡ true
          → times (numbers (index_of bs) k ws) (number_at k text) ≡ 0)
          → (text : List ℕ) → is_spelled_in text before ≡ true
          → times (number_at k w.text ∷ numbers (index_of bs) k ws) (number_at k text) ≡ 0
      there now ih text h = elim (cases_eq (number_at k w.text) (number_at k text)) [
        | inl same ↦ (let e : w.text ≡ text = tells k w.text text all.0 same in
            let bad : is_spelled_in w.text before ≡ true = ap (λ x. is_spelled_in x before) e ∙ h in
            absurd cc)
        | inr other ↦ (let e : eqb (number_at k w.text) (number_at k text) ≡ false =
            grind (arith, nat_tests) in
            let split : times (number_at k w.text ∷ numbers (index_of bs) k ws) (number_at k text)
            ≡ cond false 1 0 + times (numbers (index_of bs) k ws) (number_at k text) =
            times-cons (number_at k w.text) (numbers (index_of bs) k ws) (number_at k text)
            ∙ ap (λ t. cond t 1 0 + times (numbers (index_of bs) k ws) (number_at k text)) e in
            let none : times (numbers (index_of bs) k ws) (number_at k text) ≡ 0 =
            ih text (spelled-append text before w
            ∙ or_left (is_spelled_in text before) (bytes_eq text w.text) h) in
            omega (arith, split, none))
      ]
