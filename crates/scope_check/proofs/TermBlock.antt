-- The block of a term is the tree's block by number, and keeps what a program's blocks keep.
use Rattle.std.proofs.Common.{◌≡◌, ℕ, zero, suc, ◌+◌, inl, List, [], ◌∷◌, ◌++◌, Option, Some, None}
use Rattle.std.proofs.Common.{length, refl, sym, ap, ◌∙◌, subst, arith, append_assoc}
use Rattle.std.specs.List.{All, AllPairs}
use Rattle.chem_model.specs.Each.{Each}
use Rattle.join_parse.specs.declared.word.Word.{Word}
use Rattle.join_parse.specs.declared.word.PatTree.{PatTree}
use Rattle.join_parse.specs.Source as s
use Rattle.scope_names.specs.declared.scope.Sort.{Sort}
use Rattle.scope_names.specs.declared.scope.Sort.TheVariants.{Channel, Location, Observed}
use Rattle.scope_names.specs.declared.scope.Sort.TheVariants.{Parameter}
use Rattle.chem_model.specs.declared.name.Ref.{Ref}
use Rattle.chem_model.specs.declared.name.Ref.TheVariants as ref
use Rattle.chem_model.specs.declared.name.Pat.{Pat}
use Rattle.chem_model.specs.Process as t
use Rattle.chem_model.specs.Binders as chem
use Rattle.chem_model.specs.Binders.{is_among, times}
use Rattle.chem_model.specs.Scope.{IsBinder, AreNamed, IsNamed}
use Rattle.scope_check.specs.Blocks.{Defining, channels, params, parameters, defining, defining_one}
use Rattle.scope_check.specs.Blocks.{places, places_of, Scope, scopes_in_def}
use Rattle.scope_check.specs.Numbers.{Binder, binder}
use Rattle.scope_check.specs.Stands.{numbers, pats_of, definition, level}
use Rattle.scope_check.proofs.Size.{length-numbers}
use Rattle.scope_check.proofs.Sorts.{Has, has-right}

-- ---- pairs

-- as the word by index
each-all : {A : Type 0} (P : A → Type 0) (xs : List A) → Each P xs → All P xs
each-all P [] h k d in' = absurd (omega arith)
each-all P (x ∷ xs) h zero d in' = h.0
each-all P (x ∷ xs) h (suc k) d in' = each-all P xs h.1 k d (omega arith)

pub pairs-nil : {A : Type 0} (R : A → A → Type 0) → AllPairs R []
pairs-nil R i j d less in' = absurd (omega arith)

pub pairs-cons : {A : Type 0} (R : A → A → Type 0) (x : A) (xs : List A) → Each (R x) xs
    → AllPairs R xs → AllPairs R (x ∷ xs)
pairs-cons R x xs a p zero zero d less in' = absurd (omega arith)
pairs-cons R x xs a p zero (suc j) d less in' = each-all (R x) xs a j d (omega arith)
pairs-cons R x xs a p (suc i) zero d less in' = absurd (omega arith)
pairs-cons R x xs a p (suc i) (suc j) d less in' = p i j d (omega arith) (omega arith)

-- ---- what a block defines

-- the places of a block, in source order
abbrev mutual
  pub place_words : s.Definition → List Word
  place_words (s.Rule pats body) = []
  place_words (s.Place o a ds body) = a ∷ all_place_words ds

  pub all_place_words : s.Definitions → List Word
  all_place_words s.no_definition = []
  all_place_words (s.and_also d ds) = place_words d ++ all_place_words ds

-- a channel of a block: its word, its count and its location
pub record Patterned : Type 0 where
  pub word : Word
  pub count : ℕ
  pub at : ℕ

abbrev pub pats_at : ℕ → List PatTree → List Patterned
pats_at at [] = []
pats_at at (p ∷ ps) = record { word = p.on; count = length p.params; at = at } ∷ pats_at at ps

abbrev mutual
  pub patterned : (at next : ℕ) → s.Definition → List Patterned
  patterned at next (s.Rule pats body) = pats_at at pats
  patterned at next (s.Place o a ds body) = all_patterned next (next + 1) ds

  pub all_patterned : (at next : ℕ) → s.Definitions → List Patterned
  all_patterned at next s.no_definition = []
  all_patterned at next (s.and_also d ds) =
      patterned at next d ++ all_patterned at (next + places_of d) ds

-- the words of a list stand in it with this sort
abbrev pub HasAll : List Defining → List Patterned → Type 0
HasAll names [] = Unit {0}
HasAll names (p ∷ ps) = Has p.word.text (Channel p.count p.at) names × HasAll names ps

hasall-append : (names : List Defining) (xs ys : List Patterned) → HasAll names xs → HasAll names ys
    → HasAll names (xs ++ ys)
hasall-append names [] ys a b = b
hasall-append names (x ∷ xs) ys a b = (a.0, hasall-append names xs ys a.1 b)

has-here : (front back : List Defining) (d : Defining) → Has d.0.text d.1 (front ++ d ∷ back)
has-here front back d = has-right d.0.text d.1 front (d ∷ back) (inl (refl, refl))

pats-have : (names : List Defining) (at : ℕ) (ps : List PatTree) (front back : List Defining)
    → names ≡ front ++ (channels at ps ++ back) → HasAll names (pats_at at ps)
pats-have names at [] front back e = tt
pats-have names at (p ∷ ps) front back e =
    let d : Defining = (p.on, Channel (length p.params) at) in (
      subst (Has p.on.text (Channel (length p.params) at)) (sym e)
          (has-here front (channels at ps ++ back) d),
      pats-have names at ps (front ++ d ∷ []) back
          (e ∙ sym (append_assoc front (d ∷ []) (channels at ps ++ back))),
    )

mutual
  one-has : (d : s.Definition) (at next : ℕ) (names front back : List Defining)
      → names ≡ front ++ (defining_one at next d ++ back) → HasAll names (patterned at next d)
  one-has (s.Rule pats body) at next names front back e = pats-have names at pats front back e
  one-has (s.Place o a ds body) at next names front back e =
      let d : Defining = (a, Location) in
      all-has ds next (next + 1) names (front ++ d ∷ []) back
      (e ∙ sym (append_assoc front (d ∷ []) (defining next (next + 1) ds ++ back)))

  pub all-has : (ds : s.Definitions) (at next : ℕ) (names front back : List Defining)
      → names ≡ front ++ (defining at next ds ++ back) → HasAll names (all_patterned at next ds)
  all-has s.no_definition at next names front back e = tt
  all-has (s.and_also d ds) at next names front back e =
      let x = defining_one at next d in let y = defining at (next + places_of d) ds in
      let flat = e ∙ ap (λ l. front ++ l) (append_assoc x y back) in
      hasall-append names (patterned at next d) (all_patterned at (next + places_of d) ds)
      (one-has d at next names front (y ++ back) flat)
      (all-has ds at (next + places_of d) names (front ++ x) back
      (flat ∙ sym (append_assoc front x (y ++ back))))

-- the places of a block stand in it as locations
abbrev pub HasPlaces : List Defining → List Word → Type 0
HasPlaces names [] = Unit {0}
HasPlaces names (w ∷ ws) = Has w.text Location names × HasPlaces names ws

hasplaces-append : (names : List Defining) (xs ys : List Word) → HasPlaces names xs
    → HasPlaces names ys → HasPlaces names (xs ++ ys)
hasplaces-append names [] ys a b = b
hasplaces-append names (x ∷ xs) ys a b = (a.0, hasplaces-append names xs ys a.1 b)

mutual
  one-places : (d : s.Definition) (at next : ℕ) (names front back : List Defining)
      → names ≡ front ++ (defining_one at next d ++ back) → HasPlaces names (place_words d)
  one-places (s.Rule pats body) at next names front back e = tt
  one-places (s.Place o a ds body) at next names front back e =
      let d : Defining = (a, Location) in (
        subst (Has a.text Location) (sym e)
            (has-here front (defining next (next + 1) ds ++ back) d),
        all-places ds next (next + 1) names (front ++ d ∷ []) back
            (e ∙ sym (append_assoc front (d ∷ []) (defining next (next + 1) ds ++ back))),
      )

  pub all-places : (ds : s.Definitions) (at next : ℕ) (names front back : List Defining)
      → names ≡ front ++ (defining at next ds ++ back) → HasPlaces names (all_place_words ds)
  all-places s.no_definition at next names front back e = tt
  all-places (s.and_also d ds) at next names front back e =
      let x = defining_one at next d in let y = defining at (next + places_of d) ds in
      let flat = e ∙ ap (λ l. front ++ l) (append_assoc x y back) in
      hasplaces-append names (place_words d) (all_place_words ds)
      (one-places d at next names front (y ++ back) flat)
      (all-places ds at (next + places_of d) names (front ++ x) back
      (flat ∙ sym (append_assoc front x (y ++ back))))

-- as many places as words
length-append-words : (xs ys : List Word) → length (xs ++ ys) ≡ length xs + length ys
length-append-words [] ys = omega arith
length-append-words (x ∷ xs) ys = omega (arith, length-append-words xs ys)

mutual
  place-count : (d : s.Definition) → length (place_words d) ≡ places_of d
  place-count (s.Rule pats body) = refl
  place-count (s.Place o a ds body) = omega (arith, places-count ds)

  places-count : (ds : s.Definitions) → length (all_place_words ds) ≡ places ds
  places-count s.no_definition = refl
  places-count (s.and_also d ds) = omega (
    arith,
    length-append-words (place_words d) (all_place_words ds),
    place-count d,
    places-count ds,
  )

-- what stands at an index of a list of words
abbrev pub nth : List Word → ℕ → Option Word
nth [] i = None
nth (w ∷ ws) zero = Some w
nth (w ∷ ws) (suc i) = nth ws i

nth-behind : (front : List Word) (w : Word) (back : List Word)
    → nth (front ++ w ∷ back) (length front) ≡ Some w
nth-behind [] w back = refl
nth-behind (x ∷ front) w back = nth-behind front w back

module _ (number : Binder → ℕ) where
  -- the numbers of a scope's names that have a binder
  abbrev pub number_if : Sort → ℕ → List ℕ
  number_if (Channel m at) n = n ∷ []
  number_if Location n = n ∷ []
  number_if (Observed m i) n = []
  number_if Parameter n = n ∷ []

  abbrev pub bound_at : ℕ → List Defining → List ℕ
  bound_at k [] = []
  bound_at k (d ∷ ds) = number_if d.1 (number (binder k d.0)) ++ bound_at k ds

  pub bound-append : (k : ℕ) (xs ys : List Defining)
      → bound_at k (xs ++ ys) ≡ bound_at k xs ++ bound_at k ys
  bound-append k [] ys = refl
  bound-append k (x ∷ xs) ys =
      let here = number_if x.1 (number (binder k x.0)) in
      ap (λ l. here ++ l) (bound-append k xs ys)
      ∙ sym (append_assoc here (bound_at k xs) (bound_at k ys))

  channels-block : (own k at : ℕ) (ps : List PatTree)
      → chem.channels_of (pats_of number own k ps) ≡ bound_at own (channels at ps)
  channels-block own k at [] = refl
  channels-block own k at (p ∷ ps) =
      ap (λ l. number (binder own p.on) ∷ l) (channels-block own k at ps)

  numbers-bound : (k : ℕ) (ws : List Word) → numbers number k ws ≡ bound_at k (parameters ws)
  numbers-bound k [] = refl
  numbers-bound k (w ∷ ws) = ap (λ l. number (binder k w) ∷ l) (numbers-bound k ws)

  pub numbers-append : (k : ℕ) (xs ys : List Word)
      → numbers number k (xs ++ ys) ≡ numbers number k xs ++ numbers number k ys
  numbers-append k [] ys = refl
  numbers-append k (x ∷ xs) ys = ap (λ l. number (binder k x) ∷ l) (numbers-append k xs ys)

  pub params-numbers : (own k : ℕ) (ps : List PatTree)
      → chem.params_of (pats_of number own k ps) ≡ numbers number k (params ps)
  params-numbers own k [] = refl
  params-numbers own k (p ∷ ps) = ap (λ l. numbers number k p.params ++ l) (params-numbers own k ps)
      ∙ sym (numbers-append k p.params (params ps))

  pub params-bound : (own k : ℕ) (ps : List PatTree)
      → chem.params_of (pats_of number own k ps) ≡ bound_at k (parameters (params ps))
  params-bound own k ps = params-numbers own k ps ∙ numbers-bound k (params ps)

  -- the location of this number in a block with these places
  abbrev pub placed : Option Word → ℕ → Option Ref
  placed None own = None
  placed (Some w) own = Some (ref.Binder (number (binder own w)))

  abbrev pub location : ℕ → List Word → ℕ → Option Ref
  location own ws zero = None
  location own ws (suc i) = placed (nth ws i) own

  -- the patterns of a term's block are these, each at its location
  abbrev pub Described : (own : ℕ) → (ℕ → Option Ref) → List Patterned → List (Option Ref × Pat)
      → Type 0
  Described own at [] [] = Unit {0}
  Described own at [] (y ∷ ys) = ⊥
  Described own at (x ∷ xs) [] = ⊥
  Described own at (x ∷ xs) (y ∷ ys) = (y.1.on ≡ ref.Binder (number (binder own x.word)))
      × (length y.1.params ≡ x.count) × (y.0 ≡ at x.at) × Described own at xs ys

  described-append :
      (own : ℕ) (at : ℕ → Option Ref) (xs xs' : List Patterned) (ys ys' : List (Option Ref × Pat))
      → Described own at xs ys → Described own at xs' ys' → Described own at (xs ++ xs') (ys ++ ys')
  described-append own at [] xs' [] ys' a b = b
  described-append own at [] xs' (y ∷ ys) ys' a b = absurd a
  described-append own at (x ∷ xs) xs' [] ys' a b = absurd a
  described-append own at (x ∷ xs) xs' (y ∷ ys) ys' a b =
      (a.0, a.1, a.2, described-append own at xs xs' ys ys' a.3 b)

  pats-described : (own k : ℕ) (at : ℕ → Option Ref) (here : Option Ref) (n : ℕ) (ps : List PatTree)
      → here ≡ at n → Described own at (pats_at n ps) (chem.at here (pats_of number own k ps))
  pats-described own k at here n [] e = tt
  pats-described own k at here n (p ∷ ps) e =
      (refl, length-numbers number k p.params, e, pats-described own k at here n ps e)

  abbrev Where : ℕ → List Word → ℕ → Option Ref
  Where own ws n = location own ws n

  pub channels-binders :
      (own : ℕ) (at : ℕ → Option Ref) (xs : List Patterned) (ys : List (Option Ref × Pat))
      → Described own at xs ys → Each (λ y. IsBinder y.1.on) ys
  channels-binders own at [] [] h = tt
  channels-binders own at [] (y ∷ ys) h = absurd h
  channels-binders own at (x ∷ xs) [] h = absurd h
  channels-binders own at (x ∷ xs) (y ∷ ys) h =
      (subst IsBinder (sym h.0) tt, channels-binders own at xs ys h.3)

  -- whatever may stand as an argument
  mutual
    one-block : (d : s.Definition) (own k at next : ℕ) (env : List Scope)
        → chem.defined (definition number own env k d) ≡ bound_at own (defining_one at next d)
    one-block (s.Rule pats body) own k at next env = channels-block own k at pats
    one-block (s.Place o a ds body) own k at next env =
        ap (λ l. number (binder own a) ∷ l) (level-block ds own k next (next + 1) env)

    pub level-block : (ds : s.Definitions) (own k at next : ℕ) (env : List Scope)
        → chem.block (t.definitions (level number own env k ds))
        ≡ bound_at own (defining at next ds)
    level-block s.no_definition own k at next env = refl
    level-block (s.and_also d ds) own k at next env =
        (λ i. one-block d own k at next env i
        ++ level-block ds own (k + scopes_in_def d) at (next + places_of d) env i)
        ∙ sym (bound-append own (defining_one at next d) (defining at (next + places_of d) ds))

  mutual
    place-numbers : (d : s.Definition) (own k : ℕ) (env : List Scope)
        → chem.place_of (definition number own env k d) ≡ numbers number own (place_words d)
    place-numbers (s.Rule pats body) own k env = refl
    place-numbers (s.Place o a ds body) own k env =
        ap (λ l. number (binder own a) ∷ l) (places-numbers ds own k env)

    pub places-numbers : (ds : s.Definitions) (own k : ℕ) (env : List Scope)
        → chem.places_of (t.definitions (level number own env k ds))
        ≡ numbers number own (all_place_words ds)
    places-numbers s.no_definition own k env = refl
    places-numbers (s.and_also d ds) own k env =
        (λ i. place-numbers d own k env i ++ places-numbers ds own (k + scopes_in_def d) env i)
        ∙ sym (numbers-append own (place_words d) (all_place_words ds))

  mutual
    one-described :
        (d : s.Definition) (own k : ℕ) (env : List Scope) (ws front back : List Word)
        (here : Option Ref) (n next : ℕ)
        → ws ≡ front ++ (place_words d ++ back) → next ≡ suc (length front)
        → here ≡ location own ws n
        → Described own (location own ws) (patterned n next d)
        (chem.patterns_in here (definition number own env k d))
    one-described (s.Rule pats body) own k env ws front back here n next e m h =
        pats-described own k (location own ws) here n pats h
    one-described (s.Place o a ds body) own k env ws front back here n next e m h =
        let is : nth ws (length front) ≡ Some a =
        ap (λ l. nth l (length front)) e ∙ nth-behind front a (all_place_words ds ++ back) in
        let at_place : Some (ref.Binder (number (binder own a))) ≡ location own ws next =
        sym (ap (location own ws) m ∙ ap (λ x. placed x own) is) in
        all-described ds own k env ws (front ++ a ∷ []) back
        (Some (ref.Binder (number (binder own a)))) next (next + 1)
        (e ∙ sym (append_assoc front (a ∷ []) (all_place_words ds ++ back)))
        (omega (arith, m, length-append-words front (a ∷ []))) at_place

    pub all-described :
        (ds : s.Definitions) (own k : ℕ) (env : List Scope) (ws front back : List Word)
        (here : Option Ref) (n next : ℕ)
        → ws ≡ front ++ (all_place_words ds ++ back) → next ≡ suc (length front)
        → here ≡ location own ws n
        → Described own (location own ws) (all_patterned n next ds)
        (chem.patterns_of here (t.definitions (level number own env k ds)))
    all-described s.no_definition own k env ws front back here n next e m h = tt
    all-described (s.and_also d ds) own k env ws front back here n next e m h =
        let x = place_words d in let y = all_place_words ds in
        let flat = e ∙ ap (λ l. front ++ l) (append_assoc x y back) in
        described-append own (location own ws) (patterned n next d)
        (all_patterned n (next + places_of d) ds)
        (chem.patterns_in here (definition number own env k d))
        (chem.patterns_of here (t.definitions (level number own env (k + scopes_in_def d) ds)))
        (one-described d own k env ws front (y ++ back) here n next flat m h)
        (all-described ds own (k + scopes_in_def d) env ws (front ++ x) back here n
        (next + places_of d) (flat ∙ sym (append_assoc front x (y ++ back)))
        (omega (arith, m, length-append-words front x, place-count d)) h)

  mutual
    one-named : (d : s.Definition) (own k : ℕ) (env : List Scope)
        → IsNamed (definition number own env k d)
    one-named (s.Rule pats body) own k env = tt
    one-named (s.Place o a ds body) own k env = (tt, all-named ds own k env)

    pub all-named : (ds : s.Definitions) (own k : ℕ) (env : List Scope)
        → AreNamed (t.definitions (level number own env k ds))
    all-named s.no_definition own k env = tt
    all-named (s.and_also d ds) own k env =
        (one-named d own k env, all-named ds own (k + scopes_in_def d) env)
