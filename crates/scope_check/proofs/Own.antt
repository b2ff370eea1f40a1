-- A block's own words stand in it, and a list of tables is read from its place on.
use Rattle.std.proofs.Common.{◌≡◌, ℕ, zero, suc, ◌+◌, Bool, true, false, cond, List, [], ◌∷◌, ◌++◌}
use Rattle.std.proofs.Common.{Option, Some, None, length, get_or, drop, refl, sym, ap, ◌∙◌, subst}
use Rattle.std.proofs.Common.{arith, append_assoc, append-nil}
use Rattle.std.specs.Str.{bytes_eq}
use Rattle.std.specs.Cmp.Lexicographic.{bytes_decides}
use Rattle.join_parse.specs.declared.word.Word.{Word}
use Rattle.join_parse.specs.declared.word.PatTree.{PatTree}
use Rattle.join_parse.specs.Source.{Definition, Rule, Place, Definitions, no_definition, and_also}
use Rattle.scope_names.specs.declared.scope.Sort.{Sort}
use Rattle.scope_names.specs.declared.scope.Sort.TheVariants.{Channel, Location, Parameter}
use Rattle.scope_check.specs.Blocks.{Defining, channels, params, parameters, defining, defining_one}
use Rattle.scope_check.specs.Blocks.{places_of, first_in}
use Rattle.scope_check.specs.Numbers.{Binder}
use Rattle.scope_check.specs.inside.Twin.{Table}
use Rattle.scope_check.proofs.Lists.{first-append, or_sort, parameters-append}
use Rattle.scope_check.proofs.Tables.{IsBinding, Defined, AllDefined, PatsDefined, OwnDefined}
use Rattle.scope_check.proofs.Tables.{AllOwnDefined}

pub drop-suc : (k : ℕ) (ts : List Table) (t : Table) (rest : List Table) → drop k ts ≡ t ∷ rest
    → drop (suc k) ts ≡ rest
drop-suc zero [] t rest e = absurd cc
drop-suc zero (x ∷ ts) t rest e = cc
drop-suc (suc k) [] t rest e = absurd cc
drop-suc (suc k) (x ∷ ts) t rest e = drop-suc k ts t rest e

pub after : (front : List Table) (k n : ℕ) (ts rest : List Table) → n ≡ k + length front
    → drop k ts ≡ front ++ rest → drop n ts ≡ rest
after [] k n ts rest e d = let same : k ≡ n = omega arith in subst (λ m. drop m ts ≡ rest) same d
after (x ∷ front) k n ts rest e d =
    after front (suc k) n ts rest (omega arith) (drop-suc k ts x (front ++ rest) d)

pub at_drop : (k : ℕ) (ts : List Table) (t : Table) (rest : List Table) → drop k ts ≡ t ∷ rest
    → get_or ts k [] ≡ t
at_drop zero [] t rest e = absurd cc
at_drop zero (x ∷ ts) t rest e = cc
at_drop (suc k) [] t rest e = absurd cc
at_drop (suc k) (x ∷ ts) t rest e = at_drop k ts t rest e

-- names that all have a binder
abbrev pub AllBinding : List Defining → Type 0
AllBinding [] = Unit {0}
AllBinding (d ∷ ds) = IsBinding d.1 × AllBinding ds

pub first-binding : (text : List ℕ) (names : List Defining) (s : Sort) → AllBinding names
    → first_in text names ≡ Some s → IsBinding s
first-binding text [] s h e = absurd cc
first-binding text (d ∷ ds) s h e = by (bytes_eq text d.0.text) (first-binding text ds s h.1) e
  where
    by : (b : Bool) → (first_in text ds ≡ Some s → IsBinding s)
        → cond b (Some d.1) (first_in text ds) ≡ Some s → IsBinding s
    by true ih q = let same : d.1 ≡ s = cc in subst IsBinding same h.0
    by false ih q = ih q

pub stands_in : (front back : List Defining) (d : Defining)
    → (s : Sort) × (first_in d.0.text (front ++ d ∷ back) ≡ Some s)
stands_in front back d = by (first_in d.0.text front) (first-append d.0.text front (d ∷ back))
  where
    by : (o : Option Sort)
        → first_in d.0.text (front ++ d ∷ back)
        ≡ or_sort o (cond (bytes_eq d.0.text d.0.text) (Some d.1) (first_in d.0.text back))
        → (s : Sort) × (first_in d.0.text (front ++ d ∷ back) ≡ Some s)
    by None e = (
      d.1,
      e
          ∙ ap (λ b. cond b (Some d.1) (first_in d.0.text back))
          ((bytes_decides d.0.text d.0.text).1 refl),
    )
    by (Some s) e = (s, e)

binding-append : (xs ys : List Defining) → AllBinding xs → AllBinding ys → AllBinding (xs ++ ys)
binding-append [] ys a b = b
binding-append (x ∷ xs) ys a b = (a.0, binding-append xs ys a.1 b)

channels-binding : (at : ℕ) (pats : List PatTree) → AllBinding (channels at pats)
channels-binding at [] = tt
channels-binding at (p ∷ ps) = (tt, channels-binding at ps)

pub parameters-binding : (ws : List Word) → AllBinding (parameters ws)
parameters-binding [] = tt
parameters-binding (w ∷ ws) = (tt, parameters-binding ws)

mutual
  one-binding : (d : Definition) (at next : ℕ) → AllBinding (defining_one at next d)
  one-binding (Rule pats body) at next = channels-binding at pats
  one-binding (Place o a ds body) at next = (tt, defining-binding ds next (next + 1))

  pub defining-binding : (ds : Definitions) (at next : ℕ) → AllBinding (defining at next ds)
  defining-binding no_definition at next = tt
  defining-binding (and_also d ds) at next =
      binding-append (defining_one at next d) (defining at (next + places_of d) ds)
      (one-binding d at next) (defining-binding ds at (next + places_of d))

module _ (number : Binder → ℕ) where
  -- each of these that has a binder is defined as one
  abbrev pub DefinesAll : List Defining → Type 0
  DefinesAll names = (front back : List Defining) (d : Defining) → names ≡ front ++ d ∷ back
      → IsBinding d.1 → Defined number names d.0

  words_in : (names : List Defining) → DefinesAll names
      → (ws : List Word) (front back : List Defining) → names ≡ front ++ (parameters ws ++ back)
      → AllDefined number names ws
  words_in names all [] front back e = tt
  words_in names all (w ∷ ws) front back e = (
    all front (parameters ws ++ back) (w, Parameter) e tt,
    words_in names all ws (front ++ (w, Parameter) ∷ []) back
        (e ∙ sym (append_assoc front ((w, Parameter) ∷ []) (parameters ws ++ back))),
  )

  -- so it is where there is no observed name
  pub binding-defines : (names : List Defining) → AllBinding names → DefinesAll names
  binding-defines names h front back d e b =
      let s = stands_in front back d in
      let is = ap (first_in d.0.text) e ∙ s.1 in
      (s.0, is, first-binding d.0.text names s.0 h is)

  pats_in_block : (names inner : List Defining) → DefinesAll names → DefinesAll inner
      → (at : ℕ) (ps : List PatTree) (front back before : List Defining)
      → names ≡ front ++ (channels at ps ++ back) → inner ≡ before ++ parameters (params ps)
      → PatsDefined number names inner ps
  pats_in_block names inner all also at [] front back before e f = tt
  pats_in_block names inner all also at (p ∷ ps) front back before e f =
      let d : Defining = (p.on, Channel (length p.params) at) in
      let split = f ∙ ap (λ l. before ++ l) (parameters-append p.params (params ps)) in (
        all front (channels at ps ++ back) d e tt,
        words_in inner also p.params before (parameters (params ps)) split,
        pats_in_block names inner all also at ps (front ++ d ∷ []) back
            (before ++ parameters p.params)
            (e ∙ sym (append_assoc front (d ∷ []) (channels at ps ++ back)))
            (split ∙ sym (append_assoc before (parameters p.params) (parameters (params ps)))),
      )

  mutual
    own_one : (d : Definition) (at next : ℕ) (names front back : List Defining) → DefinesAll names
        → names ≡ front ++ (defining_one at next d ++ back) → OwnDefined number names d
    own_one (Rule pats body) at next names front back all e =
        pats_in_block names (parameters (params pats)) all
        (binding-defines (parameters (params pats)) (parameters-binding (params pats))) at pats
        front back [] e refl
    own_one (Place o a ds body) at next names front back all e =
        let d : Defining = (a, Location) in (
          all front (defining next (next + 1) ds ++ back) d e tt,
          own_all ds next (next + 1) names (front ++ d ∷ []) back all
              (e ∙ sym (append_assoc front (d ∷ []) (defining next (next + 1) ds ++ back))),
        )

    pub own_all : (ds : Definitions) (at next : ℕ) (names front back : List Defining)
        → DefinesAll names → names ≡ front ++ (defining at next ds ++ back)
        → AllOwnDefined number names ds
    own_all no_definition at next names front back all e = tt
    own_all (and_also d ds) at next names front back all e =
        let x = defining_one at next d in let y = defining at (next + places_of d) ds in
        let flat = e ∙ ap (λ l. front ++ l) (append_assoc x y back) in (
          own_one d at next names front (y ++ back) all flat,
          own_all ds at (next + places_of d) names (front ++ x) back all
              (flat ∙ sym (append_assoc front x (y ++ back))),
        )

  pub own_block : (ds : Definitions) → AllOwnDefined number (defining 0 1 ds) ds
  own_block ds = own_all ds 0 1 (defining 0 1 ds) [] []
      (binding-defines (defining 0 1 ds) (defining-binding ds 0 1))
      (sym (append-nil (defining 0 1 ds)))
