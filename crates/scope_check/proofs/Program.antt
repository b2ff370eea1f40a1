-- A tree with no fault stands for a program.
use Rattle.std.proofs.Common.{◌≡◌, ℕ, zero, suc, ◌+◌, ◌<◌, ◌≤◌, ◌⊎◌, ◌↔◌, inl, inr, Bool, true}
use Rattle.std.proofs.Common.{false, cond, eqb, ◌||◌, ◌&&◌, List, [], ◌∷◌, ◌++◌, Option, Some, None}
use Rattle.std.proofs.Common.{length, drop, nat_lt, refl, sym, ap, ◌∙◌, subst, arith, append-nil}
use Rattle.std.specs.List.{list_any}
use Rattle.std.proofs.lemmas.Bool.{cases_Bool, or_cases, or_right}
use Rattle.join_parse.specs.declared.word.SeenTree.{SeenTree}
use Rattle.join_parse.specs.declared.tree.PlaceTree.{PlaceTree}
use Rattle.join_parse.specs.Source as s
use Rattle.join_parse.specs.Grammar as g
use Rattle.join_parse.specs.Grammar.{TreeOfText, sentence}
use Rattle.join_parse.specs.TreeFacts.{IsTree}
use Rattle.scope_names.specs.declared.scope.Sort.{Sort}
use Rattle.scope_names.specs.declared.scope.Sort.TheVariants.{Channel, Location, Observed}
use Rattle.scope_names.specs.declared.scope.Sort.TheVariants.{Parameter}
use Rattle.chem_model.specs.declared.name.Ref.TheVariants as ref
use Rattle.chem_model.specs.Each.{Each}
use Rattle.chem_model.specs.Process as t
use Rattle.chem_model.specs.Binders as chem
use Rattle.chem_model.specs.Binders.{is_among, once, bound_in_definitions, definition_nodes}
use Rattle.chem_model.specs.Scope.{AreRulesAndPlaces, IsBlock, AreDefinitions}
use Rattle.chem_model.specs.ProgramFacts.{IsProgram, IsDeclared, places, most_sites}
use Rattle.scope_check.specs.declared.fault.Fault.{Fault}
use Rattle.scope_check.specs.Order.{rank}
use Rattle.scope_check.specs.inside.Order.{sooner, first_of}
use Rattle.scope_check.specs.Blocks.{Defining, channels, defining, defining_one, block, place_of}
use Rattle.scope_check.specs.Blocks.{places_of, sites_of, observed_from, outermost, first_in, Scope}
use Rattle.scope_check.specs.Blocks.{open_at, scopes_in_def, scopes_in_defs}
use Rattle.scope_check.specs.Uses.{all_uses, definition_uses, level_uses, uses_of}
use Rattle.scope_check.proofs.FaultList.{use_faults, declared_faults, fault_list}
use Rattle.scope_check.specs.inside.FaultList.{clashes, processes_faults, definition_faults}
use Rattle.scope_check.specs.inside.FaultList.{level_faults, many}
use Rattle.scope_check.specs.Numbers.{Binder, binder, is_same, firsts_after, keys, observed}
use Rattle.scope_check.specs.Numbers.{site_names, all_binding, site_level, others, binders}
use Rattle.scope_check.specs.Numbers.{index_of, in_params, in_patterns, in_processes, in_definition}
use Rattle.scope_check.specs.Numbers.{in_definitions}
use Rattle.scope_check.specs.Stands.{together, members, level, site_terms, seen_decls, texts}
use Rattle.scope_check.specs.Stands.{program}
use Rattle.scope_check.proofs.Lists.{keys-append, none_left, none_right, any-append, or-false}
use Rattle.scope_check.proofs.Among.{among-here, among-cons, among-front, among-back}
use Rattle.scope_check.proofs.Counting.{Consecutive}
use Rattle.scope_check.proofs.Counted.{same-self, same-is}
use Rattle.scope_check.proofs.Steps.{key}
use Rattle.scope_check.proofs.Outside.{params-outside, processes-outside}
use Rattle.scope_check.proofs.Own.{AllBinding, defining-binding}
use Rattle.scope_check.proofs.Tables.{IsBinding}
use Rattle.scope_check.proofs.Uses.{faults-append}
use Rattle.join_parse.specs.declared.word.PatTree.{PatTree}
use Rattle.scope_check.proofs.Outermost.{numbers-site, length-texts, firsts-within}
use Rattle.scope_check.proofs.Size.{sentence-long}
use Rattle.scope_check.proofs.Sorts.{Has, has-left, has-right, Settled, settled, AllIn, in_front}
use Rattle.scope_check.proofs.Sorts.{in_back}
use Rattle.scope_check.proofs.TermBlock.{all_place_words, bound_at, bound-append, level-block}
use Rattle.scope_check.proofs.TermBlock.{number_if}
use Rattle.scope_check.proofs.BlockFacts.{locs, locs-append, locs-all, block-fine}
use Rattle.scope_check.proofs.Good.{EnvFine, names-append, observed-fine, defining-fine}
use Rattle.scope_check.proofs.Good.{levels-fine, bound_by, all-in, together-fine, members-term}
use Rattle.scope_check.proofs.Good.{level-term}
use Rattle.scope_check.proofs.Bound.{Within, within-both, block-within, level-within}

-- ---- no fault

if-some : (b : Bool) (f g : Fault) → (h : Fault) × (cond b (Some g) (Some f) ≡ Some h)
if-some true f g = (g, refl)
if-some false f g = (f, refl)

some-kept : (fs : List Fault) (f : Fault) (o : Option Fault) → o ≡ Some f → first_of o fs ≡ None → ⊥
some-kept [] f o q e = absurd cc
some-kept (g ∷ fs) f o q e =
    let k =
    if-some (nat_lt g.place f.place || (eqb g.place f.place && nat_lt (rank g.kind) (rank f.kind)))
    f g in
    some-kept fs k.0 (sooner o g) (ap (λ x. sooner x g) q ∙ k.1) e

pub no-fault : (fs : List Fault) → first_of None fs ≡ None → fs ≡ []
no-fault [] e = refl
no-fault (f ∷ fs) e = absurd (some-kept fs f (Some f) refl e)

-- ---- the sites as one definition

pub places-are : (number : Binder → ℕ) (xs : List PlaceTree) (env : List Scope) (k : ℕ)
    → places (site_terms number env k xs) ≡ t.definitions (level number 0 env k (sites_of xs))
places-are number [] env k = refl
places-are number (x ∷ xs) env k =
    ap (λ l. t.and_also (t.Place (ref.Binder (number (binder 0 x.name)))
    (t.definitions (level number 0 env k (s.definitions x.defs))) (together
    (members number env (k + scopes_in_defs (s.definitions x.defs)) (s.processes x.body)))) l)
    (places-are number xs env (k + scopes_in_def (place_of x)))

length-sites : (number : Binder → ℕ) (xs : List PlaceTree) (env : List Scope) (k : ℕ)
    → length (site_terms number env k xs) ≡ length xs
length-sites number [] env k = refl
length-sites number (x ∷ xs) env k =
    omega (arith, length-sites number xs env (k + scopes_in_def (place_of x)))

length-seen : (xs : List SeenTree) → length (seen_decls xs) ≡ length xs
length-seen [] = refl
length-seen (x ∷ xs) = omega (arith, length-seen xs)

some-site : (xs : List PlaceTree) → g.IsNotEmpty xs → 1 ≤ length xs
some-site [] h = absurd h
some-site (x ∷ xs) h = omega arith

few-sites : (limit : ℕ) (xs : List PlaceTree) → many (drop limit xs) ≡ [] → length xs ≤ limit
few-sites zero [] e = omega arith
few-sites zero (x ∷ xs) e = absurd cc
few-sites (suc limit) [] e = omega arith
few-sites (suc limit) (x ∷ xs) e = omega (arith, few-sites limit xs e)

sites-levels :
    (second : Bool) (number : Binder → ℕ) (xs : List PlaceTree) (env : List Scope) (k : ℕ)
    → g.AreSites second xs
    → Each (λ x. AreRulesAndPlaces (t.definitions x.defs)) (site_terms number env k xs)
sites-levels second number [] env k h = tt
sites-levels second number (x ∷ xs) env k h = (
  levels-fine second number (s.definitions x.defs) 0 env k h.0,
  sites-levels second number xs env (k + scopes_in_def (place_of x)) h.2,
)

seen-counts : (xs : List SeenTree) → g.AreDeclarations xs
    → Each (λ d. d.count ≤ 255) (seen_decls xs)
seen-counts [] h = tt
seen-counts (x ∷ xs) h = (h.0, seen-counts xs h.1)

-- ---- members

member-first : (x : Binder) (zs before : List Binder) → list_any (is_same x) zs ≡ true
    → (list_any (is_same x) before ≡ true) ⊎ (list_any (is_same x) (firsts_after before zs) ≡ true)
member-first x [] before e = absurd cc
member-first x (z ∷ zs) before e = by (is_same x z) refl e (member-first x zs (before ++ z ∷ []))
  where
    back : (list_any (is_same x) (before ++ z ∷ []) ≡ true)
        → (list_any (is_same x) before ≡ true) ⊎ (is_same x z ≡ true)
    back q = elim (or_cases (list_any (is_same x) before) (list_any (is_same x) (z ∷ []))
        (sym (any-append (is_same x) before (z ∷ []))
        ∙ q)) [ inl a ↦ inl a | inr b ↦ inr (sym (or-false (is_same x z)) ∙ b) ]

    later : (v : Bool) → (list_any (is_same x) (firsts_after (before ++ z ∷ []) zs) ≡ true)
        → list_any (is_same x)
        (cond v (firsts_after (before ++ z ∷ []) zs) (z ∷ firsts_after (before ++ z ∷ []) zs))
        ≡ true
    later true q = q
    later false q =
        or_right (is_same x z) (list_any (is_same x) (firsts_after (before ++ z ∷ []) zs)) q

    now : is_same x z ≡ true
        → (list_any (is_same x) before ≡ true)
        ⊎ (list_any (is_same x) (cond (list_any (is_same z) before)
        (firsts_after (before ++ z ∷ []) zs) (z ∷ firsts_after (before ++ z ∷ []) zs)) ≡ true)
    now q = here (list_any (is_same z) before) refl
      where
        here : (v : Bool) → list_any (is_same z) before ≡ v
            → (list_any (is_same x) before ≡ true)
            ⊎ (list_any (is_same x)
            (cond v (firsts_after (before ++ z ∷ []) zs) (z ∷ firsts_after (before ++ z ∷ []) zs))
            ≡ true)
        here true r = inl (ap (λ y. list_any (is_same y) before) (same-is x z q) ∙ r)
        here false r =
            inr (ap (λ b. b || list_any (is_same x) (firsts_after (before ++ z ∷ []) zs)) q)

    by : (v : Bool) → is_same x z ≡ v → (v || list_any (is_same x) zs) ≡ true
        → (list_any (is_same x) zs ≡ true
        → (list_any (is_same x) (before ++ z ∷ []) ≡ true)
        ⊎ (list_any (is_same x) (firsts_after (before ++ z ∷ []) zs) ≡ true))
        → (list_any (is_same x) before ≡ true)
        ⊎ (list_any (is_same x) (firsts_after before (z ∷ zs)) ≡ true)
    by true q r ih = now q
    by false q r ih = elim (ih r) [
      | inl a ↦ elim (back a) [ inl c ↦ inl c | inr c ↦ now c ]
      | inr b ↦ inr (later (list_any (is_same z) before) b)
    ]

all-in-from : (bs zs : List Binder)
    → ((x : Binder) → list_any (is_same x) zs ≡ true → list_any (is_same x) bs ≡ true) → AllIn bs zs
all-in-from bs [] h = tt
all-in-from bs (z ∷ zs) h = (
  h z (ap (λ b. b || list_any (is_same z) zs) (same-self z)),
  all-in-from bs zs (λ x q. h x (or_right (is_same x z) (list_any (is_same x) zs) q)),
)

any-left : (x : Binder) (xs ys : List Binder) → list_any (is_same x) xs ≡ true
    → list_any (is_same x) (xs ++ ys) ≡ true
any-left x xs ys e = any-append (is_same x) xs ys ∙ ap (λ b. b || list_any (is_same x) ys) e

any-right : (x : Binder) (xs ys : List Binder) → list_any (is_same x) ys ≡ true
    → list_any (is_same x) (xs ++ ys) ≡ true
any-right x xs ys e =
    any-append (is_same x) xs ys ∙ or_right (list_any (is_same x) xs) (list_any (is_same x) ys) e

-- a binder of a list of names is one of the names
key-of : (k : ℕ) (ds : List Defining) (x : Binder) → list_any (is_same x) (keys k ds) ≡ true
    → (d : Defining) × Has d.0.text d.1 ds × (x ≡ binder k d.0)
key-of k [] x e = absurd cc
key-of k (d ∷ ds) x e = by (is_same x (binder k d.0)) refl e (key-of k ds x)
  where
    by : (v : Bool) → is_same x (binder k d.0) ≡ v → (v || list_any (is_same x) (keys k ds)) ≡ true
        → (list_any (is_same x) (keys k ds) ≡ true
        → (c : Defining) × Has c.0.text c.1 ds × (x ≡ binder k c.0))
        → (c : Defining) × Has c.0.text c.1 (d ∷ ds) × (x ≡ binder k c.0)
    by true q r ih = (d, inl (refl, refl), same-is x (binder k d.0) q)
    by false q r ih = let i = ih r in (i.0, inr i.1, i.2)

-- ---- the binders of the sites' own scope

zero-patterns : (ps : List PatTree) (k at : ℕ) (text : List ℕ) → 1 ≤ k
    → list_any (is_same (key 0 text)) (in_patterns 0 k ps)
    ≡ list_any (is_same (key 0 text)) (keys 0 (channels at ps))
zero-patterns [] k at text h = refl
zero-patterns (p ∷ ps) k at text h =
    ap (λ b. is_same (key 0 text) (binder 0 p.on) || b)
    (any-append (is_same (key 0 text)) (in_params k p.params) (in_patterns 0 k ps)
    ∙ (λ i. params-outside p.params 0 k (λ e. omega (arith, h, e)) text i
    || zero-patterns ps k at text h i))

mutual
  zero-one : (d : s.Definition) (k at next : ℕ) (text : List ℕ) → 1 ≤ k
      → list_any (is_same (key 0 text)) (in_definition 0 k d)
      ≡ list_any (is_same (key 0 text)) (keys 0 (defining_one at next d))
  zero-one (s.Rule pats body) k at next text h =
      any-append (is_same (key 0 text)) (in_patterns 0 k pats) (in_processes (k + 1) body)
      ∙ (λ i. zero-patterns pats k at text h i
      || processes-outside body 0 (k + 1) (inl (omega arith)) text i)
      ∙ or-false (list_any (is_same (key 0 text)) (keys 0 (channels at pats)))
  zero-one (s.Place o a ds body) k at next text h =
      ap (λ b. is_same (key 0 text) (binder 0 a) || b)
      (any-append (is_same (key 0 text)) (in_definitions 0 k ds)
      (in_processes (k + scopes_in_defs ds) body)
      ∙ (λ i. zero-all ds k next (next + 1) text h i
      || processes-outside body 0 (k + scopes_in_defs ds) (inl (omega arith)) text i)
      ∙ or-false (list_any (is_same (key 0 text)) (keys 0 (defining next (next + 1) ds))))

  zero-all : (ds : s.Definitions) (k at next : ℕ) (text : List ℕ) → 1 ≤ k
      → list_any (is_same (key 0 text)) (in_definitions 0 k ds)
      ≡ list_any (is_same (key 0 text)) (keys 0 (defining at next ds))
  zero-all s.no_definition k at next text h = refl
  zero-all (s.and_also d ds) k at next text h =
      any-append (is_same (key 0 text)) (in_definition 0 k d)
      (in_definitions 0 (k + scopes_in_def d) ds)
      ∙ (λ i. zero-one d k at next text h i
      || zero-all ds (k + scopes_in_def d) at (next + places_of d) text (omega arith) i)
      ∙ sym (ap (list_any (is_same (key 0 text)))
      (keys-append 0 (defining_one at next d) (defining at (next + places_of d) ds))
      ∙ any-append (is_same (key 0 text)) (keys 0 (defining_one at next d))
      (keys 0 (defining at (next + places_of d) ds)))

-- ---- no site defines an observed name

has-binding : (text : List ℕ) (sort : Sort) (ds : List Defining) → AllBinding ds → Has text sort ds
    → IsBinding sort
has-binding text sort [] a h = absurd h
has-binding text sort (d ∷ ds) a (inl e) = subst IsBinding (sym e.1) a.0
has-binding text sort (d ∷ ds) a (inr h) = has-binding text sort ds a.1 h

has-observed : (text : List ℕ) (sort : Sort) (ss : List SeenTree) (i : ℕ)
    → Has text sort (observed_from i ss) → IsBinding sort → ⊥
has-observed text sort [] i h b = absurd h
has-observed text sort (x ∷ ss) i (inl e) b = subst IsBinding e.1 b
has-observed text sort (x ∷ ss) i (inr h) b = has-observed text sort ss (i + 1) h b

not-both : (t : TreeOfText) → Settled (outermost t) → (x : Binder)
    → list_any (is_same x) (observed t) ≡ true → list_any (is_same x) (site_names t) ≡ true → ⊥
not-both t fixed x e f =
    let a = key-of 0 (observed_from 0 t.seen) x e in
    let b = key-of 0 (block (sites_of t.sites)) x f in
    let text : a.0.0.text ≡ b.0.0.text = ap (λ (z : Binder). z.text) (sym a.2 ∙ b.2) in
    let p : first_in a.0.0.text (outermost t) ≡ Some a.0.1 =
    fixed a.0.0.text a.0.1
    (has-left a.0.0.text a.0.1 (observed_from 0 t.seen) (block (sites_of t.sites)) a.1) in
    let q : first_in b.0.0.text (outermost t) ≡ Some b.0.1 =
    fixed b.0.0.text b.0.1
    (has-right b.0.0.text b.0.1 (observed_from 0 t.seen) (block (sites_of t.sites)) b.1) in
    let some : Some b.0.1 ≡ Some a.0.1 =
    sym q ∙ ap (λ z. first_in z (outermost t)) (sym text) ∙ p in
    let same : b.0.1 ≡ a.0.1 = cc in
    has-observed a.0.0.text a.0.1 t.seen 0
    a.1 (subst IsBinding same (has-binding b.0.0.text b.0.1 (block (sites_of t.sites))
    (defining-binding (sites_of t.sites) 0 1) b.1))

named-site : (t : TreeOfText) → Settled (outermost t) → (x : Binder)
    → list_any (is_same x) (site_names t) ≡ true → list_any (is_same x) (site_level t) ≡ true
named-site t fixed x e = elim (member-first x (site_names t) (observed t)
    e) [ inl o ↦ absurd (not-both t fixed x o e) | inr h ↦ h ]

bound-in-sites : (t : TreeOfText) (x : Binder) → list_any (is_same x) (all_binding t) ≡ true
    → list_any (is_same x) (observed t) ≡ true → list_any (is_same x) (site_names t) ≡ true
bound-in-sites t x e o =
    let d = key-of 0 (observed_from 0 t.seen) x o in
    subst (λ z. list_any (is_same z) (site_names t) ≡ true) (sym d.2)
    (sym (zero-all (sites_of t.sites) 1 0 1 d.0.0.text (omega arith))
    ∙ subst (λ z. list_any (is_same z) (all_binding t) ≡ true) d.2 e)

pub all-inside : (t : TreeOfText) → Settled (outermost t) → AllIn (binders t) (all_binding t)
all-inside t fixed = all-in-from (binders t) (all_binding t)
    (λ x e. elim (member-first x (all_binding t) (observed t ++ site_names t) e) [
      | inl a ↦ any-left x (site_level t) (others t) (named-site t fixed x
          (elim (or_cases (list_any (is_same x) (observed t)) (list_any (is_same x) (site_names t))
          (sym (any-append (is_same x) (observed t) (site_names t)) ∙ a)) [
            | inl o ↦ bound-in-sites t x e o
            | inr n ↦ n
          ]))
      | inr b ↦ any-right x (site_level t) (others t) b
    ])

-- ---- the first numbers

index-in-front : (xs ys : List Binder) (x : Binder) → list_any (is_same x) xs ≡ true
    → index_of (xs ++ ys) x < length xs
index-in-front [] ys x e = absurd cc
index-in-front (c ∷ xs) ys x e = by (is_same x c) e (index-in-front xs ys x)
  where
    by : (v : Bool) → (v || list_any (is_same x) xs) ≡ true
        → (list_any (is_same x) xs ≡ true → index_of (xs ++ ys) x < length xs)
        → cond v 0 (1 + index_of (xs ++ ys) x) < length (c ∷ xs)
    by true r ih = omega arith
    by false r ih = omega (arith, ih r)

index-below : (xs : List Binder) (x : Binder) → list_any (is_same x) xs ≡ true
    → index_of xs x < length xs
index-below xs x e =
    subst (λ l. index_of l x < length xs) (append-nil xs) (index-in-front xs [] x e)

record Numbered (number : Binder → ℕ) (xs : List Binder) (n : ℕ) : Type 0 where
  which : Binder
  there : list_any (is_same which) xs ≡ true
  is : number which ≡ n

numbered-at : (number : Binder → ℕ) (xs : List Binder) (n b : ℕ) → Consecutive number n xs
    → b < length xs → Numbered number xs (n + b)
numbered-at number [] n b c h = absurd (omega arith)
numbered-at number (x ∷ xs) n zero c h = record {
  which = x;
  there = ap (λ b. b || list_any (is_same x) xs) (same-self x);
  is = c.0 ∙ omega arith;
}
numbered-at number (x ∷ xs) n (suc b) c h =
    let r = numbered-at number xs (n + 1) b c.1 (omega arith) in
    record {
      which = r.which;
      there = or_right (is_same r.which x) (list_any (is_same r.which) xs) r.there;
      is = r.is ∙ omega arith;
    }

has-bound : (number : Binder → ℕ) (k : ℕ) (ds : List Defining) (text : List ℕ) (sort : Sort)
    → AllBinding ds → Has text sort ds
    → is_among (bound_at number k ds) (number (record { scope = k; text = text })) ≡ true
has-bound number k [] text sort a h = absurd h
has-bound number k (d ∷ ds) text sort a (inr h) =
    among-back (number_if number d.1 (number (binder k d.0))) (bound_at number k ds)
    (number (record { scope = k; text = text })) (has-bound number k ds text sort a.1 h)
has-bound number k (d ∷ ds) text sort a (inl e) =
    among-front (number_if number d.1 (number (binder k d.0))) (bound_at number k ds)
    (number (record { scope = k; text = text }))
    (subst (λ z. is_among (number_if number d.1 (number (binder k d.0)))
    (number (record { scope = k; text = z })) ≡ true) (sym e.0) (by d.1 a.0))
  where
    by : (x : Sort) → IsBinding x
        → is_among (number_if number x (number (binder k d.0))) (number (binder k d.0)) ≡ true
    by (Channel m at) h = among-here [] (number (binder k d.0))
    by Location h = among-here [] (number (binder k d.0))
    by (Observed m i) h = absurd h
    by Parameter h = among-here [] (number (binder k d.0))

among-key : (number : Binder → ℕ) (k : ℕ) (ds : List Defining) (b : ℕ)
    → is_among (bound_at number k ds) b ≡ true → Numbered number (keys k ds) b
among-key number k [] b e = absurd cc
among-key number k (d ∷ ds) b e = by d.1 e (among-key number k ds b)
  where
    more : Numbered number (keys k ds) b → Numbered number (keys k (d ∷ ds)) b
    more r = record {
      which = r.which;
      there = or_right (is_same r.which (binder k d.0)) (list_any (is_same r.which) (keys k ds))
          r.there;
      is = r.is;
    }

    one : is_among (number (binder k d.0) ∷ bound_at number k ds) b ≡ true
        → (is_among (bound_at number k ds) b ≡ true → Numbered number (keys k ds) b)
        → Numbered number (keys k (d ∷ ds)) b
    one q ih = elim (among-cons (number (binder k d.0)) (bound_at number k ds) b q) [
      | inl h ↦ record {
        which = binder k d.0;
        there =
            ap (λ v. v || list_any (is_same (binder k d.0)) (keys k ds)) (same-self (binder k d.0));
        is = h;
      }
      | inr h ↦ more (ih h)
    ]

    by : (x : Sort)
        → is_among (number_if number x (number (binder k d.0)) ++ bound_at number k ds) b ≡ true
        → (is_among (bound_at number k ds) b ≡ true → Numbered number (keys k ds) b)
        → Numbered number (keys k (d ∷ ds)) b
    by (Channel m at) q ih = one q ih
    by Location q ih = one q ih
    by (Observed m i) q ih = more (ih q)
    by Parameter q ih = one q ih

site-number : (t : TreeOfText) → Settled (outermost t) → (b : ℕ) → (b < length (site_level t))
    ↔ (is_among (bound_at (index_of (binders t)) 0 (block (sites_of t.sites))) b ≡ true)
site-number t fixed b = (there, back)
  where
    there : b < length (site_level t)
        → is_among (bound_at (index_of (binders t)) 0 (block (sites_of t.sites))) b ≡ true
    there h =
        let n = numbered-at (index_of (binders t)) (site_level t) 0 b (numbers-site t) h in
        let site : list_any (is_same n.which) (site_names t) ≡ true =
        elim (cases_Bool (list_any (is_same n.which) (site_names t))) [
          | inl y ↦ y
          | inr z ↦ absurd
              (let w = firsts-within (site_names t) (observed t) n.which z in let v = n.there in cc)
        ] in
        let d = key-of 0 (block (sites_of t.sites)) n.which site in
        let is : index_of (binders t) (binder 0 d.0.0) ≡ b =
        ap (index_of (binders t)) (sym d.2) ∙ n.is ∙ omega arith in
        subst
        (λ z. is_among (bound_at (index_of (binders t)) 0 (block (sites_of t.sites))) z ≡ true) is
        (has-bound (index_of (binders t)) 0 (block (sites_of t.sites))
        d.0.0.text d.0.1 (defining-binding (sites_of t.sites) 0 1) d.1)

    back : is_among (bound_at (index_of (binders t)) 0 (block (sites_of t.sites))) b ≡ true
        → b < length (site_level t)
    back h =
        let n = among-key (index_of (binders t)) 0 (block (sites_of t.sites)) b h in
        subst (λ z. z < length (site_level t))
        n.is (index-in-front (site_level t) (others t) n.which (named-site t fixed n.which n.there))

-- ---- the whole

locs-observed : (ss : List SeenTree) (i : ℕ) → locs (observed_from i ss) ≡ []
locs-observed [] i = refl
locs-observed (x ∷ ss) i = locs-observed ss (i + 1)

bound-observed : (number : Binder → ℕ) (ss : List SeenTree) (i k : ℕ)
    → bound_at number k (observed_from i ss) ≡ []
bound-observed number [] i k = refl
bound-observed number (x ∷ ss) i k = bound-observed number ss (i + 1) k

-- sites are definitions in the outermost scope
sites-term : (bs : List Binder) (seen version : ℕ) (xs : List PlaceTree) (env : List Scope) (k : ℕ)
    → EnvFine seen env → g.AreSites (g.is_second version) xs → level_faults (sites_of xs) ≡ []
    → use_faults (level_uses env k (sites_of xs)) ≡ [] → AllIn bs (in_definitions 0 k (sites_of xs))
    → AreDefinitions (IsDeclared version seen) (bound_by bs seen env)
    (t.definitions (level (index_of bs) 0 env k (sites_of xs)))
sites-term bs seen version [] env k fine gr d u i = tt
sites-term bs seen version (x ∷ xs) env k fine gr d u i =
    let ds = s.definitions x.defs in
    let ps = s.processes x.body in
    let n = scopes_in_defs ds in
    let u1 = sym (faults-append (definition_uses env k (place_of x))
    (level_uses env (k + scopes_in_def (place_of x)) (sites_of xs))) ∙ u in
    let u2 =
    sym (faults-append (level_uses env k ds) (all_uses env (k + n) ps)) ∙ none_left _ _ u1 in
    let d1 = none_left (definition_faults (place_of x)) (level_faults (sites_of xs)) d in
    let i1 = in_front bs (in_definition 0 k (place_of x))
    (in_definitions 0 (k + scopes_in_def (place_of x)) (sites_of xs)) i in (
      (
        level-term bs seen version ds 0 env k false fine
            gr.0 (none_left (level_faults ds) (processes_faults ps) d1) (none_left _ _ u2)
            (in_front bs (in_definitions 0 k ds) (in_processes (k + n) ps) i1.1),
        together-fine bs seen version (bound_by bs seen env) (members (index_of bs) env (k + n) ps)
            (members-term bs seen version ps env (k + n) fine
            gr.1 (none_right (level_faults ds) (processes_faults ps) d1)
            (none_right (use_faults (level_uses env k ds)) _ u2)
            (in_back bs (in_definitions 0 k ds) (in_processes (k + n) ps) i1.1)),
      ),
      sites-term bs seen version xs env (k + scopes_in_def (place_of x)) fine
          gr.2 (none_right (definition_faults (place_of x)) (level_faults (sites_of xs)) d)
          (none_right (use_faults (definition_uses env k (place_of x))) _ u1)
          (in_back bs (in_definition 0 k (place_of x))
          (in_definitions 0 (k + scopes_in_def (place_of x)) (sites_of xs)) i),
    )

pub program-kept : (x : TreeOfText) → IsTree x → fault_list x ≡ [] → IsProgram (program x)
program-kept x tree none =
    let bs = binders x in
    let number : Binder → ℕ = index_of bs in
    let seen = observed_from 0 x.seen in
    let names = block (sites_of x.sites) in
    let env = open_at 0 (outermost x) [] in
    let count = length x.seen in
    let rest = none_right (many (drop (most_sites x.version) x.sites))
    (declared_faults x ++ use_faults (uses_of x)) none in
    let declared = none_left (declared_faults x) (use_faults (uses_of x)) rest in
    let clear : clashes [] (outermost x) ≡ [] =
    none_left (clashes [] (outermost x)) (level_faults (sites_of x.sites)) declared in
    let within : level_faults (sites_of x.sites) ≡ [] =
    none_right (clashes [] (outermost x)) (level_faults (sites_of x.sites)) declared in
    let used : use_faults (uses_of x) ≡ [] =
    none_right (declared_faults x) (use_faults (uses_of x)) rest in
    let fixed : Settled (outermost x) = settled (outermost x) clear in
    let inside : AllIn bs (all_binding x) = all-inside x fixed in
    let own : AllIn bs (keys 0 names) = all-in bs count (sites_of x.sites) 0 1 0 1 inside in
    let term = t.definitions (level number 0 env 1 (sites_of x.sites)) in
    let is : places (site_terms number env 1 x.sites) ≡ term = places-are number x.sites env 1 in
    let block_is : chem.block term ≡ bound_at number 0 names =
    level-block number (sites_of x.sites) 0 1 0 1 env in
    let scope_is : bound_by bs count env ≡ chem.block term =
    append-nil (bound_at number 0 (outermost x)) ∙ bound-append number 0 seen names
    ∙ ap (λ l. l ++ bound_at number 0 names) (bound-observed number x.seen 0 0) ∙ sym block_is in
    let only : locs (outermost x) ≡ all_place_words (sites_of x.sites) =
    locs-append seen names ∙ ap (λ l. l ++ locs names) (locs-observed x.seen 0)
    ∙ locs-all (sites_of x.sites) 0 1 in
    let fine : EnvFine count env = (
      names-append count seen names (observed-fine x.seen 0 count (omega arith))
          (defining-fine count (sites_of x.sites) 0 1),
      tt,
    ) in
    let bounds : (b : ℕ)
    → Within bs count (once (chem.block term) b + bound_in_definitions term b) b 0
    (1 + scopes_in_defs (sites_of x.sites)) = λ b.
    within-both bs count (once (chem.block term) b) (bound_in_definitions term b) b 0 1
    (scopes_in_defs (sites_of x.sites))
    (subst (λ l. Within bs count (once l b) b 0 1) (sym block_is)
    (block-within bs count 0 names b own))
    (level-within bs count (sites_of x.sites) 0 env 1 b within inside) in
    record {
      version = tree.grammatical.version;
      some_site = omega
          (arith, some-site x.sites tree.grammatical.some_site, length-sites number x.sites env 1);
      few_sites = omega (
        arith,
        few-sites (most_sites x.version)
            x.sites (none_left (many (drop (most_sites x.version) x.sites))
            (declared_faults x ++ use_faults (uses_of x)) none),
        length-sites number x.sites env 1,
      );
      small = subst (λ d. definition_nodes d ≤ 1048576) (sym is) (omega (
        arith,
        sentence-long number (g.is_second x.version) g.nowhere x env 1 tree.grammatical.sites,
        tree.few,
      ));
      spelled = λ b.
          subst (λ d. 0 < once (chem.block d) b + bound_in_definitions d b → b < length (texts bs))
          (sym is)
          (λ some. let h = (bounds b).1 some in let low = index-below bs h.which h.there in
          omega (arith, low, h.is, length-texts bs));
      bound_once = λ b.
          subst (λ d. once (chem.block d) b + bound_in_definitions d b ≤ 1) (sym is) (bounds b).0;
      site_level =
          λ b. subst (λ d. (b < length (site_level x)) ↔ (is_among (chem.block d) b ≡ true))
          (sym is) (subst (λ l. (b < length (site_level x)) ↔ (is_among l b ≡ true)) (sym block_is)
          (site-number x fixed b));
      one_block = subst IsBlock (sym is) (block-fine bs (sites_of x.sites) 0 1 env (outermost x)
          seen [] (ap (λ l. seen ++ l) (sym (append-nil names))) clear only own);
      levels = sites-levels (g.is_second x.version) number x.sites env 1 tree.grammatical.sites;
      terms = subst
          (λ d. AreDefinitions (IsDeclared x.version (length (seen_decls x.seen))) (chem.block d) d)
          (sym is)
          (subst (λ n. AreDefinitions (IsDeclared x.version n) (chem.block term) term)
          (sym (length-seen x.seen))
          (subst (λ l. AreDefinitions (IsDeclared x.version count) l term) scope_is (sites-term bs
          count x.version x.sites env 1 fine tree.grammatical.sites within used inside)));
      counts = seen-counts x.seen tree.grammatical.seen;
    }
