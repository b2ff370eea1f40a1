-- The block of a term without a clash keeps what a program's blocks keep.
use Rattle.std.proofs.Common.{◌≡◌, ℕ, ◌+◌, ◌≤◌, inl, inr, Bool, true, false, cond, ◌||◌, List, []}
use Rattle.std.proofs.Common.{◌∷◌, ◌++◌, Option, Some, None, length, refl, sym, ap, ◌∙◌, subst}
use Rattle.std.proofs.Common.{arith, append_assoc, append-nil}
use Rattle.std.specs.List.{AllPairs, list_any}
use Rattle.std.proofs.lemmas.Bool.{cases_Bool}
use Rattle.std.specs.Str.{bytes_eq}
use Rattle.join_base.specs.declared.fault.Kind.TheVariants.{Scope3}
use Rattle.join_parse.specs.declared.word.Word.{Word}
use Rattle.join_parse.specs.declared.word.PatTree.{PatTree}
use Rattle.join_parse.specs.Source as s
use Rattle.scope_names.specs.declared.scope.Sort.{Sort}
use Rattle.scope_names.specs.declared.scope.Sort.TheVariants.{Channel, Location, Observed}
use Rattle.scope_names.specs.declared.scope.Sort.TheVariants.{Parameter}
use Rattle.chem_model.specs.declared.name.Ref.{Ref}
use Rattle.chem_model.specs.declared.name.Ref.TheVariants as ref
use Rattle.chem_model.specs.declared.name.Pat.{Pat}
use Rattle.chem_model.specs.Each.{Each}
use Rattle.chem_model.specs.Process as t
use Rattle.chem_model.specs.Binders as chem
use Rattle.chem_model.specs.Binders.{is_among, times}
use Rattle.chem_model.specs.Scope.{Agree, IsBlock}
use Rattle.scope_check.specs.Blocks.{Defining, channels, defining, defining_one, places_of}
use Rattle.scope_check.specs.Blocks.{first_in, Scope}
use Rattle.scope_check.specs.inside.FaultList.{clash_if, clashes, is_spelled_in, repeated_if}
use Rattle.scope_check.specs.inside.FaultList.{repeats}
use Rattle.scope_check.specs.Numbers.{Binder, binder, is_same, keys, in_params, index_of}
use Rattle.scope_check.specs.Stands.{numbers, level}
use Rattle.scope_check.proofs.Lists.{none_left, none_right}
use Rattle.scope_check.proofs.Among.{among-cons}
use Rattle.scope_check.proofs.Sorts.{Has, has-left, has-right, Settled, settled, AllIn, tells}
use Rattle.scope_check.proofs.Sorts.{once-each}
use Rattle.scope_check.proofs.TermBlock.{pairs-nil, pairs-cons, Patterned, all_patterned}
use Rattle.scope_check.proofs.TermBlock.{place_words, all_place_words, HasAll, all-has, HasPlaces}
use Rattle.scope_check.proofs.TermBlock.{all-places, location, Described, all-described, all-named}
use Rattle.scope_check.proofs.TermBlock.{channels-binders, places-numbers}

-- ---- the locations of a block stand once

abbrev pub loc_if : Sort → Word → List Word
loc_if (Channel m at) w = []
loc_if Location w = w ∷ []
loc_if (Observed m i) w = []
loc_if Parameter w = []

abbrev pub locs : List Defining → List Word
locs [] = []
locs (d ∷ ds) = loc_if d.1 d.0 ++ locs ds

pub locs-append : (xs ys : List Defining) → locs (xs ++ ys) ≡ locs xs ++ locs ys
locs-append [] ys = refl
locs-append (x ∷ xs) ys = ap (λ l. loc_if x.1 x.0 ++ l) (locs-append xs ys)
    ∙ sym (append_assoc (loc_if x.1 x.0) (locs xs) (locs ys))

locs-channels : (at : ℕ) (ps : List PatTree) → locs (channels at ps) ≡ []
locs-channels at [] = refl
locs-channels at (p ∷ ps) = locs-channels at ps

mutual
  locs-one : (d : s.Definition) (at next : ℕ) → locs (defining_one at next d) ≡ place_words d
  locs-one (s.Rule pats body) at next = locs-channels at pats
  locs-one (s.Place o a ds body) at next = ap (λ l. a ∷ l) (locs-all ds next (next + 1))

  pub locs-all : (ds : s.Definitions) (at next : ℕ)
      → locs (defining at next ds) ≡ all_place_words ds
  locs-all s.no_definition at next = refl
  locs-all (s.and_also d ds) at next =
      locs-append (defining_one at next d) (defining at (next + places_of d) ds)
      ∙ (λ i. locs-one d at next i ++ locs-all ds at (next + places_of d) i)

-- what is first defined nowhere is no location
not-located : (text : List ℕ) (before : List Defining) → first_in text before ≡ None
    → is_spelled_in text (locs before) ≡ false
not-located text [] e = refl
not-located text (d ∷ ds) e = by (bytes_eq text d.0.text) d.1 refl (not-located text ds) e
  where
    by : (b : Bool) (s : Sort) → bytes_eq text d.0.text ≡ b
        → (first_in text ds ≡ None → is_spelled_in text (locs ds) ≡ false)
        → cond b (Some d.1) (first_in text ds) ≡ None
        → is_spelled_in text (loc_if s d.0 ++ locs ds) ≡ false
    by true s q ih r = absurd cc
    by false (Channel m at) q ih r = ih r
    by false Location q ih r = ap (λ b. b || is_spelled_in text (locs ds)) q ∙ ih r
    by false (Observed m i) q ih r = ih r
    by false Parameter q ih r = ih r

location-first : (o : Option Sort) (w : Word) → clash_if o w Location ≡ [] → o ≡ None
location-first None w e = refl
location-first (Some (Channel m at)) w e = absurd cc
location-first (Some Location) w e = absurd cc
location-first (Some (Observed m i)) w e = absurd cc
location-first (Some Parameter) w e = absurd cc

locations-once : (before names : List Defining) → clashes before names ≡ []
    → repeats Scope3 (locs before) (locs names) ≡ []
locations-once before [] none = refl
locations-once before (d ∷ ds) none = by d.1 refl (locations-once (before ++ d ∷ []) ds
    (none_right (clash_if (first_in d.0.text before) d.0 d.1) (clashes (before ++ d ∷ []) ds) none))
  where
    more : (l : List Word) → loc_if d.1 d.0 ≡ l → locs (before ++ d ∷ []) ≡ locs before ++ l
    more l q =
        locs-append before (d ∷ []) ∙ ap (λ x. locs before ++ x) (append-nil (loc_if d.1 d.0) ∙ q)

    same : (l : List Word) → loc_if d.1 d.0 ≡ []
        → repeats Scope3 (locs (before ++ d ∷ [])) (locs ds) ≡ []
        → repeats Scope3 (locs before) (locs ds) ≡ []
    same l q ih =
        subst (λ x. repeats Scope3 x (locs ds) ≡ []) (more [] q ∙ append-nil (locs before)) ih

    by : (s : Sort) → d.1 ≡ s → repeats Scope3 (locs (before ++ d ∷ [])) (locs ds) ≡ []
        → repeats Scope3 (locs before) (loc_if d.1 d.0 ++ locs ds) ≡ []
    by (Channel m at) e ih = ap (λ x. repeats Scope3 (locs before) (loc_if x d.0 ++ locs ds)) e
        ∙ same [] (ap (λ x. loc_if x d.0) e) ih
    by (Observed m i) e ih = ap (λ x. repeats Scope3 (locs before) (loc_if x d.0 ++ locs ds)) e
        ∙ same [] (ap (λ x. loc_if x d.0) e) ih
    by Parameter e ih = ap (λ x. repeats Scope3 (locs before) (loc_if x d.0 ++ locs ds)) e
        ∙ same [] (ap (λ x. loc_if x d.0) e) ih
    by Location e ih =
        let now : clash_if (first_in d.0.text before) d.0 Location ≡ [] =
        ap (λ x. clash_if (first_in d.0.text before) d.0 x) (sym e)
        ∙ none_left (clash_if (first_in d.0.text before) d.0 d.1) (clashes (before ++ d ∷ []) ds)
        none in
        let new : is_spelled_in d.0.text (locs before) ≡ false =
        not-located d.0.text before (location-first (first_in d.0.text before) d.0 now) in
        ap (λ x. repeats Scope3 (locs before) (loc_if x d.0 ++ locs ds)) e
        ∙ ap (λ b. repeated_if b Scope3 d.0 ++ repeats Scope3 (locs before ++ d.0 ∷ []) (locs ds))
        new
        ∙ subst (λ x. repeats Scope3 x (locs ds) ≡ []) (more (d.0 ∷ []) (ap (λ x. loc_if x d.0) e))
        ih

module _ (bs : List Binder) where
  pub has-in : (own : ℕ) (part : List Defining) (text : List ℕ) (sort : Sort)
      → AllIn bs (keys own part) → Has text sort part
      → list_any (is_same (record { scope = own; text = text })) bs ≡ true
  has-in own [] text sort a h = absurd h
  has-in own (d ∷ ds) text sort a (inl e) =
      subst (λ x. list_any (is_same (record { scope = own; text = x })) bs ≡ true) (sym e.0) a.0
  has-in own (d ∷ ds) text sort a (inr h) = has-in own ds text sort a.1 h

  -- A part of a block's names: what stands in it stands in the block, which gives each spelling one
  -- sort.
  module _ (own : ℕ) (part names : List Defining)
      (embed : (text : List ℕ) (sort : Sort) → Has text sort part → Has text sort names)
      (fixed : Settled names) (inside : AllIn bs (keys own part)) where
    same-sort : (a b : List ℕ) (x y : Sort) → Has a x part → Has b y part
        → index_of bs (record { scope = own; text = a })
        ≡ index_of bs (record { scope = own; text = b }) → x ≡ y
    same-sort a b x y h g e =
        let t : a ≡ b = tells bs own a b (has-in own part a x inside h) e in
        let p : first_in a names ≡ Some x = fixed a x (embed a x h) in
        let q : first_in b names ≡ Some y = fixed b y (embed b y g) in
        let r : Some x ≡ Some y = sym p ∙ ap (λ z. first_in z names) t ∙ q in
        cc

    agree-all : (at : ℕ → Option Ref) (x : Patterned) (y : Option Ref × Pat)
        → Has x.word.text (Channel x.count x.at) part
        → y.1.on ≡ ref.Binder (index_of bs (binder own x.word)) → length y.1.params ≡ x.count
        → y.0 ≡ at x.at
        → (xs : List Patterned) (ys : List (Option Ref × Pat)) → HasAll part xs
        → Described (index_of bs) own at xs ys → Each (Agree y) ys
    agree-all at x y h on long here [] [] a d = tt
    agree-all at x y h on long here [] (z ∷ ys) a d = absurd d
    agree-all at x y h on long here (w ∷ xs) [] a d = absurd d
    agree-all at x y h on long here (w ∷ xs) (z ∷ ys) a d = (
      λ same.
          (let n : ref.Binder (index_of bs (binder own x.word))
          ≡ ref.Binder (index_of bs (binder own w.word)) = sym on ∙ same ∙ d.0 in
          let m : index_of bs (binder own x.word) ≡ index_of bs (binder own w.word) = cc in
          let sorts : Channel x.count x.at ≡ Channel w.count w.at =
          same-sort x.word.text w.word.text (Channel x.count x.at) (Channel w.count w.at) h a.0 m in
          let c : x.count ≡ w.count = cc in
          let p : x.at ≡ w.at = cc in
          (here ∙ ap at p ∙ sym d.2, long ∙ c ∙ sym d.1)),
      agree-all at x y h on long here xs ys a.1 d.3,
    )

    agree-pairs : (at : ℕ → Option Ref) (xs : List Patterned) (ys : List (Option Ref × Pat))
        → HasAll part xs → Described (index_of bs) own at xs ys → AllPairs Agree ys
    agree-pairs at [] [] a d = pairs-nil Agree
    agree-pairs at [] (y ∷ ys) a d = absurd d
    agree-pairs at (x ∷ xs) [] a d = absurd d
    agree-pairs at (x ∷ xs) (y ∷ ys) a d = pairs-cons Agree y ys
        (agree-all at x y a.0 d.0 d.1 d.2 xs ys a.1 d.3) (agree-pairs at xs ys a.1 d.3)

    among-word : (ws : List Word) (b : ℕ) → HasPlaces part ws
        → is_among (numbers (index_of bs) own ws) b ≡ true
        → (w : Word) × Has w.text Location part × (index_of bs (binder own w) ≡ b)
    among-word [] b h e = absurd cc
    among-word (w ∷ ws) b h e =
        elim (among-cons (index_of bs (binder own w)) (numbers (index_of bs) own ws) b
        e) [ inl q ↦ (w, h.0, q) | inr q ↦ among-word ws b h.1 q ]

    apart-all : (at : ℕ → Option Ref) (ws : List Word) → HasPlaces part ws
        → (xs : List Patterned) (ys : List (Option Ref × Pat)) → HasAll part xs
        → Described (index_of bs) own at xs ys
        → Each
        (λ y. (b : ℕ) → y.1.on ≡ ref.Binder b → is_among (numbers (index_of bs) own ws) b ≡ false)
        ys
    apart-all at ws g [] [] a d = tt
    apart-all at ws g [] (y ∷ ys) a d = absurd d
    apart-all at ws g (x ∷ xs) [] a d = absurd d
    apart-all at ws g (x ∷ xs) (y ∷ ys) a d = (
      λ b e. elim (cases_Bool (is_among (numbers (index_of bs) own ws) b)) [
        | inl there ↦ (let w = among-word ws b g there in
            let n : ref.Binder (index_of bs (binder own x.word)) ≡ ref.Binder b = sym d.0 ∙ e in
            let m : index_of bs (binder own x.word) ≡ b = cc in
            let bad : Channel x.count x.at ≡ Location =
            same-sort x.word.text w.0.text (Channel x.count x.at) Location a.0 w.1 (m ∙ sym w.2) in
            absurd cc)
        | inr other ↦ other
      ],
      apart-all at ws g xs ys a.1 d.3,
    )

  places-in : (own : ℕ) (part : List Defining) (ws : List Word) → AllIn bs (keys own part)
      → HasPlaces part ws → AllIn bs (in_params own ws)
  places-in own part [] a h = tt
  places-in own part (w ∷ ws) a h =
      (has-in own part w.text Location a h.0, places-in own part ws a h.1)

  pub block-fine :
      (ds : s.Definitions) (own k : ℕ) (env : List Scope) (names front back : List Defining)
      → names ≡ front ++ (defining 0 1 ds ++ back) → clashes [] names ≡ []
      → locs names ≡ all_place_words ds
      → AllIn bs (keys own (defining 0 1 ds))
      → IsBlock (t.definitions (level (index_of bs) own env k ds))
  block-fine ds own k env names front back e none only inside =
      let part = defining 0 1 ds in
      let ws = all_place_words ds in
      let at : ℕ → Option Ref = location (index_of bs) own ws in
      let embed : (text : List ℕ) (sort : Sort) → Has text sort part → Has text sort names =
      λ text sort h. subst (Has text sort) (sym e)
      (has-right text sort front (part ++ back) (has-left text sort part back h)) in
      let fixed = settled names none in
      let whole : part ≡ [] ++ (part ++ []) = sym (append-nil part) in
      let have = all-has ds 0 1 part [] [] whole in
      let sites = all-places ds 0 1 part [] [] whole in
      let described = all-described (index_of bs) ds own k env ws [] [] None 0 1
      (sym (append-nil ws)) (omega arith) refl in
      let term = t.definitions (level (index_of bs) own env k ds) in
      let ys = chem.patterns_of None term in
      let places_are : chem.places_of term ≡ numbers (index_of bs) own ws =
      places-numbers (index_of bs) ds own k env in
      let once : repeats Scope3 [] ws ≡ [] =
      ap (repeats Scope3 []) (sym only) ∙ locations-once [] names none in
      record {
        channels = channels-binders (index_of bs) own at (all_patterned 0 1 ds) ys described;
        places = all-named (index_of bs) ds own k env;
        apart = subst (λ l. Each (λ y. (b : ℕ) → y.1.on ≡ ref.Binder b → is_among l b ≡ false) ys)
            (sym places_are) (apart-all own part names embed fixed inside at ws sites
            (all_patterned 0 1 ds) ys have described);
        one_place = λ b. subst (λ l. times l b ≤ 1) (sym places_are)
            ((once-each bs Scope3 own [] ws (places-in own part ws inside sites) once).0 b);
        agree = agree-pairs own part names embed fixed inside at (all_patterned 0 1 ds) ys have
            described;
      }
