-- The blocks of a program's sites, which are parts of one block.
use Rattle.std.proofs.Common.{◌≡◌, ℕ, ◌+◌, ◌≤◌, List, [], ◌∷◌, ◌++◌, Option, Some, None, Bool, true}
use Rattle.std.proofs.Common.{false, cond, refl, sym, ap, ◌∙◌, subst, arith, map, ◌||◌, ◌==◌, ◌⊎◌}
use Rattle.std.proofs.Common.{inl, inr, eqb-true, eq-eqb}
use Rattle.std.proofs.lemmas.List.{map-append}
use Rattle.chem_model.specs.declared.name.Ref.{Ref}
use Rattle.chem_model.specs.declared.name.Ref.TheVariants.{Binder, Known}
use Rattle.chem_model.specs.declared.name.Pat.{Pat}
use Rattle.chem_model.specs.Process.{Process, Definition, Rule, Place, Definitions, no_definition}
use Rattle.chem_model.specs.Process.{and_also}
use Rattle.chem_model.specs.Binders.{binder_of, channels_of, block, defined, places_of, place_of}
use Rattle.chem_model.specs.Binders.{at, patterns_of, patterns_in, is_among, times}
use Rattle.chem_model.specs.Scope.{IsBinder, IsBlock, AreNamed, IsNamed, Agree}
use Rattle.chem_model.specs.Each.{Each}
use Rattle.chem_laws.proofs.Lists.{Each-weaker, Each-append, Each-left, Each-right, EachPair}
use Rattle.chem_laws.proofs.Lists.{pairs_each, is_false}
use Rattle.chem_laws.proofs.OpeningLists.{each_map, all_pairs, pairs_left, pairs_right}
use Rattle.chem_laws.proofs.OpeningLists.{pairs_across, pairs_map, among_either, not_among}
use Rattle.chem_laws.proofs.OpeningLists.{once_apart}
use Rattle.chem_laws.proofs.Terms.{among_left, among_right, among_first, times-append, times-cons}

abbrev Item : Type 0
Item = Option Ref × Pat

-- ---- a block whose rules stand at any place

abbrev IsApart : List ℕ → Item → Type 0
IsApart bs x = (b : ℕ) → x.1.on ≡ Binder b → is_among bs b ≡ false

pub record IsBlockAt (l : Option Ref) (ds : Definitions) : Type 0 where
  pub channels : Each (λ (x : Option Ref × Pat). IsBinder x.1.on) (patterns_of l ds)
  pub named : AreNamed ds
  pub apart :
      Each
      (λ (x : Option Ref × Pat). (b : ℕ) → x.1.on ≡ Binder b → is_among (places_of ds) b ≡ false)
      (patterns_of l ds)
  pub one_place : (b : ℕ) → times (places_of ds) b ≤ 1
  pub agree : EachPair Agree (patterns_of l ds)

pub of_block : (ds : Definitions) → IsBlock ds → IsBlockAt None ds
of_block ds h = record {
  channels = h.channels;
  named = h.places;
  apart = h.apart;
  one_place = h.one_place;
  agree = pairs_each Agree (patterns_of None ds) h.agree;
}

pub to_block : (ds : Definitions) → IsBlockAt None ds → IsBlock ds
to_block ds h = record {
  channels = h.channels;
  places = h.named;
  apart = h.apart;
  one_place = h.one_place;
  agree = all_pairs Agree (patterns_of None ds) h.agree;
}

-- ---- the rules of one place, read as rules that stand in no place

abbrev moved : ℕ → Option Ref → Option Ref
moved n None = None
moved n (Some (Binder b)) = cond (b == n) None (Some (Binder b))
moved n (Some (Known x)) = Some (Known x)

abbrev moved_item : ℕ → Item → Item
moved_item n x = (moved n x.0, x.1)

pats_moved : (n : ℕ) (l : Option Ref) (ps : List Pat)
    → at (moved n l) ps ≡ map (moved_item n) (at l ps)
pats_moved n l [] = refl
pats_moved n l (p ∷ ps) = ap (λ (xs : List Item). (moved n l, p) ∷ xs) (pats_moved n l ps)

other_place : (n : ℕ) (x : Ref) → is_among (binder_of x) n ≡ false → moved n (Some x) ≡ Some x
other_place n (Binder b) h = go (b == n) h
  where
    go : (t : Bool) → t || false ≡ false → cond t None (Some (Binder b)) ≡ Some (Binder b)
    go true e = cc
    go false e = refl
other_place n (Known x) h = refl

mutual
  patterns_moved : (n : ℕ) (l : Option Ref) (ds : Definitions) → is_among (places_of ds) n ≡ false
      → patterns_of (moved n l) ds ≡ map (moved_item n) (patterns_of l ds)
  patterns_moved n l no_definition h = refl
  patterns_moved n l (and_also d ds) h =
      let g = not_among (place_of d) (places_of ds) n h in
      (λ i. pattern_moved n l d g.0 i ++ patterns_moved n l ds g.1 i)
      ∙ sym (map-append (moved_item n) (patterns_in l d) (patterns_of l ds))

  pattern_moved : (n : ℕ) (l : Option Ref) (d : Definition) → is_among (place_of d) n ≡ false
      → patterns_in (moved n l) d ≡ map (moved_item n) (patterns_in l d)
  pattern_moved n l (Rule ps p) h = pats_moved n l ps
  pattern_moved n l (Place x es p) h =
      let g = not_among (binder_of x) (places_of es) n h in
      ap (λ (o : Option Ref). patterns_of o es) (sym (other_place n x g.0))
      ∙ patterns_moved n (Some x) es g.1

moved_own : (n : ℕ) → moved n (Some (Binder n)) ≡ None
moved_own n = ap (λ t. cond t None (Some (Binder n))) (eq-eqb n n refl)

count_split : (n : ℕ) (xs ys : List ℕ) (b : ℕ)
    → times (n ∷ (xs ++ ys)) b ≡ cond (n == b) 1 0 + (times xs b + times ys b)
count_split n xs ys b =
    times-cons n (xs ++ ys) b ∙ ap (λ t. cond (n == b) 1 0 + t) (times-append xs ys b)

-- a site's own definitions are a block
pub own_block : (l : Option Ref) (n : ℕ) (es : Definitions) (p : Process) (ds : Definitions)
    → IsBlockAt l (and_also (Place (Binder n) es p) ds) → IsBlock es
own_block l n es p ds h =
    let own = patterns_of (Some (Binder n)) es in
    let others = patterns_of l ds in
    let new : is_among (places_of es) n ≡ false =
    is_false (is_among (places_of es) n) (λ e. once_apart (n ∷ []) (places_of es ++ places_of ds) n
    (h.one_place n) (among_first n []) (among_left (places_of es) (places_of ds) n e)) in
    let same : patterns_of None es ≡ map (moved_item n) own =
    ap (λ (o : Option Ref). patterns_of o es) (sym (moved_own n))
    ∙ patterns_moved n (Some (Binder n)) es new in
    let places = places_of (and_also (Place (Binder n) es p) ds) in
    let apart : Each (IsApart (places_of es)) own =
    Each-weaker (IsApart places) (IsApart (places_of es)) (λ x f b e. (not_among (places_of es)
    (places_of ds) b (not_among (n ∷ []) (places_of es ++ places_of ds) b (f b e)).1).0) own
    (Each-left (IsApart places) own others h.apart) in
    to_block es (record {
      channels = subst (Each (λ (x : Item). IsBinder x.1.on)) (sym same)
          (each_map (moved_item n) (λ (x : Item). IsBinder x.1.on) own
          (Each-left (λ (x : Item). IsBinder x.1.on) own others h.channels));
      named = h.named.0.1;
      apart = subst (Each (IsApart (places_of es))) (sym same)
          (each_map (moved_item n) (IsApart (places_of es)) own apart);
      one_place = λ b. (let one = h.one_place b in
          let split = count_split n (places_of es) (places_of ds) b in omega arith);
      agree = subst (EachPair Agree) (sym same) (pairs_map (moved_item n) Agree Agree
          (λ x y f e. (ap (moved n) (f e).0, (f e).1)) own (pairs_left Agree own others h.agree));
    })

-- the definitions after the first are a block
pub other_block : (l : Option Ref) (d : Definition) (ds : Definitions) → IsBlockAt l (and_also d ds)
    → IsBlockAt l ds
other_block l d ds h =
    let own = patterns_in l d in
    let others = patterns_of l ds in
    let places = places_of (and_also d ds) in
    record {
      channels = Each-right (λ (x : Item). IsBinder x.1.on) own others h.channels;
      named = h.named.1;
      apart = Each-weaker (IsApart places) (IsApart (places_of ds))
          (λ x f b e. (not_among (place_of d) (places_of ds) b (f b e)).1) others
          (Each-right (IsApart places) own others h.apart);
      one_place = λ b. (let one = h.one_place b in
          let split = times-append (place_of d) (places_of ds) b in omega arith);
      agree = pairs_right Agree own others h.agree;
    }

-- ---- where the patterns of a block stand, and which of them are on a channel

abbrev Located : Option Ref → List ℕ → Option Ref → Type 0
Located l bs o = (o ≡ l) ⊎ ((c : ℕ) × (o ≡ Some (Binder c)) × (is_among bs c ≡ true))

located_more : (l : Option Ref) (bs cs : List ℕ)
    → ((c : ℕ) → is_among bs c ≡ true → is_among cs c ≡ true) → (o : Option Ref) → Located l bs o
    → Located l cs o
located_more l bs cs f o (inl e) = inl e
located_more l bs cs f o (inr h) = inr (h.0, h.1, f h.0 h.2)

located_under : (n : ℕ) (l : Option Ref) (bs cs : List ℕ) → is_among cs n ≡ true
    → ((c : ℕ) → is_among bs c ≡ true → is_among cs c ≡ true) → (o : Option Ref)
    → Located (Some (Binder n)) bs o → Located l cs o
located_under n l bs cs there f o (inl e) = inr (n, e, there)
located_under n l bs cs there f o (inr h) = inr (h.0, h.1, f h.0 h.2)

located_pats : (l : Option Ref) (bs : List ℕ) (ps : List Pat)
    → Each (λ (x : Item). Located l bs x.0) (at l ps)
located_pats l bs [] = tt
located_pats l bs (p ∷ ps) = (inl refl, located_pats l bs ps)

mutual
  located : (l : Option Ref) (ds : Definitions) → AreNamed ds
      → Each (λ (x : Item). Located l (places_of ds) x.0) (patterns_of l ds)
  located l no_definition h = tt
  located l (and_also d ds) h =
      let places = places_of (and_also d ds) in
      Each-append (λ (x : Item). Located l places x.0) (patterns_in l d) (patterns_of l ds)
      (Each-weaker (λ (x : Item). Located l (place_of d) x.0) (λ (x : Item). Located l places x.0)
      (λ x f.
      located_more l (place_of d) places (λ c e. among_left (place_of d) (places_of ds) c e) x.0 f)
      (patterns_in l d) (located_in l d h.0))
      (Each-weaker (λ (x : Item). Located l (places_of ds) x.0) (λ (x : Item). Located l places x.0)
      (λ x f. located_more l (places_of ds) places
      (λ c e. among_right (place_of d) (places_of ds) c e) x.0 f) (patterns_of l ds)
      (located l ds h.1))

  located_in : (l : Option Ref) (d : Definition) → IsNamed d
      → Each (λ (x : Item). Located l (place_of d) x.0) (patterns_in l d)
  located_in l (Rule ps p) h = located_pats l [] ps
  located_in l (Place (Binder n) es p) h =
      let places = n ∷ places_of es in
      Each-weaker (λ (x : Item). Located (Some (Binder n)) (places_of es) x.0)
      (λ (x : Item). Located l places x.0) (λ x f. located_under n l (places_of es) places
      (among_first n (places_of es)) (λ c e. among_right (n ∷ []) (places_of es) c e) x.0 f)
      (patterns_of (Some (Binder n)) es) (located (Some (Binder n)) es h.1)
  located_in l (Place (Known x) es p) h = absurd h.0

abbrev number_of : Option Ref → ℕ
number_of None = 0
number_of (Some (Binder b)) = b
number_of (Some (Known x)) = 0

-- a pattern on the channel b of which this holds
abbrev Found : (Item → Type 0) → ℕ → Type 0
Found P b = (x : Item) × (x.1.on ≡ Binder b) × P x

binder_is : (r : Ref) (b : ℕ) → is_among (binder_of r) b ≡ true → r ≡ Binder b
binder_is (Binder c) b h = go (c == b) refl h
  where
    go : (t : Bool) → (c == b) ≡ t → t || false ≡ true → Binder c ≡ Binder b
    go true e h' = ap Binder (eqb-true c b e)
    go false e h' = cc
binder_is (Known x) b h = cc

module _ (P : Item → Type 0) (b : ℕ) where
  found_pat : (l : Option Ref) (ps : List Pat) → Each P (at l ps)
      → is_among (channels_of ps) b ≡ true → Found P b
  found_pat l [] h e = cc
  found_pat l (p ∷ ps) h e = elim (among_either (binder_of p.on) (channels_of ps) b
      e) [ inl u ↦ ((l, p), binder_is p.on b u, h.0) | inr u ↦ found_pat l ps h.1 u ]

  mutual
    found : (l : Option Ref) (ds : Definitions) → Each P (patterns_of l ds)
        → is_among (block ds) b ≡ true → (is_among (places_of ds) b ≡ true) ⊎ Found P b
    found l no_definition h e = cc
    found l (and_also d ds) h e = elim (among_either (defined d) (block ds) b e) [
      | inl u ↦ elim (found_in l d (Each-left P (patterns_in l d) (patterns_of l ds) h)
          u) [ inl v ↦ inl (among_left (place_of d) (places_of ds) b v) | inr v ↦ inr v ]
      | inr u ↦ elim (found l ds (Each-right P (patterns_in l d) (patterns_of l ds) h)
          u) [ inl v ↦ inl (among_right (place_of d) (places_of ds) b v) | inr v ↦ inr v ]
    ]

    found_in : (l : Option Ref) (d : Definition) → Each P (patterns_in l d)
        → is_among (defined d) b ≡ true → (is_among (place_of d) b ≡ true) ⊎ Found P b
    found_in l (Rule ps p) h e = inr (found_pat l ps h e)
    found_in l (Place x es p) h e = elim (among_either (binder_of x) (block es) b e) [
      | inl u ↦ inl (among_left (binder_of x) (places_of es) b u)
      | inr u ↦ elim (found (Some x) es h
          u) [ inl v ↦ inl (among_right (binder_of x) (places_of es) b v) | inr v ↦ inr v ]
    ]

-- ---- what one site defines, no other does

module _ (n : ℕ) (es : Definitions) (p : Process) (ds : Definitions)
    (h : IsBlockAt None (and_also (Place (Binder n) es p) ds)) where
  abbrev own_patterns : List Item
  own_patterns = patterns_of (Some (Binder n)) es

  abbrev other_patterns : List Item
  other_patterns = patterns_of None ds

  abbrev own_places : List ℕ
  own_places = n ∷ places_of es

  apart_places : (c : ℕ) → is_among own_places c ≡ true → is_among (places_of ds) c ≡ true → ⊥
  apart_places c e f = once_apart own_places (places_of ds) c (h.one_place c) e f

  abbrev IsOwn : Item → Type 0
  IsOwn x = Located (Some (Binder n)) (places_of es) x.0 × IsApart (own_places ++ places_of ds) x
      × Each (Agree x) other_patterns

  own_items : Each IsOwn own_patterns
  own_items = three own_patterns (located (Some (Binder n)) es h.named.0.1)
      (Each-left (IsApart (own_places ++ places_of ds)) own_patterns other_patterns h.apart)
      (pairs_across Agree own_patterns other_patterns h.agree)
    where
      three : (xs : List Item)
          → Each (λ (x : Item). Located (Some (Binder n)) (places_of es) x.0) xs
          → Each (IsApart (own_places ++ places_of ds)) xs
          → Each (λ (x : Item). Each (Agree x) other_patterns) xs → Each IsOwn xs
      three [] f g k = tt
      three (x ∷ xs) f g k = ((f.0, g.0, k.0), three xs f.1 g.1 k.1)

  abbrev IsOther : Item → Item → Type 0
  IsOther x y = Located None (places_of ds) y.0 × IsApart (own_places ++ places_of ds) y × Agree x y

  other_items : (x : Item) → Each (Agree x) other_patterns → Each (IsOther x) other_patterns
  other_items x agree = three other_patterns (located None ds h.named.1)
      (Each-right (IsApart (own_places ++ places_of ds)) own_patterns other_patterns h.apart) agree
    where
      three : (ys : List Item) → Each (λ (y : Item). Located None (places_of ds) y.0) ys
          → Each (IsApart (own_places ++ places_of ds)) ys → Each (Agree x) ys → Each (IsOther x) ys
      three [] f g k = tt
      three (y ∷ ys) f g k = ((f.0, g.0, k.0), three ys f.1 g.1 k.1)

  -- no pattern of the site stands where one of another does
  stand_apart : (o q : Option Ref) → Located (Some (Binder n)) (places_of es) o
      → Located None (places_of ds) q → o ≡ q → ⊥
  stand_apart o q (inl e) (inl f) same = cc
  stand_apart o q (inr e) (inl f) same = let a = e.1 in cc
  stand_apart o q (inl e) (inr f) same = apart_places n (among_first n (places_of es))
      (subst (λ (c : ℕ). is_among (places_of ds) c ≡ true) (ap number_of (sym f.1 ∙ sym same ∙ e))
      f.2)
  stand_apart o q (inr e) (inr f) same =
      apart_places e.0 (among_right (n ∷ []) (places_of es) e.0 e.2)
      (subst (λ (c : ℕ). is_among (places_of ds) c ≡ true) (ap number_of (sym f.1 ∙ sym same ∙ e.1))
      f.2)

  -- a binder of the site is none of the others'
  pub sites_apart : (b : ℕ) → is_among (n ∷ block es) b ≡ true → is_among (block ds) b ≡ false
  sites_apart b e =
      is_false (is_among (block ds) b) (λ f. elim (among_either (n ∷ []) (block es) b e) [
        | inl u ↦ by_place (among_left (n ∷ []) (places_of es) b u) f
        | inr u ↦ elim (found IsOwn b (Some (Binder n)) es own_items u) [
          | inl v ↦ by_place (among_right (n ∷ []) (places_of es) b v) f
          | inr v ↦ by_channel v f
        ]
      ])
    where
      by_place : is_among own_places b ≡ true → is_among (block ds) b ≡ true → ⊥
      by_place u f = elim (found (IsApart (own_places ++ places_of ds)) b None ds
          (Each-right (IsApart (own_places ++ places_of ds)) own_patterns other_patterns h.apart)
          f) [
            | inl v ↦ apart_places b u v
            | inr v ↦ (let a = v.2 b v.1 in let c = among_left own_places (places_of ds) b u in cc)
          ]

      by_channel : Found IsOwn b → is_among (block ds) b ≡ true → ⊥
      by_channel x f = elim (found (IsOther x.0) b None ds (other_items x.0 x.2.2) f) [
        | inl v ↦ (let a = x.2.1 b x.1 in let c = among_right own_places (places_of ds) b v in cc)
        | inr y ↦ stand_apart x.0.0 y.0.0 x.2.0 y.2.0 (y.2.2 (x.1 ∙ sym y.1)).0
      ]

  -- the site's name isn't one of its definitions'
  pub name_apart : is_among (block es) n ≡ false
  name_apart =
      is_false (is_among (block es) n) (λ f. elim (found IsOwn n (Some (Binder n)) es own_items f) [
        | inl v ↦ once_apart (n ∷ []) (places_of es ++ places_of ds) n (h.one_place n)
            (among_first n []) (among_left (places_of es) (places_of ds) n v)
        | inr x ↦
            (let a = x.2.1 n x.1 in let c = among_first n (places_of es ++ places_of ds) in cc)
      ])
