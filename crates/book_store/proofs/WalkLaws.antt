-- A walk along keys in order finds the first of the members that pass, whatever else stands among
-- the keys.
use Rattle.std.proofs.Common.{◌≡◌, List, [], ◌∷◌, ◌++◌, Option, Some, None, Bool, true, false, refl}
use Rattle.std.proofs.Common.{ap, sym, ◌∙◌, subst, ◌⊎◌, inl, inr}
use Rattle.chem_model.specs.Each.{Each, IsIn}
use Rattle.chem_laws.proofs.Lists.{Each-append}
use Rattle.book_store.specs.Walk.{IsFirstOf, or_else, walk}

-- no later key comes before an earlier one
abbrev pub InOrder : {K : Type 0} → (K → K → Bool) → List K → Type 0
InOrder below [] = Unit {0}
InOrder below (k ∷ ks) = Each (λ j. below j k ≡ false) ks × InOrder below ks

-- one of the keys stands for this member
abbrev pub Leads : {K X : Type 0} → (K → Option X) → List K → X → Type 0
Leads {K} find ks x = (k : K) × IsIn k ks × (find k ≡ Some x)

-- keys by which each member that passes is found, and none that doesn't. Other keys may stand among
-- them
pub record Covers {K X : Type 0} (find : K → Option X) (test : X → Bool) (xs : List X)
    (ks : List K) : Type 0 where
  pub right : (k : K) (x : X) → find k ≡ Some x → IsIn x xs × (test x ≡ true)
  pub all : (x : X) → IsIn x xs → test x ≡ true → Leads find ks x

pub joined_order : {K : Type 0} (below : K → K → Bool) (ks js : List K) → InOrder below ks
    → InOrder below js → Each (λ k. Each (λ j. below j k ≡ false) js) ks → InOrder below (ks ++ js)
joined_order below [] js a b h = b
joined_order below (k ∷ ks) js a b h = (
  Each-append (λ j. below j k ≡ false) ks js a.0 h.0,
  joined_order below ks js a.1 b h.1,
)

pub each_in : {X : Type 0} (P : X → Type 0) (xs : List X) → ((x : X) → IsIn x xs → P x) → Each P xs
each_in P [] h = tt
each_in P (x ∷ xs) h = (h x (inl refl), each_in P xs (λ y at. h y (inr at)))

pub in_each : {X : Type 0} (P : X → Type 0) (xs : List X) (x : X) → IsIn x xs → Each P xs → P x
in_each P [] x at h = absurd at
in_each P (y ∷ ys) x (inl e) h = subst P (sym e) h.0
in_each P (y ∷ ys) x (inr at) h = in_each P ys x at h.1

module _ {K X : Type 0} (find : K → Option X) where
  -- a walk along the ones, and then along the others
  pub walk-append : (ks js : List K) → walk find (ks ++ js) ≡ or_else (walk find ks) (walk find js)
  walk-append [] js = refl
  walk-append (k ∷ ks) js = go (find k) (walk-append ks js)
    where
      go : (o : Option X) → walk find (ks ++ js) ≡ or_else (walk find ks) (walk find js)
          → or_else o (walk find (ks ++ js)) ≡ or_else (or_else o (walk find ks)) (walk find js)
      go (Some x) h = refl
      go None h = h

  -- where the walk finds none, no key stands for a member
  pub none_found : (ks : List K) (k : K) → walk find ks ≡ None → IsIn k ks → find k ≡ None
  none_found [] k e at = absurd at
  none_found (j ∷ ks) k e at = go (find j) refl (none_found ks k) e at
    where
      go : (o : Option X) → find j ≡ o → (walk find ks ≡ None → IsIn k ks → find k ≡ None)
          → or_else o (walk find ks) ≡ None → (k ≡ j) ⊎ IsIn k ks → find k ≡ None
      go None c rest f (inl same) = ap find same ∙ c
      go None c rest f (inr later) = rest f later
      go (Some x) c rest f at' = cc

  -- what is found is stood for by a key, and each other member that a key stands for, by that key
  -- or a later one
  pub record Found (below : K → K → Bool) (ks : List K) (y : X) : Type 0 where
    pub key : K
    pub at : IsIn key ks
    pub stands : find key ≡ Some y
    pub others : (k : K) (x : X) → IsIn k ks → find k ≡ Some x → (x ≡ y) ⊎ (below k key ≡ false)

  pub found : (below : K → K → Bool) (ks : List K) (y : X) → InOrder below ks
      → walk find ks ≡ Some y → Found below ks y
  found below [] y h e = cc
  found below (j ∷ ks) y h e = go (find j) refl (found below ks y h.1) e
    where
      go : (o : Option X) → find j ≡ o → (walk find ks ≡ Some y → Found below ks y)
          → or_else o (walk find ks) ≡ Some y → Found below (j ∷ ks) y
      go (Some x) c rest f = record {
        key = j;
        at = inl refl;
        stands = c ∙ f;
        others = λ k z at s. here k z at s;
      }
        where
          here : (k : K) (z : X) → (k ≡ j) ⊎ IsIn k ks → find k ≡ Some z
              → (z ≡ y) ⊎ (below k j ≡ false)
          here k z (inl same) s = let there : find k ≡ find j = ap find same in inl cc
          here k z (inr later) s = inr (in_each (λ i. below i j ≡ false) ks k later h.0)
      go None c rest f =
          let r = rest f in
          record {
            key = r.key;
            at = inr r.at;
            stands = r.stands;
            others = λ k z at s. there r k z at s;
          }
        where
          there : (r : Found below ks y) (k : K) (z : X) → (k ≡ j) ⊎ IsIn k ks → find k ≡ Some z
              → (z ≡ y) ⊎ (below k r.key ≡ false)
          there r k z (inl same) s = let here : find k ≡ find j = ap find same in cc
          there r k z (inr later) s = r.others k z later s

  -- the first of the members that pass
  pub walk_first :
      (test : X → Bool) (before : X → X → Bool) (below : K → K → Bool) (xs : List X) (ks : List K)
      → Covers find test xs ks → InOrder below ks
      → ((x : X) → before x x ≡ false)
      → ((k j : K) (x y : X) → find k ≡ Some x → find j ≡ Some y → below k j ≡ false
      → before x y ≡ false)
      → (o : Option X) → walk find ks ≡ o → IsFirstOf test before xs o
  walk_first test before below xs ks c h irr keeps None e =
      each_in (λ x. test x ≡ false) xs (λ x at. go x at (test x) refl)
    where
      go : (x : X) → IsIn x xs → (t : Bool) → test x ≡ t → test x ≡ false
      go x at false is = is
      go x at true is =
          let l = c.all x at is in
          let none = none_found ks l.0 e l.1 in
          let some = l.2 in
          cc
  walk_first test before below xs ks c h irr keeps (Some y) e =
      let r = found below ks y h e in
      let is = c.right r.key y r.stands in (
        is.0,
        is.1,
        each_in (λ x. test x ≡ true → before x y ≡ false) xs
            (λ x at passes. go r x (c.all x at passes)),
      )
    where
      go : (r : Found below ks y) (x : X) → Leads find ks x → before x y ≡ false
      go r x l = cases (r.others l.0 x l.1 l.2)
        where
          cases : (x ≡ y) ⊎ (below l.0 r.key ≡ false) → before x y ≡ false
          cases (inl same) = ap (λ z. before z y) same ∙ irr y
          cases (inr later) = keeps l.0 r.key x y l.2 r.stands later
