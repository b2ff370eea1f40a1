-- The levels of a block: its own channels, and of each place its name and its channels, all apart.
use Rattle.std.proofs.Common.{◌≡◌, ℕ, ◌+◌, ◌<◌, ◌≤◌, List, [], ◌∷◌, ◌++◌, Option, Some, None, Bool}
use Rattle.std.proofs.Common.{true, false, cond, refl, sym, ap, ◌∙◌, subst, suc, zero, arith, ◌==◌}
use Rattle.std.proofs.Common.{◌||◌, ◌⊎◌, inl, inr, eq-eqb, eqb-true, AllPairs}
use Rattle.chem_model.specs.declared.name.Ref.{Ref}
use Rattle.chem_model.specs.declared.name.Ref.TheVariants.{Binder, Known}
use Rattle.chem_model.specs.declared.name.Pat.{Pat}
use Rattle.chem_model.specs.Process.{Rule, Place, Definitions, no_definition, and_also}
use Rattle.chem_model.specs.Binders.{binder_of, channels_of, block, places_of, at, patterns_of}
use Rattle.chem_model.specs.Binders.{is_among, times}
use Rattle.chem_model.specs.Scope.{IsBinder, AreRules, AreRulesAndPlaces, AreNamed, Agree, IsBlock}
use Rattle.chem_model.specs.Each.{Each, IsIn}
use Rattle.chem_laws.proofs.Lists.{either_true, is_false, all_each}
use Rattle.chem_laws.proofs.Terms.{among-append, times-cons, times-append}

-- ---- how often a binder stands in a list

pub once_first : (b : ℕ) → ◌≡◌ {A = ℕ} (cond (b == b) 1 0) 1
once_first b = ap (λ t. cond t 1 0) (eq-eqb b b refl)

pub not_among : (bs : List ℕ) (c : ℕ) → is_among bs c ≡ false → times bs c ≡ 0
not_among [] c e = refl
not_among (b ∷ bs) c e = times-cons b bs c ∙ go (b == c) (not_among bs c) e
  where
    go : (t : Bool) → (is_among bs c ≡ false → times bs c ≡ 0) → t || is_among bs c ≡ false
        → ◌≡◌ {A = ℕ} (cond t 1 0 + times bs c) 0
    go true ih e' = cc
    go false ih e' = omega (arith, ih e')

-- ---- membership

module _ {X : Type 0} where
  pub in_left : (x : X) (xs ys : List X) → IsIn x xs → IsIn x (xs ++ ys)
  in_left x [] ys h = absurd h
  in_left x (z ∷ xs) ys (inl e) = inl e
  in_left x (z ∷ xs) ys (inr h) = inr (in_left x xs ys h)

  pub in_right : (x : X) (xs ys : List X) → IsIn x ys → IsIn x (xs ++ ys)
  in_right x [] ys h = h
  in_right x (z ∷ xs) ys h = inr (in_right x xs ys h)

  pub all_in : (P : X → Type 0) (xs : List X) → Each P xs → (x : X) → IsIn x xs → P x
  all_in P [] h x i = absurd i
  all_in P (y ∷ ys) h x (inl e) = subst P (sym e) h.0
  all_in P (y ∷ ys) h x (inr i) = all_in P ys h.1 x i

-- two patterns of one channel stand at one location
pub same_place : (xs : List (Option Ref × Pat)) → AllPairs Agree xs → (x y : Option Ref × Pat)
    → IsIn x xs → IsIn y xs → x.1.on ≡ y.1.on → x.0 ≡ y.0
same_place [] h x y i j e = absurd i
same_place (z ∷ zs) h x y (inl e) (inl f) g = ap (λ w. w.0) (e ∙ sym f)
same_place (z ∷ zs) h x y (inl e) (inr j) g =
    let first : Each (Agree z) zs =
    all_each (Agree z) zs (λ k d within. h zero (suc k) d (omega arith) (omega arith)) in
    ap (λ w. w.0) e ∙ (all_in (Agree z) zs first y j (ap (λ w. w.1.on) (sym e) ∙ g)).0
same_place (z ∷ zs) h x y (inr i) (inl f) g =
    let first : Each (Agree z) zs =
    all_each (Agree z) zs (λ k d within. h zero (suc k) d (omega arith) (omega arith)) in
    sym (ap (λ w. w.0) f ∙ (all_in (Agree z) zs first x i (ap (λ w. w.1.on) (sym f) ∙ sym g)).0)
same_place (z ∷ zs) h x y (inr i) (inr j) g =
    same_place zs (λ k n d below within. h (suc k) (suc n) d (omega arith) (omega arith)) x y i j g

-- ---- the channels of the rules at the top of a list of definitions

abbrev pub top_channels : Definitions → List ℕ
top_channels no_definition = []
top_channels (and_also (Rule ps p) ds) = channels_of ps ++ top_channels ds
top_channels (and_also (Place x es p) ds) = top_channels ds

pub rules_block : (es : Definitions) → AreRules es → block es ≡ top_channels es
rules_block no_definition h = refl
rules_block (and_also (Rule ps p) ds) h = ap (λ bs. channels_of ps ++ bs) (rules_block ds h)
rules_block (and_also (Place x es p) ds) h = absurd h

pub rules_places : (es : Definitions) → AreRules es → places_of es ≡ []
rules_places no_definition h = refl
rules_places (and_also (Rule ps p) ds) h = rules_places ds h
rules_places (and_also (Place x es p) ds) h = absurd h

-- a pattern of the channel stands at this place
abbrev pub Owns : List (Option Ref × Pat) → Option Ref → ℕ → Type 0
Owns xs l c = (p : Pat) × IsIn (l, p) xs × (p.on ≡ Binder c)

pats_own : (l : Option Ref) (ps : List Pat) (c : ℕ) → is_among (channels_of ps) c ≡ true
    → Owns (at l ps) l c
pats_own l [] c e = cc
pats_own l (p ∷ ps) c e = go (pats_own l ps c) (either_true (is_among (binder_of p.on) c)
    (is_among (channels_of ps) c) (sym (among-append (binder_of p.on) (channels_of ps) c) ∙ e))
  where
    here : (r : Ref) → is_among (binder_of r) c ≡ true → r ≡ Binder c
    here (Binder b) f = elim (either_true (b == c) false f) [
      | inl t ↦ ap Binder (eqb-true b c t)
      | inr t ↦ cc
    ]
    here (Known n) f = cc

    go : (is_among (channels_of ps) c ≡ true → Owns (at l ps) l c)
        → (is_among (binder_of p.on) c ≡ true) ⊎ (is_among (channels_of ps) c ≡ true)
        → Owns (at l (p ∷ ps)) l c
    go ih (inl f) = (p, inl refl, here p.on f)
    go ih (inr f) = let rest = ih f in (rest.0, inr rest.1, rest.2)

pub top_owns : (l : Option Ref) (ds : Definitions) (c : ℕ) → is_among (top_channels ds) c ≡ true
    → Owns (patterns_of l ds) l c
top_owns l no_definition c e = cc
top_owns l (and_also (Rule ps p) ds) c e =
    go (top_owns l ds c) (either_true (is_among (channels_of ps) c) (is_among (top_channels ds) c)
    (sym (among-append (channels_of ps) (top_channels ds) c) ∙ e))
  where
    go : (is_among (top_channels ds) c ≡ true → Owns (patterns_of l ds) l c)
        → (is_among (channels_of ps) c ≡ true) ⊎ (is_among (top_channels ds) c ≡ true)
        → Owns (at l ps ++ patterns_of l ds) l c
    go ih (inl f) =
        let some = pats_own l ps c f in
        (some.0, in_left (l, some.0) (at l ps) (patterns_of l ds) some.1, some.2)
    go ih (inr f) =
        let some = ih f in
        (some.0, in_right (l, some.0) (at l ps) (patterns_of l ds) some.1, some.2)
top_owns l (and_also (Place x es p) ds) c e =
    let some = top_owns l ds c e in
    (some.0, in_right (l, some.0) (patterns_of (Some x) es) (patterns_of l ds) some.1, some.2)

-- ---- each channel of a block is a binder

abbrev pub AreChannels : Definitions → Type 0
AreChannels no_definition = Unit {0}
AreChannels (and_also (Rule ps p) ds) = Each (λ (q : Pat). IsBinder q.on) ps × AreChannels ds
AreChannels (and_also (Place x es p) ds) = AreChannels es × AreChannels ds

pats_are_channels : (l : Option Ref) (ps : List Pat)
    → ((x : Option Ref × Pat) → IsIn x (at l ps) → IsBinder x.1.on)
    → Each (λ (q : Pat). IsBinder q.on) ps
pats_are_channels l [] h = tt
pats_are_channels l (p ∷ ps) h = (h (l, p) (inl refl), pats_are_channels l ps (λ x i. h x (inr i)))

pub are_channels : (l : Option Ref) (ds : Definitions)
    → ((x : Option Ref × Pat) → IsIn x (patterns_of l ds) → IsBinder x.1.on) → AreChannels ds
are_channels l no_definition h = tt
are_channels l (and_also (Rule ps p) ds) h = (
  pats_are_channels l ps (λ x i. h x (in_left x (at l ps) (patterns_of l ds) i)),
  are_channels l ds (λ x i. h x (in_right x (at l ps) (patterns_of l ds) i)),
)
are_channels l (and_also (Place y es p) ds) h = (
  are_channels (Some y) es (λ x i. h x (in_left x (patterns_of (Some y) es) (patterns_of l ds) i)),
  are_channels l ds (λ x i. h x (in_right x (patterns_of (Some y) es) (patterns_of l ds) i)),
)

pub block_channels : (ds : Definitions) → IsBlock ds → AreChannels ds
block_channels ds is =
    are_channels None ds (all_in (λ x. IsBinder x.1.on) (patterns_of None ds) is.channels)

-- ---- where these binders have names, each place's name is new when its turn comes, and so are its
-- channels after it

abbrev pub Fresh : List ℕ → Definitions → Type 0
Fresh bs no_definition = Unit {0}
Fresh bs (and_also (Rule ps p) ds) = Fresh bs ds
Fresh bs (and_also (Place (Binder b) es p) ds) = (is_among bs b ≡ false)
    × ((c : ℕ) → is_among (block es) c ≡ true → is_among (bs ++ b ∷ []) c ≡ false)
    × Fresh ((bs ++ b ∷ []) ++ block es) ds
Fresh bs (and_also (Place (Known n) es p) ds) = ⊥

-- the patterns and the places' names of a whole block
module _ (xs : List (Option Ref × Pat)) (qs : List ℕ)
    (same : (x y : Option Ref × Pat) → IsIn x xs → IsIn y xs → x.1.on ≡ y.1.on → x.0 ≡ y.0)
    (apart : (x : Option Ref × Pat) → IsIn x xs → (b : ℕ) → x.1.on ≡ Binder b
    → is_among qs b ≡ false)
    (once : (b : ℕ) → times qs b ≤ 1) where
  -- this stands at the top, or at a place that had its turn
  abbrev Had : (ℕ → ℕ) → Option Ref → Type 0
  Had before None = Unit {0}
  Had before (Some (Binder b)) = 0 < before b
  Had before (Some (Known n)) = ⊥

  -- a channel or a place's name that had its turn
  abbrev Was : (ℕ → ℕ) → ℕ → Type 0
  Was before c = ((l : Option Ref) × Owns xs l c × Had before l) ⊎ (0 < before c)

  had_more : (before after : ℕ → ℕ) → ((c : ℕ) → before c ≤ after c) → (l : Option Ref)
      → Had before l → Had after l
  had_more before after up None h = tt
  had_more before after up (Some (Binder b)) h = omega (arith, up b)
  had_more before after up (Some (Known n)) h = h

  was_more : (before after : ℕ → ℕ) → ((c : ℕ) → before c ≤ after c) → (c : ℕ) → Was before c
      → Was after c
  was_more before after up c (inl h) = inl (h.0, h.1, had_more before after up h.0 h.2)
  was_more before after up c (inr h) = inr (omega (arith, up c))

  fresh_from : (ds : Definitions) (before : ℕ → ℕ) (bs : List ℕ) → AreRulesAndPlaces ds
      → AreNamed ds
      → ((x : Option Ref × Pat) → IsIn x (patterns_of None ds) → IsIn x xs)
      → ((c : ℕ) → times qs c ≡ before c + times (places_of ds) c)
      → ((c : ℕ) → is_among bs c ≡ true → Was before c)
      → Fresh bs ds
  fresh_from no_definition before bs ok named sub count was = tt
  fresh_from (and_also (Rule ps p) ds) before bs ok named sub count was = fresh_from ds before bs ok
      named.1 (λ x i. sub x (in_right x (at None ps) (patterns_of None ds) i)) count was
  fresh_from (and_also (Place (Known n) es p) ds) before bs ok named sub count was =
      absurd named.0.0
  fresh_from (and_also (Place (Binder b) es p) ds) before bs ok named sub count was = (
    is_false (is_among bs b) (λ t. old b t (inl refl)),
    own_new,
    fresh_from ds after ((bs ++ b ∷ []) ++ block es) ok.1 named.1
        (λ x i. sub x (in_right x (patterns_of (Some (Binder b)) es) (patterns_of None ds) i))
        count_after was_after,
  )
    where
      after : ℕ → ℕ
      after c = before c + cond (b == c) 1 0

      count_after : (c : ℕ) → times qs c ≡ after c + times (places_of ds) c
      count_after c = omega (
        arith,
        count c,
        times-cons b (places_of es ++ places_of ds) c,
        times-append (places_of es) (places_of ds) c,
        ap (λ cs. times cs c) (rules_places es ok.0),
      )

      b_new : before b ≡ 0
      b_new = omega (arith, count_after b, once b, once_first b)

      b_place : is_among qs b ≡ false → ⊥
      b_place e = omega (arith, count_after b, once_first b, not_among qs b e)

      owned : (c : ℕ) → is_among (block es) c ≡ true → Owns xs (Some (Binder b)) c
      owned c e =
          let some = top_owns (Some (Binder b)) es c
          (ap (λ cs. is_among cs c) (sym (rules_block es ok.0)) ∙ e) in (
            some.0,
            sub (Some (Binder b), some.0) (in_left (Some (Binder b), some.0)
                (patterns_of (Some (Binder b)) es) (patterns_of None ds) some.1),
            some.2,
          )

      -- neither the place's name nor a channel of the place had its turn
      old : (c : ℕ) → is_among bs c ≡ true → (c ≡ b) ⊎ Owns xs (Some (Binder b)) c → ⊥
      old c t (inl e) = elim (was c t) [
        | inl h ↦ b_place (apart (h.0, h.1.0) h.1.1 b (h.1.2 ∙ ap Binder e))
        | inr h ↦ omega (arith, b_new, ap before e)
      ]
      old c t (inr o) = elim (was c t) [
        | inl h ↦ (let at_b = subst (Had before)
            (same (h.0, h.1.0) (Some (Binder b), o.0) h.1.1 o.1 (h.1.2 ∙ sym o.2)) h.2 in
            omega (arith, b_new, at_b))
        | inr h ↦ omega (arith, count c, not_among qs c (apart (Some (Binder b), o.0) o.1 c o.2))
      ]

      own_new : (c : ℕ) → is_among (block es) c ≡ true → is_among (bs ++ b ∷ []) c ≡ false
      own_new c e = is_false (is_among (bs ++ b ∷ []) c) (λ t. elim (either_true (is_among bs c)
          (is_among (b ∷ []) c) (sym (among-append bs (b ∷ []) c) ∙ t)) [
            | inl u ↦ old c u (inr (owned c e))
            | inr u ↦ elim (either_true (b == c) false u) [
              | inl v ↦ (let o = owned c e in b_place
                  (apart (Some (Binder b), o.0) o.1 b (o.2 ∙ ap Binder (sym (eqb-true b c v)))))
              | inr v ↦ cc
            ]
          ])

      up : (c : ℕ) → before c ≤ after c
      up c = omega arith

      was_after : (c : ℕ) → is_among ((bs ++ b ∷ []) ++ block es) c ≡ true → Was after c
      was_after c t = elim (either_true (is_among (bs ++ b ∷ []) c) (is_among (block es) c)
          (sym (among-append (bs ++ b ∷ []) (block es) c) ∙ t)) [
            | inl u ↦ elim (either_true (is_among bs c) (is_among (b ∷ []) c)
                (sym (among-append bs (b ∷ []) c) ∙ u)) [
                  | inl v ↦ was_more before after up c (was c v)
                  | inr v ↦ elim (either_true (b == c) false v) [
                    | inl w ↦ inr (omega (arith, ap {B = ℕ} (λ x. cond x 1 0) w))
                    | inr w ↦ cc
                  ]
                ]
            | inr u ↦ inl (Some (Binder b), owned c u, omega (arith, once_first b))
          ]

pub block_fresh : (ds : Definitions) → IsBlock ds → AreRulesAndPlaces ds
    → Fresh (top_channels ds) ds
block_fresh ds is ok =
    fresh_from (patterns_of None ds) (places_of ds) (same_place (patterns_of None ds) is.agree)
    (all_in (λ x. (b : ℕ) → x.1.on ≡ Binder b → is_among (places_of ds) b ≡ false)
    (patterns_of None ds) is.apart)
    is.one_place ds (λ c. 0) (top_channels ds) ok is.places (λ x i. i) (λ c. omega arith)
    (λ c t. inl (None, top_owns None ds c t, tt))
