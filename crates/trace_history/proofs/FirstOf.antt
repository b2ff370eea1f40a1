-- The first of a list by an order, looked for from the front.
use Rattle.std.proofs.Common.{◌≡◌, ℕ, ◌≤◌, length, drop, List, [], ◌∷◌, Option, Some, None, Bool}
use Rattle.std.proofs.Common.{true, false, cond, refl, ap, sym, ◌∙◌, ◌&&◌, ◌⊎◌, inl, inr}
use Rattle.std.proofs.lemmas.List.{drop_all}
use Rattle.chem_model.specs.Each.{Each, IsIn}
use Rattle.book_store.specs.Walk.{IsFirstOf}
use Rattle.trace_history.specs.inside.Search.{first_of, beats}

-- an order: none comes before one that comes before it, and one that comes not before a second,
-- which comes not before a third, comes not before the third
pub record IsOrder {X : Type 0} (before : X → X → Bool) : Type 0 where
  pub asym : (x y : X) → before x y ≡ true → before y x ≡ false
  pub along : (x y z : X) → before x y ≡ false → before y z ≡ false → before x z ≡ false

-- what was found in the end: it was found before, or is a member that passes; no member that passes
-- comes before it, nor does what was found before
pub record Ends {X : Type 0} (test : X → Bool) (before : X → X → Bool) (found : Option X)
    (xs : List X) (y : X) : Type 0 where
  pub from : (found ≡ Some y) ⊎ (IsIn y xs × (test y ≡ true))
  pub members : Each (λ x. test x ≡ true → before x y ≡ false) xs
  pub earlier : (z : X) → found ≡ Some z → before z y ≡ false

itself : {X : Type 0} (before : X → X → Bool) → IsOrder before → (x : X) (t : Bool) → before x x ≡ t
    → t ≡ false
itself before o x false e = refl
itself before o x true e = let f = o.asym x x e in sym e ∙ f

module _ {X : Type 0} (test : X → Bool) (before : X → X → Bool) (o : IsOrder before) where
  -- one more member at the front
  more : (found : Option X) (x : X) (xs : List X) (y : X) (b t : Bool) → beats before x found ≡ b
      → test x ≡ t → Ends test before (cond (b && t) (Some x) found) xs y
      → Ends test before found (x ∷ xs) y
  more found x xs y true true b t e = record {
    from = go e.from;
    members = (λ _. e.earlier x refl, e.members);
    earlier =
        λ z is. o.along z x y (o.asym x z (ap (beats before x) (sym is) ∙ b)) (e.earlier x refl);
  }
    where
      go : (Some x ≡ Some y) ⊎ (IsIn y xs × (test y ≡ true))
          → (found ≡ Some y) ⊎ (IsIn y (x ∷ xs) × (test y ≡ true))
      go (inl is) = let same : y ≡ x = cc in inr (inl same, ap test same ∙ t)
      go (inr at) = inr (inr at.0, at.1)
  more found x xs y true false b t e = record {
    from = later e.from;
    members = (λ passes. let no : false ≡ true = sym t ∙ passes in cc, e.members);
    earlier = e.earlier;
  }
    where
      later : (found ≡ Some y) ⊎ (IsIn y xs × (test y ≡ true))
          → (found ≡ Some y) ⊎ (IsIn y (x ∷ xs) × (test y ≡ true))
      later (inl is) = inl is
      later (inr at) = inr (inr at.0, at.1)
  more found x xs y false t' b t e = record {
    from = later e.from;
    members = (λ passes. here found b e.earlier, e.members);
    earlier = e.earlier;
  }
    where
      later : (found ≡ Some y) ⊎ (IsIn y xs × (test y ≡ true))
          → (found ≡ Some y) ⊎ (IsIn y (x ∷ xs) × (test y ≡ true))
      later (inl is) = inl is
      later (inr at) = inr (inr at.0, at.1)

      here : (f : Option X) → beats before x f ≡ false → ((z : X) → f ≡ Some z → before z y ≡ false)
          → before x y ≡ false
      here None c g = cc
      here (Some z) c g = o.along x z y c (g z refl)

  pub ends : (found : Option X) (xs : List X) (y : X) → first_of test before found xs ≡ Some y
      → Ends test before found xs y
  ends found [] y e = record {
    from = inl e;
    members = tt;
    earlier = λ z is.
        let same : z ≡ y = cc in
        ap (before z) (sym same) ∙ itself before o z (before z z) refl;
  }
  ends found (x ∷ xs) y e = more found x xs y (beats before x found) (test x) refl refl
      (ends (cond (beats before x found && test x) (Some x) found) xs y e)

  -- where none was found, none was found before, and no member passes
  pub stays : (found : Option X) (xs : List X) → first_of test before found xs ≡ None
      → (found ≡ None) × Each (λ x. test x ≡ false) xs
  stays found [] e = (e, tt)
  stays found (x ∷ xs) e =
      go found (test x) refl (stays (cond (beats before x found && test x) (Some x) found) xs e)
    where
      go : (f : Option X) (t : Bool) → test x ≡ t
          → (cond (beats before x f && t) (Some x) f ≡ None) × Each (λ x. test x ≡ false) xs
          → (f ≡ None) × Each (λ x. test x ≡ false) (x ∷ xs)
      go None true c h = let no = h.0 in cc
      go None false c h = (refl, (c, h.1))
      go (Some z) true c h = absurd (kept (before x z) h.0)
        where
          kept : (b : Bool) → cond (b && true) (Some x) (Some z) ≡ None → ⊥
          kept true k = cc
          kept false k = cc
      go (Some z) false c h = absurd (kept (before x z) h.0)
        where
          kept : (b : Bool) → cond (b && false) (Some x) (Some z) ≡ None → ⊥
          kept true k = cc
          kept false k = cc

  is_first : (xs : List X) (r : Option X) → first_of test before None xs ≡ r
      → IsFirstOf test before xs r
  is_first xs None e = (stays None xs e).1
  is_first xs (Some y) e = let f = ends None xs y e in go f f.from
    where
      go : Ends test before None xs y → (None ≡ Some y) ⊎ (IsIn y xs × (test y ≡ true))
          → IsFirstOf test before xs (Some y)
      go f (inl is) = cc
      go f (inr at) = (at.0, at.1, f.members)

-- what the search from the front finds is the first
pub finds_first : {X : Type 0} (test : X → Bool) (before : X → X → Bool) → IsOrder before
    → (xs : List X) (r : Option X) → first_of test before None xs ≡ r → IsFirstOf test before xs r
finds_first test before o xs r e = is_first test before o xs r e

-- and so it is once all members were looked at
pub finds_at_end : {X : Type 0} (test : X → Bool) (before : X → X → Bool) → IsOrder before
    → (xs items : List X) (i : ℕ) (r : Option X) → items ≡ xs → length items ≤ i
    → first_of test before r (drop i items) ≡ first_of test before None items
    → IsFirstOf test before xs r
finds_at_end test before o xs items i r e h so_far =
    let all : r ≡ first_of test before None items =
    ap (first_of test before r) (sym (drop_all i items h)) ∙ so_far in
    finds_first test before o xs r (ap (first_of test before None) (sym e) ∙ sym all)
