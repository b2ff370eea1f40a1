-- The fold over what is asked keeps the first fault.
use Rattle.std.proofs.Common.{◌≡◌, ◌≢◌, ℕ, ◌⊎◌, inl, inr, List, [], ◌∷◌, Option, Some, None, Bool}
use Rattle.std.proofs.Common.{true, false, cond, refl, sym, ap, ◌∙◌, subst, arith, length, ◌==◌}
use Rattle.std.proofs.Common.{◌||◌, ◌&&◌, eqb-true, eq-eqb}
use Rattle.std.specs.Prelude.{nat_lt}
use Rattle.std.proofs.lemmas.Bool.{and_parts, ltb-true, ltb-false}
use Rattle.chem_model.specs.Each.{IsIn}
use Rattle.join_parse.specs.Grammar.{TreeOfText}
use Rattle.sort_laws.specs.declared.sorts.SortArg.{SortArg}
use Rattle.sort_laws.specs.declared.sorts.SortArg.TheVariants as arg
use Rattle.sort_laws.specs.Sorted.{Sorting}
use Rattle.sort_laws.specs.Asks.{Demand, defines, calls, sends, continues, IsWrongAs}
use Rattle.sort_check.specs.declared.fault.Found.{Found}
use Rattle.sort_check.specs.Asked.{Asked, asked_of}
use Rattle.sort_check.specs.Judged.{IsFault, IsSooner, IsFirstFault, HasNoFault}
use Rattle.sort_check.specs.inside.First.{same_sort, same_sorts, unless, wrong_as, sooner, noted}
use Rattle.sort_check.specs.inside.First.{first_of}

-- ---- the computed number is the one of the definition

not_equal : (m n : ℕ) → (m ≢ n) → m == n ≡ false
not_equal m n h = go (m == n) refl
  where
    go : (u : Bool) → m == n ≡ u → m == n ≡ false
    go true c = absurd (h (eqb-true m n c))
    go false c = c

unequal : (m n : ℕ) → m == n ≡ false → m ≢ n
unequal m n c e = let clash : true ≡ false = sym (eq-eqb m n e) ∙ c in cc

same_sort-is : (a b : SortArg) → same_sort a b ≡ true → a ≡ b
same_sort-is arg.Place arg.Place e = refl
same_sort-is arg.Num arg.Num e = refl
same_sort-is (arg.Named i) (arg.Named j) e = ap arg.Named (eqb-true i j e)
same_sort-is _ _ e = cc

same_sort-refl : (a : SortArg) → same_sort a a ≡ true
same_sort-refl arg.Place = refl
same_sort-refl arg.Num = refl
same_sort-refl (arg.Named i) = eq-eqb i i refl

pub same_sorts-is : (xs ys : List SortArg) → same_sorts xs ys ≡ true → xs ≡ ys
same_sorts-is [] [] e = refl
same_sorts-is [] (b ∷ ys) e = cc
same_sorts-is (a ∷ xs) [] e = cc
same_sorts-is (a ∷ xs) (b ∷ ys) e =
    let h = and_parts (same_sort a b) (same_sorts xs ys) e in
    λ i. same_sort-is a b h.0 i ∷ same_sorts-is xs ys h.1 i

same_sorts-refl : (xs : List SortArg) → same_sorts xs xs ≡ true
same_sorts-refl [] = refl
same_sorts-refl (a ∷ xs) = ap (λ u. u && same_sorts xs xs) (same_sort-refl a) ∙ same_sorts-refl xs

-- a test that stands for an equation
unless-wrong : {X : Type 0} (a b : X) (u : Bool) (j k : ℕ) → (a ≡ b → u ≡ true)
    → unless u j ≡ Some k → (u ≡ true → a ≡ b) → (k ≡ j) × (a ≢ b)
unless-wrong a b true j k f e g = absurd (let clash = e in cc)
unless-wrong a b false j k f e g =
    (let is : j ≡ k = cc in sym is, λ q. let clash : false ≡ true = f q in cc)

wrong-unless : {X : Type 0} (a b : X) (u : Bool) (j k : ℕ) → (u ≡ true → a ≡ b) → (k ≡ j) × (a ≢ b)
    → unless u j ≡ Some k
wrong-unless a b true j k g w = absurd (w.1 (g refl))
wrong-unless a b false j k g w = ap Some (sym w.0)

is_same : (j k : ℕ) → Some j ≡ Some k → k ≡ j
is_same j k e = let is : j ≡ k = cc in sym is

module _ (args : ℕ → List SortArg) where
  pub wrong_is : (d : Demand) (o : Option SortArg) (k : ℕ) → wrong_as args d o ≡ Some k
      → IsWrongAs args d o k
  wrong_is (defines count) None k e = is_same 4 k e
  wrong_is (defines count) (Some arg.Place) k e = is_same 4 k e
  wrong_is (defines count) (Some arg.Num) k e = is_same 4 k e
  wrong_is (defines count) (Some (arg.Named i)) k e =
      unless-wrong (length (args i)) count (length (args i) == count) 5 k
      (eq-eqb (length (args i)) count) e (eqb-true (length (args i)) count)
  wrong_is (calls count) None k e = cc
  wrong_is (calls count) (Some arg.Place) k e = is_same 6 k e
  wrong_is (calls count) (Some arg.Num) k e = is_same 6 k e
  wrong_is (calls count) (Some (arg.Named i)) k e =
      unless-wrong (length (args i)) count (length (args i) == count) 7 k
      (eq-eqb (length (args i)) count) e (eqb-true (length (args i)) count)
  wrong_is (sends s) None k e = cc
  wrong_is (sends s) (Some u) k e = unless-wrong u s (same_sort u s) 8 k
      (λ q. subst (λ v. same_sort u v ≡ true) q (same_sort-refl u)) e (same_sort-is u s)
  wrong_is (continues ss) None k e = cc
  wrong_is (continues ss) (Some arg.Place) k e = is_same 8 k e
  wrong_is (continues ss) (Some arg.Num) k e = is_same 8 k e
  wrong_is (continues ss) (Some (arg.Named i)) k e =
      unless-wrong (args i) ss (same_sorts (args i) ss) 8 k
      (λ q. subst (λ v. same_sorts (args i) v ≡ true) q (same_sorts-refl (args i))) e
      (same_sorts-is (args i) ss)

  pub is_wrong : (d : Demand) (o : Option SortArg) (k : ℕ) → IsWrongAs args d o k
      → wrong_as args d o ≡ Some k
  is_wrong (defines count) None k w = ap Some (sym w)
  is_wrong (defines count) (Some arg.Place) k w = ap Some (sym w)
  is_wrong (defines count) (Some arg.Num) k w = ap Some (sym w)
  is_wrong (defines count) (Some (arg.Named i)) k w = wrong-unless (length (args i)) count
      (length (args i) == count) 5 k (eqb-true (length (args i)) count) w
  is_wrong (calls count) None k w = absurd w
  is_wrong (calls count) (Some arg.Place) k w = ap Some (sym w)
  is_wrong (calls count) (Some arg.Num) k w = ap Some (sym w)
  is_wrong (calls count) (Some (arg.Named i)) k w = wrong-unless (length (args i)) count
      (length (args i) == count) 7 k (eqb-true (length (args i)) count) w
  is_wrong (sends s) None k w = absurd w
  is_wrong (sends s) (Some u) k w = wrong-unless u s (same_sort u s) 8 k (same_sort-is u s) w
  is_wrong (continues ss) None k w = absurd w
  is_wrong (continues ss) (Some arg.Place) k w = ap Some (sym w)
  is_wrong (continues ss) (Some arg.Num) k w = ap Some (sym w)
  is_wrong (continues ss) (Some (arg.Named i)) k w =
      wrong-unless (args i) ss (same_sorts (args i) ss) 8 k (same_sorts-is (args i) ss) w

-- ---- the fold

sooner_refl : (k q : ℕ) → IsSooner k q k q
sooner_refl k q = inr (refl, omega arith)

sooner_trans : (k q l r m u : ℕ) → IsSooner k q l r → IsSooner l r m u → IsSooner k q m u
sooner_trans k q l r m u (inl a) (inl b) = inl (omega (arith, a, b))
sooner_trans k q l r m u (inl a) (inr b) = inl (omega (arith, a, b.0))
sooner_trans k q l r m u (inr a) (inl b) = inl (omega (arith, a.0, b))
sooner_trans k q l r m u (inr a) (inr b) = inr (a.0 ∙ b.0, omega (arith, a.1, b.1))

abbrev Before : Found → Found → Type 0
Before f g = IsSooner f.kind f.place g.kind g.place

-- the sooner of two, and which it is
record Kept (f g h : Found) : Type 0 where
  pub is : (h ≡ f) ⊎ (h ≡ g)
  pub one : Before h f
  pub other : Before h g

kept : (f g : Found) → (h : Found) × (sooner (Some f) g ≡ Some h) × Kept f g h
kept f g = go (nat_lt g.place f.place) refl (g.place == f.place) refl (nat_lt g.kind f.kind) refl
  where
    go : (a : Bool) → nat_lt g.place f.place ≡ a → (b : Bool) → g.place == f.place ≡ b → (c : Bool)
        → nat_lt g.kind f.kind ≡ c
        → (h : Found) × (cond (a || (b && c)) (Some g) (Some f) ≡ Some h) × Kept f g h
    go true p b q c r = (
      g,
      refl,
      record {
        is = inr refl;
        one = inl (ltb-true g.place f.place p);
        other = sooner_refl g.kind g.place;
      },
    )
    go false p true q true r = (
      g,
      refl,
      record {
        is = inr refl;
        one = inr (eqb-true g.place f.place q, omega (arith, ltb-true g.kind f.kind r));
        other = sooner_refl g.kind g.place;
      },
    )
    go false p true q false r = (
      f,
      refl,
      record {
        is = inl refl;
        one = sooner_refl f.kind f.place;
        other = inr (sym (eqb-true g.place f.place q), ltb-false g.kind f.kind r);
      },
    )
    go false p false q c r = (
      f,
      refl,
      record {
        is = inl refl;
        one = sooner_refl f.kind f.place;
        other = inl (omega (
          arith,
          ltb-false g.place f.place p,
          λ (e : g.place ≡ f.place). unequal g.place f.place q e,
        ));
      },
    )

-- a fault of one of these
record IsOf (args : ℕ → List SortArg) (xs : List Asked) (kind place : ℕ) : Type 0 where
  pub asked : Asked
  pub stands : IsIn asked xs
  pub here : place ≡ asked.place
  pub wrong : IsWrongAs args asked.demand asked.sort kind

-- what the fold answers: the first of what was kept and of the faults of the list
record Best (args : ℕ → List SortArg) (o : Option Found) (xs : List Asked)
    (r : Option Found) : Type 0 where
  pub from : (f : Found) → r ≡ Some f → (o ≡ Some f) ⊎ IsOf args xs f.kind f.place
  pub before : (f g : Found) → r ≡ Some f → o ≡ Some g → Before f g
  pub first : (f : Found) → r ≡ Some f → (k q : ℕ) → IsOf args xs k q → IsSooner f.kind f.place k q
  pub no_old : r ≡ None → o ≡ None
  pub no_fault : r ≡ None → (k q : ℕ) → IsOf args xs k q → ⊥

of_more : (args : ℕ → List SortArg) (a : Asked) (xs : List Asked) (k q : ℕ) → IsOf args xs k q
    → IsOf args (a ∷ xs) k q
of_more args a xs k q h =
    record { asked = h.asked; stands = inr h.stands; here = h.here; wrong = h.wrong }

-- a fault of the first one, or of those behind it
of_first : (args : ℕ → List SortArg) (a : Asked) (xs : List Asked) (k q : ℕ)
    → IsOf args (a ∷ xs) k q
    → ((q ≡ a.place) × (wrong_as args a.demand a.sort ≡ Some k)) ⊎ IsOf args xs k q
of_first args a xs k q h = go h.stands
  where
    go : (h.asked ≡ a) ⊎ IsIn h.asked xs
        → ((q ≡ a.place) × (wrong_as args a.demand a.sort ≡ Some k)) ⊎ IsOf args xs k q
    go (inl e) = inl (
      h.here ∙ ap (λ (b : Asked). b.place) e,
      subst (λ (b : Asked). wrong_as args b.demand b.sort ≡ Some k) e
          (is_wrong args h.asked.demand h.asked.sort k h.wrong),
    )
    go (inr i) = inr (record { asked = h.asked; stands = i; here = h.here; wrong = h.wrong })

module _ (args : ℕ → List SortArg) (a : Asked) (xs : List Asked) (r : Option Found) where
  -- nothing is wrong with the first
  passed : (o : Option Found) → wrong_as args a.demand a.sort ≡ None → Best args o xs r
      → Best args o (a ∷ xs) r
  passed o c b = record {
    from = λ f e.
        elim (b.from f e) [ inl u ↦ inl u | inr v ↦ inr (of_more args a xs f.kind f.place v) ];
    before = b.before;
    first = λ f e k q h. elim (of_first args a xs k q h) [
      | inl u ↦ absurd (let clash : None ≡ Some k = sym c ∙ u.1 in cc)
      | inr v ↦ b.first f e k q v
    ];
    no_old = b.no_old;
    no_fault = λ e k q h. elim (of_first args a xs k q h) [
      | inl u ↦ absurd (let clash : None ≡ Some k = sym c ∙ u.1 in cc)
      | inr v ↦ b.no_fault e k q v
    ];
  }

  -- the first is wrong by j, and this is kept with what was kept before
  module _ (j : ℕ) (c : wrong_as args a.demand a.sort ≡ Some j) where
    abbrev new : Found
    new = record { kind = j; place = a.place }

    new_is : IsOf args (a ∷ xs) j a.place
    new_is = record {
      asked = a;
      stands = inl refl;
      here = refl;
      wrong = wrong_is args a.demand a.sort j c;
    }

    same_kind : (k : ℕ) → wrong_as args a.demand a.sort ≡ Some k → j ≡ k
    same_kind k e = let both : Some j ≡ Some k = sym c ∙ e in cc

    alone : Best args (Some new) xs r → Best args None (a ∷ xs) r
    alone b = record {
      from = λ f e. elim (b.from f e) [
        | inl u ↦ (let is : new ≡ f = cc in
            inr (subst (λ (g : Found). IsOf args (a ∷ xs) g.kind g.place) is new_is))
        | inr v ↦ inr (of_more args a xs f.kind f.place v)
      ];
      before = λ f g e d. absurd (let clash = d in cc);
      first = λ f e k q h. elim (of_first args a xs k q h) [
        | inl u ↦ subst (λ (m : ℕ). IsSooner f.kind f.place m q) (same_kind k u.1)
            (subst (λ (m : ℕ). IsSooner f.kind f.place j m) (sym u.0) (b.before f new e refl))
        | inr v ↦ b.first f e k q v
      ];
      no_old = λ e. refl;
      no_fault = λ e k q h. let clash = b.no_old e in cc;
    }

    beside : (g h : Found) → Kept g new h → Best args (Some h) xs r → Best args (Some g) (a ∷ xs) r
    beside g h kept_h b = record {
      from = λ f e. elim (b.from f e) [
        | inl u ↦ (let is : h ≡ f = cc in elim kept_h.is [
          | inl v ↦ inl (ap Some (sym v ∙ is))
          | inr v ↦
              inr (subst (λ (x : Found). IsOf args (a ∷ xs) x.kind x.place) (sym v ∙ is) new_is)
        ])
        | inr v ↦ inr (of_more args a xs f.kind f.place v)
      ];
      before = λ f x e d. (let is : g ≡ x = cc in subst (Before f) is
          (sooner_trans f.kind f.place h.kind h.place g.kind g.place (b.before f h e refl)
          kept_h.one));
      first = λ f e k q u. elim (of_first args a xs k q u) [
        | inl v ↦ subst (λ (m : ℕ). IsSooner f.kind f.place m q) (same_kind k v.1)
            (subst (λ (m : ℕ). IsSooner f.kind f.place j m) (sym v.0)
            (sooner_trans f.kind f.place h.kind h.place j a.place (b.before f h e refl)
            kept_h.other))
        | inr v ↦ b.first f e k q v
      ];
      no_old = λ e. (let clash = b.no_old e in cc);
      no_fault = λ e k q u. (let clash = b.no_old e in cc);
    }

best : (args : ℕ → List SortArg) (o : Option Found) (xs : List Asked)
    → Best args o xs (first_of args o xs)
best args o [] = record {
  from = λ f e. inl e;
  before = λ f g e d. (let is : f ≡ g = (let both : Some f ≡ Some g = sym e ∙ d in cc) in
      subst (Before f) is (sooner_refl f.kind f.place));
  first = λ f e k q h. absurd h.stands;
  no_old = λ e. e;
  no_fault = λ e k q h. h.stands;
}
best args o (a ∷ xs) = go (wrong_as args a.demand a.sort) refl o (λ x. best args x xs)
  where
    go : (w : Option ℕ) → wrong_as args a.demand a.sort ≡ w → (o : Option Found)
        → ((x : Option Found) → Best args x xs (first_of args x xs))
        → Best args o (a ∷ xs) (first_of args (noted o a.place w) xs)
    go None c x ih = passed args a xs (first_of args x xs) x c (ih x)
    go (Some j) c None ih =
        alone args a xs (first_of args (Some (record { kind = j; place = a.place })) xs) j c
        (ih (Some (record { kind = j; place = a.place })))
    go (Some j) c (Some g) ih =
        let k = kept g (record { kind = j; place = a.place }) in
        subst (λ o. Best args (Some g) (a ∷ xs) (first_of args o xs)) (sym k.1)
        (beside args a xs (first_of args (Some k.0) xs) j c g k.0 k.2 (ih (Some k.0)))

-- ---- the faults of a tree

fault_of : (t : Sorting) (tree : TreeOfText) (k q : ℕ) → IsFault t tree k q
    → IsOf t.args (asked_of t tree) k q
fault_of t tree k q h =
    record { asked = h.asked; stands = h.stands; here = h.here; wrong = h.wrong }

pub no_first : (t : Sorting) (tree : TreeOfText) → first_of t.args None (asked_of t tree) ≡ None
    → HasNoFault t tree
no_first t tree e k q h =
    (best t.args None (asked_of t tree)).no_fault e k q (fault_of t tree k q h)

pub some_first : (t : Sorting) (tree : TreeOfText) (f : Found)
    → first_of t.args None (asked_of t tree) ≡ Some f → IsFirstFault t tree f.kind f.place
some_first t tree f e =
    let b = best t.args None (asked_of t tree) in (
      elim (b.from f e) [
        | inl u ↦ absurd (let clash = u in cc)
        | inr h ↦ record { asked = h.asked; stands = h.stands; here = h.here; wrong = h.wrong }
      ],
      λ k q h. b.first f e k q (fault_of t tree k q h),
    )

-- ---- one first fault

sooner_both : (k q l r : ℕ) → IsSooner k q l r → IsSooner l r k q → (k ≡ l) × (q ≡ r)
sooner_both k q l r (inl a) (inl b) = absurd (omega (arith, a, b))
sooner_both k q l r (inl a) (inr b) = absurd (omega (arith, a, b.0))
sooner_both k q l r (inr a) (inl b) = absurd (omega (arith, a.0, b))
sooner_both k q l r (inr a) (inr b) = (omega (arith, a.1, b.1), a.0)

pub one_first : (t : Sorting) (tree : TreeOfText) (k q l r : ℕ) → IsFirstFault t tree k q
    → IsFirstFault t tree l r → (k ≡ l) × (q ≡ r)
one_first t tree k q l r a b = sooner_both k q l r (a.1 l r b.0) (b.1 k q a.0)
