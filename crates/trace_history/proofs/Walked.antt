-- What a walk along keys in order finds doesn't come after any member to which a key leads.
use Rattle.std.proofs.Common.{◌≡◌, List, Option, Some, None, Bool, true, false, ap, ◌∙◌, ◌⊎◌, inl}
use Rattle.std.proofs.Common.{inr}
use Rattle.chem_model.specs.Each.{IsIn}
use Rattle.book_store.specs.Walk.{walk}
use Rattle.book_store.proofs.WalkLaws.{InOrder, Leads, Found, found, none_found}
use Rattle.trace_history.specs.inside.Passed.{Beaten, IsOne}

module _ {K X : Type 0} (find : K → Option X) where
  -- what is found, if anything, is a member that passes, and none to which a key leads comes before
  -- it
  pub walked : (test : X → Bool) (before : X → X → Bool) (below : K → K → Bool) (xs : List X)
      (ks : List K) → ((k : K) (x : X) → find k ≡ Some x → IsIn x xs × (test x ≡ true))
      → InOrder below ks → ((x : X) → before x x ≡ false)
      → ((k j : K) (x y : X) → find k ≡ Some x → find j ≡ Some y → below k j ≡ false
      → before x y ≡ false)
      → (o : Option X) → walk find ks ≡ o
      → IsOne test xs o × ((x : X) → Leads find ks x → Beaten before x o)
  walked test before below xs ks right h irr keeps None e = (
    tt,
    λ x l.
        let none = none_found find ks l.0 e l.1 in
        let some = l.2 in
        cc,
  )
  walked test before below xs ks right h irr keeps (Some y) e =
      let r = found find below ks y h e in
      (right r.key y r.stands, λ x l. go r x l (r.others l.0 x l.1 l.2))
    where
      go : (r : Found find below ks y) (x : X) (l : Leads find ks x)
          → (x ≡ y) ⊎ (below l.0 r.key ≡ false) → before x y ≡ false
      go r x l (inl same) = ap (λ z. before z y) same ∙ irr y
      go r x l (inr later) = keeps l.0 r.key x y l.2 r.stands later
