-- The better one of two that were found, and when it is the first of all.
use Rattle.std.proofs.Common.{◌≡◌, ℕ, List, ◌++◌, Option, Some, None, Bool, true, false, refl, sym}
use Rattle.std.proofs.Common.{◌∙◌, subst, ◌⊎◌, inl, inr}
use Rattle.chem_model.specs.declared.numbered.NumberedAtom.{NumberedAtom}
use Rattle.chem_model.specs.declared.numbered.Numbered.{Numbered}
use Rattle.chem_model.specs.Each.{IsIn}
use Rattle.chem_model.specs.Numbered.{standing}
use Rattle.chem_laws.proofs.Lists.{Each-weaker}
use Rattle.book_store.specs.Walk.{IsFirstOf}
use Rattle.trace_history.specs.inside.Search.{beats, request_before}
use Rattle.chem_causes.specs.Ready.{can_act}
use Rattle.book_store.specs.Older.{whole}
use Rattle.trace_history.specs.inside.Passed.{Beaten, IsOne}
use Rattle.book_store.specs.Asked.{AreAsked}
use Rattle.trace_history.specs.inside.Chosen.{IsFirstAsking}
use Rattle.book_store.specs.declared.asking.Asking.{Asking}
use Rattle.trace_history.proofs.Acting.{asked_candidate}
use Rattle.trace_history.proofs.FirstOf.{IsOrder}
use Rattle.trace_history.proofs.Joined.{act_same}
use Rattle.book_store.proofs.Members.{in_first, in_last, in_either}
use Rattle.book_store.proofs.WalkLaws.{each_in, in_each}

module _ {X : Type 0} (before : X → X → Bool) where
  -- the better one of two
  pub record Picks (one other best : Option X) : Type 0 where
    pub from : (best ≡ one) ⊎ (best ≡ other)
    pub over_one : (x : X) → Beaten before x one → Beaten before x best
    pub over_other : (x : X) → Beaten before x other → Beaten before x best

  module _ (order : IsOrder before) where
    pub pick_other : (one : Option X) (y : X) → beats before y one ≡ true
        → Picks one (Some y) (Some y)
    pick_other one y e =
        record { from = inr refl; over_one = λ x h. go one e x h; over_other = λ x h. h }
      where
        go : (o : Option X) → beats before y o ≡ true → (x : X) → Beaten before x o
            → before x y ≡ false
        go None b x h = absurd h
        go (Some z) b x h = order.along x z y h (order.asym y z b)

    pub pick_one : (one : Option X) (y : X) → beats before y one ≡ false → Picks one (Some y) one
    pick_one None y e = cc
    pick_one (Some z) y e =
        record { from = inl refl; over_one = λ x h. h; over_other = λ x h. order.along x y z h e }

    pub pick_only : (one : Option X) → Picks one None one
    pick_only one = record { from = inl refl; over_one = λ x h. h; over_other = λ x h. absurd h }

module _ {X : Type 0} (test : X → Bool) (before : X → X → Bool) where
  -- what is no worse than each member that passes is the first
  pub first_is : (xs : List X) (o : Option X) → IsOne test xs o
      → ((x : X) → IsIn x xs → test x ≡ true → Beaten before x o) → IsFirstOf test before xs o
  first_is xs None one h = each_in (λ x. test x ≡ false) xs (λ x at. go x at (test x) refl)
    where
      go : (x : X) → IsIn x xs → (t : Bool) → test x ≡ t → test x ≡ false
      go x at false e = e
      go x at true e = absurd (h x at e)
  first_is xs (Some y) one h =
      (one.0, one.1, each_in (λ x. test x ≡ true → before x y ≡ false) xs h)

  first_one : (xs : List X) (o : Option X) → IsFirstOf test before xs o → IsOne test xs o
  first_one xs None f = tt
  first_one xs (Some y) f = (f.0, f.1)

  first_beats : (xs : List X) (o : Option X) → IsFirstOf test before xs o → (x : X) → IsIn x xs
      → test x ≡ true → Beaten before x o
  first_beats xs None f x at h = let not = in_each (λ z. test z ≡ false) xs x at f in cc
  first_beats xs (Some y) f x at h =
      in_each (λ z. test z ≡ true → before z y ≡ false) xs x at f.2 h

  one_first : (xs ys : List X) (o : Option X) → IsOne test xs o → IsOne test (xs ++ ys) o
  one_first xs ys None h = tt
  one_first xs ys (Some y) h = (in_first xs ys y h.0, h.1)

  one_last : (xs ys : List X) (o : Option X) → IsOne test ys o → IsOne test (xs ++ ys) o
  one_last xs ys None h = tt
  one_last xs ys (Some y) h = (in_last xs ys y h.0, h.1)

  -- the better one of the first of the ones and of one that is no worse than each of the others
  first_of_two : (xs ys : List X) (one other best : Option X) → IsFirstOf test before ys one
      → IsOne test xs other → ((x : X) → IsIn x xs → test x ≡ true → Beaten before x other)
      → Picks before one other best → IsFirstOf test before (xs ++ ys) best
  first_of_two xs ys one other best f h all p = first_is (xs ++ ys) best (from p.from)
      (λ x at passes. go x passes (in_either xs ys x at))
    where
      from : (best ≡ one) ⊎ (best ≡ other) → IsOne test (xs ++ ys) best
      from (inl e) = subst (IsOne test (xs ++ ys)) (sym e) (one_last xs ys one (first_one ys one f))
      from (inr e) = subst (IsOne test (xs ++ ys)) (sym e) (one_first xs ys other h)

      go : (x : X) → test x ≡ true → IsIn x xs ⊎ IsIn x ys → Beaten before x best
      go x passes (inl at) = p.over_other x (all x at passes)
      go x passes (inr at) = p.over_one x (first_beats ys one f x at passes)

-- the same by another test that says the same
first_alike : {X : Type 0} (test test2 : X → Bool) (before : X → X → Bool)
    → ((x : X) → test2 x ≡ test x) → (xs : List X) (o : Option X) → IsFirstOf test before xs o
    → IsFirstOf test2 before xs o
first_alike test test2 before same xs None f =
    Each-weaker (λ x. test x ≡ false) (λ x. test2 x ≡ false) (λ x h. same x ∙ h) xs f
first_alike test test2 before same xs (Some y) f = (
  f.0,
  same y ∙ f.1,
  Each-weaker (λ x. test x ≡ true → before x y ≡ false) (λ x. test2 x ≡ true → before x y ≡ false)
      (λ x h passes. h (sym (same x) ∙ passes)) xs f.2,
)

-- the first of the newest requests and of the older ones
pub first_request_is :
    (n : Numbered) (from : ℕ) (old xs : List NumberedAtom) (s : Asking)
    (newest older best : Option NumberedAtom) → xs ≡ n.atoms
    → AreAsked n.version (standing n.places) s old
    → IsFirstOf (can_act n) (request_before n from) xs newest
    → IsFirstAsking n from s.ready old older → Picks (request_before n from) newest older best
    → IsFirstOf (can_act (whole old n)) (request_before n from) (old ++ n.atoms) best
first_request_is n from old xs s newest older best is asked f g p =
    first_alike (can_act n) (can_act (whole old n)) (request_before n from) (act_same old n)
    (old ++ n.atoms) best
    (first_of_two (can_act n) (request_before n from) old n.atoms newest older best
    (subst (λ (l : List NumberedAtom). IsFirstOf (can_act n) (request_before n from) l newest) is f)
    g.one (λ a at can. g.all a at (asked_candidate n s a (asked a at) can) can) p)
