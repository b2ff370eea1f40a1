-- Two sites of a list, each on its side of a place, and a move from one of them to the other.
use Rattle.std.proofs.Common.{◌≡◌, ℕ, zero, suc, ◌<◌, true, List, [], ◌∷◌, ◌++◌, length, Option}
use Rattle.std.proofs.Common.{Some, Result, Ok, Err, refl, sym, ap, ◌∙◌, subst, arith}
use Rattle.std.specs.Prelude.{slice_get, slice_set, slice_index_or, IfOk, OnOk, OnErr}
use Rattle.std.proofs.lemmas.Option.{get_or_from_slice_get}
use Rattle.chem_model.specs.declared.event.AtomId.{AtomId}
use Rattle.env_store.specs.CodeParts.{CodeParts}
use Rattle.loc_tree.specs.Tree.{Tree}
use Rattle.net_laws.specs.Site.{Site}
use Rattle.site_solution.specs.Staying.{StillFits, HasReceived}
use Rattle.site_solution.specs.declared.effects.Effects.{Effects}
use Rattle.migration.specs.Across.{CanMoveBetween, IsMoveBetween, FitBetween}
use Rattle.net_core.specs.inside.AtSites.{AllStayFit, MayCrossAt, CrossesAt}
use Rattle.net_core.specs.inside.Fitting.{AreNumbered}
use Rattle.net_core.specs.Whole.{AllFit}
use Rattle.net_core.proofs.Fitting.{fits_at, others_stay, stay_set, set_same}

pub ok_one : {A E : Type 0} (P R : Type 0) (r : Result A E) → (P → R) → OnOk r P → OnOk r R
ok_one P R (Ok x) f p = f p
ok_one P R (Err e) f p = tt

-- ---- the members of two parts of a list

front_get : {X : Type 0} (front back : List X) (i : ℕ) (x : X) → i < length front
    → slice_get (front ++ back) i ≡ Some x → slice_get front i ≡ Some x
front_get [] back i x h e = absurd (omega arith)
front_get (y ∷ ys) back zero x h e = e
front_get (y ∷ ys) back (suc i) x h e = front_get ys back i x (omega arith) e

back_get : {X : Type 0} (front back : List X) (x : X)
    → slice_get (front ++ back) (length front) ≡ Some x → slice_get back 0 ≡ Some x
back_get [] back x e = e
back_get (y ∷ ys) back x e = back_get ys back x e

set_parts : {X : Type 0} (front back : List X) (i : ℕ) (x y : X) → i < length front
    → slice_set front i x ++ slice_set back 0 y
    ≡ slice_set (slice_set (front ++ back) i x) (length front) y
set_parts [] back i x y h = absurd (omega arith)
set_parts (z ∷ zs) back zero x y h = ap (λ us. x ∷ us) (set_end zs back y)
  where
    set_end : {X : Type 0} (front back : List X) (y : X)
        → front ++ slice_set back 0 y ≡ slice_set (front ++ back) (length front) y
    set_end [] back y = refl
    set_end (z ∷ zs) back y = ap (λ us. z ∷ us) (set_end zs back y)
set_parts (z ∷ zs) back (suc i) x y h = ap (λ us. z ∷ us) (set_parts zs back i x y (omega arith))

set_swap : {X : Type 0} (xs : List X) (i j : ℕ) (x y : X) → (i ≡ j → ⊥)
    → slice_set (slice_set xs j y) i x ≡ slice_set (slice_set xs i x) j y
set_swap [] i j x y far = refl
set_swap (z ∷ zs) zero zero x y far = absurd (far refl)
set_swap (z ∷ zs) zero (suc j) x y far = refl
set_swap (z ∷ zs) (suc i) zero x y far = refl
set_swap (z ∷ zs) (suc i) (suc j) x y far =
    ap (λ us. z ∷ us) (set_swap zs i j x y (λ same. far (ap suc same)))

module _ {X : Type 0} (xs front back : List X) (i : ℕ) (value : xs ≡ front ++ back) where
  pub before : (x d : X) → i < length front → slice_get xs i ≡ Some x → slice_index_or front i d ≡ x
  before x d h e = get_or_from_slice_get front i x d
      (front_get front back i x h (ap (λ us. slice_get us i) (sym value) ∙ e))

  pub behind : (x d : X) → length front ≡ i → slice_get xs i ≡ Some x → slice_index_or back 0 d ≡ x
  behind x d long e = get_or_from_slice_get back 0 x d (back_get front back x
      (ap (slice_get (front ++ back)) long ∙ ap (λ us. slice_get us i) (sym value) ∙ e))

  pub both_set : (j : ℕ) (x y : X) → i < length front → length front ≡ j
      → slice_set front i x ++ slice_set back 0 y ≡ slice_set (slice_set xs i x) j y
  both_set j x y h long =
      set_parts front back i x y h ∙ ap (λ k. slice_set (slice_set (front ++ back) i x) k y) long
      ∙ ap (λ us. slice_set (slice_set us i x) j y) (sym value)

pub both_set_back : {X : Type 0} (xs front back : List X) (i j : ℕ) (value : xs ≡ front ++ back)
    (x y : X) → (i ≡ j → ⊥) → j < length front → length front ≡ i
    → slice_set front j y ++ slice_set back 0 x ≡ slice_set (slice_set xs i x) j y
both_set_back xs front back i j value x y far h long =
    both_set xs front back j value i y x h long ∙ set_swap xs i j x y far

-- ---- what the move asks of the two sites

module _ (c : CodeParts) (t : Tree) (sites : List Site) (i j : ℕ) (a : AtomId)
    (may : MayCrossAt 2 t sites i j a) (fit : AllFit c t sites) (front back : List Site)
    (value : sites ≡ front ++ back) (d e : Site) where
  may_move : (x y : Site) → x ≡ may.from → y ≡ may.into → CanMoveBetween c t x y a
  may_move x y x_is y_is =
      let fits = fits_at c t sites i may.from fit may.from_is in
      subst (λ (s : Site). CanMoveBetween c t s y a) (sym x_is)
      (subst (λ (s : Site). CanMoveBetween c t may.from s a) (sym y_is)
      (record {
        in_tree = fits.in_tree;
        in_code = fits.in_code;
        receiver = fits_at c t sites j may.into fit may.into_is;
        may = may.can;
        hosted = may.hosted;
        joins = may.joins;
      }))

  pub may_up : i < length front → length front ≡ j
      → CanMoveBetween c t (slice_index_or front i d) (slice_index_or back 0 e) a
  may_up less long = may_move (slice_index_or front i d) (slice_index_or back 0 e)
      (before sites front back i value may.from d less may.from_is)
      (behind sites front back j value may.into e long may.into_is)

  pub may_down : j < length front → length front ≡ i
      → CanMoveBetween c t (slice_index_or back 0 d) (slice_index_or front j e) a
  may_down less long = may_move (slice_index_or back 0 d) (slice_index_or front j e)
      (behind sites front back i value may.from d long may.from_is)
      (before sites front back j value may.into e less may.into_is)

-- ---- the move

module _ {E : Type 0} (t u : Tree) (sites : List Site) (i j : ℕ) (a : AtomId)
    (may : MayCrossAt 2 t sites i j a) (old_from old_into left after : Site)
    (from_is : old_from ≡ may.from) (into_is : old_into ≡ may.into) (new : List Site)
    (new_is : new ≡ slice_set (slice_set sites i left) j after) (r : Result Effects E) where
  pub cross_ok : (seen : List ℕ)
      → IfOk r (λ e. IsMoveBetween seen a t old_from old_into u left after e)
      → IfOk r (λ e. (s v : Site) → slice_get sites i ≡ Some s → slice_get sites j ≡ Some v
      → CrossesAt seen t u i j a s v sites new e)
  cross_ok seen moves = go r moves
    where
      one : (e : Effects) → IsMoveBetween seen a t old_from old_into u left after e → (s v : Site)
          → slice_get sites i ≡ Some s → slice_get sites j ≡ Some v
          → CrossesAt seen t u i j a s v sites new e
      one e m s v at_s at_v =
          let s_is : old_from ≡ s =
          from_is ∙ same_get (slice_get sites i) may.from s may.from_is at_s in
          let v_is : old_into ≡ v =
          into_is ∙ same_get (slice_get sites j) may.into v may.into_is at_v in
          record {
            left = left;
            after = after;
            moves = subst (λ (w : Site). IsMoveBetween seen a t s w u left after e) v_is
                (subst (λ (w : Site). IsMoveBetween seen a t w old_into u left after e) s_is m);
            sites = new_is;
          }
        where
          same_get : (o : Option Site) (x y : Site) → o ≡ Some x → o ≡ Some y → x ≡ y
          same_get o x y e f = let both : Some x ≡ Some y = sym e ∙ f in cc

      go : (q : Result Effects E)
          → IfOk q (λ e. IsMoveBetween seen a t old_from old_into u left after e)
          → IfOk q (λ e. (s v : Site) → slice_get sites i ≡ Some s → slice_get sites j ≡ Some v
          → CrossesAt seen t u i j a s v sites new e)
      go (Ok e) m = one e m
      go (Err e) m = tt

  pub cross_fit : (c : CodeParts) → AllFit c t sites → AreNumbered sites
      → OnOk r (FitBetween c t old_from u left after) → OnOk r (AllStayFit c u new)
  cross_fit c fit numbered fits_both =
      ok_one (FitBetween c t old_from u left after) (AllStayFit c u new) r
      (λ both.
      let fits = fits_at c t sites i may.from fit may.from_is in
      let kept = subst (λ (s : Site). StillFits c t s u left) from_is both.from in
      let draws = kept.draws fits.draws in
      let left_fits : HasReceived c u left = record {
        all_there = kept.in_tree fits.in_tree;
        in_code = kept.in_code fits.in_code;
        drawn = draws.drawn;
        fresh = draws.fresh;
      } in
      let number : old_from.number ≡ i =
      ap (λ (s : Site). s.number) from_is ∙ numbered i may.from may.from_is in
      let rest = others_stay c t u sites i left numbered
      (λ s far. both.others c s (λ same. far (same ∙ number))) fit left_fits in
      subst (AllStayFit c u) (sym new_is)
      (stay_set c u (slice_set sites i left) j after rest both.into))
      fits_both

  pub cross_err : OnErr r (left ≡ old_from) → OnErr r (after ≡ old_into) → OnErr r (new ≡ sites)
  cross_err from_same into_same = go r from_same into_same
    where
      back : left ≡ old_from → after ≡ old_into → new ≡ sites
      back e f =
          let left_is : left ≡ may.from = e ∙ from_is in
          let after_is : after ≡ may.into = f ∙ into_is in
          new_is ∙ ap (λ (s : Site). slice_set (slice_set sites i s) j after) left_is
          ∙ ap (λ (s : Site). slice_set (slice_set sites i may.from) j s) after_is
          ∙ ap (λ us. slice_set us j may.into) (set_same sites i may.from may.from_is)
          ∙ set_same sites j may.into may.into_is

      go : (q : Result Effects E) → OnErr q (left ≡ old_from) → OnErr q (after ≡ old_into)
          → OnErr q (new ≡ sites)
      go (Ok e) p q = tt
      go (Err e) p q = back p q
