-- A location that falls leaves the root whose site hosts it: its own root is alive, and the target
-- is dead.
use Rattle.std.proofs.Common.{◌≡◌, ℕ, true, Option, Some, None, refl, sym, ap, ◌∙◌, subst, inl, inr}
use Rattle.std.specs.Prelude.{◌&&◌, not}
use Rattle.std.proofs.lemmas.Bool.{and_parts, or_cases, or_right}
use Rattle.chem_model.specs.declared.name.Loc.{Loc}
use Rattle.chem_model.specs.Opening.{root_of}
use Rattle.loc_tree.specs.declared.tree.Spot.{Spot}
use Rattle.loc_tree.specs.Tree.{Tree, spot, number_in, mark_in, has_mark, is_root, is_fallen}
use Rattle.loc_tree.specs.Tree.{is_alive, is_alive_in, is_dead, is_dead_in, can_move, can_fall}
use Rattle.loc_tree.specs.Tree.{can_leave}
use Rattle.loc_tree.specs.Places.{IsTree}
use Rattle.loc_tree.proofs.Alive.{own_number, root_parts}
use Rattle.loc_tree.proofs.Spots.{root_is}

module _ (t : Tree) (tree : IsTree t) (l b : Loc) (can : can_fall t l b ≡ true) where
  dead_target : (is_dead t b ≡ true) × (is_root t b ≡ true)
  dead_target = and_parts (is_dead t b) (is_root t b)
      (and_parts (is_alive t l && not (is_root t l)) (is_dead t b && is_root t b) can).1

  living : is_alive t l ≡ true
  living = (and_parts (is_alive t l) (not (is_root t l))
      (and_parts (is_alive t l && not (is_root t l)) (is_dead t b && is_root t b) can).0).0

  at_root : root_of b.site ≡ b
  at_root = root_is b b.site (root_parts t b dead_target.1).0 refl

  -- the root is marked
  root_marked : has_mark t (root_of b.site) ≡ true
  root_marked = go (spot t b) refl (own_number t tree b dead_target.1) dead_target.0
    where
      go : (o : Option Spot) → spot t b ≡ o → number_in o ≡ Some b.site → is_dead_in t o ≡ true
          → has_mark t (root_of b.site) ≡ true
      go None is n d = cc
      go (Some s) is n d =
          elim (or_cases s.marked (has_mark t (root_of s.number)) d) [
            | inl m ↦ ap (λ (q : Loc). has_mark t q) at_root ∙ ap mark_in is ∙ m
            | inr m ↦
                let number : s.number ≡ b.site = cc in
                subst (λ (i : ℕ). has_mark t (root_of i) ≡ true) number m
          ]

  -- so no location of that number is alive
  pub fall_is_away : number_in (spot t l) ≡ Some b.site → ⊥
  fall_is_away same = go (spot t l) same living
    where
      go : (o : Option Spot) → number_in o ≡ Some b.site → is_alive_in t o ≡ true → ⊥
      go None n a = cc
      go (Some p) n a =
          let number : p.number ≡ b.site = cc in
          let marked : has_mark t (root_of p.number) ≡ true =
          subst (λ (i : ℕ). has_mark t (root_of i) ≡ true) (sym number) root_marked in
          let fallen : is_fallen t p ≡ true =
          or_right p.marked (has_mark t (root_of p.number)) marked in
          cc

-- so a move within a site is never a fall
pub goes_within : (t : Tree) → IsTree t → (l b : Loc) → can_leave t l b ≡ true
    → number_in (spot t l) ≡ Some b.site → can_move t l b ≡ true
goes_within t tree l b leave same =
    elim (or_cases (can_move t l b) (can_fall t l b) leave) [
      | inl go ↦ go
      | inr fall ↦ absurd (fall_is_away t tree l b fall same)
    ]

-- and its target is alive
pub goal_lives : (t : Tree) → IsTree t → (l b : Loc) → can_leave t l b ≡ true
    → number_in (spot t l) ≡ Some b.site → is_alive t b ≡ true
goal_lives t tree l b leave same =
    (and_parts (is_alive t b) (is_root t b) (and_parts (is_alive t l && not (is_root t l))
    (is_alive t b && is_root t b) (goes_within t tree l b leave same)).1).0
