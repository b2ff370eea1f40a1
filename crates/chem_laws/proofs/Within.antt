-- A dead location is within a marked one.
use Rattle.std.proofs.Common.{◌≡◌, true, refl, ap, ◌∙◌, inl, inr, ◌==◌, eqb-true, eq-eqb}
use Rattle.std.proofs.lemmas.Bool.{and_parts, or_left, or_right}
use Rattle.chem_model.specs.declared.name.Loc.{Loc}
use Rattle.chem_model.specs.Solution.{is_marked, root, same_loc}
use Rattle.chem_laws.specs.Within.{DeadIsWithin}
use Rattle.chem_laws.proofs.Lists.{true_both, either_true}

pub same_loc_is : (a b : Loc) → same_loc a b ≡ true → a ≡ b
same_loc_is a b e =
    let h = and_parts (a.site == b.site) (a.k == b.k) e in
    λ i. record { site = eqb-true a.site b.site h.0 i; k = eqb-true a.k b.k h.1 i }

pub same_loc_refl : (l : Loc) → same_loc l l ≡ true
same_loc_refl l =
    true_both (l.site == l.site) (l.k == l.k) (eq-eqb l.site l.site refl) (eq-eqb l.k l.k refl)

pub dead_is_within : DeadIsWithin
dead_is_within pl l = (
  λ e. elim (either_true (is_marked (pl l)) (is_marked (pl (root pl l))) e) [
    | inl u ↦ (l, or_left (same_loc l l) (same_loc (root pl l) l) (same_loc_refl l), u)
    | inr u ↦ (
      root pl l,
      or_right (same_loc l (root pl l)) (same_loc (root pl l) (root pl l))
          (same_loc_refl (root pl l)),
      u,
    )
  ],
  λ h. elim (either_true (same_loc l h.0) (same_loc (root pl l) h.0) h.1) [
    | inl u ↦ or_left (is_marked (pl l)) (is_marked (pl (root pl l)))
        (ap (λ b. is_marked (pl b)) (same_loc_is l h.0 u) ∙ h.2)
    | inr u ↦ or_right (is_marked (pl l)) (is_marked (pl (root pl l)))
        (ap (λ b. is_marked (pl b)) (same_loc_is (root pl l) h.0 u) ∙ h.2)
  ],
)
