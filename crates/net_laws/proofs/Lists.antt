-- Lists in which two members are changed, or from which one is taken.
use Rattle.std.proofs.Common.{◌≡◌, ℕ, zero, suc, ◌+◌, List, [], ◌∷◌, Some, refl, sym, ap, ◌∙◌}
use Rattle.std.proofs.Common.{arith, slice_get}
use Rattle.std.specs.Prelude.{slice_set}
use Rattle.chem_model.specs.declared.numbered.NumberedAtom.{NumberedAtom}
use Rattle.chem_model.specs.Bag.{one}
use Rattle.net_laws.specs.Site.{Site, coded_atom, message_atom}
use Rattle.net_laws.specs.Net.{Addressed, made_of, under_way, home_or, without_packet}
use Rattle.chem_model.specs.Opening.{root_of}

pub get_set_same : {X : Type 0} (xs : List X) (i : ℕ) (x y : X) → slice_get xs i ≡ Some x
    → slice_get (slice_set xs i y) i ≡ Some y
get_set_same [] i x y e = cc
get_set_same (z ∷ zs) zero x y e = refl
get_set_same (z ∷ zs) (suc i) x y e = get_set_same zs i x y e

pub get_set_other : {X : Type 0} (xs : List X) (i j : ℕ) (y : X) → (i ≡ j → ⊥)
    → slice_get (slice_set xs i y) j ≡ slice_get xs j
get_set_other [] i j y h = refl
get_set_other (z ∷ zs) zero zero y h = absurd (h refl)
get_set_other (z ∷ zs) zero (suc j) y h = refl
get_set_other (z ∷ zs) (suc i) zero y h = refl
get_set_other (z ∷ zs) (suc i) (suc j) y h = get_set_other zs i j y (λ e. h (ap suc e))

pub set_set : {X : Type 0} (xs : List X) (i : ℕ) (y z : X)
    → slice_set (slice_set xs i y) i z ≡ slice_set xs i z
set_set [] i y z = refl
set_set (x ∷ xs) zero y z = refl
set_set (x ∷ xs) (suc i) y z = ap (λ us. x ∷ us) (set_set xs i y z)

pub made_kept : (ss : List Site) (i : ℕ) (s new : Site) → slice_get ss i ≡ Some s
    → new.made ≡ s.made → made_of (slice_set ss i new) ≡ made_of ss
made_kept [] i s new e h = refl
made_kept (u ∷ us) zero s new e h =
    let same : u ≡ s = cc in
    ap (λ k. k ∷ made_of us) (h ∙ ap (λ (v : Site). v.made) (sym same))
made_kept (u ∷ us) (suc i) s new e h = ap (λ ks. u.made ∷ ks) (made_kept us i s new e h)

pub packet_taken : (ps : List Addressed) (f : ℕ) (p : Addressed) (x : NumberedAtom)
    → slice_get ps f ≡ Some p
    → under_way ps x
    ≡ one coded_atom (message_atom (home_or (root_of p.target) p.msg.on) p.msg) x
    + under_way (without_packet f ps) x
packet_taken [] f p x e = cc
packet_taken (q ∷ ps) zero p x e =
    let same : q ≡ p = cc in
    ap (λ (v : Addressed).
    one coded_atom (message_atom (home_or (root_of v.target) v.msg.on) v.msg) x + under_way ps x)
    same
packet_taken (q ∷ ps) (suc f) p x e = omega (arith, packet_taken ps f p x e)
