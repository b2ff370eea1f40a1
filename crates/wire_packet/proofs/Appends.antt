-- Pieces that are put one after the other.
use Rattle.std.proofs.Common.{◌≡◌, ℕ, List, ◌++◌, ◌+◌, ◌<◌, length, drop, get_or, sym, ap, subst}
use Rattle.std.proofs.Common.{◌∙◌, append_assoc}
use Rattle.std.specs.List.{flat_map}
use Rattle.std.proofs.lemmas.List.{drop_more}
use Rattle.chem_model.specs.Each.{Each}
use Rattle.std.proofs.lemmas.List.Concat.{flat_map-cons}

pub put_two : (a b c x y : List ℕ) → b ≡ a ++ x → c ≡ b ++ y → c ≡ a ++ (x ++ y)
put_two a b c x y e f = f ∙ ap (λ (t : List ℕ). t ++ y) e ∙ append_assoc a x y

pub put_three : (a b c d x y z : List ℕ) → b ≡ a ++ x → c ≡ b ++ y → d ≡ c ++ z
    → d ≡ a ++ (x ++ (y ++ z))
put_three a b c d x y z e f g = put_two a b d x (y ++ z) e (put_two b c d y z f g)

pub put_five : (a b c d e f x y z u v : List ℕ) → b ≡ a ++ x → c ≡ b ++ y → d ≡ c ++ z → e ≡ d ++ u
    → f ≡ e ++ v → f ≡ a ++ (x ++ (y ++ (z ++ (u ++ v))))
put_five a b c d e f x y z u v p q r s t = put_two a b f x (y ++ (z ++ (u ++ v))) p
    (put_two b c f y (z ++ (u ++ v)) q (put_three c d e f z u v r s t))

pub put_seven : (a b c d e f g h s t u v x y z : List ℕ) → b ≡ a ++ s → c ≡ b ++ t → d ≡ c ++ u
    → e ≡ d ++ v → f ≡ e ++ x → g ≡ f ++ y → h ≡ g ++ z
    → h ≡ a ++ (s ++ (t ++ (u ++ (v ++ (x ++ (y ++ z))))))
put_seven a b c d e f g h s t u v x y z i j k l m n o =
    put_two a b h s (t ++ (u ++ (v ++ (x ++ (y ++ z))))) i
    (put_two b c h t (u ++ (v ++ (x ++ (y ++ z)))) j (put_five c d e f g h u v x y z k l m n o))

-- one member of a list was put: what is left to put, and what is known once it was
pub member_put : {X : Type 0} (text : X → List ℕ) (P : X → Type 0) (start mid end : List ℕ)
    (xs : List X) (i : ℕ) (d : X) → i < length xs
    → (mid ++ flat_map text (drop i xs) ≡ start ++ flat_map text xs)
    × (Each P (drop i xs) → Each P xs)
    → end ≡ mid ++ text (get_or xs i d) → P (get_or xs i d)
    → (end ++ flat_map text (drop (i + 1) xs) ≡ start ++ flat_map text xs)
    × (Each P (drop (i + 1) xs) → Each P xs)
member_put text P start mid end xs i d lt before put one =
    let x = get_or xs i d in
    let rest = drop (i + 1) xs in
    let all : text x ++ flat_map text rest ≡ flat_map text (drop i xs) =
    sym (ap (flat_map text) (drop_more xs i d lt) ∙ flat_map-cons text x rest) in (
      ap (λ (t : List ℕ). t ++ flat_map text rest) put
          ∙ append_assoc mid (text x) (flat_map text rest) ∙ ap (λ (t : List ℕ). mid ++ t) all
          ∙ before.0,
      λ each. before.1 (subst (λ ys. Each P ys) (sym (drop_more xs i d lt)) (one, each)),
    )
