-- What a binder finds in a list of names that has one more, and in one behind another.
use Rattle.std.proofs.Common.{◌≡◌, ℕ, zero, suc, ◌≤◌, List, [], ◌∷◌, ◌++◌, ◌==◌, length, drop}
use Rattle.std.proofs.Common.{Option, Some, None, Bool, true, false, cond, refl, sym, ap, ◌∙◌}
use Rattle.std.proofs.Common.{arith}
use Rattle.std.specs.Prelude.{nat_eq}
use Rattle.std.specs.Ordering.{nat_cmp}
use Rattle.std.specs.BTreeMap.{BTreeMap, get}
use Rattle.chem_model.specs.declared.name.Name.{Name}
use Rattle.chem_model.specs.Fill.{Naming, name_at}
use Rattle.chem_plain.specs.inside.Names.{walked, IsIndex, or_name}

pub in_both : (m n : Naming) (b : ℕ) → name_at (m ++ n) b ≡ or_name (name_at m b) (name_at n b)
in_both [] n b = refl
in_both (e ∷ m) n b = go (e.binder == b) (in_both m n b)
  where
    go : (t : Bool) → name_at (m ++ n) b ≡ or_name (name_at m b) (name_at n b)
        → cond t (Some e.name) (name_at (m ++ n) b)
        ≡ or_name (cond t (Some e.name) (name_at m b)) (name_at n b)
    go true ih = refl
    go false ih = ih

drop_behind : {X : Type 0} (k : ℕ) (xs ys : List X) → k ≤ length xs
    → drop k (xs ++ ys) ≡ drop k xs ++ ys
drop_behind zero xs ys h = refl
drop_behind (suc k) [] ys h = absurd (omega arith)
drop_behind (suc k) (x ∷ xs) ys h = drop_behind k xs ys (omega arith)

-- the map with one more name
abbrev pub One : BTreeMap ℕ Name → BTreeMap ℕ Name → ℕ → Name → Type 0
One old new b n = (q : ℕ)
    → get nat_cmp new q ≡ or_name (get nat_cmp old q) (cond (nat_eq b q) (Some n) None)

pub one_more : (m : Naming) (b : ℕ) (n : Name) (old new : BTreeMap ℕ Name) → walked ≤ length m
    → IsIndex m old → One old new b n → IsIndex (m ++ record { binder = b; name = n } ∷ []) new
one_more m b n old new h i one q =
    one q ∙ ap (λ (o : Option Name). or_name o (cond (nat_eq b q) (Some n) None)) (i q)
    ∙ sym (ap (λ (l : Naming). name_at l q) (drop_behind walked m
    (record { binder = b; name = n } ∷ []) h)
    ∙ in_both (drop walked m) (record { binder = b; name = n } ∷ []) q)
