-- The name and the value of a word, as the kit's parser cuts it.
use Rattle.std.proofs.Common.{◌≡◌, ◌+◌, ℕ, Bool, cond, true, false, suc, refl, ap, arith, [], ◌∷◌}
use Rattle.std.proofs.Common.{take, drop, Some, None}
use Rattle.std.specs.Prelude.{◌==◌, ◌||◌, not}
use Rattle.std.specs.List.{before_first, after_first, position_or_len}
use Rattle.clap.specs.Lexer.{has_byte, name_and_value}
use Rattle.join_words.specs.Line.{Text, name_of, value_of}

before : (t : Text) → before_first (λ x. x == 61) t ≡ name_of t
before [] = refl
before (b ∷ bs) = go (b == 61) (position_or_len (λ x. x == 61) bs) (before bs)
  where
    go : (e : Bool) (n : ℕ) → take n bs ≡ name_of bs
        → take (cond (not e) (1 + n) 0) (b ∷ bs) ≡ cond e [] (b ∷ name_of bs)
    go true n h = refl
    go false n h = let s : 1 + n ≡ suc n = omega arith in rw s (ap (λ xs. b ∷ xs) h)

after : (t : Text) → cond (has_byte 61 t) (Some (after_first (λ x. x == 61) t)) None ≡ value_of t
after [] = refl
after (b ∷ bs) = go (b == 61) (position_or_len (λ x. x == 61) bs) (after bs)
  where
    go : (e : Bool) (n : ℕ) → cond (has_byte 61 bs) (Some (drop (n + 1) bs)) None ≡ value_of bs
        → cond (e || has_byte 61 bs) (Some (drop (cond (not e) (1 + n) 0 + 1) (b ∷ bs))) None
        ≡ cond e (Some bs) (value_of bs)
    go true n h = refl
    go false n h = let s : 1 + n + 1 ≡ suc (n + 1) = omega arith in rw s h

pub parts : (t : Text) → name_and_value t ≡ (name_of t, value_of t)
parts t = λ i. (before t i, after t i)
