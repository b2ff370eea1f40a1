-- Mail of a site among packets under way.
use Rattle.std.proofs.Common.{◌≡◌, ℕ, zero, suc, ◌+◌, ◌==◌, Bool, true, false, cond, List, [], ◌∷◌}
use Rattle.std.proofs.Common.{◌++◌, drop, Some, refl, sym, ap, ◌∙◌, arith, slice_get, eqb-true}
use Rattle.net_laws.specs.Net.{Addressed, without_packet}
use Rattle.net_core.specs.Lending.{mail_to}

-- the first message of the mail stands at this place
pub record IsFirstMail (i : ℕ) (ps : List Addressed) (p : Addressed)
    (rest : List Addressed) : Type 0 where
  pub place : ℕ
  pub at : slice_get ps place ≡ Some p
  pub target : p.target ≡ i
  pub left : mail_to i (without_packet place ps) ≡ rest

same_first : (p q : Addressed) (ps qs : List Addressed) → p ∷ ps ≡ q ∷ qs → p ≡ q
same_first p q ps qs e = cc

same_rest : (p q : Addressed) (ps qs : List Addressed) → p ∷ ps ≡ q ∷ qs → ps ≡ qs
same_rest p q ps qs e = cc

pub first_mail : (i : ℕ) (ps : List Addressed) (p : Addressed) (rest : List Addressed)
    → mail_to i ps ≡ p ∷ rest → IsFirstMail i ps p rest
first_mail i [] p rest e = cc
first_mail i (q ∷ qs) p rest e = go (q.target == i) refl e (first_mail i qs p rest)
  where
    go : (u : Bool) → (q.target == i) ≡ u → cond u (q ∷ mail_to i qs) (mail_to i qs) ≡ p ∷ rest
        → (mail_to i qs ≡ p ∷ rest → IsFirstMail i qs p rest) → IsFirstMail i (q ∷ qs) p rest
    go true is same ih =
        let one = same_first q p (mail_to i qs) rest same in
        record {
          place = 0;
          at = ap (λ (x : Addressed). Some x) one;
          target = ap (λ (x : Addressed). x.target) (sym one) ∙ eqb-true q.target i is;
          left = same_rest q p (mail_to i qs) rest same;
        }
    go false is same ih =
        let later = ih same in
        record {
          place = suc later.place;
          at = later.at;
          target = later.target;
          left = ap (λ b. cond b (q ∷ mail_to i (without_packet later.place qs))
              (mail_to i (without_packet later.place qs))) is ∙ later.left;
        }

pub mail_append : (i : ℕ) (ps qs : List Addressed)
    → mail_to i (ps ++ qs) ≡ mail_to i ps ++ mail_to i qs
mail_append i [] qs = refl
mail_append i (p ∷ ps) qs = go (p.target == i) (mail_append i ps qs)
  where
    go : (u : Bool) → mail_to i (ps ++ qs) ≡ mail_to i ps ++ mail_to i qs
        → cond u (p ∷ mail_to i (ps ++ qs)) (mail_to i (ps ++ qs))
        ≡ cond u (p ∷ mail_to i ps) (mail_to i ps) ++ mail_to i qs
    go true ih = ap (λ rs. p ∷ rs) ih
    go false ih = ih

pub mail_here : (i : ℕ) (p : Addressed) (ps : List Addressed) → p.target == i ≡ true
    → mail_to i (p ∷ ps) ≡ p ∷ mail_to i ps
mail_here i p ps e = ap (λ b. cond b (p ∷ mail_to i ps) (mail_to i ps)) e

pub mail_elsewhere : (i : ℕ) (p : Addressed) (ps : List Addressed) → p.target == i ≡ false
    → mail_to i (p ∷ ps) ≡ mail_to i ps
mail_elsewhere i p ps e = ap (λ b. cond b (p ∷ mail_to i ps) (mail_to i ps)) e

-- what is left of a list begins with its next member
pub drop_next : {X : Type 0} (xs : List X) (n : ℕ) (x : X) → slice_get xs n ≡ Some x
    → drop n xs ≡ x ∷ drop (n + 1) xs
drop_next [] n x e = cc
drop_next (y ∷ xs) zero x e = let same : y ≡ x = cc in ap (λ z. z ∷ xs) same
drop_next (y ∷ xs) (suc n) x e =
    let one : suc n + 1 ≡ suc (n + 1) = omega arith in
    drop_next xs n x e ∙ ap (λ k. x ∷ drop k (y ∷ xs)) (sym one)

pub not_same : (a b : ℕ) → (a ≡ b → ⊥) → a == b ≡ false
not_same a b far = go (a == b) refl
  where
    go : (u : Bool) → a == b ≡ u → a == b ≡ false
    go true e = absurd (far (eqb-true a b e))
    go false e = e
