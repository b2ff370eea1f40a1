-- The keys with one number are a range of the keys in order.
use Rattle.std.proofs.Common.{◌≡◌, ℕ, ◌+◌, ◌<◌, ◌≤◌, List, [], ◌∷◌, ◌++◌, Bool, true, false, cond}
use Rattle.std.proofs.Common.{refl, ap, sym, ◌∙◌, subst, arith, ◌⊎◌, inl, inr, length, take, get_or}
use Rattle.std.proofs.Common.{add-one}
use Rattle.std.specs.List.{filter}
use Rattle.std.proofs.Math.Seq.{take-suc}
use Rattle.std.proofs.lemmas.List.{take_all, get_or_default}
use Rattle.chem_model.specs.Each.{IsIn}
use Rattle.book_store.specs.Keys.{Key, HasAll, HasOnly, HasNone}
use Rattle.book_store.proofs.Members.{in_first, in_last, in_either}
use Rattle.book_store.proofs.Queued.{is_high, high_is, is_high_at, in_filter}

-- ---- the keys with one number

abbrev pub has : ℕ → Key → Bool
has n = is_high (n + 1) n

has_at : (n : ℕ) (k : Key) → k.0 ≡ n → has n k ≡ true
has_at n k same = is_high_at (n + 1) n k (omega (arith, same)) (omega (arith, same))

has_is : (n : ℕ) (k : Key) → has n k ≡ true → k.0 ≡ n
has_is n k h = let both = high_is (n + 1) n k h in omega (arith, both.0, both.1)

passed_filter : {K : Type 0} (p : K → Bool) (ks : List K) (k : K) → IsIn k (filter p ks)
    → p k ≡ true
passed_filter p [] k at = absurd at
passed_filter p (j ∷ ks) k at = go (p j) refl (passed_filter p ks k) at
  where
    go : (t : Bool) → p j ≡ t → (IsIn k (filter p ks) → p k ≡ true)
        → IsIn k (cond t (j ∷ filter p ks) (filter p ks)) → p k ≡ true
    go true e ih (inl same) = ap p same ∙ e
    go true e ih (inr later) = ih later
    go false e ih later = ih later

pub all_found : (n : ℕ) (ks found : List Key) → found ≡ filter (has n) ks → HasAll n ks found
all_found n ks found e k at same =
    subst (λ (l : List Key). IsIn k l) (sym e) (in_filter (has n) ks k at (has_at n k same))

pub only_found : (n : ℕ) (ks found : List Key) → found ≡ filter (has n) ks → HasOnly n found
only_found n ks found e k at =
    has_is n k (passed_filter (has n) ks k (subst (λ (l : List Key). IsIn k l) e at))

-- where the range is empty there is none
pub none_found : (n : ℕ) (ks found : List Key) → HasAll n ks found → found ≡ [] → HasNone n ks
none_found n ks found all e k at same =
    absurd (subst (λ (l : List Key). IsIn k l) e (all k at same))

-- ---- members of lists

at_end : {X : Type 0} (xs : List X) (x y : X) → x ≡ y → IsIn x (xs ++ y ∷ [])
at_end xs x y e = in_last xs (y ∷ []) x (inl e)

front_or_end : {X : Type 0} (xs : List X) (x y : X) → IsIn x (xs ++ y ∷ []) → IsIn x xs ⊎ (x ≡ y)
front_or_end xs x y at = go (in_either xs (y ∷ []) x at)
  where
    go : IsIn x xs ⊎ IsIn x (y ∷ []) → IsIn x xs ⊎ (x ≡ y)
    go (inl there) = inl there
    go (inr (inl e)) = inr e
    go (inr (inr no_more)) = absurd no_more

-- the key at a place of a list, as code reads it
abbrev pub key_at : List Key → ℕ → Key
key_at keys i = get_or keys i (0, (0, 0))

pub key_is : (keys : List Key) (i : ℕ) → i < length keys
    → key_at keys i ≡ get_or keys i (key_at keys i)
key_is keys i low = get_or_default keys i (0, (0, 0)) (key_at keys i) low

-- ---- keys that are copied one after another

-- the keys with the number are in the list, or left; and all of these have it
pub record Copies (n : ℕ) (keys list left : List Key) : Type 0 where
  pub all : (k : Key) → IsIn k keys → k.0 ≡ n → IsIn k list ⊎ IsIn k left
  pub only : HasOnly n list
  pub rest : HasOnly n left

pub none_copied : (n : ℕ) (keys list left : List Key) → list ≡ [] → HasAll n keys left
    → HasOnly n left → Copies n keys list left
none_copied n keys list left e all only = record {
  all = λ k at same. inr (all k at same);
  only = λ k at. absurd (subst (λ (l : List Key). IsIn k l) e at);
  rest = only;
}

pub one_copied : (n : ℕ) (keys list more left rest : List Key) (key : Key) → left ≡ key ∷ rest
    → more ≡ list ++ key ∷ [] → Copies n keys list left → Copies n keys more rest
one_copied n keys list more left rest key e m h = record {
  all = λ k at same. subst (λ (l : List Key). IsIn k l ⊎ IsIn k rest) (sym m)
      (either k (h.all k at same));
  only = λ k at. it k (front_or_end list k key (subst (λ (l : List Key). IsIn k l) m at));
  rest = λ k at. h.rest k (subst (λ (l : List Key). IsIn k l) (sym e) (inr at));
}
  where
    first : (k : Key) → (k ≡ key) ⊎ IsIn k rest → IsIn k (list ++ key ∷ []) ⊎ IsIn k rest
    first k (inl same) = inl (at_end list k key same)
    first k (inr later) = inr later

    either : (k : Key) → IsIn k list ⊎ IsIn k left → IsIn k (list ++ key ∷ []) ⊎ IsIn k rest
    either k (inl there) = inl (in_first list (key ∷ []) k there)
    either k (inr there) = first k (subst (λ (l : List Key). IsIn k l) e there)

    it : (k : Key) → IsIn k list ⊎ (k ≡ key) → k.0 ≡ n
    it k (inl there) = h.only k there
    it k (inr same) = h.rest k (subst (λ (l : List Key). IsIn k l) (sym e) (inl same))

pub all_copied : (n : ℕ) (keys list left : List Key) → left ≡ [] → Copies n keys list left
    → HasAll n keys list
all_copied n keys list left e h k at same = go (h.all k at same)
  where
    go : IsIn k list ⊎ IsIn k left → IsIn k list
    go (inl there) = there
    go (inr there) = absurd (subst (λ (l : List Key). IsIn k l) e there)

-- the same of all keys
pub all_listed : (keys list left : List Key) → left ≡ [] → list ++ left ≡ keys → (k : Key)
    → IsIn k keys → IsIn k list
all_listed keys list left e h k at =
    go (subst (λ (l : List Key). IsIn k (list ++ l)) e
    (subst (λ (l : List Key). IsIn k l) (sym h) at))
  where
    either : IsIn k list ⊎ ⊥ → IsIn k list
    either (inl there) = there
    either (inr no_more) = absurd no_more

    go : IsIn k (list ++ []) → IsIn k list
    go there = either (in_either list [] k there)

-- ---- members that are looked at one after another

longer : {X : Type 0} (xs : List X) (i : ℕ) (x : X) → i < length xs → x ≡ get_or xs i x
    → take (i + 1) xs ≡ take i xs ++ x ∷ []
longer xs i x low is = rw add-one (take-suc xs i x low ∙ ap (λ z. take i xs ++ z ∷ []) (sym is))

-- what holds of those that were looked at holds of one more
pub one_more : {X : Type 0} (P Q : X → Type 0) (xs : List X) (i : ℕ) (x : X) → i < length xs
    → x ≡ get_or xs i x → ((y : X) → P y → Q y) → Q x
    → ((y : X) → IsIn y (take i xs) → P y) → (y : X) → IsIn y (take (i + 1) xs) → Q y
one_more {X} P Q xs i x low is keep new h y at = go (front_or_end (take i xs) y x
    (subst (λ (l : List X). IsIn y l) (longer xs i x low is) at))
  where
    go : IsIn y (take i xs) ⊎ (y ≡ x) → Q y
    go (inl there) = keep y (h y there)
    go (inr same) = subst Q (sym same) new

pub none_yet : {X : Type 0} (P : X → Type 0) (xs : List X) → (y : X) → IsIn y (take 0 xs) → P y
none_yet P [] y at = absurd at
none_yet P (x ∷ xs) y at = absurd at

pub at_last : {X : Type 0} (P : X → Type 0) (xs : List X) (i : ℕ) → length xs ≤ i
    → ((y : X) → IsIn y (take i xs) → P y) → (y : X) → IsIn y xs → P y
at_last {X} P xs i end h y at =
    h y (subst (λ (l : List X). IsIn y l) (sym (take_all i xs end)) at)

-- ---- keys that go one after another

pub one_gone : (keys old new : List Key) (i : ℕ) (key : Key) → i < length keys
    → key ≡ get_or keys i key → ((j : Key) → IsIn j old → (j ≡ key) ⊎ IsIn j new) → (k : Key)
    → IsIn k (take i keys) ⊎ IsIn k old → IsIn k (take (i + 1) keys) ⊎ IsIn k new
one_gone keys old new i key low is stay k h =
    subst (λ (l : List Key). IsIn k l ⊎ IsIn k new) (sym (longer keys i key low is)) (go h)
  where
    it : (k ≡ key) ⊎ IsIn k new → IsIn k (take i keys ++ key ∷ []) ⊎ IsIn k new
    it (inl same) = inl (at_end (take i keys) k key same)
    it (inr there) = inr there

    go : IsIn k (take i keys) ⊎ IsIn k old → IsIn k (take i keys ++ key ∷ []) ⊎ IsIn k new
    go (inl there) = inl (in_first (take i keys) (key ∷ []) k there)
    go (inr there) = it (stay k there)

pub all_gone : (keys new : List Key) (i : ℕ) → length keys ≤ i → (k : Key)
    → IsIn k (take i keys) ⊎ IsIn k new → IsIn k keys ⊎ IsIn k new
all_gone keys new i end k h =
    subst (λ (l : List Key). IsIn k l ⊎ IsIn k new) (take_all i keys end) h

-- ---- no key

pub no_keys : (ks : List Key) (k : Key) → length ks ≡ 0 → IsIn k ks → ⊥
no_keys [] k e at = at
no_keys (j ∷ ks) k e at = absurd (omega (arith, e))
