-- Members of a list: what one of them has, and what is found at an index.
use Rattle.std.proofs.Common.{◌≡◌, ℕ, zero, suc, ◌+◌, ◌<◌, List, [], ◌∷◌, ◌++◌, length, drop}
use Rattle.std.proofs.Common.{get_or, map, inl, inr, sym, ap, ◌∙◌, subst, add-one, drop-cons, arith}
use Rattle.chem_model.specs.Each.{Each}
use Rattle.shared_net.specs.Causes.{OneOf}

-- what is left before a member was looked at begins with it
pub drop-at : {X : Type 0} (xs : List X) (i : ℕ) (x : X) → i < length xs → x ≡ get_or xs i x
    → drop i xs ≡ x ∷ drop (i + 1) xs
drop-at xs i x l e = rw add-one (drop-cons xs i x l ∙ ap (λ y. y ∷ drop (suc i) xs) (sym e))

-- a member at an index, after a map
pub map-at : {X Y : Type 0} (f : X → Y) (xs : List X) (i : ℕ) (x : X) → i < length xs
    → x ≡ get_or xs i x → f x ≡ get_or (map f xs) i (f x)
map-at f [] i x l e = absurd (omega arith)
map-at f (y ∷ ys) zero x l e = ap f e
map-at f (y ∷ ys) (suc i) x l e = map-at f ys i x (omega arith) e

pub map-within : {X Y : Type 0} (f : X → Y) (xs : List X) (i : ℕ) → i < length xs
    → i < length (map f xs)
map-within f [] i l = absurd (omega arith)
map-within f (y ∷ ys) zero l = omega arith
map-within f (y ∷ ys) (suc i) l = let m = map-within f ys i (omega arith) in omega arith

pub OneOf-at : {X : Type 0} (P : X → Type 0) (xs : List X) (i : ℕ) (x : X) → i < length xs
    → x ≡ get_or xs i x → P x → OneOf P xs
OneOf-at P [] i x l e p = absurd (omega arith)
OneOf-at P (y ∷ ys) zero x l e p = inl (subst P e p)
OneOf-at P (y ∷ ys) (suc i) x l e p = inr (OneOf-at P ys i x (omega arith) e p)

pub OneOf-weaker : {X : Type 0} (P Q : X → Type 0) (xs : List X) → ((x : X) → P x → Q x)
    → OneOf P xs → OneOf Q xs
OneOf-weaker P Q [] f h = h
OneOf-weaker P Q (x ∷ xs) f (inl p) = inl (f x p)
OneOf-weaker P Q (x ∷ xs) f (inr h) = inr (OneOf-weaker P Q xs f h)

-- what follows from each member's fact follows from that of one of them
pub OneOf-gives : {X : Type 0} (P : X → Type 0) (xs : List X) (C : Type 0) → ((x : X) → P x → C)
    → OneOf P xs → C
OneOf-gives P [] C f h = absurd h
OneOf-gives P (x ∷ xs) C f (inl p) = f x p
OneOf-gives P (x ∷ xs) C f (inr h) = OneOf-gives P xs C f h

-- the one that has the first fact has the second, which each has
pub OneOf-each : {X : Type 0} (P Q : X → Type 0) (xs : List X) → Each Q xs → OneOf P xs
    → OneOf (λ x. P x × Q x) xs
OneOf-each P Q [] e h = h
OneOf-each P Q (x ∷ xs) e (inl p) = inl (p, e.0)
OneOf-each P Q (x ∷ xs) e (inr h) = inr (OneOf-each P Q xs e.1 h)

pub OneOf-left : {X : Type 0} (P : X → Type 0) (xs ys : List X) → OneOf P xs → OneOf P (xs ++ ys)
OneOf-left P [] ys h = absurd h
OneOf-left P (x ∷ xs) ys (inl p) = inl p
OneOf-left P (x ∷ xs) ys (inr h) = inr (OneOf-left P xs ys h)

pub OneOf-right : {X : Type 0} (P : X → Type 0) (xs ys : List X) → OneOf P ys → OneOf P (xs ++ ys)
OneOf-right P [] ys h = h
OneOf-right P (x ∷ xs) ys h = inr (OneOf-right P xs ys h)
