-- Bytes that several calls take or append one after another, and pieces that are copied.
use Rattle.std.proofs.Common.{◌≡◌, ℕ, ◌+◌, ◌-◌, ◌≤◌, List, ◌++◌, take, drop, length, Option, Some}
use Rattle.std.proofs.Common.{None, sym, ap, ◌∙◌, append_assoc, length-drop, arith}
use Rattle.std.specs.Io.KnownBytes.{Appends, Consumes, Keeps}
use Rattle.std.proofs.Math.Seq.{take-add, take-append_seam}
use Rattle.std.proofs.lemmas.List.{length-take-le, take-append-drop, take_all, drop-drop}

pub appends-more : (old mid new : Option (List ℕ)) (d n : ℕ) (bytes : List ℕ)
    → Appends old mid (take d bytes) → Appends mid new (take n (drop d bytes))
    → Appends old new (take (d + n) bytes)
appends-more None mid new d n bytes a b = tt
appends-more (Some xs) None new d n bytes a b = absurd a
appends-more (Some xs) (Some ys) None d n bytes a b = absurd b
appends-more (Some xs) (Some ys) (Some zs) d n bytes a b =
    b ∙ ap (λ t. t ++ take n (drop d bytes)) a ∙ append_assoc xs _ _
    ∙ ap (λ t. xs ++ t) (sym (take-add d n bytes))

pub appends-kept : (old mid new : Option (List ℕ)) (front : List ℕ) → Appends old mid front
    → Keeps mid new → Appends old new front
appends-kept None mid new front a k = tt
appends-kept (Some xs) None new front a k = absurd a
appends-kept (Some xs) (Some ys) None front a k = absurd k
appends-kept (Some xs) (Some ys) (Some zs) front a k = k ∙ a

pub consumes-more : (old mid new : Option (List ℕ)) (us vs : List ℕ) → Consumes old mid us
    → Consumes mid new vs → Consumes old new (us ++ vs)
consumes-more None mid new us vs a b = tt
consumes-more (Some xs) None new us vs a b = absurd a
consumes-more (Some xs) (Some ys) None us vs a b = absurd b
consumes-more (Some xs) (Some ys) (Some zs) us vs a b =
    a ∙ ap (λ t. us ++ t) b ∙ sym (append_assoc us vs zs)

-- `&xs[d..]`
pub take-drop_rest : (d : ℕ) (xs : List ℕ) → take (length xs - d) (drop d xs) ≡ drop d xs
take-drop_rest d xs = take_all (length xs - d) (drop d xs) (omega (arith, length-drop d xs))

-- a piece that is copied to the front of a buffer is taken from what is left
pub copied : (xs new rest : List ℕ) (at k : ℕ) → k ≤ length (drop at xs) → new ≡ take k (drop at xs)
    → drop at xs ≡ take k (new ++ rest) ++ drop (at + k) xs
copied xs new rest at k l f =
    let m : length new ≡ k = rw f (length-take-le k (drop at xs) l) in
    let t : take k (new ++ rest) ≡ new = rw (← m) (take-append_seam new rest) in
    rw (t, f, ← drop-drop k at xs) (sym (take-append-drop k (drop at xs)))
