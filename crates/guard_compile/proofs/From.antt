-- Lists that have these members from an index on.
use Rattle.std.proofs.Common.{◌≡◌, ℕ, ◌+◌, List, [], ◌∷◌, ◌++◌, length, Some, sym, subst, arith}
use Rattle.std.specs.Prelude.{slice_get}
use Rattle.env_store.specs.CodeParts.{CodeParts}
use Rattle.guard_compile.specs.declared.write.At.{At}
use Rattle.guard_compile.specs.declared.write.Piece.{Piece}
use Rattle.guard_compile.specs.Written.{join}

abbrev pub HasFrom : {X : Type 0} → List X → ℕ → List X → Type 0
HasFrom xs n [] = Unit {0}
HasFrom xs n (y ∷ ys) = (slice_get xs n ≡ Some y) × HasFrom xs (n + 1) ys

pub has_left : {X : Type 0} (xs : List X) (n : ℕ) (ys zs : List X) → HasFrom xs n (ys ++ zs)
    → HasFrom xs n ys
has_left xs n [] zs h = tt
has_left xs n (y ∷ ys) zs h = (h.0, has_left xs (n + 1) ys zs h.1)

pub has_right : {X : Type 0} (xs : List X) (n : ℕ) (ys zs : List X) → HasFrom xs n (ys ++ zs)
    → HasFrom xs (n + length ys) zs
has_right {X = X} xs n [] zs h =
    let at : n ≡ n + length {A = X} [] = omega arith in
    subst (λ k. HasFrom xs k zs) at h
has_right xs n (y ∷ ys) zs h =
    let at : (n + 1) + length ys ≡ n + length (y ∷ ys) = omega arith in
    subst (λ k. HasFrom xs k zs) at (has_right xs (n + 1) ys zs h.1)

-- the numbers behind so many members
abbrev pub after : At → Piece → At
after at a = record {
  level = at.level + length a.levels;
  guard = at.guard + length a.guards;
  block = at.block + length a.blocks;
  body = at.body + length a.bodies;
}

pub record Holds (c : CodeParts) (at : At) (a : Piece) : Type 0 where
  pub levels : HasFrom c.levels at.level a.levels
  pub guards : HasFrom c.guards at.guard a.guards
  pub blocks : HasFrom c.blocks at.block a.blocks
  pub bodies : HasFrom c.bodies at.body a.bodies

module _ (c : CodeParts) where
  pub holds_left : (at : At) (a b : Piece) → Holds c at (join a b) → Holds c at a
  holds_left at a b h = record {
    levels = has_left c.levels at.level a.levels b.levels h.levels;
    guards = has_left c.guards at.guard a.guards b.guards h.guards;
    blocks = has_left c.blocks at.block a.blocks b.blocks h.blocks;
    bodies = has_left c.bodies at.body a.bodies b.bodies h.bodies;
  }

  pub holds_right : (at : At) (a b : Piece) → a.next ≡ after at a → Holds c at (join a b)
      → Holds c a.next b
  holds_right at a b e h = subst (λ n. Holds c n b) (sym e) (record {
    levels = has_right c.levels at.level a.levels b.levels h.levels;
    guards = has_right c.guards at.guard a.guards b.guards h.guards;
    blocks = has_right c.blocks at.block a.blocks b.blocks h.blocks;
    bodies = has_right c.bodies at.body a.bodies b.bodies h.bodies;
  })
