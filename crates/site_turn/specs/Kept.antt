-- What is known of a site behind its lock.
use Rattle.std.specs.Prelude.{◌≡◌, ◌⊎◌, false, IsTrue, Option, None, Some}
use Rattle.env_store.specs.CodeParts.{CodeParts}
use Rattle.loc_tree.specs.Tree.{Tree}
use Rattle.site_solution.specs.Staying.{CanAct}
use Rattle.site_turn.specs.declared.fitted.Fitted.{Fitted}

-- that it has what the calls over it need is known by the tree that it has, and else not at all
pub record Knows (held : Fitted) (tree : Option Tree) (c : CodeParts) : Type 0 where
  pub by : (t : Tree) → tree ≡ Some t → IsTrue held.fits → CanAct c t held.site
  pub else : tree ≡ None → held.fits ≡ false

-- a site has the tree that it had, or this one where it had none
abbrev pub HasKept : Tree → Option Tree → Option Tree → Type 0
HasKept t old new = (new ≡ old) ⊎ ((old ≡ None) × (new ≡ Some t))
