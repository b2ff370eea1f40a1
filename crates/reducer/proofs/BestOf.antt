-- How far a search for the best rule of a group came.
use Rattle.std.specs.Prelude.{◌≡◌, ℕ, ◌<◌, ◌≤◌, false, Option, Some, None}
use Rattle.env_store.specs.CodeParts.{CodeParts}
use Rattle.loc_tree.specs.Tree.{Tree}
use Rattle.net_laws.specs.Site.{Site}
use Rattle.reducer.specs.declared.pick.Pick.{Pick}
use Rattle.reducer.specs.declared.choosing.Found.{Found}
use Rattle.reducer.specs.Picks.{Picked, Fires, rule_of}
use Rattle.reducer.specs.Ready.{precedes}

-- of the first n groups this is the best offer
pub record IsBestOf (c : CodeParts) (t : Tree) (s : Site) (n : ℕ) (f : Found) : Type 0 where
  pub pick : Picked
  pub fires : Fires c t s f.pick pick
  pub rule : f.rule ≡ rule_of f.pick pick
  pub group : f.pick.group < n
  pub least :
      (q : Pick) (y : Picked) → q.group < n → Fires c t s q y
      → precedes (rule_of q y) f.rule ≡ false
  pub first :
      (q : Pick) (y : Picked) → q.group < n → Fires c t s q y → rule_of q y ≡ f.rule
      → f.pick.group ≤ q.group

abbrev pub IsBest : CodeParts → Tree → Site → ℕ → Option Found → Type 0
IsBest c t s n None = (q : Pick) (y : Picked) → q.group < n → Fires c t s q y → ⊥
IsBest c t s n (Some f) = IsBestOf c t s n f
