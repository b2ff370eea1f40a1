-- Which reaction is ready: that of the least rule.
use Rattle.std.specs.Prelude.{◌≡◌, ◌≤◌, Bool, false, nat_lt, ◌==◌, ◌&&◌, ◌||◌}
use Rattle.chem_model.specs.declared.event.RuleId.{RuleId}
use Rattle.env_store.specs.CodeParts.{CodeParts}
use Rattle.loc_tree.specs.Tree.{Tree}
use Rattle.net_laws.specs.Site.{Site}
use Rattle.reducer.specs.declared.pick.Pick.{Pick}
use Rattle.reducer.specs.Picks.{Picked, Fires, rule_of}

-- rules are ordered by their sites, and at one site by their numbers
abbrev pub precedes : RuleId → RuleId → Bool
precedes a b = nat_lt a.site b.site || ((a.site == b.site) && nat_lt a.k b.k)

-- no guard of a live location is covered
abbrev pub NoneFires : CodeParts → Tree → Site → Type 0
NoneFires c t s = (p : Pick) (x : Picked) → Fires c t s p x → ⊥

-- a covered guard of a live location: none has a lesser rule, and none with the same rule is of an
-- earlier group
pub record IsReady (c : CodeParts) (t : Tree) (s : Site) (p : Pick) : Type 0 where
  pub pick : Picked
  pub fires : Fires c t s p pick
  pub least :
      (q : Pick) (y : Picked) → Fires c t s q y → precedes (rule_of q y) (rule_of p pick) ≡ false
  pub first :
      (q : Pick) (y : Picked) → Fires c t s q y → rule_of q y ≡ rule_of p pick
      → p.group ≤ q.group
