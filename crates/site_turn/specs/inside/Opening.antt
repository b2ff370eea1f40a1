-- How far the opening of a program's sites has come.
use Rattle.std.specs.Prelude.{◌≡◌, ℕ, ◌≤◌, ◌++◌, List, [], ◌∷◌, true, false, Some, is_some, drop}
use Rattle.std.specs.Prelude.{length, slice_get}
use Rattle.std.specs.List.{Contains}
use Rattle.chem_model.specs.declared.name.Loc.{Loc}
use Rattle.chem_model.specs.Each.{Each}
use Rattle.env_store.specs.CodeParts.{CodeParts}
use Rattle.loc_tree.specs.Tree.{spot, bare}
use Rattle.net_laws.specs.Site.{Site}
use Rattle.net_laws.specs.Net.{Net}
use Rattle.net_laws.specs.Opened.{all_opened, opened_net, BearNew}
use Rattle.site_solution.specs.Staying.{CanAct}
use Rattle.site_solution.specs.declared.effects.Effects.{Effects}
use Rattle.site_turn.specs.Opening.{tree_before, AreHanded}
use Rattle.site_turn.specs.declared.opening.OpenedSites.{OpenedSites}

-- the sites with numbers below n are opened: the others still lead to the opened network, bear new
-- locations and hand out the rest; of the sites to come the tree has the site-level locations alone
pub record IsUpTo (c : CodeParts) (n : ℕ) (o : OpenedSites) : Type 0 where
  pub net : Net
  pub rest : all_opened c n (drop n c.sites) net ≡ opened_net net.version c
  pub new : BearNew c n (drop n c.sites) net
  pub handed :
      (es : List Effects) → AreHanded c n (drop n c.sites) net.tree es
      → AreHanded c 0 c.sites (tree_before c) (o.handed.items ++ es)
  pub sites_are : o.sites.items ≡ net.sites
  pub tree : bare o.tree ≡ net.tree
  pub tops :
      (l : Loc) → Contains c.tops l
      → spot o.tree l ≡ Some (record { number = l.site; marked = false })
  pub no_others : (l : Loc) → n ≤ l.site → is_some (spot o.tree l) ≡ true → Contains c.tops l
  pub numbered : (j : ℕ) (s : Site) → slice_get o.sites.items j ≡ Some s → s.number ≡ j
  pub many : length o.sites.items ≡ n
  pub roots : o.tree.roots ≡ length c.sites
  pub fit : Each (CanAct c o.tree) o.sites.items

-- a site is opened behind the others, and hands this out
pub record IsAdded (s : Site) (e : Effects) (old new : OpenedSites) : Type 0 where
  pub sites : new.sites.items ≡ old.sites.items ++ s ∷ []
  pub handed : new.handed.items ≡ old.handed.items ++ e ∷ []
  pub tree : new.tree ≡ old.tree
