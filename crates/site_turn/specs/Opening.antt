-- All sites of a program, opened.
use Rattle.std.specs.Prelude.{◌≡◌, ℕ, ◌+◌, List, [], ◌∷◌, length}
use Rattle.chem_model.specs.Each.{Each}
use Rattle.env_store.specs.declared.code.SiteCode.{SiteCode}
use Rattle.env_store.specs.CodeParts.{CodeParts}
use Rattle.env_store.specs.Running.{site_made}
use Rattle.loc_tree.specs.Tree.{Tree, bare, unmarked_roots}
use Rattle.net_laws.specs.Net.{with_births}
use Rattle.net_laws.specs.Opened.{not_in, opened_by, opened_net, with_tops}
use Rattle.site_solution.specs.Answers.{AreFlights}
use Rattle.site_solution.specs.Staying.{CanAct}
use Rattle.site_solution.specs.declared.effects.Effects.{Effects}
use Rattle.site_turn.specs.declared.opening.OpenedSites.{OpenedSites}

-- the tree before any site is opened: it has all site-level locations
abbrev pub tree_before : CodeParts → Tree
tree_before c = with_tops (unmarked_roots (length c.sites)) c.tops

-- the tree with what the opening of the site with the number i bears
abbrev pub tree_with : CodeParts → ℕ → SiteCode → Tree → Tree
tree_with c i site t = with_births t i (not_in t (site_made c i site).births)

-- these sites are opened one after another, from the number i on, and each hands out what its
-- opening emits and sends
abbrev pub AreHanded : CodeParts → ℕ → List SiteCode → Tree → List Effects → Type 0
AreHanded c i [] t [] = Unit {0}
AreHanded c i [] t (e ∷ es) = ⊥
AreHanded c i (site ∷ sites) t [] = ⊥
AreHanded c i (site ∷ sites) t (e ∷ es) =
    (e.outs ≡ (site_made c i site).outs)
    × AreFlights (opened_by c t i site).sends e.sends
    × AreHanded c (i + 1) sites (tree_with c i site t) es

-- sites and tree are those of the network that the code opens for a program of this version, each
-- site has what the calls over it need, and what is handed out is what the openings do
pub record AreOpened (version : ℕ) (c : CodeParts) (o : OpenedSites) : Type 0 where
  pub sites : o.sites.items ≡ (opened_net version c).sites
  pub tree : bare o.tree ≡ (opened_net version c).tree
  pub fit : Each (CanAct c o.tree) o.sites.items
  pub handed : AreHanded c 0 c.sites (tree_before c) o.handed.items
