-- The opening of a program's sites, by their code.
use Rattle.std.specs.Prelude.{◌≡◌, ℕ, ◌+◌, ◌<◌, ◌≤◌, List, [], ◌∷◌, ◌++◌, Option, Some, None, cond}
use Rattle.std.specs.Prelude.{is_some, length, slice_index}
use Rattle.chem_model.specs.declared.name.Loc.{Loc}
use Rattle.chem_model.specs.ProgramFacts.{ProgramTerms, IsProgram}
use Rattle.chem_model.specs.Each.{Each}
use Rattle.chem_model.specs.Opening.{root_of, counts_of, opening}
use Rattle.env_store.specs.declared.code.SiteCode.{SiteCode}
use Rattle.env_store.specs.CodeParts.{CodeParts}
use Rattle.env_store.specs.CodeFacts.{IsCode}
use Rattle.env_store.specs.Reading.{IsCodeOf}
use Rattle.env_store.specs.Running.{site_made}
use Rattle.env_store.specs.Laws.{rules_of_group}
use Rattle.loc_tree.specs.declared.tree.Spot.{Spot}
use Rattle.loc_tree.specs.Tree.{Tree, spot, unmarked_roots, with_birth}
use Rattle.net_laws.specs.Site.{Told, Site, told_in}
use Rattle.net_laws.specs.Net.{Net, Stands, with_births, made_of}
use Rattle.net_laws.specs.Kept.{IsNet}
use Rattle.net_laws.specs.Posting.{Outcome}
use Rattle.net_laws.specs.Opening.{empty_site}
use Rattle.net_laws.specs.ByCode.{run_here, IsOfCode}

-- ---- one site

-- the locations of a list that the tree doesn't have
abbrev pub not_in : Tree → List Loc → List Loc
not_in t [] = []
not_in t (l ∷ ls) = cond (is_some (spot t l)) (not_in t ls) (l ∷ not_in t ls)

-- what the opening of the site with the number i leaves: it hosts its root alone, and then all
-- that its code makes, its site-level places among that
abbrev pub opened_by : CodeParts → Tree → ℕ → SiteCode → Outcome
opened_by c t i site = run_here c t (site_made c i site) (empty_site i 1 (root_of i ∷ []))

-- ---- all sites

-- the tree with the locations of a list that it doesn't have, each at the site that made it
abbrev pub with_top : Option Spot → Tree → Loc → Tree
with_top None t l = with_birth t l l.site
with_top (Some s) t l = t

abbrev pub with_tops : Tree → List Loc → Tree
with_tops t [] = t
with_tops t (l ∷ ls) = with_tops (with_top (spot t l) t l) ls

-- before any site is opened the tree has all site-level locations
abbrev pub unopened : ℕ → CodeParts → Net
unopened version c = record {
  version = version;
  seen = c.seen;
  sites = [];
  tree = with_tops (unmarked_roots (length c.sites)) c.tops;
  trace = [];
  packets = [];
}

-- the network with one site more, which has the number i
abbrev pub with_opened : CodeParts → ℕ → SiteCode → Net → Net
with_opened c i site net =
    let a = site_made c i site in
    let o = opened_by c net.tree i site in
    record {
      version = net.version;
      seen = net.seen;
      sites = net.sites ++ o.site ∷ [];
      tree = with_births net.tree i (not_in net.tree a.births);
      trace = net.trace ++ a.outs;
      packets = net.packets ++ o.sends;
    }

-- these sites are opened one after another, from the number i on
abbrev pub all_opened : CodeParts → ℕ → List SiteCode → Net → Net
all_opened c i [] net = net
all_opened c i (site ∷ sites) net = all_opened c (i + 1) sites (with_opened c i site net)

-- the network of the opening
abbrev pub opened_net : ℕ → CodeParts → Net
opened_net version c = all_opened c 0 c.sites (unopened version c)

-- ---- what holds of it

-- the channels of the group have numbers below the count of the site that made them
abbrev pub AreDrawn : List ℕ → Told → Type 0
AreDrawn counts d = d.inst.chans.k + length d.counts ≤ slice_index counts d.inst.chans.site

-- a network of sites that run the code of a program: beside what every network keeps, its groups
-- are the program's, and their channels are drawn
pub record RunsCode (p : ProgramTerms) (c : CodeParts) (net : Net) : Type 0 where
  pub version : net.version ≡ p.version
  pub seen : net.seen ≡ counts_of p.seen
  pub keeps : IsNet (rules_of_group p) net
  pub of_code : Each (λ (s : Site). Each (IsOfCode p c) (told_in s.groups)) net.sites
  pub drawn :
      Each (λ (s : Site). Each (AreDrawn (made_of net.sites)) (told_in s.groups)) net.sites

-- it stands for the program's opening, and each site has made at most 1,048,576 numbers
abbrev pub OpenedStands : Type 0
OpenedStands =
    (p : ProgramTerms) (c : CodeParts) → IsProgram p → IsCode c → IsCodeOf p c
    → Stands (rules_of_group p) (opened_net p.version c) (opening p)
    × RunsCode p c (opened_net p.version c)
    × Each (λ (s : Site). s.made ≤ 1048576) (opened_net p.version c).sites

-- each site-level location is of one of the sites
abbrev pub TopsAreOfSites : Type 0
TopsAreOfSites =
    (p : ProgramTerms) (c : CodeParts) → IsProgram p → IsCodeOf p c
    → Each (λ (l : Loc). l.site < length c.sites) c.tops

-- ---- births are new

-- each location is new to the tree with those before it
abbrev pub AreNew : Tree → ℕ → List Loc → Type 0
AreNew t i [] = Unit {0}
AreNew t i (l ∷ ls) = (spot t l ≡ None) × AreNew (with_birth t l i) i ls

-- at each of these openings
abbrev pub BearNew : CodeParts → ℕ → List SiteCode → Net → Type 0
BearNew c i [] net = Unit {0}
BearNew c i (site ∷ sites) net =
    AreNew net.tree i (not_in net.tree (site_made c i site).births)
    × BearNew c (i + 1) sites (with_opened c i site net)

abbrev pub OpeningsBearNew : Type 0
OpeningsBearNew =
    (p : ProgramTerms) (c : CodeParts) → IsProgram p → IsCode c → IsCodeOf p c
    → BearNew c 0 c.sites (unopened p.version c)
