-- The opening of a site.
use Rattle.std.specs.Prelude.{◌≡◌, ℕ, ◌<◌, ◌^◌, true, false, Some, is_some}
use Rattle.std.specs.List.{Contains}
use Rattle.chem_model.specs.declared.name.Loc.{Loc}
use Rattle.chem_model.specs.ProgramFacts.{ProgramTerms, IsProgram}
use Rattle.env_store.specs.declared.code.SiteCode.{SiteCode}
use Rattle.env_store.specs.CodeParts.{CodeParts}
use Rattle.env_store.specs.Reading.{IsCodeOf}
use Rattle.env_store.specs.Running.{site_made}
use Rattle.loc_tree.specs.Tree.{Tree, spot, IsFresh}
use Rattle.net_laws.specs.Site.{Site}
use Rattle.net_laws.specs.Opened.{opened_by, not_in}
use Rattle.site_solution.specs.InTree.{is_in_tree}
use Rattle.site_solution.specs.InCode.{is_in_code}
use Rattle.site_solution.specs.Draws.{all_drawn}
use Rattle.site_solution.specs.Answers.{Answers}
use Rattle.site_solution.specs.declared.effects.Effects.{Effects}

-- the code is that of a program
abbrev pub IsOfProgram : CodeParts → Type 0
IsOfProgram c = (p : ProgramTerms) × IsProgram p × IsCodeOf p c

-- each location of the code's `tops` is in the tree, unmarked and with the number of the site in
-- its pair, and no other location that this site made is
pub record HasTops (c : CodeParts) (t : Tree) (i : ℕ) : Type 0 where
  pub there :
      (l : Loc) → Contains c.tops l → spot t l ≡ Some (record { number = l.site; marked = false })
  pub no_others :
      (l : Loc) → l.site ≡ i → is_some (spot t l) ≡ true → Contains c.tops l

-- all that the site holds and names is in the tree, its groups are of the code's levels, all that
-- it made and holds has a number below its count, and so has each location of the tree that it
-- made; and the count is below 2^63
pub record IsOpenedFit (c : CodeParts) (t : Tree) (s : Site) : Type 0 where
  pub there : is_in_tree t s ≡ true
  pub coded : is_in_code c t s ≡ true
  pub drawn : all_drawn s ≡ true
  pub few : s.made < 2 ^ 63
  pub fresh : IsFresh t s.number s.made

-- the site is the one that hosts its root alone and then all that its code makes, and the effects
-- are those of that run; of its births they have those that the tree doesn't have
abbrev pub Opens : CodeParts → Tree → ℕ → SiteCode → Site → Effects → Type 0
Opens c t i site new e =
    let a = site_made c i site in
    Answers (opened_by c t i site) a.outs (not_in t a.births) new e
