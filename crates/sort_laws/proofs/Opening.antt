-- The opening of a program that keeps the sorts of its names keeps them.
use Rattle.std.proofs.Common.{ℕ, ◌+◌, List, [], ◌∷◌}
use Rattle.chem_model.specs.declared.program.SiteTerm.{SiteTerm}
use Rattle.chem_model.specs.declared.numbered.Named.{Named}
use Rattle.chem_model.specs.declared.numbered.Numbered.{Numbered}
use Rattle.chem_model.specs.Process.{definitions}
use Rattle.chem_model.specs.ProgramFacts.{ProgramTerms, places}
use Rattle.chem_model.specs.Fill.{Naming}
use Rattle.chem_model.specs.Pour.{naming, pour_at, lay_at}
use Rattle.chem_model.specs.Opening.{counts_of, root_of, root_names, level_names, site_names}
use Rattle.chem_model.specs.Opening.{named_sites, open_sites, opening}
use Rattle.chem_laws.proofs.Lists.{Each-append}
use Rattle.sort_laws.specs.Sorted.{Sorting, KeepsDefinitions, IsSorted, MayBeGiven, IsWellSorted}
use Rattle.sort_laws.proofs.Terms.{in_left, all_within, AllFit, fits_more, keeps_more}
use Rattle.sort_laws.proofs.Terms.{definitions_more}
use Rattle.sort_laws.proofs.Poured.{AreFine, naming_fine, fine_fit, poured_keeps, level_keeps}

module _ (t : Sorting) where
  roots_fine : (i : ℕ) (ts : List SiteTerm) → KeepsDefinitions t [] (places ts)
      → AreFine t (root_names i ts)
  roots_fine i [] h = tt
  roots_fine i (x ∷ ts) h = (h.0.0, roots_fine (i + 1) ts h.1)

  levels_fine : (i : ℕ) (ts : List SiteTerm) → KeepsDefinitions t [] (places ts)
      → AreFine t (level_names i ts)
  levels_fine i [] h = tt
  levels_fine i (x ∷ ts) h = Each-append (λ (e : Named). MayBeGiven t e.binder e.name)
      (naming i (root_of i) (definitions x.defs) 1).names (level_names (i + 1) ts)
      (naming_fine t i [] (root_of i) (definitions x.defs) 1 h.0.1) (levels_fine (i + 1) ts h.1)

  names_fine : (ts : List SiteTerm) → KeepsDefinitions t [] (places ts) → AreFine t (site_names ts)
  names_fine ts h = Each-append (λ (e : Named). MayBeGiven t e.binder e.name) (root_names 0 ts)
      (level_names 0 ts) (roots_fine 0 ts h) (levels_fine 0 ts h)

  names_fit : (ts : List SiteTerm) → KeepsDefinitions t [] (places ts)
      → AllFit t (site_names ts) (site_names ts)
  names_fit ts h =
      fine_fit t (site_names ts) (site_names ts) (names_fine ts h) (all_within (site_names ts))

  sites_keep : (m : Naming) (i : ℕ) (ts : List SiteTerm) (n : Numbered)
      → KeepsDefinitions t [] (places ts) → IsWellSorted t n → AllFit t n.named m
      → IsWellSorted t (open_sites m i ts n)
  sites_keep m i [] n h k f = k
  sites_keep m i (x ∷ ts) n h k f =
      let l = root_of i in
      let a = lay_at n m l (definitions x.defs) in
      let b = pour_at a m l x.body in
      let f_a : AllFit t a.named m =
      fits_more t n.named a.named (λ e j. in_left e n.named _ j) m f in
      let f_b : AllFit t b.named m =
      fits_more t a.named b.named (λ e j. in_left e a.named _ j) m f_a in
      let laid : IsWellSorted t a = level_keeps t n m l (definitions x.defs) k f
      (definitions_more t [] n.named (λ e j. absurd j) (definitions x.defs) h.0.1) in
      let poured : IsWellSorted t b = poured_keeps t a m l x.body laid f_a
      (keeps_more t [] a.named (λ e j. absurd j) x.body h.0.2) in
      sites_keep m (i + 1) ts b h.1 poured f_b

  pub opening_keeps : (p : ProgramTerms) → IsSorted t p → IsWellSorted t (opening p)
  opening_keeps p h =
      sites_keep (site_names p.sites) 0 p.sites (named_sites p.version (counts_of p.seen) p.sites)
      h.terms (tt, tt, names_fine p.sites h.terms) (names_fit p.sites h.terms)
