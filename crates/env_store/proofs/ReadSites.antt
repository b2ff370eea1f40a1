-- A site of code that is a program's reads as that site of the program.
use Rattle.std.proofs.Common.{◌≡◌, ℕ, zero, suc, ◌+◌, List, [], ◌∷◌, Some, sym, ◌∙◌, subst, arith}
use Rattle.std.specs.Prelude.{slice_get}
use Rattle.chem_model.specs.declared.program.SiteTerm.{SiteTerm}
use Rattle.chem_model.specs.Process.{definitions}
use Rattle.chem_model.specs.ProgramFacts.{ProgramTerms}
use Rattle.chem_model.specs.Opening.{site_names}
use Rattle.chem_model.specs.Fill.{Naming}
use Rattle.env_store.specs.declared.code.SiteCode.{SiteCode}
use Rattle.env_store.specs.CodeParts.{CodeParts}
use Rattle.env_store.specs.Layout.{LevelTerm, levels_of_program}
use Rattle.env_store.specs.Reading.{ReadsSite, ReadsSites, IsCodeOf}

module _ (c : CodeParts) (levels : List LevelTerm) (tops : Naming) where
  one_site : (ts : List SiteTerm) (i : ℕ) → ReadsSites c levels tops i ts
      → (j : ℕ) (t : SiteTerm) (site : SiteCode) → slice_get ts j ≡ Some t
      → slice_get c.sites (i + j) ≡ Some site
      → ReadsSite c levels tops (definitions t.defs) t.body site
  one_site [] i h j t site e f = cc
  one_site (u ∷ ts) i h zero t site e f =
      let zero_more : i + 0 ≡ i = omega arith in
      let there : slice_get c.sites i ≡ Some site =
      subst (λ k. slice_get c.sites k ≡ Some site) zero_more f in
      let is : u ≡ t = cc in
      let some : Some h.0.0 ≡ Some site = sym h.0.1 ∙ there in
      let same : h.0.0 ≡ site = cc in
      subst (λ (v : SiteTerm). ReadsSite c levels tops (definitions v.defs) v.body site) is
      (subst (ReadsSite c levels tops (definitions u.defs) u.body) same h.0.2)
  one_site (u ∷ ts) i h (suc j) t site e f =
      let next : i + suc j ≡ (i + 1) + j = omega arith in
      one_site ts (i + 1) h.1 j t site e (subst (λ k. slice_get c.sites k ≡ Some site) next f)

pub site_read : (p : ProgramTerms) (c : CodeParts) → IsCodeOf p c
    → (i : ℕ) (t : SiteTerm) (site : SiteCode) → slice_get p.sites i ≡ Some t
    → slice_get c.sites i ≡ Some site
    → ReadsSite c (levels_of_program p) (site_names p.sites) (definitions t.defs) t.body site
site_read p c is i t site e f =
    let zero_more : i ≡ 0 + i = omega arith in
    one_site c (levels_of_program p) (site_names p.sites) p.sites 0 is.sites i t site e
    (subst (λ k. slice_get c.sites k ≡ Some site) zero_more f)
