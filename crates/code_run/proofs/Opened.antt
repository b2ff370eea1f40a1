-- The opening of a site: its block is laid, and then its process is run.
use Rattle.std.proofs.Common.{◌≡◌, ℕ, ◌+◌, ◌<◌, List, [], ◌∷◌, length, Option, Some, None, refl}
use Rattle.std.proofs.Common.{sym, ap, ◌∙◌, subst, arith}
use Rattle.std.specs.Prelude.{slice_get}
use Rattle.std.proofs.lemmas.Option.{slice_get_within}
use Rattle.chem_model.specs.declared.name.Name.{Name}
use Rattle.chem_model.specs.Each.{Each}
use Rattle.env_store.specs.declared.code.Level.{Level}
use Rattle.env_store.specs.declared.code.Block.{Block}
use Rattle.env_store.specs.declared.code.SiteCode.{SiteCode}
use Rattle.env_store.specs.CodeParts.{CodeParts}
use Rattle.env_store.specs.CodeFacts.{IsCode, IsLevelAt, IsLevel, IsPlaceBody, IsBodyAt, IsBelow}
use Rattle.env_store.specs.CodeFacts.{AreBelow, IsBlockAt, names_made}
use Rattle.env_store.specs.Running.{nothing_ran, then_ran, NumberedLevel, numbered_levels, loc_at}
use Rattle.env_store.specs.Running.{block_names, block_laid, code_made, site_levels_ran}
use Rattle.env_store.specs.Running.{site_block_ran, site_made}
use Rattle.code_run.specs.declared.made.Run.{Run}
use Rattle.code_run.specs.Posts.{run_of}
use Rattle.code_run.specs.inside.Steps.{Adds, levels_laid}
use Rattle.code_run.proofs.Runs.{adds_then, from_nothing}
use Rattle.code_run.proofs.Blocks.{numbered_first}
use Rattle.code_run.proofs.Numbers.{block_long}

module _ (c : CodeParts) (kept : IsCode c) where
  -- each body is one of the code's
  body_below : (n : ℕ) (v : Level) → IsLevel c n v → IsBelow (length c.bodies) v.body
  body_below n v is = go v.body refl
    where
      of_place : (j : ℕ) (o : Option ℕ) → v.place ≡ o → v.body ≡ Some j → j < length c.bodies
      of_place j None p e =
          absurd (subst (λ (q : Option ℕ × Option ℕ). IsPlaceBody c v.depth q.0 q.1)
          (λ i. (p i, e i)) is.body)
      of_place j (Some x) p e =
          let at : IsBodyAt c v.depth j =
          subst (λ (q : Option ℕ × Option ℕ). IsPlaceBody c v.depth q.0 q.1) (λ i. (p i, e i))
          is.body in
          slice_get_within c.bodies j at.instrs at.is_there

      go : (o : Option ℕ) → v.body ≡ o → IsBelow (length c.bodies) o
      go None e = tt
      go (Some j) e = of_place j v.place refl e

  pub bodies_below : (d : ℕ) (ns : List ℕ) → Each (IsLevelAt c d) ns
      → AreBelow (length c.bodies) (numbered_levels c.levels ns)
  bodies_below d [] h = tt
  bodies_below d (n ∷ ns) h =
      subst (AreBelow (length c.bodies)) (sym (numbered_first c n ns h.0.0 h.0.1))
      (body_below n h.0.0 (kept.levels n h.0.0 h.0.1), bodies_below d ns h.1)

  -- a site's block, whose levels have the empty environment
  pub site_levels : (s : ℕ) (site : SiteCode) (block : Block) → slice_get c.sites s ≡ Some site
      → slice_get c.blocks site.block ≡ Some block → Each (IsLevelAt c 0) block.levels
  site_levels s site block at there =
      let is = kept.sites s site at in
      let same : is.block ≡ block = cc (is.is_there, there) in
      subst (λ (b : Block). Each (IsLevelAt c 0) b.levels) same is.levels

  module _ (s : ℕ) (site : SiteCode) (block : Block) (is : IsBlockAt c site.block block)
      (there : slice_get c.blocks site.block ≡ Some block) (start mid new : Run) (n : ℕ)
      (env : List Name) where
    levels_opened : (vs : List NumberedLevel) → 0 < length vs → start ≡ run_of (nothing_ran n)
        → n ≡ 1 + names_made vs → env ≡ []
        → Adds start mid (levels_laid (code_made c s) s env (loc_at s 0) 1 start.next vs)
        → Adds mid new (code_made c s site.body env (loc_at s 0) mid.next)
        → new ≡ run_of (site_levels_ran (code_made c s) s site.body vs)
    levels_opened [] some begins many nil laid made = absurd (omega arith)
    levels_opened (v ∷ vs) some begins many nil laid made =
        let M = code_made c s in
        let l = loc_at s 0 in
        let n_is : n ≡ 1 + length (block_names s l 1 v vs) =
        omega (arith, block_long s l 1 v vs, many) in
        let a = block_laid M s [] l 1 (1 + length (block_names s l 1 v vs)) v vs in
        let at : Adds (run_of (nothing_ran n)) mid (block_laid M s env l 1 n v vs) =
        subst (λ (m : Run). Adds m mid (block_laid M s env l 1 m.next v vs)) begins laid in
        let exact : Adds (run_of (nothing_ran n)) mid a = subst
        (λ (q : List Name × ℕ). Adds (run_of (nothing_ran n)) mid (block_laid M s q.0 l 1 q.1 v vs))
        (λ i. (nil i, n_is i)) at in
        let body : Adds mid new (M site.body [] l a.next) =
        subst (λ (q : List Name × ℕ). Adds mid new (M site.body q.0 l q.1))
        (λ i. (nil i, exact.0 i)) made in
        from_nothing n new (then_ran a (M site.body [] l a.next))
        (adds_then (run_of (nothing_ran n)) mid new a (M site.body [] l a.next) exact body)

    some_numbered : (d : ℕ) (ns : List ℕ) → Each (IsLevelAt c d) ns → 0 < length ns
        → 0 < length (numbered_levels c.levels ns)
    some_numbered d [] h some = absurd (omega arith)
    some_numbered d (m ∷ ns) h some =
        subst (λ us. 0 < length us) (sym (numbered_first c m ns h.0.0 h.0.1)) (omega arith)

    pub opened : (d : ℕ) → Each (IsLevelAt c d) block.levels → slice_get c.sites s ≡ Some site
        → start ≡ run_of (nothing_ran n) → n ≡ 1 + block.names → env ≡ []
        → Adds start mid (levels_laid (code_made c s) s env (loc_at s 0) 1
        start.next (numbered_levels c.levels block.levels))
        → Adds mid new (code_made c s site.body env (loc_at s 0) mid.next)
        → (other : SiteCode) → slice_get c.sites s ≡ Some other → new ≡ run_of (site_made c s other)
    opened d levels at_site begins many nil laid made other at_other =
        let same : site ≡ other = cc (at_site, at_other) in
        let count : n ≡ 1 + names_made (numbered_levels c.levels block.levels) =
        many ∙ ap (λ j. 1 + j) is.names in
        let whole = levels_opened (numbered_levels c.levels block.levels)
        (some_numbered d block.levels levels is.some) begins count nil laid made in
        whole ∙ ap (λ o. run_of (site_block_ran c (code_made c s) s site.body o)) (sym there)
        ∙ ap (λ x. run_of (site_made c s x)) same
