-- The names of the site-level binders, by their numbers.
use Rattle.std.proofs.Common.{◌≡◌, ℕ, zero, suc, ◌<◌, ◌≤◌, List, [], ◌∷◌, ◌++◌, length, Option}
use Rattle.std.proofs.Common.{Some, None, true, false, refl, sym, ap, ◌∙◌, inl, inr, arith}
use Rattle.std.specs.Prelude.{slice_get, is_some}
use Rattle.std.proofs.lemmas.Bool.{cases_lt}
use Rattle.chem_model.specs.declared.name.Name.{Name}
use Rattle.chem_model.specs.Binders.{block, is_among}
use Rattle.chem_model.specs.Fill.{name_at}
use Rattle.chem_model.specs.Opening.{site_names}
use Rattle.chem_model.specs.ProgramFacts.{ProgramTerms, IsProgram, places}
use Rattle.chem_laws.proofs.Lists.{is_false, has_none}
use Rattle.guard_compile.proofs.ProgramSlotted.{top_domain}

-- the list has, below its end, what f says
abbrev pub Follows : (ℕ → Option Name) → List Name → Type 0
Follows f ns = (b : ℕ) → b < length ns → slice_get ns b ≡ f b

pub follows_more : (f : ℕ → Option Name) (ns : List Name) (n : Name) → Follows f ns
    → f (length ns) ≡ Some n → Follows f (ns ++ n ∷ [])
follows_more f [] n h e zero less = sym e
follows_more f [] n h e (suc b) less = absurd (omega arith)
follows_more f (m ∷ ns) n h e zero less = h 0 (omega arith)
follows_more f (m ∷ ns) n h e (suc b) less =
    follows_more (λ c. f (suc c)) ns n (λ c l. h (suc c) (omega arith)) e b (omega arith)

past_end : (ns : List Name) (b : ℕ) → length ns ≤ b → slice_get ns b ≡ None
past_end [] b h = refl
past_end (n ∷ ns) zero h = absurd (omega arith)
past_end (n ∷ ns) (suc b) h = past_end ns b (omega arith)

pub no_name : (o : Option Name) → is_some o ≡ true → o ≡ None → ⊥
no_name o e f = let gone : is_some o ≡ false = ap is_some f in cc

pub top_named : (p : ProgramTerms) → IsProgram p → (b : ℕ) → b < p.tops
    → is_some (name_at (site_names p.sites) b) ≡ true
top_named p ok b less = top_domain p ok b ∙ (ok.site_level b).0 less

pub all_tops : (p : ProgramTerms) → IsProgram p → (ns : List Name) → length ns ≡ p.tops
    → Follows (name_at (site_names p.sites)) ns → (b : ℕ)
    → slice_get ns b ≡ name_at (site_names p.sites) b
all_tops p ok ns long h b = elim (cases_lt b (length ns)) [
  | inl less ↦ h b less
  | inr past ↦ past_end ns b past
      ∙ sym (has_none (name_at (site_names p.sites) b) (top_domain p ok b
      ∙ is_false (is_among (block (places p.sites)) b)
      (λ e. let below = (ok.site_level b).1 e in absurd (omega arith))))
]
