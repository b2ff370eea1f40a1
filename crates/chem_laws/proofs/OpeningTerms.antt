-- The pairs in what the sites leave, once their places are locations.
use Rattle.std.proofs.Common.{ℕ, ◌+◌, ◌<◌, List, [], ◌∷◌, Option, subst, arith, inl, inr}
use Rattle.chem_model.specs.declared.name.Loc.{Loc}
use Rattle.chem_model.specs.declared.name.Name.{Name}
use Rattle.chem_model.specs.declared.program.SiteTerm.{SiteTerm}
use Rattle.chem_model.specs.Process.{Process, Definition, definitions}
use Rattle.chem_model.specs.ProgramFacts.{places}
use Rattle.chem_model.specs.Bag.{one, bag}
use Rattle.chem_model.specs.Fill.{Naming, or_binder, fill}
use Rattle.chem_model.specs.OnNames.{OnRef, OnProcess, OnDefinitions, OnPairs}
use Rattle.chem_model.specs.Solution.{coded_located_process}
use Rattle.chem_model.specs.Opening.{root_of}
use Rattle.chem_model.specs.Runs.{processes_at}
use Rattle.chem_laws.proofs.Lists.{above}
use Rattle.chem_laws.proofs.Terms.{OnEntries, found_on, definitions_filled, process_filled}
use Rattle.chem_laws.proofs.Parts.{rules_left, bodies_left}
use Rattle.chem_laws.proofs.LevelLeft.{OnLoc, DefOn, ProcOn, one_proc_on, rules_on, bodies_on}
use Rattle.chem_laws.proofs.OpeningNames.{SiteIs, SitesAre}
use Rattle.chem_laws.proofs.OpeningPlaces.{rules_all, bodies_all}

-- ---- what holds of each pair in what the sites leave

module _ (P : ℕ → ℕ → Type 0) (m : Naming) (entries : OnEntries (OnPairs P) m) where
  pub root_on : (i : ℕ) (t : SiteTerm) → SiteIs m i t → OnLoc P (root_of i)
  root_on i t h = subst (λ (o : Option Name). OnRef (OnPairs P) (or_binder t.name o))
      h.named (found_on (OnPairs P) m entries m entries t.name)

  -- what stands for the sites from this number on
  pub all_rules_on : (i : ℕ) (ts : List SiteTerm) → SitesAre m i ts
      → OnDefinitions (OnPairs P) (places ts) → (x : Loc × Definition) → 0 < rules_all m i ts x
      → DefOn P x
  all_rules_on i [] h g x c = absurd (omega arith)
  all_rules_on i (t ∷ ts) h g x c =
      elim (above (rules_left (root_of i) m (definitions t.defs) x) (rules_all m (i + 1) ts x) c) [
        | inl u ↦ rules_on P (root_of i) m (definitions t.defs) (root_on i t h.0)
            (definitions_filled (OnPairs P) m entries (definitions t.defs) g.0.1) x u
        | inr u ↦ all_rules_on (i + 1) ts h.1 g.1 x u
      ]

  pub all_bodies_on : (i : ℕ) (ts : List SiteTerm) → SitesAre m i ts
      → OnDefinitions (OnPairs P) (places ts) → (x : Loc × Process) → 0 < bodies_all m i ts x
      → ProcOn P x
  all_bodies_on i [] h g x c = absurd (omega arith)
  all_bodies_on i (t ∷ ts) h g x c = elim (above (bodies_left (root_of i) m (definitions t.defs) x)
      (bodies_all m (i + 1) ts x) c) [
        | inl u ↦ bodies_on P (root_of i) m (definitions t.defs) (root_on i t h.0)
            (definitions_filled (OnPairs P) m entries (definitions t.defs) g.0.1) x u
        | inr u ↦ all_bodies_on (i + 1) ts h.1 g.1 x u
      ]

  pub body_on : (i : ℕ) (t : SiteTerm) → SiteIs m i t → OnProcess (OnPairs P) t.body
      → (x : Loc × Process) → 0 < one coded_located_process (root_of i, fill m t.body) x
      → ProcOn P x
  body_on i t h g x c = one_proc_on P (root_of i, fill m t.body) x
      (root_on i t h, process_filled (OnPairs P) m entries t.body g) c

  pub all_processes_on : (i : ℕ) (ts : List SiteTerm) → SitesAre m i ts
      → OnDefinitions (OnPairs P) (places ts) → (x : Loc × Process)
      → 0 < bag coded_located_process (processes_at m i ts) x → ProcOn P x
  all_processes_on i [] h g x c = absurd (omega arith)
  all_processes_on i (t ∷ ts) h g x c =
      elim (above (one coded_located_process (root_of i, fill m t.body) x)
      (bag coded_located_process (processes_at m (i + 1) ts) x) c) [
        | inl u ↦ body_on i t h.0 g.0.2 x u
        | inr u ↦ all_processes_on (i + 1) ts h.1 g.1 x u
      ]
