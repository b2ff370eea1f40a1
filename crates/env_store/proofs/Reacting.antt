-- Running a guard's body under its group's environment and the received names makes what pouring
-- the filled body makes.
use Rattle.std.proofs.Common.{◌≡◌, ℕ, ◌+◌, ◌≤◌, List, ◌++◌, length, Some, sym, ap, ◌∙◌, arith}
use Rattle.std.proofs.Common.{length-append}
use Rattle.std.specs.Prelude.{slice_get}
use Rattle.chem_model.specs.declared.name.Loc.{Loc}
use Rattle.chem_model.specs.declared.name.Name.{Name}
use Rattle.chem_model.specs.Process.{Process}
use Rattle.chem_model.specs.Binders.{bound_in}
use Rattle.chem_model.specs.Fill.{Naming, fill}
use Rattle.chem_model.specs.Reduction.{given}
use Rattle.chem_model.specs.Pour.{pour}
use Rattle.chem_laws.proofs.Parts.{is_named}
use Rattle.env_store.specs.declared.code.Instr.{Instr}
use Rattle.env_store.specs.Layout.{LevelTerm}
use Rattle.env_store.specs.CodeParts.{CodeParts}
use Rattle.env_store.specs.Running.{Making, run}
use Rattle.env_store.specs.Groups.{unnamed, as_poured}
use Rattle.env_store.specs.Reading.{ReadsBody, ReadsLevel}
use Rattle.env_store.proofs.Pouring.{names_joined, body_pours}
use Rattle.env_store.proofs.PouringFilled.{pour_filled}

module _ (c : CodeParts) (levels : List LevelTerm) (tops : Naming) (M : Making) (s : ℕ) (r : Loc)
    (flat : (n : ℕ) (t : LevelTerm) → slice_get levels n ≡ Some t → ReadsLevel c levels tops n t)
    (runs : (j : ℕ) (is : List Instr) → slice_get c.bodies j ≡ Some is
    → (env : List Name) (l : Loc) (k : ℕ) → M j env l k ≡ run c M s is env l k) where
  pub reacts : (j : ℕ) (y params : List ℕ) (p : Process) (env args : List Name) (l : Loc) (k : ℕ)
      → ReadsBody c levels tops (y ++ params) p j → length env ≡ length y
      → length args ≡ length params
      → ((b : ℕ) → is_named (tops ++ given y env) b + bound_in p b ≤ 1)
      → as_poured levels tops r (M j (env ++ args) l k)
      ≡ unnamed (pour c.seen s r (given params args) l k (fill (tops ++ given y env) p))
  reacts j y params p env args l k h e f o =
      body_pours c levels tops M s r flat runs j (y ++ params) p (env ++ args) l k h
      (omega (arith, length-append env args, length-append y params))
      ∙ ap (λ m. unnamed (pour c.seen s r m l k p))
      (sym (names_joined c levels tops M s r flat runs y params env args e))
      ∙ ap unnamed (sym (pour_filled c.seen s r (tops ++ given y env) p (given params args) l k o))
