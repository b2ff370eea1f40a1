-- The code of a program reads as the program.
use Rattle.std.proofs.Common.{◌≡◌, ℕ, ◌+◌, Some, refl, sym, ap, ◌∙◌, subst, arith, take, Result, Ok}
use Rattle.std.proofs.Common.{Err, IfOk}
use Rattle.std.specs.Prelude.{slice_get}
use Rattle.chem_model.specs.declared.memory.Memory.{Memory}
use Rattle.chem_model.specs.ProgramFacts.{ProgramTerms, IsProgram}
use Rattle.chem_model.specs.Opening.{site_names}
use Rattle.env_store.specs.declared.code.Level.{Level}
use Rattle.env_store.specs.Layout.{LevelTerm, levels_of_program, all_rules}
use Rattle.env_store.specs.CodeParts.{CodeParts}
use Rattle.env_store.specs.Reading.{ReadsLevel, IsCodeOf}
use Rattle.guard_compile.specs.declared.write.At.{At}
use Rattle.guard_compile.specs.Written.{write_sites, code_of}
use Rattle.guard_compile.proofs.From.{Holds}
use Rattle.guard_compile.proofs.WrittenReads.{LevelReads}
use Rattle.guard_compile.proofs.CodeRead.{has_all, sites_read, level_found, sites_levels}
use Rattle.guard_compile.proofs.CodeRead.{sites_long}
use Rattle.guard_compile.proofs.CodeFirst.{code_guards, level_first}
use Rattle.guard_compile.proofs.ProgramSlotted.{program_slotted}

-- a level that reads, with the number of its first guard
with_first : (p : ProgramTerms) (c : CodeParts) (n : ℕ) (t : LevelTerm) (v : Level)
    → slice_get c.levels n ≡ Some v → v.first ≡ all_rules (take n (levels_of_program p))
    → LevelReads (site_names p.sites) c (levels_of_program p) n t
    → ReadsLevel c (levels_of_program p) (site_names p.sites) n t
with_first p c n t v e f h =
    let same : v ≡ h.level = cc in
    record {
      level = h.level;
      is_there = h.is_there;
      counts = h.counts;
      depth = h.depth;
      first = ap (λ (u : Level). u.first) (sym same) ∙ f;
      guards = h.guards;
      rules = h.rules;
      process = h.process;
    }

pub code_is : (p : ProgramTerms) → IsProgram p → IsCodeOf p (code_of p)
code_is p ok =
    let tops = site_names p.sites in
    let ts = levels_of_program p in
    let c = code_of p in
    let start : At = record { level = 0; guard = 0; block = 0; body = 0 } in
    let w = write_sites tops start p.sites in
    let holds : Holds c start w.piece = record {
      levels = has_all w.piece.levels;
      guards = has_all w.piece.guards;
      blocks = has_all w.piece.blocks;
      bodies = has_all w.piece.bodies;
    } in
    let all = sites_read tops c ts p.sites start 0 (program_slotted p ok) holds (has_all ts)
    (has_all w.sites) in
    record {
      levels = λ n t e.
          let at : 0 + n ≡ n = omega arith in
          let first = level_first p n t e in
          with_first p c n t first.0 first.1 first.2
          (subst (λ k. LevelReads tops c ts k t) at (level_found tops c ts 0 ts all.1 n t e));
      no_others = sites_levels tops p.sites start;
      no_other_guards = code_guards p;
      sites = all.0;
      no_other_sites = sites_long tops p.sites start;
      seen = refl;
      tops = refl;
    }

pub reads_too : (o : Result CodeParts Memory) (p : ProgramTerms) → IsProgram p
    → IfOk o (λ code. code ≡ code_of p) → IfOk o (λ code. IsCodeOf p code)
reads_too (Ok code) p ok h = subst (IsCodeOf p) (sym h) (code_is p ok)
reads_too (Err m) p ok h = tt
