use Rattle.std.proofs.Common.{◌≡◌, rules, sym, subst}
use Rattle.chem_model.specs.ProgramFacts.{IsProgram}
use Rattle.env_store.specs.CodeParts.{CodeParts}
use Rattle.env_store.specs.CodeFacts.{IsCode}
use Rattle.guard_compile.specs.Written.{code_of}
use Rattle.guard_compile.proofs.CodeKept.{code_kept}
use Rattle.guard_compile.proofs.program.code.Goals as goal

pub invariant_of-result : goal.invariant_of-result
invariant_of-result c =
    let parts : CodeParts = record {
      guards = c.in_ok-piece.piece.guards;
      levels = c.in_ok-piece.piece.levels;
      blocks = c.in_ok-piece.piece.blocks;
      bodies = c.in_ok-piece.piece.bodies;
      seen = c.in_ok-seen.seen;
      tops = c.in_ok-locs.locs;
      sites = c.whole_piece.new.codes;
    } in
    let same : parts ≡ code_of c.args.program.now = search rules in
    subst IsCode (sym same)
    (code_kept c.args.program.now (subst IsProgram c.program.view_is c.program.invariant))
