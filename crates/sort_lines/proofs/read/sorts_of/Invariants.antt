use Rattle.std.proofs.Common.{◌≡◌, ◌++◌, [], drop, length}
use Rattle.sort_lines.specs.inside.Judging.{first_wrong, decls_in, uses_in}
use Rattle.sort_lines.proofs.read.sorts_of.Given as goal

abbrev pub invariant-loop-line : goal.invariant-loop-line
invariant-loop-line l = record {
  wrong :
      first_wrong l.names (length l.sorts.decls) l.spells (drop l.line-index l.all)
      ≡ first_wrong l.names 0 [] l.all;
  decls : l.sorts.decls ++ decls_in l.names (drop l.line-index l.all) ≡ decls_in l.names l.all;
  uses : l.sorts.uses ++ uses_in l.names (drop l.line-index l.all) ≡ uses_in l.names l.all;
}
