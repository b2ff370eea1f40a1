use Rattle.std.proofs.Common.{◌≡◌, ◌++◌, drop}
use Rattle.scope_check.specs.inside.Twin.{pats_in}
use Rattle.scope_check.proofs.words.patterns_of.Given as goal

abbrev pub invariant-loop-pat : goal.invariant-loop-pat
invariant-loop-pat l =
    l.list ++ pats_in l.own l.params (drop l.pat-index l.pats) ≡ pats_in l.own l.params l.pats
