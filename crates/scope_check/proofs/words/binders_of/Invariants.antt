use Rattle.std.proofs.Common.{◌≡◌, ◌++◌, drop}
use Rattle.scope_check.specs.inside.Twin.{binders_in}
use Rattle.scope_check.proofs.words.binders_of.Given as goal

abbrev pub invariant-loop-word : goal.invariant-loop-word
invariant-loop-word l =
    l.numbers ++ binders_in l.scope (drop l.word-index l.words) ≡ binders_in l.scope l.words
