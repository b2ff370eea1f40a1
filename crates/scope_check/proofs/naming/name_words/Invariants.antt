use Rattle.std.proofs.Common.{◌≡◌, drop}
use Rattle.scope_check.specs.inside.Naming.{name_words}
use Rattle.scope_check.proofs.naming.name_words.Given as goal

abbrev pub invariant-loop-word : goal.invariant-loop-word
invariant-loop-word l = name_words l.spell l.table (drop l.word-index l.words)
    ≡ name_words l.initial.spell l.initial.table l.words
