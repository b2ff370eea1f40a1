use Rattle.std.proofs.Common.{◌≡◌, drop}
use Rattle.status_words.specs.inside.Kept.{all_in}
use Rattle.status_words.proofs.sparse.all_in.Given as goal

abbrev pub invariant-loop-word : goal.invariant-loop-word
invariant-loop-word l = all_in l.held (drop l.word-index l.words) ≡ all_in l.held l.words
