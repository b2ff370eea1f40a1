use Rattle.std.proofs.Common.{◌≡◌, drop}
use Rattle.status_words.specs.inside.Kept.{word_at}
use Rattle.status_words.proofs.sparse.word_at.Given as goal

abbrev pub invariant-loop-word : goal.invariant-loop-word
invariant-loop-word l = word_at (drop l.word-index l.words) l.place ≡ word_at l.words l.place
