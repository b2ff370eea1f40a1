use Rattle.std.proofs.Common.{◌≡◌, [], ap, ◌∙◌, rules}
use Rattle.status_words.specs.inside.Kept.{words_from}
use Rattle.status_words.proofs.KeptWords.{no-words}
use Rattle.status_words.proofs.sparse.Bits.zeros.Goals as goal

pub returns : goal.returns
returns c =
    let none : c.new.result.items ≡ [] = search rules in
    ap (λ ws. words_from ws 0 c.args.count) none ∙ no-words c.args.count
