use Rattle.std.proofs.Common.{sym, ◌∙◌, ap}
use Rattle.status_words.specs.inside.Kept.{word_at}
use Rattle.status_words.proofs.KeptWords.{words-index}
use Rattle.status_words.proofs.sparse.Bits.word.Goals as goal

pub returns : goal.returns
returns c = rw (← c.self.view_is)
    (c.word_at.ensures ∙ ap (λ ws. word_at ws c.args.place) c.deref.ensures.value
    ∙ sym (words-index c.self.inside.words.items c.self.inside.count c.args.place
    c.self.invariant))
