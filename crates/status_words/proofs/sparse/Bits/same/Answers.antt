use Rattle.std.proofs.Common.{◌≡◌, ap, sym, ◌∙◌}
use Rattle.status_words.specs.inside.Kept.{words_from}
use Rattle.status_words.proofs.KeptWords.{same-is}
use Rattle.status_words.proofs.sparse.Bits.same.Goals as goal

pub returns : goal.returns
returns c = rw (← c.self.view_is, ← c.other.view_is) (λ yes.
    let is : c.self.inside.words.items ≡ c.other.inside.words.items =
    sym c.deref.ensures.value
    ∙ same-is c.deref.result.now c.deref-2.result.now (sym c.same_words.ensures ∙ yes)
    ∙ c.deref-2.ensures.value in
    ap (λ ws. words_from ws 0 c.self.inside.count) is
    ∙ ap (words_from c.other.inside.words.items 0) c.if-self-other.false)
