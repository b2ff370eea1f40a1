use Rattle.std.proofs.Common.{sym}
use Rattle.status_words.proofs.KeptWords.{words-many}
use Rattle.status_words.proofs.sparse.Bits.len.Goals as goal

pub returns : goal.returns
returns c =
    rw (← c.self.view_is) (sym (words-many c.self.inside.words.items 0 c.self.inside.count))
