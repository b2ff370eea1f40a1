use Rattle.join_words.proofs.read.read_words.Goals as goal

pub texts_given-requires : goal.texts_given-requires
texts_given-requires c = rw c.as_slice.ensures.value c.in_ok-texts.ensures.utf8
