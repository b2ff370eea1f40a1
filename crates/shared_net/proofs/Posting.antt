-- Texts that each spell a message, with one more.
use Rattle.std.proofs.Common.{ℕ, List, [], ◌∷◌, ◌++◌}
use Rattle.chem_model.specs.Each.{Each}
use Rattle.chem_laws.proofs.Lists.{Each-append}
use Rattle.site_turn.specs.Mail.{IsMessageText}

pub one_more : (texts : List (List ℕ)) (text : List ℕ) → Each IsMessageText texts
    → IsMessageText text → Each IsMessageText (texts ++ text ∷ [])
one_more texts text all one = Each-append IsMessageText texts (text ∷ []) all (one, tt)
