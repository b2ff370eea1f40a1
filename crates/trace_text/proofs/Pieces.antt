-- Pieces of texts in one bracket.
use Rattle.std.proofs.Common.{◌≡◌, ℕ, List, ◌++◌, length, codes, refl, append_assoc}
use Rattle.std.specs.Prelude.{decimal}
use Rattle.trace_text.specs.LogText.{LogParts, events_text, beginning, log_text}

pub three : (a b c rest : List ℕ) → (a ++ b ++ c) ++ rest ≡ a ++ (b ++ (c ++ rest))
three a b c rest = simp append_assoc refl

pub four : (a b c d rest : List ℕ) → (a ++ b ++ c ++ d) ++ rest ≡ a ++ (b ++ (c ++ (d ++ rest)))
four a b c d rest = simp append_assoc refl

pub last_five : (a b c d e f : List ℕ)
    → a ++ b ++ c ++ d ++ e ++ f ≡ a ++ (b ++ (c ++ (d ++ (e ++ f))))
last_five a b c d e f = simp append_assoc refl

fourteen : (a b c d e f g h i j k l m n : List ℕ)
    → a ++ b ++ c ++ d ++ e ++ f ++ g ++ h ++ i ++ j ++ k ++ l ++ m ++ n
    ≡ a ++ (b ++ (c ++ (d ++ (e ++ (f ++ (g ++ (h ++ (i ++ (j ++ (k ++ (l ++ (m ++ n))))))))))))
fourteen a b c d e f g h i j k l m n = simp append_assoc refl

pub log_cut : (log : LogParts) → log_text log ≡ beginning log.budget ++ (decimal (length log.source)
    ++ (codes "\n"
    ++ (log.source
    ++ (codes "\nbudget "
    ++ (decimal log.budget
    ++ (codes "\nevents "
    ++ (decimal (length log.events)
    ++ (codes "\n"
    ++ (events_text log.events
    ++ (codes "trace " ++ (decimal (length log.trace) ++ (codes "\n" ++ log.trace))))))))))))
log_cut log = fourteen (beginning log.budget) (decimal (length log.source)) (codes "\n")
    log.source (codes "\nbudget ") (decimal log.budget) (codes "\nevents ")
    (decimal (length log.events)) (codes "\n") (events_text log.events) (codes "trace ")
    (decimal (length log.trace)) (codes "\n") log.trace
