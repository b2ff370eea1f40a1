-- What the lines still have to deliver, and what a list of packets weighs.
use Rattle.std.specs.Prelude.{ℕ, ◌+◌, List, [], ◌∷◌, ◌++◌}
use Rattle.net_core.specs.declared.drained.FlightFrom.{FlightFrom}
use Rattle.lossy_link.specs.declared.line.Line.{Line}
use Rattle.lossy_link.specs.Lines.{flight_from, undelivered}

abbrev pub of_texts : ℕ → ℕ → List (List ℕ) → List FlightFrom
of_texts f t [] = []
of_texts f t (x ∷ xs) = flight_from f t x ∷ of_texts f t xs

-- the packets whose number isn't below their receiver's next one, line after line
abbrev pub pending : List Line → List FlightFrom
pending [] = []
pending (l ∷ ls) = of_texts l.from l.into (undelivered l) ++ pending ls

-- the sum of what each weighs
abbrev pub weight : (FlightFrom → ℕ) → List FlightFrom → ℕ
weight w [] = 0
weight w (p ∷ ps) = w p + weight w ps
