-- What a walk answers: a term, the number of the next scope, and the sooner of what it was given
-- and its faults.
use Rattle.std.specs.Prelude.{◌≡◌, ℕ, List, Option}
use Rattle.scope_check.specs.declared.fault.Fault.{Fault}
use Rattle.scope_check.specs.inside.Order.{first_of}

pub record Shows {X : Type 0} (term : X) (end : ℕ) (faults : List Fault) (answer : X) (next : ℕ)
    (old new : Option Fault) : Type 0 where
  pub value : answer ≡ term
  pub upto : next ≡ end
  pub least : new ≡ first_of old faults
