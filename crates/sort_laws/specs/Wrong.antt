-- Which message or request of a solution is wrong.
use Rattle.std.specs.Prelude.{◌≡◌, ◌≢◌, ◌⊎◌, ℕ, List, ◌∷◌, length}
use Rattle.chem_model.specs.declared.name.Name.{Name}
use Rattle.chem_model.specs.declared.name.Name.TheVariants as name
use Rattle.chem_model.specs.declared.name.Ref.{Ref}
use Rattle.chem_model.specs.declared.name.Ref.TheVariants.{Binder, Known}
use Rattle.chem_model.specs.declared.name.Pat.{Pat}
use Rattle.chem_model.specs.Process.{Process, Msg, Par, Def, Go, Fail, Halt}
use Rattle.chem_model.specs.Each.{IsIn}
use Rattle.chem_model.specs.declared.numbered.NumberedRule.{NumberedRule}
use Rattle.chem_model.specs.declared.numbered.Numbered.{Numbered}

-- a rule of the solution has a pattern of this channel with another count
pub record HasOtherCount (n : Numbered) (channel : Name) (count : ℕ) : Type 0 where
  pub rule : NumberedRule
  pub stands : IsIn rule n.rules
  pub pat : Pat
  pub of_rule : IsIn pat rule.pats
  pub on : pat.on ≡ Known channel
  pub other : length pat.params ≢ count

-- a rule of the solution has a pattern of this channel with this count
pub record HasPattern (n : Numbered) (channel : Name) (count : ℕ) : Type 0 where
  pub rule : NumberedRule
  pub stands : IsIn rule n.rules
  pub pat : Pat
  pub of_rule : IsIn pat rule.pats
  pub on : pat.on ≡ Known channel
  pub same : length pat.params ≡ count

-- the first two arguments are numbers
abbrev pub HasTwoNumbers : List Ref → Type 0
HasTwoNumbers (Known (name.Num m) ∷ Known (name.Num n) ∷ vs) = Unit {0}
HasTwoNumbers vs = ⊥

-- A message on a location, on a number or on an observed name (one with the declared count is an
-- observable, and stands nowhere); one on a channel with another count than its patterns: than one
-- of them, or than each of them; and one on an operation without two numbers.
abbrev pub IsWrongMessage : Numbered → Ref → List Ref → Type 0
IsWrongMessage n (Binder b) vs = Unit {0}
IsWrongMessage n (Known (name.Seen i)) vs = Unit {0}
IsWrongMessage n (Known (name.Place a)) vs = Unit {0}
IsWrongMessage n (Known (name.Chan s k h)) vs =
    HasOtherCount n (name.Chan s k h) (length vs)
    ⊎ (HasPattern n (name.Chan s k h) (length vs) → ⊥)
IsWrongMessage n (Known (name.Num k)) vs = Unit {0}
IsWrongMessage n (Known (name.Op i)) vs = HasTwoNumbers vs → ⊥

abbrev pub IsNoLocation : Ref → Type 0
IsNoLocation (Binder b) = Unit {0}
IsNoLocation (Known (name.Seen i)) = Unit {0}
IsNoLocation (Known (name.Place a)) = ⊥
IsNoLocation (Known (name.Chan s k h)) = Unit {0}
IsNoLocation (Known (name.Num n)) = Unit {0}
IsNoLocation (Known (name.Op i)) = Unit {0}

-- A message as above, or a request whose target is no location. No term that isn't a message or a
-- request stands in a solution, so each of these is wrong as well.
abbrev pub IsWrong : Numbered → Process → Type 0
IsWrong n (Msg x vs) = IsWrongMessage n x vs
IsWrong n (Par ps) = Unit {0}
IsWrong n (Def ds p) = Unit {0}
IsWrong n (Go b k) = IsNoLocation b
IsWrong n (Fail a k) = IsNoLocation a
IsWrong n Halt = ⊥
