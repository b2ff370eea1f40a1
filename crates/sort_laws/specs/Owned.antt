-- Each channel that was made is on a pattern of a rule.
use Rattle.std.specs.Prelude.{◌≡◌, List}
use Rattle.chem_model.specs.declared.name.Name.{Name}
use Rattle.chem_model.specs.declared.name.Name.TheVariants as name
use Rattle.chem_model.specs.declared.name.Ref.TheVariants.{Known}
use Rattle.chem_model.specs.declared.name.Pat.{Pat}
use Rattle.chem_model.specs.declared.numbered.Named.{Named}
use Rattle.chem_model.specs.declared.numbered.NumberedRule.{NumberedRule}
use Rattle.chem_model.specs.declared.numbered.Numbered.{Numbered}
use Rattle.chem_model.specs.Each.{Each, IsIn}
use Rattle.chem_model.specs.Fill.{Naming}

abbrev pub IsChannelName : Name → Type 0
IsChannelName (name.Seen i) = ⊥
IsChannelName (name.Place a) = ⊥
IsChannelName (name.Chan s k h) = Unit {0}
IsChannelName (name.Num n) = ⊥
IsChannelName (name.Op i) = ⊥

-- one of the rules has a pattern on the name
pub record IsOn (rules : List NumberedRule) (n : Name) : Type 0 where
  pub rule : NumberedRule
  pub stands : IsIn rule rules
  pub pat : Pat
  pub of_rule : IsIn pat rule.pats
  pub on : pat.on ≡ Known n

abbrev pub Owns : List NumberedRule → Named → Type 0
Owns rules x = IsChannelName x.name → IsOn rules x.name

abbrev pub OwnAll : List NumberedRule → Naming → Type 0
OwnAll rules names = Each (Owns rules) names

-- each channel that was given is on a pattern of a rule of the solution
abbrev pub IsOwned : Numbered → Type 0
IsOwned n = OwnAll n.rules n.named
