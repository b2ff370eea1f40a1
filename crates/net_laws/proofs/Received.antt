-- Messages that patterns receive.
use Rattle.std.specs.Prelude.{◌≡◌, List, [], ◌∷◌, length}
use Rattle.chem_model.specs.declared.name.Pat.{Pat}
use Rattle.chem_model.specs.declared.name.Ref.TheVariants.{Known}
use Rattle.wire_packet.specs.MessageFacts.{MessageParts}

-- the message is on the pattern's channel and has its count
abbrev pub IsFor : Pat → MessageParts → Type 0
IsFor p m = (p.on ≡ Known m.on) × (length p.params ≡ length m.args)

-- one message for each pattern
abbrev pub AreFor : List Pat → List MessageParts → Type 0
AreFor [] [] = Unit {0}
AreFor [] (m ∷ ms) = ⊥
AreFor (p ∷ ps) [] = ⊥
AreFor (p ∷ ps) (m ∷ ms) = IsFor p m × AreFor ps ms
