-- A message, and what its type keeps.
use Rattle.std.specs.Prelude.{◌≤◌, List, length, refl}
use Rattle.std.specs.Coded.{Coded, code_by, coded×, coded_list}
use Rattle.chem_model.specs.Each.{Each}
use Rattle.chem_model.specs.declared.name.Name.{Name}
use Rattle.chem_model.specs.declared.event.AtomId.{AtomId}
use Rattle.chem_model.specs.contracts.name.Name as name
use Rattle.chem_model.specs.contracts.event.AtomId as atom
use Rattle.wire_packet.specs.Operations.{IsPlain, HasCount}

-- its id, the name that it is sent on, and its arguments
pub record MessageParts : Type 0 where
  pub id : AtomId
  pub on : Name
  pub args : List Name

-- A message has at most 255 arguments, none of them an operation; and on an operation it has as
-- many as that has.
pub record IsMessage (m : MessageParts) : Type 0 where
  pub few : length m.args ≤ 255
  pub plain : Each IsPlain m.args
  pub count : HasCount m.on (length m.args)

-- how the logic stores a message
abbrev pub message_code : Coded MessageParts
message_code =
    code_by (AtomId × (Name × List Name))
    (coded× atom.the_row.coded (coded× name.the_row.coded (coded_list name.the_row.coded)))
    (λ m. (m.id, (m.on, m.args)))
    (λ t. record { id = t.0; on = t.1.0; args = t.1.1 })
    (λ _. refl)
