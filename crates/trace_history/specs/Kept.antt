-- What contracts see of a book: a program, and the events since its opening.
use Rattle.std.specs.Prelude.{List, refl, Option, is_some, Bool}
use Rattle.std.specs.Coded.{Coded, code_by, coded×, coded_list}
use Rattle.chem_model.specs.declared.event.Event.{Event}
use Rattle.chem_model.specs.contracts.event.Event as event
use Rattle.chem_model.specs.declared.numbered.Numbered.{Numbered}
use Rattle.chem_model.specs.ProgramFacts.{ProgramTerms}
use Rattle.chem_model.specs.ProgramCode.{program_code}
use Rattle.chem_model.specs.Apply.{apply_if, replay}

pub record BookKept : Type 0 where
  pub program : ProgramTerms
  pub journal : List Event

abbrev pub kept_code : Coded BookKept
kept_code =
    code_by (ProgramTerms × List Event) (coded× program_code (coded_list event.the_row.coded))
    (λ b. (b.program, b.journal)) (λ p. record { program = p.0; journal = p.1 }) (λ _. refl)

-- the numbered solution to which the journal leads
abbrev pub solution : BookKept → Option Numbered
solution b = replay b.program b.journal

-- whether the event is possible in that solution
abbrev pub is_enabled : BookKept → Event → Bool
is_enabled b e = is_some (apply_if (solution b) e)
