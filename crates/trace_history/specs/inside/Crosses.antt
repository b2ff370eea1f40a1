-- What of a book's parts may go to another thread.
use denote.Param.Send.{IsSend}
use Rattle.chem_commit.specs.contracts.guesses.Guesses as guesses
use Rattle.chem_model.specs.contracts.event.Event as event
use Rattle.chem_model.specs.contracts.items.Items as items
use Rattle.chem_model.specs.contracts.numbered.Numbered as numbered
use Rattle.chem_model.specs.contracts.program.Program as program

abbrev pub GuessesCross : Type 0
GuessesCross = IsSend guesses.the_row

abbrev pub ProgramCrosses : Type 0
ProgramCrosses = IsSend program.the_row

abbrev pub JournalCrosses : Type 0
JournalCrosses = IsSend (items.the_row event.the_row)

abbrev pub NumberedCrosses : Type 0
NumberedCrosses = IsSend numbered.the_row
