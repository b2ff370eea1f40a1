-- What of a store's parts may go to another thread.
use denote.Param.Send.{IsSend}
use Rattle.book_store.specs.contracts.asking.Asking as asking
use Rattle.book_store.specs.contracts.candidates.Candidates as candidates
use Rattle.book_store.specs.contracts.older.Older as older
use Rattle.book_store.specs.contracts.table.AtomTable as table
use Rattle.book_store.specs.contracts.waiting.Waiting as waiting

abbrev pub TableCrosses : Type 0
TableCrosses = IsSend table.the_row

abbrev pub OlderCrosses : Type 0
OlderCrosses = IsSend older.the_row

abbrev pub WaitingCrosses : Type 0
WaitingCrosses = IsSend waiting.the_row

abbrev pub CandidatesCross : Type 0
CandidatesCross = IsSend candidates.the_row

abbrev pub AskingCrosses : Type 0
AskingCrosses = IsSend asking.the_row
