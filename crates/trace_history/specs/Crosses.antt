-- That a book may go to another thread.
use denote.Param.Send.{IsSend}
use Rattle.trace_history.specs.contracts.book.Book as book

abbrev pub BookCrosses : Type 0
BookCrosses = IsSend book.the_row
