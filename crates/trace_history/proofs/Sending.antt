-- A book may go to another thread, where each part of it may.
use denote.Param.Send.{IsSend, view_send}
use denote.Param.SendFields.{declared_send, as_row_send}
use Rattle.chem_model.specs.contracts.event.Event as event
use Rattle.chem_model.specs.contracts.items.Items as items
use Rattle.chem_model.specs.contracts.program.Program as program
use Rattle.trace_history.specs.contracts.book.Book as book
use Rattle.trace_history.specs.declared.book.Book as declared
use Rattle.trace_history.specs.inside.Crosses.{ProgramCrosses, JournalCrosses, NumberedCrosses}
use Rattle.trace_history.specs.inside.Crosses.{GuessesCross}
use Rattle.book_store.specs.Crosses.{StoreCrosses}
use Rattle.trace_history.specs.Crosses.{BookCrosses}

pub book_send : ProgramCrosses → JournalCrosses → NumberedCrosses → GuessesCross → StoreCrosses
    → BookCrosses
book_send p j n g s =
    let inner : IsSend book.TheInside.the_row = declared_send book.TheInside.the_type (
      as_row_send program.the_field p,
      (as_row_send (items.the_field event.the_row) j, (n, (g, (s, tt)))),
    ) in
    view_send book.TheInside.the_row declared.Book declared.the_code declared.TheView.view
    declared.TheView.invariant inner
