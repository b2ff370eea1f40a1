-- That a store may go to another thread.
use denote.Param.Send.{IsSend}
use Rattle.book_store.specs.contracts.store.Store as store

abbrev pub StoreCrosses : Type 0
StoreCrosses = IsSend store.the_row
