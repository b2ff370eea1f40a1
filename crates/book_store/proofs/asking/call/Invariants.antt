use Rattle.std.proofs.Common.{take}
use Rattle.chem_model.specs.Numbered.{standing}
use Rattle.book_store.specs.Asked.{KeepsAsking}
use Rattle.book_store.proofs.AskLaws.{AreCalledAt}
use Rattle.book_store.proofs.asking.call.Given as goal

abbrev pub invariant-loop-key : goal.invariant-loop-key
invariant-loop-key l = KeepsAsking l.fn.asking l.asking
    × AreCalledAt (standing l.numbered.places) l.asking l.of l.table (take l.key-index l.key-items)
