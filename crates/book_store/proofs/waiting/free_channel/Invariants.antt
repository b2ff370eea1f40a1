use Rattle.std.proofs.Common.{take}
use Rattle.chem_model.specs.Numbered.{standing}
use Rattle.book_store.proofs.Watching.{Freed}
use Rattle.book_store.proofs.waiting.free_channel.Given as goal

abbrev pub invariant-loop-key : goal.invariant-loop-key
invariant-loop-key l = Freed l.channel (standing l.numbered.places) l.older.keys.keys
    l.numbered.rules l.fn.waiting l.waiting (take l.key-index l.key-items)
