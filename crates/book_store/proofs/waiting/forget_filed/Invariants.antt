use Rattle.std.proofs.Common.{◌⊎◌, take}
use Rattle.chem_model.specs.Each.{IsIn}
use Rattle.book_store.specs.Keys.{Key}
use Rattle.book_store.proofs.waiting.forget_filed.Given as goal

abbrev pub invariant-loop-key : goal.invariant-loop-key
invariant-loop-key l = (k : Key) → IsIn k l.fn.filed.keys
    → IsIn k (take l.key-index l.keys) ⊎ IsIn k l.filed.keys
