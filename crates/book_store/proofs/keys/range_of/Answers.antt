-- The range has exactly the keys with the number.
use Rattle.book_store.proofs.KeyRange.{all_found, only_found}
use Rattle.book_store.proofs.keys.range_of.Goals as goal

pub returns-clause-all : goal.returns-clause-all
returns-clause-all c = all_found c.args.number c.args.keys.now.keys c.range.result
    (c.range.ensures.between tt)

pub returns-clause-only : goal.returns-clause-only
returns-clause-only c = only_found c.args.number c.args.keys.now.keys c.range.result
    (c.range.ensures.between tt)
