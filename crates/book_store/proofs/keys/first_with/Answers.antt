-- Where the range is empty no key has the number.
use Rattle.book_store.proofs.KeyRange.{no_keys, none_found}
use Rattle.book_store.proofs.keys.first_with.Goals as goal

pub returns-in-None : goal.returns-in-None
returns-in-None c = λ e. none_found c.args.number c.args.keys.now.keys
    c.range_of-found.result c.range_of-found.ensures.all c.in-None.ensures.steps.0

pub returns-then-is_empty : goal.returns-then-is_empty
returns-then-is_empty c = λ e k at same.
    no_keys c.args.keys.now.keys k (c.is_empty.ensures.0 c.if-is_empty.true) at
