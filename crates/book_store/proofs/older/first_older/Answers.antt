-- The keys of the pattern's channel lead to the least message that it receives.
use Rattle.std.proofs.Common.{◌≡◌, ◌+◌, ap, sym, ◌∙◌}
use Rattle.std.specs.Option.{option_copied}
use Rattle.std.specs.List.{filter}
use Rattle.book_store.specs.Walk.{walk}
use Rattle.book_store.specs.Older.{find_at}
use Rattle.book_store.proofs.KeptKeys.{are_queued_is}
use Rattle.book_store.proofs.Queued.{is_high, first_queued, none_there}
use Rattle.book_store.proofs.older.first_older.Goals as goal

pub returns-then-is_empty : goal.returns-then-is_empty
returns-then-is_empty c = none_there c.args.at c.args.pat.now c.args.older.now.table
    c.args.older.now.keys.keys
    (are_queued_is c.args.older.now.table c.args.older.now.keys.keys c.args.older.now.queued)
    (c.is_empty.ensures.0 c.if-is_empty.true)

pub returns : goal.returns
returns c =
    let old = c.args.older.now.table in
    let ks = c.args.older.now.keys.keys in
    let find = find_at c.args.at c.args.pat.now old in
    let n = c.number_of-number.result in
    let along : walk find (filter (is_high (n + 1) n) ks) ≡ option_copied c.walk.result =
    sym (ap (walk find) (c.range-keys.ensures.between tt)) ∙ sym c.walk.ensures in
    first_queued c.args.at c.args.pat.now old n (sym c.number_of-number.ensures.is) ks
    c.are_different.ensures (are_queued_is old ks c.args.older.now.queued)
    c.range-keys.ensures.ordered (option_copied c.walk.result) along
