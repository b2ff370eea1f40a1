-- The better one of the first candidate and of the best of the others.
use Rattle.std.proofs.Common.{Some, None, sym, ◌∙◌}
use Rattle.std.specs.Option.{option_copied}
use Rattle.trace_history.specs.inside.Search.{rule_before}
use Rattle.book_store.proofs.KeptKeys.{are_queued_is}
use Rattle.trace_history.proofs.Founds.{rules_order}
use Rattle.trace_history.proofs.Looked.{first_of_all}
use Rattle.trace_history.proofs.Picked.{pick_one, pick_other, pick_only}
use Rattle.trace_history.proofs.search.first_watched.Goals as goal

pub returns-then-is_earlier_rule : goal.returns-then-is_earlier_rule
returns-then-is_earlier_rule c =
    let m = c.args.numbered.now in
    let s = c.args.store.now in
    let best = option_copied c.best_of_newest-best.result in
    let r = c.in-Some.rule.now in
    first_of_all m s.older.table s.older.keys.keys
    (are_queued_is s.older.table s.older.keys.keys s.older.queued) s.waiting
    c.requires.stored.watched c.args.from best (Some r) c.best_of_newest-best.ensures
    c.in-Some.ensures (Some r)
    (pick_other (rule_before m c.args.from) (rules_order m c.args.from) best r
    (sym c.is_earlier_rule.ensures ∙ c.if-is_earlier_rule.true))

pub returns-else-is_earlier_rule : goal.returns-else-is_earlier_rule
returns-else-is_earlier_rule c =
    let m = c.args.numbered.now in
    let s = c.args.store.now in
    let best = option_copied c.best_of_newest-best.result in
    let r = c.in-Some.rule.now in
    first_of_all m s.older.table s.older.keys.keys
    (are_queued_is s.older.table s.older.keys.keys s.older.queued) s.waiting
    c.requires.stored.watched c.args.from best (Some r) c.best_of_newest-best.ensures
    c.in-Some.ensures best
    (pick_one (rule_before m c.args.from) (rules_order m c.args.from) best r
    (sym c.is_earlier_rule.ensures ∙ c.if-is_earlier_rule.false))

pub returns-in-None : goal.returns-in-None
returns-in-None c =
    let m = c.args.numbered.now in
    let s = c.args.store.now in
    let best = option_copied c.best_of_newest-best.result in
    first_of_all m s.older.table s.older.keys.keys
    (are_queued_is s.older.table s.older.keys.keys s.older.queued) s.waiting
    c.requires.stored.watched c.args.from best None c.best_of_newest-best.ensures
    c.in-None.ensures best (pick_only (rule_before m c.args.from) (rules_order m c.args.from) best)
