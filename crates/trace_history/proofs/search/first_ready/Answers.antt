-- The first along the keys from the site on, or else along those before it.
use Rattle.std.proofs.Common.{Some, refl, ap, sym, ◌∙◌}
use Rattle.std.specs.List.{filter}
use Rattle.std.specs.Option.{option_copied}
use Rattle.book_store.specs.Walk.{or_else, walk}
use Rattle.trace_history.specs.inside.Chosen.{rule_for}
use Rattle.book_store.specs.Older.{whole}
use Rattle.trace_history.proofs.Turned.{is_early}
use Rattle.trace_history.proofs.Stands.{two_walks, first_ready_is, none_ready}
use Rattle.trace_history.proofs.search.first_ready.Goals as goal

pub returns-in-Some : goal.returns-in-Some
returns-in-Some c =
    let old = c.args.sight.older.now.table in
    let find = rule_for (whole old c.args.sight.numbered.now) in
    let ks = c.args.candidates.now.sites.keys in
    let o = Some c.in-Some.rule.now in
    first_ready_is c.args.sight.numbered.now c.requires old c.args.sight.from c.args.candidates.now
    c.range-later.ensures.ordered o
    (two_walks find c.args.sight.from ks c.range-later.result
    (filter (is_early c.args.sight.from) ks) o
    (c.range-later.ensures.between tt) refl
    (sym (ap (λ q. or_else q (walk find (filter (is_early c.args.sight.from) ks)))
    c.in-Some.ensures)))

pub returns-in-None : goal.returns-in-None
returns-in-None c =
    let old = c.args.sight.older.now.table in
    let find = rule_for (whole old c.args.sight.numbered.now) in
    let ks = c.args.candidates.now.sites.keys in
    let o = option_copied c.walk_rules-in-None.result in
    first_ready_is c.args.sight.numbered.now c.requires old c.args.sight.from c.args.candidates.now
    c.range-later.ensures.ordered o
    (two_walks find c.args.sight.from ks c.range-later.result c.range-earlier.result o
    (c.range-later.ensures.between tt) (c.range-earlier.ensures.between tt)
    (sym (c.walk_rules-in-None.ensures
    ∙ ap (λ q. or_else q (walk find c.range-earlier.result)) c.in-None.ensures)))

pub returns-then-is_empty : goal.returns-then-is_empty
returns-then-is_empty c = none_ready
    (whole c.args.sight.older.now.table c.args.sight.numbered.now) c.args.sight.from
    c.args.candidates.now (c.is_empty.ensures.0 c.if-is_empty.true)
