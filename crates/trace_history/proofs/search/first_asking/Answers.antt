-- The first along the keys from the site on, or else along those before it.
use Rattle.std.proofs.Common.{Some, refl, ap, sym, ◌∙◌}
use Rattle.std.specs.List.{filter}
use Rattle.std.specs.Option.{option_copied}
use Rattle.book_store.specs.Walk.{or_else, walk}
use Rattle.trace_history.specs.inside.Chosen.{request_for}
use Rattle.trace_history.proofs.Turned.{is_early}
use Rattle.trace_history.proofs.Stands.{two_walks, first_asking_is, none_asking}
use Rattle.trace_history.proofs.search.first_asking.Goals as goal

pub returns-in-Some : goal.returns-in-Some
returns-in-Some c =
    let old = c.args.table.now in
    let find = request_for c.args.numbered.now old in
    let ks = c.args.candidates.now.sites.keys in
    let o = Some c.in-Some.atom.now in
    first_asking_is c.args.numbered.now c.requires old c.args.from c.args.candidates.now
    c.range-later.ensures.ordered c.are_different.ensures o
    (two_walks find c.args.from ks c.range-later.result (filter (is_early c.args.from) ks) o
    (c.range-later.ensures.between tt) refl
    (sym (ap (λ q. or_else q (walk find (filter (is_early c.args.from) ks))) c.in-Some.ensures)))

pub returns-in-None : goal.returns-in-None
returns-in-None c =
    let old = c.args.table.now in
    let find = request_for c.args.numbered.now old in
    let ks = c.args.candidates.now.sites.keys in
    let o = option_copied c.walk_requests-in-None.result in
    first_asking_is c.args.numbered.now c.requires old c.args.from c.args.candidates.now
    c.range-later.ensures.ordered c.are_different.ensures o
    (two_walks find c.args.from ks c.range-later.result c.range-earlier.result o
    (c.range-later.ensures.between tt) (c.range-earlier.ensures.between tt)
    (sym (c.walk_requests-in-None.ensures
    ∙ ap (λ q. or_else q (walk find c.range-earlier.result)) c.in-None.ensures)))

pub returns-then-is_empty : goal.returns-then-is_empty
returns-then-is_empty c = none_asking c.args.numbered.now c.args.from c.args.candidates.now
    c.args.table.now (c.is_empty.ensures.0 c.if-is_empty.true)
