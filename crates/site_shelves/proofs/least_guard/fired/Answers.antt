use Rattle.std.proofs.Common.{◌≡◌, true, Some, length, sym, ap, ◌∙◌, subst, arith, rules}
use Rattle.std.specs.Prelude.{slice_get}
use Rattle.std.proofs.lemmas.Option.{slice_get_within}
use Rattle.env_store.specs.declared.code.Guard.{Guard}
use Rattle.loc_tree.specs.Tree.{is_alive}
use Rattle.queue_cells.specs.Grouped.{lists_at, AllHeld}
use Rattle.net_laws.specs.Site.{Group}
use Rattle.site_shelves.specs.inside.Covered.{Key}
use Rattle.site_shelves.specs.inside.Fired.{IsGuardOf, NothingFiredBy}
use Rattle.site_shelves.specs.inside.Index.{groups_of, Rise}
use Rattle.site_shelves.proofs.Queueing.{group-at, groups-many}
use Rattle.site_shelves.proofs.Noting.{not-both}
use Rattle.site_shelves.proofs.FiredBy.{some-get, no-guard, picked-by, fired-by, not-fired}
use Rattle.site_shelves.proofs.least_guard.fired.Goals as goal

pub told-told-requires : goal.told-told-requires
told-told-requires c =
    let within = slice_get_within c.args.spots.now.serials.items c.in_ok-group.group _
    c.in_ok-group.ensures.some in
    omega (arith, within, c.requires.index.many, groups-many c.args.groups.now.groups)

pub returns-in_err-guard-clause-none : goal.returns-in_err-guard-clause-none
returns-in_err-guard-clause-none c =
    let code = c.args.code.now in
    let tree = c.args.tree.now in
    let rows = c.args.groups.now.groups in
    let gs = groups_of rows in
    let ss = c.args.spots.now.serials.items in
    let next = c.args.spots.now.next in
    let key : Key = c.args.key in
    let j = c.in_ok-group.group in
    let serial : slice_get ss j ≡ Some key.2 = c.in_ok-group.ensures.some in
    let g : Group = record { told = c.told-told.result.now; queues = lists_at rows j } in
    let at : slice_get gs j ≡ Some g =
    group-at rows j (record { told = c.told-told.result.now; lists = lists_at rows j })
    c.told-told.ensures in
    let rise : Rise 0 ss next = c.requires.index.rise in
    let none : NothingFiredBy code tree gs ss key =
    no-guard code tree gs ss next rise key j g serial at c.in_err-guard.ensures.none in
    search (rules, none)

pub covers_bits-requires-clause-group : goal.covers_bits-requires-clause-group
covers_bits-requires-clause-group c =
    let within = slice_get_within c.args.spots.now.serials.items c.in_ok-group.group _
    c.in_ok-group.ensures.some in
    omega (arith, within, c.requires.index.many, groups-many c.args.groups.now.groups)

pub covers_bits-requires-clause-words : goal.covers_bits-requires-clause-words
covers_bits-requires-clause-words c =
    let code = c.args.code.now in
    let tree = c.args.tree.now in
    let rows = c.args.groups.now.groups in
    let gs = groups_of rows in
    let ss = c.args.spots.now.serials.items in
    let next = c.args.spots.now.next in
    let key : Key = c.args.key in
    let j = c.in_ok-group.group in
    let serial : slice_get ss j ≡ Some key.2 = c.in_ok-group.ensures.some in
    let g : Group = record { told = c.told-told.result.now; queues = lists_at rows j } in
    let at : slice_get gs j ≡ Some g =
    group-at rows j (record { told = c.told-told.result.now; lists = lists_at rows j })
    c.told-told.ensures in
    let rise : Rise 0 ss next = c.requires.index.rise in
    let n = c.in_ok-guard.guard in
    let is : IsGuardOf code g.told key n = c.in_ok-guard.ensures.some in
    let there = some-get code.guards n is.there in
    let u : Guard = there.0 in
    let picks = picked-by code tree gs ss next rise key j g serial at n u is there.1 in
    ap length (c.words_of.ensures u there.1)
    ∙ c.requires.wide j n (record { group = g; level = is.level; guard = u }) picks is.site is.number
    serial

pub overflow_cast-group : goal.overflow_cast-group
overflow_cast-group c =
    let within = slice_get_within c.args.spots.now.serials.items c.in_ok-group.group _
    c.in_ok-group.ensures.some in
    omega
    (arith, within, c.requires.few, c.requires.index.many, groups-many c.args.groups.now.groups)

pub returns-then-not-covers_bits-clause-none : goal.returns-then-not-covers_bits-clause-none
returns-then-not-covers_bits-clause-none c =
    let code = c.args.code.now in
    let tree = c.args.tree.now in
    let rows = c.args.groups.now.groups in
    let gs = groups_of rows in
    let ss = c.args.spots.now.serials.items in
    let next = c.args.spots.now.next in
    let key : Key = c.args.key in
    let j = c.in_ok-group.group in
    let serial : slice_get ss j ≡ Some key.2 = c.in_ok-group.ensures.some in
    let g : Group = record { told = c.told-told.result.now; queues = lists_at rows j } in
    let at : slice_get gs j ≡ Some g =
    group-at rows j (record { told = c.told-told.result.now; lists = lists_at rows j })
    c.told-told.ensures in
    let rise : Rise 0 ss next = c.requires.index.rise in
    let n = c.in_ok-guard.guard in
    let is : IsGuardOf code g.told key n = c.in_ok-guard.ensures.some in
    let there = some-get code.guards n is.there in
    let u : Guard = there.0 in
    let picks = picked-by code tree gs ss next rise key j g serial at n u is there.1 in
    not-fired code tree gs ss next rise key j g serial at n u is there.1 (λ x group guard m fires.
    let queues =
    subst (λ (h : Group). AllHeld h.queues x.guard.mask.words) group fires.covers.held in
    let held = subst (λ (v : Guard). AllHeld (lists_at rows j) v.mask.words) guard queues in
    not-both c.covers_bits.result (c.covers_bits.ensures.1
    (subst (AllHeld (lists_at rows j)) (sym (c.words_of.ensures u there.1)) held))
    c.if-not-covers_bits.true)

pub returns-then-not-lives-clause-none : goal.returns-then-not-lives-clause-none
returns-then-not-lives-clause-none c =
    let code = c.args.code.now in
    let tree = c.args.tree.now in
    let rows = c.args.groups.now.groups in
    let gs = groups_of rows in
    let ss = c.args.spots.now.serials.items in
    let next = c.args.spots.now.next in
    let key : Key = c.args.key in
    let j = c.in_ok-group.group in
    let serial : slice_get ss j ≡ Some key.2 = c.in_ok-group.ensures.some in
    let g : Group = record { told = c.told-told.result.now; queues = lists_at rows j } in
    let at : slice_get gs j ≡ Some g =
    group-at rows j (record { told = c.told-told.result.now; lists = lists_at rows j })
    c.told-told.ensures in
    let rise : Rise 0 ss next = c.requires.index.rise in
    let n = c.in_ok-guard.guard in
    let is : IsGuardOf code g.told key n = c.in_ok-guard.ensures.some in
    let there = some-get code.guards n is.there in
    let u : Guard = there.0 in
    let picks = picked-by code tree gs ss next rise key j g serial at n u is there.1 in
    not-fired code tree gs ss next rise key j g serial at n u is there.1 (λ x group guard m fires.
    let live : is_alive tree g.told.inst.loc ≡ true =
    ap (λ (h : Group). is_alive tree h.told.inst.loc) (sym group) ∙ fires.live in
    not-both c.lives.result (c.lives.ensures ∙ live) c.if-not-lives.true)

pub returns-clause-some : goal.returns-clause-some
returns-clause-some c =
    let code = c.args.code.now in
    let tree = c.args.tree.now in
    let rows = c.args.groups.now.groups in
    let gs = groups_of rows in
    let ss = c.args.spots.now.serials.items in
    let next = c.args.spots.now.next in
    let key : Key = c.args.key in
    let j = c.in_ok-group.group in
    let serial : slice_get ss j ≡ Some key.2 = c.in_ok-group.ensures.some in
    let g : Group = record { told = c.told-told.result.now; queues = lists_at rows j } in
    let at : slice_get gs j ≡ Some g =
    group-at rows j (record { told = c.told-told.result.now; lists = lists_at rows j })
    c.told-told.ensures in
    let rise : Rise 0 ss next = c.requires.index.rise in
    let n = c.in_ok-guard.guard in
    let is : IsGuardOf code g.told key n = c.in_ok-guard.ensures.some in
    let there = some-get code.guards n is.there in
    let u : Guard = there.0 in
    let picks = picked-by code tree gs ss next rise key j g serial at n u is there.1 in
    let held : AllHeld (lists_at rows j) u.mask.words = subst (AllHeld (lists_at rows j))
    (c.words_of.ensures u there.1) (c.covers_bits.ensures.0 c.if-not-covers_bits.false) in
    fired-by code tree gs ss next rise key j g serial at n u is there.1 (record {
      covers = record { picks = picks; held = held };
      live = sym c.lives.ensures ∙ c.if-not-lives.false;
    })
