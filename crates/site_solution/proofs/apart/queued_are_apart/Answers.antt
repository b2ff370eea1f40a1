use Rattle.std.proofs.Common.{◌≡◌, ◌<◌, ◌≤◌, ◌+◌, ◌∙◌, true, false, length, drop, sym, ap, arith}
use Rattle.std.specs.Prelude.{◌&&◌}
use Rattle.std.specs.List.{list_all}
use Rattle.site_shelves.specs.inside.Index.{groups_of}
use Rattle.site_shelves.proofs.Queueing.{groups-many}
use Rattle.site_shelves.proofs.Walked.{there, all-more, drop-past}
use Rattle.site_solution.specs.inside.Parted.{queues_parted}
use Rattle.site_solution.proofs.apart.queued_are_apart.Goals as goal

pub returns-then-not-group_is_apart : goal.returns-then-not-group_is_apart
returns-then-not-group_is_apart c =
    let gs = groups_of c.args.from.now.groups in
    let less : c.loop-group.group < length gs =
    omega
    (arith, groups-many c.args.from.now.groups, c.loop-group-test.true, c.len-group-end.ensures) in
    let it = there gs c.loop-group.group less in
    let not : queues_parted c.args.site.now c.args.but c.args.loc it.0 ≡ false =
    sym (c.group_is_apart.ensures it.0 it.1) ∙ c.if-not-group_is_apart.true in
    sym (sym c.loop-group.invariant
    ∙ all-more (queues_parted c.args.site.now c.args.but c.args.loc) gs c.loop-group.group it.0 it.1
    ∙ ap (λ b. b
    && list_all (queues_parted c.args.site.now c.args.but c.args.loc)
    (drop (c.loop-group.group + 1) gs)) not)

pub loop-group-preserved : goal.loop-group-preserved
loop-group-preserved c =
    let gs = groups_of c.args.from.now.groups in
    let less : c.loop-group.group < length gs =
    omega
    (arith, groups-many c.args.from.now.groups, c.loop-group-test.true, c.len-group-end.ensures) in
    let it = there gs c.loop-group.group less in
    let so : queues_parted c.args.site.now c.args.but c.args.loc it.0 ≡ true =
    sym (c.group_is_apart.ensures it.0 it.1) ∙ c.if-not-group_is_apart.false in
    sym
    (all-more (queues_parted c.args.site.now c.args.but c.args.loc) gs c.loop-group.group it.0 it.1
    ∙ ap (λ b. b
    && list_all (queues_parted c.args.site.now c.args.but c.args.loc)
    (drop (c.loop-group.group + 1) gs)) so) ∙ c.loop-group.invariant

pub returns : goal.returns
returns c =
    let gs = groups_of c.args.from.now.groups in
    let past : length gs ≤ c.loop-group.group =
    omega
    (arith, groups-many c.args.from.now.groups, c.loop-group-test.false, c.len-group-end.ensures) in
    sym (sym c.loop-group.invariant
    ∙ ap (list_all (queues_parted c.args.site.now c.args.but c.args.loc))
    (drop-past gs c.loop-group.group past))
