use Rattle.std.proofs.Common.{◌≡◌, ◌<◌, ◌≤◌, ◌+◌, ◌∙◌, true, false, length, drop, sym, ap, arith}
use Rattle.std.specs.Prelude.{◌||◌}
use Rattle.net_laws.specs.Site.{Group}
use Rattle.site_shelves.specs.inside.Index.{groups_of}
use Rattle.site_shelves.proofs.Queueing.{groups-many, queues-are}
use Rattle.site_shelves.proofs.Walked.{there, any-more, drop-past}
use Rattle.site_shelves.specs.Held.{in_queues, in_groups_of, queues_in}
use Rattle.site_shelves.proofs.walking.in_groups.Goals as goal

pub returns-then-in_group : goal.returns-then-in_group
returns-then-in_group c =
    let gs = groups_of c.args.groups.now.groups in
    let less : c.loop-group.group < length gs = omega (
      arith,
      groups-many c.args.groups.now.groups,
      c.loop-group-test.true,
      c.len-group-end.ensures,
    ) in
    let it = there gs c.loop-group.group less in
    let found : in_queues c.args.atom it.0.queues ≡ true =
    ap (λ o. in_queues c.args.atom (queues_in o)) (sym it.1)
    ∙ ap (in_queues c.args.atom) (queues-are c.args.groups.now.groups c.loop-group.group)
    ∙ sym c.in_group.ensures ∙ c.if-in_group.true in
    sym (sym c.loop-group.invariant
    ∙ any-more (λ (g : Group). in_queues c.args.atom g.queues) gs c.loop-group.group it.0 it.1
    ∙ ap (λ b. b || in_groups_of c.args.atom (drop (c.loop-group.group + 1) gs)) found)

pub loop-group-preserved : goal.loop-group-preserved
loop-group-preserved c =
    let gs = groups_of c.args.groups.now.groups in
    let less : c.loop-group.group < length gs = omega (
      arith,
      groups-many c.args.groups.now.groups,
      c.loop-group-test.true,
      c.len-group-end.ensures,
    ) in
    let it = there gs c.loop-group.group less in
    let none : in_queues c.args.atom it.0.queues ≡ false =
    ap (λ o. in_queues c.args.atom (queues_in o)) (sym it.1)
    ∙ ap (in_queues c.args.atom) (queues-are c.args.groups.now.groups c.loop-group.group)
    ∙ sym c.in_group.ensures ∙ c.if-in_group.false in
    sym (any-more (λ (g : Group). in_queues c.args.atom g.queues) gs c.loop-group.group it.0 it.1
    ∙ ap (λ b. b || in_groups_of c.args.atom (drop (c.loop-group.group + 1) gs)) none)
    ∙ c.loop-group.invariant

pub returns : goal.returns
returns c =
    let gs = groups_of c.args.groups.now.groups in
    let past : length gs ≤ c.loop-group.group = omega (
      arith,
      groups-many c.args.groups.now.groups,
      c.loop-group-test.false,
      c.len-group-end.ensures,
    ) in
    sym (sym c.loop-group.invariant
    ∙ ap (in_groups_of c.args.atom) (drop-past gs c.loop-group.group past))
