use Rattle.std.proofs.Common.{◌≡◌, ◌<◌, ◌≤◌, ◌+◌, ◌∙◌, true, false, length, drop, sym, ap, arith}
use Rattle.std.specs.Prelude.{◌&&◌}
use Rattle.std.specs.List.{list_all}
use Rattle.site_shelves.specs.inside.Index.{groups_of}
use Rattle.site_shelves.proofs.Queueing.{groups-many}
use Rattle.site_shelves.proofs.Walked.{there, all-more, drop-past}
use Rattle.site_shelves.specs.inside.InTree.{group_stands}
use Rattle.site_shelves.proofs.walking.groups_are_there.Goals as goal

pub returns-then-not-group_is_there : goal.returns-then-not-group_is_there
returns-then-not-group_is_there c =
    let gs = groups_of c.args.groups.now.groups in
    let less : c.loop-group.group < length gs = omega (
      arith,
      groups-many c.args.groups.now.groups,
      c.loop-group-test.true,
      c.len-group-end.ensures,
    ) in
    let it = there gs c.loop-group.group less in
    let not : group_stands c.args.tree.now it.0 ≡ false =
    sym (c.group_is_there.ensures it.0 it.1) ∙ c.if-not-group_is_there.true in
    sym (sym c.loop-group.invariant
    ∙ all-more (group_stands c.args.tree.now) gs c.loop-group.group it.0 it.1
    ∙ ap (λ b. b && list_all (group_stands c.args.tree.now) (drop (c.loop-group.group + 1) gs)) not)

pub loop-group-preserved : goal.loop-group-preserved
loop-group-preserved c =
    let gs = groups_of c.args.groups.now.groups in
    let less : c.loop-group.group < length gs = omega (
      arith,
      groups-many c.args.groups.now.groups,
      c.loop-group-test.true,
      c.len-group-end.ensures,
    ) in
    let it = there gs c.loop-group.group less in
    let so : group_stands c.args.tree.now it.0 ≡ true =
    sym (c.group_is_there.ensures it.0 it.1) ∙ c.if-not-group_is_there.false in
    sym (all-more (group_stands c.args.tree.now) gs c.loop-group.group it.0 it.1
    ∙ ap (λ b. b && list_all (group_stands c.args.tree.now) (drop (c.loop-group.group + 1) gs)) so)
    ∙ c.loop-group.invariant

pub returns : goal.returns
returns c =
    let gs = groups_of c.args.groups.now.groups in
    let past : length gs ≤ c.loop-group.group = omega (
      arith,
      groups-many c.args.groups.now.groups,
      c.loop-group-test.false,
      c.len-group-end.ensures,
    ) in
    sym (sym c.loop-group.invariant
    ∙ ap (list_all (group_stands c.args.tree.now)) (drop-past gs c.loop-group.group past))
