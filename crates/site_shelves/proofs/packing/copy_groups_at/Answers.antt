use Rattle.std.proofs.Common.{◌≤◌, ◌+◌, ◌∙◌, ◌∷◌, ◌++◌, [], cond, length, drop, ap, arith}
use Rattle.chem_model.specs.Solution.{same_loc}
use Rattle.wire_packet.specs.GroupFacts.{GroupParts}
use Rattle.net_laws.specs.Site.{Told, told_in}
use Rattle.net_laws.specs.Parcels.{groups_at, insts_in}
use Rattle.site_shelves.specs.inside.Index.{groups_of}
use Rattle.site_shelves.proofs.Queueing.{group-at, groups-many}
use Rattle.site_shelves.proofs.Walked.{drop-past}
use Rattle.site_shelves.proofs.Copied.{stepped, ended, insts-next}
use Rattle.site_shelves.proofs.packing.copy_groups_at.Goals as goal

pub loop-group-preserved : goal.loop-group-preserved
loop-group-preserved c =
    let gs = groups_of c.args.groups.now.groups in
    let inst = ap (λ (d : Told). d.inst) c.behind-groups.view_is in
    let more = c.in_ok-copy_group.ensures.is
    ∙ ap (λ (i : GroupParts). c.loop-group.members ++ cond (same_loc c.args.loc i.loc) (i ∷ []) [])
    inst in
    let at = group-at c.args.groups.now.groups c.loop-group.group _ c.told.ensures in
    record {
      is = stepped c.loop-group.members c.copy_group.new.members
          (cond (same_loc c.args.loc c.told.result.now.inst.loc) (c.told.result.now.inst ∷ []) [])
          (insts_in (told_in (groups_at c.args.loc (drop (c.loop-group.group + 1) gs))))
          (insts_in (told_in (groups_at c.args.loc (drop c.loop-group.group gs))))
          (insts_in (told_in (groups_at c.args.loc gs))) more
          (insts-next c.args.loc gs c.loop-group.group _ at) c.loop-group.invariant.is;
      names = c.copy_group.ensures.names c.loop-group.invariant.names;
    }

pub returns-clause-is : goal.returns-clause-is
returns-clause-is c =
    let gs = groups_of c.args.groups.now.groups in
    let past : length gs ≤ c.loop-group.group = omega (
      arith,
      groups-many c.args.groups.now.groups,
      c.loop-group-test.false,
      c.len-group-end.ensures,
    ) in
    ended c.loop-group.members
    (insts_in (told_in (groups_at c.args.loc (drop c.loop-group.group gs))))
    (insts_in (told_in (groups_at c.args.loc gs)))
    (ap (λ xs. insts_in (told_in (groups_at c.args.loc xs))) (drop-past gs c.loop-group.group past))
    c.loop-group.invariant.is
