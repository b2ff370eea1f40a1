use Rattle.std.proofs.Common.{◌≤◌, ◌∙◌, ◌++◌, length, drop, sym, ap, arith}
use Rattle.chem_model.specs.Solution.{same_loc}
use Rattle.site_shelves.specs.declared.told.Told.TheInside.{Inside}
use Rattle.net_laws.specs.Site.{Told}
use Rattle.net_laws.specs.Parcels.{groups_at, in_all_queues}
use Rattle.site_shelves.specs.inside.Index.{groups_of}
use Rattle.site_shelves.proofs.Queueing.{group-at, groups-many}
use Rattle.site_shelves.proofs.Walked.{drop-past}
use Rattle.site_shelves.proofs.Copied.{ended, queued-in, queued-out}
use Rattle.site_shelves.proofs.packing.copy_queued.Goals.{then-same_loc+in_ok-copy_queues}
use Rattle.site_shelves.proofs.packing.copy_queued.Goals.{else-same_loc}
use Rattle.site_shelves.proofs.packing.copy_queued.Goals as goal

pub loop-group-preserved : goal.loop-group-preserved
loop-group-preserved c =
    let gs = groups_of c.args.groups.now.groups in
    let at = group-at c.args.groups.now.groups c.loop-group.group _ c.told.ensures in
    let done = c.args.list.now ++ in_all_queues (groups_at c.args.loc gs) in
    let place = ap (λ (d : Told). same_loc c.args.loc d.inst.loc) (sym c.behind-groups.view_is)
    ∙ ap (λ (d : Inside). same_loc c.args.loc d.inst.loc) (sym c.told-in-loop-group.view_is)
    ∙ sym c.same_loc.ensures in
    elim c.if-same_loc.branch [
      | then-same_loc+in_ok-copy_queues w ↦ rw w.list-is
          (queued-in c.args.loc gs c.loop-group.group _ c.loop-group.list w.copy_queues.new.list
          done at (place ∙ w.if-same_loc.true) w.in_ok-copy_queues.ensures c.loop-group.invariant)
      | else-same_loc w ↦ rw w.list-is (queued-out c.args.loc gs c.loop-group.group _
          c.loop-group.list done at (place ∙ w.if-same_loc.false) c.loop-group.invariant)
    ]

pub returns : goal.returns
returns c =
    let gs = groups_of c.args.groups.now.groups in
    let past : length gs ≤ c.loop-group.group = omega (
      arith,
      groups-many c.args.groups.now.groups,
      c.loop-group-test.false,
      c.len-group-end.ensures,
    ) in
    ended c.loop-group.list (in_all_queues (groups_at c.args.loc (drop c.loop-group.group gs)))
    (c.args.list.now ++ in_all_queues (groups_at c.args.loc gs))
    (ap (λ xs. in_all_queues (groups_at c.args.loc xs)) (drop-past gs c.loop-group.group past))
    c.loop-group.invariant
