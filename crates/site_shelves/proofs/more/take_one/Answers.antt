use Rattle.std.proofs.Common.{◌≡◌, ◌≤◌, length, None, ap, ◌∙◌, rules, arith}
use Rattle.std.specs.Prelude.{slice_get}
use Rattle.queue_cells.specs.Grouped.{lists_at, queue_in}
use Rattle.site_shelves.specs.inside.Index.{groups_of}
use Rattle.site_shelves.proofs.Queueing.{groups-many}
use Rattle.site_shelves.proofs.Putting.{with-queue-many}
use Rattle.site_shelves.proofs.Taken.{none-taken, past-taken, no-first, one-taken}
use Rattle.site_shelves.proofs.Fronts.{gone-none, gone-past}
use Rattle.std.proofs.Common.{sym, ◌∷◌, []}
use Rattle.site_shelves.proofs.more.take_one.Goals.{then-group-len-via-then-group-len}
use Rattle.site_shelves.proofs.more.take_one.Goals.{then-group-len-via-else-group-len+then-chan-width}
use Rattle.site_shelves.proofs.more.take_one.Goals as goal

pub returns-then-group-len-clause-groups : goal.returns-then-group-len-clause-groups
returns-then-group-len-clause-groups c = elim c.then-group-len.branch [
  | then-group-len-via-then-group-len w ↦
      let past : length (groups_of c.args.groups.now.groups) ≤ c.args.group =
      omega (arith, groups-many c.args.groups.now.groups, w.if-group-len.true, c.len.ensures) in
      sym (gone-none (groups_of c.args.groups.now.groups) c.args.group (c.args.chan ∷ [])
      (gone-past (groups_of c.args.groups.now.groups) c.args.group past))
  | then-group-len-via-else-group-len+then-chan-width w ↦
      let past : length (lists_at c.args.groups.now.groups c.args.group) ≤ c.args.chan =
      omega (arith, w.if-chan-width.true, w.width.ensures) in
      past-taken c.args.groups.now.groups c.args.group c.args.chan past
]

pub returns-then-is_some-clause-groups : goal.returns-then-is_some-clause-groups
returns-then-is_some-clause-groups c =
    one-taken c.args.groups.now.groups c.take_front.new.self.groups c.args.group c.args.chan
    c.take_front.result c.take_front.ensures.front c.take_front.ensures.groups

pub returns-then-is_some-clause-many : goal.returns-then-is_some-clause-many
returns-then-is_some-clause-many c = ap length c.take_front.ensures.groups
    ∙ with-queue-many c.args.groups.now.groups c.args.group c.args.chan
    (queue_in c.take_front.new.self.groups c.args.group c.args.chan)

pub returns-else-is_some-clause-groups : goal.returns-else-is_some-clause-groups
returns-else-is_some-clause-groups c =
    let none : slice_get (queue_in c.args.groups.now.groups c.args.group c.args.chan) 0 ≡ None =
    search rules in
    none-taken c.args.groups.now.groups c.args.group c.args.chan
    (no-first (queue_in c.args.groups.now.groups c.args.group c.args.chan) none)
