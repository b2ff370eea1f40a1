use Rattle.std.proofs.Common.{◌≡◌, ◌<◌, [], length, sym, ap, ◌∙◌, arith}
use Rattle.std.specs.Prelude.{remove}
use Rattle.std.proofs.lemmas.List.{length-map}
use Rattle.queue_cells.specs.Grouped.{queue_in}
use Rattle.queue_cells.specs.inside.Rows.{queued}
use Rattle.queue_cells.proofs.RowLemmas.{AreRows-remove}
use Rattle.queue_cells.proofs.Removal.{length-emptied, queue_in-emptied, remove-emptied}
use Rattle.queue_cells.proofs.groups.Groups.remove.Goals as goal

pub remove-requires : goal.remove-requires
remove-requires g c =
    let groups = rw (← c.self.view_is) at c.empty.ensures.groups in
    let held = c.self.inside.rows.ok in
    omega (
      arith,
      c.requires,
      length-map c.self.inside.rows.items (queued {G = g.row.G.Denot} c.self.inside.cells.slots),
      ap length groups,
      length-emptied c.args.self.now.groups c.args.group,
    )

pub invariant_of-self : goal.invariant_of-self
invariant_of-self g c =
    let groups = rw (← c.self.view_is) at c.empty.ensures.groups in
    let within : c.args.group < length c.self.inside.rows.items =
    omega (
      arith,
      c.requires,
      length-map c.self.inside.rows.items (queued {G = g.row.G.Denot} c.self.inside.cells.slots),
      ap length groups,
      length-emptied c.args.self.now.groups c.args.group,
    ) in
    rw c.remove.ensures.items
    (AreRows-remove c.self.inside.cells c.self.inside.rows.items c.args.group c.remove.result within
    (sym c.remove.ensures.value) (λ k less. ap (λ qs. queue_in qs c.args.group k) groups
    ∙ queue_in-emptied c.args.self.now.groups c.args.group k) c.self.invariant).0

pub returns-clause-groups : goal.returns-clause-groups
returns-clause-groups g c =
    let groups = rw (← c.self.view_is) at c.empty.ensures.groups in
    let within : c.args.group < length c.self.inside.rows.items =
    omega (
      arith,
      c.requires,
      length-map c.self.inside.rows.items (queued {G = g.row.G.Denot} c.self.inside.cells.slots),
      ap length groups,
      length-emptied c.args.self.now.groups c.args.group,
    ) in
    rw c.remove.ensures.items (
    (AreRows-remove c.self.inside.cells c.self.inside.rows.items c.args.group c.remove.result within
    (sym c.remove.ensures.value) (λ k less. ap (λ qs. queue_in qs c.args.group k) groups
    ∙ queue_in-emptied c.args.self.now.groups c.args.group k) c.self.invariant).1
    ∙ ap (λ qs. remove qs c.args.group) groups
    ∙ remove-emptied c.args.self.now.groups c.args.group
    )

pub returns-clause-spare : goal.returns-clause-spare
returns-clause-spare g c = rw (← c.self.view_is) at c.empty.ensures.spare

pub returns-clause-spare_groups : goal.returns-clause-spare_groups
returns-clause-spare_groups g c =
    let rows = rw (← c.self.view_is) at c.empty.ensures.spare_groups in
    let fits = c.remove.new.self.ok.1 in
    let was = c.self.inside.rows.ok.1 in
    omega (arith, rows, c.remove.ensures.len, c.remove.ensures.capacity)
