use Rattle.std.proofs.Common.{rules, ◌≡◌, ◌+◌, suc, length, take, true, false, sym, ap, ◌∙◌, arith}
use Rattle.std.specs.Prelude.{not}
use Rattle.std.proofs.lemmas.Fn.{filter_same}
use Rattle.queue_cells.specs.declared.rows.Row.{Row}
use Rattle.queue_cells.specs.inside.Grouped.{emptied}
use Rattle.queue_cells.specs.Grouped.{but_where, waiting_where}
use Rattle.queue_cells.proofs.Removal.{but_where-emptied, waiting-emptied, taken-emptied}
use Rattle.queue_cells.proofs.Removal.{taken-other, taken-all, length-emptied, rows_left}
use Rattle.queue_cells.proofs.Removal.{AreRows-left}
use Rattle.queue_cells.proofs.groups.Groups.remove_where.Goals.{then-selects, else-selects}
use Rattle.queue_cells.proofs.groups.Groups.remove_where.Goals as goal

pub loop-group-preserved : goal.loop-group-preserved
loop-group-preserved g c =
    let p = g.S.Selects.is_selected c.args.gone.now in
    let i = c.loop-group.invariant in
    let one : suc c.loop-group.group ≡ c.loop-group.group + 1 = omega arith in
    elim c.if-selects.branch [
      | then-selects w ↦
          let selected : p c.told.result.now ≡ true = sym c.selects.ensures ∙ w.if-selects.true in
          let e = w.empty.ensures.groups in
          rw w.self-is (record {
            same = ap (but_where p) e
                ∙ but_where-emptied p c.loop-group.self.groups c.loop-group.group _
                c.told.ensures selected ∙ i.same;
            count =
                ap length e ∙ length-emptied c.loop-group.self.groups c.loop-group.group ∙ i.count;
            empty = ap (λ qs. waiting_where p (take (c.loop-group.group + 1) qs)) e
                ∙ ap (λ n.
                waiting_where p (take n (emptied c.loop-group.self.groups c.loop-group.group)))
                (sym one)
                ∙ taken-emptied p c.loop-group.self.groups c.loop-group.group _
                c.told.ensures selected ∙ i.empty;
            spare = omega (
              arith,
              w.empty.ensures.spare,
              ap (waiting_where p) e,
              waiting-emptied p c.loop-group.self.groups c.loop-group.group _
                  c.told.ensures selected,
              i.spare,
            );
            rows = w.empty.ensures.spare_groups ∙ i.rows;
          })
      | else-selects w ↦
          let other : p c.told.result.now ≡ false = sym c.selects.ensures ∙ w.if-selects.false in
          rw w.self-is (record {
            same = i.same;
            count = i.count;
            empty = ap (λ n. waiting_where p (take n c.loop-group.self.groups)) (sym one)
                ∙ taken-other p c.loop-group.self.groups c.loop-group.group _ c.told.ensures other
                ∙ i.empty;
            spare = i.spare;
            rows = i.rows;
          })
    ]

pub invariant_of-self : goal.invariant_of-self
invariant_of-self g c =
    let p = g.S.Selects.is_selected c.args.gone.now in
    let i = c.loop-group.invariant in
    let all : waiting_where p c.loop-group.self.groups ≡ 0 =
    taken-all p c.loop-group.self.groups c.loop-group.group
    (omega (arith, i.count, c.len-len.ensures, c.loop-group-test.false)) i.empty in
    let none = rw (← c.self.view_is) at all in
    let left : c.retain.new.self.items ≡ rows_left p c.self.inside.rows.items =
    filter_same _ (λ (r : Row g.row.G.Denot). not (p r.told)) _ (λ x b f' k. search rules) _ _
    c.retain.ensures.filtered in
    (AreRows-left p c.self.inside.cells c.self.inside.rows.items c.retain.new.self.items left none
    c.self.invariant).0

pub returns-clause-groups : goal.returns-clause-groups
returns-clause-groups g c =
    let p = g.S.Selects.is_selected c.args.gone.now in
    let i = c.loop-group.invariant in
    let all : waiting_where p c.loop-group.self.groups ≡ 0 =
    taken-all p c.loop-group.self.groups c.loop-group.group
    (omega (arith, i.count, c.len-len.ensures, c.loop-group-test.false)) i.empty in
    let none = rw (← c.self.view_is) at all in
    let same = rw (← c.self.view_is) at i.same in
    let left : c.retain.new.self.items ≡ rows_left p c.self.inside.rows.items =
    filter_same _ (λ (r : Row g.row.G.Denot). not (p r.told)) _ (λ x b f' k. search rules) _ _
    c.retain.ensures.filtered in
    (AreRows-left p c.self.inside.cells c.self.inside.rows.items c.retain.new.self.items left none
    c.self.invariant).1 ∙ same
