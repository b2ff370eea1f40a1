use Rattle.std.proofs.Common.{◌≡◌, ◌<◌, [], length, inl, inr, sym, ap, ◌∙◌, arith}
use Rattle.std.proofs.lemmas.Bool.{cases_eq}
use Rattle.queue_cells.specs.Grouped.{queue_in, with_queue, lists_at, waiting}
use Rattle.queue_cells.specs.inside.Grouped.{emptied}
use Rattle.queue_cells.proofs.RowLemmas.{length-with_queue, width-with_queue, queue_in-with}
use Rattle.queue_cells.proofs.RowLemmas.{queue_in-other, waiting-with, waiting-none}
use Rattle.queue_cells.proofs.Removal.{emptied-with_queue, emptied-empty}
use Rattle.queue_cells.proofs.groups.Groups.empty.Goals as goal

pub loop-chan-preserved : goal.loop-chan-preserved
loop-chan-preserved g c =
    let i = c.loop-chan.invariant in
    let e = c.clear.ensures.groups in
    record {
      same = ap (λ qs. emptied qs c.args.group) e
          ∙ emptied-with_queue c.loop-chan.self.groups c.args.group c.loop-chan.chan [] ∙ i.same;
      count = ap length e
          ∙ length-with_queue c.loop-chan.self.groups c.args.group c.loop-chan.chan [] ∙ i.count;
      wide = ap (λ qs. length (lists_at qs c.args.group)) e
          ∙ width-with_queue c.loop-chan.self.groups c.args.group c.loop-chan.chan [] ∙ i.wide;
      empty = λ k less. elim (cases_eq k c.loop-chan.chan) [
        | inl same ↦ ap (λ qs. queue_in qs c.args.group k) e
            ∙ ap
            (λ j. queue_in (with_queue c.loop-chan.self.groups c.args.group c.loop-chan.chan [])
            c.args.group j) same
            ∙ queue_in-with c.loop-chan.self.groups c.args.group c.loop-chan.chan []
            (omega (arith, i.count, c.requires)) (omega (arith, i.wide))
        | inr other ↦ ap (λ qs. queue_in qs c.args.group k) e
            ∙ queue_in-other c.loop-chan.self.groups c.args.group c.loop-chan.chan k [] other
            ∙ i.empty k (omega arith)
      ];
      spare = omega (
        arith,
        i.spare,
        c.clear.ensures.spare,
        ap (λ qs. waiting (lists_at qs c.args.group)) e,
        waiting-with c.loop-chan.self.groups c.args.group c.loop-chan.chan []
            (omega (arith, i.wide)),
      );
      rows = c.clear.ensures.spare_groups ∙ i.rows;
    }

pub returns-clause-groups : goal.returns-clause-groups
returns-clause-groups g c =
    let i = c.loop-chan.invariant in
    sym (emptied-empty c.loop-chan.self.groups c.args.group
    (λ k less. i.empty k (omega (arith, i.wide)))) ∙ i.same

pub returns-clause-spare : goal.returns-clause-spare
returns-clause-spare g c =
    let i = c.loop-chan.invariant in
    let none : waiting (lists_at c.loop-chan.self.groups c.args.group) ≡ 0 =
    waiting-none _ (λ k less. i.empty k (omega (arith, i.wide))) in
    omega (arith, i.spare)

pub returns-clause-spare_groups : goal.returns-clause-spare_groups
returns-clause-spare_groups g c = c.loop-chan.invariant.rows
