use Rattle.std.proofs.Common.{◌≡◌, None, length, refl, sym, ap, ◌∙◌, arith, rules}
use Rattle.std.specs.Prelude.{slice_get}
use Rattle.queue_cells.specs.Grouped.{queue_in, with_queue, lists_at}
use Rattle.queue_cells.proofs.RowLemmas.{with_queue-same, with_queue-twice, length-with_queue}
use Rattle.queue_cells.proofs.RowLemmas.{width-with_queue, nil_from_front}
use Rattle.queue_cells.proofs.groups.Groups.clear.Goals as goal

pub messages-init : goal.messages-init
messages-init g c = record {
  same = sym (with_queue-same c.args.self.now.groups c.args.group c.args.chan);
  group = c.requires.group;
  chan = c.requires.chan;
  spare = refl;
  rows = refl;
}

pub messages-preserved : goal.messages-preserved
messages-preserved g c =
    let i = c.messages.invariant in
    let e = c.take_front.ensures.groups in
    record {
      same = e
          ∙ ap (λ qs. with_queue qs
          c.args.group c.args.chan (queue_in c.take_front.new.self.groups c.args.group c.args.chan))
          i.same ∙ with_queue-twice c.args.self.now.groups c.args.group c.args.chan _ _;
      group = omega (
        arith,
        ap length e,
        length-with_queue c.messages.self.groups c.args.group c.args.chan
            (queue_in c.take_front.new.self.groups c.args.group c.args.chan),
        i.group,
      );
      chan = omega (
        arith,
        ap (λ qs. length (lists_at qs c.args.group)) e,
        width-with_queue c.messages.self.groups c.args.group c.args.chan
            (queue_in c.take_front.new.self.groups c.args.group c.args.chan),
        i.chan,
      );
      spare =
          omega (arith, i.spare, c.take_front.ensures.spare, ap length c.take_front.ensures.front);
      rows = c.take_front.ensures.spare_groups ∙ i.rows;
    }

pub returns-clause-groups : goal.returns-clause-groups
returns-clause-groups g c =
    let none : slice_get (queue_in c.messages.self.groups c.args.group c.args.chan) 0 ≡ None =
    search rules in
    c.messages.invariant.same
    ∙ ap (λ ms. with_queue c.args.self.now.groups c.args.group c.args.chan ms)
    (nil_from_front _ none)

pub returns-clause-spare : goal.returns-clause-spare
returns-clause-spare g c =
    let none : slice_get (queue_in c.messages.self.groups c.args.group c.args.chan) 0 ≡ None =
    search rules in
    omega (arith, c.messages.invariant.spare, ap length (nil_from_front _ none))

pub returns-clause-spare_groups : goal.returns-clause-spare_groups
returns-clause-spare_groups g c = c.messages.invariant.rows
