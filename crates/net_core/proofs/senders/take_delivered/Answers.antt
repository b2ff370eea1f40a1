use Rattle.std.proofs.Common.{◌∙◌, length, sym, ap, arith}
use Rattle.net_core.specs.inside.Runs.{spread}
use Rattle.net_core.proofs.Spreads.{kept_all, kept_delivered, kept_counted}
use Rattle.net_core.proofs.senders.take_delivered.Goals as goal

pub returns-in-Deliver-clause-out : goal.returns-in-Deliver-clause-out
returns-in-Deliver-clause-out c = c.take_sender.ensures.out
    ∙ sym (kept_delivered c.args.choice.now c.in-Deliver.flight (spread c.args.runs.now.items)
    c.in-Deliver.is)

pub returns-in-Deliver-clause-count : goal.returns-in-Deliver-clause-count
returns-in-Deliver-clause-count c =
    let xs = spread c.args.runs.now.items in
    let low = c.requires c.in-Deliver.flight c.in-Deliver.is in
    omega (
      arith,
      ap length c.take_sender.ensures.out,
      ap length (kept_delivered c.args.choice.now c.in-Deliver.flight xs c.in-Deliver.is),
      kept_counted c.args.choice.now c.in-Deliver.flight xs c.in-Deliver.is low,
    )

pub returns-in_default-clause-out : goal.returns-in_default-clause-out
returns-in_default-clause-out c =
    sym (kept_all c.args.choice.now (spread c.args.runs.now.items) c.in_default.not-Deliver)
