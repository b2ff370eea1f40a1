use Rattle.net_core.proofs.senders.take_sender.Goals as goal

pub returns-clause-out : goal.returns-clause-out
returns-clause-out c =
    c.lower.ensures.out c.args.place c.run_of-index.result.1 c.run_of-index.ensures
