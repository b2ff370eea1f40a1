use Rattle.net_tests.proofs.Linked.{one_stepped}
use Rattle.net_tests.proofs.linking.make_step.Goals as goal

pub returns-in-Ok : goal.returns-in-Ok
returns-in-Ok c = one_stepped c.args.links c.args.step.now c.in-Ok.stepped.1 c.in-Ok.stepped.0
    c.in-Ok.ensures.steps
