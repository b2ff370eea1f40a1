use Rattle.shared_tests.proofs.Lent.{set_owners}
use Rattle.shared_tests.proofs.passes.turn_of.Goals as goal

pub returns : goal.returns
returns g c = set_owners c.args.passes.now c.args.worker c.one_turn.new.pass
    c.index-passes-worker.result c.requires.worker c.one_turn.ensures
