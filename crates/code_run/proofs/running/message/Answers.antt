use Rattle.std.proofs.Common.{◌∷◌, sym, subst}
use Rattle.code_run.specs.RunFacts.{HasRunFacts}
use Rattle.code_run.proofs.Runs.{message_run}
use Rattle.code_run.proofs.Facts.{message_facts}
use Rattle.code_run.proofs.running.message.Goals as goal

pub returns-clause-run : goal.returns-clause-run
returns-clause-run c =
    message_run c.args.counts.now c.args.number c.args.loc.now c.args.on c.args.args c.args.from
    c.start-made.result c.post_message.new.made c.start-made.ensures c.in_ok-post_message.ensures

pub returns-clause-facts : goal.returns-clause-facts
returns-clause-facts c = λ code.
    subst (HasRunFacts code c.args.number c.args.loc.now (c.args.on ∷ c.args.args) c.args.from)
    (sym (returns-clause-run c)) (message_facts code
    c.args.counts.now c.args.number c.args.loc.now c.args.on c.args.args c.args.from)
