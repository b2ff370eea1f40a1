use Rattle.env_store.specs.Running.{code_made}
use Rattle.site_solution.proofs.Answering.{ok-more, nothing-taken}
use Rattle.site_solution.proofs.site.Site.pour.Goals as goal

pub returns-clause-ok : goal.returns-clause-ok
returns-clause-ok c =
    ok-more c.pour_taking.result _ _ (λ e h. nothing-taken c.args.code.now c.args.tree.now
    c.args.self.now c.pour_taking.new.self (code_made c.args.code.now c.args.self.now.number
    c.args.body c.args.env.now c.args.loc.now c.args.self.now.made) e h) c.pour_taking.ensures.ok
