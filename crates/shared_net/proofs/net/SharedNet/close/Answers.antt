-- The book is of the run's program, which is the network's.
use Rattle.std.proofs.Common.{◌≡◌, sym, ap, ◌∙◌, subst, map}
use Rattle.chem_model.specs.ProgramFacts.{ProgramTerms}
use Rattle.shared_net.specs.Agrees.{row_of}
use Rattle.shared_net.specs.Closes.{Closes}
use Rattle.shared_net.specs.Net.{NetKept}
use Rattle.shared_net.proofs.net.SharedNet.close.Goals as goal

pub returns-in-Ok-clause-closed : goal.returns-in-Ok-clause-closed
returns-in-Ok-clause-closed g c =
    let is : g.L.Run.program ≡ c.args.self.program =
    sym c.self.invariant ∙ ap (λ (n : NetKept). n.program) c.self.view_is in
    subst
    (λ (p : ProgramTerms). Closes p c.args.self.budget (map row_of c.args.passes) c.finish.result)
    is (c.finish.ensures.closed c.args.self.budget c.requires.budget)
