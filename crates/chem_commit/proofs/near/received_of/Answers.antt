-- What is received from those that were picked is what is received from all.
use Rattle.std.proofs.Common.{◌≡◌, ◌∙◌}
use Rattle.std.proofs.lemmas.Result.{IfOk-weaker}
use Rattle.chem_model.specs.Apply.{received_all}
use Rattle.chem_commit.proofs.Picking.{received_picked}
use Rattle.chem_commit.proofs.near.received_of.Goals as goal

pub returns-in_ok-few : goal.returns-in_ok-few
returns-in_ok-few c =
    let atoms = c.args.solution.now.atoms in
    let few = c.in_ok-few.few in
    let l = c.args.at in
    let ps = c.args.pats.now in
    let took = c.args.took.now in
    IfOk-weaker c.received_all-else-len-lt-NEWEST.result
    (λ names. names ≡ received_all few l ps took) (λ names. names ≡ received_all atoms l ps took)
    (λ names e.
    e ∙ received_picked atoms few l ps took c.in_ok-few.ensures.right c.in_ok-few.ensures.all)
    c.received_all-else-len-lt-NEWEST.ensures
