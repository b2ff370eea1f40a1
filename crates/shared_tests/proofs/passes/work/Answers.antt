use Rattle.std.proofs.Common.{List}
use Rattle.shared_net.specs.Passes.{PassKept}
use Rattle.shared_net.specs.Turning.{HaveSameOwners}
use Rattle.shared_tests.proofs.Lent.{same_back}
use Rattle.shared_tests.proofs.passes.work.Goals as goal

pub returns : goal.returns
returns g c =
    let old = c.args.passes.now in
    let w : List PassKept = c.work_all.new.passes in
    let same : HaveSameOwners old w = rw c.as_mut_slice.ensures.passes at c.work_all.ensures in
    same_back old w same
