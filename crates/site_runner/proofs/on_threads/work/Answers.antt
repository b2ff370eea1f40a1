-- The passes are lent whole, so those that come back are all of them.
use Rattle.std.proofs.Common.{◌≡◌, ℕ, List, subst}
use Rattle.chem_model.specs.Each.{Each}
use Rattle.shared_net.specs.Agrees.{row_of}
use Rattle.shared_net.specs.Passes.{PassKept}
use Rattle.shared_net.specs.Turning.{HaveSameOwners}
use Rattle.site_runner.specs.Free.{HasEnded}
use Rattle.site_runner.proofs.Carried.{lent_whole, same_length}
use Rattle.site_runner.proofs.on_threads.work.Goals as goal

pub returns-clause-same : goal.returns-clause-same
returns-clause-same g c =
    let old = c.args.passes.now in
    let w : List PassKept = c.work_all.new.passes in
    let same : HaveSameOwners old w = rw c.as_mut_slice.ensures.passes at c.work_all.ensures in
    rw (lent_whole old w (same_length old w same)) same

-- what is said of the passes that are lent whole, said of those that came back
ended_of_all : (all : List PassKept) (sites counted : ℕ) → counted ≡ sites
    → Each (λ p. HasEnded counted (row_of p)) all → Each (λ p. HasEnded sites (row_of p)) all
ended_of_all all sites counted is ended =
    subst (λ (n : ℕ). Each (λ p. HasEnded n (row_of p)) all) is ended

pub returns-clause-ended : goal.returns-clause-ended
returns-clause-ended g c = λ yes. ended_of_all _
    c.args.net.now.sites c.sites.result c.sites.ensures.count (c.have_ended.ensures yes)
