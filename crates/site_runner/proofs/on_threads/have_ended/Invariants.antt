-- Where the rest of the passes have ended, all have.
use Rattle.std.proofs.Common.{drop}
use Rattle.chem_model.specs.Each.{Each}
use Rattle.shared_net.specs.Passes.{PassKept}
use Rattle.shared_net.specs.Agrees.{row_of}
use Rattle.site_runner.specs.Free.{HasEnded}
use Rattle.site_runner.proofs.on_threads.have_ended.Given as goal

abbrev pub invariant-loop-pass : goal.invariant-loop-pass
invariant-loop-pass g l =
    Each (λ (p : PassKept). HasEnded l.sites (row_of p)) (drop l.pass-index l.pass-items)
    → Each (λ (p : PassKept). HasEnded l.sites (row_of p)) l.pass-items
