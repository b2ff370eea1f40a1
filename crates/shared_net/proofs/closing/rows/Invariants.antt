use Rattle.std.proofs.Common.{◌≡◌, ◌++◌, drop, map}
use Rattle.chem_model.specs.Each.{Each}
use Rattle.shared_net.specs.Passes.{PassKept, Rise}
use Rattle.shared_net.specs.Agrees.{row_of}
use Rattle.shared_net.proofs.closing.rows.Given as goal

abbrev pub invariant-loop-pass : goal.invariant-loop-pass
invariant-loop-pass g l = record {
  rows : l.rows ++ map row_of (drop l.pass-index l.pass-items) ≡ map row_of l.pass-items;
  rise : Each (λ (p : PassKept). Rise 0 p.budget p.receipts) (drop l.pass-index l.pass-items)
      → Each (λ (p : PassKept). Rise 0 p.budget p.receipts) l.pass-items;
}
