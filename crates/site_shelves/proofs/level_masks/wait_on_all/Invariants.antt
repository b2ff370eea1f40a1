use Rattle.std.proofs.Common.{drop}
use Rattle.site_shelves.specs.inside.Waits.{KeepsWaits}
use Rattle.site_shelves.proofs.WaitLemmas.{WaitsYet}
use Rattle.site_shelves.proofs.level_masks.wait_on_all.Given as goal

abbrev pub invariant-loop-chan : goal.invariant-loop-chan
invariant-loop-chan l = record {
  yet : WaitsYet l.waits.items l.place l.chans (drop l.chan-index l.chans);
  kept : KeepsWaits l.fn.waits.items l.waits.items;
}
