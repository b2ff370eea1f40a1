use Rattle.std.proofs.Common.{◌≡◌, ◌-◌, ◌≤◌, length, take}
use Rattle.std.specs.Io.KnownBytes.{Appends}
use Rattle.join_base.proofs.sink.write_piece.Given as goal

abbrev pub invariant-writing : goal.invariant-writing
invariant-writing g l = record {
  written : Appends (g.K.Sink.held l.fn.sink) (g.K.Sink.held l.sink) (take l.done l.bytes);
  later : g.K.Sink.faults l.fn.sink ≤ g.K.Sink.faults l.sink;
  within : l.done ≤ length l.bytes;
  untouched : l.done ≡ 0 → l.sink ≡ l.fn.sink;
}

abbrev pub decreases-writing : goal.decreases-writing
decreases-writing g l = length l.bytes - l.done
