use Rattle.std.proofs.Common.{◌≡◌, ◌-◌, ◌≤◌, length, vec_len}
use Rattle.std.specs.Io.KnownBytes.{Consumes}
use Rattle.join_base.proofs.source.read_all.Given as goal

abbrev pub invariant-reading : goal.invariant-reading
invariant-reading g l = record {
  taken : Consumes (g.S.Source.left l.fn.source) (g.S.Source.left l.source) l.text.items;
  later : g.S.Source.faults l.fn.source ≤ g.S.Source.faults l.source;
  short : vec_len l.text ≤ l.most;
  most_is : l.most ≡ l.limit;
  buffer_len : length l.buffer ≡ 1024;
}

abbrev pub decreases-reading : goal.decreases-reading
decreases-reading g l = l.most - vec_len l.text
