use Rattle.std.proofs.Common.{◌≡◌, ◌-◌, ◌++◌}
use Rattle.std.specs.Prelude.{flat_map}
use Rattle.std.specs.List.{range_with_len}
use Rattle.ring_source.specs.Ring.{site_text, ring_text}
use Rattle.ring_source.proofs.ring.ring_text.Given as goal

abbrev pub invariant-loop-i : goal.invariant-loop-i
invariant-loop-i l =
    l.text ++ flat_map (site_text l.n) (range_with_len l.i (l.n - l.i)) ≡ ring_text l.n
