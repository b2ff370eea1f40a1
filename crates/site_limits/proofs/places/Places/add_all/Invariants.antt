use Rattle.std.proofs.Common.{◌≡◌, ◌≤◌, ◌++◌, length, drop}
use Rattle.site_limits.specs.Hosted.{AreNew}
use Rattle.site_limits.proofs.places.Places.add_all.Given as goal

abbrev pub invariant-loop-loc : goal.invariant-loop-loc
invariant-loop-loc l = record {
  done : l.self.locs ++ drop l.loc-index l.locs ≡ l.fn.self.locs ++ l.locs;
  room : length (drop l.loc-index l.locs) ≤ l.self.spare;
  new : AreNew l.self.locs (drop l.loc-index l.locs);
}
