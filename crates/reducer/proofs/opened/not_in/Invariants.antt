use Rattle.std.proofs.Common.{◌≡◌, ◌++◌, drop}
use Rattle.net_laws.specs.Opened.{not_in}
use Rattle.reducer.proofs.opened.not_in.Given as goal

abbrev pub invariant-loop-loc : goal.invariant-loop-loc
invariant-loop-loc l = l.new ++ not_in l.tree (drop l.loc-index l.locs) ≡ not_in l.tree l.locs
