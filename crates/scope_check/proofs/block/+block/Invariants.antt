use Rattle.std.proofs.Common.{◌≡◌, ◌+◌, ◌++◌, drop}
use Rattle.join_parse.specs.Source.{definitions}
use Rattle.join_parse.specs.SourceSize.{definition_depth, defs_depth}
use Rattle.join_parse.specs.Members.{place_depth}
use Rattle.scope_check.specs.Blocks.{defining, places}
use Rattle.scope_check.proofs.block.+block.Given as goal

abbrev pub invariant-level-loop-d : goal.invariant-level-loop-d
invariant-level-loop-d l = record {
  items : l.d-items ≡ l.defs;
  place :
      l.end + places (definitions (drop l.d-index l.d-items))
      ≡ l.place + places (definitions l.d-items);
  names :
      l.list.items ++ defining l.at l.end (definitions (drop l.d-index l.d-items))
      ≡ l.initial.list.items ++ defining l.at l.place (definitions l.d-items);
}

abbrev pub decreases-level : goal.decreases-level
decreases-level l = defs_depth l.defs.now

abbrev pub decreases-one : goal.decreases-one
decreases-one l = definition_depth l.d.now

abbrev pub decreases-location : goal.decreases-location
decreases-location l = place_depth l.tree.now
