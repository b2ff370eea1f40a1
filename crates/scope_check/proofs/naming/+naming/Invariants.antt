use Rattle.std.proofs.Common.{◌≡◌, ◌+◌, ◌++◌, drop}
use Rattle.join_parse.specs.Source.{processes, definitions}
use Rattle.join_parse.specs.Members.{place_depth}
use Rattle.join_parse.specs.SourceSize.{process_depth, definition_depth, procs_depth, defs_depth}
use Rattle.scope_check.specs.Blocks.{places}
use Rattle.scope_check.specs.inside.Naming.{walk_all, walk_level}
use Rattle.scope_check.proofs.naming.+naming.Given as goal

abbrev pub invariant-walk_all-loop-p : goal.invariant-walk_all-loop-p
invariant-walk_all-loop-p l = record {
  items : l.p-items ≡ l.list;
  tables :
      l.tables.scopes.items
      ++ (walk_all l.tables.spell (processes (drop l.p-index l.p-items))).tables
      ≡ l.initial.tables.scopes.items
      ++ (walk_all l.initial.tables.spell (processes l.p-items)).tables;
  spell :
      (walk_all l.tables.spell (processes (drop l.p-index l.p-items))).spell
      ≡ (walk_all l.initial.tables.spell (processes l.p-items)).spell;
}

abbrev pub invariant-walk_level-loop-d : goal.invariant-walk_level-loop-d
invariant-walk_level-loop-d l = record {
  items : l.d-items ≡ l.list;
  place :
      l.end + places (definitions (drop l.d-index l.d-items))
      ≡ l.place + places (definitions l.d-items);
  own :
      (walk_level l.at l.end l.tables.spell l.own (definitions (drop l.d-index l.d-items))).own
      ≡ (walk_level l.at l.place l.initial.tables.spell l.initial.own (definitions l.d-items)).own;
  tables :
      l.tables.scopes.items
      ++ (walk_level l.at l.end l.tables.spell l.own
      (definitions (drop l.d-index l.d-items))).tables
      ≡ l.initial.tables.scopes.items
      ++ (walk_level l.at l.place l.initial.tables.spell l.initial.own
      (definitions l.d-items)).tables;
  spell :
      (walk_level l.at l.end l.tables.spell l.own (definitions (drop l.d-index l.d-items))).spell
      ≡ (walk_level l.at l.place l.initial.tables.spell l.initial.own
      (definitions l.d-items)).spell;
}

abbrev pub decreases-walk : goal.decreases-walk
decreases-walk l = process_depth l.p.now

abbrev pub decreases-walk_all : goal.decreases-walk_all
decreases-walk_all l = procs_depth l.list.now

abbrev pub decreases-walk_one : goal.decreases-walk_one
decreases-walk_one l = definition_depth l.d.now

abbrev pub decreases-walk_level : goal.decreases-walk_level
decreases-walk_level l = defs_depth l.list.now

abbrev pub decreases-walk_place : goal.decreases-walk_place
decreases-walk_place l = place_depth l.tree.now
