use Rattle.std.proofs.Common.{◌≡◌, ◌+◌, ◌++◌, drop}
use Rattle.join_parse.specs.Source.{processes, definitions}
use Rattle.join_parse.specs.Members.{place_depth}
use Rattle.join_parse.specs.SourceSize.{process_depth, definition_depth, procs_depth, defs_depth}
use Rattle.scope_check.specs.inside.Order.{first_of}
use Rattle.scope_check.specs.Blocks.{scopes_in_all, scopes_in_defs}
use Rattle.scope_check.specs.inside.Twin.{members_in, level_in, all_uses_in, level_uses_in}
use Rattle.scope_check.proofs.translate.+translate.Given as goal

abbrev pub invariant-body-loop-p : goal.invariant-body-loop-p
invariant-body-loop-p l = record {
  items : l.p-items ≡ l.list;
  end :
      l.end + scopes_in_all (processes (drop l.p-index l.p-items))
      ≡ l.at + scopes_in_all (processes l.p-items);
  value :
      l.members ++ members_in l.by.scopes.now l.env l.end (processes (drop l.p-index l.p-items))
      ≡ members_in l.by.scopes.now l.env l.at (processes l.p-items);
  least :
      first_of l.least
      (all_uses_in l.by.scopes.now l.env l.end (processes (drop l.p-index l.p-items)))
      ≡ first_of l.initial.least (all_uses_in l.by.scopes.now l.env l.at (processes l.p-items));
}

abbrev pub invariant-level-loop-d : goal.invariant-level-loop-d
invariant-level-loop-d l = record {
  items : l.d-items ≡ l.list;
  end :
      l.end + scopes_in_defs (definitions (drop l.d-index l.d-items))
      ≡ l.at + scopes_in_defs (definitions l.d-items);
  value :
      l.defs ++ level_in l.by.scopes.now l.own l.env l.end (definitions (drop l.d-index l.d-items))
      ≡ level_in l.by.scopes.now l.own l.env l.at (definitions l.d-items);
  least :
      first_of l.least
      (level_uses_in l.by.scopes.now l.env l.end (definitions (drop l.d-index l.d-items)))
      ≡ first_of l.initial.least (level_uses_in l.by.scopes.now l.env l.at (definitions l.d-items));
}

abbrev pub decreases-process : goal.decreases-process
decreases-process l = process_depth l.p.now

abbrev pub decreases-body : goal.decreases-body
decreases-body l = procs_depth l.list.now

abbrev pub decreases-definition : goal.decreases-definition
decreases-definition l = definition_depth l.d.now

abbrev pub decreases-level : goal.decreases-level
decreases-level l = defs_depth l.list.now

abbrev pub decreases-inner : goal.decreases-inner
decreases-inner l = place_depth l.tree.now
