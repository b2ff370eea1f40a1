-- Each pattern is met, so it has a least message.
use Rattle.std.proofs.Common.{◌∙◌, ◌++◌}
use Rattle.trace_history.proofs.Least.{one_more_least, none_least}
use Rattle.trace_history.proofs.search.least_messages.Goals as goal
use Rattle.trace_history.proofs.search.least_messages.Goals.{in-Some+in_ok-push-in-Some, in-None}

pub loop-pat-preserved : goal.loop-pat-preserved
loop-pat-preserved c =
    let pats = c.as_slice-pat-items.result.now in
    let atoms = c.args.older.now.table ++ c.args.numbered.now.atoms in
    elim c.match-least_message.branch [
      | in-Some+in_ok-push-in-Some w ↦ one_more_least atoms c.args.at pats
          c.loop-pat.pat-index c.pat-item.result w.in-Some.atom.now c.loop-pat.took
          c.match-least_message.took c.loop-pat-test.true c.pat-item.is c.loop-pat.invariant
          w.in-Some.ensures (w.took-is ∙ w.in_ok-push-in-Some.ensures.ok)
      | in-None w ↦ absurd (none_least atoms c.args.at pats
          c.loop-pat.pat-index c.pat-item.result c.loop-pat-test.true c.pat-item.is
          (rw c.as_slice-pat-items.ensures.members c.requires) w.in-None.ensures)
    ]
