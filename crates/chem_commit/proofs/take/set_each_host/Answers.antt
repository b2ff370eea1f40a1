-- One place more is changed.
use Rattle.std.proofs.Common.{◌∙◌}
use Rattle.chem_commit.specs.inside.Parts.{hosted}
use Rattle.chem_commit.proofs.Firsts.{changed_next, past_next}
use Rattle.chem_commit.proofs.take.set_each_host.Goals as goal
use Rattle.chem_commit.proofs.take.set_each_host.Goals.{in-Some, in_default}

pub loop-index-preserved : goal.loop-index-preserved
loop-index-preserved c =
    let f = hosted c.args.at c.args.host in
    let first = c.args.places.now in
    let index = c.loop-index.index in
    elim c.match-get.branch [
      | in-Some w ↦ w.places-is
          ∙ (w.set.ensures
          ∙ changed_next f first c.loop-index.places c.as_slice.result.now index
          w.in-Some.placed.now w.hosted-changed.result c.loop-index.invariant
          c.as_slice.ensures.members w.in-Some.ensures.lookup.3.0 w.in-Some.ensures.lookup.1
          w.hosted-changed.ensures)
      | in_default w ↦ w.places-is
          ∙ past_next f first c.loop-index.places c.as_slice.result.now index
          c.loop-index.invariant c.as_slice.ensures.members w.in_default.ensures.lookup.3
    ]
