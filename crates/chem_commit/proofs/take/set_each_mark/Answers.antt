-- One place more is changed.
use Rattle.std.proofs.Common.{◌∙◌}
use Rattle.chem_commit.specs.inside.Parts.{marked}
use Rattle.chem_commit.proofs.Firsts.{changed_next, past_next}
use Rattle.chem_commit.proofs.take.set_each_mark.Goals as goal
use Rattle.chem_commit.proofs.take.set_each_mark.Goals.{in-Some, in_default}

pub loop-index-preserved : goal.loop-index-preserved
loop-index-preserved c =
    let f = marked c.args.at in
    let first = c.args.places.now in
    let index = c.loop-index.index in
    elim c.match-get.branch [
      | in-Some w ↦ w.places-is
          ∙ (w.set.ensures
          ∙ changed_next f first c.loop-index.places c.as_slice.result.now index
          w.in-Some.placed.now w.marked-changed.result c.loop-index.invariant
          c.as_slice.ensures.members w.in-Some.ensures.lookup.3.0 w.in-Some.ensures.lookup.1
          w.marked-changed.ensures)
      | in_default w ↦ w.places-is
          ∙ past_next f first c.loop-index.places c.as_slice.result.now index
          c.loop-index.invariant c.as_slice.ensures.members w.in_default.ensures.lookup.3
    ]
