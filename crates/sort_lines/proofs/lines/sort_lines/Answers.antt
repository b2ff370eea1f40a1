use Rattle.sort_lines.specs.inside.Told.{told}
use Rattle.sort_lines.proofs.Told.{all_told}
use Rattle.sort_lines.proofs.Declared.{are_short}
use Rattle.sort_lines.proofs.lines.sort_lines.Goals as goal

pub returns-clause-short : goal.returns-clause-short
returns-clause-short c =
    are_short c.args.bytes.now c.loop-place.lines.items c.requires
    (all_told c.args.bytes.now c.loop-place.place (told c.loop-place.lines.items)
    c.loop-place-test.false c.loop-place.invariant.read)
