use Rattle.sort_lines.proofs.PieceLaws.{lines_are_read}
use Rattle.sort_lines.proofs.laws.lines_of_pieces.Goals as goal

pub returns : goal.returns
returns c = lines_are_read
