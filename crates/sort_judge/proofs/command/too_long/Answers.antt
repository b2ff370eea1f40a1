-- The line is that of the refusal.
use Rattle.std.proofs.Common.{ℕ, List, sym, subst}
use Rattle.text_program.specs.Streams.{Gains}
use Rattle.sort_judge.proofs.Read.{long_line}
use Rattle.sort_judge.proofs.command.too_long.Goals as goal

pub returns-clause-line : goal.returns-clause-line
returns-clause-line g c =
    subst
    (λ (t : List ℕ). Gains g.E.Sink.held g.E.Sink.faults c.args.err.now c.write_line.new.err t)
    (sym long_line) c.write_line.ensures.gains
