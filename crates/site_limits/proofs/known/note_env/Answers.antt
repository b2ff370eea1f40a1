use Rattle.std.proofs.Common.{refl}
use Rattle.site_limits.proofs.Repeated.{noted-again}
use Rattle.site_limits.proofs.known.note_env.Goals as goal

pub returns-then-are_same : goal.returns-then-are_same
returns-then-are_same c =
    noted-again c.args.known.now c.args.env.now c.args.before.now (c.if-are_same.ensures refl)

pub returns : goal.returns
returns c = λ _. c.note_names.ensures
