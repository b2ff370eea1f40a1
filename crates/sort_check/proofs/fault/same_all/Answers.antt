use Rattle.std.proofs.Common.{sym}
use Rattle.sort_check.proofs.SameSorts.{other_length}
use Rattle.sort_check.proofs.fault.same_all.Goals as goal

pub returns-then-one-other : goal.returns-then-one-other
returns-then-one-other c = sym (other_length c.args.one.now c.args.other.now c.if-one-other.true)
