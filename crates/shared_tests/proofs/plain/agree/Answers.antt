use Rattle.std.proofs.Common.{◌≡◌, length, rules}
use Rattle.shared_tests.proofs.Lent.{one_apart}
use Rattle.shared_tests.proofs.plain.agree.Goals as goal

pub compare-requires : goal.compare-requires
compare-requires g c =
    let one : length c.args.passes.now ≡ 1 = search rules in
    one_apart c.args.passes.now one
