use Rattle.std.proofs.Common.{[]}
use Rattle.scope_check.specs.inside.Clashes.{channel_repeats, parameter_repeats}
use Rattle.scope_check.proofs.Folds.{chained}
use Rattle.scope_check.proofs.Declares.{join-is}
use Rattle.scope_check.proofs.clashes.join.Goals as goal

pub returns : goal.returns
returns c =
    let pats = c.args.pats.now in
    chained _ _ _ (channel_repeats [] pats) (parameter_repeats [] pats) _
    c.in_ok-repeated_channels.ensures c.in_ok-repeated_parameters.ensures (join-is pats)
