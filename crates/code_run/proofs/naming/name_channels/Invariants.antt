use Rattle.std.proofs.Common.{◌≡◌, ◌+◌, ◌++◌, drop}
use Rattle.env_store.specs.Running.{channel_names}
use Rattle.code_run.proofs.naming.name_channels.Given as goal

abbrev pub invariant-loop-count : goal.invariant-loop-count
invariant-loop-count l =
    (l.names ++ channel_names l.site l.home l.k (drop l._count-index l._count-items)
    ≡ l.initial.names ++ channel_names l.site l.home l.from l._count-items)
    × (l.k ≡ l.from + l._count-index)
