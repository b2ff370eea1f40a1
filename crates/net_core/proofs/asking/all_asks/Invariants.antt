use Rattle.std.proofs.Common.{◌≡◌, ◌++◌, drop}
use Rattle.net_core.specs.Asking.{choices_for}
use Rattle.net_core.proofs.asking.all_asks.Given as goal

abbrev pub invariant-loop-request : goal.invariant-loop-request
invariant-loop-request l =
    l.choices ++ choices_for (drop l.request-index l.request-items) ≡ choices_for l.request-items
