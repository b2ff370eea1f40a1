use Rattle.std.proofs.Common.{◌≡◌, ◌++◌, drop}
use Rattle.net_core.specs.inside.Rests.{asked_by}
use Rattle.net_core.proofs.asking.asked_by.Given as goal

abbrev pub invariant-loop-site : goal.invariant-loop-site
invariant-loop-site l = l.asked.items ++ asked_by (drop l.site-index l.sites) ≡ asked_by l.sites
