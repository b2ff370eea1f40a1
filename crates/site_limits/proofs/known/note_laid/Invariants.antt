use Rattle.net_laws.specs.Site.{Told}
use Rattle.site_shelves.specs.inside.Index.{told_of}
use Rattle.site_limits.specs.Limits.{Limits, told_within}
use Rattle.site_limits.specs.Knows.{Noted, AreNoted}
use Rattle.site_limits.proofs.Learned.{Left}
use Rattle.site_limits.proofs.known.note_laid.Given as goal

abbrev pub invariant-loop-group : goal.invariant-loop-group
invariant-loop-group l =
    Noted l.fn.known l.known
    (Left (λ (d : Limits) (x : Told). told_within d l.number x) (told_of l.groups.groups)
    l.from l.group)
    × AreNoted l.known l.before
