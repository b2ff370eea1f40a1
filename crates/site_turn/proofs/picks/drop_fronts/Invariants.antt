use Rattle.std.proofs.Common.{drop}
use Rattle.site_turn.proofs.Dropping.{IsDropping}
use Rattle.site_turn.proofs.picks.drop_fronts.Given as goal

abbrev pub invariant-loop-chan : goal.invariant-loop-chan
invariant-loop-chan l = IsDropping l.group l.chans (drop l.chan-index l.chans) l.initial.site l.site
