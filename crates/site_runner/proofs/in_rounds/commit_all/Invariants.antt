use Rattle.std.proofs.Common.{◌≡◌, drop, take}
use Rattle.site_runner.specs.inside.RoundParts.{CanFollow, and_then}
use Rattle.site_runner.proofs.in_rounds.commit_all.Given as goal

abbrev pub invariant-loop-event : goal.invariant-loop-event
invariant-loop-event l = record {
  book : l.book ≡ and_then l.fn.book (take l.event-index l.events);
  follow : CanFollow l.book (drop l.event-index l.events);
}
