use Rattle.std.proofs.Common.{◌≡◌, ◌<◌, ◌≤◌, length, drop}
use Rattle.net_laws.specs.Net.{with_births}
use Rattle.net_laws.specs.Opened.{AreNew}
use Rattle.site_turn.proofs.picks.add_births.Given as goal

abbrev pub invariant-loop-birth : goal.invariant-loop-birth
invariant-loop-birth l = record {
  all :
      with_births l.tree l.site (drop l.birth-index l.births)
      ≡ with_births l.initial.tree l.site l.births;
  new : AreNew l.tree l.site (drop l.birth-index l.births);
  room : length (drop l.birth-index l.births) ≤ l.tree.spare;
  low : l.site < l.tree.roots;
}
