use Rattle.std.proofs.Common.{◌≡◌, ◌≤◌, length, drop}
use Rattle.site_shelves.specs.inside.Index.{groups_of}
use Rattle.site_shelves.specs.inside.New.{gone_at}
use Rattle.site_shelves.proofs.more.take_fronts.Given as goal

abbrev pub invariant-loop-chan : goal.invariant-loop-chan
invariant-loop-chan l = record {
  done :
      gone_at l.group (drop l.chan-index l.chans) (groups_of l.groups.groups)
      ≡ gone_at l.group l.chans (groups_of l.fn.groups.groups);
  many : length l.groups.groups ≡ length l.fn.groups.groups;
  spare : l.fn.groups.spare ≤ l.groups.spare;
  spare_groups : l.groups.spare_groups ≡ l.fn.groups.spare_groups;
}
