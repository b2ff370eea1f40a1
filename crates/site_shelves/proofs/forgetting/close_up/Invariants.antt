use Rattle.std.proofs.Common.{◌≡◌, ◌≤◌, length}
use Rattle.site_shelves.specs.inside.Index.{told_of}
use Rattle.site_shelves.specs.inside.Forgotten.{serials_but}
use Rattle.site_shelves.proofs.Left.{closing}
use Rattle.site_shelves.proofs.forgetting.close_up.Given as goal

abbrev pub invariant-loop-group : goal.invariant-loop-group
invariant-loop-group l = record {
  done :
      closing l.loc l.serials.items l.groups.groups l.kept l.group
      ≡ serials_but l.loc l.fn.serials.items (told_of l.groups.groups);
  behind : l.kept ≤ l.group;
  many : length l.serials.items ≡ length l.groups.groups;
}
