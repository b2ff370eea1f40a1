use Rattle.std.proofs.Common.{◌≡◌, ◌+◌, ◌≤◌, length}
use Rattle.std.specs.Prelude.{vec_capacity}
use Rattle.std.specs.Vec.Iter.{into_iter_items}
use Rattle.net_laws.specs.Site.{Site}
use Rattle.net_laws.specs.Holding.{put_all}
use Rattle.site_shelves.specs.inside.Index.{holding, groups_of, IsIndex}
use Rattle.site_shelves.specs.inside.Covered.{IsCovering}
use Rattle.site_shelves.proofs.finding.settle.Given as goal

abbrev pub invariant-loop-one : goal.invariant-loop-one
invariant-loop-one l = record {
  done : (s : Site)
      → put_all (into_iter_items l.one-iterator) (holding s l.groups.groups l.stuck.items)
      ≡ put_all l.fn.waiting.items (holding s l.fn.groups.groups l.fn.stuck.items);
  index : IsIndex l.spots (groups_of l.groups.groups);
  many : length l.groups.groups ≡ length l.fn.groups.groups;
  room : length (into_iter_items l.one-iterator) ≤ l.groups.spare;
  spare :
      l.fn.groups.spare + length (into_iter_items l.one-iterator)
      ≤ l.groups.spare + length l.fn.waiting.items;
  capacity : vec_capacity l.stuck ≡ vec_capacity l.fn.stuck;
  less :
      length l.stuck.items + length (into_iter_items l.one-iterator)
      ≤ length l.fn.stuck.items + length l.fn.waiting.items;
  fits : length (into_iter_items l.one-iterator) + length l.stuck.items ≤ vec_capacity l.stuck;
  covering : IsCovering l.covering l.spots.serials.items (groups_of l.groups.groups);
}
