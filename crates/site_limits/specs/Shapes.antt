-- What the groups of one level have in common.
use Rattle.std.specs.Prelude.{Bool, false, ◌&&◌, ◌==◌, List, Option, Some, None, slice_get, length}
use Rattle.std.specs.List.{list_any}
use Rattle.env_store.specs.declared.code.Level.{Level}
use Rattle.env_store.specs.CodeParts.{CodeParts}
use Rattle.net_laws.specs.Site.{Told}
use Rattle.site_shelves.specs.InCode.{same_counts}
use Rattle.site_limits.specs.declared.shapes.Shape.{Shape}

abbrev pub shape_of : Told → Shape
shape_of d = record {
  level = d.inst.level;
  counts = d.counts;
  guards = d.guards;
  depth = length d.inst.env;
}

-- the group is of its level, and has its counts, its guards and the length of its environments
abbrev pub has_shape : Told → Shape → Bool
has_shape d v =
    (v.level == d.inst.level)
    && (same_counts v.counts d.counts
    && ((v.guards == d.guards) && (v.depth == length d.inst.env)))

abbrev pub is_shaped : List Shape → Told → Bool
is_shaped vs d = list_any (has_shape d) vs

-- the code's level has it
abbrev pub is_of_level : Option Level → Shape → Bool
is_of_level None v = false
is_of_level (Some w) v =
    same_counts w.counts v.counts && ((w.guards == v.guards) && (w.depth == v.depth))

abbrev pub is_in_levels : CodeParts → Shape → Bool
is_in_levels c v = is_of_level (slice_get c.levels v.level) v
