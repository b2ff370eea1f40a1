use Rattle.std.proofs.Common.{◌≡◌, ℕ, ◌<◌, Some}
use Rattle.std.specs.Prelude.{slice_get}
use Rattle.site_shelves.specs.declared.told.NewGroup.{NewGroup}
use Rattle.site_shelves.specs.inside.Begun.{IsBegunAt, KeepsKeys}
use Rattle.site_shelves.proofs.firsts.begin_all.Given as goal

abbrev pub invariant-loop-group : goal.invariant-loop-group
invariant-loop-group l = record {
  begun :
      (j : ℕ) (r : NewGroup) → j < l.group-index → slice_get l.groups j ≡ Some r
      → IsBegunAt l.firsts.keys r.level r.rules;
  kept : KeepsKeys l.fn.firsts.keys l.firsts.keys;
}
