use Rattle.std.proofs.Common.{◌≡◌, [], List, ℕ, Some, sym, ap, ◌∙◌}
use Rattle.std.specs.Prelude.{slice_get}
use Rattle.site_shelves.proofs.level_masks.LevelMasks.new.Goals as goal

pub invariant_of-result : goal.invariant_of-result
invariant_of-result c = λ i m chan at has.
    let none : slice_get [] i ≡ Some m =
    ap (λ (ms : List (List ℕ)). slice_get ms i) (sym c.new-masks.ensures) ∙ at in
    absurd (cc)
