use Rattle.std.proofs.Common.{◌≡◌, suc, ◌-◌, length, take, Some, None, cond, sym, ap, ◌∙◌, arith}
use Rattle.std.proofs.Common.{rules}
use Rattle.std.specs.Prelude.{nat_eq, slice_get}
use Rattle.std.proofs.lemmas.Option.{slice_get_within}
use Rattle.std.specs.HashMap.{get, UpdatesBy}
use Rattle.env_store.specs.Reading.{position}
use Rattle.guard_compile.proofs.Positions.{popped_first, popped_again, same_place, other_place}
use Rattle.guard_compile.proofs.binders.Binders.pop.Goals.{then-eq, else-eq}
use Rattle.guard_compile.proofs.binders.Binders.pop.Goals as goal

pub invariant_of-self : goal.invariant_of-self
invariant_of-self c =
    let xs = c.self.inside.list in
    let b = c.in-Some.last in
    let k = c.len-place.result - 1 in
    let there : slice_get xs (length xs - 1) ≡ Some b = search rules in
    let long : length xs ≡ suc k =
    omega (arith, slice_get_within xs (length xs - 1) b there, c.len-place.ensures.count) in
    let at : slice_get xs k ≡ Some b =
    ap (λ n. slice_get xs (n - 1)) c.len-place.ensures.count ∙ there in
    let place : c.place.result ≡ position xs b = search rules in
    elim c.if-eq.branch [
      | then-eq w ↦
          let here : position xs b ≡ Some k =
          sym place ∙ same_place c.place.result k (sym w.if-eq.ensures) in
          let updates : UpdatesBy nat_eq (nat_eq b)
          c.self.inside.first_places w.remove.new.self None = w.remove.ensures.updates in
          λ q.
          ap (λ s. get nat_eq s.first_places q) w.self-inside-is
          ∙ updates.0 q
          ∙ ap (cond (nat_eq b q) None) (c.self.invariant q)
          ∙ sym (ap (λ ys. position ys q) c.truncate.ensures
          ∙ ap (λ s. position (take k s.list) q) w.self-inside-is
          ∙ popped_first xs k b long at here q)
      | else-eq w ↦
          let away : position xs b ≡ Some k → ⊥ =
          λ e. other_place c.place.result k (sym w.if-eq.ensures) (place ∙ e) in
          λ q.
          ap (λ s. get nat_eq s.first_places q) w.self-inside-is
          ∙ c.self.invariant q
          ∙ sym (ap (λ ys. position ys q) c.truncate.ensures
          ∙ ap (λ s. position (take k s.list) q) w.self-inside-is
          ∙ popped_again xs k b long at away q)
    ]
