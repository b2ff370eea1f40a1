-- The messages of all queues are as many as the queues count.
use Rattle.std.proofs.Common.{◌≡◌, List, [], ◌∷◌, map, length, Option, refl, ◌∙◌, arith}
use Rattle.std.specs.Prelude.{sum_by}
use Rattle.std.proofs.lemmas.List.{length-map}
use Rattle.std.proofs.lemmas.List.Sums.{sum_by-cons}
use Rattle.queue_cells.specs.declared.cells.Cell.{Cell}
use Rattle.queue_cells.specs.declared.cells.Ends.{Ends}
use Rattle.queue_cells.specs.declared.rows.Row.{Row}
use Rattle.queue_cells.specs.Grouped.{waiting}
use Rattle.queue_cells.specs.Messages.{messages_in}
use Rattle.queue_cells.specs.inside.Walk.{walked, messages, AllQueues, total}
use Rattle.queue_cells.specs.inside.Rows.{queued, AllRows}

ends-waiting : {T : Type 0} (slots : List (Option (Cell T))) (es : List Ends) → AllQueues slots es
    → waiting (map (messages slots) es) ≡ total es
ends-waiting slots [] h = refl
ends-waiting slots (e ∷ es) h =
    let one : length (messages slots e) ≡ e.count =
    length-map (walked slots e) (λ p. p.1) ∙ h.0.whole in
    omega (
      arith,
      one,
      sum_by-cons length (messages slots e) (map (messages slots) es),
      sum_by-cons (λ (x : Ends). x.count) e es,
      ends-waiting slots es h.1,
    )

pub rows-waiting : {G T : Type 0} (slots : List (Option (Cell T))) (rs : List (Row G))
    → AllRows slots rs → messages_in (map (queued slots) rs) ≡ sum_by (λ r. total r.ends.items) rs
rows-waiting slots [] h = refl
rows-waiting {G} slots (r ∷ rs) h = omega (
  arith,
  ends-waiting slots r.ends.items h.0.queues,
  sum_by-cons (λ (x : Row G). total x.ends.items) r rs,
  rows-waiting slots rs h.1,
)
