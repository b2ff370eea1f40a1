-- Lines declare at most one list of sorts.
use Rattle.std.proofs.Common.{◌≡◌, List, [], ◌∷◌, refl, sym, ap, ◌∙◌}
use Rattle.sort_laws.specs.declared.sorts.Sorts.{Sorts}
use Rattle.sort_lines.specs.declared.content.Content.{Content}
use Rattle.sort_lines.specs.Lines.{Line}
use Rattle.sort_lines.specs.Faults.{ReadAs, sorts_by, AreSortsOf}
use Rattle.sort_lines.proofs.Reading.{one_reading}

one_list : (lines : List Line) (cs ds : List Content) → ReadAs lines cs → ReadAs lines ds → cs ≡ ds
one_list [] [] [] r q = refl
one_list [] [] (d ∷ ds) r q = absurd q
one_list [] (c ∷ cs) ds r q = absurd r
one_list (l ∷ ls) [] ds r q = absurd r
one_list (l ∷ ls) (c ∷ cs) [] r q = absurd q
one_list (l ∷ ls) (c ∷ cs) (d ∷ ds) r q =
    λ i. one_reading l.text c d r.0 q.0 i ∷ one_list ls cs ds r.1 q.1 i

pub sorts_are_one : (lines : List Line) (a b : Sorts) → AreSortsOf lines a → AreSortsOf lines b
    → a ≡ b
sorts_are_one lines a b x y =
    x.are ∙ ap sorts_by (one_list lines x.contents y.contents x.read y.read) ∙ sym y.are
