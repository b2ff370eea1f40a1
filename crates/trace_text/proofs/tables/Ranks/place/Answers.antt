-- The index in the map is the place among the names.
use Rattle.std.proofs.Common.{ℕ, List, length, Option, ap, ◌∙◌}
use Rattle.std.specs.Prelude.{unwrap_or}
use Rattle.std.specs.Map.{keys_of}
use Rattle.std.specs.List.{position}
use Rattle.chem_model.specs.declared.name.Name.{Name}
use Rattle.trace_text.specs.TraceText.{place_in}
use Rattle.trace_text.proofs.Keys.{same_key, place_found}
use Rattle.trace_text.proofs.tables.Ranks.place.Goals as goal

pub returns-in-Some-clause-place : goal.returns-in-Some-clause-place
returns-in-Some-clause-place c =
    ap (λ (o : Option ℕ). unwrap_or o (length c.self.inside.map.entries)) (c.in-Some.ensures.index
    ∙ ap (λ k. position (same_key k) (keys_of c.self.inside.map.entries)) c.key_of.ensures)
    ∙ (place_found c.args.name c.self.inside.map.entries c.self.invariant
    ∙ ap (λ (names : List Name). place_in c.args.name names) c.self.view_is)

pub returns-in-None-clause-place : goal.returns-in-None-clause-place
returns-in-None-clause-place c =
    c.len-count.ensures.len
    ∙ (ap (λ (o : Option ℕ). unwrap_or o (length c.self.inside.map.entries))
    (c.in-None.ensures.index
    ∙ ap (λ k. position (same_key k) (keys_of c.self.inside.map.entries)) c.key_of.ensures)
    ∙ (place_found c.args.name c.self.inside.map.entries c.self.invariant
    ∙ ap (λ (names : List Name). place_in c.args.name names) c.self.view_is))
