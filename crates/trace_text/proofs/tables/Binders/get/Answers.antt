-- What the map finds is what the walk finds.
use Rattle.std.proofs.Common.{ap, ◌∙◌}
use Rattle.std.specs.Prelude.{option_map}
use Rattle.std.specs.Map.{lookup}
use Rattle.chem_model.specs.declared.numbered.Named.{Named}
use Rattle.chem_model.specs.Fill.{Naming}
use Rattle.chem_model.specs.Numbered.{binder_in}
use Rattle.trace_text.proofs.Keys.{same_key, lookup_binder}
use Rattle.trace_text.proofs.tables.Binders.get.Goals as goal

pub returns-in-Some : goal.returns-in-Some
returns-in-Some c =
    ap (option_map (λ (n : Named). n.binder)) (c.in-Some.ensures.value
    ∙ ap (λ k. lookup (same_key k) c.self.inside.map.entries) c.key_of.ensures)
    ∙ (lookup_binder c.args.name c.self.inside.map.entries c.self.invariant
    ∙ ap (λ (l : Naming). binder_in l c.args.name) c.self.view_is)

pub returns-in-None : goal.returns-in-None
returns-in-None c =
    ap (option_map (λ (n : Named). n.binder)) (c.in-None.ensures.value
    ∙ ap (λ k. lookup (same_key k) c.self.inside.map.entries) c.key_of.ensures)
    ∙ (lookup_binder c.args.name c.self.inside.map.entries c.self.invariant
    ∙ ap (λ (l : Naming). binder_in l c.args.name) c.self.view_is)
