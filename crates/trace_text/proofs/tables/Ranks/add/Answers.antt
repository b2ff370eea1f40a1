-- A name more, where it is new.
use Rattle.std.proofs.Common.{List, [], ◌∷◌, ◌++◌, ap, ◌∙◌, cond, not}
use Rattle.std.specs.Map.{values_of}
use Rattle.indexmap.specs.IndexMap.{insert_entry}
use Rattle.chem_model.specs.declared.name.Name.{Name}
use Rattle.trace_text.specs.TraceText.{is_among}
use Rattle.trace_text.proofs.Keys.{same_key, keyed_after, values_insert}
use Rattle.trace_text.proofs.tables.Ranks.add.Goals as goal

pub invariant_of-self-2 : goal.invariant_of-self-2
invariant_of-self-2 c =
    keyed_after (λ (y : Name). y) c.args.name c.key_of.result c.self.inside.map.entries
    c.insert.new.self.entries c.key_of.ensures c.in_ok-insert.ensures.entries c.self.invariant

pub returns : goal.returns
returns c =
    ap values_of c.in_ok-insert.ensures.entries
    ∙ (ap (λ k. values_of (insert_entry same_key c.self.inside.map.entries k c.args.name))
    c.key_of.ensures
    ∙ (values_insert c.args.name c.self.inside.map.entries c.self.invariant
    ∙ ap (λ (names : List Name).
    cond (not (is_among names c.args.name)) (names ++ c.args.name ∷ []) names) c.self.view_is))
