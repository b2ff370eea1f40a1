-- One entry more, before all others.
use Rattle.std.proofs.Common.{ap, ◌∙◌, cond, Some}
use Rattle.chem_model.specs.declared.numbered.Named.{Named}
use Rattle.chem_model.specs.Fill.{Naming}
use Rattle.chem_model.specs.Numbered.{same_name, binder_in}
use Rattle.trace_text.specs.inside.Tables.{key_of}
use Rattle.trace_text.proofs.Keys.{keyed_after, put_binder}
use Rattle.trace_text.proofs.tables.Binders.put.Goals as goal

pub invariant_of-self-2 : goal.invariant_of-self-2
invariant_of-self-2 c =
    keyed_after (λ (n : Named). n.name) c.args.named c.key_of.result c.self.inside.map.entries
    c.insert.new.self.entries c.key_of.ensures c.in_ok-insert.ensures.entries c.self.invariant

pub returns : goal.returns
returns c = λ x.
    let kept =
    keyed_after (λ (n : Named). n.name) c.args.named c.key_of.result c.self.inside.map.entries
    c.insert.new.self.entries c.key_of.ensures c.in_ok-insert.ensures.entries c.self.invariant in
    put_binder c.args.named c.key_of.result x c.self.inside.map.entries c.insert.new.self.entries
    c.key_of.ensures c.self.invariant kept (c.in_ok-insert.ensures.updates.0 (key_of x))
    ∙ ap (λ (l : Naming).
    cond (same_name c.args.named.name x) (Some c.args.named.binder) (binder_in l x)) c.self.view_is
