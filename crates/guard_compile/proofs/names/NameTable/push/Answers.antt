use Rattle.std.proofs.Common.{◌≡◌, Some, true, false, cond, sym, ap, ◌∙◌, rules}
use Rattle.std.specs.Prelude.{is_some, nat_eq}
use Rattle.std.specs.HashMap.{Updates}
use Rattle.chem_model.specs.Fill.{name_at}
use Rattle.guard_compile.proofs.Positions.{named_again, new_name}
use Rattle.guard_compile.proofs.names.NameTable.push.Goals as goal

pub invariant_of-self-else-is_new : goal.invariant_of-self-else-is_new
invariant_of-self-else-is_new c =
    let known : is_some (name_at c.self.inside.entries c.args.binder) ≡ true = search rules in
    λ q. c.self.invariant q
    ∙ sym (ap (λ xs. name_at xs q) c.in_ok-push.ensures.ok
    ∙ named_again c.self.inside.entries c.args.binder c.args.name known q)

pub invariant_of-self-else-is_err : goal.invariant_of-self-else-is_err
invariant_of-self-else-is_err c =
    let fresh : is_some (name_at c.self.inside.entries c.args.binder) ≡ false = search rules in
    let updates : Updates nat_eq
    c.self.inside.names c.insert.new.self c.args.binder (Some c.args.name) = search rules in
    λ q.
    updates.0 q
    ∙ ap (cond (nat_eq c.args.binder q) (Some c.args.name)) (c.self.invariant q)
    ∙ sym (ap (λ xs. name_at xs q) c.in_ok-push.ensures.ok
    ∙ new_name c.self.inside.entries c.args.binder c.args.name fresh q)
