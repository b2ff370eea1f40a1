use Rattle.std.proofs.Common.{◌≡◌, Some, true, false, sym, ap, ◌∙◌, rules}
use Rattle.std.specs.Prelude.{is_some, nat_eq, cond, length}
use Rattle.std.specs.HashMap.{Updates}
use Rattle.env_store.specs.Reading.{position}
use Rattle.guard_compile.proofs.Positions.{known_again, new_member}
use Rattle.guard_compile.proofs.binders.Binders.push.Goals as goal

pub invariant_of-self-else-is_new : goal.invariant_of-self-else-is_new
invariant_of-self-else-is_new c =
    let known : is_some (position c.self.inside.list c.args.binder) ≡ true = search rules in
    λ q. c.self.invariant q
    ∙ sym (ap (λ xs. position xs q) c.in_ok-push.ensures.ok
    ∙ known_again c.self.inside.list c.args.binder known q)

pub invariant_of-self-else-is_err : goal.invariant_of-self-else-is_err
invariant_of-self-else-is_err c =
    let fresh : is_some (position c.self.inside.list c.args.binder) ≡ false = search rules in
    let updates : Updates nat_eq
    c.self.inside.first_places c.insert.new.self c.args.binder (Some c.len-place.result) =
    search rules in
    let long : c.len-place.result ≡ length c.self.inside.list = c.len-place.ensures.count in
    λ q.
    updates.0 q
    ∙ (λ i. cond (nat_eq c.args.binder q) (Some (long i)) (c.self.invariant q i))
    ∙ sym (ap (λ xs. position xs q) c.in_ok-push.ensures.ok
    ∙ new_member c.self.inside.list c.args.binder fresh q)
