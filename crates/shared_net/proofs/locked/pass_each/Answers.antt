-- One pass more, and no pass that is left.
use Rattle.std.proofs.Common.{◌≡◌, ◌+◌, ◌-◌, List, [], ◌∷◌, ◌++◌, ap, sym, ◌∙◌, append_assoc}
use Rattle.std.proofs.Common.{append-nil, rules}
use Rattle.shared_net.specs.Passes.{PassKept, new_passes}
use Rattle.shared_net.proofs.Rising.{new-next, new-none}
use Rattle.shared_net.proofs.locked.pass_each.Goals as goal

pub loop-i-preserved : goal.loop-i-preserved
loop-i-preserved g c =
    let i = c.loop-i.i in
    let p : PassKept = c.new.result in
    let rest = new_passes c.args.budget (i + 1 + 1) (c.args.passes - (i + 1)) in
    let made : c.push.new.self.items ≡ c.loop-i.list.items ++ p ∷ [] = search rules in
    let here : new_passes c.args.budget (i + 1) (c.args.passes - i) ≡ p ∷ rest =
    new-next c.args.budget (i + 1) i c.args.passes c.loop-i-test.true
    ∙ ap (λ (q : PassKept). q ∷ rest) (sym c.new.ensures) in
    record {
      parts = search rules;
      amount = search rules;
      list = ap (λ (ps : List PassKept). ps ++ rest) made
          ∙ (append_assoc c.loop-i.list.items (p ∷ []) rest
          ∙ (ap (λ (ps : List PassKept). c.loop-i.list.items ++ ps) (sym here)
          ∙ c.loop-i.invariant.list));
    }

pub returns : goal.returns
returns g c =
    let i = c.loop-i.i in
    let none = new-none c.args.budget (i + 1) i c.args.passes c.loop-i-test.false in
    c.from_vec.ensures
    ∙ (sym (append-nil c.loop-i.list.items)
    ∙ (ap (λ (ps : List PassKept). c.loop-i.list.items ++ ps) (sym none) ∙ c.loop-i.invariant.list))
