use Rattle.std.proofs.Common.{ℕ, ◌<◌, length, ap, sym, ◌∙◌, rules}
use Rattle.shared_net.specs.Passes.{PassKept}
use Rattle.shared_net.specs.Turning.{owner}
use Rattle.shared_net.proofs.Owners.{same_owners}
use Rattle.shared_net.proofs.working.lend.Goals as goal

pub returns : goal.returns
returns g c = same_owners c.args.passes.now c.for_each_mut.new.s (search rules)
    (λ (i : ℕ) (d : PassKept) (l : i < length c.args.passes.now).
    let h = c.for_each_mut.ensures i d l in
    ap owner (sym h.1.left) ∙ (h.1.call ∙ ap owner h.1.argument_is))
