use Rattle.std.proofs.Common.{◌≡◌, ℕ, [], subst}
use Rattle.net_core.specs.inside.Alone.{HasReacted}
use Rattle.net_core.proofs.Alone.{alone_number}
use Rattle.net_core.proofs.turn.take_turn.Goals as goal

pub returns : goal.returns
returns c =
    let s = c.args.site.now in
    let mid = c.work_off.new.site in
    let number : mid.number ≡ s.number =
    alone_number c.args.code.now c.args.tree.now s.number c.requires.alone.0 mid []
    (c.in_ok-on.ensures.stays c.requires.alone.0 c.requires.alone.2) in
    record {
      mid = mid;
      arrives = c.in_ok-on.ensures.arrives;
      reacts = subst (λ (k : ℕ). HasReacted c.args.code.now c.args.tree.now k c.args.quota mid
          c.in_ok-made.made c.react_up_to.new.site) number c.in_ok-made.ensures.reacted;
      stays = c.in_ok-on.ensures.stays;
      idle = c.in_ok-made.ensures.idle;
    }
