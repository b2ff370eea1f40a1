use Rattle.std.proofs.Common.{length, ap, arith}
use Rattle.env_store.specs.CodeParts.{CodeParts}
use Rattle.site_turn.proofs.Openings.{all_are_opened}
use Rattle.site_turn.proofs.opening.open_each.Goals as goal

pub returns : goal.returns
returns c = all_are_opened c.args.code.now c.loop-number.number c.loop-number.opened
    (omega (
      arith,
      c.loop-number.auto.number-end,
      c.loop-number-test.false,
      c.len-number-end.ensures.count,
      c.len-number-end.ensures.short,
      ap (λ (k : CodeParts). length k.sites) c.code.view_is,
    )) c.loop-number.invariant
