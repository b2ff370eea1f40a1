use Rattle.std.proofs.Common.{◌≡◌, ◌∙◌, ◌++◌, ◌-◌, ℕ, length, replicate, ap, arith}
use Rattle.net_core.specs.Senders.{kept}
use Rattle.net_core.specs.inside.Runs.{spread}
use Rattle.net_core.proofs.senders.note.Goals as goal

pub returns : goal.returns
returns c =
    let left = kept c.args.choice.now (spread c.args.runs.now.items) in
    let count : c.args.now - (c.args.before - c.take_delivered-taken.result)
    ≡ c.args.now - length left = omega (
      arith,
      c.requires.before,
      c.take_delivered-taken.ensures.count,
      ap length c.take_delivered-taken.ensures.out,
    ) in
    c.add_run.ensures
    ∙ ap (λ xs.
    xs ++ replicate (c.args.now - (c.args.before - c.take_delivered-taken.result)) c.args.sender)
    c.take_delivered-taken.ensures.out ∙ ap (λ (n : ℕ). left ++ replicate n c.args.sender) count
