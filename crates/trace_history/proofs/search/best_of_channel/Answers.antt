-- The rules of the keys of the channel were looked at.
use Rattle.std.proofs.Common.{◌+◌, List, refl, sym, ◌∙◌, subst, inr}
use Rattle.std.specs.List.{filter}
use Rattle.std.specs.Option.{option_copied}
use Rattle.chem_model.specs.Each.{IsIn}
use Rattle.book_store.specs.Keys.{Key}
use Rattle.book_store.specs.Older.{whole}
use Rattle.trace_history.proofs.Along.{one_along, all_along}
use Rattle.trace_history.proofs.Looked.{betters_along, betters_same, IsKeyPassed, key_kept}
use Rattle.trace_history.proofs.Looked.{channel_passed}
use Rattle.book_store.proofs.Queued.{is_high}
use Rattle.trace_history.proofs.search.best_of_channel.Goals as goal

pub loop-key-init : goal.loop-key-init
loop-key-init c = (
  betters_same (whole c.args.sight.older.now.table c.args.sight.numbered.now)
      c.args.sight.from (option_copied c.args.found),
  λ k at. inr (subst (λ (l : List Key). IsIn k l)
      (sym (c.into_iter-key-iterator.ensures.into_iter_gives
      ∙ c.range-filed.ensures.between tt)) at),
)

pub loop-key-preserved : goal.loop-key-preserved
loop-key-preserved c =
    let n = whole c.args.sight.older.now.table c.args.sight.numbered.now in
    let w = c.args.waiting.now in
    let old = option_copied c.loop-key.best in
    let new = option_copied c.better_at-best.result in
    let better = c.better_at-best.ensures.better in (
      betters_along n c.args.sight.from (option_copied c.args.found) old new
          c.loop-key.invariant.0 better,
      one_along (IsKeyPassed n c.args.sight.from w old) (IsKeyPassed n c.args.sight.from w new)
          (filter (is_high (c.args.channel + 1) c.args.channel) w.filed.keys)
          c.loop-key.key-iterator c.next.new.self c.in-Some.key.now c.in-Some.ensures.steps
          (key_kept n c.args.sight.from w old new better) c.better_at-best.ensures.passed
          c.loop-key.invariant.1,
    )

pub returns-clause-passed : goal.returns-clause-passed
returns-clause-passed c =
    let n = whole c.args.sight.older.now.table c.args.sight.numbered.now in
    let w = c.args.waiting.now in
    let best = option_copied c.loop-key.best in
    channel_passed n c.args.sight.from w c.args.sight.numbered.now c.requires.sound refl
    c.args.channel best
    (all_along (IsKeyPassed n c.args.sight.from w best)
    (filter (is_high (c.args.channel + 1) c.args.channel) w.filed.keys)
    c.loop-key.key-iterator c.in-None.ensures.steps.0 c.loop-key.invariant.1)
