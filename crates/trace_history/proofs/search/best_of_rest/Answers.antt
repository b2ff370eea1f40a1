-- One rule more was looked at.
use Rattle.std.proofs.Common.{List, subst}
use Rattle.std.specs.Prelude.{None}
use Rattle.std.specs.Option.{option_copied}
use Rattle.chem_model.specs.declared.numbered.NumberedRule.{NumberedRule}
use Rattle.chem_model.specs.Each.{IsIn}
use Rattle.book_store.specs.Older.{whole}
use Rattle.book_store.specs.Watched.{IsAt}
use Rattle.trace_history.proofs.Looked.{betters_along, rest_next}
use Rattle.book_store.proofs.Members.{at_in}
use Rattle.trace_history.proofs.search.best_of_rest.Goals as goal

pub better-best-requires-clause-there : goal.better-best-requires-clause-there
better-best-requires-clause-there c =
    let r = c.index-rules-place.result in
    subst (λ (l : List NumberedRule). IsIn r l) c.as_slice-rules.ensures.members
    (at_in c.as_slice-rules.result.now c.loop-place.place r c.loop-place-test.true
    c.index-rules-place.is)

pub loop-place-preserved : goal.loop-place-preserved
loop-place-preserved c =
    let n = whole c.args.sight.older.now.table c.args.sight.numbered.now in
    let old = option_copied c.loop-place.best in
    let new = option_copied c.better-best.result in
    let r = c.index-rules-place.result in
    let at : IsAt n.rules c.loop-place.place r =
    subst (λ (l : List NumberedRule). IsAt l c.loop-place.place r) c.as_slice-rules.ensures.members
    (c.loop-place-test.true, c.index-rules-place.is) in (
      betters_along n c.args.sight.from None old new
          c.loop-place.invariant.0 c.better-best.ensures.better,
      rest_next n c.args.sight.from c.args.noted c.loop-place.place old new r
          c.better-best.ensures.better at c.better-best.ensures.passed c.loop-place.invariant.1,
    )
