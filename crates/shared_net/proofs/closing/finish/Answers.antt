-- The passes together have the whole ledger, so the receipts are as many as the events.
use Rattle.std.proofs.Common.{◌≡◌, length, map, sym, ◌∙◌, subst, Some, None}
use Rattle.trace_history.specs.Kept.{BookKept}
use Rattle.shared_net.specs.Agrees.{row_of, all_receipts, Agrees}
use Rattle.shared_net.specs.Causes.{Compares}
use Rattle.shared_net.proofs.Agreeing.{agreed, with-rows, started_is, differs_closes}
use Rattle.shared_net.proofs.closing.finish.Goals as goal

pub returns-in-None-clause-closed : goal.returns-in-None-clause-closed
returns-in-None-clause-closed g c =
    let ps = c.args.passes in
    let agrees : Compares c.args.locked.book.journal (map row_of ps) None =
    rw c.in-None.is at c.requires.differs in
    let book : BookKept = c.into_book-book.result in
    let here : Agrees book.journal (all_receipts (map row_of ps)) =
    subst (λ (b : BookKept). Agrees b.journal (all_receipts (map row_of ps)))
    (sym c.into_book-book.ensures.book) agrees in
    let many : length (all_receipts (map row_of ps)) ≡ length book.journal =
    sym c.into_share-all.ensures.amount ∙ sym c.into_book-book.ensures.counted in
    λ budget is. (
      agreed g.L.Run.program budget ps book here c.requires.rise is many
          c.into_book-book.ensures.program,
      with-rows c.new-in-None.result c.args.settled.rows (map row_of ps)
          c.new-in-None.ensures c.requires.rows,
    )

pub returns-in-Some-clause-closed : goal.returns-in-Some-clause-closed
returns-in-Some-clause-closed g c =
    let rows = map row_of c.args.passes in
    let compared : Compares c.args.locked.book.journal rows (Some c.in-Some.cause) =
    rw c.in-Some.is at c.requires.differs in
    let started =
    started_is g.L.Run.program c.args.locked.book.journal rows c.in-Some.cause compared in
    λ budget is. differs_closes g.L.Run.program budget c.new.result c.args.settled.rows rows
    c.in-Some.cause c.new.ensures c.requires.rows started
