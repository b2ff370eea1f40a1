-- The book with which the receipts agree is of the program.
use Rattle.site_runner.proofs.Carried.{made_shared}
use Rattle.site_runner.proofs.on_threads.after_close.Goals as goal

pub returns-in-Agreed-clause-how : goal.returns-in-Agreed-clause-how
returns-in-Agreed-clause-how c =
    let book = c.in-Agreed.book in
    let report = c.in-Agreed.report in
    let closes = rw c.in-Agreed.is at c.requires in
    rw c.in-Agreed.is (made_shared c.args.program.now c.args.budget book report closes
    c.shared.result c.shared.ensures.how)
