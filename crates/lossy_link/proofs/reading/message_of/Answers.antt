use Rattle.lossy_link.proofs.Exact.{starts, data_from, wrong_from}
use Rattle.lossy_link.proofs.reading.message_of.Goals as goal

pub returns-in-Ok : goal.returns-in-Ok
returns-in-Ok c =
    let begins = starts c.args.bytes.now c.if-bytes-ne1.false in
    data_from c.copy_of.result begins.0 c.args.bytes.now c.in-Ok._packet begins.1
    c.in-Ok.ensures.found c.copy_of.ensures

pub returns-in-Err : goal.returns-in-Err
returns-in-Err c =
    let begins = starts c.args.bytes.now c.if-bytes-ne1.false in
    wrong_from c.in-Err.end begins.0 c.args.bytes.now begins.1 c.in-Err.ensures.bad
