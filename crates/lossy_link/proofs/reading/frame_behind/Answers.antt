use Rattle.lossy_link.proofs.Exact.{data_behind, data_wrong}
use Rattle.lossy_link.proofs.reading.frame_behind.Goals as goal

pub returns-in-Ok : goal.returns-in-Ok
returns-in-Ok c = data_behind c.args.from c.args.into c.args.number c.args.bytes.now c.args.tag
    c.in-Ok.bytes c.requires c.if-tag-eq2.false c.in-Ok.ensures

pub returns-in-Err : goal.returns-in-Err
returns-in-Err c = data_wrong c.args.from c.args.into c.args.number c.args.bytes.now c.args.tag
    c.in-Err.end c.requires c.if-tag-eq2.false c.in-Err.ensures
