use Rattle.lossy_link.proofs.Exact.{read_found, read_reads, read_refuses}
use Rattle.lossy_link.proofs.reading.read_frame.Goals as goal

pub returns-clause-found : goal.returns-clause-found
returns-clause-found c = read_found c.args.bytes.now c.frame_of.result c.frame_of.ensures

pub returns-clause-reads : goal.returns-clause-reads
returns-clause-reads c = read_reads c.args.bytes.now c.frame_of.result c.frame_of.ensures

pub returns-clause-refuses : goal.returns-clause-refuses
returns-clause-refuses c = read_refuses c.args.bytes.now c.frame_of.result c.frame_of.ensures
