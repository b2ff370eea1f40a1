-- What was read is what the source told.
use Rattle.log_judge.proofs.Read.{log_told, whole, on_ok, no_log}
use Rattle.log_judge.proofs.log.log_of.Goals as goal

pub returns-in-Ok-clause-log : goal.returns-in-Ok-clause-log
returns-in-Ok-clause-log g c =
    log_told (g.S.Source.left c.args.source.now) (g.S.Source.left c.read_all.new.source)
    c.in-Ok.bytes c.in-Ok.ensures.all c.in-Ok.ensures.end c.log_in.result c.log_in.ensures.log

pub returns-in-Ok-clause-all : goal.returns-in-Ok-clause-all
returns-in-Ok-clause-all g c = on_ok c.log_in.result _
    (whole (g.S.Source.left c.args.source.now) (g.S.Source.left c.read_all.new.source)
    c.in-Ok.bytes c.in-Ok.ensures.all c.in-Ok.ensures.end c.in-Ok.ensures.short)

pub returns-in-Ok-clause-stop : goal.returns-in-Ok-clause-stop
returns-in-Ok-clause-stop g c = no_log g.S.Source.left g.S.Source.faults c.args.source.now
    c.read_all.new.source c.in-Ok.bytes c.in-Ok.ensures.all c.in-Ok.ensures.end
    c.in-Ok.ensures.short c.log_in.result c.log_in.ensures.stop
