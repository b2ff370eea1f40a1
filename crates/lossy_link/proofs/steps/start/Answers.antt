use Rattle.std.proofs.Common.{ap, ◌∙◌}
use Rattle.lossy_link.specs.Lines.{all_sent}
use Rattle.lossy_link.proofs.Starting.{started_leads, started_whole}
use Rattle.lossy_link.proofs.Wanting.{some_handed}
use Rattle.lossy_link.proofs.steps.start.Goals as goal

pub returns-clause-started : goal.returns-clause-started
returns-clause-started c = record {
  packets = c.drain-packets.result;
  handed_out = c.drain-packets.ensures;
  wire = c.new-wire.ensures;
  lines = c.in_ok-leave_all.ensures.sent ∙ ap (all_sent c.drain-packets.result) c.new-lines.ensures;
}

pub returns-clause-whole : goal.returns-clause-whole
returns-clause-whole c = started_whole c.args.net _ (returns-clause-started c)
    c.code_is_kept.ensures c.stands_for_some.ensures.runs

pub returns-clause-leads : goal.returns-clause-leads
returns-clause-leads c = started_leads c.args.net _ (returns-clause-started c)

pub returns-in_err-leave_all-clause-left : goal.returns-in_err-leave_all-clause-left
returns-in_err-leave_all-clause-left c =
    some_handed c.from_residual.result c.args.net c.drain-packets.new.self
    c.drain-packets.result c.drain-packets.ensures c.in_err-leave_all.ensures.left
