use Rattle.std.proofs.Common.{◌∙◌, ap, inr}
use Rattle.net_core.specs.inside.Rests.{asked_by}
use Rattle.net_core.proofs.net.Net.rests.Goals as goal

pub invariant_of-self-in-Ok : goal.invariant_of-self-in-Ok
invariant_of-self-in-Ok c = record {
  net = c.self.invariant.net;
  rests = inr (record {
    asked_is = c.in-Ok.ensures ∙ ap asked_by c.as_slice.ensures.value;
    none = c.may_meet.ensures c.if-may_meet.false;
  });
  quiet = c.self.invariant.quiet;
}
