use Rattle.std.proofs.Common.{refl, sym, subst, arith}
use Rattle.lossy_link.specs.declared.frame.Frame.{Frame}
use Rattle.net_core.specs.Whole.{NetParts}
use Rattle.lossy_link.specs.Links.{Links, IsTrueOf}
use Rattle.lossy_link.specs.Whole.{links_of}
use Rattle.lossy_link.specs.inside.Parted.{Comes}
use Rattle.lossy_link.proofs.steps.come.Goals as goal

pub acknowledge-requires-clause-there : goal.acknowledge-requires-clause-there
acknowledge-requires-clause-there c =
    (subst (IsTrueOf c.args.parts.now.lines) c.in-Ack.is c.requires.says).1

pub acknowledge-requires-clause-within : goal.acknowledge-requires-clause-within
acknowledge-requires-clause-within c =
    let said = (subst (IsTrueOf c.args.parts.now.lines) c.in-Ack.is c.requires.says).0 in
    let sent = (c.requires.whole.sound.fine c.in-Ack.from c.in-Ack.into).within in
    omega arith

pub returns-in-Ack : goal.returns-in-Ack
returns-in-Ack c =
    let new : Links NetParts = record {
      net = c.args.parts.now.net;
      wire = c.args.parts.now.wire;
      lines = c.acknowledge.new.self;
    } in
    subst (λ (x : Frame). Comes x (links_of c.args.parts.now) new) (sym c.in-Ack.is)
    (record { net = refl; wire = refl; lines = c.acknowledge.ensures })
