use Rattle.sort_check.proofs.Told.{put_line}
use Rattle.sort_check.proofs.uses.Uses.put.Goals as goal

pub returns : goal.returns
returns c =
    put_line c.self.inside.sorts c.insert.new.self c.args.self.now c.as_slice.result
    c.args.line.now c.self.view_is c.as_slice.ensures.members c.in_ok-insert.ensures.updates
