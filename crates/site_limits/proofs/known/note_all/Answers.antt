use Rattle.site_limits.proofs.Tested.{noted-all}
use Rattle.site_limits.proofs.known.note_all.Goals as goal

pub returns : goal.returns
returns c =
    noted-all c.args.number c.args.locs.now c.args.waiting.now c.args.requests.now
    c.args.known.now c.note_homes.new.known c.note_waiting.new.known c.note_requests.new.known
    c.note_homes.ensures c.note_waiting.ensures c.note_requests.ensures
