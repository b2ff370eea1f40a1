use Rattle.net_core.specs.inside.Alone.{IsNoted, ReactsAndNotes}
use Rattle.net_core.proofs.Fitting.{on_ok}
use Rattle.net_core.proofs.turn.react_once.Goals as goal

pub returns : goal.returns
returns c =
    let e = c.in_ok-event.event in
    let effects = c.in_ok-event.effects in
    on_ok (IsNoted e effects c.args.made.now c.note.new.made)
    (ReactsAndNotes c.args.code.now c.args.tree.now c.args.site.now c.args.pick.now c.args.made.now
    c.react_by.new.site c.note.new.made)
    c.note.result
    (λ noted.
    record { event = e; effects = effects; reacts = c.in_ok-event.ensures.ok; noted = noted })
    c.note.ensures
