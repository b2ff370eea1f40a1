use Rattle.std.proofs.Common.{◌∙◌, sym}
use Rattle.std.specs.Prelude.{option_copied}
use Rattle.site_solution.specs.Held.{queue_of}
use Rattle.site_turn.proofs.Dropping.{some_front, nothing_dropped, copied_some, copied_none}
use Rattle.site_turn.proofs.picks.drop_front.Goals as goal

pub take_front-requires : goal.take_front-requires
take_front-requires c = some_front (queue_of c.args.site.now.groups c.args.group c.args.chan)
    (option_copied c.front.result)
    c.front.ensures (copied_some c.front.result (sym c.is_some.ensures ∙ c.if-is_some.true))

pub returns-else-is_some : goal.returns-else-is_some
returns-else-is_some c =
    nothing_dropped c.args.site.now c.args.group c.args.chan (option_copied c.front.result)
    c.requires.group c.front.ensures
    (copied_none c.front.result (sym c.is_some.ensures ∙ c.if-is_some.false))
