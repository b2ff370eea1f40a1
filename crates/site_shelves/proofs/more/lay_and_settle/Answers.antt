use Rattle.std.proofs.Common.{ap, sym, ◌∙◌, arith, List}
use Rattle.net_laws.specs.Site.{Group}
use Rattle.net_laws.specs.Holding.{put_all}
use Rattle.site_shelves.proofs.more.lay_and_settle.Goals as goal

pub settle-requires-clause-room : goal.settle-requires-clause-room
settle-requires-clause-room c = omega (arith, c.requires.room, c.add_groups.ensures.spare)

pub settle-requires-clause-fits : goal.settle-requires-clause-fits
settle-requires-clause-fits c = omega (arith, c.requires.left)

pub settle-requires-2-clause-room : goal.settle-requires-2-clause-room
settle-requires-2-clause-room c =
    omega (arith, c.requires.room, c.add_groups.ensures.spare, c.settle.ensures.spare)

pub settle-requires-2-clause-fits : goal.settle-requires-2-clause-fits
settle-requires-2-clause-fits c =
    omega (arith, c.requires.left, c.settle.ensures.capacity, c.settle.ensures.stuck)

pub returns-clause-site : goal.returns-clause-site
returns-clause-site c = λ s.
    ap (λ (gs : List Group). put_all c.args.more.waiting.items
    (put_all c.args.again.items (record s { groups = gs; stuck = c.args.stuck.now.items })))
    (sym c.add_groups.ensures.groups)
    ∙ ap (put_all c.args.more.waiting.items) (c.settle.ensures.site s)
    ∙ c.settle-2.ensures.site s

pub returns-clause-many : goal.returns-clause-many
returns-clause-many c = c.settle-2.ensures.many ∙ c.settle.ensures.many ∙ c.add_groups.ensures.many
