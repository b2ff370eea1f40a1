use Rattle.std.proofs.Common.{sym, subst}
use Rattle.net_core.specs.declared.choice.Choice.{Choice}
use Rattle.net_core.specs.Choosing.{Allows}
use Rattle.net_core.specs.Scheduling.{Opens, ReadyOpensNone}
use Rattle.net_core.proofs.Picking.{fires_reacts}
use Rattle.site_runner.proofs.Rounding.{opens_turn, no_turn}
use Rattle.site_runner.proofs.in_rounds.open_at.Goals as goal

pub make-requires-clause-allowed : goal.make-requires-clause-allowed
make-requires-clause-allowed c =
    let h = c.in-Some.ensures.some in
    let ready = h.ready.ready in
    subst (λ (x : Choice). Allows c.args.net.now.code c.args.net.now.net x) (sym h.is)
    (fires_reacts c.args.net.now.code c.args.net.now.net c.requires.one.is_code c.args.site
    h.ready.site h.pick ready.pick h.ready.site_is ready.fires)

pub returns-in_ok-make : goal.returns-in_ok-make
returns-in_ok-make c =
    let h = c.in-Some.ensures.some in
    opens_turn c.args.net.now c.make.new.net c.args.book.now c.make.new.book c.in-Some.choice
    c.in_ok-make.ensures c.args.site h.pick h.is h.ready h.some

pub returns-in_default : goal.returns-in_default
returns-in_default c = no_turn Opens ReadyOpensNone c.args.net.now c.args.book.now c.args.site
    c.requires.one (rw c.in_default.is at c.opening_at.ensures.none)
