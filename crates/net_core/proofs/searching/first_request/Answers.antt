use Rattle.std.proofs.Common.{sym, subst}
use Rattle.net_core.specs.inside.Searched.{IsFirstMeeting}
use Rattle.net_core.proofs.FirstRequests.{none_least_none, least_first}
use Rattle.net_core.proofs.searching.first_request.Goals as goal

pub returns-in-Some-clause-some : goal.returns-in-Some-clause-some
returns-in-Some-clause-some c = λ code net parts same.
    subst (IsFirstMeeting code net) (sym c.choice_for.ensures)
    (least_first c.args.version c.args.sites.now c.args.tree.now code net parts same
    c.in-Some.request c.in-Some.ensures)

pub returns-in-None-clause-none : goal.returns-in-None-clause-none
returns-in-None-clause-none c =
    λ code net parts same. none_least_none c.args.version c.args.sites.now c.args.tree.now code net
    parts same c.in-None.ensures
