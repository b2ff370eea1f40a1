use Rattle.std.proofs.Common.{◌∙◌, Some, sym, ap}
use Rattle.std.specs.Prelude.{is_some}
use Rattle.wire_packet.specs.GroupFacts.{RequestParts}
use Rattle.net_core.proofs.Doing.{goal_there, goal_asks}
use Rattle.net_core.proofs.acting.goal_at.Goals as goal

pub asked-request-requires : goal.asked-request-requires
asked-request-requires c = ap is_some (goal_there c.args.sites.now c.args.number c.args.atom.now
    c.requires.0 c.requires.1 c.index-sites-number.result c.index-sites-number.is)

pub goal_of-requires : goal.goal_of-requires
goal_of-requires c = (
  c.requires.0,
  (
    c.requires.1.cont,
    goal_asks c.args.sites.now c.args.number c.args.atom.now c.requires.0 c.requires.1
        c.index-sites-number.result c.index-sites-number.is (record {
          id = c.request.inside.id;
          loc = c.request.inside.loc;
          ask = c.request.inside.ask;
        }) (c.asked-request.ensures ∙ ap (λ (r : RequestParts). Some r) (sym c.request.view_is)),
  ),
)

pub returns : goal.returns
returns c = λ target g.
    c.goal_of.ensures target g.cont (goal_asks c.args.sites.now c.args.number c.args.atom.now target
    g c.index-sites-number.result c.index-sites-number.is
    (record { id = c.request.inside.id; loc = c.request.inside.loc; ask = c.request.inside.ask })
    (c.asked-request.ensures ∙ ap (λ (r : RequestParts). Some r) (sym c.request.view_is)))
