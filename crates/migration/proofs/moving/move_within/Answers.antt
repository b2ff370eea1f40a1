use Rattle.std.proofs.Common.{◌≡◌, List, Some, sym, ap, subst, ◌∙◌}
use Rattle.chem_model.specs.declared.name.Loc.{Loc}
use Rattle.chem_model.specs.declared.name.Name.{Name}
use Rattle.chem_model.specs.declared.event.AtomId.{AtomId}
use Rattle.wire_packet.specs.GroupFacts.{RequestParts}
use Rattle.loc_tree.specs.Tree.{Tree}
use Rattle.net_laws.specs.Site.{Site}
use Rattle.net_laws.specs.Holding.{request_with}
use Rattle.site_solution.specs.Pours.{CanEmit}
use Rattle.router.proofs.Sending.{asked_here, can_emit, still_asked}
use Rattle.migration.proofs.Within.{asked_there, may_move, one_goal, goal_stands, leaves}
use Rattle.migration.proofs.Within.{moves_here, sent_alone, moved_within}
use Rattle.migration.proofs.moving.move_within.Goals as goal

pub emit-requires-clause-here : goal.emit-requires-clause-here
emit-requires-clause-here c = asked_here c.args.site.now c.args.atom.now
    (record { id = c.request.inside.id; loc = c.request.inside.loc; ask = c.request.inside.ask })
    c.site_is_kept.ensures.kept
    (c.asked-request.ensures ∙ ap (λ (r : RequestParts). Some r) (sym c.request.view_is))

pub emit-requires-clause-alive : goal.emit-requires-clause-alive
emit-requires-clause-alive c =
    let t : Tree = c.args.tree.now in
    let s : Site = c.args.site.now in
    let i : AtomId = c.args.atom.now in
    let q : RequestParts =
    record { id = c.request.inside.id; loc = c.request.inside.loc; ask = c.request.inside.ask } in
    let b : Loc = c.goal_of-cont.result.0 in
    let k : Name = c.goal_of-cont.result.1 in
    let there : request_with i s.requests ≡ Some q =
    c.asked-request.ensures ∙ ap (λ (r : RequestParts). Some r) (sym c.request.view_is) in
    (leaves t q.loc b (one_goal t q.loc q.ask b k (may_move t s i c.requires.may q there)
    c.goal_of-cont.ensures.asks)).lives

pub emit-requires-clause-can : goal.emit-requires-clause-can
emit-requires-clause-can c =
    let t : Tree = c.args.tree.now in
    let s : Site = c.args.site.now in
    let i : AtomId = c.args.atom.now in
    let q : RequestParts =
    record { id = c.request.inside.id; loc = c.request.inside.loc; ask = c.request.inside.ask } in
    let b : Loc = c.goal_of-cont.result.0 in
    let k : Name = c.goal_of-cont.result.1 in
    let there : request_with i s.requests ≡ Some q =
    c.asked-request.ensures ∙ ap (λ (r : RequestParts). Some r) (sym c.request.view_is) in
    let stands = (goal_stands t s i q b k c.requires.in_tree there c.goal_of-cont.ensures.asks).1 in
    subst (λ (args : List Name). CanEmit t k args s) (sym c.new-args.ensures)
    (can_emit t s k c.requires.in_tree c.requires.draws stands
    (c.goal_of-cont.ensures.plain c.request.invariant))

pub drop_request-requires : goal.drop_request-requires
drop_request-requires c =
    let t : Tree = c.args.tree.now in
    let s : Site = c.args.site.now in
    let l : Loc = c.request.inside.loc in
    let k : Name = c.goal_of-cont.result.1 in
    let sent = sent_alone c.args.counts.now l k c.new-args.result t s
    c.emit.new.self c.in_ok-effects.effects c.new-args.ensures c.in_ok-effects.ensures.ok in
    still_asked c.args.counts.now s.number l s.made k t s c.emit.new.self c.in_ok-effects.effects
    sent c.args.atom.now (asked_there t s c.args.atom.now c.requires.may)

pub returns : goal.returns
returns c =
    let t : Tree = c.args.tree.now in
    let s : Site = c.args.site.now in
    let i : AtomId = c.args.atom.now in
    let q : RequestParts =
    record { id = c.request.inside.id; loc = c.request.inside.loc; ask = c.request.inside.ask } in
    let b : Loc = c.goal_of-cont.result.0 in
    let k : Name = c.goal_of-cont.result.1 in
    let there : request_with i s.requests ≡ Some q =
    c.asked-request.ensures ∙ ap (λ (r : RequestParts). Some r) (sym c.request.view_is) in
    let here = moves_here t s i q b k c.tree_is_kept.ensures c.site_is_kept.ensures.kept
    c.requires.in_tree c.requires.may c.requires.hosted there c.goal_of-cont.ensures.asks in
    let sent = sent_alone c.args.counts.now q.loc k c.new-args.result t s
    c.emit.new.self c.in_ok-effects.effects c.new-args.ensures c.in_ok-effects.ensures.ok in
    let it = moved_within c.args.counts.now t s c.emit.new.self c.drop_request.new.self i q b k
    c.rehost.new.self c.in_ok-effects.effects there c.goal_of-cont.ensures.asks here
    c.site_is_kept.ensures.kept c.requires.in_tree c.rehost.ensures.tree sent
    c.in_ok-effects.ensures.keeps c.drop_request.ensures in
    record {
      ok = it.ok;
      one_event = it.one_event;
      fit = it.fit;
      err = tt;
      err_tree = tt;
    }
