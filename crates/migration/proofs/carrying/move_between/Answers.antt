use Rattle.std.proofs.Common.{◌≡◌, Bool, [], Some, sym, ap, subst, ◌∙◌, true}
use Rattle.chem_model.specs.declared.name.Loc.{Loc}
use Rattle.chem_model.specs.declared.name.Name.{Name}
use Rattle.chem_model.specs.declared.event.AtomId.{AtomId}
use Rattle.wire_packet.specs.GroupFacts.{RequestParts}
use Rattle.loc_tree.specs.Tree.{Tree}
use Rattle.net_laws.specs.Site.{Site}
use Rattle.net_laws.specs.Holding.{request_with, drop_request}
use Rattle.net_laws.specs.Parcels.{Load, pack, take_in, parcel_of}
use Rattle.net_laws.specs.Moves.{moved_made}
use Rattle.net_laws.specs.Meeting.{sent_here}
use Rattle.site_solution.specs.Answers.{Answers}
use Rattle.site_solution.specs.Apart.{is_apart}
use Rattle.site_solution.specs.Parcels.{CanReceive}
use Rattle.site_solution.specs.Arriving.{FitsInto}
use Rattle.site_solution.specs.Staying.{AgreeBut}
use Rattle.site_solution.proofs.Together.{request_id}
use Rattle.migration.specs.Across.{joins}
use Rattle.migration.proofs.Within.{may_move, one_goal, goal_stands, target_number, target_here}
use Rattle.migration.proofs.Across.{move_between, one_move_between}
use Rattle.migration.proofs.Joining.{can_receive, carries, comes_drawn, joins_away}
use Rattle.migration.proofs.Keeping.{agree, no_root, others_keep, comes_fit, name_there}
use Rattle.migration.proofs.carrying.move_between.Goals as goal

pub carried-requires : goal.carried-requires
carried-requires c = ap (λ (j : AtomId). request_with j c.args.from.now.requests) (request_id
    c.args.from.now.requests c.args.atom.now c.asked-request.result c.asked-request.ensures)
    ∙ c.asked-request.ensures

pub arrive-requires-clause-can : goal.arrive-requires-clause-can
arrive-requires-clause-can c =
    let t : Tree = c.args.tree.now in
    let from : Site = c.args.from.now in
    let into : Site = c.args.into.now in
    let i : AtomId = c.args.atom.now in
    let q : RequestParts =
    record { id = c.request.inside.id; loc = c.request.inside.loc; ask = c.request.inside.ask } in
    let b : Loc = c.goal_of-cont.result.0 in
    let k : Name = c.goal_of-cont.result.1 in
    let there : request_with i from.requests ≡ Some q =
    c.asked-request.ensures ∙ ap (λ (r : RequestParts). Some r) (sym c.request.view_is) in
    let apart : is_apart into i (pack q.loc from) ≡ true =
    sym (ap (joins i from into) there) ∙ c.requires.joins in
    let may = can_receive from into q.loc i q (λ _. q.loc) there apart
    c.site_is_kept.ensures.once c.site_is_kept-2.ensures.once t c.site_is_kept.ensures.kept
    c.site_is_kept-2.ensures.kept c.site_is_kept.ensures.numbers c.requires.receiver.draws in
    let same = carries c.args.code.now t from i q c.in_ok-parcel.parcel c.requires.in_code there
    (c.in_ok-parcel.ensures
    ∙ ap (λ (r : RequestParts). parcel_of (pack r.loc (drop_request r.id from)))
    (sym c.request.view_is)) in
    subst (λ (load : Load). CanReceive load into) (sym same) may

pub alive-lives-requires : goal.alive-lives-requires
alive-lives-requires c =
    let t : Tree = c.args.tree.now in
    let from : Site = c.args.from.now in
    let into : Site = c.args.into.now in
    let i : AtomId = c.args.atom.now in
    let q : RequestParts =
    record { id = c.request.inside.id; loc = c.request.inside.loc; ask = c.request.inside.ask } in
    let b : Loc = c.goal_of-cont.result.0 in
    let k : Name = c.goal_of-cont.result.1 in
    let there : request_with i from.requests ≡ Some q =
    c.asked-request.ensures ∙ ap (λ (r : RequestParts). Some r) (sym c.request.view_is) in
    (goal_stands t from i q b k c.requires.in_tree there c.goal_of-cont.ensures.asks).0

pub arrive-requires-clause-plain : goal.arrive-requires-clause-plain
arrive-requires-clause-plain c = c.goal_of-cont.ensures.plain c.request.invariant

pub returns : goal.returns
returns c =
    let t : Tree = c.args.tree.now in
    let from : Site = c.args.from.now in
    let into : Site = c.args.into.now in
    let i : AtomId = c.args.atom.now in
    let q : RequestParts =
    record { id = c.request.inside.id; loc = c.request.inside.loc; ask = c.request.inside.ask } in
    let b : Loc = c.goal_of-cont.result.0 in
    let k : Name = c.goal_of-cont.result.1 in
    let there : request_with i from.requests ≡ Some q =
    c.asked-request.ensures ∙ ap (λ (r : RequestParts). Some r) (sym c.request.view_is) in
    let apart : is_apart into i (pack q.loc from) ≡ true =
    sym (ap (joins i from into) there) ∙ c.requires.joins in
    let same = carries c.args.code.now t from i q c.in_ok-parcel.parcel c.requires.in_code there
    (c.in_ok-parcel.ensures
    ∙ ap (λ (r : RequestParts). parcel_of (pack r.loc (drop_request r.id from)))
    (sym c.request.view_is)) in
    let came = subst (λ (load : Load).
    let a = moved_made c.alive-lives.result c.args.code.now.seen into.number load.loc into.made k in
    Answers (sent_here t a (take_in load into)) a.outs [] c.arrive.new.into c.in_ok-effects.effects)
    same c.in_ok-effects.ensures.ok in
    let answers =
    subst (λ (u : Bool). let a = moved_made u c.args.code.now.seen into.number q.loc into.made k in
    Answers (sent_here t a (take_in (pack q.loc (drop_request i from)) into)) a.outs []
    c.arrive.new.into c.in_ok-effects.effects) c.alive-lives.ensures.tree came in
    let can = one_goal t q.loc q.ask b k (may_move t from i c.requires.may q there)
    c.goal_of-cont.ensures.asks in
    let here = target_here from into i q b k c.requires.hosted there c.goal_of-cont.ensures.asks in
    let number =
    target_number t into q.loc b c.tree_is_kept.ensures c.requires.receiver.in_tree can here in
    let away = joins_away from into q.loc i apart in
    let moved = agree t from into i q b there can c.site_is_kept.ensures.kept c.requires.in_tree
    c.tree_is_kept.ensures number c.rehost.new.self c.rehost.ensures.tree in
    let there_too = subst (λ (l : Loc). AgreeBut l t c.rehost.new.self)
    (sym (ap (λ (load : Load). load.loc) same)) moved in
    let rootless = no_root t from into i q b there can c.site_is_kept.ensures.kept
    c.requires.in_tree c.tree_is_kept.ensures number c.rehost.new.self c.rehost.ensures.tree in
    let drawn = comes_drawn from into q.loc i q (λ _. q.loc) there apart
    c.site_is_kept.ensures.once c.site_is_kept-2.ensures.once in
    let fits =
    subst (λ (load : Load). FitsInto c.args.code.now c.rehost.new.self load into) (sym same)
    (comes_fit t from into i q b there can
    c.site_is_kept.ensures.kept c.requires.in_tree c.tree_is_kept.ensures number
    c.rehost.new.self c.rehost.ensures.tree c.args.code.now c.requires.in_code drawn) in
    let named =
    (goal_stands t from i q b k c.requires.in_tree there c.goal_of-cont.ensures.asks).1 in
    record {
      ok = move_between c.args.code.now.seen t from into i q b k there
          c.goal_of-cont.ensures.asks number c.rehost.new.self c.rehost.ensures.tree
          c.remove.new.self c.arrive.new.into c.remove.ensures.is c.in_ok-effects.effects
          c.site_is_kept.ensures.kept c.site_is_kept-2.ensures.kept away answers;
      one_event = λ rules_of. one_move_between c.args.code.now.seen t from into i q b k there
          c.goal_of-cont.ensures.asks number c.rehost.new.self c.rehost.ensures.tree
          c.remove.new.self c.arrive.new.into c.remove.ensures.is c.in_ok-effects.effects
          c.site_is_kept.ensures.kept c.site_is_kept-2.ensures.kept away answers rules_of
          c.requires.in_tree;
      fit = record {
        from = c.remove.ensures.keeps c.args.code.now t c.rehost.new.self moved rootless;
        into = c.in_ok-effects.ensures.keeps t c.rehost.new.self there_too fits
            (name_there t c.rehost.new.self moved.there k named)
            c.requires.receiver.in_tree c.requires.receiver.in_code c.requires.receiver.draws;
        others =
            others_keep t from into i q b there can c.site_is_kept.ensures.kept c.requires.in_tree
            c.tree_is_kept.ensures number c.rehost.new.self c.rehost.ensures.tree;
      };
      err_from = tt;
      err_into = tt;
      err_tree = tt;
    }
