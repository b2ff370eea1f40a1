use Rattle.std.proofs.Common.{◌≡◌, List, sym, ap, subst}
use Rattle.chem_model.specs.declared.name.Loc.{Loc}
use Rattle.loc_tree.specs.Tree.{bare}
use Rattle.net_laws.specs.Site.{Site}
use Rattle.net_core.specs.declared.choice.Choice.TheVariants as choice
use Rattle.net_core.specs.inside.AtSites.{HasGoal, MayGoAt}
use Rattle.net_core.specs.Parts.{net_of}
use Rattle.net_core.specs.Senders.{IsSentBy}
use Rattle.net_core.proofs.Doing.{has_goal, goal_sends}
use Rattle.net_core.proofs.acting.move_request.Goals as goal

pub goal_at-goal-requires : goal.goal_at-goal-requires
goal_at-goal-requires c =
    let g = has_goal c.args.parts.now.version c.args.parts.now.tree c.args.parts.now.sites.items
    c.args.number c.args.atom.now c.requires.may in (
      g.0,
      subst (λ (us : List Site). HasGoal us c.args.number c.args.atom.now g.0)
          (sym c.as_slice.ensures.value) g.1,
    )

pub move_into-requires-clause-goal : goal.move_into-requires-clause-goal
move_into-requires-clause-goal c =
    let g = has_goal c.args.parts.now.version c.args.parts.now.tree c.args.parts.now.sites.items
    c.args.number c.args.atom.now c.requires.may in
    let is : c.goal_at-goal.result ≡ g.0 =
    c.goal_at-goal.ensures g.0
    (subst (λ (us : List Site). HasGoal us c.args.number c.args.atom.now g.0)
    (sym c.as_slice.ensures.value) g.1) in
    (g.0, g.1, ap (λ (l : Loc). l.site) (sym is))

pub returns-clause-sent_by : goal.returns-clause-sent_by
returns-clause-sent_by c =
    let old = c.args.parts.now in
    let code = c.args.code.now in
    let running = c.requires.whole.1.running in
    let g =
    has_goal old.version old.tree old.sites.items c.args.number c.args.atom.now c.requires.may in
    let is : c.goal_at-goal.result ≡ g.0 =
    c.goal_at-goal.ensures g.0
    (subst (λ (us : List Site). HasGoal us c.args.number c.args.atom.now g.0)
    (sym c.as_slice.ensures.value) g.1) in
    let may : MayGoAt old.version (bare old.tree) old.sites.items c.args.number c.args.atom.now =
    record {
      site = c.requires.may.site;
      site_is = c.requires.may.site_is;
      can = c.requires.may.can;
    } in
    let by = goal_sends code running.code (net_of code.seen old)
    running.some c.args.number c.args.atom.now may g.0 g.1 in
    subst (λ (l : Loc). IsSentBy (net_of code.seen old) (choice.Move c.args.atom.now) l.site)
    (sym is) by
