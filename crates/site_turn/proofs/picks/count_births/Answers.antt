use Rattle.std.proofs.Common.{◌≡◌, ◌∙◌, ◌<◌, ◌++◌, List, Some, length, subst, sym, ap}
use Rattle.chem_model.specs.declared.name.Name.{Name}
use Rattle.chem_model.specs.Each.{Each}
use Rattle.env_store.specs.declared.code.Guard.{Guard}
use Rattle.env_store.specs.CodeFacts.{IsBodyAt}
use Rattle.env_store.specs.Running.{Ran, code_made}
use Rattle.code_run.specs.declared.made.Run.{Run}
use Rattle.chem_laws.proofs.Lists.{Each-append}
use Rattle.wire_packet.specs.GroupFacts.{GroupParts}
use Rattle.wire_packet.specs.Operations.{IsPlain}
use Rattle.net_laws.specs.ByCode.{args_of}
use Rattle.site_solution.specs.Held.{queues_of}
use Rattle.reducer.proofs.Levels.{guard_same, told_as, level_at}
use Rattle.reducer.specs.Fronts.{taken_by}
use Rattle.reducer.specs.Reacting.{ran_by}
use Rattle.reducer.proofs.Guards.{chans_below, inst_same}
use Rattle.reducer.proofs.Reactions.{IsRead, env_of, body_runs}
use Rattle.site_turn.proofs.picks.count_births.Goals as goal

pub front_args-requires-clause-chans : goal.front_args-requires-clause-chans
front_args-requires-clause-chans c =
    let s = c.args.site.now in
    let x = c.requires.fires.0 in
    let picks = c.requires.fires.1.covers.picks in
    let same = guard_same c.args.code.now s c.args.pick.now x c.guard_at-guard.result.now picks
    c.guard_at-guard.ensures.at in
    let chans : x.guard.chans ≡ c.as_slice-chans.result.now =
    ap (λ (u : Guard). u.chans) same ∙ sym c.as_slice-chans.ensures.members in
    let told =
    told_as c.args.code.now s c.args.pick.now x picks (level_at c.args.code.now c.args.tree.now s
    c.args.pick.now.group x.group c.requires.act.in_code picks.group) in
    subst (Each (λ i. i < length (queues_of s.groups c.args.pick.now.group))) chans
    (chans_below c.args.code.now s c.args.pick.now x
    c.guard_at-guard.ensures.is c.site_is_kept.ensures.kept picks told)

pub run-requires-clause-body : goal.run-requires-clause-body
run-requires-clause-body c =
    let s = c.args.site.now in
    let x = c.requires.fires.0 in
    let covers = c.requires.fires.1.covers in
    let read : IsRead c.args.code.now s c.args.pick.now c.guard_at-guard.result.now (record {
      loc = c.inst.inside.loc;
      level = c.inst.inside.level;
      chans = c.inst.inside.chans;
      rules = c.inst.inside.rules;
      env = c.inst.inside.env;
    }) c.as_slice-chans.result.now c.in_ok-received.received c.in_ok-env.env = record {
      guard = c.guard_at-guard.ensures.at;
      inst = (c.group-inst.ensures ∙ ap (λ (g : GroupParts). Some g) (sym c.inst.view_is));
      chans = c.as_slice-chans.ensures.members;
      args_are = c.in_ok-received.ensures.args;
      env_is = c.in_ok-env.ensures
          ∙ ap (λ (ns : List Name). ns ++ c.in_ok-received.received) c.names.ensures;
    } in
    let env = env_of c.args.code.now s c.args.pick.now x c.guard_at-guard.result.now (record {
      loc = c.inst.inside.loc;
      level = c.inst.inside.level;
      chans = c.inst.inside.chans;
      rules = c.inst.inside.rules;
      env = c.inst.inside.env;
    }) c.as_slice-chans.result.now c.in_ok-received.received c.in_ok-env.env covers.picks read in
    let guard = guard_same c.args.code.now s c.args.pick.now x
    c.guard_at-guard.result.now covers.picks c.guard_at-guard.ensures.at in
    let runs = body_runs c.args.code.now c.args.tree.now s c.args.pick.now x
    c.guard_at-guard.ensures.is c.site_is_kept.ensures.kept c.requires.act.in_code covers in
    subst (λ (u : Guard). IsBodyAt c.args.code.now (length c.in_ok-env.env) u.body) guard
    (subst (λ ns. IsBodyAt c.args.code.now (length ns) x.guard.body) (sym env) runs)

pub run-requires-clause-env : goal.run-requires-clause-env
run-requires-clause-env c = subst (Each IsPlain) (sym (c.in_ok-env.ensures
    ∙ ap (λ (ns : List Name). ns ++ c.in_ok-received.received) c.names.ensures))
    (Each-append IsPlain c.inst.inside.env c.in_ok-received.received c.inst.invariant
    c.in_ok-received.ensures.plain)

pub returns : goal.returns
returns c = λ y picks.
    let code = c.args.code.now in
    let s = c.args.site.now in
    let p = c.args.pick.now in
    let u = c.guard_at-guard.result.now in
    let g : GroupParts = (record {
      loc = c.inst.inside.loc;
      level = c.inst.inside.level;
      chans = c.inst.inside.chans;
      rules = c.inst.inside.rules;
      env = c.inst.inside.env;
    }) in
    let names = c.in_ok-env.env in
    let read : IsRead code s p u g c.as_slice-chans.result.now c.in_ok-received.received names =
    record {
      guard = c.guard_at-guard.ensures.at;
      inst = (c.group-inst.ensures ∙ ap (λ (g : GroupParts). Some g) (sym c.inst.view_is));
      chans = c.as_slice-chans.ensures.members;
      args_are = c.in_ok-received.ensures.args;
      env_is = c.in_ok-env.ensures
          ∙ ap (λ (ns : List Name). ns ++ c.in_ok-received.received) c.names.ensures;
    } in
    let env =
    env_of code s p y u g c.as_slice-chans.result.now c.in_ok-received.received names picks read in
    let guard = guard_same code s p y u picks c.guard_at-guard.ensures.at in
    let inst = inst_same s.groups p.group g y.group
    (c.group-inst.ensures ∙ ap (λ (g : GroupParts). Some g) (sym c.inst.view_is)) picks.group in
    let own : code_made code c.number.result u.body names g.loc c.made.result ≡ ran_by code s y =
    ap (λ k. code_made code k u.body names g.loc c.made.result) c.number.ensures
    ∙ ap (λ k. code_made code s.number u.body names g.loc k) c.made.ensures
    ∙ ap (λ (v : Guard). code_made code s.number v.body names g.loc s.made) (sym guard)
    ∙ ap (λ (ns : List Name). code_made code s.number y.guard.body ns g.loc s.made) env
    ∙ ap (λ (h : GroupParts). code_made code
    s.number y.guard.body (y.group.told.inst.env ++ args_of (taken_by y)) h.loc s.made) inst in
    c.len.ensures.count ∙ ap (λ (r : Run). length r.births) c.in_ok-made.ensures.run
    ∙ ap (λ (a : Ran). length a.births) own
