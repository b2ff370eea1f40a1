use Rattle.std.proofs.Common.{◌≡◌, ◌∙◌, ◌<◌, length, subst, sym, ap}
use Rattle.std.proofs.lemmas.Option.{slice_get_within}
use Rattle.chem_model.specs.Each.{Each}
use Rattle.env_store.specs.declared.code.Guard.{Guard}
use Rattle.site_solution.specs.Held.{queues_of, taken_at}
use Rattle.reducer.proofs.Levels.{guard_same, told_as, level_at}
use Rattle.reducer.proofs.Guards.{chans_below}
use Rattle.site_turn.proofs.picks.drop_taken.Goals as goal

pub guard_at-guard-requires : goal.guard_at-guard-requires
guard_at-guard-requires c = slice_get_within c.args.code.now.guards c.args.pick.now.guard
    c.requires.pick.0.guard c.requires.pick.1.guard

pub drop_fronts-requires-clause-group : goal.drop_fronts-requires-clause-group
drop_fronts-requires-clause-group c = slice_get_within c.args.site.now.groups c.args.pick.now.group
    c.requires.pick.0.group c.requires.pick.1.group

pub drop_fronts-requires-clause-chans : goal.drop_fronts-requires-clause-chans
drop_fronts-requires-clause-chans c =
    let s = c.args.site.now in
    let x = c.requires.pick.0 in
    let picks = c.requires.pick.1 in
    let same = guard_same c.args.code.now s c.args.pick.now x c.guard_at-guard.result.now picks
    c.guard_at-guard.ensures.at in
    let chans : x.guard.chans ≡ c.as_slice.result.now =
    ap (λ (u : Guard). u.chans) same ∙ sym c.as_slice.ensures.members in
    let told =
    told_as c.args.code.now s c.args.pick.now x picks (level_at c.args.code.now c.args.tree.now s
    c.args.pick.now.group x.group c.requires.act.in_code picks.group) in
    subst (Each (λ i. i < length (queues_of s.groups c.args.pick.now.group))) chans
    (chans_below c.args.code.now s c.args.pick.now x
    c.guard_at-guard.ensures.is c.site_is_kept.ensures.kept picks told)

pub returns : goal.returns
returns c = λ y picks.
    let s = c.args.site.now in
    let same = guard_same c.args.code.now s c.args.pick.now y c.guard_at-guard.result.now picks
    c.guard_at-guard.ensures.at in
    let chans : c.as_slice.result.now ≡ y.guard.chans =
    c.as_slice.ensures.members ∙ ap (λ (u : Guard). u.chans) (sym same) in
    c.drop_fronts.ensures ∙ ap (λ cs. taken_at c.args.pick.now.group cs s) chans
