use Rattle.std.proofs.Common.{◌≡◌, ◌∙◌, ◌<◌, length, subst, sym, ap}
use Rattle.chem_model.specs.Each.{Each}
use Rattle.env_store.specs.declared.code.Guard.{Guard}
use Rattle.site_solution.specs.Held.{queues_of}
use Rattle.reducer.proofs.Levels.{guard_same}
use Rattle.reducer.proofs.Guards.{chans_below}
use Rattle.reducer.proofs.naming.event_of.Goals as goal

pub front_ids-requires-clause-chans : goal.front_ids-requires-clause-chans
front_ids-requires-clause-chans c =
    let x = c.requires.covered.0 in
    let picks = c.requires.covered.1.picks in
    let same = guard_same c.args.code.now c.args.site.now c.args.pick.now x
    c.guard_at-guard.result.now picks c.guard_at-guard.ensures.at in
    let chans : x.guard.chans ≡ c.as_slice.result.now =
    ap (λ (u : Guard). u.chans) same ∙ sym c.as_slice.ensures.members in
    subst (Each (λ i. i < length (queues_of c.args.site.now.groups c.args.pick.now.group))) chans
    (chans_below c.args.code.now c.args.site.now c.args.pick.now x
    c.guard_at-guard.ensures.is c.site_is_kept.ensures.kept picks (c.requires.told x picks))
