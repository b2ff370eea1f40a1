use Rattle.std.proofs.Common.{refl, sym, subst}
use Rattle.std.specs.Prelude.{IfOk}
use Rattle.chem_model.specs.Each.{Each}
use Rattle.site_solution.specs.declared.effects.Effects.{Effects}
use Rattle.reducer.specs.Picks.{Picked, Picks}
use Rattle.reducer.specs.Reacted.{Reacts}
use Rattle.reducer.proofs.Reactions.{if_ok}
use Rattle.site_turn.specs.declared.turn.Turn.{Turn}
use Rattle.site_turn.specs.Mail.{IsMessageFlight}
use Rattle.site_turn.specs.After.{AfterPick, StaysFitAt}
use Rattle.site_turn.proofs.Acting.{reacts_sent, none_sent, idle_pick, idle_fit}
use Rattle.site_turn.proofs.picks.after_pick.Goals as goal

pub returns-in-Did-clause-after : goal.returns-in-Did-clause-after
returns-in-Did-clause-after c =
    let t = c.args.tree.now in
    let s = c.args.site.now in
    let p = c.args.pick.now in
    subst
    (λ (turn : Turn). IfOk c.react.result (AfterPick c.args.code.now t s p turn c.react.new.site))
    (sym c.in-Did.is) c.react.ensures.ok

pub returns-in-Did-clause-sends : goal.returns-in-Did-clause-sends
returns-in-Did-clause-sends c =
    let t = c.args.tree.now in
    let s = c.args.site.now in
    let p = c.args.pick.now in
    let new = c.react.new.site in
    if_ok (λ (e : Effects).
    (x : Picked) → Picks c.args.code.now s p x → Reacts c.args.code.now t s p x new e)
    (λ (e : Effects). Each IsMessageFlight e.sends) c.react.result
    (λ e f. reacts_sent c.args.code.now t s p c.requires.fires.0 new e
    (f c.requires.fires.0 c.requires.fires.1.covers.picks))
    c.react.ensures.ok

pub drop_taken-requires-clause-pick : goal.drop_taken-requires-clause-pick
drop_taken-requires-clause-pick c = (c.requires.fires.0, c.requires.fires.1.covers.picks)

pub returns-in-NotEnabled-clause-after : goal.returns-in-NotEnabled-clause-after
returns-in-NotEnabled-clause-after c =
    let t = c.args.tree.now in
    let s = c.args.site.now in
    let p = c.args.pick.now in
    subst (λ (turn : Turn).
    AfterPick c.args.code.now t s p turn c.drop_taken.new.site c.no_effects.result)
    (sym c.in-NotEnabled.is)
    (λ x picks. record { site = c.drop_taken.ensures x picks; none = c.no_effects.ensures })

pub returns-in-NotEnabled-clause-sends : goal.returns-in-NotEnabled-clause-sends
returns-in-NotEnabled-clause-sends c = none_sent c.no_effects.result c.no_effects.ensures

pub returns-in-Passed-clause-after : goal.returns-in-Passed-clause-after
returns-in-Passed-clause-after c =
    idle_pick c.args.code.now c.args.tree.now c.args.site.now c.args.pick.now c.args.site.now
    c.no_effects-in-Passed.result c.args.turn c.in-Passed.is
    (record { site = refl; none = c.no_effects-in-Passed.ensures })

pub returns-in-Passed-clause-sends : goal.returns-in-Passed-clause-sends
returns-in-Passed-clause-sends c =
    none_sent c.no_effects-in-Passed.result c.no_effects-in-Passed.ensures

pub returns-in-Did-clause-fit : goal.returns-in-Did-clause-fit
returns-in-Did-clause-fit c =
    subst (λ (turn : Turn). IfOk c.react.result
    (StaysFitAt c.args.code.now c.args.tree.now c.args.site.now.number turn c.react.new.site))
    (sym c.in-Did.is) c.react.ensures.fit

pub returns-in-NotEnabled-clause-fit : goal.returns-in-NotEnabled-clause-fit
returns-in-NotEnabled-clause-fit c =
    subst (λ (turn : Turn). StaysFitAt c.args.code.now c.args.tree.now c.args.site.now.number turn
    c.drop_taken.new.site c.no_effects.result) (sym c.in-NotEnabled.is) tt

pub returns-in-Passed-clause-fit : goal.returns-in-Passed-clause-fit
returns-in-Passed-clause-fit c = idle_fit c.args.code.now c.args.tree.now c.args.site.now.number
    c.args.site.now c.no_effects-in-Passed.result c.args.turn c.in-Passed.is
