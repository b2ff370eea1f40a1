use Rattle.std.proofs.Common.{◌≡◌, true, sym, subst}
use Rattle.net_laws.specs.Net.{with_births}
use Rattle.loc_tree.specs.Tree.{Tree}
use Rattle.site_solution.specs.declared.effects.Effects.{Effects}
use Rattle.site_solution.specs.Staying.{CanAct}
use Rattle.reducer.proofs.Reactions.{if_ok, if_ok_both}
use Rattle.site_turn.specs.declared.next.Chosen.{Chosen}
use Rattle.site_turn.specs.declared.next.Chosen.TheVariants as choice
use Rattle.site_turn.specs.Next.{may_meet, MayMake}
use Rattle.site_turn.specs.After.{IsReadied, AfterPick, AfterChosen}
use Rattle.site_turn.proofs.Readied.{room_act, room_fire, room_few, pick_done, ask_done}
use Rattle.site_turn.proofs.doing.after_chosen.Goals as goal

pub after_wide_pick-requires-clause-act : goal.after_wide_pick-requires-clause-act
after_wide_pick-requires-clause-act c =
    let k = c.args.code.now in
    let s = c.args.site.now in
    let t = c.requires.ready.0 in
    let may = subst (λ (x : Chosen). MayMake k t s x) c.in-Pick.is c.requires.ready.1 in
    let room = subst (λ (x : Chosen). IsReadied k t s x c.args.tree.now) c.in-Pick.is
    c.requires.ready.2 in
    room_act k t s c.in-Pick.pick c.args.tree.now may room

pub after_wide_pick-requires-clause-fires : goal.after_wide_pick-requires-clause-fires
after_wide_pick-requires-clause-fires c =
    let k = c.args.code.now in
    let s = c.args.site.now in
    let t = c.requires.ready.0 in
    let may = subst (λ (x : Chosen). MayMake k t s x) c.in-Pick.is c.requires.ready.1 in
    let room = subst (λ (x : Chosen). IsReadied k t s x c.args.tree.now) c.in-Pick.is
    c.requires.ready.2 in
    room_fire k t s c.in-Pick.pick c.args.tree.now may room

pub after_wide_pick-requires-clause-room : goal.after_wide_pick-requires-clause-room
after_wide_pick-requires-clause-room c =
    let k = c.args.code.now in
    let s = c.args.site.now in
    let t = c.requires.ready.0 in
    let may = subst (λ (x : Chosen). MayMake k t s x) c.in-Pick.is c.requires.ready.1 in
    let room = subst (λ (x : Chosen). IsReadied k t s x c.args.tree.now) c.in-Pick.is
    c.requires.ready.2 in
    room_few k t s c.in-Pick.pick c.args.tree.now may room

pub returns-in-Pick-clause-after : goal.returns-in-Pick-clause-after
returns-in-Pick-clause-after c =
    let k = c.args.code.now in
    let s = c.args.site.now in
    let u = c.args.tree.now in
    let v = c.after_wide_pick.new.tree in
    let new = c.after_wide_pick.new.site in
    let p = c.in-Pick.pick in
    if_ok_both (λ (e : Effects). AfterPick k u s p c.args.turn new e)
    (λ (e : Effects). v ≡ with_births u s.number e.births)
    (λ (e : Effects). (t : Tree) → IsReadied k t s c.args.chosen.now u
    → AfterChosen k t s c.args.chosen.now c.args.turn v new e)
    c.after_wide_pick.result
    (λ e after born. pick_done k s c.args.chosen.now u v c.args.turn new e p c.in-Pick.is after
    born)
    c.after_wide_pick.ensures.after c.after_wide_pick.ensures.born

pub after_request-requires-clause-act : goal.after_request-requires-clause-act
after_request-requires-clause-act c =
    let k = c.args.code.now in
    let s = c.args.site.now in
    let t = c.requires.ready.0 in
    let a = c.in-Ask.atom in
    let may : MayMake k t s (choice.Ask a) =
    subst (λ (x : Chosen). MayMake k t s x) c.in-Ask.is c.requires.ready.1 in
    let same : c.args.tree.now ≡ t =
    subst (λ (x : Chosen). IsReadied k t s x c.args.tree.now) c.in-Ask.is c.requires.ready.2 in
    subst (λ (u : Tree). CanAct k u s) (sym same) may.0

pub after_request-requires-clause-met : goal.after_request-requires-clause-met
after_request-requires-clause-met c =
    let k = c.args.code.now in
    let s = c.args.site.now in
    let t = c.requires.ready.0 in
    let a = c.in-Ask.atom in
    let may : MayMake k t s (choice.Ask a) =
    subst (λ (x : Chosen). MayMake k t s x) c.in-Ask.is c.requires.ready.1 in
    let same : c.args.tree.now ≡ t =
    subst (λ (x : Chosen). IsReadied k t s x c.args.tree.now) c.in-Ask.is c.requires.ready.2 in
    subst (λ (u : Tree). may_meet 2 u s a ≡ true) (sym same) may.1

pub returns-in-Ask-clause-after : goal.returns-in-Ask-clause-after
returns-in-Ask-clause-after c =
    let k = c.args.code.now in
    let s = c.args.site.now in
    let u = c.args.tree.now in
    let v = c.after_request.new.tree in
    let new = c.after_request.new.site in
    let a = c.in-Ask.atom in
    if_ok (λ (e : Effects). AfterChosen k u s (choice.Ask a) c.args.turn v new e)
    (λ (e : Effects). (t : Tree) → IsReadied k t s c.args.chosen.now u
    → AfterChosen k t s c.args.chosen.now c.args.turn v new e)
    c.after_request.result
    (λ e after. ask_done k s c.args.chosen.now u v c.args.turn new e a c.in-Ask.is after)
    c.after_request.ensures.after
