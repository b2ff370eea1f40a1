use Rattle.std.proofs.Common.{ap, subst}
use Rattle.env_store.specs.CodeParts.{CodeParts}
use Rattle.site_solution.specs.declared.effects.Effects.{Effects}
use Rattle.reducer.proofs.Reactions.{if_ok}
use Rattle.site_turn.specs.declared.next.Chosen.TheVariants as choice
use Rattle.site_turn.specs.After.{FitsHere, AfterAsk, AfterChosen}
use Rattle.site_turn.proofs.Asking.{is_asked, own_here, own_met, ask_same, ask_does}
use Rattle.site_turn.proofs.asks.after_request.Goals as goal

pub asked-request-requires : goal.asked-request-requires
asked-request-requires c = is_asked c.args.tree.now c.args.site.now c.args.atom.now c.requires.met

pub after_ask-requires-clause-here : goal.after_ask-requires-clause-here
after_ask-requires-clause-here c = own_here c.args.tree.now c.args.site.now c.args.atom.now
    c.requires.met c.asked-request.result c.asked-request.ensures

pub after_ask-requires-clause-met : goal.after_ask-requires-clause-met
after_ask-requires-clause-met c = own_met c.args.tree.now c.args.site.now c.args.atom.now
    c.requires.met c.asked-request.result c.asked-request.ensures

pub after_ask-requires-clause-fits : goal.after_ask-requires-clause-fits
after_ask-requires-clause-fits c = λ place at.
    let e = c.requires.fits.0 in
    let is = ask_same c.args.tree.now c.args.site.now c.args.atom.now c.requires.met
    c.asked-request.result c.asked-request.ensures c.args.code.now e c.requires.fits.1 in
    subst (FitsHere c.args.site.now) is (c.requires.fits.2 place at)

pub returns-clause-after : goal.returns-clause-after
returns-clause-after c =
    let t = c.args.tree.now in
    let s = c.args.site.now in
    let a = c.args.atom.now in
    let q = c.asked-request.result in
    let u = c.after_ask.new.tree in
    let new = c.after_ask.new.site in
    if_ok
    (λ (e : Effects). AfterAsk c.args.turn q.ask c.code.inside.seen t s q.id u new e)
    (λ (e : Effects). AfterChosen c.args.code.now t s (choice.Ask a) c.args.turn u new e)
    c.after_ask.result
    (λ e h. ask_does t s a c.requires.met q c.asked-request.ensures c.args.turn c.code.inside.seen
    c.args.code.now.seen u new e (ap (λ (k : CodeParts). k.seen) c.code.view_is) h)
    c.after_ask.ensures.after
