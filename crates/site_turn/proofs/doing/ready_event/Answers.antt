use Rattle.std.proofs.Common.{sym, subst}
use Rattle.site_turn.specs.declared.next.Chosen.{Chosen}
use Rattle.site_turn.specs.declared.next.Chosen.TheVariants as choice
use Rattle.site_turn.specs.Next.{MayMake}
use Rattle.site_turn.specs.After.{IsEventOf}
use Rattle.site_turn.proofs.Asking.{is_asked, ask_event}
use Rattle.site_turn.proofs.doing.ready_event.Goals as goal

pub asked-request-requires : goal.asked-request-requires
asked-request-requires c =
    let may : MayMake c.args.code.now c.args.tree.now c.args.site.now (choice.Ask c.in-Ask.atom) =
    subst (λ (x : Chosen). MayMake c.args.code.now c.args.tree.now c.args.site.now x) c.in-Ask.is
    c.requires in
    is_asked c.args.tree.now c.args.site.now c.in-Ask.atom may.1

pub returns-in-Ask-clause-event : goal.returns-in-Ask-clause-event
returns-in-Ask-clause-event c =
    let k = c.args.code.now in
    let t = c.args.tree.now in
    let s = c.args.site.now in
    let a = c.in-Ask.atom in
    let may : MayMake k t s (choice.Ask a) =
    subst (λ (x : Chosen). MayMake k t s x) c.in-Ask.is c.requires in
    subst (λ (x : Chosen). IsEventOf k s x c.event_for.result) (sym c.in-Ask.is)
    (ask_event t s a may.1 c.asked-request.result c.asked-request.ensures k c.event_for.result
    c.event_for.ensures)
