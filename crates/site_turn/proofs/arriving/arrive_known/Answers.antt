use Rattle.chem_model.specs.Each.{Each}
use Rattle.reducer.proofs.Reactions.{if_ok}
use Rattle.site_turn.specs.Mail.{IsMessageFlight}
use Rattle.site_turn.specs.Arriving.{HasCome, all_come}
use Rattle.site_turn.proofs.Coming.{are_message_flights}
use Rattle.site_turn.proofs.arriving.arrive_known.Goals as goal

pub returns-clause-spelled : goal.returns-clause-spelled
returns-clause-spelled c =
    let t = c.args.tree.now in
    let s = c.args.site.now in
    if_ok (HasCome t s c.as_slice.result.now c.work_off.new.site) (Each IsMessageFlight)
    c.work_off.result (λ on h. are_message_flights (all_come t h.msgs s).on on h.flights)
    c.work_off.ensures.ok
