use Rattle.std.proofs.Common.{◌≡◌, ℕ, ◌++◌, ◌-◌, ◌∷◌, ◌∙◌, [], replicate, refl, ap}
use Rattle.net_core.specs.inside.Runs.{spread}
use Rattle.net_core.specs.inside.Slots.{AreBack, froms_of}
use Rattle.net_core.proofs.Fitting.{on_ok}
use Rattle.net_core.proofs.SlotLists.{one_sent}
use Rattle.net_core.proofs.slots.take_noted.Goals as goal

pub returns-clause-back : goal.returns-clause-back
returns-clause-back c =
    let more = replicate (c.take_back.new.parts.under_way - c.args.parts.now.under_way)
    c.number-number.result in
    on_ok (spread c.push_run.new.runs.items ≡ spread c.args.senders.now.items ++ more)
    (AreBack (c.args.slot ∷ [])
    c.args.parts.now c.args.journal.now c.take_back.new.parts c.take_back.new.journal)
    c.push_run.result
    (λ sent. c.in_ok-take_back.ensures) c.push_run.ensures

pub returns-clause-sent : goal.returns-clause-sent
returns-clause-sent c =
    let old = c.args.parts.now in
    let new = c.take_back.new.parts in
    let count = new.under_way - old.under_way in
    let olds = spread c.args.senders.now.items in
    on_ok (spread c.push_run.new.runs.items ≡ olds ++ replicate count c.number-number.result)
    (spread c.push_run.new.runs.items ≡ olds ++ froms_of (c.args.slot ∷ [])) c.push_run.result
    (λ sent. one_sent c.args.slot old.under_way old.under_way new.under_way count olds
    (spread c.push_run.new.runs.items) refl c.in_ok-take_back.ensures.count refl
    (sent ∙ ap (λ (i : ℕ). olds ++ replicate count i) c.number-number.ensures)) c.push_run.ensures
