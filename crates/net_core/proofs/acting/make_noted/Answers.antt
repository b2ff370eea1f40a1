use Rattle.std.proofs.Common.{◌≡◌, ◌+◌, ℕ, ap, subst, refl}
use Rattle.net_core.specs.declared.choice.Choice.{Choice}
use Rattle.net_core.specs.Choosing.{Allows}
use Rattle.net_core.specs.Making.{counted}
use Rattle.net_core.specs.Parts.{net_of}
use Rattle.net_core.specs.Whole.{IsNetWhole}
use Rattle.net_core.specs.inside.Runs.{spread}
use Rattle.net_core.proofs.Done.{may_deliver}
use Rattle.net_core.proofs.Fitting.{on_err}
use Rattle.net_core.proofs.Noted.{before_is, more_is, made_noted, noted_whole, unmade_whole}
use Rattle.net_core.proofs.acting.make_noted.Goals as goal

pub returns-in_err-reserve-clause-err : goal.returns-in_err-reserve-clause-err
returns-in_err-reserve-clause-err c = on_err
    ((events : ℕ) → IsNetWhole c.args.code.now c.args.parts.now c.args.senders.now.items events
    → IsNetWhole c.args.code.now c.args.parts.now c.reserve.new.self.items events)
    c.from_residual.result
    (λ events whole.
    unmade_whole c.args.code.now c.args.parts.now c.args.parts.now c.args.senders.now.items
    c.reserve.new.self.items events c.in_err-reserve.ensures.items refl (λ h. h) whole)

pub returns-in_err-reserve-clause-same_senders : goal.returns-in_err-reserve-clause-same_senders
returns-in_err-reserve-clause-same_senders c =
    on_err (spread c.reserve.new.self.items ≡ spread c.args.senders.now.items)
    c.from_residual.result (ap spread c.in_err-reserve.ensures.items)

pub returns-in_err-sender-clause-err : goal.returns-in_err-sender-clause-err
returns-in_err-sender-clause-err c = on_err
    ((events : ℕ) → IsNetWhole c.args.code.now c.args.parts.now c.args.senders.now.items events
    → IsNetWhole c.args.code.now c.make.new.parts c.reserve.new.self.items events)
    c.from_residual-in_err-sender.result
    (λ events whole. unmade_whole c.args.code.now c.args.parts.now c.make.new.parts
    c.args.senders.now.items c.reserve.new.self.items events c.in_ok-reserve.ensures.items
    c.in_err-sender.ensures.same (λ h. c.in_err-sender.ensures.err events h) whole)

pub returns-in_err-sender-clause-same_senders : goal.returns-in_err-sender-clause-same_senders
returns-in_err-sender-clause-same_senders c =
    on_err (spread c.reserve.new.self.items ≡ spread c.args.senders.now.items)
    c.from_residual-in_err-sender.result (ap spread c.in_ok-reserve.ensures.items)

pub note-requires-clause-before : goal.note-requires-clause-before
note-requires-clause-before c =
    let code = c.args.code.now in
    let events = c.requires.whole.0 in
    let whole = c.requires.whole.2 in
    before_is code c.args.parts.now c.make.new.parts c.args.choice.now c.in_ok-sender.event events
    (events + counted c.in_ok-sender.event)
    whole.whole (c.in_ok-sender.ensures.whole events c.requires.whole.1 whole.whole)
    c.in_ok-sender.ensures.acts c.args.senders.now.items c.reserve.new.self.items
    c.in_ok-reserve.ensures.items whole.sent

pub note-requires-clause-there : goal.note-requires-clause-there
note-requires-clause-there c =
    λ f is. may_deliver c.args.code.now c.args.parts.now f c.requires.whole.2.whole.flying
    (subst (λ (x : Choice). Allows c.args.code.now (net_of c.args.code.now.seen c.args.parts.now) x)
    is c.requires.allowed)

pub note-requires-clause-more : goal.note-requires-clause-more
note-requires-clause-more c =
    let code = c.args.code.now in
    let events = c.requires.whole.0 in
    let whole = c.requires.whole.2 in
    more_is code c.args.parts.now c.make.new.parts c.args.choice.now c.in_ok-sender.event events
    (events + counted c.in_ok-sender.event)
    whole.whole (c.in_ok-sender.ensures.whole events c.requires.whole.1 whole.whole)
    c.in_ok-sender.ensures.acts c.args.senders.now.items c.reserve.new.self.items
    c.in_ok-reserve.ensures.items whole.sent

pub returns-clause-made : goal.returns-clause-made
returns-clause-made c =
    let code = c.args.code.now in
    let events = c.requires.whole.0 in
    let whole = c.requires.whole.2 in
    made_noted code c.args.parts.now c.make.new.parts c.args.choice.now c.in_ok-sender.event events
    (events + counted c.in_ok-sender.event)
    whole.whole (c.in_ok-sender.ensures.whole events c.requires.whole.1 whole.whole)
    c.in_ok-sender.ensures.acts c.args.senders.now.items c.reserve.new.self.items
    c.in_ok-reserve.ensures.items whole.sent c.in_ok-sender.sender c.in_ok-sender.ensures.sent_by
    c.note.new.runs.items c.note.ensures

pub returns-clause-whole : goal.returns-clause-whole
returns-clause-whole c = λ events few whole.
    noted_whole c.args.code.now c.args.parts.now c.make.new.parts c.args.choice.now
    c.in_ok-sender.event events (events + counted c.in_ok-sender.event)
    whole.whole (c.in_ok-sender.ensures.whole events few whole.whole)
    c.in_ok-sender.ensures.acts c.args.senders.now.items c.reserve.new.self.items
    c.in_ok-reserve.ensures.items whole.sent c.in_ok-sender.sender c.in_ok-sender.ensures.sent_by
    c.note.new.runs.items c.note.ensures
