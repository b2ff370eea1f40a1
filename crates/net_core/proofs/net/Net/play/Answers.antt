use Rattle.std.proofs.Common.{◌≡◌, ◌∙◌, [], arith, refl, sym, subst, drop, length, true, false}
use Rattle.std.specs.Prelude.{is_err}
use Rattle.net_core.specs.declared.plays.PlayStop.{PlayStop}
use Rattle.net_core.specs.Played.{Stops}
use Rattle.net_core.proofs.ListsMade.{on_err, on_ok, none_played, all_played, stuck_at, going_at}
use Rattle.net_core.proofs.ListsMade.{more_at, same_played, same_goes, none_left}
use Rattle.net_core.proofs.net.Net.play.Goals as goal

pub loop-at-init : goal.loop-at-init
loop-at-init c =
    same_played c.args.self.now c.args.choices.now 0 [] c.new-events.result.items c.args.self.now
    c.args.self.now refl c.new-events.ensures.items (none_played c.args.self.now c.args.choices.now)

pub ended-requires : goal.ended-requires
ended-requires c = let few = c.loop-at.invariant.few in omega arith

pub returns-then-not-enabled : goal.returns-then-not-enabled
returns-then-not-enabled c =
    let old = c.args.self.now in
    let xs = c.args.choices.now in
    let n = c.loop-at.at in
    let new = c.loop-at.self in
    let stuck = stuck_at old xs n _ new
    c.enabled.result c.loop-at-test.true c.enabled.ensures c.if-not-enabled.true in
    all_played old xs n c.loop-at.events.items new c.ended.result c.code_is_kept.ensures
    (omega arith) c.loop-at.invariant c.ended.ensures.events c.ended.ensures.done
    (subst (λ (k : PlayStop). Stops k new.code new.net (drop n xs)) (sym c.ended.ensures.stop)
    stuck)

pub returns-then-is_err : goal.returns-then-is_err
returns-then-is_err c =
    let old = c.args.self.now in
    let xs = c.args.choices.now in
    let n = c.loop-at.at in
    let mid = c.loop-at.self in
    let new = c.make.new.net in
    let fails : is_err c.make.result ≡ true = sym c.is_err.ensures.value ∙ c.if-is_err.true in
    let same = on_err c.make.result fails c.make.ensures.err_net in
    let events = on_err c.make.result fails c.make.ensures.err_events in
    let playing = same_played old xs n c.loop-at.events.items c.make.new.events.items mid new same
    events c.loop-at.invariant in
    let goes = same_goes old xs n mid new same (going_at old xs n _ mid
    c.enabled.result c.loop-at-test.true c.enabled.ensures c.if-not-enabled.false) in
    let p = c.ended-then-is_err in
    all_played old xs n c.make.new.events.items new p.result c.code_is_kept.ensures (omega arith)
    playing p.ensures.events p.ensures.done
    (subst (λ (k : PlayStop). Stops k new.code new.net (drop n xs)) (sym p.ensures.stop) goes)

pub loop-at-preserved : goal.loop-at-preserved
loop-at-preserved c =
    let fine : is_err c.make.result ≡ false = sym c.is_err.ensures.value ∙ c.if-is_err.false in
    more_at c.args.self.now c.args.choices.now c.loop-at.at _
    c.loop-at.events.items c.make.new.events.items c.loop-at.self c.make.new.net c.loop-at-test.true
    c.loop-at.invariant (on_ok c.make.result fine c.make.ensures.ok)

pub returns : goal.returns
returns c =
    let old = c.args.self.now in
    let xs = c.args.choices.now in
    let n = c.loop-at.at in
    let new = c.loop-at.self in
    let all : n ≡ length xs = omega arith in
    all_played old xs n c.loop-at.events.items new c.ended-2.result c.code_is_kept.ensures
    (omega arith) c.loop-at.invariant c.ended-2.ensures.events (c.ended-2.ensures.done ∙ sym all)
    (subst (λ (k : PlayStop). Stops k new.code new.net (drop n xs)) (sym c.ended-2.ensures.stop)
    (none_left old xs n (omega arith)))
