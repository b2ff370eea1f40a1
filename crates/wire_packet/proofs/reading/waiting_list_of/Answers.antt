use Rattle.std.proofs.Common.{◌≡◌, ℕ, ◌-◌, ◌∙◌, refl, sym, ap, subst, Bool, arith}
use Rattle.std.specs.Prelude.{◌||◌, ◌&&◌, ◌==◌}
use Rattle.std.proofs.lemmas.Result.{err_from_is_err_and}
use Rattle.wire_packet.specs.declared.parcel.Packet.{Packet}
use Rattle.wire_packet.specs.declared.packet.Waiting.{Waiting}
use Rattle.wire_packet.specs.Format.{Format}
use Rattle.wire_packet.specs.Packets.{waiting_member, one_waiting}
use Rattle.wire_packet.specs.Reading.{read}
use Rattle.wire_packet.specs.inside.Reading.{FailsAs}
use Rattle.wire_packet.proofs.Same.{has_more, same_test}
use Rattle.wire_packet.proofs.Loop.{steps, ends, is_done}
use Rattle.wire_packet.proofs.reading.waiting_list_of.Goals as goal

pub loop-init : goal.loop-init
loop-init c =
    let all : c.args.count - 0 ≡ c.args.count = omega arith in
    rw c.new-waiting.ensures (λ next. rw all refl, λ s k. c.new-ids.ensures s k)

pub returns-in_err-one-clause-reads : goal.returns-in_err-one-clause-reads
returns-in_err-one-clause-reads c =
    let p = err_from_is_err_and c.from_residual.result c.from_residual.ensures.1 in
    let P : (ℕ → ℕ → Bool) → Type 0 =
    λ may. (follows : Waiting → Format Packet)
    → FailsAs c.in_err-one.field-0.0 (read (one_waiting c.args.loc may follows) c.loop.rest.now) in
    let fails =
    subst P (same_test c.loop.ids c.loop.waiting c.loop.invariant.1) c.in_err-one.ensures.reads in
    rw (p.1, p.2)
    (λ next. rw (c.loop.invariant.0 next) (ends (waiting_member c.args.loc) c.loop.waiting
    c.args.count c.loop.counter c.loop.rest.now c.in_err-one.field-0.0 next c.loop-test.true fails))

pub loop-preserved : goal.loop-preserved
loop-preserved c =
    let P : (ℕ → ℕ → Bool) → Type 0 =
    λ may. (follows : Waiting → Format Packet)
    → read (one_waiting c.args.loc may follows) c.loop.rest.now
    ≡ read (follows c.in_ok-one.one) c.in_ok-one.after.now in
    let reads =
    subst P (same_test c.loop.ids c.loop.waiting c.loop.invariant.1) c.in_ok-one.ensures.reads in
    rw c.in_ok-push.ensures.ok (
      λ next. c.loop.invariant.0 next
          ∙ steps (waiting_member c.args.loc) c.loop.waiting c.args.count c.loop.counter
          c.loop.rest.now c.in_ok-one.after.now c.in_ok-one.one next c.loop-test.true reads,
      λ s k. c.in_ok-one.ensures.ids s k
          ∙ ap (λ (x : Bool).
          ((s == c.in_ok-one.one.msg.id.site) && (k == c.in_ok-one.one.msg.id.k)) || x)
          (c.loop.invariant.1 s k) ∙ sym (has_more s k c.loop.waiting c.in_ok-one.one),
    )

pub returns-clause-reads : goal.returns-clause-reads
returns-clause-reads c = λ next. c.loop.invariant.0 next
    ∙ is_done (waiting_member c.args.loc)
    c.loop.waiting c.args.count c.loop.counter c.loop.rest.now next c.loop-test.false

pub returns-clause-ids : goal.returns-clause-ids
returns-clause-ids c = c.loop.invariant.1
