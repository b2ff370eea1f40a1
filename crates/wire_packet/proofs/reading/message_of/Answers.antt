use Rattle.std.proofs.Common.{◌∙◌, ℕ, None}
use Rattle.std.proofs.lemmas.Result.{err_from_is_err_and}
use Rattle.wire_packet.specs.Packets.{made, message_after}
use Rattle.wire_packet.proofs.Loop.{fails_behind}
use Rattle.wire_packet.proofs.reading.message_of.Goals as goal

pub returns-in_err-site : goal.returns-in_err-site
returns-in_err-site c =
    let p = err_from_is_err_and c.from_residual.result c.from_residual.ensures.1 in
    rw (p.1, p.2)
    (λ next. c.in_err-site.ensures (λ (p : ℕ × ℕ). message_after None (λ b. next (made p.0 p.1 b))))

pub returns-in_err-on : goal.returns-in_err-on
returns-in_err-on c =
    let p =
    err_from_is_err_and c.from_residual-in_err-on.result c.from_residual-in_err-on.ensures.1 in
    rw (p.1, p.2) (λ next. fails_behind _ _ _
    (c.in_ok-site.ensures (λ (p : ℕ × ℕ). message_after None (λ b. next (made p.0 p.1 b))))
    (c.in_err-on.ensures.reads (λ b. next (made c.in_ok-site.site c.in_ok-site.k b))))

pub returns : goal.returns
returns c =
    λ next. c.in_ok-site.ensures (λ (p : ℕ × ℕ). message_after None (λ b. next (made p.0 p.1 b)))
    ∙ c.in_ok-on.ensures.reads (λ b. next (made c.in_ok-site.site c.in_ok-site.k b))
