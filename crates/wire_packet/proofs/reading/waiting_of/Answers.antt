use Rattle.std.proofs.Common.{◌≡◌, ◌∙◌, sym, true}
use Rattle.std.specs.Prelude.{not}
use Rattle.std.proofs.lemmas.Result.{err_from_is_err_and}
use Rattle.wire_packet.specs.inside.Ids.{holds}
use Rattle.wire_packet.specs.Packets.{waits}
use Rattle.wire_packet.proofs.reading.waiting_of.Goals as goal

pub returns-in_err-on-clause-reads : goal.returns-in_err-on-clause-reads
returns-in_err-on-clause-reads c =
    let p =
    err_from_is_err_and c.from_residual-in_err-on.result c.from_residual-in_err-on.ensures.1 in
    let new : not (holds c.args.ids.now c.in_ok-site.site c.in_ok-k.k) ≡ true =
    sym c.in_ok-add.ensures.new ∙ c.if-not-branch.false in
    rw (p.1, p.2) (λ next. rw (c.in_ok-site.ensures, c.in_ok-k.ensures, new)
    (c.in_err-on.ensures.reads (waits c.args.loc c.in_ok-site.site c.in_ok-k.k next)))

pub returns-clause-reads : goal.returns-clause-reads
returns-clause-reads c =
    let new : not (holds c.args.ids.now c.in_ok-site.site c.in_ok-k.k) ≡ true =
    sym c.in_ok-add.ensures.new ∙ c.if-not-branch.false in
    λ next. rw (c.in_ok-site.ensures, c.in_ok-k.ensures, new)
    (c.in_ok-on.ensures.reads (waits c.args.loc c.in_ok-site.site c.in_ok-k.k next))
