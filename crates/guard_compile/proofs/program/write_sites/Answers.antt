use Rattle.std.proofs.Common.{◌+◌, ◌++◌, drop, ap, ◌∙◌, subst}
use Rattle.guard_compile.specs.Written.{write_sites}
use Rattle.guard_compile.specs.inside.Appends.{Appends}
use Rattle.guard_compile.proofs.Loops.{drop_at, drop_past, coding_none, coding_more, coded_piece}
use Rattle.guard_compile.proofs.Loops.{coded_sites}
use Rattle.guard_compile.proofs.program.write_sites.Goals as goal

pub loop-site-init : goal.loop-site-init
loop-site-init c =
    coding_none c.args.tops.now c.args.piece.now c.args.codes.now c.as_slice-site-items.result.now

pub loop-site-preserved : goal.loop-site-preserved
loop-site-preserved c =
    let items = c.as_slice-site-items.result.now in
    let i = c.loop-site.site-index in
    coding_more c.args.tops.now c.args.piece.now c.args.codes.now items
    c.loop-site.piece c.loop-site.codes (drop i items) (drop (i + 1) items)
    c.site-item.result c.write_site.new.piece c.in_ok-code.code c.push.new.self
    (drop_at items i c.site-item.result c.loop-site-test.true c.site-item.is) c.loop-site.invariant
    c.in_ok-code.ensures.piece c.in_ok-code.ensures.code c.in_ok-push.ensures.ok

pub returns-clause-piece : goal.returns-clause-piece
returns-clause-piece c =
    let items = c.as_slice-site-items.result.now in
    let i = c.loop-site.site-index in
    subst (λ ts. Appends c.args.piece.now c.loop-site.piece
    (write_sites c.args.tops.now c.args.piece.now.next ts).piece)
    c.as_slice-site-items.ensures.members
    (coded_piece c.args.tops.now c.args.piece.now c.args.codes.now items
    c.loop-site.piece c.loop-site.codes (drop i items) (drop_past items i c.loop-site-test.false)
    c.loop-site.invariant)

pub returns-clause-codes : goal.returns-clause-codes
returns-clause-codes c =
    let items = c.as_slice-site-items.result.now in
    let i = c.loop-site.site-index in
    coded_sites c.args.tops.now c.args.piece.now c.args.codes.now items
    c.loop-site.piece c.loop-site.codes (drop i items) (drop_past items i c.loop-site-test.false)
    c.loop-site.invariant
    ∙ ap (λ ts. c.args.codes.now ++ (write_sites c.args.tops.now c.args.piece.now.next ts).sites)
    c.as_slice-site-items.ensures.members
