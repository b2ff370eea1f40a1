use Rattle.std.proofs.Common.{◌≡◌, ◌≤◌, ◌+◌, ◌∙◌, true, false, length, drop, sym, ap, arith}
use Rattle.std.specs.Prelude.{◌&&◌}
use Rattle.std.specs.List.{list_all}
use Rattle.site_shelves.specs.inside.Index.{told_of}
use Rattle.site_shelves.proofs.Queueing.{told-at}
use Rattle.site_shelves.proofs.Putting.{told-many}
use Rattle.site_shelves.proofs.Walked.{all-more, drop-past}
use Rattle.site_shelves.specs.InCode.{is_told_by}
use Rattle.site_shelves.proofs.testing.are_told_by.Goals as goal

pub returns-then-not-is_told_by : goal.returns-then-not-is_told_by
returns-then-not-is_told_by c =
    let gs = told_of c.args.groups.now.groups in
    let at = told-at c.args.groups.now.groups c.loop-group.group _ c.told.ensures in
    let not : is_told_by c.args.code.now c.told.result.now ≡ false =
    sym c.is_told_by.ensures ∙ c.if-not-is_told_by.true in
    sym (sym c.loop-group.invariant
    ∙ all-more (is_told_by c.args.code.now) gs c.loop-group.group c.told.result.now at
    ∙ ap (λ b. b && list_all (is_told_by c.args.code.now) (drop (c.loop-group.group + 1) gs)) not)

pub loop-group-preserved : goal.loop-group-preserved
loop-group-preserved c =
    let gs = told_of c.args.groups.now.groups in
    let at = told-at c.args.groups.now.groups c.loop-group.group _ c.told.ensures in
    let so : is_told_by c.args.code.now c.told.result.now ≡ true =
    sym c.is_told_by.ensures ∙ c.if-not-is_told_by.false in
    sym (all-more (is_told_by c.args.code.now) gs c.loop-group.group c.told.result.now at
    ∙ ap (λ b. b && list_all (is_told_by c.args.code.now) (drop (c.loop-group.group + 1) gs)) so)
    ∙ c.loop-group.invariant

pub returns : goal.returns
returns c =
    let gs = told_of c.args.groups.now.groups in
    let past : length gs ≤ c.loop-group.group =
    omega
    (arith, told-many c.args.groups.now.groups, c.loop-group-test.false, c.len-group-end.ensures) in
    sym (sym c.loop-group.invariant
    ∙ ap (list_all (is_told_by c.args.code.now)) (drop-past gs c.loop-group.group past))
