use Rattle.std.proofs.Common.{◌≡◌, ◌≤◌, ◌+◌, ◌∙◌, true, false, length, drop, sym, ap, arith}
use Rattle.std.specs.Prelude.{◌&&◌}
use Rattle.std.specs.List.{list_all}
use Rattle.site_shelves.specs.inside.Index.{told_of}
use Rattle.site_shelves.proofs.Queueing.{told-at}
use Rattle.site_shelves.proofs.Putting.{told-many}
use Rattle.site_shelves.proofs.Walked.{all-more, drop-past}
use Rattle.site_solution.specs.Apart.{are_separate}
use Rattle.site_solution.proofs.apart.is_separate.Goals as goal

pub returns-then-not-are_separate : goal.returns-then-not-are_separate
returns-then-not-are_separate c =
    let gs = told_of c.args.groups.now.groups in
    let at = told-at c.args.groups.now.groups c.loop-group.group _ c.told.ensures in
    let not : are_separate c.args.told.now c.told.result.now ≡ false =
    sym c.are_separate.ensures ∙ c.if-not-are_separate.true in
    sym (sym c.loop-group.invariant
    ∙ all-more (are_separate c.args.told.now) gs c.loop-group.group c.told.result.now at
    ∙ ap (λ b. b && list_all (are_separate c.args.told.now) (drop (c.loop-group.group + 1) gs)) not)

pub loop-group-preserved : goal.loop-group-preserved
loop-group-preserved c =
    let gs = told_of c.args.groups.now.groups in
    let at = told-at c.args.groups.now.groups c.loop-group.group _ c.told.ensures in
    let so : are_separate c.args.told.now c.told.result.now ≡ true =
    sym c.are_separate.ensures ∙ c.if-not-are_separate.false in
    sym (all-more (are_separate c.args.told.now) gs c.loop-group.group c.told.result.now at
    ∙ ap (λ b. b && list_all (are_separate c.args.told.now) (drop (c.loop-group.group + 1) gs)) so)
    ∙ c.loop-group.invariant

pub returns : goal.returns
returns c =
    let gs = told_of c.args.groups.now.groups in
    let past : length gs ≤ c.loop-group.group =
    omega
    (arith, told-many c.args.groups.now.groups, c.loop-group-test.false, c.len-group-end.ensures) in
    sym (sym c.loop-group.invariant
    ∙ ap (list_all (are_separate c.args.told.now)) (drop-past gs c.loop-group.group past))
