use Rattle.std.proofs.Common.{◌≡◌, ◌≤◌, ◌+◌, ◌∙◌, true, false, length, drop, sym, ap, arith}
use Rattle.std.specs.Prelude.{◌&&◌}
use Rattle.std.specs.List.{list_all}
use Rattle.site_shelves.specs.inside.Index.{told_of}
use Rattle.site_shelves.proofs.Queueing.{told-at}
use Rattle.site_shelves.proofs.Putting.{told-many}
use Rattle.site_shelves.proofs.Walked.{all-more, drop-past}
use Rattle.site_solution.specs.inside.Parted.{told_parted}
use Rattle.site_solution.proofs.apart.groups_are_apart.Goals as goal

pub returns-then-not-told_is_apart : goal.returns-then-not-told_is_apart
returns-then-not-told_is_apart c =
    let gs = told_of c.args.from.now.groups in
    let at = told-at c.args.from.now.groups c.loop-group.group _ c.told.ensures in
    let not : told_parted c.args.site.now c.args.loc c.told.result.now ≡ false =
    sym c.told_is_apart.ensures ∙ c.if-not-told_is_apart.true in
    sym (sym c.loop-group.invariant
    ∙ all-more (told_parted c.args.site.now c.args.loc) gs c.loop-group.group c.told.result.now at
    ∙ ap
    (λ b. b && list_all (told_parted c.args.site.now c.args.loc) (drop (c.loop-group.group + 1) gs))
    not)

pub loop-group-preserved : goal.loop-group-preserved
loop-group-preserved c =
    let gs = told_of c.args.from.now.groups in
    let at = told-at c.args.from.now.groups c.loop-group.group _ c.told.ensures in
    let so : told_parted c.args.site.now c.args.loc c.told.result.now ≡ true =
    sym c.told_is_apart.ensures ∙ c.if-not-told_is_apart.false in
    sym
    (all-more (told_parted c.args.site.now c.args.loc) gs c.loop-group.group c.told.result.now at
    ∙ ap
    (λ b. b && list_all (told_parted c.args.site.now c.args.loc) (drop (c.loop-group.group + 1) gs))
    so) ∙ c.loop-group.invariant

pub returns : goal.returns
returns c =
    let gs = told_of c.args.from.now.groups in
    let past : length gs ≤ c.loop-group.group =
    omega
    (arith, told-many c.args.from.now.groups, c.loop-group-test.false, c.len-group-end.ensures) in
    sym (sym c.loop-group.invariant
    ∙ ap (list_all (told_parted c.args.site.now c.args.loc)) (drop-past gs c.loop-group.group past))
