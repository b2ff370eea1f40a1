use Rattle.std.proofs.Common.{◌≡◌, ◌+◌, [], drop, sym, ap, ◌∙◌, arith}
use Rattle.site_shelves.specs.inside.Index.{groups_of}
use Rattle.site_shelves.specs.inside.New.{gone_at}
use Rattle.site_shelves.proofs.Drops.{drop-here}
use Rattle.site_shelves.proofs.Walked.{drop-past}
use Rattle.site_shelves.proofs.Fronts.{gone-more, gone-nothing}
use Rattle.site_shelves.proofs.more.take_fronts.Goals as goal

pub loop-chan-preserved : goal.loop-chan-preserved
loop-chan-preserved c =
    let here = drop-here c.args.chans.now c.loop-chan.chan-index 0 c.loop-chan-test.true in
    record {
      done = ap (gone_at c.args.group (drop (c.loop-chan.chan-index + 1) c.args.chans.now))
          c.take_one.ensures.groups
          ∙ sym (gone-more (groups_of c.loop-chan.groups.groups) c.args.group _
          (drop (c.loop-chan.chan-index + 1) c.args.chans.now))
          ∙ ap (λ cs. gone_at c.args.group cs (groups_of c.loop-chan.groups.groups)) (sym here)
          ∙ c.loop-chan.invariant.done;
      many = c.take_one.ensures.many ∙ c.loop-chan.invariant.many;
      spare = omega (arith, c.take_one.ensures.spare, c.loop-chan.invariant.spare);
      spare_groups = c.take_one.ensures.spare_groups ∙ c.loop-chan.invariant.spare_groups;
    }

pub returns-clause-groups : goal.returns-clause-groups
returns-clause-groups c =
    let past : drop c.loop-chan.chan-index c.args.chans.now ≡ [] =
    drop-past c.args.chans.now c.loop-chan.chan-index (omega (arith, c.loop-chan-test.false)) in
    sym (ap (λ cs. gone_at c.args.group cs (groups_of c.loop-chan.groups.groups)) past
    ∙ gone-nothing (groups_of c.loop-chan.groups.groups) c.args.group) ∙ c.loop-chan.invariant.done
