use Rattle.std.proofs.Common.{◌∙◌, arith}
use Rattle.std.specs.HashMap as hash
use Rattle.net_laws.proofs.Holds.{each_get}
use Rattle.site_shelves.specs.CanLay.{HasNumbers}
use Rattle.site_shelves.specs.inside.Index.{same_key, key_of, told_of}
use Rattle.site_shelves.proofs.Queueing.{told-at}
use Rattle.site_shelves.proofs.Left.{forgotten-next, forgotten-all}
use Rattle.site_shelves.proofs.forgetting.forget_groups.Goals as goal

pub forget_group-requires : goal.forget_group-requires
forget_group-requires c =
    each_get HasNumbers (told_of c.args.groups.now.groups) c.loop-group.group c.told.result.now
    (told-at c.args.groups.now.groups c.loop-group.group _ c.told.ensures) c.requires

pub loop-group-preserved : goal.loop-group-preserved
loop-group-preserved c = record {
  named = λ site k at. forgotten-next c.args.loc c.args.groups.now.groups c.loop-group.group _ site
      k at (hash.get same_key c.args.spots.now.marks (key_of site k at))
      (hash.get same_key c.loop-group.spots.marks (key_of site k at))
      (hash.get same_key c.forget_group.new.spots.marks (key_of site k at)) c.told.ensures
      (c.forget_group.ensures.named site k at) (c.loop-group.invariant.named site k at);
  serials = c.forget_group.ensures.serials ∙ c.loop-group.invariant.serials;
  next = c.forget_group.ensures.next ∙ c.loop-group.invariant.next;
}

pub returns-clause-named : goal.returns-clause-named
returns-clause-named c =
    λ site k at. forgotten-all c.args.loc c.args.groups.now.groups c.loop-group.group site k at
    (hash.get same_key c.args.spots.now.marks (key_of site k at))
    (hash.get same_key c.loop-group.spots.marks (key_of site k at))
    (omega (arith, c.loop-group-test.false, c.len-group-end.ensures))
    (c.loop-group.invariant.named site k at)
