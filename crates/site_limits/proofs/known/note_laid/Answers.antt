use Rattle.std.proofs.Common.{◌≤◌, length, refl, sym, ap, ◌∙◌, subst, arith}
use Rattle.net_laws.specs.Site.{Told}
use Rattle.site_shelves.specs.declared.told.Told.TheInside.{Inside}
use Rattle.site_shelves.specs.inside.Index.{told_of}
use Rattle.site_shelves.proofs.Queueing.{told-at}
use Rattle.site_shelves.proofs.Putting.{told-many}
use Rattle.site_limits.specs.Limits.{Limits, told_within}
use Rattle.site_limits.specs.Knows.{AreNoted}
use Rattle.site_limits.proofs.Learned.{left-first, left-next, left-none}
use Rattle.site_limits.proofs.Repeated.{env-noted}
use Rattle.site_limits.proofs.Stays.{told-stays}
use Rattle.site_limits.proofs.known.note_laid.Goals as goal

pub loop-group-init : goal.loop-group-init
loop-group-init c = (
  left-first (λ (d : Limits) (x : Told). told_within d c.args.number x)
      (told_of c.args.groups.now.groups) c.args.from c.args.known.now,
  λ _. refl,
)

pub loop-group-preserved : goal.loop-group-preserved
loop-group-preserved c =
    let told = c.told-told.result.now in
    let env = c.as_slice-before.ensures.members
    ∙ ap (λ (e : Inside). e.inst.env) c.told-inside.view_is
    ∙ ap (λ (e : Told). e.inst.env) c.told.view_is in
    let noted = c.note_told.ensures c.loop-group.invariant.1 in (
      left-next (λ (d : Limits) (x : Told). told_within d c.args.number x)
          (told_of c.args.groups.now.groups) c.args.from c.loop-group.group told c.args.known.now
          c.loop-group.known c.note_told.new.known (told-stays c.args.number told)
          (told-at c.args.groups.now.groups c.loop-group.group _ c.told-told.ensures)
          c.loop-group.invariant.0 noted,
      subst (AreNoted c.note_told.new.known) (sym env)
          (env-noted c.args.number told c.loop-group.known c.note_told.new.known noted),
    )

pub returns : goal.returns
returns c =
    let past : length (told_of c.args.groups.now.groups) ≤ c.loop-group.group = omega (
      arith,
      told-many c.args.groups.now.groups,
      c.loop-group-test.false,
      c.len-group-end.ensures,
    ) in
    left-none (λ (d : Limits) (x : Told). told_within d c.args.number x)
    (told_of c.args.groups.now.groups) c.args.from c.loop-group.group c.args.known.now
    c.loop-group.known past c.loop-group.invariant.0
