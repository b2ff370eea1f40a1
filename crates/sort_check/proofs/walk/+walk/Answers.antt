use Rattle.std.proofs.Common.{rules, arith, ap, sym, subst, length, None, IfNone, ◌≡◌, ◌≢◌, ◌∙◌}
use Rattle.join_parse.specs.SourceSize.{defs_depth}
use Rattle.join_parse.specs.Members.{procs_depth-member, defs_depth-member}
use Rattle.sort_check.specs.inside.First.{first_of}
use Rattle.sort_check.specs.inside.Beside.{kept}
use Rattle.sort_check.proofs.Beside.{members-stepped, level-stepped, several-are}
use Rattle.sort_check.proofs.walk.+walk.Goals as goal

pub body-returns-in-None : goal.body-returns-in-None
body-returns-in-None t c =
    let r = kept c.args.table.now in
    let gone : c.only.result ≡ None = search rules in
    let other : length c.args.list.now ≢ 1 =
    subst (λ o. IfNone o (length c.args.list.now ≢ 1)) gone c.only.ensures.none in
    c.several.ensures
    ∙ ap (first_of r.args c.args.least.now)
    (sym (several-are r c.args.list.now c.args.term.now other))

pub level-one-requires : goal.level-one-requires
level-one-requires t c =
    omega (
      arith,
      defs_depth-member c.as_slice-defs.result.now c.loop-index.index c.index-defs-index.result
          c.loop-index-test.true c.index-defs-index.is,
      c.decreases,
      ap defs_depth c.as_slice-defs.ensures.members,
    )

pub level-loop-index-preserved : goal.level-loop-index-preserved
level-loop-index-preserved t c =
    level-stepped (kept c.args.table.now) c.as_slice-defs.result.now c.as_slice-terms.result.now
    c.loop-index.index c.index-defs-index.result c.args.least.now c.loop-index.least c.one.new.least
    c.loop-index-test.true c.index-defs-index.is c.loop-index.invariant c.one.ensures

pub members-member-requires : goal.members-member-requires
members-member-requires t c =
    omega (
      arith,
      procs_depth-member c.args.list.now c.loop-index.index c.index-list-index.result
          c.loop-index-test.true c.index-list-index.is,
      c.decreases,
    )

pub members-loop-index-preserved : goal.members-loop-index-preserved
members-loop-index-preserved t c =
    members-stepped (kept c.args.table.now) c.args.list.now c.args.terms.now c.loop-index.index
    c.index-list-index.result c.args.least.now c.loop-index.least c.member.new.least
    c.loop-index-test.true c.index-list-index.is c.loop-index.invariant c.member.ensures
