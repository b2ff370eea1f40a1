use Rattle.std.proofs.Common.{arith, ap, sym, drop, ◌+◌, ◌++◌, ◌∙◌, append_assoc}
use Rattle.join_parse.specs.SourceSize.{defs_depth}
use Rattle.join_parse.specs.Members.{defs_depth-member}
use Rattle.join_parse.specs.Source.{definitions}
use Rattle.scope_check.specs.Blocks.{defining, defining_one, places, places_of}
use Rattle.scope_check.proofs.Sites.{drop-next}
use Rattle.scope_check.proofs.block.+block.Goals as goal

pub level-one-requires : goal.level-one-requires
level-one-requires t c = (
  omega (
    arith,
    defs_depth-member c.as_slice-d-items.result.now c.loop-d.d-index c.d-item.result
        c.loop-d-test.true c.d-item.is,
    c.decreases,
    ap defs_depth c.as_slice-d-items.ensures.members,
  ),
  tt,
)

pub level-loop-d-preserved : goal.level-loop-d-preserved
level-loop-d-preserved t c =
    let items = c.as_slice-d-items.result.now in
    let d = c.d-item.result in
    let rest = definitions (drop (c.loop-d.d-index + 1) items) in
    let all = ap definitions (drop-next items c.loop-d.d-index d c.loop-d-test.true c.d-item.is) in
    let e = c.in_ok-end.ensures in
    let inv = c.loop-d.invariant in
    let one = defining_one c.args.at c.loop-d.end d in
    let others = defining c.args.at (c.loop-d.end + places_of d) rest in
    record {
      items = inv.items;
      place = omega (arith, ap places all, e.place, inv.place);
      names = (λ i. e.names i ++ defining c.args.at (e.place i) rest)
          ∙ append_assoc c.loop-d.list.items one others
          ∙ ap (λ ds. c.loop-d.list.items ++ defining c.args.at c.loop-d.end ds) (sym all)
          ∙ inv.names;
    }
