use Rattle.std.proofs.Common.{rules, arith, ◌≡◌, Some}
use Rattle.sort_lines.specs.inside.Reading.{pair_in}
use Rattle.sort_lines.proofs.More.{leads_on}
use Rattle.sort_lines.proofs.content.more.Goals as goal

pub loop-at-preserved : goal.loop-at-preserved
loop-at-preserved c =
    let i = c.loop-at.invariant in
    let k = c.index-tokens-at.result in
    let n = c.index-tokens-at-in-loop-at.result in
    let p : Some c.in-Some.name ≡ pair_in k.kind n.kind = search rules in
    record {
      within = omega (arith, c.loop-at-test.true, i.within);
      leads =
          leads_on c.args.tokens.now c.args.names.now c.loop-at.names c.push.new.self c.loop-at.at k
          n c.in-Some.name (omega (arith, c.loop-at-test.true, i.within)) c.index-tokens-at.is
          c.index-tokens-at-in-loop-at.is p c.in_ok-push-in-Some.ensures.ok i.leads;
    }
