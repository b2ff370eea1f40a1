-- The pieces of the agent, one behind the other.
use Rattle.std.proofs.Common.{◌%◌, ◌++◌, codes}
use Rattle.ring_source.specs.Ring.{go_text, rules_text}
use Rattle.ring_source.proofs.Appends.{more, last}
use Rattle.ring_source.proofs.ring.push_agent.Goals as goal

pub returns : goal.returns
returns c =
    let start = c.args.text.now in
    let first = codes " and m[ k0() => out(s0)" in
    let rules = first ++ rules_text c.args.n in
    let colon = rules ++ codes " : " in
    let moved = colon ++ go_text (1 % c.args.n) in
    let two =
    more start first (rules_text c.args.n) c.in_ok-push_all.ensures.ok c.in_ok-push_rules.ensures in
    let three = more start rules (codes " : ") two c.in_ok-push_all-2.ensures.ok in
    let four = more start colon (go_text (1 % c.args.n)) three c.in_ok-push_go.ensures in
    last c.push_all-3.result start moved (codes " ]") c.push_go.new.text c.push_all-3.new.text four
    c.push_all-3.ensures.ok
