-- The pieces of a rule, one behind the other.
use Rattle.std.proofs.Common.{◌%◌, ◌+◌, ◌++◌, codes, decimal}
use Rattle.ring_source.specs.Ring.{go_text}
use Rattle.ring_source.proofs.Appends.{two, more, two_more, last}
use Rattle.ring_source.proofs.ring.push_rule.Goals as goal

pub returns : goal.returns
returns c =
    let start = c.args.text.now in
    let number = decimal c.args.j in
    let named = codes " and k" ++ number in
    let seen = named ++ codes "() => out(s" ++ number in
    let one = two start (codes " and k") number c.in_ok-push_numbered.ensures in
    let other =
    two_more start named (codes "() => out(s") number one c.in_ok-push_numbered-2.ensures in
    let joined = more start seen (codes ") | ") other c.in_ok-push_all.ensures.ok in
    last c.push_go.result start (seen ++ codes ") | ") (go_text ((c.args.j + 1) % c.args.n))
    c.push_all.new.text c.push_go.new.text joined c.push_go.ensures
