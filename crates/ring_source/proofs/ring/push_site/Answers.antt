-- The pieces of a site's line, one behind the other.
use Rattle.std.proofs.Common.{◌++◌, codes, decimal}
use Rattle.ring_source.specs.Ring.{agent_at, messages_text}
use Rattle.ring_source.proofs.Appends.{two, more, two_more, last}
use Rattle.ring_source.proofs.ring.push_site.Goals as goal

pub returns : goal.returns
returns c =
    let start = c.args.text.now in
    let number = decimal c.args.i in
    let agent = agent_at c.args.n c.args.i in
    let messages = messages_text c.args.i in
    let named = codes "site s" ++ number in
    let waiting = named ++ codes " [ w" ++ number in
    let ruled = waiting ++ codes "() => 0" in
    let hosting = ruled ++ agent in
    let colon = hosting ++ codes " : " in
    let filled = colon ++ messages in
    let one = two start (codes "site s") number c.in_ok-push_numbered.ensures in
    let two = two_more start named (codes " [ w") number one c.in_ok-push_numbered-2.ensures in
    let three = more start waiting (codes "() => 0") two c.in_ok-push_all.ensures.ok in
    let four = more start ruled agent three c.in_ok-push_agent_at.ensures in
    let five = more start hosting (codes " : ") four c.in_ok-push_all-2.ensures.ok in
    let six = more start colon messages five c.in_ok-push_messages.ensures in
    last c.push_all-3.result start filled (codes " ]\n")
    c.push_messages.new.text c.push_all-3.new.text six c.push_all-3.ensures.ok
