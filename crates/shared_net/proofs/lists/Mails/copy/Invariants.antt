use Rattle.std.proofs.Common.{◌≡◌, take}
use Rattle.shared_net.proofs.lists.Mails.copy.Given as goal

abbrev pub invariant-loop-member : goal.invariant-loop-member
invariant-loop-member l = l.list.items ≡ take l.member-index l.member-items
