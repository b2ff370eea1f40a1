use Rattle.std.proofs.Common.{◌≡◌, ◌+◌, length, vec_len}
use Rattle.shared_net.proofs.net.lock_sites.Given as goal

abbrev pub invariant-loop-site : goal.invariant-loop-site
invariant-loop-site l =
    vec_len l.locked + length l.site-iterator.rest.items ≡ length l.fn.sites.items
