use Rattle.std.proofs.Common.{◌≡◌, Some, length, slice_get, rules}
use Rattle.worked_sites.proofs.Needs.{body_is}
use Rattle.worked_sites.proofs.by_hand.body_of.Goals as goal

pub returns : goal.returns
returns c =
    let guard = c.in_ok-guard.guard.now in
    let level = c.in_ok-level.level.now in
    let at : slice_get c.args.code.now.guards c.args.guard ≡ Some guard = search rules in
    let level_at : slice_get c.args.code.now.levels guard.level ≡ Some level = search rules in
    let one : length guard.chans ≡ 1 = search rules in
    let chan : slice_get guard.chans 0 ≡ Some c.in_ok-chan.field-0.now = search rules in
    let count : slice_get level.counts c.in_ok-chan.field-0.now ≡ Some c.in_ok-count.count =
    search rules in
    body_is c.args.code.now c.args.guard guard level
    c.in_ok-chan.field-0.now c.in_ok-count.count c.code_is_kept.ensures at level_at one chan count
