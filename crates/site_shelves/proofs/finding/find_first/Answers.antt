-- What is read where the first group has the channel is the queue that takes the message.
use Rattle.std.proofs.Common.{◌≡◌, ◌∙◌, ◌-◌, Option, Some, None, true, rules, sym, ap, length}
use Rattle.std.specs.Prelude.{slice_get, IfSome}
use Rattle.queue_cells.specs.Grouped.{lists_at}
use Rattle.site_shelves.specs.declared.told.Spot.{Spot}
use Rattle.site_shelves.specs.inside.Index.{has_channel, on_count, told_of, spot_of}
use Rattle.site_shelves.proofs.Queueing.{first-spot}
use Rattle.site_shelves.proofs.finding.find_first.Goals as goal

is-told : (x o : Option Spot) → x ≡ o → IfSome o (λ s. x ≡ Some s)
is-told x None e = tt
is-told x (Some s) e = e

pub returns : goal.returns
returns c =
    let d = c.told-told.result.now in
    let m = c.args.msg.now in
    let at : Spot = record { group = 0; chan = c.in_ok-chan.chan } in
    let from : c.in-Chan.k - d.inst.chans.k ≡ c.in_ok-chan.chan = search rules in
    let has : has_channel d c.in-Chan.site c.in-Chan.k c.in-Chan.home ≡ true = search rules in
    let count = c.len-2.ensures.count ∙ ap (λ m. length m.args) c.msg.view_is in
    let is = first-spot c.args.groups.now.groups m c.in-Chan.site c.in-Chan.k c.in-Chan.home
    (record { told = d; lists = lists_at c.args.groups.now.groups 0 }) c.in_ok-chan.chan
    c.with_count.result c.told-told.ensures
    (ap (λ m. m.on) (sym c.msg.view_is) ∙ c.in-Chan.is) has from
    (c.with_count.ensures
    ∙ ap (λ n. on_count (slice_get d.counts c.in_ok-chan.chan) n at) count) in
    is-told (spot_of (told_of c.args.groups.now.groups) m) c.with_count.result is
