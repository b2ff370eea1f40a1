use Rattle.std.proofs.Common.{◌≡◌, ◌<◌, ℕ, List, Some, None, rules, sym, ◌∙◌, ap, subst, length}
use Rattle.std.specs.Prelude.{slice_get}
use Rattle.queue_cells.specs.Grouped.{lists_at}
use Rattle.site_shelves.specs.inside.Index.{on_count, Rise, place_of}
use Rattle.site_shelves.proofs.Queueing.{found-group, spot-is, spot-none}
use Rattle.site_shelves.proofs.finding.look_up.Goals as goal

pub place_of-requires : goal.place_of-requires
place_of-requires c = (
  0,
  c.args.spots.now.next,
  subst (λ (ss : List ℕ). Rise 0 ss c.args.spots.now.next) (sym c.deref.ensures.value)
      c.requires.rise,
)

pub told-requires : goal.told-requires
told-requires c =
    let at : c.place_of.result
    ≡ place_of c.in_ok-mark.field-0.now.serial c.args.spots.now.serials.items =
    c.place_of.ensures ∙ ap (place_of c.in_ok-mark.field-0.now.serial) c.deref.ensures.value in
    subst (λ n. n < length c.args.groups.now.groups) (sym at)
    (found-group c.args.spots.now c.args.groups.now.groups c.in-Chan.site c.in-Chan.k c.in-Chan.home
    c.in_ok-mark.field-0.now c.requires (sym c.in_ok-mark.ensures.value))

pub returns : goal.returns
returns c =
    let mark = c.in_ok-mark.field-0.now in
    let at : c.place_of.result ≡ place_of mark.serial c.args.spots.now.serials.items =
    c.place_of.ensures ∙ ap (place_of mark.serial) c.deref.ensures.value in
    let there = subst (λ n. slice_get c.args.groups.now.groups n ≡ Some (record {
      told = c.told.result.now;
      lists = lists_at c.args.groups.now.groups c.place_of.result;
    })) at c.told.ensures in
    let count = c.len.ensures.count ∙ ap (λ m. length m.args) c.msg.view_is in
    spot-is c.args.spots.now c.args.groups.now.groups c.args.msg.now c.in-Chan.site c.in-Chan.k
    c.in-Chan.home mark (record {
      told = c.told.result.now;
      lists = lists_at c.args.groups.now.groups c.place_of.result;
    }) c.with_count.result c.requires (ap (λ m. m.on) (sym c.msg.view_is) ∙ c.in-Chan.is)
    (sym c.in_ok-mark.ensures.value) there
    (c.with_count.ensures
    ∙ ap (λ n. on_count (slice_get c.told.result.now.counts mark.chan) n
    (record { group = c.place_of.result; chan = mark.chan })) count
    ∙ ap (λ g. on_count (slice_get c.told.result.now.counts mark.chan) (length c.args.msg.now.args)
    (record { group = g; chan = mark.chan })) at)

pub returns-in_err-mark : goal.returns-in_err-mark
returns-in_err-mark c =
    let none : c.from_residual.result ≡ None = search rules in
    none
    ∙ sym (spot-none c.args.spots.now c.args.groups.now.groups c.args.msg.now c.in-Chan.site
    c.in-Chan.k c.in-Chan.home c.requires (ap (λ m. m.on) (sym c.msg.view_is) ∙ c.in-Chan.is)
    (sym c.in_err-mark.ensures.value))
