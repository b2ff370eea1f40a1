-- What the sites did can be committed, and then book and network stand for one solution again.
use Rattle.std.proofs.Common.{◌≡◌, ◌∙◌, ◌-◌, ◌/◌, ◌<◌, ap, sym, subst, length, ℕ, List, refl}
use Rattle.std.specs.Prelude.{min}
use Rattle.chem_model.specs.declared.event.Event.{Event}
use Rattle.site_runner.specs.inside.RoundParts.{CanFollow, RoundEnds, and_then}
use Rattle.site_runner.proofs.Rounding.{some_sites, round_joins, work_follows, work_one}
use Rattle.site_runner.proofs.in_rounds.one_round.Goals as goal

pub share-quota-requires : goal.share-quota-requires
share-quota-requires g c = subst (λ (k : ℕ). 0 < k) (sym c.sites.ensures)
    (some_sites c.args.book.now c.args.net c.requires.one)

pub end_round-ended-requires-clause-follow : goal.end_round-ended-requires-clause-follow
end_round-ended-requires-clause-follow g c =
    subst (CanFollow c.args.book.now) (sym c.as_slice.ensures.members)
    (work_follows c.args.net c.in_ok-after.after c.args.book.now c.share-quota.result
    c.in_ok-after.events c.requires.one c.in_ok-after.ensures)

pub end_round-ended-requires-clause-one : goal.end_round-ended-requires-clause-one
end_round-ended-requires-clause-one g c =
    work_one c.args.net c.in_ok-after.after c.args.book.now c.share-quota.result
    c.in_ok-after.events c.requires.one c.in_ok-after.ensures
    (and_then c.args.book.now c.as_slice.result.now)
    (ap (and_then c.args.book.now) c.as_slice.ensures.members)

pub returns-in-Ok-clause-round : goal.returns-in-Ok-clause-round
returns-in-Ok-clause-round g c =
    let net = c.args.net in
    let after = c.in_ok-after.after in
    let book = c.args.book.now in
    let quota = c.share-quota.result in
    let es = c.in_ok-after.events in
    let new = c.end_round-ended.new in
    let before : c.len.result ≡ length book.journal =
    c.len.ensures.count ∙ ap length c.journal.ensures in
    let share : quota ≡ min 64 ((c.args.budget - length book.journal) / length net.net.sites) =
    c.share-quota.ensures.share
    ∙ ap (λ (k : ℕ). min 64 ((c.args.budget - k) / c.sites.result)) before
    ∙ ap (λ (k : ℕ). min 64 ((c.args.budget - length book.journal) / k)) c.sites.ensures in
    let one =
    work_one net after book quota es c.requires.one c.in_ok-after.ensures (and_then book es) refl in
    let ends : RoundEnds c.args.budget after (and_then book es) new.net new.book =
    subst
    (λ (done : List Event). RoundEnds c.args.budget after (and_then book done) new.net new.book)
    c.as_slice.ensures.members c.in-Ok.ensures.ends in
    round_joins c.args.budget quota net after ends.mid new.net book (and_then book es) ends.mid_book
    new.book es c.requires.one share c.in_ok-after.ensures refl one ends.opens ends.meets
