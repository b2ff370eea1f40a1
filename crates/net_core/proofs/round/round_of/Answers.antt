use Rattle.std.proofs.Common.{◌≡◌, ◌++◌, ◌∙◌, List, All, map, sym, ap, subst, arith}
use Rattle.std.specs.Vec.{with_items}
use Rattle.std.proofs.lemmas.List.{with_items_is}
use Rattle.wire_packet.specs.declared.packet.Flight.{Flight}
use Rattle.loc_tree.specs.Tree.{bare}
use Rattle.net_core.specs.declared.parts.Parts.{Parts}
use Rattle.net_core.specs.declared.senders.Run.{Run}
use Rattle.net_core.specs.declared.slots.Slot.{Slot}
use Rattle.net_core.specs.inside.Slots.{CanWork, IsServed, Pairwise, slot_of, sites_of, events_of}
use Rattle.net_core.specs.inside.Slots.{flights_of, froms_of, AreBack}
use Rattle.net_core.specs.inside.Runs.{spread}
use Rattle.net_core.proofs.RoundDone.{can_all, has_round, has_sent}
use Rattle.net_core.proofs.round.round_of.Goals as goal

pub lend-requires-clause-each : goal.lend-requires-clause-each
lend-requires-clause-each g c κs within =
    let code = c.args.code.now in
    let old = c.args.parts.now in
    let quota = c.args.limits.quota in
    let mail : c.as_slice.result.now ≡ old.flights.items =
    c.as_slice.ensures.value ∙ c.into_vec-mail.ensures.items
    ∙ ap (λ fs. fs.items) c.replace-flights.ensures.value in
    let slots : c.as_mut_slice.result.now ≡ map slot_of old.sites.items =
    c.as_mut_slice.ensures.value ∙ c.in_ok-slots.ensures
    ∙ ap (λ ss. map slot_of ss.items) c.replace-sites.ensures.value in
    let all = can_all code old quota c.requires.few.0 c.requires.few.1 c.requires.few.2 in
    subst (λ (fs : List Flight). All (CanWork code old.tree fs quota) c.as_mut_slice.result.now)
    (sym mail)
    (subst (λ (ss : List Slot). All (CanWork code old.tree old.flights.items quota) ss)
    (sym slots) all)

pub returns-in-Ok-clause-round : goal.returns-in-Ok-clause-round
returns-in-Ok-clause-round g c =
    let code = c.args.code.now in
    let old = c.args.parts.now in
    let quota = c.args.limits.quota in
    let new = c.take_all_back.new.parts in
    let es = c.take_all_back.new.journal in
    let done = c.lend.new.slots in
    let mail : c.as_slice.result.now ≡ old.flights.items =
    c.as_slice.ensures.value ∙ c.into_vec-mail.ensures.items
    ∙ ap (λ fs. fs.items) c.replace-flights.ensures.value in
    let slots : c.as_mut_slice.result.now ≡ map slot_of old.sites.items =
    c.as_mut_slice.ensures.value ∙ c.in_ok-slots.ensures
    ∙ ap (λ ss. map slot_of ss.items) c.replace-sites.ensures.value in
    let served : Pairwise (IsServed code old.tree old.flights.items quota)
    (map slot_of old.sites.items) done =
    subst
    (λ (ss : List Slot). Pairwise (IsServed code old.tree old.flights.items quota) ss done)
    slots
    (subst (λ (fs : List Flight).
    Pairwise (IsServed code old.tree fs quota) c.as_mut_slice.result.now done) mail
    c.lend.ensures) in
    let start : Parts = record {
      version = old.version;
      sites = c.replace-sites.new.dest;
      tree = old.tree;
      trace = old.trace;
      flights = c.replace-flights.new.dest;
      under_way = 0;
    } in
    let whole : (with_items c.in_ok-slots.slots done).items ≡ done =
    with_items_is c.in_ok-slots.slots done (c.lend.auto.slots ∙ c.as_mut_slice.ensures.len) in
    let back : AreBack done start c.new-journal.result new es =
    subst (λ (ss : List Slot). AreBack ss start c.new-journal.result new es) whole
    c.in-Ok.ensures.back in
    has_round code old new quota es done served back.worked back.version
    (back.sites ∙ ap (λ ss. ss.items ++ sites_of done) c.replace-sites.ensures.after
    ∙ ap (λ xs. xs ++ sites_of done) c.in_ok-room.ensures.items) (ap bare back.tree) back.trace
    (back.flights ∙ ap (λ fs. fs.items ++ flights_of done) c.replace-flights.ensures.after
    ∙ ap (λ xs. xs ++ flights_of done) c.new.ensures.items)
    (let count = back.count in omega arith) (back.few (omega arith))
    (back.events ∙ ap (λ xs. xs ++ events_of done) c.new-journal.ensures)
    c.requires.few.0 c.requires.few.2

pub returns-in-Ok-clause-sent : goal.returns-in-Ok-clause-sent
returns-in-Ok-clause-sent g c =
    let code = c.args.code.now in
    let old = c.args.parts.now in
    let quota = c.args.limits.quota in
    let new = c.take_all_back.new.parts in
    let es = c.take_all_back.new.journal in
    let done = c.lend.new.slots in
    let mail : c.as_slice.result.now ≡ old.flights.items =
    c.as_slice.ensures.value ∙ c.into_vec-mail.ensures.items
    ∙ ap (λ fs. fs.items) c.replace-flights.ensures.value in
    let slots : c.as_mut_slice.result.now ≡ map slot_of old.sites.items =
    c.as_mut_slice.ensures.value ∙ c.in_ok-slots.ensures
    ∙ ap (λ ss. map slot_of ss.items) c.replace-sites.ensures.value in
    let served : Pairwise (IsServed code old.tree old.flights.items quota)
    (map slot_of old.sites.items) done =
    subst
    (λ (ss : List Slot). Pairwise (IsServed code old.tree old.flights.items quota) ss done)
    slots
    (subst (λ (fs : List Flight).
    Pairwise (IsServed code old.tree fs quota) c.as_mut_slice.result.now done) mail
    c.lend.ensures) in
    let start : Parts = record {
      version = old.version;
      sites = c.replace-sites.new.dest;
      tree = old.tree;
      trace = old.trace;
      flights = c.replace-flights.new.dest;
      under_way = 0;
    } in
    let whole : (with_items c.in_ok-slots.slots done).items ≡ done =
    with_items_is c.in_ok-slots.slots done (c.lend.auto.slots ∙ c.as_mut_slice.ensures.len) in
    let back : AreBack done start c.new-journal.result new es =
    subst (λ (ss : List Slot). AreBack ss start c.new-journal.result new es) whole
    c.in-Ok.ensures.back in
    let senders : spread c.take_all_back.new.senders.items ≡ froms_of done =
    c.in-Ok.ensures.sent
    ∙ ap (λ (rs : List Run). spread rs ++ froms_of (with_items c.in_ok-slots.slots done).items)
    c.clear.ensures.items ∙ ap froms_of whole in
    has_sent code old new quota es done served back.worked back.version
    (back.sites ∙ ap (λ ss. ss.items ++ sites_of done) c.replace-sites.ensures.after
    ∙ ap (λ xs. xs ++ sites_of done) c.in_ok-room.ensures.items) (ap bare back.tree) back.trace
    (back.flights ∙ ap (λ fs. fs.items ++ flights_of done) c.replace-flights.ensures.after
    ∙ ap (λ xs. xs ++ flights_of done) c.new.ensures.items)
    (let count = back.count in omega arith) (back.few (omega arith))
    (back.events ∙ ap (λ xs. xs ++ events_of done) c.new-journal.ensures)
    c.requires.few.0 c.requires.few.1 c.requires.few.2 c.take_all_back.new.senders.items senders
