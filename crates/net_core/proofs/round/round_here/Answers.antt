use Rattle.std.proofs.Common.{◌≡◌, ◌∙◌, List, All, map, refl, sym, ap, subst, arith}
use Rattle.wire_packet.specs.declared.packet.Flight.{Flight}
use Rattle.loc_tree.specs.Tree.{bare}
use Rattle.net_core.specs.declared.parts.Parts.{Parts}
use Rattle.net_core.specs.inside.Runs.{spread}
use Rattle.net_core.specs.inside.Slots.{CanWork, slot_of}
use Rattle.net_core.specs.inside.Turns.{Beside}
use Rattle.net_core.proofs.Idling.{fewer_idle}
use Rattle.net_core.proofs.InPlace.{round_made, round_sent, round_idle}
use Rattle.net_core.proofs.RoundDone.{can_all}
use Rattle.net_core.proofs.round.round_here.Goals as goal

pub turn_all-turned-requires-clause-each : goal.turn_all-turned-requires-clause-each
turn_all-turned-requires-clause-each c =
    let code = c.args.code.now in
    let old = c.args.parts.now in
    let quota = c.args.quota in
    let mail : c.as_slice-coming.result.now ≡ old.flights.items =
    c.as_slice-coming.ensures.value ∙ c.into_vec-mail.ensures.items
    ∙ ap (λ fs. fs.items) c.replace-flights.ensures.value in
    subst (λ (fs : List Flight). All (CanWork code old.tree fs quota) (map slot_of old.sites.items))
    (sym mail) (can_all code old quota c.requires.few.0 c.requires.few.1 c.requires.few.2)

pub turn_all-turned-requires-clause-many : goal.turn_all-turned-requires-clause-many
turn_all-turned-requires-clause-many c =
    let held = c.args.parts.now.sites.ok in
    omega (arith, held, c.wake.ensures.many, c.in_ok-know_all.ensures.many, c.len.ensures)

pub turn_all-turned-requires-clause-idle : goal.turn_all-turned-requires-clause-idle
turn_all-turned-requires-clause-idle c =
    let code = c.args.code.now in
    let old = c.args.parts.now in
    fewer_idle code (bare old.tree) old.sites.items c.know_all.new.idle.items
    c.wake.new.idle.items c.wake.ensures.fewer
    (fewer_idle code (bare old.tree) old.sites.items c.args.idle.now.items
    c.know_all.new.idle.items c.in_ok-know_all.ensures.fewer c.requires.idle)

pub turn_all-turned-requires-clause-numbered : goal.turn_all-turned-requires-clause-numbered
turn_all-turned-requires-clause-numbered c = λ j s at.
    (c.requires.few.2.running.some.stands.hosts j s at).number

pub returns-in-Ok-clause-round : goal.returns-in-Ok-clause-round
returns-in-Ok-clause-round c =
    let code = c.args.code.now in
    let old = c.args.parts.now in
    let quota = c.args.quota in
    let mail : c.as_slice-coming.result.now ≡ old.flights.items =
    c.as_slice-coming.ensures.value ∙ c.into_vec-mail.ensures.items
    ∙ ap (λ fs. fs.items) c.replace-flights.ensures.value in
    let start : Parts = record {
      version = old.version;
      sites = old.sites;
      tree = old.tree;
      trace = old.trace;
      flights = c.replace-flights.new.dest;
      under_way = 0;
    } in
    let before : Beside = record {
      events = c.new-journal.result;
      froms = spread c.clear.new.self.items;
      idle = c.wake.new.idle.items;
    } in
    let after : Beside = record {
      events = c.turn_all-turned.new.journal;
      froms = spread c.turn_all-turned.new.senders.items;
      idle = c.turn_all-turned.new.idle.items;
    } in
    round_made code quota old start c.turn_all-turned.new.parts c.as_slice-coming.result.now before
    after c.in-Ok.ensures mail refl refl refl refl
    (ap (λ fs. fs.items) c.replace-flights.ensures.after ∙ c.new.ensures.items) refl
    c.new-journal.ensures (ap spread c.clear.ensures.items) c.requires.few.0 c.requires.few.2

pub returns-in-Ok-clause-sent : goal.returns-in-Ok-clause-sent
returns-in-Ok-clause-sent c =
    let code = c.args.code.now in
    let old = c.args.parts.now in
    let quota = c.args.quota in
    let mail : c.as_slice-coming.result.now ≡ old.flights.items =
    c.as_slice-coming.ensures.value ∙ c.into_vec-mail.ensures.items
    ∙ ap (λ fs. fs.items) c.replace-flights.ensures.value in
    let start : Parts = record {
      version = old.version;
      sites = old.sites;
      tree = old.tree;
      trace = old.trace;
      flights = c.replace-flights.new.dest;
      under_way = 0;
    } in
    let before : Beside = record {
      events = c.new-journal.result;
      froms = spread c.clear.new.self.items;
      idle = c.wake.new.idle.items;
    } in
    let after : Beside = record {
      events = c.turn_all-turned.new.journal;
      froms = spread c.turn_all-turned.new.senders.items;
      idle = c.turn_all-turned.new.idle.items;
    } in
    round_sent code quota old start c.turn_all-turned.new.parts c.as_slice-coming.result.now before
    after c.in-Ok.ensures mail refl refl refl refl
    (ap (λ fs. fs.items) c.replace-flights.ensures.after ∙ c.new.ensures.items) refl
    c.new-journal.ensures (ap spread c.clear.ensures.items) c.requires.few.0 c.requires.few.1
    c.requires.few.2 c.turn_all-turned.new.senders.items refl

pub returns-in-Ok-clause-idle : goal.returns-in-Ok-clause-idle
returns-in-Ok-clause-idle c =
    let code = c.args.code.now in
    let old = c.args.parts.now in
    let quota = c.args.quota in
    let mail : c.as_slice-coming.result.now ≡ old.flights.items =
    c.as_slice-coming.ensures.value ∙ c.into_vec-mail.ensures.items
    ∙ ap (λ fs. fs.items) c.replace-flights.ensures.value in
    let start : Parts = record {
      version = old.version;
      sites = old.sites;
      tree = old.tree;
      trace = old.trace;
      flights = c.replace-flights.new.dest;
      under_way = 0;
    } in
    let before : Beside = record {
      events = c.new-journal.result;
      froms = spread c.clear.new.self.items;
      idle = c.wake.new.idle.items;
    } in
    let after : Beside = record {
      events = c.turn_all-turned.new.journal;
      froms = spread c.turn_all-turned.new.senders.items;
      idle = c.turn_all-turned.new.idle.items;
    } in
    round_idle code quota old start c.turn_all-turned.new.parts c.as_slice-coming.result.now before
    after c.in-Ok.ensures mail refl refl refl refl
    (ap (λ fs. fs.items) c.replace-flights.ensures.after ∙ c.new.ensures.items) refl
    c.new-journal.ensures (ap spread c.clear.ensures.items)
