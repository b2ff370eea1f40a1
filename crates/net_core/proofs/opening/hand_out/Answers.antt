use Rattle.std.proofs.Common.{◌≡◌, ◌+◌, ◌++◌, ◌∙◌, ℕ, replicate, length, refl, ap, rules}
use Rattle.net_core.specs.declared.parts.Parts.{Parts}
use Rattle.net_core.specs.inside.Runs.{spread}
use Rattle.net_core.specs.inside.Starting.{HandsOut}
use Rattle.net_core.proofs.Fitting.{on_ok_both}
use Rattle.net_core.proofs.opening.hand_out.Goals as goal

pub returns : goal.returns
returns c =
    let e = c.args.effects in
    let old = c.args.parts.now in
    let was = c.args.senders.now.items in
    let last = c.send.new in
    let new : Parts = record {
      version = old.version;
      sites = old.sites;
      tree = old.tree;
      trace = c.add_piece.new.pieces;
      flights = last.flights;
      under_way = last.under_way;
    } in
    on_ok_both (last.flights.items ≡ old.flights.items ++ e.sends)
    (last.under_way ≡ old.under_way + length e.sends)
    (HandsOut c.args.number e old was new c.push_run.new.runs.items) c.send.result
    (λ flights count. record {
      version = refl;
      sites = refl;
      tree = refl;
      trace = search rules;
      flights = flights;
      count = count;
      few = λ low. c.send.ensures.few;
      sent = c.in_ok-push_run.ensures
          ∙ ap (λ (k : ℕ). spread was ++ replicate k c.args.number) c.len.ensures.count;
    })
    c.send.ensures.flights c.send.ensures.count
