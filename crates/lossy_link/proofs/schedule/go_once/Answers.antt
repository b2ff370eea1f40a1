use Rattle.std.proofs.Common.{◌≤◌, ◌<◌, ℕ, Option, length, subst, rules}
use Rattle.lossy_link.specs.declared.step.Step.TheVariants.{Send}
use Rattle.lossy_link.specs.Links.{HasLeast}
use Rattle.lossy_link.specs.Whole.{links_of}
use Rattle.lossy_link.proofs.Counting.{counted_sent}
use Rattle.lossy_link.proofs.Settled.{as_before, bare_wire, once_turned, once_sent}
use Rattle.lossy_link.proofs.Settled.{not_settled, not_acknowledged}
use Rattle.lossy_link.proofs.Wanting.{on_err}
use Rattle.lossy_link.proofs.schedule.go_once.Goals as goal

pub returns-then-len-gt0-clause-goes : goal.returns-then-len-gt0-clause-goes
returns-then-len-gt0-clause-goes c =
    let some : 0 < length c.args.parts.now.wire = search rules in
    once_turned (links_of c.args.parts.now) (links_of c.turn.new.parts) c.args.kind
    c.next_of.result c.args.counts.now c.turn.new.counts some c.next_of.ensures
    c.in_ok-turn.ensures.turned

pub returns-in_ok-send-in-Some-clause-goes : goal.returns-in_ok-send-in-Some-clause-goes
returns-in_ok-send-in-Some-clause-goes c =
    let old = links_of c.args.parts.now in
    let new = links_of c.send.new.parts in
    let low : length c.args.parts.now.wire ≤ 0 = search rules in
    let bare = bare_wire c.args.parts.now.wire low in
    let found = c.in-Some.found in
    let least = subst (λ (o : Option (ℕ × ℕ × ℕ)). HasLeast c.args.parts.now.lines o) c.in-Some.is
    c.least_open.ensures in
    once_sent old new c.args.kind found.0 found.1 found.2 least.0 c.args.counts.now
    (record c.args.counts.now { sent = c.one_more-counts.result }) bare c.requires.kind least.1
    c.in_ok-send-in-Some.ensures.steps
    (as_before old new (Send found.0 found.1 found.2) c.in_ok-send-in-Some.ensures.steps
    c.in_ok-send-in-Some.ensures.leads)
    (counted_sent c.args.counts.now c.one_more-counts.result c.one_more-counts.ensures)

pub returns-in_err-turn-clause-left : goal.returns-in_err-turn-clause-left
returns-in_err-turn-clause-left c =
    let some : 0 < length c.args.parts.now.wire = search rules in
    on_err c.from_residual.result (not_settled (links_of c.args.parts.now) some)

pub returns-in_err-send-in-Some-clause-left : goal.returns-in_err-send-in-Some-clause-left
returns-in_err-send-in-Some-clause-left c =
    let found = c.in-Some.found in
    let least = subst (λ (o : Option (ℕ × ℕ × ℕ)). HasLeast c.args.parts.now.lines o) c.in-Some.is
    c.least_open.ensures in
    on_err c.from_residual-in_err-send-in-Some.result
    (not_acknowledged (links_of c.args.parts.now) found.0 found.1
    found.2 least.0 least.1)
