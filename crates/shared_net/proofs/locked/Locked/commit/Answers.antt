-- The receipt's place is the journal's former length, which is past the places of the others. Where
-- no event is made, the receipt is cut off again.
use Rattle.std.proofs.Common.{◌≡◌, ℕ, ◌<◌, ◌≤◌, List, [], ◌∷◌, length, length-append, ap, sym, ◌∙◌}
use Rattle.std.proofs.Common.{subst, rules, arith}
use Rattle.chem_model.specs.declared.event.Event.{Event}
use Rattle.shared_net.specs.declared.receipt.Receipt.{Receipt}
use Rattle.shared_net.specs.Passes.{PassKept, Rise, next_place}
use Rattle.shared_net.specs.Proposes.{with_receipt}
use Rattle.shared_net.proofs.Rising.{rise-append, next-append, cut-back}
use Rattle.shared_net.proofs.locked.Locked.commit.Goals as goal

pub invariant_of-pass-in-Ok-Place : goal.invariant_of-pass-in-Ok-Place
invariant_of-pass-in-Ok-Place g c =
    let held = c.pass.inside in
    let r : Receipt = record { place = c.len-place.result; event = c.in_ok-copy.copy } in
    let later : next_place 0 held.receipts ≤ r.place = search rules in
    let below : r.place < held.budget = search rules in
    rw c.in_ok-push.ensures.ok (
      rise-append 0 held.budget held.receipts r c.pass.invariant.0 later below,
      sym (next-append 0 held.receipts r),
      c.add.ensures.parts ∙ c.pass.invariant.2,
      omega (arith, c.add.ensures.amount, c.pass.invariant.3, length-append held.receipts (r ∷ [])),
    )

pub returns-in-Ok-Place-clause-receipt : goal.returns-in-Ok-Place-clause-receipt
returns-in-Ok-Place-clause-receipt g c =
    let held = c.pass.inside in
    let journal = c.args.self.now.book.journal in
    let old : PassKept = record {
      number = held.number;
      budget = held.budget;
      receipts = held.receipts;
      idle = held.idle;
      full = held.full;
    } in
    let place : c.len-place.result ≡ length journal = search rules in
    ap (λ (rs : List Receipt). record {
      number = held.number;
      budget = held.budget;
      receipts = rs;
      idle = held.idle;
      full = held.full;
    }) c.in_ok-push.ensures.ok
    ∙ ap (λ (k : ℕ). with_receipt old k c.in_ok-copy.copy) place
    ∙ ap (λ (e : Event). with_receipt old (length journal) e) c.in_ok-copy.ensures
    ∙ ap (λ (p : PassKept). with_receipt p (length journal) c.args.event.now) c.pass.view_is

pub invariant_of-pass-in-Ok-NotEnabled : goal.invariant_of-pass-in-Ok-NotEnabled
invariant_of-pass-in-Ok-NotEnabled g c =
    let held = c.pass.inside in
    let r : Receipt = record { place = c.len-place.result; event = c.in_ok-copy.copy } in
    let same = cut-back c.len-count.result held.receipts c.push.new.self c.truncate.new.self r
    c.len-count.ensures.count c.in_ok-push.ensures.ok c.truncate.ensures in
    subst (λ (rs : List Receipt). Rise 0 held.budget rs × (held.next ≡ next_place 0 rs)
    × (held.share.parts ≡ 1) × (held.share.amount ≡ length rs)) (sym same) c.pass.invariant

pub returns-in-Ok-NotEnabled-clause-receipt : goal.returns-in-Ok-NotEnabled-clause-receipt
returns-in-Ok-NotEnabled-clause-receipt g c =
    let held = c.pass.inside in
    let r : Receipt = record { place = c.len-place.result; event = c.in_ok-copy.copy } in
    let same = cut-back c.len-count.result held.receipts c.push.new.self c.truncate.new.self r
    c.len-count.ensures.count c.in_ok-push.ensures.ok c.truncate.ensures in
    ap (λ (rs : List Receipt). record {
      number = held.number;
      budget = held.budget;
      receipts = rs;
      idle = held.idle;
      full = held.full;
    }) same ∙ c.pass.view_is

pub invariant_of-pass-in-Err : goal.invariant_of-pass-in-Err
invariant_of-pass-in-Err g c =
    let held = c.pass.inside in
    let r : Receipt = record { place = c.len-place.result; event = c.in_ok-copy.copy } in
    let same =
    cut-back c.len-count.result held.receipts c.push.new.self c.truncate-in-Err.new.self r
    c.len-count.ensures.count c.in_ok-push.ensures.ok c.truncate-in-Err.ensures in
    subst (λ (rs : List Receipt). Rise 0 held.budget rs × (held.next ≡ next_place 0 rs)
    × (held.share.parts ≡ 1) × (held.share.amount ≡ length rs)) (sym same) c.pass.invariant

pub returns-in-Err-clause-err : goal.returns-in-Err-clause-err
returns-in-Err-clause-err g c =
    let held = c.pass.inside in
    let r : Receipt = record { place = c.len-place.result; event = c.in_ok-copy.copy } in
    let same =
    cut-back c.len-count.result held.receipts c.push.new.self c.truncate-in-Err.new.self r
    c.len-count.ensures.count c.in_ok-push.ensures.ok c.truncate-in-Err.ensures in (
      c.in-Err.ensures.err,
      ap (λ (rs : List Receipt). record {
        number = held.number;
        budget = held.budget;
        receipts = rs;
        idle = held.idle;
        full = held.full;
      }) same ∙ c.pass.view_is,
    )
