-- All patterns were looked at.
use Rattle.std.proofs.Common.{◌≡◌, ◌++◌, ℕ, length, sym, ap, ◌∙◌, ◌==◌, arith}
use Rattle.chem_plain.proofs.Received.{received_end}
use Rattle.book_store.proofs.possible.meet_all.Goals as goal

pub returns : goal.returns
returns c =
    let same = ap length c.as_slice-pat-items.ensures.members in
    let at_end : c.loop-index.index ≡ length c.args.pats.now = omega (arith, same) in
    let end = received_end (c.args.older.now.table ++ c.args.numbered.now.atoms)
    c.args.at c.args.pats.now c.args.took.now c.loop-index.index at_end c.loop-index.invariant.0 in
    ap (λ (k : ℕ). k == c.len-2.result) c.len.ensures.count
    ∙ ap (λ (k : ℕ). length c.args.took.now == k) (c.len-2.ensures.count ∙ sym at_end) ∙ sym end
    ∙ c.loop-index.invariant.1
