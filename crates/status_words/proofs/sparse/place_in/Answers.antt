use Rattle.std.proofs.Common.{◌≡◌, ◌+◌, ◌∙◌, true, false, cond, suc, drop, get_or, sym, ap}
use Rattle.std.proofs.Common.{arith}
use Rattle.std.specs.Prelude.{nat_lt}
use Rattle.std.proofs.lemmas.Bool.Decides.{nat_tests}
use Rattle.status_words.specs.inside.Kept.{place_in, word_of}
use Rattle.status_words.proofs.KeptWords.{place-here, place-past}
use Rattle.status_words.proofs.sparse.place_in.Goals as goal

pub loop-at-init : goal.loop-at-init
loop-at-init c = omega arith

pub loop-at-preserved : goal.loop-at-preserved
loop-at-preserved c =
    let ws = c.args.words.now in
    let i = c.loop-at.at in
    let k = c.args.place in
    let rest = place_in (drop (i + 1) ws) k in
    let less = c.if-words-at.false in
    let test : nat_lt (get_or ws i (word_of 0 0)).place k ≡ true = grind (arith, nat_tests) in
    let here = place-here ws i k (word_of 0 0) c.loop-at-test.true in
    let more : i + suc rest ≡ i + 1 + rest = omega arith in
    c.loop-at.invariant ∙ ap (λ n. i + n) (here ∙ ap (λ t. cond t (suc rest) 0) test) ∙ more

pub returns-then-words-at : goal.returns-then-words-at
returns-then-words-at c =
    let ws = c.args.words.now in
    let i = c.loop-at.at in
    let k = c.args.place in
    let rest = place_in (drop (i + 1) ws) k in
    let most = c.if-words-at.true in
    let test : nat_lt (get_or ws i (word_of 0 0)).place k ≡ false = grind (arith, nat_tests) in
    let here = place-here ws i k (word_of 0 0) c.loop-at-test.true in
    let none : i + 0 ≡ i = omega arith in
    sym (c.loop-at.invariant ∙ ap (λ n. i + n) (here ∙ ap (λ t. cond t (suc rest) 0) test) ∙ none)

pub returns : goal.returns
returns c =
    let inv = c.loop-at.invariant in
    let past = place-past c.args.words.now c.loop-at.at c.args.place c.loop-at-test.false in
    omega (arith, inv, past, c.loop-at.auto.at-end, c.loop-at-test.false)
