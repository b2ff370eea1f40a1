use Rattle.std.proofs.Common.{◌≡◌, true, false, Some, length, refl, sym, ap, ◌∙◌, arith}
use Rattle.std.specs.Prelude.{slice_get}
use Rattle.std.proofs.lemmas.Option.{slice_get_read}
use Rattle.status_words.specs.inside.Kept.{place_in, is_at}
use Rattle.status_words.proofs.KeptWords.{place-within, at-within, hit-at, miss-at}
use Rattle.status_words.proofs.sparse.put.Goals as goal

pub returns-then-is_at-clause-ok : goal.returns-then-is_at-clause-ok
returns-then-is_at-clause-ok c =
    let ws = c.args.words.now.items in
    let k = c.args.place in
    let i = c.place_in-at.result in
    let is : i ≡ place_in ws k =
    c.place_in-at.ensures ∙ ap (λ vs. place_in vs k) c.deref.ensures.value in
    let hit : is_at (slice_get ws i) k ≡ true =
    sym (c.is_at.ensures ∙ ap (λ vs. is_at (slice_get vs i) k) c.deref-2.ensures.value)
    ∙ c.if-is_at.true in
    let read : slice_get ws i ≡ Some c.index.result.now =
    slice_get_read ws (length ws) i c.index.result.now refl (at-within ws i k hit)
    c.index.ensures in
    hit-at ws k c.args.bits i c.index.result.now is read hit

pub insert-requires : goal.insert-requires
insert-requires c =
    let ws = c.args.words.now.items in
    let k = c.args.place in
    let is : c.place_in-at.result ≡ place_in ws k =
    c.place_in-at.ensures ∙ ap (λ vs. place_in vs k) c.deref.ensures.value in
    let held = c.args.words.now.ok in
    omega (arith, is, held, place-within ws k)

pub returns-clause-ok : goal.returns-clause-ok
returns-clause-ok c =
    let ws = c.args.words.now.items in
    let k = c.args.place in
    let i = c.place_in-at.result in
    let is : i ≡ place_in ws k =
    c.place_in-at.ensures ∙ ap (λ vs. place_in vs k) c.deref.ensures.value in
    let miss : is_at (slice_get ws i) k ≡ false =
    sym (c.is_at.ensures ∙ ap (λ vs. is_at (slice_get vs i) k) c.deref-2.ensures.value)
    ∙ c.if-is_at.false in
    c.in_ok-insert.ensures.items ∙ miss-at ws k c.args.bits i is miss
