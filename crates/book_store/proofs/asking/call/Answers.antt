-- One request after another is called; whoever waits within the location has one of the keys.
use Rattle.std.proofs.Common.{List, sym, subst}
use Rattle.chem_model.specs.Each.{IsIn}
use Rattle.chem_model.specs.Numbered.{standing}
use Rattle.book_store.specs.Keys.{Key}
use Rattle.book_store.specs.Asked.{IsCalledAt}
use Rattle.book_store.proofs.KeyRange.{key_at, key_is, one_more, at_last}
use Rattle.book_store.proofs.AskLaws.{id_of, keeps_on, called_kept, all_called, older_differ}
use Rattle.book_store.proofs.asking.call.Goals as goal

pub returns-in_err-call_one-clause-kept : goal.returns-in_err-call_one-clause-kept
returns-in_err-call_one-clause-kept c = keeps_on c.args.asking.now c.loop-key.asking
    c.call_one.new.asking c.loop-key.invariant.0 c.in_err-call_one.ensures.kept

pub loop-key-preserved : goal.loop-key-preserved
loop-key-preserved c =
    let pl = standing c.args.numbered.now.places in
    let old = c.loop-key.asking in
    let new = c.call_one.new.asking in
    let atoms = c.args.table.now in
    let slice = c.as_slice-key-items.result.now in
    let i = c.loop-key.key-index in
    let low = c.loop-key-test.true in
    let kept = c.in_ok-call_one.ensures.kept in (
      keeps_on c.args.asking.now old new c.loop-key.invariant.0 kept,
      one_more (λ (k : Key). IsCalledAt pl old c.args.of atoms (id_of k.1))
          (λ (k : Key). IsCalledAt pl new c.args.of atoms (id_of k.1)) slice i (key_at slice i) low
          (key_is slice i low) (λ k. called_kept pl old new kept c.args.of atoms (id_of k.1))
          c.in_ok-call_one.ensures.called c.loop-key.invariant.1,
    )

pub returns-clause-called : goal.returns-clause-called
returns-clause-called c =
    let n = c.args.numbered.now in
    let new = c.loop-key.asking in
    let slice = c.as_slice-key-items.result.now in
    let same = c.as_slice-key-items.ensures.value in
    all_called n c.args.asking.now new c.args.of c.args.table.now slice c.requires.base
    (older_differ n c.args.table.now c.requires.sound)
    (λ k at near. subst (λ (l : List Key). IsIn k l) (sym same) (c.in_ok-waiting.ensures k at near))
    c.loop-key.invariant.0
    (at_last (λ (k : Key). IsCalledAt (standing n.places) new c.args.of c.args.table.now
    (id_of k.1)) slice c.loop-key.key-index c.loop-key-test.false c.loop-key.invariant.1)
    c.requires.asked
