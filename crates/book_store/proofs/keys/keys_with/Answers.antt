-- One key more was copied.
use Rattle.std.proofs.Common.{List, sym, subst}
use Rattle.chem_model.specs.Each.{IsIn}
use Rattle.book_store.specs.Keys.{Key}
use Rattle.book_store.proofs.KeyRange.{Copies, none_copied, one_copied, all_copied, no_keys}
use Rattle.book_store.proofs.keys.keys_with.Goals as goal

pub loop-key-init : goal.loop-key-init
loop-key-init c =
    let n = c.args.number in
    let keys = c.args.keys.now.keys in
    let list = c.new-list.result.items in
    let found = c.range_of-key-items.result in
    subst (λ (l : List Key). Copies n keys list l)
    (sym c.into_iter-key-iterator.ensures.into_iter_gives)
    (none_copied n keys list found c.new-list.ensures.items c.range_of-key-items.ensures.all
    c.range_of-key-items.ensures.only)

pub loop-key-preserved : goal.loop-key-preserved
loop-key-preserved c = one_copied c.args.number c.args.keys.now.keys c.loop-key.list.items
    c.push.new.self.items c.loop-key.key-iterator c.next.new.self c.in-Some.key.now
    c.in-Some.ensures.steps c.in_ok-push.ensures.items c.loop-key.invariant

pub returns-clause-all : goal.returns-clause-all
returns-clause-all c = all_copied c.args.number c.args.keys.now.keys c.loop-key.list.items
    c.loop-key.key-iterator c.in-None.ensures.steps.0 c.loop-key.invariant

pub returns-clause-only : goal.returns-clause-only
returns-clause-only c = c.loop-key.invariant.only

pub returns-then-is_empty-clause-all : goal.returns-then-is_empty-clause-all
returns-then-is_empty-clause-all c = λ k at same.
    absurd (no_keys c.args.keys.now.keys k (c.is_empty.ensures.0 c.if-is_empty.true) at)

pub returns-then-is_empty-clause-only : goal.returns-then-is_empty-clause-only
returns-then-is_empty-clause-only c = λ k at.
    absurd (subst (λ (l : List Key). IsIn k l) c.new-list.ensures.items at)
