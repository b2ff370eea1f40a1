use Rattle.std.proofs.Common.{inr}
use Rattle.book_store.proofs.KeyRange.{key_at, key_is, one_gone, all_gone}
use Rattle.book_store.proofs.waiting.forget_filed.Goals as goal

pub loop-key-init : goal.loop-key-init
loop-key-init c = λ k at. inr at

pub loop-key-preserved : goal.loop-key-preserved
loop-key-preserved c = λ k at. one_gone c.args.keys.now c.loop-key.filed.keys
    c.drop_key.new.keys.keys c.loop-key.key-index (key_at c.args.keys.now c.loop-key.key-index)
    c.loop-key-test.true (key_is c.args.keys.now c.loop-key.key-index c.loop-key-test.true)
    c.drop_key.ensures.kept k (c.loop-key.invariant k at)

pub returns : goal.returns
returns c = λ k at. all_gone c.args.keys.now c.loop-key.filed.keys c.loop-key.key-index
    c.loop-key-test.false k (c.loop-key.invariant k at)
