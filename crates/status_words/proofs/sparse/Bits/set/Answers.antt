use Rattle.std.proofs.Common.{◌*◌, ◌^◌, ◌%◌, ◌/◌, sym, subst, arith}
use Rattle.status_words.specs.inside.Kept.{words_from, AreRising}
use Rattle.status_words.proofs.KeptWords.{words-many, put-rising, put-words, set-past}
use Rattle.status_words.proofs.sparse.Bits.set.Goals as goal

pub returns-then-place-self-clause-ok : goal.returns-then-place-self-clause-ok
returns-then-place-self-clause-ok c = rw (← c.self.view_is)
    (set-past (words_from c.self.inside.words.items 0 c.self.inside.count) (c.args.bit / 64) _
    (omega (arith, words-many c.self.inside.words.items 0 c.self.inside.count)))

pub invariant_of-self : goal.invariant_of-self
invariant_of-self c = subst (λ ws. AreRising 0 c.self.inside.count ws)
    (sym c.in_err-put.ensures.err) c.self.invariant

pub invariant_of-self-2 : goal.invariant_of-self-2
invariant_of-self-2 c = subst (λ ws. AreRising 0 c.self.inside.count ws)
    (sym c.in_ok-put.ensures.ok)
    (put-rising c.self.inside.words.items (c.args.bit / 64) (1 * 2 ^ (c.args.bit % 64) % 2 ^ 64) 0
    c.self.inside.count c.self.invariant (omega arith) (omega arith) (omega arith))

pub returns-clause-ok : goal.returns-clause-ok
returns-clause-ok c = rw (← c.self.view_is, c.in_ok-put.ensures.ok)
    (put-words c.self.inside.words.items (c.args.bit / 64) (1 * 2 ^ (c.args.bit % 64) % 2 ^ 64)
    c.self.inside.count c.self.invariant (omega arith))
