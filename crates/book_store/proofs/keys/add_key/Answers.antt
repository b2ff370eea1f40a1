use Rattle.std.proofs.Common.{inr, sym, subst, List}
use Rattle.chem_model.specs.Each.{IsIn}
use Rattle.book_store.specs.Keys.{Key}
use Rattle.book_store.proofs.KeyLaws.{added, kept}
use Rattle.book_store.proofs.Only.{only_added}
use Rattle.book_store.proofs.keys.add_key.Goals as goal

pub returns-in-Ok-clause-there : goal.returns-in-Ok-clause-there
returns-in-Ok-clause-there c = subst (λ (ks : List Key). IsIn c.args.key ks)
    (sym c.in-Ok.ensures.keys) (added c.args.key c.args.keys.now.keys)

pub returns-in-Ok-clause-kept : goal.returns-in-Ok-clause-kept
returns-in-Ok-clause-kept c = λ k at. subst (λ (ks : List Key). IsIn k ks)
    (sym c.in-Ok.ensures.keys) (kept c.args.key c.args.keys.now.keys k at)

pub returns-in-Err-clause-kept : goal.returns-in-Err-clause-kept
returns-in-Err-clause-kept c = λ k at. subst (λ (ks : List Key). IsIn k ks)
    (sym c.in-Err.ensures.err) at

pub returns-in-Ok-clause-only : goal.returns-in-Ok-clause-only
returns-in-Ok-clause-only c = λ k at. only_added c.args.key c.args.keys.now.keys k
    (subst (λ (ks : List Key). IsIn k ks) c.in-Ok.ensures.keys at)

pub returns-in-Err-clause-only : goal.returns-in-Err-clause-only
returns-in-Err-clause-only c = λ k at. inr (subst (λ (ks : List Key). IsIn k ks)
    c.in-Err.ensures.err at)
