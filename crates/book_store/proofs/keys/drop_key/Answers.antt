use Rattle.std.proofs.Common.{◌≡◌, sym, subst, ◌⊎◌, List}
use Rattle.chem_model.specs.Each.{IsIn}
use Rattle.book_store.specs.Keys.{Key}
use Rattle.book_store.proofs.KeyLaws.{others_stay}
use Rattle.book_store.proofs.Only.{none_comes}
use Rattle.book_store.proofs.keys.drop_key.Goals as goal

pub returns-clause-kept : goal.returns-clause-kept
returns-clause-kept c = λ k at. subst (λ (ks : List Key). (k ≡ c.args.key) ⊎ IsIn k ks)
    (sym c.remove.ensures.keys) (others_stay c.args.key c.args.keys.now.keys k at)

pub returns-clause-fewer : goal.returns-clause-fewer
returns-clause-fewer c = λ k at. none_comes c.args.key c.args.keys.now.keys k
    (subst (λ (ks : List Key). IsIn k ks) c.remove.ensures.keys at)
