use Rattle.std.proofs.Common.{◌≡◌, List, ◌⊎◌, inl, inr, ap}
use Rattle.chem_model.specs.Each.{IsIn}
use Rattle.book_store.specs.Keys.{Key}
use Rattle.book_store.proofs.candidates.drop_candidate.Goals as goal

by_number : (k key : Key) (keys : List Key) → (k ≡ key) ⊎ IsIn k keys → (k.1 ≡ key.1) ⊎ IsIn k keys
by_number k key keys (inl same) = inl (ap (λ (j : Key). j.1) same)
by_number k key keys (inr there) = inr there

pub returns-clause-sites : goal.returns-clause-sites
returns-clause-sites c = λ k at. by_number k (c.args.site, c.args.id) c.drop_key-2.new.keys.keys
    (c.drop_key-2.ensures.kept k at)

pub returns-clause-places : goal.returns-clause-places
returns-clause-places c = λ k at. by_number k (c.place_number.result, c.args.id)
    c.drop_key.new.keys.keys (c.drop_key.ensures.kept k at)
