-- One pattern more may have a channel that has no older message.
use Rattle.std.proofs.Common.{◌≡◌, ℕ, ◌<◌, List, [], ◌∷◌, length, get_or, sym, subst, ◌⊎◌, inl, inr}
use Rattle.std.specs.Prelude.{Option, Some, None, IfSome}
use Rattle.chem_model.specs.declared.name.Pat.{Pat}
use Rattle.chem_model.specs.Each.{IsIn}
use Rattle.book_store.specs.Keys.{Key}
use Rattle.book_store.specs.Watched.{IsBare}
use Rattle.book_store.proofs.Members.{at_in}

-- what is bare of one of the patterns is bare of all
one_of : (but : ℕ) (keys : List Key) (ps : List Pat) (p : Pat) (c : ℕ) → IsIn p ps
    → IsBare but keys (p ∷ []) c → IsBare but keys ps c
one_of but keys ps p c there h = record {
  pat = h.pat;
  within = it h.within;
  number = h.number;
  bare = h.bare;
  low = h.low;
  other = h.other;
}
  where
    it : (h.pat ≡ p) ⊎ ⊥ → IsIn h.pat ps
    it (inl same) = subst (λ (q : Pat). IsIn q ps) (sym same) there
    it (inr no_more) = absurd no_more

pub chosen_next : (but : ℕ) (keys : List Key) (ps : List Pat) (i : ℕ) (p : Pat) (old new : Option ℕ)
    → i < length ps → p ≡ get_or ps i p → (new ≡ old) ⊎ IfSome new (IsBare but keys (p ∷ []))
    → IfSome old (IsBare but keys ps) → IfSome new (IsBare but keys ps)
chosen_next but keys ps i p old new low e chosen found = go chosen
  where
    this : (o : Option ℕ) → IfSome o (IsBare but keys (p ∷ [])) → IfSome o (IsBare but keys ps)
    this None h = tt
    this (Some c) h = one_of but keys ps p c (at_in ps i p low e) h

    go : (new ≡ old) ⊎ IfSome new (IsBare but keys (p ∷ [])) → IfSome new (IsBare but keys ps)
    go (inl same) = subst (λ o. IfSome o (IsBare but keys ps)) (sym same) found
    go (inr is) = this new is
