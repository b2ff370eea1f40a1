-- A call at one of the sites of a list, as at that site alone.
use Rattle.std.proofs.Common.{◌≡◌, ℕ, List, Some, Result, Ok, Err, sym, subst, slice_get}
use Rattle.std.specs.Prelude.{slice_index_or, IfOk}
use Rattle.std.proofs.lemmas.Option.{get_or_from_slice_get}
use Rattle.net_laws.specs.Site.{Site}

module _ (sites : List Site) (i : ℕ) (d : Site) where
  -- what is asked of it
  pub asked_at : (P : Site → Type 0) (s : Site) → slice_get sites i ≡ Some s → P s
      → P (slice_index_or sites i d)
  asked_at P s at p = subst P (sym (get_or_from_slice_get sites i s d at)) p

  -- what it leaves
  pub made_at : {A E : Type 0} (Q : A → Type 0) (P : Site → A → Type 0)
      → ((x : A) → Q x → P (slice_index_or sites i d) x) → (r : Result A E) → IfOk r Q
      → IfOk r (λ x. (s : Site) → slice_get sites i ≡ Some s → P s x)
  made_at Q P makes (Ok x) q =
      λ s at. subst (λ (u : Site). P u x) (get_or_from_slice_get sites i s d at) (makes x q)
  made_at Q P makes (Err e) q = tt
