-- How far the source is read, by the status.
use Rattle.std.proofs.Common.{◌≡◌, ℕ, List, [], Option, Some, None, inl}
use Rattle.std.proofs.Common.{refl, sym, subst, lit≤}
use Rattle.join_base.specs.Bytes.{TakesAtMost}
use Rattle.join_top.specs.Task.{ReadOrRing}
use Rattle.join_top.specs.RunJoin.{IsReadAt, IsReadToEnd}
use Rattle.join_top.specs.inside.Ran.{ReadsAll}

pub nothing_taken : (left : Option (List ℕ)) → TakesAtMost left left 1048576
nothing_taken None = ([], tt, lit≤ tt)
nothing_taken (Some bytes) = ([], refl, lit≤ tt)

pub both : (ring : Option ℕ) (P Q : Type 0) → P → Q → ReadOrRing ring P Q
both None P Q p q = p
both (Some size) P Q p q = q

pub weaker : (ring : Option ℕ) (P P' Q : Type 0) → (P → P') → ReadOrRing ring P Q
    → ReadOrRing ring P' Q
weaker None P P' Q f p = f p
weaker (Some size) P P' Q f q = q

module _ {S : Type 0} (left : S → Option (List ℕ)) where
  -- a source that was read to its end, by a run that was asked for with this ring
  pub read_all : (asked ring : Option ℕ) (status : ℕ) (old new : S) → asked ≡ ring
      → (status ≡ 2 → ⊥)
      → ReadsAll ring left old new → ReadOrRing asked (IsReadAt S status left old new) (new ≡ old)
  read_all asked ring status old new e no_usage h =
      let at : IsReadToEnd (left old) (left new) → IsReadAt S status left old new = λ all. record {
        usage = λ u. absurd (no_usage u);
        run = λ _. all;
        refused = λ _. inl all;
        cut_short = λ _. all.0;
      } in
      weaker asked _ _ _ at (subst (λ (r : Option ℕ). ReadsAll r left old new) (sym e) h)
