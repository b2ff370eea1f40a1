-- In a sound solution a name has one sort, since each made channel was given to one binder.
use Rattle.std.proofs.Common.{◌≡◌, ℕ, ◌+◌, ◌<◌, ◌≤◌, List, [], ◌∷◌, ◌++◌, Some, sym, ap, ◌∙◌, arith}
use Rattle.std.proofs.Common.{inl, inr}
use Rattle.chem_model.specs.declared.name.Loc.{Loc}
use Rattle.chem_model.specs.declared.name.Name.{Name}
use Rattle.chem_model.specs.declared.name.Name.TheVariants as name
use Rattle.chem_model.specs.declared.name.Ref.{Ref}
use Rattle.chem_model.specs.declared.name.Ref.TheVariants.{Binder, Known}
use Rattle.chem_model.specs.declared.numbered.Named.{Named}
use Rattle.chem_model.specs.declared.numbered.Numbered.{Numbered}
use Rattle.chem_model.specs.Bag.{bag}
use Rattle.chem_model.specs.Each.{IsIn}
use Rattle.chem_model.specs.Fill.{Naming}
use Rattle.chem_model.specs.NewNames.{Pair, coded_pair}
use Rattle.chem_model.specs.Numbered.{channel_pair, channel_pairs}
use Rattle.chem_model.specs.Sound.{IsSound}
use Rattle.chem_laws.proofs.Bags.{one_self, bag-append}
use Rattle.sort_laws.specs.declared.sorts.SortArg.{SortArg}
use Rattle.sort_laws.specs.declared.sorts.SortArg.TheVariants as arg
use Rattle.sort_laws.specs.Sorted.{Sorting, HasSort, RefHas, IsChannel}

-- how often a pair is one of a channel that was given
abbrev counted : Naming → ℕ → ℕ → ℕ
counted m s k = bag coded_pair (channel_pairs m) (s, k)

head_counted : (x : Name) (rest : List Pair) (s k : ℕ) (h : Loc) → x ≡ name.Chan s k h
    → bag coded_pair (channel_pair x ++ rest) (s, k) ≡ 1 + bag coded_pair rest (s, k)
head_counted x rest s k h e = ap (λ y. bag coded_pair (channel_pair y ++ rest) (s, k)) e
    ∙ ap (λ i. i + bag coded_pair rest (s, k)) (one_self coded_pair (s, k))

behind_counted : (x : Name) (rest : List Pair) (s k : ℕ)
    → bag coded_pair rest (s, k) ≤ bag coded_pair (channel_pair x ++ rest) (s, k)
behind_counted x rest s k = omega (arith, bag-append coded_pair (channel_pair x) rest (s, k))

entry_counted : (m : Naming) (e : Named) (s k : ℕ) (h : Loc) → IsIn e m → e.name ≡ name.Chan s k h
    → 0 < counted m s k
entry_counted [] e s k h i c = absurd i
entry_counted (x ∷ m) e s k h (inl i) c = omega
    (arith, head_counted x.name (channel_pairs m) s k h (ap (λ (y : Named). y.name) (sym i) ∙ c))
entry_counted (x ∷ m) e s k h (inr i) c =
    omega (arith, behind_counted x.name (channel_pairs m) s k, entry_counted m e s k h i c)

one_entry : (m : Naming) (e f : Named) (s k : ℕ) (h : Loc) → counted m s k ≤ 1 → IsIn e m → IsIn f m
    → e.name ≡ name.Chan s k h → f.name ≡ name.Chan s k h → e ≡ f
one_entry [] e f s k h few i j c d = absurd i
one_entry (x ∷ m) e f s k h few (inl i) (inl j) c d = i ∙ sym j
one_entry (x ∷ m) e f s k h few (inl i) (inr j) c d = absurd (omega (
  arith,
  head_counted x.name (channel_pairs m) s k h (ap (λ (y : Named). y.name) (sym i) ∙ c),
  entry_counted m f s k h j d,
))
one_entry (x ∷ m) e f s k h few (inr i) (inl j) c d = absurd (omega (
  arith,
  head_counted x.name (channel_pairs m) s k h (ap (λ (y : Named). y.name) (sym j) ∙ d),
  entry_counted m e s k h i c,
))
one_entry (x ∷ m) e f s k h few (inr i) (inr j) c d =
    one_entry m e f s k h (omega (arith, behind_counted x.name (channel_pairs m) s k)) i j c d

module _ (t : Sorting) (n : Numbered) (sound : IsSound n) where
  few : (s k : ℕ) → counted n.named s k ≤ 1
  few s k = omega (arith, sound.different (s, k))

  pub one_sort : (x : Name) (a b : SortArg) → HasSort t n.named x a → HasSort t n.named x b → a ≡ b
  one_sort (name.Seen i) a b h g = let is : Some a ≡ Some b = sym h ∙ g in cc
  one_sort (name.Place l) a b h g = h ∙ sym g
  one_sort (name.Num j) a b h g = h ∙ sym g
  one_sort (name.Op j) a b h g = absurd h
  one_sort (name.Chan s k l) a b h g =
      let same = one_entry n.named h.entry g.entry s k l (few s k) h.given g.given h.name g.name in
      let is : Some a ≡ Some b = sym h.sort ∙ ap (λ (e : Named). t.binder e.binder) same ∙ g.sort in
      cc

  pub ref_one_sort : (r : Ref) (a b : SortArg) → RefHas t n.named r a → RefHas t n.named r b → a ≡ b
  ref_one_sort (Binder c) a b h g = let is : Some a ≡ Some b = sym h ∙ g in cc
  ref_one_sort (Known x) a b h g = one_sort x a b h g

  pub one_channel : (r : Ref) (xs ys : List SortArg) → IsChannel t n.named r xs
      → IsChannel t n.named r ys → xs ≡ ys
  one_channel r xs ys h g =
      let same : arg.Named h.sort ≡ arg.Named g.sort =
      ref_one_sort r (arg.Named h.sort) (arg.Named g.sort) h.has g.has in
      let number : h.sort ≡ g.sort = cc in
      sym h.args ∙ ap (λ i. t.args i) number ∙ g.args
