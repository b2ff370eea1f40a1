-- Where the groups of each level begin: the walk up to a key, and what it tells of guards.
use Rattle.std.proofs.Common.{◌≡◌, ℕ, ◌+◌, ◌-◌, ◌<◌, Bool, true, false, List, [], ◌∷◌, length}
use Rattle.std.proofs.Common.{zero, suc, cond, Some, refl, sym, ap, subst, ◌∙◌, arith, inl, inr}
use Rattle.std.proofs.Common.{◌⊎◌, Result, Ok, Err, Option, None}
use Rattle.std.specs.Prelude.{slice_get, nat_lt, ◌==◌, ◌||◌, OnOk, IfSome}
use Rattle.std.specs.List.{list_any}
use Rattle.std.specs.List.Sorted.{IsStrictlySortedBy}
use Rattle.std.specs.declared.cmp.Ordering.TheVariants.{Less, Equal, Greater}
use Rattle.std.specs.Ordering.{ordering_then, nat_cmp, is_gt, ordering_reverse}
use Rattle.std.specs.BTreeMap.{is_at}
use Rattle.std.specs.BTreeSet.{Updates, IsLowerBound}
use Rattle.std.proofs.lemmas.Bool.Decides.{nat_tests}
use Rattle.chem_model.specs.declared.event.RuleId.{RuleId}
use Rattle.chem_model.specs.Each.{Each}
use Rattle.env_store.specs.CodeParts.{CodeParts}
use Rattle.net_laws.specs.Site.{Told, Group, told_in}
use Rattle.site_shelves.specs.Guards.{rule_at, precedes, FiresFirst}
use Rattle.site_shelves.specs.inside.Index.{Rise}
use Rattle.site_shelves.specs.inside.Covered.{Key, Keys, key_cmp, key_from, has, Levels, AreIndexed}
use Rattle.site_shelves.specs.inside.Begun.{rule_of, IsBegunAt, IsBegun, KeepsKeys}
use Rattle.site_shelves.specs.inside.Begun.{AgreesFrom, AgreesUntil}
use Rattle.site_shelves.specs.declared.told.NewGroup.{NewGroup}
use Rattle.site_shelves.specs.inside.New.{told_of_new, IsNewGroup}
use Rattle.site_shelves.proofs.Noting.{key-parts, below-or}
use Rattle.loc_tree.specs.Tree.{Tree}
use Rattle.site_shelves.specs.inside.Fired.{IsFiredBy, IsFirstFired}
use Rattle.site_shelves.proofs.FiredBy.{key-total, in-later, IsKnown, AreKnown, known-at}
use Rattle.site_shelves.proofs.FiredBy.{fires-first}

-- ---- what is noted stays

pub begun-kept : (old new : Keys) (level : ℕ) (rules : RuleId) → KeepsKeys old new
    → IsBegunAt old level rules → IsBegunAt new level rules
begun-kept old new level rules kept h = record {
  begin = h.begin;
  there = kept h.begin h.there;
  level_is = h.level_is;
  no_later = h.no_later;
}

pub all-kept : (old new : Keys) (ds : List Told) → KeepsKeys old new → Each (IsBegun old) ds
    → Each (IsBegun new) ds
all-kept old new [] kept h = tt
all-kept old new (d ∷ ds) kept h =
    (begun-kept old new d.inst.level d.inst.rules kept h.0, all-kept old new ds kept h.1)

pub key-added : (old new : Keys) (key : Key) → Updates key_cmp old new key true → KeepsKeys old new
key-added old new key updates q there = go (is_at (key_cmp key) q) (updates.0 q)
  where
    go : (b : Bool) → has new q ≡ cond b true (has old q) → has new q ≡ true
    go true e = e
    go false e = e ∙ there

pub where-ok : {A E : Type 0} (P : Type 0) (r : Result A E) → P → OnOk r P
where-ok P (Ok a) h = h
where-ok P (Err e) h = tt

-- one more group is noted
pub begun-next : (old new : Keys) (rs : List NewGroup) (n : ℕ) (r : NewGroup)
    → ((j : ℕ) (x : NewGroup) → j < n → slice_get rs j ≡ Some x → IsBegunAt old x.level x.rules)
    → KeepsKeys old new → slice_get rs n ≡ Some r → IsBegunAt new r.level r.rules → (j : ℕ)
    (x : NewGroup) → j < n + 1 → slice_get rs j ≡ Some x → IsBegunAt new x.level x.rules
begun-next old new rs n r before kept there here j x less at = elim (below-or j n less) [
  | inl lower ↦ begun-kept old new x.level x.rules kept (before j x lower at)
  | inr same ↦
      let is : Some r ≡ Some x = sym there ∙ ap (slice_get rs) (sym same) ∙ at in
      let r-is : r ≡ x = cc in
      subst (λ (y : NewGroup). IsBegunAt new y.level y.rules) r-is here
]

-- so it is of each group to come
pub all-begun : (ks : Keys) (rs : List NewGroup) → Each IsNewGroup rs
    → ((j : ℕ) (r : NewGroup) → slice_get rs j ≡ Some r → IsBegunAt ks r.level r.rules)
    → Each (IsBegun ks) (told_of_new rs)
all-begun ks [] are begun = tt
all-begun ks (r ∷ rs) are begun = (
  subst (λ (u : RuleId). IsBegunAt ks r.idle.told.inst.level u) (sym are.0.rules)
      (subst (λ (n : ℕ). IsBegunAt ks n r.rules) (sym are.0.level) (begun 0 r refl)),
  all-begun ks rs are.1 (λ j x at. begun (suc j) x at),
)

-- ---- rules behind one another

-- a rule no earlier than the beginning, and none behind the key: nor is the beginning, or what is as
-- many places from it
pub up-to : (key begin : Key) (r : RuleId) (i : ℕ) → precedes r (rule_of begin) ≡ false
    → precedes (rule_of key) (record { site = r.site; k = r.k + i }) ≡ false
    → precedes (rule_of key) (rule_of (key_from begin i)) ≡ false
up-to key begin r i no_later not_behind = grind (arith, nat_tests)

pub first-up-to : (key begin : Key) (i : ℕ)
    → precedes (rule_of key) (rule_of (key_from begin i)) ≡ false
    → precedes (rule_of key) (rule_of begin) ≡ false
first-up-to key begin i not_behind = grind (arith, nat_tests)

-- a rule that isn't behind the key's rule, told by a rule that is the same
pub same-rule : (key : Key) (u r : RuleId) → u.site ≡ key.0 → u.k ≡ key.1 → precedes u r ≡ false
    → precedes (rule_of key) r ≡ false
same-rule key u r site number not_behind = grind (arith, nat_tests)

behind-less : (key p q : Key) → precedes (rule_of key) (rule_of p) ≡ true → key_cmp p q ≡ Less
    → precedes (rule_of key) (rule_of q) ≡ true
behind-less key p q behind less = go (nat_lt p.0 q.0) refl (p.0 == q.0) refl (nat_lt p.1 q.1) refl
    (p.1 == q.1) refl less
  where
    go : (a : Bool) → nat_lt p.0 q.0 ≡ a → (b : Bool) → (p.0 == q.0) ≡ b → (x : Bool)
        → nat_lt p.1 q.1 ≡ x → (y : Bool) → (p.1 == q.1) ≡ y
        → ordering_then (ordering_then (cond a Less (cond b Equal Greater))
        (cond x Less (cond y Equal Greater))) (nat_cmp p.2 q.2) ≡ Less
        → precedes (rule_of key) (rule_of q) ≡ true
    go true ea b eb x ex y ey e = grind (arith, nat_tests)
    go false ea true eb true ex y ey e = grind (arith, nat_tests)
    go false ea true eb false ex true ey e = grind (arith, nat_tests)
    go false ea true eb false ex false ey e = cc
    go false ea false eb x ex y ey e = cc

-- ---- the walk

module _ (c : CodeParts) (levels : Levels) (key : Key) (all : Keys) where
  -- of what isn't left the level agrees
  pub record AreAhead (left : List Key) : Type 0 where
    pub sorted : IsStrictlySortedBy key_cmp left
    pub done :
        (q : Key) → has all q ≡ true
        → AgreesFrom c levels key q ⊎ (list_any (is_at (key_cmp q)) left ≡ true)

  -- a key with the same parts
  agrees-same : (q k : Key) → is_at (key_cmp q) k ≡ true → AgreesFrom c levels key k
      → AgreesFrom c levels key q
  agrees-same q k e h =
      let same = key-parts q k e in
      let is : k ≡ q = ap (λ x. (x, k.1, k.2)) (sym same.0)
      ∙ ap (λ x. (q.0, x, k.2)) (sym same.1) ∙ ap (λ x. (q.0, q.1, x)) (sym same.2) in
      subst (λ (p : Key). AgreesFrom c levels key p) is h

  pub agrees-next : (k : Key) (left : List Key) → AreAhead (k ∷ left) → AgreesFrom c levels key k
      → AreAhead left
  unfolding IsStrictlySortedBy
  agrees-next k left are here = record {
    sorted = are.sorted.1;
    done = λ q there. elim (are.done q there) [
      | inl agrees ↦ inl agrees
      | inr e ↦ go q (is_at (key_cmp q) k) refl e
    ];
  }
    where
      go : (q : Key) (b : Bool) → is_at (key_cmp q) k ≡ b
          → b || list_any (is_at (key_cmp q)) left ≡ true
          → AgreesFrom c levels key q ⊎ (list_any (is_at (key_cmp q)) left ≡ true)
      go q true same e = inl (agrees-same q k same here)
      go q false same e = inr e

  -- what is behind the key needn't agree
  behind-agrees : (q : Key) → precedes (rule_of key) (rule_of q) ≡ true
      → AgreesFrom c levels key q
  behind-agrees q behind ms l not_behind at level = absurd (let both = sym behind ∙ not_behind in cc)

  pub agrees-behind : (k : Key) (left : List Key) → AreAhead (k ∷ left)
      → precedes (rule_of key) (rule_of k) ≡ true → AgreesUntil c levels key all
  unfolding IsStrictlySortedBy
  agrees-behind k left are behind q there = elim (are.done q there) [
    | inl agrees ↦ agrees
    | inr e ↦ go (is_at (key_cmp q) k) refl e
  ]
    where
      go : (b : Bool) → is_at (key_cmp q) k ≡ b → b || list_any (is_at (key_cmp q)) left ≡ true
          → AgreesFrom c levels key q
      go true same e = agrees-same q k same (behind-agrees k behind)
      go false same e = behind-agrees q
          (behind-less key k q behind (in-later q k left are.sorted.0 e))

  pub agrees-all : AreAhead [] → AgreesUntil c levels key all
  agrees-all are q there = elim (are.done q there) [
    | inl agrees ↦ agrees
    | inr e ↦ absurd (cc)
  ]

-- ---- the guards up to the key

-- their masks are the code's, where it agrees so far and it is noted where groups begin
pub until-known : (c : CodeParts) (levels : Levels) (key : Key) (all : Keys) (gs : List Group)
    → AgreesUntil c levels key all → Each (IsBegun all) (told_in gs)
    → AreKnown c levels gs (λ r. precedes (rule_of key) r ≡ false)
until-known c levels key all gs agree begun j n x ms picks not_behind known =
    here (begun-at gs j x.group picks.group begun)
  where
    here : IsBegun all x.group.told → IsKnown ms n x
    here is =
        let far = up-to key is.begin x.group.told.inst.rules (n - x.level.first) is.no_later
        not_behind in
        let up = agree is.begin is.there ms x.level
        (first-up-to key is.begin (n - x.level.first) far)
        (ap (slice_get levels) is.level_is ∙ known)
        (ap (slice_get c.levels) is.level_is ∙ picks.level) in
        known-at c gs j n x ms picks up.many
        (λ m at guard. up.same (n - x.level.first) m x.guard far at guard)

    begun-at : (gs : List Group) (j : ℕ) (g : Group) → slice_get gs j ≡ Some g
        → Each (IsBegun all) (told_in gs) → IsBegun all g.told
    begun-at [] j g at h = cc
    begun-at (y ∷ ys) zero g at h =
        let same : y ≡ g = cc in
        subst (λ (u : Group). IsBegun all u.told) same h.0
    begun-at (y ∷ ys) (suc j) g at h = begun-at ys j g at h.1

pub each-some : {X : Type 0} {P Q : X → Type 0} (o : Option X) → ((x : X) → P x → Q x)
    → IfSome o P → IfSome o Q
each-some (Some x) f h = f x h
each-some None f h = tt

-- the guard of the least key goes first
least-first : (c : CodeParts) (t : Tree) (gs : List Group) (ss : List ℕ) (ks : Keys) (key : Key)
    (j n : ℕ) → IsLowerBound key_cmp ks key → IsFiredBy c t gs ss key j n
    → IsFirstFired c t gs ss ks j n
least-first c t gs ss ks key j n least by = record {
  key = key;
  by = by;
  least = λ q i m there other less.
      let over = sym (ap is_gt (key-total.antisymm key q ∙ ap ordering_reverse less))
      ∙ least q there in
      cc;
}

-- so it goes first of all, where the masks of the guards up to it are the code's
pub until-first : (c : CodeParts) (t : Tree) (levels : Levels) (ks : Keys) (ss : List ℕ)
    (gs : List Group) (key : Key) (next j n : ℕ)
    → AreKnown c levels gs (λ r. precedes (rule_of key) r ≡ false) → length ss ≡ length gs
    → AreIndexed levels ks ss gs → Rise 0 ss next → IsLowerBound key_cmp ks key
    → IsFiredBy c t gs ss key j n → FiresFirst c t gs j n
unfolding least-first
until-first c t levels ks ss gs key next j n known many are rise least by =
    fires-first c levels ks ss gs (λ r. precedes (rule_of key) r ≡ false) known many are t next rise j
    n (least-first c t gs ss ks key j n least by)
    (λ r not_behind. same-rule key (rule_at n by.pick) r by.site by.number not_behind)
