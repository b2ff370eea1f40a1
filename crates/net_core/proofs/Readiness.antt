-- At each site a reaction is ready, or none may fire.
use Rattle.std.proofs.Common.{◌≡◌, ℕ, zero, suc, ◌+◌, ◌<◌, ◌≤◌, List, [], ◌∷◌, length, Option, Some}
use Rattle.std.proofs.Common.{None, Bool, true, false, refl, sym, ap, ◌∙◌, subst, arith, slice_get}
use Rattle.std.proofs.Common.{◌⊎◌, inl, inr}
use Rattle.std.specs.Prelude.{slice_index_or, nat_lt, ◌==◌, ◌||◌, ◌&&◌}
use Rattle.std.proofs.lemmas.Bool.Decides.{nat_tests}
use Rattle.std.proofs.lemmas.Option.{slice_get_within}
use Rattle.wire_packet.specs.MessageFacts.{MessageParts}
use Rattle.env_store.specs.declared.code.Guard.{Guard}
use Rattle.env_store.specs.declared.code.Level.{Level}
use Rattle.env_store.specs.CodeParts.{CodeParts}
use Rattle.env_store.specs.CodeFacts.{IsCode}
use Rattle.chem_model.specs.declared.event.RuleId.{RuleId}
use Rattle.loc_tree.specs.Tree.{Tree, is_alive}
use Rattle.reducer.specs.declared.pick.Pick.{Pick}
use Rattle.reducer.specs.Picks.{Picked, Fires, rule_of}
use Rattle.reducer.specs.Ready.{precedes, NoneFires, IsReady}
use Rattle.reducer.proofs.Masks.{HaveFronts, held_fronts, fronts_held}
use Rattle.net_laws.specs.Site.{Group, Site}
use Rattle.net_core.proofs.OneAnswer.{one_of}

-- it holds, or it doesn't
abbrev pub Decides : Type 0 → Type 0
Decides P = P ⊎ (P → ⊥)

pub both : {P Q : Type 0} → Decides P → Decides Q → Decides (P × Q)
both (inl a) (inl b) = inl (a, b)
both (inl a) (inr not) = inr (λ h. not h.1)
both (inr not) b = inr (λ h. not h.0)

pub as_other : {P Q : Type 0} → (P → Q) → (Q → P) → Decides P → Decides Q
as_other to back (inl a) = inl (to a)
as_other to back (inr not) = inr (λ h. not (back h))

pub is_true : (b : Bool) → Decides (b ≡ true)
is_true true = inl refl
is_true false = inr (λ e. let clash : false ≡ true = e in cc)

at_most : (a b : ℕ) → Decides (a ≤ b)
at_most a b = elim (split a b) [ inl h ↦ inl h | inr h ↦ inr (λ k. omega arith) ]
  where
    split : (a b : ℕ) → (a ≤ b) ⊎ (b < a)
    split a b = grind arith

below : (a b : ℕ) → Decides (a < b)
below a b = elim (split a b) [ inl h ↦ inl h | inr h ↦ inr (λ k. omega arith) ]
  where
    split : (a b : ℕ) → (a < b) ⊎ (b ≤ a)
    split a b = grind arith

fronts : (qs : List (List MessageParts)) (cs : List ℕ) → Decides (HaveFronts qs cs)
fronts qs [] = inl tt
fronts qs (c ∷ cs) = both (below 0 (length (slice_index_or qs c []))) (fronts qs cs)

-- a guard of a group
abbrev pick_of : ℕ → ℕ → Pick
pick_of j n = record { group = j; guard = n }

-- ---- the order of rules

not_later : (s k t j m : ℕ) → k ≤ m → nat_lt s t || ((s == t) && nat_lt k j) ≡ false
    → nat_lt s t || ((s == t) && nat_lt m j) ≡ false
not_later s k t j m h e = grind (arith, nat_tests)

not_itself : (s k m : ℕ) → k ≤ m → nat_lt s s || ((s == s) && nat_lt m k) ≡ false
not_itself s k m h = grind (arith, nat_tests)

not_before : (s k t j u i : ℕ) → nat_lt t u || ((t == u) && nat_lt j i) ≡ true
    → nat_lt s u || ((s == u) && nat_lt k i) ≡ false
    → nat_lt s t || ((s == t) && nat_lt k j) ≡ false
not_before s k t j u i h e = grind (arith, nat_tests)

module _ (c : CodeParts) (t : Tree) (s : Site) (code : IsCode c) where
  abbrev MayFireAt : ℕ → ℕ → Type 0
  MayFireAt j n = (x : Picked) × Fires c t s (pick_of j n) x

  -- one guard of one group
  guard_fires : (j n : ℕ) (g : Group) (v : Level) (u : Guard) → slice_get s.groups j ≡ Some g
      → slice_get c.levels g.told.inst.level ≡ Some v → slice_get c.guards n ≡ Some u
      → Decides (MayFireAt j n)
  guard_fires j n g v u here at is =
      let at_guard = code.guards n u is in
      as_other
      (λ h. (
        record { group = g; level = v; guard = u },
        record {
          covers = record {
            picks = record { group = here; level = at; guard = is; from = h.0; below = h.1.0 };
            held = fronts_held (length at_guard.level.counts)
                g.queues u.chans u.mask.words at_guard.mask h.1.1.0;
          };
          live = h.1.1.1;
        },
      ))
      (λ m.
      let x = m.0 in
      let picks = m.1.covers.picks in
      let group : x.group ≡ g = one_of (slice_get s.groups j) x.group g picks.group here in
      let level : x.level ≡ v =
      one_of (slice_get c.levels g.told.inst.level) x.level v
      (ap (λ (h : Group). slice_get c.levels h.told.inst.level) (sym group) ∙ picks.level) at in
      let guard : x.guard ≡ u = one_of (slice_get c.guards n) x.guard u picks.guard is in
      let own = code.guards n x.guard picks.guard in
      let held = held_fronts (length own.level.counts)
      x.group.queues x.guard.chans x.guard.mask.words own.mask m.1.covers.held in
      let first : HaveFronts g.queues x.guard.chans =
      subst (λ (h : Group). HaveFronts h.queues x.guard.chans) group held in (
        subst (λ (w : Level). w.first ≤ n) level picks.from,
        (
          subst (λ (w : Level). n < w.first + w.guards) level picks.below,
          (
            subst (λ (w : Guard). HaveFronts g.queues w.chans) guard first,
            subst (λ (h : Group). is_alive t h.told.inst.loc ≡ true) group m.1.live,
          ),
        ),
      ))
      (both (at_most v.first n) (both (below n (v.first + v.guards))
      (both (fronts g.queues u.chans) (is_true (is_alive t g.told.inst.loc)))))

  none_there : {X : Type 0} (o : Option X) (x : X) → o ≡ None → o ≡ Some x → ⊥
  none_there o x e f = let clash : None ≡ Some x = sym e ∙ f in cc

  fires_at : (j n : ℕ) → Decides (MayFireAt j n)
  fires_at j n = group (slice_get s.groups j) refl
    where
      guarded : (g : Group) → slice_get s.groups j ≡ Some g → (v : Level)
          → slice_get c.levels g.told.inst.level ≡ Some v → (o : Option Guard)
          → slice_get c.guards n ≡ o → Decides (MayFireAt j n)
      guarded g here v at None e =
          inr (λ m. none_there (slice_get c.guards n) m.0.guard e m.1.covers.picks.guard)
      guarded g here v at (Some u) e = guard_fires j n g v u here at e

      level : (g : Group) → slice_get s.groups j ≡ Some g → (o : Option Level)
          → slice_get c.levels g.told.inst.level ≡ o → Decides (MayFireAt j n)
      level g here None e = inr (λ m.
          let group : m.0.group ≡ g =
          one_of (slice_get s.groups j) m.0.group g m.1.covers.picks.group here in
          none_there (slice_get c.levels g.told.inst.level) m.0.level e
          (ap (λ (h : Group). slice_get c.levels h.told.inst.level) (sym group)
          ∙ m.1.covers.picks.level))
      level g here (Some v) e = guarded g here v e (slice_get c.guards n) refl

      group : (o : Option Group) → slice_get s.groups j ≡ o → Decides (MayFireAt j n)
      group None e = inr (λ m. none_there (slice_get s.groups j) m.0.group e m.1.covers.picks.group)
      group (Some g) e = level g e (slice_get c.levels g.told.inst.level) refl

  -- ---- the first of a group's guards below m

  record FirstBelow (j m : ℕ) : Type 0 where
    n : ℕ
    fires : MayFireAt j n
    first : (k : ℕ) → k < n → MayFireAt j k → ⊥

  abbrev NoneBelow : ℕ → ℕ → Type 0
  NoneBelow j m = (k : ℕ) → k < m → MayFireAt j k → ⊥

  last_too : (j m : ℕ) → NoneBelow j m → (MayFireAt j m → ⊥) → NoneBelow j (suc m)
  last_too j m none not k less h =
      elim (split k m less) [
        | inl lower ↦ none k lower h
        | inr same ↦ not (subst (λ (i : ℕ). MayFireAt j i) same h)
      ]
    where
      split : (k m : ℕ) → k < suc m → (k < m) ⊎ (k ≡ m)
      split k m h = grind arith

  first_below : (j m : ℕ) → FirstBelow j m ⊎ NoneBelow j m
  first_below j zero = inr (λ k less h. absurd (omega arith))
  first_below j (suc m) = step (first_below j m) (fires_at j m)
    where
      step : FirstBelow j m ⊎ NoneBelow j m → Decides (MayFireAt j m)
          → FirstBelow j (suc m) ⊎ NoneBelow j (suc m)
      step (inl f) d = inl (record { n = f.n; fires = f.fires; first = f.first })
      step (inr none) (inl h) = inl (record { n = m; fires = h; first = none })
      step (inr none) (inr not) = inr (last_too j m none not)

  abbrev NoneFiresBelow : ℕ → Type 0
  NoneFiresBelow i = (q : Pick) (y : Picked) → q.group < i → Fires c t s q y → ⊥

  -- ---- the rules of later guards of a group

  record IsLater (r u : RuleId) : Type 0 where
    site : u.site ≡ r.site
    k : r.k ≤ u.k

  later : (j n m : ℕ) (x y : Picked) → Fires c t s (pick_of j n) x → Fires c t s (pick_of j m) y
      → n ≤ m → IsLater (rule_of (pick_of j n) x) (rule_of (pick_of j m) y)
  later j n m x y f g le =
      let a = f.covers.picks in
      let b = g.covers.picks in
      let group : y.group ≡ x.group =
      one_of (slice_get s.groups j) y.group x.group b.group a.group in
      let level : y.level ≡ x.level =
      one_of (slice_get c.levels x.group.told.inst.level) y.level x.level
      (ap (λ (h : Group). slice_get c.levels h.told.inst.level) (sym group) ∙ b.level) a.level in
      let sites : y.group.told.inst.rules.site ≡ x.group.told.inst.rules.site =
      ap (λ (h : Group). h.told.inst.rules.site) group in
      let numbers : y.group.told.inst.rules.k ≡ x.group.told.inst.rules.k =
      ap (λ (h : Group). h.told.inst.rules.k) group in
      let firsts : y.level.first ≡ x.level.first = ap (λ (v : Level). v.first) level in
      record { site = sites; k = omega arith }

  later_least : (r u : RuleId) → IsLater r u → precedes u r ≡ false
  later_least r u h = subst (λ k. nat_lt k r.site || ((k == r.site) && nat_lt u.k r.k) ≡ false)
      (sym h.site) (not_itself r.site r.k u.k h.k)

  later_not : (r u b : RuleId) → IsLater r u → precedes r b ≡ false → precedes u b ≡ false
  later_not r u b h e = subst (λ k. nat_lt k b.site || ((k == b.site) && nat_lt u.k b.k) ≡ false)
      (sym h.site) (not_later r.site r.k b.site b.k u.k h.k e)

  -- ---- the best of the first i groups

  record IsBest (i : ℕ) : Type 0 where
    pick : Pick
    names : Picked
    fires : Fires c t s pick names
    low : pick.group < i
    least : (q : Pick) (y : Picked) → q.group < i → Fires c t s q y
        → precedes (rule_of q y) (rule_of pick names) ≡ false
    first : (q : Pick) (y : Picked) → q.group < i → Fires c t s q y
        → rule_of q y ≡ rule_of pick names → pick.group ≤ q.group

  below_or : (k i : ℕ) → k < suc i → (k < i) ⊎ (k ≡ i)
  below_or k i h = grind arith

  at_group : (q : Pick) (y : Picked) (i : ℕ) → q.group ≡ i → Fires c t s q y
      → Fires c t s (pick_of i q.guard) y
  at_group q y i e f = subst (λ (j : ℕ). Fires c t s (pick_of j q.guard) y) e f

  not_less : (n k : ℕ) → (k < n → ⊥) → n ≤ k
  not_less n k h = elim (split n k) [ inl le ↦ le | inr less ↦ absurd (h less) ]
    where
      split : (n k : ℕ) → (n ≤ k) ⊎ (k < n)
      split n k = grind arith

  module _ (i : ℕ) (f : FirstBelow i (length c.guards)) where
    abbrev offer : Pick
    offer = pick_of i f.n

    abbrev rule : RuleId
    rule = rule_of offer f.fires.0

    -- another guard of the group has a later rule
    own_later : (q : Pick) (y : Picked) → q.group ≡ i → Fires c t s q y → IsLater rule (rule_of q y)
    own_later q y same h =
        let here = at_group q y i same h in
        later i f.n q.guard f.fires.0 y f.fires.1 here
        (not_less f.n q.guard (λ less. f.first q.guard less (y, here)))

    alone : NoneFiresBelow i → IsBest (suc i)
    alone none = record {
      pick = offer;
      names = f.fires.0;
      fires = f.fires.1;
      low = omega arith;
      least = λ q y less h.
          elim (below_or q.group i less) [
            | inl lower ↦ absurd (none q y lower h)
            | inr same ↦ later_least rule (rule_of q y) (own_later q y same h)
          ];
      first = λ q y less h e.
          elim (below_or q.group i less) [
            | inl lower ↦ absurd (none q y lower h)
            | inr same ↦ omega arith
          ];
    }

    better : (b : IsBest i) → precedes rule (rule_of b.pick b.names) ≡ true → IsBest (suc i)
    better b e = record {
      pick = offer;
      names = f.fires.0;
      fires = f.fires.1;
      low = omega arith;
      least = λ q y less h.
          elim (below_or q.group i less) [
            | inl lower ↦ (let r = rule_of q y in let u = rule_of b.pick b.names in
                not_before r.site r.k rule.site rule.k u.site u.k e (b.least q y lower h))
            | inr same ↦ later_least rule (rule_of q y) (own_later q y same h)
          ];
      first = λ q y less h same_rule.
          elim (below_or q.group i less) [
            | inl lower ↦ absurd (clash (precedes rule (rule_of b.pick b.names)) e
                (ap (λ (r : RuleId). precedes r (rule_of b.pick b.names)) (sym same_rule)
                ∙ b.least q y lower h))
            | inr same ↦ omega arith
          ];
    }
      where
        clash : (u : Bool) → u ≡ true → u ≡ false → ⊥
        clash true a d = cc
        clash false a d = cc

    keeps : (b : IsBest i) → precedes rule (rule_of b.pick b.names) ≡ false → IsBest (suc i)
    keeps b e = record {
      pick = b.pick;
      names = b.names;
      fires = b.fires;
      low = omega (arith, b.low);
      least = λ q y less h.
          elim (below_or q.group i less) [
            | inl lower ↦ b.least q y lower h
            | inr same ↦
                later_not rule (rule_of q y) (rule_of b.pick b.names) (own_later q y same h) e
          ];
      first = λ q y less h same_rule.
          elim (below_or q.group i less) [
            | inl lower ↦ b.first q y lower h same_rule
            | inr same ↦ omega (arith, b.low)
          ];
    }

    with_offer : IsBest i ⊎ NoneFiresBelow i → IsBest (suc i)
    with_offer (inr none) = alone none
    with_offer (inl b) = go (precedes rule (rule_of b.pick b.names)) refl
      where
        go : (u : Bool) → precedes rule (rule_of b.pick b.names) ≡ u → IsBest (suc i)
        go true e = better b e
        go false e = keeps b e

  module _ (i : ℕ) (none : NoneBelow i (length c.guards)) where
    nobody : (q : Pick) (y : Picked) → q.group ≡ i → Fires c t s q y → ⊥
    nobody q y same h =
        let here = at_group q y i same h in
        none q.guard (slice_get_within c.guards q.guard y.guard here.covers.picks.guard) (y, here)

    without_offer : IsBest i ⊎ NoneFiresBelow i → IsBest (suc i) ⊎ NoneFiresBelow (suc i)
    without_offer (inr not) = inr (λ q y less h. elim (below_or q.group i
        less) [ inl lower ↦ not q y lower h | inr same ↦ nobody q y same h ])
    without_offer (inl b) = inl (record {
      pick = b.pick;
      names = b.names;
      fires = b.fires;
      low = omega (arith, b.low);
      least = λ q y less h. elim (below_or q.group i
          less) [ inl lower ↦ b.least q y lower h | inr same ↦ absurd (nobody q y same h) ];
      first = λ q y less h e. elim (below_or q.group i
          less) [ inl lower ↦ b.first q y lower h e | inr same ↦ absurd (nobody q y same h) ];
    })

  best : (i : ℕ) → IsBest i ⊎ NoneFiresBelow i
  best zero = inr (λ q y less h. absurd (omega arith))
  best (suc i) = step (best i) (first_below i (length c.guards))
    where
      step : IsBest i ⊎ NoneFiresBelow i
          → FirstBelow i (length c.guards) ⊎ NoneBelow i (length c.guards)
          → IsBest (suc i) ⊎ NoneFiresBelow (suc i)
      step b (inl f) = inl (with_offer i f b)
      step b (inr none) = without_offer i none b

  pub some_ready : ((q : Pick) × IsReady c t s q) ⊎ NoneFires c t s
  some_ready = go (best (length s.groups))
    where
      inside : (q : Pick) (y : Picked) → Fires c t s q y → q.group < length s.groups
      inside q y h = slice_get_within s.groups q.group y.group h.covers.picks.group

      go : IsBest (length s.groups) ⊎ NoneFiresBelow (length s.groups)
          → ((q : Pick) × IsReady c t s q) ⊎ NoneFires c t s
      go (inr none) = inr (λ q y h. none q y (inside q y h) h)
      go (inl b) = inl (
        b.pick,
        record {
          pick = b.names;
          fires = b.fires;
          least = λ q y h. b.least q y (inside q y h) h;
          first = λ q y h e. b.first q y (inside q y h) h e;
        },
      )
