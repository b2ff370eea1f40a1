-- The best offer of the groups so far.
use Rattle.std.proofs.Common.{◌≡◌, ℕ, ◌+◌, ◌-◌, ◌<◌, ◌≤◌, length, Option, Some, None, Bool, true}
use Rattle.std.proofs.Common.{false, cond, refl, sym, ap, ◌∙◌, subst, arith, ◌⊎◌, inl, inr}
use Rattle.std.specs.Prelude.{slice_get, nat_lt, ◌==◌, ◌||◌, ◌&&◌, IfNone, IfSome}
use Rattle.std.proofs.lemmas.Bool.Decides.{nat_tests}
use Rattle.std.proofs.lemmas.Option.{slice_get_within}
use Rattle.chem_model.specs.declared.event.RuleId.{RuleId}
use Rattle.env_store.specs.declared.code.Level.{Level}
use Rattle.env_store.specs.CodeParts.{CodeParts}
use Rattle.loc_tree.specs.Tree.{Tree}
use Rattle.net_laws.specs.Site.{Group, Site}
use Rattle.reducer.specs.declared.pick.Pick.{Pick}
use Rattle.reducer.specs.declared.choosing.Found.{Found}
use Rattle.reducer.specs.Picks.{Picked, Fires, rule_of}
use Rattle.reducer.specs.Ready.{precedes, NoneFires, IsReady}
use Rattle.reducer.specs.inside.Searching.{pick_of, IsOffer, NoOffer, better_of}
use Rattle.reducer.proofs.BestOf.{IsBestOf, IsBest}
use Rattle.reducer.proofs.Levels.{group_same, level_same}

-- ---- the order of rules

not_later : (s k t j m : ℕ) → k ≤ m → nat_lt s t || ((s == t) && nat_lt k j) ≡ false
    → nat_lt s t || ((s == t) && nat_lt m j) ≡ false
not_later s k t j m h e = grind (arith, nat_tests)

not_itself : (s k m : ℕ) → k ≤ m → nat_lt s s || ((s == s) && nat_lt m k) ≡ false
not_itself s k m h = grind (arith, nat_tests)

not_before : (s k t j u i : ℕ) → nat_lt t u || ((t == u) && nat_lt j i) ≡ true
    → nat_lt s u || ((s == u) && nat_lt k i) ≡ false
    → nat_lt s t || ((s == t) && nat_lt k j) ≡ false
not_before s k t j u i h e = grind (arith, nat_tests)

pub below_or : (i n : ℕ) → n < i + 1 → (n < i) ⊎ (n ≡ i)
below_or i n h = go (nat_lt n i) refl
  where
    go : (b : Bool) → nat_lt n i ≡ b → (n < i) ⊎ (n ≡ i)
    go true e = inl (grind (arith, nat_tests))
    go false e = inr (grind (arith, nat_tests))

pub not_both : (a : Bool) → a ≡ true → a ≡ false → ⊥
not_both true e f = cc
not_both false e f = cc

module _ (c : CodeParts) (t : Tree) (s : Site) where
  at_group : (q : Pick) (y : Picked) (i : ℕ) → q.group ≡ i → Fires c t s q y
      → Fires c t s (pick_of i q.guard) y
  at_group q y i e f = subst (λ j. Fires c t s (pick_of j q.guard) y) e f

  -- the rule of a later guard of the group
  record IsLater (o : Found) (r : RuleId) : Type 0 where
    site : r.site ≡ o.rule.site
    k : o.rule.k ≤ r.k

  later : (i n : ℕ) (o : Found) (y : Picked) → IsOffer c t s i o → Fires c t s (pick_of i n) y
      → IsLater o (rule_of (pick_of i n) y)
  later i n o y of f =
      let x = of.pick in
      let at : slice_get s.groups i ≡ Some x.group =
      ap (slice_get s.groups) (sym of.group) ∙ of.fires.covers.picks.group in
      let g : y.group ≡ x.group = group_same c s (pick_of i n) y x.group f.covers.picks at in
      let v : y.level ≡ x.level =
      level_same c s (pick_of i n) y x.group x.level f.covers.picks at
      of.fires.covers.picks.level in
      let less = of.first n y f in
      let sites : y.group.told.inst.rules.site ≡ x.group.told.inst.rules.site =
      ap (λ (h : Group). h.told.inst.rules.site) g in
      let numbers : y.group.told.inst.rules.k ≡ x.group.told.inst.rules.k =
      ap (λ (h : Group). h.told.inst.rules.k) g in
      let firsts : y.level.first ≡ x.level.first = ap (λ (w : Level). w.first) v in
      let own : o.rule.k ≡ x.group.told.inst.rules.k + (o.pick.guard - x.level.first) =
      ap (λ (r : RuleId). r.k) of.rule in
      record { site = sites ∙ sym (ap (λ (r : RuleId). r.site) of.rule); k = omega arith }

  later_least : (o : Found) (r : RuleId) → IsLater o r → precedes r o.rule ≡ false
  later_least o r h =
      subst (λ k. nat_lt k o.rule.site || ((k == o.rule.site) && nat_lt r.k o.rule.k) ≡ false)
      (sym h.site) (not_itself o.rule.site o.rule.k r.k h.k)

  later_not : (o f : Found) (r : RuleId) → IsLater o r → precedes o.rule f.rule ≡ false
      → precedes r f.rule ≡ false
  later_not o f r h e =
      subst (λ k. nat_lt k f.rule.site || ((k == f.rule.site) && nat_lt r.k f.rule.k) ≡ false)
      (sym h.site) (not_later o.rule.site o.rule.k f.rule.site f.rule.k r.k h.k e)

  pub best_none : IsBest c t s 0 None
  best_none q y less f = absurd (omega arith)

  -- a group with no guard that may fire
  pub best_same : (i : ℕ) (best : Option Found) → IsBest c t s i best → NoOffer c t s i
      → IsBest c t s (i + 1) best
  best_same i None h nobody = λ q y less f.
      elim (below_or i q.group less) [
        | inl lower ↦ h q y lower f
        | inr here ↦ nobody q.guard y (at_group q y i here f)
      ]
  best_same i (Some b) h nobody = record {
    pick = h.pick;
    fires = h.fires;
    rule = h.rule;
    group = omega (arith, h.group);
    least = λ q y less f.
        elim (below_or i q.group less) [
          | inl lower ↦ h.least q y lower f
          | inr here ↦ absurd (nobody q.guard y (at_group q y i here f))
        ];
    first = λ q y less f e.
        elim (below_or i q.group less) [
          | inl lower ↦ h.first q y lower f e
          | inr here ↦ absurd (nobody q.guard y (at_group q y i here f))
        ];
  }

  -- the offer is better than that of all groups before
  take_offer : (i : ℕ) (o : Found) → IsOffer c t s i o
      → ((q : Pick) (y : Picked) → q.group < i → Fires c t s q y
      → precedes (rule_of q y) o.rule ≡ false)
      → ((q : Pick) (y : Picked) → q.group < i → Fires c t s q y → rule_of q y ≡ o.rule → ⊥)
      → IsBestOf c t s (i + 1) o
  take_offer i o of least first = record {
    pick = of.pick;
    fires = of.fires;
    rule = of.rule;
    group = omega (arith, of.group);
    least = λ q y less f.
        elim (below_or i q.group less) [
          | inl lower ↦ least q y lower f
          | inr here ↦
              later_least o (rule_of q y) (subst (λ j. IsLater o (rule_of (pick_of j q.guard) y))
              (sym here) (later i q.guard o y of (at_group q y i here f)))
        ];
    first = λ q y less f e.
        elim (below_or i q.group less) [
          | inl lower ↦ absurd (first q y lower f e)
          | inr here ↦ omega (arith, of.group)
        ];
  }

  keep_best : (i : ℕ) (b o : Found) → IsBestOf c t s i b → IsOffer c t s i o
      → precedes o.rule b.rule ≡ false → IsBestOf c t s (i + 1) b
  keep_best i b o h of e = record {
    pick = h.pick;
    fires = h.fires;
    rule = h.rule;
    group = omega (arith, h.group);
    least = λ q y less f.
        elim (below_or i q.group less) [
          | inl lower ↦ h.least q y lower f
          | inr here ↦
              later_not o b (rule_of q y) (subst (λ j. IsLater o (rule_of (pick_of j q.guard) y))
              (sym here) (later i q.guard o y of (at_group q y i here f))) e
        ];
    first = λ q y less f same.
        elim (below_or i q.group less) [
          | inl lower ↦ h.first q y lower f same
          | inr here ↦ omega (arith, h.group)
        ];
  }

  pub best_better : (i : ℕ) (best : Option Found) (o : Found) → IsBest c t s i best
      → IsOffer c t s i o → IsBest c t s (i + 1) (better_of best (Some o))
  best_better i None o h of =
      take_offer i o of (λ q y less f. absurd (h q y less f)) (λ q y less f e. h q y less f)
  best_better i (Some b) o h of = go (precedes o.rule b.rule) refl
    where
      go : (a : Bool) → precedes o.rule b.rule ≡ a → IsBest c t s (i + 1) (cond a (Some o) (Some b))
      go true e = take_offer i o of (λ q y less f. not_before (rule_of q y).site (rule_of q y).k
          o.rule.site o.rule.k b.rule.site b.rule.k e (h.least q y less f))
          (λ q y less f same. not_both (precedes (rule_of q y) b.rule)
          (ap (λ (r : RuleId). precedes r b.rule) same ∙ e) (h.least q y less f))
      go false e = keep_best i b o h of e

  pub best_step : (i : ℕ) (best o : Option Found) → IsBest c t s i best → IfNone o (NoOffer c t s i)
      → IfSome o (IsOffer c t s i) → IsBest c t s (i + 1) (better_of best o)
  best_step i None None h nobody of = best_same i None h nobody
  best_step i (Some b) None h nobody of = best_same i (Some b) h nobody
  best_step i best (Some o) h nobody of = best_better i best o h of

  -- ---- of all groups

  group_below : (q : Pick) (y : Picked) → Fires c t s q y → q.group < length s.groups
  group_below q y f = slice_get_within s.groups q.group y.group f.covers.picks.group

  pub none_fires : IsBest c t s (length s.groups) None → NoneFires c t s
  none_fires h q y f = h q y (group_below q y f) f

  pub is_ready : (b : Found) → IsBestOf c t s (length s.groups) b → IsReady c t s b.pick
  is_ready b h = record {
    pick = h.pick;
    fires = h.fires;
    least = λ q y f. ap (precedes (rule_of q y)) (sym h.rule) ∙ h.least q y (group_below q y f) f;
    first = λ q y f e. h.first q y (group_below q y f) f (e ∙ sym h.rule);
  }
