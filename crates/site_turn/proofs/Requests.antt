-- Of the requests of a site that may be met, the one with the least id.
use Rattle.std.proofs.Common.{◌≡◌, ℕ, zero, suc, ◌+◌, ◌<◌, ◌≤◌, List, [], ◌∷◌, length, Option, Some}
use Rattle.std.proofs.Common.{None, Bool, true, false, cond, refl, sym, ap, ◌∙◌, subst, arith, inl}
use Rattle.std.proofs.Common.{inr, ◌⊎◌}
use Rattle.std.specs.Prelude.{slice_get, nat_lt, ◌==◌, ◌||◌, ◌&&◌, is_some}
use Rattle.std.proofs.lemmas.Bool.Decides.{nat_tests}
use Rattle.std.proofs.lemmas.Option.{slice_get_within}
use Rattle.chem_model.specs.declared.event.AtomId.{AtomId}
use Rattle.chem_model.specs.declared.event.Event.TheVariants as event
use Rattle.chem_model.specs.Apply.{same_atom}
use Rattle.chem_laws.proofs.Taking.{same_atom_refl}
use Rattle.wire_packet.specs.GroupFacts.{RequestParts}
use Rattle.loc_tree.specs.Tree.{Tree}
use Rattle.net_laws.specs.Site.{Site}
use Rattle.net_laws.specs.Holding.{precedes, request_with}
use Rattle.site_solution.specs.Rising.{AllAfter, Rising}
use Rattle.site_solution.proofs.Ranks.{before-not_same}
use Rattle.site_solution.proofs.Together.{request_id}
use Rattle.failure.specs.Halts as halts
use Rattle.failure.specs.Deaths as deaths
use Rattle.migration.specs.Moves as moves
use Rattle.site_turn.specs.Next.{may_meet, NoneMeets, IsLeastMet}

-- ---- the order of ids

after_not_before : (a b : AtomId) → precedes a b ≡ true → precedes b a ≡ false
after_not_before a b e = pairs a.site a.k b.site b.k e
  where
    pairs : (s k t j : ℕ) → nat_lt s t || ((s == t) && nat_lt k j) ≡ true
        → nat_lt t s || ((t == s) && nat_lt j k) ≡ false
    pairs s k t j e = grind (arith, nat_tests)

not_itself : (a : AtomId) → precedes a a ≡ false
not_itself a = pairs a.site a.k
  where
    pairs : (s k : ℕ) → nat_lt s s || ((s == s) && nat_lt k k) ≡ false
    pairs s k = grind (arith, nat_tests)

after_at : (a : AtomId) (qs : List RequestParts) (k : ℕ) (q : RequestParts) → AllAfter a qs
    → slice_get qs k ≡ Some q → precedes a q.id ≡ true
after_at a [] k q all e = cc
after_at a (x ∷ qs) zero q all e =
    let same : x ≡ q = cc in
    subst (λ (y : RequestParts). precedes a y.id ≡ true) same all.0
after_at a (x ∷ qs) (suc k) q all e = after_at a qs k q all.1 e

later_not_before : (qs : List RequestParts) (i k : ℕ) (q r : RequestParts) → Rising qs → i ≤ k
    → slice_get qs i ≡ Some q → slice_get qs k ≡ Some r → precedes r.id q.id ≡ false
later_not_before [] i k q r rising order e f = cc
later_not_before (x ∷ qs) zero zero q r rising order e f =
    let same : q ≡ r = cc in
    subst (λ (y : RequestParts). precedes y.id q.id ≡ false) same (not_itself q.id)
later_not_before (x ∷ qs) zero (suc k) q r rising order e f =
    let same : x ≡ q = cc in
    after_not_before q.id r.id
    (subst (λ (y : RequestParts). precedes y.id r.id ≡ true) same (after_at x.id qs k r rising.0 f))
later_not_before (x ∷ qs) (suc i) zero q r rising order e f = absurd (omega arith)
later_not_before (x ∷ qs) (suc i) (suc k) q r rising order e f =
    later_not_before qs i k q r rising.1 (omega arith) e f

-- what is found is a member
place_of : (qs : List RequestParts) (a : AtomId) (q : RequestParts) → request_with a qs ≡ Some q
    → (k : ℕ) × (slice_get qs k ≡ Some q)
place_of [] a q e = cc
place_of (x ∷ qs) a q e = go (same_atom x.id a) e (place_of qs a q)
  where
    go : (u : Bool) → cond u (Some x) (request_with a qs) ≡ Some q
        → (request_with a qs ≡ Some q → (k : ℕ) × (slice_get qs k ≡ Some q))
        → (k : ℕ) × (slice_get (x ∷ qs) k ≡ Some q)
    go true f ih = (0, f)
    go false f ih = let later = ih f in (suc later.0, later.1)

-- and a member is found, where ids rise
pub found_at : (qs : List RequestParts) (k : ℕ) (q : RequestParts) → Rising qs
    → slice_get qs k ≡ Some q → request_with q.id qs ≡ Some q
found_at [] k q rising e = cc
found_at (x ∷ qs) zero q rising e =
    let same : x ≡ q = cc in
    ap (λ (y : RequestParts). cond (same_atom y.id q.id) (Some y) (request_with q.id qs)) same
    ∙ ap (λ (b : Bool). cond b (Some q) (request_with q.id qs)) (same_atom_refl q.id)
found_at (x ∷ qs) (suc k) q rising e =
    ap (λ (b : Bool). cond b (Some x) (request_with q.id qs))
    (before-not_same x.id q.id (after_at x.id qs k q rising.0 e))
    ∙ found_at qs k q rising.1 e

past_end : (qs : List RequestParts) (i : ℕ) → slice_get qs i ≡ None → length qs ≤ i
past_end [] i e = omega arith
past_end (x ∷ qs) zero e = cc
past_end (x ∷ qs) (suc i) e = let rest = past_end qs i e in omega arith

below_or : (i n : ℕ) → n < i + 1 → (n < i) ⊎ (n ≡ i)
below_or i n h = go (nat_lt n i) refl
  where
    go : (b : Bool) → nat_lt n i ≡ b → (n < i) ⊎ (n ≡ i)
    go true e = inl (grind (arith, nat_tests))
    go false e = inr (grind (arith, nat_tests))

pub one_member : {X : Type 0} (o : Option X) (x y : X) → o ≡ Some x → o ≡ Some y → x ≡ y
one_member o x y e f = let both : Some x ≡ Some y = sym e ∙ f in cc

not_both : (b : Bool) → b ≡ true → b ≡ false → ⊥
not_both b e f = cc

-- ---- the requests of a site

-- of the first n requests none may be met
abbrev pub NoneBelow : ℕ → Tree → Site → ℕ → Type 0
NoneBelow w t s n = (k : ℕ) (q : RequestParts) → k < n → slice_get s.requests k ≡ Some q
    → may_meet w t s q.id ≡ false

module _ (w : ℕ) (t : Tree) (s : Site) where
  -- the test by what is found under the id
  abbrev met_of : Option RequestParts → AtomId → Bool
  met_of o b = moves.is_ready w t o
      || (halts.is_ready t o || is_some (cond (deaths.sees_death t o) (Some (event.Detect b)) None))

  -- what may be met is there
  there : (b : AtomId) (o : Option RequestParts) → request_with b s.requests ≡ o → met_of o b ≡ true
      → (q : RequestParts) × (request_with b s.requests ≡ Some q)
  there b None h e = cc
  there b (Some q) h e = (q, h)

  pub asked_there : (b : AtomId) → may_meet w t s b ≡ true
      → (q : RequestParts) × (request_with b s.requests ≡ Some q)
  asked_there b e = there b (request_with b s.requests) refl e

  -- at its place, under its own id
  record IsAt (b : AtomId) : Type 0 where
    asked : RequestParts
    place : ℕ
    at : slice_get s.requests place ≡ Some asked
    own : asked.id ≡ b
    met : may_meet w t s asked.id ≡ true

  is_at : (b : AtomId) → may_meet w t s b ≡ true → IsAt b
  is_at b e =
      let found = there b (request_with b s.requests) refl e in
      let place = place_of s.requests b found.0 found.1 in
      let own = request_id s.requests b found.0 found.1 in
      record {
        asked = found.0;
        place = place.0;
        at = place.1;
        own = own;
        met = ap (may_meet w t s) own ∙ e;
      }

  pub none_first : NoneBelow w t s 0
  none_first k q below e = absurd (omega arith)

  pub none_next : (i : ℕ) (q : RequestParts) → slice_get s.requests i ≡ Some q
      → may_meet w t s q.id ≡ false → NoneBelow w t s i → NoneBelow w t s (i + 1)
  none_next i q here not none k r below e =
      elim (below_or i k below) [
        | inl lower ↦ none k r lower e
        | inr same ↦
            let at : slice_get s.requests i ≡ Some r = ap (slice_get s.requests) (sym same) ∙ e in
            let is : q ≡ r = one_member (slice_get s.requests i) q r here at in
            subst (λ (y : RequestParts). may_meet w t s y.id ≡ false) is not
      ]

  pub none_at_all : (i : ℕ) → slice_get s.requests i ≡ None → NoneBelow w t s i → NoneMeets w t s
  none_at_all i past none b = go (may_meet w t s b) refl
    where
      go : (u : Bool) → may_meet w t s b ≡ u → may_meet w t s b ≡ false
      go false e = e
      go true e =
          let a = is_at b e in
          let long = past_end s.requests i past in
          let within = slice_get_within s.requests a.place a.asked a.at in
          absurd
          (not_both (may_meet w t s a.asked.id) a.met (none a.place a.asked (omega arith) a.at))

  pub least_here : (i : ℕ) (q : RequestParts) → Rising s.requests → slice_get s.requests i ≡ Some q
      → may_meet w t s q.id ≡ true → NoneBelow w t s i → IsLeastMet w t s q.id
  least_here i q rising here met none = record {
    met = met;
    least = λ b e.
        let a = is_at b e in
        subst (λ (x : AtomId). precedes x q.id ≡ false)
        a.own (by_order a.asked a.met a.place a.at (nat_lt a.place i) refl);
  }
    where
      by_order : (r : RequestParts) → may_meet w t s r.id ≡ true → (k : ℕ)
          → slice_get s.requests k ≡ Some r → (b : Bool) → nat_lt k i ≡ b
          → precedes r.id q.id ≡ false
      by_order r may k e true less =
          absurd (not_both (may_meet w t s r.id) may (none k r (grind (arith, nat_tests)) e))
      by_order r may k e false less =
          later_not_before s.requests i k q r rising (grind (arith, nat_tests)) here e
