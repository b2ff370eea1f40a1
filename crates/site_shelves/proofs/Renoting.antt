-- Those of a group's guards that wait on a channel are noted anew: the others don't look at it.
use Rattle.std.proofs.Common.{◌≡◌, ℕ, zero, suc, ◌+◌, ◌<◌, Bool, true, false, List, [], ◌∷◌, length}
use Rattle.std.proofs.Common.{Some, refl, sym, ap, subst, ◌∙◌, arith, inl, inr, ◌⊎◌, eqb-true, eq-eqb}
use Rattle.std.specs.Prelude.{slice_get, slice_set, slice_index_or, ◌==◌, ◌||◌}
use Rattle.chem_model.specs.Binders.{is_among}
use Rattle.wire_packet.specs.MessageFacts.{MessageParts}
use Rattle.status_words.specs.Words.{number_of_words, has_bit}
use Rattle.queue_cells.specs.Grouped.{AllHeld, lists_at, with_queue}
use Rattle.net_laws.specs.Site.{Told, Group}
use Rattle.site_shelves.specs.declared.covering.Covering.{Covering}
use Rattle.site_shelves.specs.inside.Index.{Rows, groups_of}
use Rattle.site_shelves.specs.inside.Waits.{AreAllOn}
use Rattle.site_shelves.specs.inside.Covered.{Key, Keys, has, key_at, key_from, KeepsAllBut}
use Rattle.site_shelves.specs.inside.Covered.{Levels, IsNoted, AreNotedAmong, IsAside}
use Rattle.site_shelves.specs.inside.Covered.{IsIndexed, IsIndexedAside, IsRenoted, AreIndexedBut}
use Rattle.site_shelves.specs.inside.Covered.{IsCovering, IsCoveringAside}
use Rattle.site_shelves.proofs.CoveredBelow.{IsLeftOver, AreNotedYet}
use Rattle.site_shelves.proofs.Queueing.{group-at}
use Rattle.site_shelves.proofs.Noting.{key-same, not-at, queue-changed}
use Rattle.site_shelves.proofs.StillHeld.{set-many, was-at}

-- ---- a mask without a channel

index-other : (qs : List (List MessageParts)) (c i : ℕ) (ms : List MessageParts) → (i ≡ c → ⊥)
    → slice_index_or (slice_set qs c ms) i [] ≡ slice_index_or qs i []
index-other [] c i ms other = refl
index-other (q ∷ qs) zero zero ms other = absurd (other refl)
index-other (q ∷ qs) zero (suc i) ms other = refl
index-other (q ∷ qs) (suc c) zero ms other = refl
index-other (q ∷ qs) (suc c) (suc i) ms other = index-other qs c i ms (λ e. other (ap suc e))

aside-held : (qs : List (List MessageParts)) (c : ℕ) (ms : List MessageParts) (mask : List ℕ)
    → has_bit mask c ≡ false → AllHeld (slice_set qs c ms) mask → AllHeld qs mask
aside-held qs c ms mask without all i has =
    let other : i ≡ c → ⊥ =
    λ same. let clash : true ≡ false = sym has ∙ ap (has_bit mask) same ∙ without in cc in
    subst (λ (q : List MessageParts). 0 < length q) (index-other qs c i ms other) (all i has)

aside-indexed : (levels : Levels) (ks : Keys) (s : ℕ) (g h : Group) (c : ℕ) (ms : List MessageParts)
    → h.told ≡ g.told → h.queues ≡ slice_set g.queues c ms → IsIndexed levels ks s g
    → IsIndexedAside c levels ks s h
aside-indexed levels ks s g h c ms told queues is = record {
  masks = is.masks;
  known = ap (λ (d : Told). slice_get levels d.inst.level) told ∙ is.known;
  noted = λ i m at without.
      let was = subst (λ (d : Told). IsNoted ks (key_at d.inst.rules i s) g.queues m) (sym told)
      (is.noted i m at) in
      record {
        wide = was.wide
            ∙ ap number_of_words (sym (ap length queues ∙ set-many g.queues c ms));
        entered = λ held. was.entered (aside-held g.queues c ms m without
            (subst (λ qs. AllHeld qs m) queues held));
      };
}

pub queue-aside : (a : Covering) (ss : List ℕ) (qs new : Rows) (i c : ℕ) (ms : List MessageParts)
    → new ≡ with_queue qs i c ms → IsCovering a ss (groups_of qs)
    → IsCoveringAside c i a ss (groups_of new)
queue-aside a ss qs new i c ms is covering e =
    let one : (s : ℕ) (g : Group) → slice_get ss i ≡ Some s
    → slice_get (groups_of (with_queue qs i c ms)) i ≡ Some g
    → IsIndexedAside c a.levels.items a.keys s g =
    λ s g serial at.
    let w = was-at qs i c ms g at in
    aside-indexed a.levels.items a.keys s w.before g c ms w.told
    (w.queues ∙ ap (λ ls. slice_set ls c ms) (sym w.old))
    (covering e i s w.before serial w.was) in
    subst (λ (rs : Rows). AreIndexedBut a.levels.items a.keys ss (groups_of rs) i
    × ((s : ℕ) (g : Group) → slice_get ss i ≡ Some s → slice_get (groups_of rs) i ≡ Some g
    → IsIndexedAside c a.levels.items a.keys s g)) (sym is)
    (queue-changed a.levels.items a.keys ss qs i c ms (covering e), one)

pub all-aside : (a : Covering) (ss : List ℕ) (gs : List Group) (i c : ℕ) → IsCovering a ss gs
    → IsCoveringAside c i a ss gs
all-aside a ss gs i c covering e = (
  λ j s g other serial at. covering e j s g serial at,
  λ s g serial at.
      let is = covering e i s g serial at in
      record {
        masks = is.masks;
        known = is.known;
        noted = λ j m there without. is.noted j m there;
      },
)

-- ---- the guards that were noted anew

pub renoted-is : (c : ℕ) (levels : Levels) (old new : Keys) (s : ℕ) (g : Group)
    → IsIndexedAside c levels old s g → IsRenoted c levels old new s g
    → IsIndexed levels new s g
renoted-is c levels old new s g was re =
    let both : Some (Some re.masks) ≡ Some (Some was.masks) = sym re.known ∙ was.known in
    let same : re.masks ≡ was.masks = cc in
    record {
      masks = re.masks;
      known = re.known;
      noted = λ i m at. elim (re.noted i m at) [
        | inl noted ↦ noted
        | inr aside ↦
            let before =
            was.noted i m (ap (λ ms. slice_get ms i) (sym same) ∙ at) aside.without in
            record {
              wide = before.wide;
              entered = λ held. aside.same ∙ before.entered held;
            }
      ];
    }

among-aside :
    (c : ℕ) (ns : List ℕ) (old new : Keys) (first : Key) (masks : List (List ℕ))
    (qs : List (List MessageParts)) (i : ℕ) (m : List ℕ) → AreAllOn c masks ns
    → slice_get masks i ≡ Some m → AreNotedAmong ns old new first masks qs
    → IsNoted new (key_from first i) qs m ⊎ IsAside c m old new (key_from first i)
among-aside c ns old new first masks qs i m all at noted = elim (noted i m at) [
  | inl is ↦ inl is
  | inr un ↦ inr (record { without = go (has_bit m c) refl un.out; same = un.same })
]
  where
    go : (b : Bool) → has_bit m c ≡ b → is_among ns i ≡ false → has_bit m c ≡ false
    go true e out = let clash : true ≡ false = sym (all i m at e) ∙ out in absurd (cc)
    go false e out = e

pub renoted-at :
    (c : ℕ) (levels : Levels) (old new : Keys) (s : ℕ) (qs : Rows) (j : ℕ) (d : Told)
    (masks : List (List ℕ)) (ns : List ℕ) (g : Group)
    → slice_get qs j ≡ Some (record { told = d; lists = lists_at qs j })
    → slice_get levels d.inst.level ≡ Some (Some masks) → AreAllOn c masks ns
    → AreNotedAmong ns old new (d.inst.rules.site, d.inst.rules.k, s) masks (lists_at qs j)
    → slice_get (groups_of qs) j ≡ Some g → IsRenoted c levels old new s g
renoted-at c levels old new s qs j d masks ns g at known all noted here =
    let h : Group = record { told = d; queues = lists_at qs j } in
    let both : Some h ≡ Some g =
    sym (group-at qs j (record { told = d; lists = lists_at qs j }) at) ∙ here in
    let is : h ≡ g = cc in
    subst (IsRenoted c levels old new s) is (record {
      masks = masks;
      known = known;
      noted = λ i m there. among-aside c ns old new (d.inst.rules.site, d.inst.rules.k, s) masks
          (lists_at qs j) i m all there noted;
    })

-- ---- one after another

pub yet-none : (ns : List ℕ) (ks : Keys) (first : Key) (masks : List (List ℕ))
    (qs : List (List MessageParts)) → AreNotedYet ns ns ks ks first masks qs
yet-none ns ks first masks qs i m at = inr (record { same = refl; among = λ e. e })

pub yet-more :
    (ns left rest : List ℕ) (p : ℕ) (old now new : Keys) (first : Key) (masks : List (List ℕ))
    (qs : List (List MessageParts)) → left ≡ p ∷ rest
    → AreNotedYet ns left old now first masks qs
    → ((m : List ℕ) → slice_get masks p ≡ Some m → IsNoted new (key_from first p) qs m)
    → KeepsAllBut (key_from first p) now new → AreNotedYet ns rest old new first masks qs
yet-more ns left rest p old now new first masks qs split yet here keeps i m at =
    go (p == i) refl (yet i m at)
  where
    later : (p == i) ≡ false → is_among left i ≡ true → is_among rest i ≡ true
    later e f =
        let whole : (p == i) || is_among rest i ≡ true =
        ap (λ js. is_among js i) (sym split) ∙ f in
        ap (λ t. t || is_among rest i) (sym e) ∙ whole

    kept : (p == i) ≡ false → has new (key_from first i) ≡ has now (key_from first i)
    kept e = keeps (key_from first i) (not-at (key_from first p) (key_from first i) (λ f.
        let sums : first.1 + p ≡ first.1 + i =
        (key-same (key_from first p) (key_from first i) f).0 in
        let same : p ≡ i = omega arith in
        let clash : true ≡ false = sym (eq-eqb p i same) ∙ e in
        cc))

    go : (b : Bool) → (p == i) ≡ b
        → IsNoted now (key_from first i) qs m
        ⊎ IsLeftOver ns left i old now (key_from first i)
        → IsNoted new (key_from first i) qs m
        ⊎ IsLeftOver ns rest i old new (key_from first i)
    go true e was =
        let same : p ≡ i = eqb-true p i e in
        inl (subst (λ j. IsNoted new (key_from first j) qs m) same
        (here m (ap (slice_get masks) same ∙ at)))
    go false e was = elim was [
      | inl noted ↦ inl (record {
        wide = noted.wide;
        entered = λ held. kept e ∙ noted.entered held;
      })
      | inr over ↦ inr (record {
        same = kept e ∙ over.same;
        among = λ f. later e (over.among f);
      })
    ]

pub yet-all :
    (ns left : List ℕ) (old new : Keys) (first : Key) (masks : List (List ℕ))
    (qs : List (List MessageParts)) → left ≡ [] → AreNotedYet ns left old new first masks qs
    → AreNotedAmong ns old new first masks qs
yet-all ns left old new first masks qs none yet i m at = elim (yet i m at) [
  | inl noted ↦ inl noted
  | inr over ↦ inr (record { out = go (is_among ns i) refl over.among; same = over.same })
]
  where
    go : (b : Bool) → is_among ns i ≡ b → (is_among ns i ≡ true → is_among left i ≡ true)
        → is_among ns i ≡ false
    go true e among =
        let clash : false ≡ true = ap (λ js. is_among js i) (sym none) ∙ among e in
        absurd (cc)
    go false e among = e
