-- Where the binders of a block are in a layout.
use Rattle.std.proofs.Common.{◌≡◌, ℕ, ◌+◌, ◌≤◌, List, [], ◌∷◌, ◌++◌, ◌==◌, ◌||◌, suc, length}
use Rattle.std.proofs.Common.{Option, Some, None, Bool, true, false, cond, refl, sym, ap, ◌∙◌}
use Rattle.std.proofs.Common.{subst, arith, append_assoc, length-append, inl, inr, eq-eqb}
use Rattle.std.specs.Prelude.{is_some}
use Rattle.chem_model.specs.declared.name.Name.{Name}
use Rattle.chem_model.specs.declared.name.Ref.{Ref}
use Rattle.chem_model.specs.declared.name.Ref.TheVariants.{Binder, Known}
use Rattle.chem_model.specs.declared.name.Pat.{Pat}
use Rattle.chem_model.specs.Process.{Rule, Place, Definitions, no_definition, and_also}
use Rattle.chem_model.specs.Binders.{binder_of, channels_of, block, is_among, times, once}
use Rattle.chem_model.specs.Scope.{AreRules, AreRulesAndPlaces}
use Rattle.chem_model.specs.Fill.{Naming, name_at}
use Rattle.chem_model.specs.Reduction.{given}
use Rattle.chem_model.specs.Pour.{Drawn}
use Rattle.chem_laws.proofs.Lists.{append_nil, either_true, cond_either}
use Rattle.chem_laws.proofs.Terms.{among-append, among_left, among_right, among_first, times-cons}
use Rattle.chem_laws.proofs.Parts.{is_named}
use Rattle.chem_laws.proofs.Naming.{channels_found, naming_domain}
use Rattle.chem_laws.proofs.NamingLevels.{top_channels, rules_block, Fresh}
use Rattle.env_store.specs.declared.code.Slot.TheVariants as slot
use Rattle.env_store.specs.Layout.{new_ref, new_in, new_channels, place_order, places_order, order}
use Rattle.env_store.specs.Running.{loc_at, channel_names}
use Rattle.env_store.specs.Reading.{position_from, position, top_or_place, slot_of, ChannelsAt}
use Rattle.env_store.specs.Reading.{PlacesAt}
use Rattle.env_store.proofs.NamingOrder.{given_domain, channels_long, channels_order}
use Rattle.env_store.proofs.NamingOrder.{channels_domain, order_names, order_long, order_is}

-- ---- where a binder is in a layout

-- behind members that are others
place_behind : (k : ℕ) (pre : List ℕ) (b : ℕ) (post : List ℕ) → is_among pre b ≡ false
    → position_from k (pre ++ b ∷ post) b ≡ Some (k + length pre)
place_behind k [] b post e =
    ap (λ t. cond t (Some k) (position_from (k + 1) post b)) (eq-eqb b b refl)
    ∙ (let at : k ≡ k + 0 = omega arith in ap (λ (n : ℕ). Some n) at)
place_behind k (c ∷ pre) b post e = go (c == b) (place_behind (k + 1) pre b post) e
  where
    go : (t : Bool)
        → (is_among pre b ≡ false
        → position_from (k + 1) (pre ++ b ∷ post) b ≡ Some ((k + 1) + length pre))
        → t || is_among pre b ≡ false
        → cond t (Some k) (position_from (k + 1) (pre ++ b ∷ post) b) ≡ Some (k + length (c ∷ pre))
    go true ih f = cc
    go false ih f =
        let at : (k + 1) + length pre ≡ k + length (c ∷ pre) = omega arith in
        ih f ∙ ap (λ (n : ℕ). Some n) at

-- behind members that are others, and before any
position_behind : (k : ℕ) (pre ys : List ℕ) (c : ℕ) → is_among pre c ≡ false
    → position_from k (pre ++ ys) c ≡ position_from (k + length pre) ys c
position_behind k [] ys c e = let at : k ≡ k + 0 = omega arith in ap (λ n. position_from n ys c) at
position_behind k (x ∷ pre) ys c e = go (x == c) (position_behind (k + 1) pre ys c) e
  where
    go : (t : Bool)
        → (is_among pre c ≡ false
        → position_from (k + 1) (pre ++ ys) c ≡ position_from ((k + 1) + length pre) ys c)
        → t || is_among pre c ≡ false
        → cond t (Some k) (position_from (k + 1) (pre ++ ys) c)
        ≡ position_from (k + length (x ∷ pre)) ys c
    go true ih f = cc
    go false ih f =
        let at : (k + 1) + length pre ≡ k + length (x ∷ pre) = omega arith in
        ih f ∙ ap (λ n. position_from n ys c) at

position_moved : (k n : ℕ) (xs post : List ℕ) (c j : ℕ) → position_from n xs c ≡ Some j
    → (i : ℕ) × (j ≡ n + i) × (position_from k (xs ++ post) c ≡ Some (k + i))
position_moved k n [] post c j e = cc
position_moved k n (x ∷ xs) post c j e = go (x == c) (position_moved (k + 1) (n + 1) xs post c j) e
  where
    go : (t : Bool)
        → (position_from (n + 1) xs c ≡ Some j
        → (i : ℕ) × (j ≡ (n + 1) + i) × (position_from (k + 1) (xs ++ post) c ≡ Some ((k + 1) + i)))
        → cond t (Some n) (position_from (n + 1) xs c) ≡ Some j
        → (i : ℕ) × (j ≡ n + i)
        × (cond t (Some k) (position_from (k + 1) (xs ++ post) c) ≡ Some (k + i))
    go true ih f =
        let same : n ≡ j = cc in
        let at : k ≡ k + 0 = omega arith in
        (0, omega arith, ap (λ (q : ℕ). Some q) at)
    go false ih f =
        let r = ih f in
        let at : (k + 1) + r.0 ≡ k + suc r.0 = omega arith in
        let is = r.1 in
        (suc r.0, omega arith, r.2 ∙ ap (λ (q : ℕ). Some q) at)

pub found_among : (n : ℕ) (xs : List ℕ) (c j : ℕ) → position_from n xs c ≡ Some j
    → is_among xs c ≡ true
found_among n [] c j e = cc
found_among n (x ∷ xs) c j e = go (x == c) (found_among (n + 1) xs c j) e
  where
    go : (t : Bool) → (position_from (n + 1) xs c ≡ Some j → is_among xs c ≡ true)
        → cond t (Some n) (position_from (n + 1) xs c) ≡ Some j → t || is_among xs c ≡ true
    go true ih f = refl
    go false ih f = ih f

pub once_least : (bs : List ℕ) (b : ℕ) → once bs b ≤ times bs b
once_least [] b = omega arith
once_least (c ∷ bs) b =
    omega (arith, cond_either (c == b) (is_among bs b), once_least bs b, times-cons c bs b)

pub once-append : (bs cs : List ℕ) (b : ℕ) → once (bs ++ cs) b ≤ once bs b + once cs b
once-append bs cs b = omega (
  arith,
  ap {B = ℕ} (λ t. cond t 1 0) (among-append bs cs b),
  cond_either (is_among bs b) (is_among cs b),
)

-- ---- which binders a block's order has

pub order_among : (ds : Definitions) (b : ℕ) → AreRulesAndPlaces ds
    → is_among (order ds) b ≡ is_among (block ds) b
order_among ds b ok =
    let l = loc_at 0 0 in
    sym (given_domain (order ds) (order_names 0 l 0 ds) (order_long 0 l 0 ds) b)
    ∙ ap (λ (a : Drawn). is_some (name_at a.names b)) (sym (order_is 0 l 0 ds))
    ∙ naming_domain 0 l ds 0 ok b

pub channels_among : (acc : List ℕ) (ds : Definitions) (b : ℕ)
    → is_among (acc ++ new_channels acc ds) b ≡ is_among acc b || is_among (top_channels ds) b
channels_among acc ds b =
    let l = loc_at 0 0 in
    let ns = channel_names 0 l 0 acc in
    let a : Drawn = record { next = 0; names = given acc ns } in
    let known = given_domain acc ns (channels_long 0 l 0 acc) in
    sym (channels_domain 0 l acc a (new_channels acc ds) known b)
    ∙ ap (λ (d : Drawn). is_some (name_at d.names b)) (sym (channels_order 0 l acc ds a known))
    ∙ channels_found 0 l ds b a ∙ ap (λ t. t || is_among (top_channels ds) b) (known b)

-- a channel that has no name yet gets one
pub new_among : (acc : List ℕ) (ds : Definitions) (b : ℕ) → is_among acc b ≡ false
    → is_among (top_channels ds) b ≡ true → is_among (new_channels acc ds) b ≡ true
new_among acc ds b e f =
    let whole = sym (among-append acc (new_channels acc ds) b) ∙ channels_among acc ds b in
    go (is_among acc b) (is_among (new_channels acc ds) b) (is_among (top_channels ds) b) e f whole
  where
    go : (t u v : Bool) → t ≡ false → v ≡ true → t || u ≡ t || v → u ≡ true
    go false u v p q h = h ∙ q
    go true u v p q h = cc

regroup : (t u v : Bool) → (t || u) || v ≡ t || (u || v)
regroup true u v = refl
regroup false u v = refl

-- and the channels that get one are the level's
ref_top : (acc : List ℕ) (x : Ref) (b : ℕ) → is_among (new_ref acc x) b ≡ true
    → is_among (binder_of x) b ≡ true
ref_top acc (Binder c) b e = go (is_among acc c) e
  where
    go : (t : Bool) → is_among (cond t [] (c ∷ [])) b ≡ true → is_among (c ∷ []) b ≡ true
    go true f = cc
    go false f = f
ref_top acc (Known n) b e = e

pats_top : (acc : List ℕ) (ps : List Pat) (b : ℕ) → is_among (new_in acc ps) b ≡ true
    → is_among (channels_of ps) b ≡ true
pats_top acc [] b e = e
pats_top acc (p ∷ ps) b e = elim (either_true (is_among (new_ref acc p.on) b)
    (is_among (new_in (acc ++ new_ref acc p.on) ps) b)
    (sym (among-append (new_ref acc p.on) (new_in (acc ++ new_ref acc p.on) ps) b) ∙ e)) [
      | inl f ↦ among_left (binder_of p.on) (channels_of ps) b (ref_top acc p.on b f)
      | inr f ↦ among_right (binder_of p.on) (channels_of ps) b
          (pats_top (acc ++ new_ref acc p.on) ps b f)
    ]

pub new_is_top : (acc : List ℕ) (ds : Definitions) (b : ℕ) → is_among (new_channels acc ds) b ≡ true
    → is_among (top_channels ds) b ≡ true
new_is_top acc no_definition b e = e
new_is_top acc (and_also (Rule ps p) ds) b e = elim (either_true (is_among (new_in acc ps) b)
    (is_among (new_channels (acc ++ new_in acc ps) ds) b)
    (sym (among-append (new_in acc ps) (new_channels (acc ++ new_in acc ps) ds) b) ∙ e)) [
      | inl f ↦ among_left (channels_of ps) (top_channels ds) b (pats_top acc ps b f)
      | inr f ↦ among_right (channels_of ps) (top_channels ds) b
          (new_is_top (acc ++ new_in acc ps) ds b f)
    ]
new_is_top acc (and_also (Place x es p) ds) b e = new_is_top acc ds b e

-- the members of two lists stay the same with one more, and with a place
pub one_known : (acc bs : List ℕ) (b : ℕ) → ((c : ℕ) → is_among acc c ≡ is_among bs c) → (c : ℕ)
    → is_among (acc ++ b ∷ []) c ≡ is_among (bs ++ b ∷ []) c
one_known acc bs b same c = among-append acc (b ∷ []) c
    ∙ ap (λ t. t || is_among (b ∷ []) c) (same c) ∙ sym (among-append bs (b ∷ []) c)

pub place_known : (acc bs : List ℕ) (b : ℕ) (es : Definitions) → AreRules es
    → ((c : ℕ) → is_among acc c ≡ is_among bs c) → (c : ℕ)
    → is_among (acc ++ place_order acc (Binder b) es) c ≡ is_among ((bs ++ b ∷ []) ++ block es) c
place_known acc bs b es ok same c =
    ap (λ cs. is_among cs c) (sym (append_assoc acc (b ∷ []) (new_channels (acc ++ b ∷ []) es)))
    ∙ channels_among (acc ++ b ∷ []) es c
    ∙ ap (λ t. t || is_among (top_channels es) c) (one_known acc bs b same c)
    ∙ ap (λ cs. is_among (bs ++ b ∷ []) c || is_among cs c) (sym (rules_block es ok))
    ∙ sym (among-append (bs ++ b ∷ []) (block es) c)

none_parts : (t u : Bool) → t || u ≡ false → (t ≡ false) × (u ≡ false)
none_parts false u e = (refl, e)
none_parts true u e = cc

module _ (tops : Naming) where
  -- no binder of the list is a site-level one, nor is the layout for it
  abbrev pub Free : List ℕ → List ℕ → Type 0
  Free y bs = (b : ℕ) → is_among bs b ≡ true → is_named tops b + once y b ≡ 0

  pub none_named : (b : ℕ) → is_named tops b ≡ 0 → name_at tops b ≡ None
  none_named b e = go (name_at tops b) e
    where
      go : (o : Option Name) → ◌≡◌ {A = ℕ} (cond (is_some o) 1 0) 0 → o ≡ None
      go None f = refl
      go (Some n) f = absurd (omega arith)

  pub none_once : (y : List ℕ) (b : ℕ) → once y b ≡ 0 → is_among y b ≡ false
  none_once y b e = go (is_among y b) e
    where
      go : (t : Bool) → ◌≡◌ {A = ℕ} (cond t 1 0) 0 → t ≡ false
      go false f = refl
      go true f = absurd (omega arith)

  none_either : (t u : Bool) → t ≡ false → u ≡ false → t || u ≡ false
  none_either false u e f = f
  none_either true u e f = cc

  -- a place's slot
  place_slot : (z pre : List ℕ) (b : ℕ) (post : List ℕ) → z ≡ pre ++ b ∷ post
      → is_among pre b ≡ false → name_at tops b ≡ None
      → slot_of tops z (Binder b) ≡ Some (slot.Env (length pre))
  place_slot z pre b post e f g =
      let at : 0 + length pre ≡ length pre = omega arith in
      ap (λ o. top_or_place o (position z b)) g ∙ ap (λ w. top_or_place None (position w b)) e
      ∙ ap (top_or_place None) (place_behind 0 pre b post f) ∙ ap (λ (n : ℕ). Some (slot.Env n)) at

  -- the channels of a level in a layout, behind members that are others
  pub channels_at : (z pre bs post : List ℕ) → z ≡ pre ++ (bs ++ post)
      → ((c : ℕ) → is_among bs c ≡ true → (is_among pre c ≡ false) × (name_at tops c ≡ None))
      → ChannelsAt tops z (length pre) bs
  channels_at z pre bs post e h c j at =
      let free = h c (found_among 0 bs c j at) in
      let moved = position_moved (0 + length pre) 0 bs post c j at in
      let same : (0 + length pre) + moved.0 ≡ length pre + j = omega (arith, moved.1) in
      ap (λ o. top_or_place o (position z c)) free.1 ∙ ap (λ w. top_or_place None (position w c)) e
      ∙ ap (top_or_place None) (position_behind 0 pre (bs ++ post) c free.0 ∙ moved.2)
      ∙ ap (λ (n : ℕ). Some (slot.Env n)) same

  -- the places of a block, where `pre` is the front of the layout z behind which they come, and has
  -- the members of y and of bs
  pub places_at : (ds : Definitions) (y z acc pre bs : List ℕ) → z ≡ pre ++ places_order acc ds
      → ((b : ℕ) → is_among pre b ≡ is_among y b || is_among bs b)
      → ((b : ℕ) → is_among acc b ≡ is_among bs b)
      → Fresh bs ds → AreRulesAndPlaces ds → Free y (block ds) → PlacesAt tops z acc (length pre) ds
  places_at no_definition y z acc pre bs at front same fresh ok free = tt
  places_at (and_also (Rule ps p) ds) y z acc pre bs at front same fresh ok free =
      let nil : acc ≡ acc ++ [] = sym (append_nil acc) in
      let none_more : length pre ≡ length pre + 0 = omega arith in
      let rest = places_at ds y z acc pre bs (at ∙ ap (λ a. pre ++ places_order a ds) (sym nil))
      front same fresh ok (λ b f. free b (among_right (channels_of ps) (block ds) b f)) in (
        tt,
        subst (λ i. PlacesAt tops z (acc ++ []) i ds) none_more
            (subst (λ a. PlacesAt tops z a (length pre) ds) nil rest),
      )
  places_at (and_also (Place (Known n) es p) ds) y z acc pre bs at front same fresh ok free =
      absurd fresh
  places_at (and_also (Place (Binder b) es p) ds) y z acc pre bs at front same fresh ok free =
      let mine = place_order acc (Binder b) es in
      let none_here = free b (among_first b (block es ++ block ds)) in
      let named : is_named tops b ≡ 0 = omega arith in
      let laid : once y b ≡ 0 = omega arith in
      let new : is_among pre b ≡ false =
      front b ∙ none_either (is_among y b) (is_among bs b) (none_once y b laid) fresh.0 in
      let here =
      place_slot z pre b (new_channels (acc ++ b ∷ []) es ++ places_order (acc ++ mine) ds) at new
      (none_named b named) in
      let long : length (pre ++ mine) ≡ length pre + length mine = length-append pre mine in
      let same' = place_known acc bs b es ok.0 same in
      let front' : (c : ℕ)
      → is_among (pre ++ mine) c ≡ is_among y c || is_among ((bs ++ b ∷ []) ++ block es) c =
      (λ c. among-append pre mine c ∙ ap (λ t. t || is_among mine c) (front c)
      ∙ regroup (is_among y c) (is_among bs c) (is_among mine c)
      ∙ ap (λ t. is_among y c || (t || is_among mine c)) (sym (same c))
      ∙ ap (λ t. is_among y c || t) (sym (among-append acc mine c))
      ∙ ap (λ t. is_among y c || t) (same' c)) in
      let rest = places_at ds y z (acc ++ mine) (pre ++ mine) ((bs ++ b ∷ []) ++ block es)
      (at ∙ sym (append_assoc pre mine (places_order (acc ++ mine) ds))) front' same' fresh.2 ok.1
      (λ c f. free c (among_right (b ∷ block es) (block ds) c f)) in
      let inner = new_channels (acc ++ b ∷ []) es in
      let behind_it : z ≡ (pre ++ b ∷ []) ++ (inner ++ places_order (acc ++ mine) ds) =
      at ∙ sym (append_assoc pre (b ∷ []) (inner ++ places_order (acc ++ mine) ds)) in
      let one_more : length (pre ++ b ∷ []) ≡ length pre + 1 = length-append pre (b ∷ []) in
      -- a channel of the place is one of its block, and none of those before
      let apart : (c : ℕ) → is_among inner c ≡ true
      → (is_among (pre ++ b ∷ []) c ≡ false) × (name_at tops c ≡ None) =
      (λ c f.
      let mine_is : is_among (block es) c ≡ true =
      ap (λ cs. is_among cs c) (rules_block es ok.0) ∙ new_is_top (acc ++ b ∷ []) es c f in
      let none_c = free c (among_right (b ∷ []) (block es ++ block ds) c
      (among_left (block es) (block ds) c mine_is)) in
      let named_c : is_named tops c ≡ 0 = omega arith in
      let laid_c : once y c ≡ 0 = omega arith in
      let old = fresh.1 c mine_is in
      let parts =
      none_parts (is_among bs c) (is_among (b ∷ []) c) (sym (among-append bs (b ∷ []) c) ∙ old) in (
        among-append pre (b ∷ []) c
            ∙ none_either (is_among pre c) (is_among (b ∷ []) c)
            (front c ∙ none_either (is_among y c) (is_among bs c) (none_once y c laid_c) parts.0)
            parts.1,
        none_named c named_c,
      )) in
      let own = subst (λ i. ChannelsAt tops z i inner) one_more
      (channels_at z (pre ++ b ∷ []) inner (places_order (acc ++ mine) ds) behind_it apart) in
      ((here, own), subst (λ i. PlacesAt tops z (acc ++ mine) i ds) long rest)
