-- The names of a block's places, by the number at which their naming began.
use Rattle.std.proofs.Common.{◌≡◌, ℕ, zero, suc, ◌+◌, List, [], ◌∷◌, ◌++◌, ◌==◌, length, Option}
use Rattle.std.proofs.Common.{Some, None, Bool, true, false, cond, sym, ap, ◌∙◌, subst, arith}
use Rattle.std.proofs.Common.{append_assoc, length-append}
use Rattle.std.specs.Prelude.{slice_get}
use Rattle.chem_model.specs.declared.name.Name.{Name}
use Rattle.chem_model.specs.declared.name.Name.TheVariants as name
use Rattle.chem_model.specs.declared.name.Ref.{Ref}
use Rattle.chem_model.specs.declared.name.Ref.TheVariants.{Binder, Known}
use Rattle.chem_model.specs.Process.{Definition, Rule, Place, Definitions, no_definition, and_also}
use Rattle.chem_model.specs.Binders.{binder_of}
use Rattle.chem_model.specs.declared.name.Loc.{Loc}
use Rattle.chem_model.specs.Fill.{Naming, name_at, or_binder, fill_ref}
use Rattle.env_store.specs.Groups.{ChannelsNamed}
use Rattle.chem_model.specs.Reduction.{given}
use Rattle.env_store.specs.declared.code.Slot.TheVariants as slot
use Rattle.env_store.specs.Layout.{new_channels, place_in}
use Rattle.env_store.specs.Running.{loc_at, channel_names}
use Rattle.env_store.specs.Reading.{position_from, position, slot_of, ChannelsAt, PlacesAt}
use Rattle.env_store.proofs.Lists.{get_front}
use Rattle.env_store.proofs.Slots.{slot_law}
use Rattle.env_store.proofs.NamingOrder.{names_in, names_in_long, names_of_places}

-- ---- the names of the places of a block, by the number at which their naming began

abbrev pub PlaceNamed : ℕ → Naming → List ℕ → ℕ → Definition → Type 0
PlaceNamed s m acc kn (Rule ps p) = Unit {0}
PlaceNamed s m acc kn (Place x es p) = (fill_ref m x ≡ Known (name.Place (loc_at s kn)))
    × ChannelsNamed s m (loc_at s kn) (kn + 1) (new_channels (acc ++ binder_of x) es)

abbrev pub PlacesNamed : ℕ → Naming → List ℕ → ℕ → Definitions → Type 0
PlacesNamed s m acc kn no_definition = Unit {0}
PlacesNamed s m acc kn (and_also d ds) = PlaceNamed s m acc kn d
    × PlacesNamed s m (acc ++ place_in acc d) (kn + length (place_in acc d)) ds

-- under the environment in which a `def` has given them
get_behind : {X : Type 0} (pre ys : List X) (j : ℕ)
    → slice_get (pre ++ ys) (length pre + j) ≡ slice_get ys j
get_behind [] ys j = let at : 0 + j ≡ j = omega arith in ap (slice_get ys) at
get_behind (x ∷ pre) ys j =
    let at : length (x ∷ pre) + j ≡ suc (length pre + j) = omega arith in
    ap (slice_get (x ∷ (pre ++ ys))) at ∙ get_behind pre ys j

get_left : {X : Type 0} (xs ys : List X) (j : ℕ) (x : X) → slice_get xs j ≡ Some x
    → slice_get (xs ++ ys) j ≡ Some x
get_left [] ys j x e = cc
get_left (y ∷ xs) ys zero x e = e
get_left (y ∷ xs) ys (suc j) x e = get_left xs ys j x e

-- the channel of a binder's position
channel_from : (s : ℕ) (q : Loc) (k n : ℕ) (bs : List ℕ) (b j : ℕ) → position_from n bs b ≡ Some j
    → (i : ℕ) × (j ≡ n + i) × (slice_get (channel_names s q k bs) i ≡ Some (name.Chan s (k + i) q))
channel_from s q k n [] b j e = cc
channel_from s q k n (c ∷ bs) b j e = go (c == b) (channel_from s q (k + 1) (n + 1) bs b j) e
  where
    go : (t : Bool)
        → (position_from (n + 1) bs b ≡ Some j
        → (i : ℕ) × (j ≡ (n + 1) + i)
        × (slice_get (channel_names s q (k + 1) bs) i ≡ Some (name.Chan s ((k + 1) + i) q)))
        → cond t (Some n) (position_from (n + 1) bs b) ≡ Some j
        → (i : ℕ) × (j ≡ n + i)
        × (slice_get (channel_names s q k (c ∷ bs)) i ≡ Some (name.Chan s (k + i) q))
    go true ih f =
        let same : n ≡ j = cc in
        let at : k ≡ k + 0 = omega arith in
        (0, omega arith, ap (λ x. Some (name.Chan s x q)) at)
    go false ih f =
        let r = ih f in
        let at : (k + 1) + r.0 ≡ k + suc r.0 = omega arith in
        let j_is = r.1 in
        (suc r.0, omega arith, r.2 ∙ ap (λ x. Some (name.Chan s x q)) at)

channel_at : (s : ℕ) (q : Loc) (k : ℕ) (bs : List ℕ) (b j : ℕ) → position bs b ≡ Some j
    → slice_get (channel_names s q k bs) j ≡ Some (name.Chan s (k + j) q)
channel_at s q k bs b j e =
    let r = channel_from s q k 0 bs b j e in
    let same : r.0 ≡ j = omega (arith, r.1) in
    subst (λ i. slice_get (channel_names s q k bs) i ≡ Some (name.Chan s (k + i) q)) same r.2

some_of : (b : ℕ) (o : Option Name) (n : Name) → or_binder b o ≡ Known n → o ≡ Some n
some_of b None n e = cc
some_of b (Some m) n e = let same : m ≡ n = cc in ap (λ (x : Name). Some x) same

module _ (tops : Naming) (s : ℕ) (z : List ℕ) (env : List Name) (long : length env ≡ length z) where
  place_filled : (pre post : List Name) (kn i : ℕ) (x : Ref)
      → env ≡ pre ++ name.Place (loc_at s kn) ∷ post → length pre ≡ i
      → slot_of tops z x ≡ Some (slot.Env i)
      → fill_ref (tops ++ given z env) x ≡ Known (name.Place (loc_at s kn))
  place_filled pre post kn i x e n at =
      sym (slot_law tops z env long x (slot.Env i) at)
      ∙ ap (or_binder i)
      (ap (λ ns. slice_get ns i) e ∙ ap (slice_get (pre ++ name.Place (loc_at s kn) ∷ post)) (sym n)
      ∙ get_front pre (name.Place (loc_at s kn)) post)

  -- the channels of a level, behind so many names
  pub channels_named : (pre post : List Name) (q : Loc) (k i : ℕ) (bs : List ℕ)
      → env ≡ pre ++ (channel_names s q k bs ++ post) → length pre ≡ i → ChannelsAt tops z i bs
      → ChannelsNamed s (tops ++ given z env) q k bs
  channels_named pre post q k i bs e n h b j at =
      let there : slice_get env (i + j) ≡ Some (name.Chan s (k + j) q) =
      ap (λ ns. slice_get ns (i + j)) e
      ∙ (let m : i + j ≡ length pre + j = omega arith in
      ap (slice_get (pre ++ (channel_names s q k bs ++ post))) m)
      ∙ get_behind pre (channel_names s q k bs ++ post) j
      ∙ get_left (channel_names s q k bs) post j (name.Chan s (k + j) q)
      (channel_at s q k bs b j at) in
      some_of b (name_at (tops ++ given z env) b) (name.Chan s (k + j) q)
      (sym (slot_law tops z env long (Binder b) (slot.Env (i + j)) (h b j at))
      ∙ ap (or_binder (i + j)) there)

  pub places_named : (ds : Definitions) (acc : List ℕ) (i kn : ℕ) (pre : List Name)
      → PlacesAt tops z acc i ds → env ≡ pre ++ names_of_places s acc kn ds → length pre ≡ i
      → PlacesNamed s (tops ++ given z env) acc kn ds
  places_named no_definition acc i kn pre h e n = tt
  places_named (and_also (Rule ps p) ds) acc i kn pre h e n = (
    tt,
    places_named ds (acc ++ []) (i + length {A = ℕ} []) (kn + length {A = ℕ} []) pre h.1 e
        (omega arith),
  )
  places_named (and_also (Place (Known m) es p) ds) acc i kn pre h e n = let wrong = h.0.0 in cc
  places_named (and_also (Place (Binder b) es p) ds) acc i kn pre h e n =
      let d = Place (Binder b) es p in
      let bs = new_channels (acc ++ b ∷ []) es in
      let xs = names_in s acc kn d in
      let ys = names_of_places s (acc ++ place_in acc d) (kn + length (place_in acc d)) ds in (
        (
          place_filled pre (channel_names s (loc_at s kn) (kn + 1) bs ++ ys) kn i (Binder b) e n
              h.0.0,
          channels_named (pre ++ name.Place (loc_at s kn) ∷ []) ys (loc_at s kn) (kn + 1) (i + 1) bs
              (e
              ∙ sym (append_assoc pre (name.Place (loc_at s kn) ∷ [])
              (channel_names s (loc_at s kn) (kn + 1) bs ++ ys)))
              (omega (arith, length-append pre (name.Place (loc_at s kn) ∷ []))) h.0.1,
        ),
        places_named ds (acc ++ place_in acc d) (i + length (place_in acc d))
            (kn + length (place_in acc d)) (pre ++ xs) h.1 (e ∙ sym (append_assoc pre xs ys))
            (omega (arith, length-append pre xs, names_in_long s acc kn d)),
      )
