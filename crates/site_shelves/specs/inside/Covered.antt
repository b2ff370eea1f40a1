-- The index of covered guards.
use Rattle.std.specs.Prelude.{◌≡◌, ℕ, ◌+◌, ◌<◌, Bool, true, false, List, Option, Some, slice_get}
use Rattle.std.specs.Prelude.{length, ◌↔◌, ◌⊎◌}
use Rattle.std.specs.BTreeSet.{BTreeSet, contains}
use Rattle.std.specs.BTreeMap.{is_at}
use Rattle.std.specs.declared.cmp.Ordering.{Ordering}
use Rattle.std.specs.Ordering.{ordering_then, nat_cmp}
use Rattle.chem_model.specs.declared.event.RuleId.{RuleId}
use Rattle.chem_model.specs.declared.name.Loc.{Loc}
use Rattle.chem_model.specs.Solution.{same_loc}
use Rattle.chem_model.specs.Binders.{is_among}
use Rattle.env_store.specs.declared.code.Guard.{Guard}
use Rattle.env_store.specs.declared.code.Level.{Level}
use Rattle.env_store.specs.CodeParts.{CodeParts}
use Rattle.wire_packet.specs.MessageFacts.{MessageParts}
use Rattle.status_words.specs.Words.{number_of_words, has_bit}
use Rattle.queue_cells.specs.Grouped.{AllHeld}
use Rattle.net_laws.specs.Site.{Group}
use Rattle.site_shelves.specs.inside.Index.{Rise}
use Rattle.site_shelves.specs.declared.told.Spots.{Spots}
use Rattle.site_shelves.specs.declared.covering.Covering.{Covering}

-- ---- keys: the site and the number of a guard's rule, and the serial of its group

abbrev pub Key : Type 0
Key = ℕ × ℕ × ℕ

abbrev pub key_cmp : Key → Key → Ordering
key_cmp p q = ordering_then (ordering_then (nat_cmp p.0 q.0) (nat_cmp p.1 q.1)) (nat_cmp p.2 q.2)

abbrev pub Keys : Type 0
Keys = BTreeSet Key

abbrev pub has : Keys → Key → Bool
has ks q = contains key_cmp ks q

-- the key of the guard n of a group whose first rule this is
abbrev pub key_at : RuleId → ℕ → ℕ → Key
key_at r n s = (r.site, r.k + n, s)

-- the key that comes so many places behind another one
abbrev pub key_from : Key → ℕ → Key
key_from p n = (p.0, p.1 + n, p.2)

-- all but this key stand as before
abbrev pub KeepsAllBut : Key → Keys → Keys → Type 0
KeepsAllBut p old new = (q : Key) → is_at (key_cmp p) q ≡ false → has new q ≡ has old q

-- all but the keys with this serial stand as before
abbrev pub KeepsOthers : ℕ → Keys → Keys → Type 0
KeepsOthers s old new = (q : Key) → (q.2 ≡ s → ⊥) → has new q ≡ has old q

-- ---- masks

-- the masks of each level's guards, where they are known
abbrev pub Levels : Type 0
Levels = List (Option (List (List ℕ)))

-- what is known of levels stays
abbrev pub KeepsLevels : Levels → Levels → Type 0
KeepsLevels old new =
    (v : ℕ) (ms : List (List ℕ)) → slice_get old v ≡ Some (Some ms)
    → slice_get new v ≡ Some (Some ms)

-- no more and no less is known
abbrev pub SameLevels : Levels → Levels → Type 0
SameLevels old new =
    (v : ℕ) (ms : List (List ℕ))
    → (slice_get old v ≡ Some (Some ms)) ↔ (slice_get new v ≡ Some (Some ms))

-- the mask has as many words as so many queues take, and its key is there where they cover it
pub record IsNoted (ks : Keys) (key : Key) (qs : List (List MessageParts)) (mask : List ℕ)
    : Type 0 where
  pub wide : length mask ≡ number_of_words (length qs)
  pub entered : AllHeld qs mask → has ks key ≡ true

abbrev pub AreNoted :
    Keys → RuleId → ℕ → List (List ℕ) → List (List MessageParts) → Type 0
AreNoted ks r s masks qs =
    (i : ℕ) (m : List ℕ) → slice_get masks i ≡ Some m → IsNoted ks (key_at r i s) qs m

-- ---- some of a group's guards are noted anew

-- it isn't one of these places, and its key stands as before
pub record IsUnasked (ns : List ℕ) (i : ℕ) (old new : Keys) (key : Key) : Type 0 where
  pub out : is_among ns i ≡ false
  pub same : has new key ≡ has old key

-- those at these places are noted, where this is the key of the first
abbrev pub AreNotedAmong :
    List ℕ → Keys → Keys → Key → List (List ℕ) → List (List MessageParts) → Type 0
AreNotedAmong ns old new first masks qs =
    (i : ℕ) (m : List ℕ) → slice_get masks i ≡ Some m
    → IsNoted new (key_from first i) qs m ⊎ IsUnasked ns i old new (key_from first i)

-- its mask hasn't the channel, and its key stands as before
pub record IsAside (c : ℕ) (mask : List ℕ) (old new : Keys) (key : Key) : Type 0 where
  pub without : has_bit mask c ≡ false
  pub same : has new key ≡ has old key

-- ---- groups

-- the masks of the group with this serial are known, and each that is covered has its key
pub record IsIndexed (levels : Levels) (ks : Keys) (s : ℕ) (g : Group) : Type 0 where
  pub masks : List (List ℕ)
  pub known : slice_get levels g.told.inst.level ≡ Some (Some masks)
  pub noted : AreNoted ks g.told.inst.rules s masks g.queues

-- the same of those guards whose masks haven't this channel
pub record IsIndexedAside (c : ℕ) (levels : Levels) (ks : Keys) (s : ℕ) (g : Group)
    : Type 0 where
  pub masks : List (List ℕ)
  pub known : slice_get levels g.told.inst.level ≡ Some (Some masks)
  pub noted :
      (i : ℕ) (m : List ℕ) → slice_get masks i ≡ Some m → has_bit m c ≡ false
      → IsNoted ks (key_at g.told.inst.rules i s) g.queues m

-- those that have it were noted anew
pub record IsRenoted (c : ℕ) (levels : Levels) (old new : Keys) (s : ℕ) (g : Group)
    : Type 0 where
  pub masks : List (List ℕ)
  pub known : slice_get levels g.told.inst.level ≡ Some (Some masks)
  pub noted :
      (i : ℕ) (m : List ℕ) → slice_get masks i ≡ Some m
      → IsNoted new (key_at g.told.inst.rules i s) g.queues m
      ⊎ IsAside c m old new (key_at g.told.inst.rules i s)

module _ (levels : Levels) (ks : Keys) (ss : List ℕ) (gs : List Group) where
  -- of each group
  abbrev pub AreIndexed : Type 0
  AreIndexed =
      (j s : ℕ) (g : Group) → slice_get ss j ≡ Some s → slice_get gs j ≡ Some g
      → IsIndexed levels ks s g

  -- of each group but this one
  abbrev pub AreIndexedBut : ℕ → Type 0
  AreIndexedBut i =
      (j s : ℕ) (g : Group) → (j ≡ i → ⊥) → slice_get ss j ≡ Some s → slice_get gs j ≡ Some g
      → IsIndexed levels ks s g

  -- of each group that doesn't stand at this location
  abbrev pub AreIndexedAway : Loc → Type 0
  AreIndexedAway l =
      (j s : ℕ) (g : Group) → same_loc l g.told.inst.loc ≡ false → slice_get ss j ≡ Some s
      → slice_get gs j ≡ Some g → IsIndexed levels ks s g

-- so many groups have serials, and these rise
pub record HasSerials (spots : Spots) (n : ℕ) : Type 0 where
  pub many : length spots.serials.items ≡ n
  pub rise : Rise 0 spots.serials.items spots.next

-- where the index isn't given up
abbrev pub IsCovering : Covering → List ℕ → List Group → Type 0
IsCovering a ss gs = a.lost ≡ false → AreIndexed a.levels.items a.keys ss gs

abbrev pub IsCoveringBut : ℕ → Covering → List ℕ → List Group → Type 0
IsCoveringBut i a ss gs = a.lost ≡ false → AreIndexedBut a.levels.items a.keys ss gs i

-- and of this one those guards are right whose masks haven't the channel
abbrev pub IsCoveringAside : ℕ → ℕ → Covering → List ℕ → List Group → Type 0
IsCoveringAside c i a ss gs =
    a.lost ≡ false
    → AreIndexedBut a.levels.items a.keys ss gs i
    × ((s : ℕ) (g : Group) → slice_get ss i ≡ Some s → slice_get gs i ≡ Some g
    → IsIndexedAside c a.levels.items a.keys s g)

abbrev pub IsCoveringAway : Loc → Covering → List ℕ → List Group → Type 0
IsCoveringAway l a ss gs = a.lost ≡ false → AreIndexedAway a.levels.items a.keys ss gs l

-- ---- the code

-- the first n of these are the masks of the code's guards from this one on
abbrev pub AreMasksBelow : ℕ → CodeParts → ℕ → List (List ℕ) → Type 0
AreMasksBelow n c first masks =
    (i : ℕ) (m : List ℕ) (g : Guard) → i < n → slice_get masks i ≡ Some m
    → slice_get c.guards (first + i) ≡ Some g → m ≡ g.mask.words

-- they are as many as the guards of the level with this number, and the first n are their masks
abbrev pub AreFirstMasksOf : ℕ → CodeParts → ℕ → List (List ℕ) → Type 0
AreFirstMasksOf n c v masks =
    (l : Level) → slice_get c.levels v ≡ Some l
    → (length masks ≡ l.guards) × AreMasksBelow n c l.first masks

-- these are the masks of the guards of the level with this number
abbrev pub AreMasksOf : CodeParts → ℕ → List (List ℕ) → Type 0
AreMasksOf c v masks = AreFirstMasksOf (length masks) c v masks

abbrev pub Agrees : CodeParts → Levels → Type 0
Agrees c levels =
    (v : ℕ) (ms : List (List ℕ)) → slice_get levels v ≡ Some (Some ms) → AreMasksOf c v ms
