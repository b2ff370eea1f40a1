-- How far the index of covered guards was noted and compared.
use Rattle.std.specs.Prelude.{◌≡◌, ℕ, ◌<◌, ◌⊎◌, true, List, Some, slice_get}
use Rattle.chem_model.specs.Binders.{is_among}
use Rattle.chem_model.specs.declared.event.RuleId.{RuleId}
use Rattle.env_store.specs.CodeParts.{CodeParts}
use Rattle.wire_packet.specs.MessageFacts.{MessageParts}
use Rattle.site_shelves.specs.inside.Covered.{Key, Keys, has, key_at, key_from, Levels, IsNoted}
use Rattle.site_shelves.specs.inside.Covered.{AreMasksOf}

-- ---- masks

-- so has each of the first masks
abbrev pub NotedBelow :
    ℕ → Keys → RuleId → ℕ → List (List ℕ) → List (List MessageParts) → Type 0
NotedBelow n ks r s masks qs =
    (i : ℕ) (m : List ℕ) → i < n → slice_get masks i ≡ Some m
    → IsNoted ks (key_at r i s) qs m

-- its key stands as before, and where it is one of these places it is among those that are left
pub record IsLeftOver (ns left : List ℕ) (i : ℕ) (old now : Keys) (key : Key) : Type 0 where
  pub same : has now key ≡ has old key
  pub among : is_among ns i ≡ true → is_among left i ≡ true

-- so does each at these places but those that are left
abbrev pub AreNotedYet :
    List ℕ → List ℕ → Keys → Keys → Key → List (List ℕ) → List (List MessageParts)
    → Type 0
AreNotedYet ns left old now first masks qs =
    (i : ℕ) (m : List ℕ) → slice_get masks i ≡ Some m
    → IsNoted now (key_from first i) qs m
    ⊎ IsLeftOver ns left i old now (key_from first i)

-- ---- the code

-- all masks that are known of levels below n are those of the code
abbrev pub AgreesBelow : ℕ → CodeParts → Levels → Type 0
AgreesBelow n c levels =
    (v : ℕ) (ms : List (List ℕ)) → v < n → slice_get levels v ≡ Some (Some ms)
    → AreMasksOf c v ms
