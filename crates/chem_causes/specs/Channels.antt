-- Sets of channels, each with a count of arguments.
use Rattle.std.specs.Prelude.{◌≡◌, ℕ, List, Option, Some, None, Bool, false, ◌&&◌, ◌||◌, ◌==◌}
use Rattle.std.specs.Prelude.{length}
use Rattle.std.specs.List.{list_any}
use Rattle.chem_model.specs.declared.name.Name.TheVariants as name
use Rattle.chem_model.specs.declared.name.Ref.{Ref}
use Rattle.chem_model.specs.declared.name.Ref.TheVariants.{Binder, Known}
use Rattle.chem_model.specs.Process.{Process, Msg, Par, Def, Go, Fail, Halt}
use Rattle.chem_model.specs.Apply.{same_ref}
use Rattle.chem_causes.specs.Cause.{IsChannel}

-- a channel: its number, its home, and a count
abbrev pub Key : Type 0
Key = (ℕ × ℕ) × ((ℕ × ℕ) × ℕ)

abbrev pub channel_at : Key → Ref
channel_at e = Known (name.Chan e.0.0 e.0.1 (record { site = e.1.0.0; k = e.1.0.1 }))

-- the key of a channel with a count; any other name has none
abbrev pub key_of : Ref → ℕ → Option Key
key_of (Binder b) c = None
key_of (Known (name.Seen i)) c = None
key_of (Known (name.Place a)) c = None
key_of (Known (name.Chan s k h)) c = Some ((s, k), ((h.site, h.k), c))
key_of (Known (name.Num i)) c = None
key_of (Known (name.Op i)) c = None

abbrev pub IsKeyOf : Ref → ℕ → Option Key → Type 0
IsKeyOf x c key = key ≡ key_of x c

-- a set has a channel with a count
abbrev pub is_key : Ref → ℕ → Key → Bool
is_key x c e = same_ref (channel_at e) x && (e.1.1 == c)

abbrev pub has : List Key → Ref → ℕ → Bool
has keys x c = list_any (is_key x c) keys

-- the channels that pass a test were added, and no others
abbrev pub Adds : (Ref → ℕ → Bool) → List Key → List Key → Type 0
Adds test old new =
    (x : Ref) → IsChannel x → (c : ℕ) → has new x c ≡ (test x c || has old x c)

-- a message on this occurrence with this count
abbrev pub is_on : Ref → ℕ → Process → Bool
is_on x c (Msg y vs) = same_ref y x && (length vs == c)
is_on x c (Par ps) = false
is_on x c (Def ds p) = false
is_on x c (Go b k) = false
is_on x c (Fail a k) = false
is_on x c Halt = false
