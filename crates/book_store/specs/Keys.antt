-- Keys of what stands in a book: a number, and then the number of a message, a request or a rule.
use Rattle.std.specs.Prelude.{◌≡◌, ℕ, ◌+◌, ◌*◌, ◌%◌, List, Option, Some, None}
use Rattle.chem_model.specs.declared.name.Loc.{Loc}
use Rattle.chem_model.specs.declared.name.Name.TheVariants as name
use Rattle.chem_model.specs.declared.name.Ref.{Ref}
use Rattle.chem_model.specs.declared.name.Ref.TheVariants.{Binder, Known}
use Rattle.chem_model.specs.Process.{Process, Msg, Par, Def, Go, Fail, Halt}
use Rattle.chem_model.specs.Each.{IsIn}

abbrev pub Key : Type 0
Key = ℕ × (ℕ × ℕ)

-- a site and a number in one: different for different ones below 2^31
abbrev pub joined : ℕ → ℕ → ℕ
joined s k = k % 2147483648 * 4294967296 + s

-- the number of a channel. All other names have one, which no channel has
abbrev pub number_of : Ref → ℕ
number_of (Binder b) = 9223372036854775808
number_of (Known (name.Seen i)) = 9223372036854775808
number_of (Known (name.Place a)) = 9223372036854775808
number_of (Known (name.Num n)) = 9223372036854775808
number_of (Known (name.Op i)) = 9223372036854775808
number_of (Known (name.Chan s k h)) = joined s k

-- the number of a location
abbrev pub place_number : Loc → ℕ
place_number l = joined l.site l.k

-- the number of a message's channel. A request has none
abbrev pub channel_of : Process → Option ℕ
channel_of (Msg x vs) = Some (number_of x)
channel_of (Par ps) = None
channel_of (Def ds p) = None
channel_of (Go b k) = None
channel_of (Fail a k) = None
channel_of Halt = None

-- no key is lost
abbrev pub KeepsKeys : List Key → List Key → Type 0
KeepsKeys old new = (k : Key) → IsIn k old → IsIn k new

-- no key has this number
abbrev pub HasNone : ℕ → List Key → Type 0
HasNone c keys = (k : Key) → IsIn k keys → k.0 ≡ c → ⊥

-- each key with this number is among these
abbrev pub HasAll : ℕ → List Key → List Key → Type 0
HasAll c keys list = (k : Key) → IsIn k keys → k.0 ≡ c → IsIn k list

-- these have this number
abbrev pub HasOnly : ℕ → List Key → Type 0
HasOnly c list = (k : Key) → IsIn k list → k.0 ≡ c
