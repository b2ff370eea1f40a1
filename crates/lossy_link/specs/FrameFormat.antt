-- The format of frames, a field a line.
use Rattle.std.specs.Prelude.{◌≡◌, ℕ, zero, suc, ◌<◌, ◌^◌, List, ◌++◌, Bool, true, ◌==◌, ◌&&◌}
use Rattle.std.specs.Prelude.{nat_lt, Result, Err, ◌⊎◌}
use Rattle.wire_packet.specs.Codec.{IsSpelledBy}
use Rattle.wire_packet.specs.Format.{Format, whole, field, one, four, eight, digits}
use Rattle.wire_packet.specs.Format.{Spells, WrongAt}
use Rattle.wire_packet.specs.MessageFacts.{MessageParts}
use Rattle.wire_packet.specs.Packets.{any, by_kind}
use Rattle.wire_packet.specs.Spelling.{spelling}
use Rattle.wire_packet.specs.declared.parcel.Packet.{Packet}
use Rattle.wire_packet.specs.declared.parcel.Packet.TheVariants as packet
use Rattle.wire_packet.specs.declared.fault.DecodeEnd.{DecodeEnd}
use Rattle.wire_packet.specs.declared.fault.DecodeEnd.TheVariants as end
use Rattle.lossy_link.specs.declared.frame.Frame.{Frame}
use Rattle.lossy_link.specs.declared.frame.Frame.TheVariants.{Data, Ack}

-- the same fields, for what is made of what they spell
abbrev pub over : {A B : Type 0} → (A → B) → Format A → Format B
over g (whole x) = whole (g x)
over g (field s allowed next) = field s allowed (λ n. over g (next n))

-- a packet of kind 1, a message
abbrev pub is_message : ℕ → Bool
is_message kind = kind == 1

abbrev pub only_messages : Format Packet
only_messages =
    field one is_message by_kind

-- a pair of sites and a number
abbrev pub pair_and_number : (ℕ → ℕ → ℕ → Format Frame) → Format Frame
pair_and_number next =
    field four any (λ from.
    field four any (λ into.
    field eight any (λ number. next from into number)))

abbrev pub carried_by : ℕ → ℕ → ℕ → Packet → Frame
carried_by f t n p = Data f t n (spelling p)

-- The table of frames: which tags there are, and what follows each.
abbrev pub is_frame : ℕ → Bool
is_frame tag = nat_lt 0 tag && nat_lt tag 3

-- what stands behind the head
abbrev pub behind_head : ℕ → ℕ → ℕ → ℕ → Format Frame
behind_head zero f t n = over (carried_by f t n) only_messages
behind_head (suc zero) f t n = over (carried_by f t n) only_messages
behind_head (suc (suc _)) f t n = whole (Ack f t n)

abbrev pub by_tag : ℕ → Format Frame
by_tag tag = pair_and_number (behind_head tag)

abbrev pub frames : Format Frame
frames =
    field one is_frame by_tag

-- ---- the one spelling of each frame

abbrev pub head : ℕ → ℕ → ℕ → ℕ → List ℕ
head tag f t n = digits one tag ++ (digits four f ++ (digits four t ++ digits eight n))

abbrev pub frame_spelling : Frame → List ℕ
frame_spelling (Data f t n bytes) = head 1 f t n ++ bytes
frame_spelling (Ack f t n) = head 2 f t n

-- the bytes are the spelling of a message
abbrev pub IsMessage : List ℕ → Type 0
IsMessage bytes = (m : MessageParts) × IsSpelledBy (packet.Message m) bytes

-- what a frame carries is the spelling of a message
abbrev pub CarriesMessage : Frame → Type 0
CarriesMessage (Data f t n bytes) = IsMessage bytes
CarriesMessage (Ack f t n) = Unit {0}

abbrev pub HasNumbers : Frame → Type 0
HasNumbers (Data f t n bytes) = (f < 2 ^ 32) × (t < 2 ^ 32) × (n < 2 ^ 64)
HasNumbers (Ack f t n) = (f < 2 ^ 32) × (t < 2 ^ 32) × (n < 2 ^ 64)

-- these bytes are the frame's spelling
pub record IsSpelledFrame (x : Frame) (bytes : List ℕ) : Type 0 where
  pub numbers : HasNumbers x
  pub carries : CarriesMessage x
  pub is : bytes ≡ frame_spelling x

-- the result is this answer, or want of memory
abbrev pub IsFrameOrMemory : Result Frame DecodeEnd → Result Frame DecodeEnd → Type 0
IsFrameOrMemory answer result = (result ≡ answer) ⊎ (result ≡ Err end.Memory)

-- what the end says of the bytes, by a format
abbrev pub NamesWrongIn : {A : Type 0} → Format A → DecodeEnd → List ℕ → Type 0
NamesWrongIn f (end.Bad place) bytes = WrongAt f bytes place
NamesWrongIn f end.Memory bytes = Unit {0}

abbrev pub NamesWrongFrame : DecodeEnd → List ℕ → Type 0
NamesWrongFrame e bytes = NamesWrongIn frames e bytes

-- the bytes begin with this head, and these follow it
pub record HasHead (tag f t n : ℕ) (rest bytes : List ℕ) : Type 0 where
  pub allowed : is_frame tag ≡ true
  pub byte : tag < 2 ^ 8
  pub from : f < 2 ^ 32
  pub into : t < 2 ^ 32
  pub number : n < 2 ^ 64
  pub is : bytes ≡ digits one tag ++ (digits four f ++ (digits four t ++ (digits eight n ++ rest)))

-- the text is the bytes, and they are the spelling of a message
pub record IsDataOf (text bytes : List ℕ) : Type 0 where
  pub is : text ≡ bytes
  pub packet_is : Packet
  pub spells : Spells only_messages packet_is bytes
  pub spelled : bytes ≡ spelling packet_is
