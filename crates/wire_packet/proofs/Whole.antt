-- The format and the spelling of packets are the same, and what reading gives is what `decode`
-- promises.
use Rattle.std.proofs.Common.{◌≡◌, ℕ, zero, suc, ◌-◌, ◌<◌, ◌^◌, List, [], ◌∷◌, length, Result, Ok}
use Rattle.std.proofs.Common.{Err, sym, ap, subst, inl, inr, arith}
use Rattle.std.specs.Prelude.{◌⊎◌}
use Rattle.chem_model.specs.Each.{Each}
use Rattle.wire_packet.specs.declared.fault.DecodeEnd.{DecodeEnd}
use Rattle.wire_packet.specs.declared.fault.DecodeEnd.TheVariants as end
use Rattle.wire_packet.specs.declared.parcel.Packet.{Packet}
use Rattle.wire_packet.specs.Format.{Format, Spells, WrongAt, HasOneOutcome}
use Rattle.wire_packet.specs.Packets.{packets}
use Rattle.wire_packet.specs.Codec.{IsSpelledBy, IsOrMemory}
use Rattle.wire_packet.specs.Reading.{read}
use Rattle.wire_packet.proofs.Laws.{IsBytes, Means, means, is_spelt, is_wrong, never_both}
use Rattle.wire_packet.proofs.Laws.{one_value, one_place}
use Rattle.wire_packet.proofs.ParcelsSpelt.{packet_spelt}
use Rattle.wire_packet.proofs.ParcelsSpell.{packet_spells}
use Rattle.wire_packet.proofs.Orders.{from_order, in_order}

pub is_spelling : (p : Packet) (bytes : List ℕ) → Spells packets p bytes → IsSpelledBy p bytes
is_spelling p bytes s = let h = packet_spelt p bytes s in (from_order p h.0, h.1)

pub spells : (p : Packet) (bytes : List ℕ) → IsSpelledBy p bytes → Spells packets p bytes
spells p bytes h =
    subst (λ (b : List ℕ). Spells packets p b) (sym h.1) (packet_spells p (in_order p h.0))

-- ---- the two outcomes

are_bytes : (bytes : List ℕ) → Each (λ b. b < 2 ^ 8) bytes → IsBytes bytes
are_bytes [] e i = omega arith
are_bytes (b ∷ bytes) e zero = omega (arith, e.0)
are_bytes (b ∷ bytes) e (suc i) = are_bytes bytes e.1 i

outcome : {A : Type 0} (f : Format A) (bytes : List ℕ) (r : Result A ℕ) → Means f bytes r
    → ((x : A) × Spells f x bytes) ⊎ ((place : ℕ) × WrongAt f bytes place)
outcome f bytes (Ok x) m = inl (x, m)
outcome f bytes (Err left) m = inr (m.0, m.2)

pub has_one : {A : Type 0} (f : Format A) (bytes : List ℕ) → Each (λ b. b < 2 ^ 8) bytes
    → HasOneOutcome f bytes
has_one f bytes e = record {
  some = outcome f bytes (read f bytes) (means f bytes (are_bytes bytes e));
  one_value = one_value f bytes;
  one_place = one_place f bytes;
  not_both = never_both f bytes;
}

-- ---- what was read

abbrev ok_of : Packet → Result Packet DecodeEnd
ok_of p = Ok p

abbrev bad_at : ℕ → Result Packet DecodeEnd
bad_at place = Err (end.Bad place)

pub found : (bytes : List ℕ) (x : Packet) → IsBytes bytes → read packets bytes ≡ Ok x
    → IsSpelledBy x bytes
found bytes x fits e = is_spelling x bytes (is_spelt packets bytes x fits e)

pub found_reads : (bytes : List ℕ) (x p : Packet) → IsBytes bytes → read packets bytes ≡ Ok x
    → IsSpelledBy p bytes → IsOrMemory (Ok p) (Ok x)
found_reads bytes x p fits e h = inl
    (ap ok_of (one_value packets bytes x p (is_spelt packets bytes x fits e) (spells p bytes h)))

pub found_refuses : (bytes : List ℕ) (x : Packet) (place : ℕ) → IsBytes bytes
    → read packets bytes ≡ Ok x → WrongAt packets bytes place → IsOrMemory (bad_at place) (Ok x)
found_refuses bytes x place fits e w =
    absurd (never_both packets bytes x place (is_spelt packets bytes x fits e) w)

pub bad_reads : (bytes : List ℕ) (left : ℕ) (p : Packet) → IsBytes bytes
    → read packets bytes ≡ Err left → IsSpelledBy p bytes
    → IsOrMemory (Ok p) (bad_at (length bytes - left))
bad_reads bytes left p fits e h = absurd (never_both packets bytes p (length bytes - left)
    (spells p bytes h) (is_wrong packets bytes left fits e).1)

pub bad_refuses : (bytes : List ℕ) (left place : ℕ) → IsBytes bytes → read packets bytes ≡ Err left
    → WrongAt packets bytes place → IsOrMemory (bad_at place) (bad_at (length bytes - left))
bad_refuses bytes left place fits e w = inl (ap bad_at
    (one_place packets bytes (length bytes - left) place (is_wrong packets bytes left fits e).1 w))
