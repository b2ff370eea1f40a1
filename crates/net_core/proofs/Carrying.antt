-- Flights and the messages that they carry.
use Rattle.std.proofs.Common.{◌≡◌, ℕ, zero, suc, List, [], ◌∷◌, ◌++◌, length, Some, Result, Ok, Err}
use Rattle.std.proofs.Common.{inl, inr, refl, sym, ap, ◌∙◌, subst}
use Rattle.std.specs.Prelude.{slice_get}
use Rattle.chem_model.specs.Each.{Each}
use Rattle.wire_packet.specs.MessageFacts.{MessageParts}
use Rattle.wire_packet.specs.declared.packet.Flight.{Flight}
use Rattle.wire_packet.specs.declared.parcel.Packet.TheVariants as packet
use Rattle.wire_packet.specs.declared.parcel.Packet.{Packet}
use Rattle.wire_packet.specs.declared.fault.DecodeEnd.{DecodeEnd}
use Rattle.wire_packet.specs.declared.fault.DecodeEnd.TheVariants as end
use Rattle.wire_packet.specs.Codec.{IsSpelledBy, IsOrMemory}
use Rattle.wire_packet.specs.Packets.{packets}
use Rattle.wire_packet.proofs.Laws.{spelled}
use Rattle.wire_packet.proofs.Whole.{spells}
use Rattle.net_laws.specs.Net.{Addressed, without_packet}
use Rattle.site_solution.specs.Answers.{IsFlightOf, AreFlights}
use Rattle.net_core.specs.Parts.{without, message_in, message_read, carried, all_carried}
use Rattle.net_core.specs.Parts.{IsMessageFlight}

-- the message that bytes spell is the one whose spelling they are
pub message_spelled : (m : MessageParts) (bytes : List ℕ) → IsSpelledBy (packet.Message m) bytes
    → message_in bytes ≡ m
unfolding message_in
message_spelled m bytes h =
    ap message_read (spelled packets (packet.Message m) bytes (spells (packet.Message m) bytes h))

pub carries : (p : Addressed) (f : Flight) → IsFlightOf p f → (carried f ≡ p) × IsMessageFlight f
carries p f h =
    let same = message_spelled p.msg f.bytes h.spelled in
    let to = h.to in (
      (λ i. record { target = to i; msg = same i }),
      subst (λ (m : MessageParts). IsSpelledBy (packet.Message m) f.bytes) (sym same) h.spelled,
    )

-- flights that a call of a site hands out
pub all_carry : (ps : List Addressed) (fs : List Flight) → AreFlights ps fs
    → (all_carried fs ≡ ps) × Each IsMessageFlight fs
all_carry [] [] h = (refl, tt)
all_carry [] (f ∷ fs) h = absurd h
all_carry (p ∷ ps) [] h = absurd h
all_carry (p ∷ ps) (f ∷ fs) h =
    let first = carries p f h.0 in
    let later = all_carry ps fs h.1 in (
      ap (λ (q : Addressed). q ∷ all_carried fs) first.0
          ∙ ap (λ (qs : List Addressed). p ∷ qs) later.0,
      (first.1, later.1),
    )

pub carried_append : (fs gs : List Flight)
    → all_carried (fs ++ gs) ≡ all_carried fs ++ all_carried gs
carried_append [] gs = refl
carried_append (f ∷ fs) gs = ap (λ ps. carried f ∷ ps) (carried_append fs gs)

pub carried_without : (fs : List Flight) (j : ℕ)
    → all_carried (without j fs) ≡ without_packet j (all_carried fs)
carried_without [] j = refl
carried_without (f ∷ fs) zero = refl
carried_without (f ∷ fs) (suc j) = ap (λ ps. carried f ∷ ps) (carried_without fs j)

pub carried_length : (fs : List Flight) → length (all_carried fs) ≡ length fs
carried_length [] = refl
carried_length (f ∷ fs) = ap suc (carried_length fs)

pub carried_at : (fs : List Flight) (j : ℕ) (f : Flight) → slice_get fs j ≡ Some f
    → slice_get (all_carried fs) j ≡ Some (carried f)
carried_at [] j f e = cc
carried_at (g ∷ fs) zero f e = let same : g ≡ f = cc in ap (λ (h : Flight). Some (carried h)) same
carried_at (g ∷ fs) (suc j) f e = carried_at fs j f e

pub each_without : {X : Type 0} (P : X → Type 0) (xs : List X) (j : ℕ) → Each P xs
    → Each P (without j xs)
each_without P [] j h = tt
each_without P (x ∷ xs) zero h = h.1
each_without P (x ∷ xs) (suc j) h = (h.0, each_without P xs j h.1)

-- ---- reading a flight

pub read_found : (bytes slice : List ℕ) (x : Packet)
    → IsSpelledBy (packet.Message (message_in bytes)) bytes → slice ≡ bytes
    → ((p : Packet) → IsSpelledBy p slice → IsOrMemory (Ok p) (Ok x))
    → x ≡ packet.Message (message_in bytes)
read_found bytes slice x spelt same reads =
    elim (reads (packet.Message (message_in bytes))
    (subst (λ (bs : List ℕ). IsSpelledBy (packet.Message (message_in bytes)) bs) (sym same)
    spelt)) [
      | inl e ↦ found e
      | inr e ↦ absurd (memory e)
    ]
  where
    found : ◌≡◌ {A = Result Packet DecodeEnd} (Ok x) (Ok (packet.Message (message_in bytes)))
        → x ≡ packet.Message (message_in bytes)
    found e = cc

    memory : ◌≡◌ {A = Result Packet DecodeEnd} (Ok x) (Err end.Memory) → ⊥
    memory e = cc

pub read_bad : (bytes slice : List ℕ) (e : DecodeEnd) (place : ℕ) → e ≡ end.Bad place
    → IsSpelledBy (packet.Message (message_in bytes)) bytes → slice ≡ bytes
    → ((p : Packet) → IsSpelledBy p slice → IsOrMemory (Ok p) (Err e)) → ⊥
read_bad bytes slice e place is spelt same reads =
    elim (reads (packet.Message (message_in bytes))
    (subst (λ (bs : List ℕ). IsSpelledBy (packet.Message (message_in bytes)) bs) (sym same)
    spelt)) [
      | inl f ↦ found f
      | inr f ↦ memory f
    ]
  where
    found : ◌≡◌ {A = Result Packet DecodeEnd} (Err e) (Ok (packet.Message (message_in bytes))) → ⊥
    found f = cc

    memory : ◌≡◌ {A = Result Packet DecodeEnd} (Err e) (Err end.Memory) → ⊥
    memory f =
        let same : e ≡ end.Memory = cc in
        let other : end.Bad place ≡ end.Memory = sym is ∙ same in
        cc
