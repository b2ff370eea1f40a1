-- Frames are read exactly: what the format says is what the spelling says, and one outcome excludes
-- the others.
use Rattle.std.proofs.Common.{◌≡◌, ℕ, zero, suc, ◌+◌, ◌<◌, ◌≤◌, ◌^◌, List, [], ◌∷◌, ◌++◌, true}
use Rattle.std.proofs.Common.{Result, Ok, Err, length, get_or, refl, sym, ap, ◌∙◌, subst, arith}
use Rattle.std.proofs.Common.{inl, inr, append_assoc}
use Rattle.std.specs.Prelude.{MatchResult, IfOk}
use Rattle.std.proofs.lemmas.Bool.Decides.{nat_tests}
use Rattle.wire_packet.specs.MessageFacts.{MessageParts}
use Rattle.wire_packet.specs.Format.{one, four, eight, digits, Spells, WrongAt}
use Rattle.wire_packet.specs.Packets.{packets, is_kind}
use Rattle.wire_packet.specs.Codec.{IsSpelledBy, NamesWrong}
use Rattle.wire_packet.specs.Spelling.{spelling}
use Rattle.wire_packet.specs.declared.parcel.Packet.{Packet}
use Rattle.wire_packet.specs.declared.parcel.Packet.TheVariants as packet
use Rattle.wire_packet.specs.declared.fault.DecodeEnd.{DecodeEnd}
use Rattle.wire_packet.specs.declared.fault.DecodeEnd.TheVariants as end
use Rattle.wire_packet.proofs.Laws.{one_value, one_place, never_both, wrong, digits_len}
use Rattle.wire_packet.proofs.Whole.{is_spelling, spells}
use Rattle.lossy_link.specs.declared.frame.Frame.{Frame}
use Rattle.lossy_link.specs.declared.frame.Frame.TheVariants.{Data, Ack}
use Rattle.lossy_link.specs.FrameFormat.{frames, behind_head, is_frame, is_message, only_messages}
use Rattle.lossy_link.specs.FrameFormat.{carried_by}
use Rattle.lossy_link.specs.FrameFormat.{HasHead, IsDataOf, IsMessage, IsSpelledFrame, NamesWrongIn}
use Rattle.lossy_link.specs.FrameFormat.{NamesWrongFrame, IsFrameOrMemory}
use Rattle.lossy_link.proofs.FrameLaws.{over_spells, spells_over, over_wrong, message_spells}
use Rattle.lossy_link.proofs.FrameLaws.{message_wrong}
use Rattle.lossy_link.proofs.Heads.{spelled_behind}

pub put_four : (a b c d e x y z u : List ℕ) → b ≡ a ++ x → c ≡ b ++ y → d ≡ c ++ z → e ≡ d ++ u
    → e ≡ a ++ (x ++ (y ++ (z ++ u)))
put_four a b c d e x y z u p q r s =
    s
    ∙ ap (λ (t : List ℕ). t ++ u)
    (r ∙ ap (λ (t : List ℕ). t ++ z) (q ∙ ap (λ (t : List ℕ). t ++ y) p))
    ∙ append_assoc ((a ++ x) ++ y) z u ∙ append_assoc (a ++ x) y (z ++ u)
    ∙ append_assoc a x (y ++ (z ++ u))

regroup : (f t n rest : List ℕ) → (f ++ (t ++ n)) ++ rest ≡ f ++ (t ++ (n ++ rest))
regroup f t n rest =
    append_assoc f (t ++ n) rest ∙ ap (λ (xs : List ℕ). f ++ xs) (append_assoc t n rest)

-- ---- messages alone

pub starts : (bytes : List ℕ) → get_or bytes 0 0 ≡ 1 → (rest : List ℕ) × (bytes ≡ 1 ∷ rest)
starts [] is = absurd (omega (arith, is))
starts (k ∷ rest) is = (rest, ap (λ (n : ℕ). n ∷ rest) is)

pub only_spells : (p : Packet) (rest bytes : List ℕ) → bytes ≡ 1 ∷ rest → IsSpelledBy p bytes
    → Spells only_messages p bytes
only_spells p rest bytes is h = subst (Spells only_messages p) (sym is)
    (message_spells p rest (subst (Spells packets p) is (spells p bytes h)))

pub data_from : (r : Result (List ℕ) DecodeEnd) (rest bytes : List ℕ) (p : Packet)
    → bytes ≡ 1 ∷ rest → IsSpelledBy p bytes
    → MatchResult r (λ text. text ≡ bytes) (λ e. e ≡ end.Memory)
    → MatchResult r (λ text. IsDataOf text bytes) (λ e. NamesWrongIn only_messages e bytes)
data_from (Ok text) rest bytes p begins h is =
    record { is = is; packet_is = p; spells = only_spells p rest bytes begins h; spelled = h.1 }
data_from (Err e) rest bytes p begins h is =
    subst (λ (x : DecodeEnd). NamesWrongIn only_messages x bytes) (sym is) tt

pub wrong_from : (e : DecodeEnd) (rest bytes : List ℕ) → bytes ≡ 1 ∷ rest → NamesWrong e bytes
    → NamesWrongIn only_messages e bytes
wrong_from (end.Bad place) rest bytes is w = subst (λ (xs : List ℕ). WrongAt only_messages xs place)
    (sym is) (message_wrong rest place (subst (λ (xs : List ℕ). WrongAt packets xs place) is w))
wrong_from end.Memory rest bytes is w = tt

-- ---- behind the head

too_large : (k : ℕ) → is_frame (suc (suc (suc k))) ≡ true → ⊥
too_large k h = grind (arith, nat_tests)

module _ (f t n : ℕ) (bytes : List ℕ) where
  pub data_behind : (tag : ℕ) (text : List ℕ) → is_frame tag ≡ true → (tag ≡ 2 → ⊥)
      → IsDataOf text bytes → Spells (behind_head tag f t n) (Data f t n text) bytes
  data_behind zero text may other h = cc
  data_behind (suc zero) text may other h =
      subst (λ (xs : List ℕ). Spells (behind_head 1 f t n) (Data f t n xs) bytes)
      (sym (h.is ∙ h.spelled))
      (over_spells (carried_by f t n) only_messages h.packet_is bytes h.spells)
  data_behind (suc (suc zero)) text may other h = absurd (other refl)
  data_behind (suc (suc (suc k))) text may other h = absurd (too_large k may)

  pub data_wrong : (tag : ℕ) (e : DecodeEnd) → is_frame tag ≡ true → (tag ≡ 2 → ⊥)
      → NamesWrongIn only_messages e bytes → NamesWrongIn (behind_head tag f t n) e bytes
  data_wrong zero e may other w = cc
  data_wrong (suc zero) (end.Bad place) may other w =
      over_wrong (carried_by f t n) only_messages bytes place w
  data_wrong (suc zero) end.Memory may other w = tt
  data_wrong (suc (suc zero)) e may other w = absurd (other refl)
  data_wrong (suc (suc (suc k))) e may other w = absurd (too_large k may)

-- ---- the one spelling of each frame

is_one : (k : ℕ) → is_message k ≡ true → k ≡ 1
is_one k h = grind (arith, nat_tests)

all_spells : (p : Packet) (bytes : List ℕ) → Spells only_messages p bytes → Spells packets p bytes
unfolding packets
all_spells p bytes h =
    let one_is = is_one h.0 h.4 in
    (h.0, h.1, h.2, h.3, subst (λ (k : ℕ). is_kind k ≡ true) (sym one_is) refl, h.5)

message_in_it : (p : Packet) (bytes rest : List ℕ) → bytes ≡ 1 ∷ rest → IsSpelledBy p bytes
    → IsMessage bytes
message_in_it (packet.Message m) bytes rest begins h = (m, h)
message_in_it (packet.Parcel q) bytes rest begins h =
    let both : 1 ∷ rest ≡ spelling (packet.Parcel q) = sym begins ∙ h.1 in
    cc

spelled_tail : (tag f t n : ℕ) (rest bytes : List ℕ) (x : Frame) → HasHead tag f t n rest bytes
    → Spells (behind_head tag f t n) x rest → IsSpelledFrame x bytes
spelled_tail zero f t n rest bytes x h s = let bad = h.allowed in cc
spelled_tail (suc zero) f t n rest bytes x h s =
    let p = spells_over (carried_by f t n) only_messages x rest s in
    let by = is_spelling p.0 rest (all_spells p.0 rest p.2) in
    let begins : rest ≡ 1 ∷ p.2.1 = p.2.3 ∙ ap (λ (k : ℕ). k ∷ p.2.1) (is_one p.2.0 p.2.4) in
    let m = message_in_it p.0 rest p.2.1 begins by in
    let same : Data f t n rest ≡ x = ap (Data f t n) by.1 ∙ p.1 in
    subst (λ (y : Frame). IsSpelledFrame y bytes) same (record {
      numbers = (h.from, h.into, h.number);
      carries = m;
      is = h.is
          ∙ ap (λ (xs : List ℕ). 1 ∷ xs)
          (sym (regroup (digits four f) (digits four t) (digits eight n) rest));
    })
spelled_tail (suc (suc zero)) f t n rest bytes x h s =
    subst (λ (y : Frame). IsSpelledFrame y bytes) s.0 (record {
      numbers = (h.from, h.into, h.number);
      carries = tt;
      is = h.is
          ∙ ap (λ (xs : List ℕ). 2 ∷ (digits four f ++ (digits four t ++ (digits eight n ++ xs))))
          s.1
          ∙ ap (λ (xs : List ℕ). 2 ∷ xs)
          (sym (regroup (digits four f) (digits four t) (digits eight n) [])
          ∙ nothing_behind (digits four f ++ (digits four t ++ digits eight n)));
    })
  where
    nothing_behind : (xs : List ℕ) → xs ++ [] ≡ xs
    nothing_behind [] = refl
    nothing_behind (y ∷ ys) = ap (λ (zs : List ℕ). y ∷ zs) (nothing_behind ys)
spelled_tail (suc (suc (suc k))) f t n rest bytes x h s = absurd (too_large k h.allowed)

pub frame_is : (x : Frame) (bytes : List ℕ) → Spells frames x bytes → IsSpelledFrame x bytes
frame_is x bytes h =
    let a = h.5 in
    let b = a.5 in
    let c = b.5 in
    spelled_tail h.0 a.0 b.0 c.0 c.1 bytes x (record {
      allowed = h.4;
      byte = h.2;
      from = a.2;
      into = b.2;
      number = c.2;
      is = h.3
          ∙ ap (λ (xs : List ℕ). h.0 ∷ xs) (a.3
          ∙ ap (λ (xs : List ℕ). digits four a.0 ++ xs)
          (b.3 ∙ ap (λ (xs : List ℕ). digits four b.0 ++ xs) c.3));
    }) c.5

pub frame_spells : (x : Frame) (bytes : List ℕ) → IsSpelledFrame x bytes → Spells frames x bytes
frame_spells (Data f t n text) bytes h =
    let m = h.carries in
    let here : HasHead 1 f t n text bytes = record {
      allowed = refl;
      byte = (let e : 1 < 2 ^ 8 = omega arith in e);
      from = h.numbers.0;
      into = h.numbers.1;
      number = h.numbers.2;
      is = h.is
          ∙ ap (λ (xs : List ℕ). 1 ∷ xs)
          (regroup (digits four f) (digits four t) (digits eight n) text);
    } in
    let begins = sort_of m.0 text m.1.1 in
    let carried : IsDataOf text text = record {
      is = refl;
      packet_is = packet.Message m.0;
      spells = only_spells (packet.Message m.0) begins.0 text begins.1 m.1;
      spelled = m.1.1;
    } in
    spelled_behind 1 f t n text bytes here (Data f t n text)
    (data_behind f t n text 1 text refl (λ e. (let bad : 1 ≡ 2 = e in cc)) carried)
  where
    sort_of : (m : MessageParts) (xs : List ℕ) → xs ≡ spelling (packet.Message m)
        → (rest : List ℕ) × (xs ≡ 1 ∷ rest)
    sort_of m xs e = (_, e)
frame_spells (Ack f t n) bytes h =
    let here : HasHead 2 f t n [] bytes = record {
      allowed = refl;
      byte = (let e : 2 < 2 ^ 8 = omega arith in e);
      from = h.numbers.0;
      into = h.numbers.1;
      number = h.numbers.2;
      is = h.is
          ∙ ap (λ (xs : List ℕ). 2 ∷ (digits four f ++ (digits four t ++ xs)))
          (sym (nothing_behind (digits eight n)));
    } in
    spelled_behind 2 f t n [] bytes here (Ack f t n) (refl, refl)
  where
    nothing_behind : (xs : List ℕ) → xs ++ [] ≡ xs
    nothing_behind [] = refl
    nothing_behind (y ∷ ys) = ap (λ (zs : List ℕ). y ∷ zs) (nothing_behind ys)

-- ---- what reading promises

abbrev ok_of : Frame → Result Frame DecodeEnd
ok_of x = Ok x

abbrev bad_at : ℕ → Result Frame DecodeEnd
bad_at place = Err (end.Bad place)

abbrev pub IsRead : List ℕ → Result Frame DecodeEnd → Type 0
IsRead bytes r = MatchResult r (λ x. Spells frames x bytes) (λ e. NamesWrongFrame e bytes)

pub read_found : (bytes : List ℕ) (r : Result Frame DecodeEnd) → IsRead bytes r
    → IfOk r (λ x. IsSpelledFrame x bytes)
read_found bytes (Ok x) h = frame_is x bytes h
read_found bytes (Err e) h = tt

pub read_reads : (bytes : List ℕ) (r : Result Frame DecodeEnd) → IsRead bytes r → (x : Frame)
    → IsSpelledFrame x bytes → IsFrameOrMemory (Ok x) r
read_reads bytes (Ok y) h x s =
    inl (ap ok_of (one_value frames bytes y x h (frame_spells x bytes s)))
read_reads bytes (Err (end.Bad place)) h x s =
    absurd (never_both frames bytes x place (frame_spells x bytes s) h)
read_reads bytes (Err end.Memory) h x s = inr refl

pub read_refuses : (bytes : List ℕ) (r : Result Frame DecodeEnd) → IsRead bytes r → (place : ℕ)
    → WrongAt frames bytes place → IsFrameOrMemory (bad_at place) r
read_refuses bytes (Ok y) h place w = absurd (never_both frames bytes y place h w)
read_refuses bytes (Err (end.Bad at)) h place w =
    inl (ap bad_at (one_place frames bytes at place h w))
read_refuses bytes (Err end.Memory) h place w = inr refl

pub far_enough : (tag f t n : ℕ) (rest bytes : List ℕ) (place : ℕ) → HasHead tag f t n rest bytes
    → WrongAt (behind_head tag f t n) rest place → place + 17 ≤ length bytes
far_enough tag f t n rest bytes place h w =
    let left = wrong (behind_head tag f t n) rest place w in
    omega (
      arith,
      left.1,
      ap (λ (xs : List ℕ). length xs) h.is,
      digits_len one tag (digits four f ++ (digits four t ++ (digits eight n ++ rest))),
      digits_len four f (digits four t ++ (digits eight n ++ rest)),
      digits_len four t (digits eight n ++ rest),
      digits_len eight n rest,
    )
