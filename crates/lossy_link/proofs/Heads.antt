-- What the format of frames says of all bytes, from what it says of those behind the head.
use Rattle.std.proofs.Common.{◌≡◌, ℕ, ◌+◌, ◌<◌, ◌^◌, List, ◌∷◌, ◌++◌, Bool, true, false, length}
use Rattle.std.proofs.Common.{refl, ap, ◌∙◌, subst, arith, inl, inr}
use Rattle.wire_packet.specs.Format.{Size, one, four, eight, count, limit, digits, Format, field}
use Rattle.wire_packet.specs.Format.{Spells, WrongAt}
use Rattle.wire_packet.specs.Packets.{any}
use Rattle.lossy_link.specs.declared.frame.Frame.{Frame}
use Rattle.lossy_link.specs.FrameFormat.{frames, by_tag, behind_head, is_frame, HasHead}

module _ {A : Type 0} (s : Size) (allowed : ℕ → Bool) (next : ℕ → Format A) (bytes rest : List ℕ)
    (n : ℕ) (low : n < limit s) (is : bytes ≡ digits s n ++ rest) where
  pub behind_wrong : allowed n ≡ true → (later : ℕ) → WrongAt (next n) rest later
      → WrongAt (field s allowed next) bytes (count s + later)
  behind_wrong may later w = inr (n, rest, low, is, inr (may, later, refl, w))

  pub behind_spelled : allowed n ≡ true → (x : A) → Spells (next n) x rest
      → Spells (field s allowed next) x bytes
  behind_spelled may x h = (n, rest, low, is, may, h)

  pub not_allowed : allowed n ≡ false → WrongAt (field s allowed next) bytes 0
  not_allowed not_so = inr (n, rest, low, is, inl (refl, not_so))

pub too_short : {A : Type 0} (s : Size) (allowed : ℕ → Bool) (next : ℕ → Format A) (bytes : List ℕ)
    → length bytes < count s → WrongAt (field s allowed next) bytes 0
too_short s allowed next bytes h = inl (refl, h)

-- ---- the fields of the head

abbrev pub froms : ℕ → ℕ → Format Frame
froms tag f = field four any (λ t. field eight any (λ n. behind_head tag f t n))

abbrev pub intos : ℕ → ℕ → ℕ → Format Frame
intos tag f t = field eight any (λ n. behind_head tag f t n)

module _ (tag : ℕ) (byte : tag < 2 ^ 8) (bytes : List ℕ) where
  pub no_tag : is_frame tag ≡ false → WrongAt frames (tag ∷ bytes) 0
  no_tag not_so = not_allowed one is_frame by_tag (tag ∷ bytes) bytes tag byte refl not_so

  module _ (may : is_frame tag ≡ true) where
    pub no_from : length bytes < 4 → WrongAt frames (tag ∷ bytes) 1
    no_from h = behind_wrong one is_frame by_tag (tag ∷ bytes) bytes tag byte refl may 0
        (too_short four any (froms tag) bytes h)

    module _ (f : ℕ) (after_from : List ℕ) (low : f < 2 ^ 32)
        (is : bytes ≡ digits four f ++ after_from) where
      pub no_into : length after_from < 4 → WrongAt frames (tag ∷ bytes) 5
      no_into h = behind_wrong one is_frame by_tag (tag ∷ bytes) bytes tag byte refl may 4
          (behind_wrong four any (froms tag) bytes after_from f low is refl 0
          (too_short four any (intos tag f) after_from h))

      module _ (t : ℕ) (after_into : List ℕ) (few : t < 2 ^ 32)
          (same : after_from ≡ digits four t ++ after_into) where
        pub no_number : length after_into < 8 → WrongAt frames (tag ∷ bytes) 9
        no_number h = behind_wrong one is_frame by_tag (tag ∷ bytes) bytes tag byte refl may 8
            (behind_wrong four any (froms tag) bytes after_from f low is refl 4
            (behind_wrong four any (intos tag f) after_from after_into t few same refl 0
            (too_short eight any (behind_head tag f t) after_into h)))

        pub whole_head : (n : ℕ) (rest : List ℕ) → n < 2 ^ 64 → after_into ≡ digits eight n ++ rest
            → HasHead tag f t n rest (tag ∷ bytes)
        whole_head n rest fits e = record {
          allowed = may;
          byte = byte;
          from = low;
          into = few;
          number = fits;
          is = ap (λ (xs : List ℕ). tag ∷ xs) (is
              ∙ ap (λ (xs : List ℕ). digits four f ++ xs)
              (same ∙ ap (λ (xs : List ℕ). digits four t ++ xs) e));
        }

-- ---- behind the head

module _ (tag f t n : ℕ) (rest bytes : List ℕ) (h : HasHead tag f t n rest bytes) where
  abbrev after_into : List ℕ
  after_into = digits eight n ++ rest

  abbrev after_from : List ℕ
  after_from = digits four t ++ after_into

  abbrev after_tag : List ℕ
  after_tag = digits four f ++ after_from

  pub spelled_behind : (x : Frame) → Spells (behind_head tag f t n) x rest → Spells frames x bytes
  spelled_behind x s =
      behind_spelled one is_frame by_tag bytes after_tag tag h.byte h.is h.allowed x
      (behind_spelled four any (froms tag) after_tag after_from f h.from refl refl x
      (behind_spelled four any (intos tag f) after_from after_into t h.into refl refl x
      (behind_spelled eight any (behind_head tag f t) after_into rest n h.number refl refl x s)))

  pub wrong_behind : (place : ℕ) → WrongAt (behind_head tag f t n) rest place
      → WrongAt frames bytes (place + 17)
  wrong_behind place w =
      let sum : 1 + (4 + (4 + (8 + place))) ≡ place + 17 = omega arith in
      subst (WrongAt frames bytes) sum (behind_wrong one is_frame by_tag bytes after_tag tag
      h.byte h.is h.allowed (4 + (4 + (8 + place)))
      (behind_wrong four any (froms tag) after_tag after_from f h.from refl refl (4 + (8 + place))
      (behind_wrong four any (intos tag f) after_from after_into t h.into refl refl (8 + place)
      (behind_wrong eight any (behind_head tag f t) after_into rest n h.number refl refl place w))))
