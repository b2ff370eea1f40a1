-- The wire as the spellings of its frames.
use Rattle.std.proofs.Common.{◌≡◌, ℕ, zero, suc, ◌<◌, List, [], ◌∷◌, length, Some, refl, sym, ap}
use Rattle.std.proofs.Common.{subst, ◌∙◌, arith}
use Rattle.std.specs.Prelude.{Result, Ok, Err, Option, None, IsSome, OnSome, OnOk, true, false, map}
use Rattle.std.specs.List.{remove}
use Rattle.net_core.specs.Parts.{without}
use Rattle.wire_packet.proofs.Laws.{spelled}
use Rattle.lossy_link.specs.declared.frame.Frame.{Frame}
use Rattle.lossy_link.specs.FrameFormat.{frames, IsSpelledFrame}
use Rattle.lossy_link.specs.inside.Queue.{frame_read, frame_in}
use Rattle.lossy_link.proofs.Exact.{frame_spells}
use Rattle.lossy_link.proofs.LineLaws.{without_is}

-- ---- one frame

pub frame_is_in : (x : Frame) (bytes : List ℕ) → IsSpelledFrame x bytes → frame_in bytes ≡ x
unfolding frame_in
frame_is_in x bytes h = ap frame_read (spelled frames x bytes (frame_spells x bytes h))

pub spelled_in : (x : Frame) (bytes : List ℕ) → IsSpelledFrame x bytes
    → IsSpelledFrame (frame_in bytes) bytes
spelled_in x bytes h =
    subst (λ (y : Frame). IsSpelledFrame y bytes) (sym (frame_is_in x bytes h)) h

-- ---- the list of all

pub map_length : {X Y : Type 0} (f : X → Y) (xs : List X) → length (map f xs) ≡ length xs
map_length f [] = refl
map_length f (x ∷ xs) = ap suc (map_length f xs)

pub map_without : {X Y : Type 0} (f : X → Y) (xs : List X) (n : ℕ)
    → map f (without n xs) ≡ without n (map f xs)
map_without f [] n = refl
map_without f (x ∷ xs) zero = refl
map_without {Y = Y} f (x ∷ xs) (suc n) = ap (λ (ys : List Y). f x ∷ ys) (map_without f xs n)

pub removed_is : (n : ℕ) (texts left : List (List ℕ)) → left ≡ remove texts n
    → left ≡ without n texts
removed_is n texts left is = is ∙ sym (without_is n texts)

-- ---- what is found at a place

pub on_some : {X P : Type 0} (o : Option X) → IsSome o → OnSome o P → P
on_some None some h = absurd (let e : false ≡ true = some in cc)
on_some (Some x) some h = h

-- the place of a frame is one of its spelling
pub below_texts : (texts : List (List ℕ)) (seen : List Frame) (i n : ℕ)
    → map frame_in texts ≡ seen → n ≡ length texts → i < length seen → i < n
below_texts texts seen i n is count below =
    let same : length (map frame_in texts) ≡ length seen = ap length is in
    let many = map_length frame_in texts in
    omega arith

-- what is left
pub left_frames : (texts left : List (List ℕ)) (seen : List Frame) (i : ℕ)
    → map frame_in texts ≡ seen → left ≡ remove texts i → map frame_in left ≡ without i seen
left_frames texts left seen i is gone =
    ap (map frame_in) (removed_is i texts left gone) ∙ map_without frame_in texts i
    ∙ ap (without i) is

pub on_ok_from : {A E P : Type 0} (r : Result A E) → P → OnOk r P
on_ok_from (Ok x) p = p
on_ok_from (Err e) p = tt
