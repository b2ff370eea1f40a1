-- The wire as the spellings of its frames.
use Rattle.std.specs.Prelude.{◌≡◌, ℕ, ◌<◌, ◌^◌, List, [], ◌∷◌, ◌++◌, Some, length, slice_get}
use Rattle.std.specs.Prelude.{Result, Ok, Err}
use Rattle.chem_model.specs.Each.{Each}
use Rattle.wire_packet.specs.Reading.{read}
use Rattle.lossy_link.specs.declared.frame.Frame.{Frame}
use Rattle.lossy_link.specs.declared.frame.Frame.TheVariants.{Ack}
use Rattle.lossy_link.specs.FrameFormat.{frames, IsSpelledFrame}

-- what bytes stand for that spell no frame
abbrev pub frame_read : Result Frame ℕ → Frame
frame_read (Ok x) = x
frame_read (Err e) = Ack 0 0 0

-- the frame that bytes spell
unfoldable pub frame_in : List ℕ → Frame
frame_in bytes = frame_read (read frames bytes)

-- each text is a frame's spelling, and there are fewer than 2^32
pub record AreFrames (texts : List (List ℕ)) : Type 0 where
  pub spelled : Each (λ (text : List ℕ). IsSpelledFrame (frame_in text) text) texts
  pub few : length texts < 2 ^ 32

-- a copy of the frame at this place is put last
pub record IsRepeated (old : List Frame) (place : ℕ) (new : List Frame) : Type 0 where
  pub frame : Frame
  pub is : slice_get old place ≡ Some frame
  pub last : new ≡ old ++ frame ∷ []
