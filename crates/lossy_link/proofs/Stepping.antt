-- Each step of links keeps what is so of wire and lines.
use Rattle.std.proofs.Common.{◌≡◌, ℕ, ◌+◌, List, Option, length, Some}
use Rattle.std.proofs.Common.{None}
use Rattle.std.proofs.Common.{slice_get, ap, subst, ◌∙◌, arith}
use Rattle.std.proofs.lemmas.List.{length-append}
use Rattle.std.proofs.lemmas.Option.{slice_get_within}
use Rattle.chem_model.specs.declared.event.Event.{Event}
use Rattle.net_core.specs.Parts.{without}
use Rattle.net_core.specs.declared.choice.Choice.{Choice}
use Rattle.net_core.specs.declared.drained.FlightFrom.{FlightFrom}
use Rattle.lossy_link.specs.declared.frame.Frame.{Frame}
use Rattle.lossy_link.specs.declared.frame.Frame.TheVariants.{Data, Ack}
use Rattle.lossy_link.specs.declared.line.Line.{Line}
use Rattle.lossy_link.specs.declared.step.Step.{Step}
use Rattle.lossy_link.specs.Lines.{line_of, all_sent, with_handed, with_acked}
use Rattle.lossy_link.specs.Links.{Links, IsTrueOf, AreSound, Steps, acts, sends, loses, repeats}
use Rattle.lossy_link.specs.Links.{takes, drops, learns, StepsAll, stops, makes, carries}
use Rattle.lossy_link.proofs.LineLaws.{AllGrow, grows_same, all_grow_on, all_sent_fine}
use Rattle.lossy_link.proofs.LineLaws.{all_sent_grows, handed_fine, handed_grows, handed_length}
use Rattle.lossy_link.proofs.LineLaws.{acked_fine, acked_grows, wire_on, true_on, each_more}
use Rattle.lossy_link.proofs.LineLaws.{each_without, each_at}

-- what the frames say of the lines, and a frame on the wire
module _ (ls : List Line) (ws : List Frame) (sound : AreSound ws ls) (i f t n : ℕ) where
  -- its packet was sent
  pub data_true : (bytes : List ℕ) → slice_get ws i ≡ Some (Data f t n bytes)
      → slice_get (line_of f t ls).history.sent n ≡ Some bytes
  data_true bytes h = each_at (IsTrueOf ls) ws i (Data f t n bytes) sound.wire h

  pub ack_true : slice_get ws i ≡ Some (Ack f t n) → IsTrueOf ls (Ack f t n)
  ack_true h = each_at (IsTrueOf ls) ws i (Ack f t n) sound.wire h

-- a packet with the receiver's next number is the one that comes next
pub next_there : (ls : List Line) (f t n : ℕ) (bytes : List ℕ)
    → n ≡ length (line_of f t ls).history.handed
    → slice_get (line_of f t ls).history.sent n ≡ Some bytes
    → slice_get (line_of f t ls).history.sent (length (line_of f t ls).history.handed) ≡ Some bytes
next_there ls f t n bytes next there =
    subst (λ (m : ℕ). slice_get (line_of f t ls).history.sent m ≡ Some bytes) next there

module _ (Net : Type 0) (Acts : Net → Choice → Event → Net → List FlightFrom → Type 0)
    (Receives : Net → ℕ → List ℕ → Net → List FlightFrom → Type 0) where
  pub step_keeps : (l new : Links Net) (x : Step) (o : Option Event) → AreSound l.wire l.lines
      → Steps Net Acts Receives l x o new
      → AreSound new.wire new.lines × AllGrow l.lines new.lines
  step_keeps l new x o sound (acts y e net out h) =
      let grow = all_sent_grows out l.lines in (
        record {
          fine = all_sent_fine out l.lines sound.fine;
          wire = wire_on l.lines (all_sent out l.lines) l.wire grow sound.wire;
        },
        grow,
      )
  step_keeps l new x o sound (sends f t n bytes h) = (
    record {
      fine = sound.fine;
      wire = each_more (IsTrueOf l.lines) l.wire (Data f t n bytes) sound.wire h.is;
    },
    λ g u. grows_same (line_of g u l.lines),
  )
  step_keeps l new x o sound (loses i y h) = (
    record { fine = sound.fine; wire = each_without (IsTrueOf l.lines) i l.wire sound.wire },
    λ g u. grows_same (line_of g u l.lines),
  )
  step_keeps l new x o sound (repeats i y h) = (
    record {
      fine = sound.fine;
      wire = each_more (IsTrueOf l.lines) l.wire y sound.wire
          (each_at (IsTrueOf l.lines) l.wire i y sound.wire h);
    },
    λ g u. grows_same (line_of g u l.lines),
  )
  step_keeps l new x o sound (takes i f t n bytes net out h next r) =
      let there = data_true l.lines l.wire sound i f t n bytes h in
      let at = next_there l.lines f t n bytes next there in
      let mid = with_handed f t bytes l.lines in
      let first = handed_grows f t bytes l.lines in
      let second = all_sent_grows out mid in
      let grow = all_grow_on l.lines mid (all_sent out mid) first second in
      let left = each_without (IsTrueOf l.lines) i l.wire sound.wire in
      let long = handed_length f t bytes l.lines in
      let below = slice_get_within (line_of f t l.lines).history.sent n bytes there in
      let more = (first f t).sent in
      let some : length (line_of f t mid).history.sent
      ≡ length (line_of f t l.lines).history.sent + length more.0 =
      ap (λ (xs : List (List ℕ)). length xs) more.1
      ∙ length-append (line_of f t l.lines).history.sent more.0 in
      let given : IsTrueOf mid (Ack f t (n + 1)) = (omega arith, omega arith) in (
        record {
          fine = all_sent_fine out mid (handed_fine f t bytes l.lines sound.fine at);
          wire = each_more (IsTrueOf (all_sent out mid)) (without i l.wire) (Ack f t (n + 1))
              (wire_on l.lines (all_sent out mid) (without i l.wire) grow left)
              (true_on mid (all_sent out mid) (Ack f t (n + 1)) second given);
        },
        grow,
      )
  step_keeps l new x o sound (drops i f t n bytes h other) =
      let there = data_true l.lines l.wire sound i f t n bytes h in
      let below = slice_get_within (line_of f t l.lines).history.sent n bytes there in
      let next = length (line_of f t l.lines).history.handed in
      let same : IsTrueOf l.lines (Ack f t (length (line_of f t l.lines).history.handed)) =
      (omega arith, omega arith) in (
        record {
          fine = sound.fine;
          wire = each_more (IsTrueOf l.lines) (without i l.wire) (Ack f t next)
              (each_without (IsTrueOf l.lines) i l.wire sound.wire) same;
        },
        λ g u. grows_same (line_of g u l.lines),
      )
  step_keeps l new x o sound (learns i f t n h) =
      let said = ack_true l.lines l.wire sound i f t n h in
      let grow = acked_grows f t n l.lines in (
        record {
          fine = acked_fine f t n l.lines sound.fine said.0;
          wire = wire_on l.lines (with_acked f t n l.lines) (without i l.wire) grow
              (each_without (IsTrueOf l.lines) i l.wire sound.wire);
        },
        grow,
      )

  -- so does every list of steps
  pub steps_keep : (l end : Links Net) (xs : List Step) (es : List Event)
      → AreSound l.wire l.lines → StepsAll Net Acts Receives l xs es end
      → AreSound end.wire end.lines × AllGrow l.lines end.lines
  steps_keep l end xs es sound (stops k) = (sound, λ g u. grows_same (line_of g u l.lines))
  steps_keep l end xs es sound (makes k mid last x more e later one rest) =
      let here = step_keeps l mid x (Some e) sound one in
      let on = steps_keep mid end more later here.0 rest in
      (on.0, all_grow_on l.lines mid.lines end.lines here.1 on.1)
  steps_keep l end xs es sound (carries k mid last x more later one rest) =
      let here = step_keeps l mid x None sound one in
      let on = steps_keep mid end more later here.0 rest in
      (on.0, all_grow_on l.lines mid.lines end.lines here.1 on.1)
