-- What the type of links keeps, it keeps at each step.
use Rattle.std.proofs.Common.{◌≡◌, ℕ, ◌<◌, List, [], ◌∷◌, Option, Some, None}
use Rattle.std.proofs.Common.{slice_get, length, refl, sym, ap, subst, ◌∙◌, arith}
use Rattle.std.proofs.lemmas.List.{length-append}
use Rattle.std.proofs.lemmas.Option.{slice_get_within, same_Some}
use Rattle.std.specs.Prelude.{is_some}
use Rattle.chem_model.specs.Each.{Each}
use Rattle.chem_model.specs.declared.event.Event.{Event}
use Rattle.env_store.specs.CodeFacts.{IsCode}
use Rattle.env_store.specs.CodeParts.{CodeParts}
use Rattle.net_core.specs.Drained.{AreHandedOut}
use Rattle.net_core.specs.Parts.{IsMessageFlight, IsMessageText}
use Rattle.net_core.specs.Whole.{NetParts, RunsSome}
use Rattle.net_core.specs.declared.drained.FlightFrom.{FlightFrom}
use Rattle.lossy_link.specs.declared.frame.Frame.{Frame}
use Rattle.lossy_link.specs.declared.frame.Frame.TheVariants.{Data, Ack}
use Rattle.lossy_link.specs.declared.line.Line.{Line}
use Rattle.lossy_link.specs.declared.step.Step.{Step}
use Rattle.lossy_link.specs.declared.step.Step.TheVariants.{Arrive}
use Rattle.lossy_link.specs.Lines.{line_of, with_sent, all_sent}
use Rattle.lossy_link.specs.Lines.{with_handed, sent_more, handed_more, acked_more}
use Rattle.lossy_link.specs.Lines.{AreUsed, AreInOrder}
use Rattle.lossy_link.specs.Links.{Links, AreSound, is_act, acts, sends, loses, repeats, takes}
use Rattle.lossy_link.specs.Links.{drops, learns}
use Rattle.lossy_link.specs.Over.{ActsOver, ReceivesOver, StepsTo}
use Rattle.lossy_link.specs.Standing.{net_of_links, LinksLead, ReceiptFalls}
use Rattle.lossy_link.specs.Whole.{AreSpelled, IsWhole}
use Rattle.lossy_link.proofs.LineLaws.{each_at, each_more, each_with, line_has}
use Rattle.lossy_link.proofs.Standing.{act_leads, receive_leads, same_leads, acked_leads, some_led}
use Rattle.lossy_link.proofs.Standing.{receipt_falls}
use Rattle.lossy_link.proofs.Stepping.{step_keeps, data_true, ack_true, next_there}

-- ---- each sent a packet

used_sent : (p : FlightFrom) (ls : List Line) → AreUsed ls → AreUsed (with_sent p ls)
used_sent p ls all =
    let l = line_of p.from p.flight.target ls in
    let long = length-append l.history.sent (p.flight.bytes ∷ []) in
    each_with (λ (k : Line). 0 < length k.history.sent) (sent_more l p.flight.bytes) ls
    (omega arith) all

pub used_all : (ps : List FlightFrom) (ls : List Line) → AreUsed ls → AreUsed (all_sent ps ls)
used_all [] ls all = all
used_all (p ∷ ps) ls all = used_all ps (with_sent p ls) (used_sent p ls all)

used_step : (l new : Links NetParts) (x : Step) (o : Option Event) → AreSound l.wire l.lines
    → AreUsed l.lines → StepsTo l x o new → AreUsed new.lines
used_step l new x o sound all (acts y e net out h) = used_all out l.lines all
used_step l new x o sound all (sends f t n bytes h) = all
used_step l new x o sound all (loses i y h) = all
used_step l new x o sound all (repeats i y h) = all
used_step l new x o sound all (takes i f t n bytes net out h next r) =
    let at = data_true l.lines l.wire sound i f t n bytes h in
    let below = slice_get_within (line_of f t l.lines).history.sent n bytes at in
    used_all out (with_handed f t bytes l.lines)
    (each_with (λ (k : Line). 0 < length k.history.sent) (handed_more (line_of f t l.lines) bytes)
    l.lines (omega arith) all)
used_step l new x o sound all (drops i f t n bytes h other) = all
used_step l new x o sound all (learns i f t n h) =
    each_with (λ (k : Line). 0 < length k.history.sent) (acked_more (line_of f t l.lines) n)
    l.lines (ack_true l.lines l.wire sound i f t n h).1 all

-- ---- what was sent is spelled

abbrev IsSpelled : Line → Type 0
IsSpelled l = Each IsMessageText l.history.sent

spelled_line : (f t : ℕ) (ls : List Line) → AreSpelled ls → IsSpelled (line_of f t ls)
spelled_line f t ls all = line_has IsSpelled f t ls tt all

-- a packet that a pair sent
pub spelled_at : (f t n : ℕ) (bytes : List ℕ) (ls : List Line) → AreSpelled ls
    → slice_get (line_of f t ls).history.sent n ≡ Some bytes → IsMessageText bytes
spelled_at f t n bytes ls all at =
    each_at IsMessageText (line_of f t ls).history.sent n bytes (spelled_line f t ls all) at

spelled_sent : (p : FlightFrom) (ls : List Line) → IsMessageFlight p.flight → AreSpelled ls
    → AreSpelled (with_sent p ls)
spelled_sent p ls one all =
    let l = line_of p.from p.flight.target ls in
    each_with IsSpelled (sent_more l p.flight.bytes) ls
    (each_more IsMessageText
    l.history.sent p.flight.bytes (spelled_line p.from p.flight.target ls all) one) all

pub spelled_all : (ps : List FlightFrom) (ls : List Line)
    → Each (λ (p : FlightFrom). IsMessageFlight p.flight) ps → AreSpelled ls
    → AreSpelled (all_sent ps ls)
spelled_all [] ls some all = all
spelled_all (p ∷ ps) ls some all = spelled_all ps (with_sent p ls) some.1
    (spelled_sent p ls some.0 all)

spelled_step : (l new : Links NetParts) (x : Step) (o : Option Event) → AreSpelled l.lines
    → StepsTo l x o new → AreSpelled new.lines
spelled_step l new x o all (acts y e net out h) = spelled_all out l.lines h.handed_out.spelled all
spelled_step l new x o all (sends f t n bytes h) = all
spelled_step l new x o all (loses i y h) = all
spelled_step l new x o all (repeats i y h) = all
spelled_step l new x o all (takes i f t n bytes net out h next r) =
    spelled_all out (with_handed f t bytes l.lines) r.handed_out.spelled
    (each_with IsSpelled (handed_more (line_of f t l.lines) bytes) l.lines
    (spelled_line f t l.lines all) all)
spelled_step l new x o all (drops i f t n bytes h other) = all
spelled_step l new x o all (learns i f t n h) =
    each_with IsSpelled (acked_more (line_of f t l.lines) n) l.lines
    (spelled_line f t l.lines all) all

-- ---- the network

-- what is handed out leaves nothing under way
record IsEmptied (kept : CodeParts) (new : NetParts) : Type 0 where
  pub code : new.code ≡ kept
  pub packets : new.net.packets ≡ []
  pub froms : new.froms ≡ []

emptied : (code : CodeParts) (mid new : NetParts) (out : List FlightFrom) → mid.code ≡ code
    → AreHandedOut mid out new → IsEmptied code new
emptied code mid new out same handed_out = record {
  code = ap (λ (m : NetParts). m.code) handed_out.left ∙ same;
  packets = ap (λ (m : NetParts). m.net.packets) handed_out.left;
  froms = ap (λ (m : NetParts). m.froms) handed_out.left;
}

emptied_step : (l new : Links NetParts) (x : Step) (o : Option Event) → l.net.net.packets ≡ []
    → l.net.froms ≡ [] → StepsTo l x o new → IsEmptied l.net.code new.net
emptied_step l new x o none no_froms (acts y e net out h) =
    emptied l.net.code h.mid net out h.code h.handed_out
emptied_step l new x o none no_froms (takes i f t n bytes net out h next r) =
    emptied l.net.code r.mid net out r.code r.handed_out
emptied_step l new x o none no_froms (sends f t n bytes h) =
    record { code = refl; packets = none; froms = no_froms }
emptied_step l new x o none no_froms (loses i y h) =
    record { code = refl; packets = none; froms = no_froms }
emptied_step l new x o none no_froms (repeats i y h) =
    record { code = refl; packets = none; froms = no_froms }
emptied_step l new x o none no_froms (drops i f t n bytes h other) =
    record { code = refl; packets = none; froms = no_froms }
emptied_step l new x o none no_froms (learns i f t n h) =
    record { code = refl; packets = none; froms = no_froms }

-- ---- the step

-- the next packet of a pair, where a frame on the wire holds it
pub next_is : (l : Links NetParts) (i f t n : ℕ) (bytes : List ℕ) → AreSound l.wire l.lines
    → slice_get l.wire i ≡ Some (Data f t n bytes)
    → n ≡ length (line_of f t l.lines).history.handed
    → slice_get (line_of f t l.lines).history.sent (length (line_of f t l.lines).history.handed)
    ≡ Some bytes
next_is l i f t n bytes sound h next =
    next_there l.lines f t n bytes next (data_true l.lines l.wire sound i f t n bytes h)

pub step_leads : (l new : Links NetParts) (x : Step) (o : Option Event) → IsWhole l
    → StepsTo l x o new → LinksLead l o new
step_leads l new x o whole (acts y e net out h) =
    act_leads l.net net y e out l.lines whole.code whole.drained whole.sound.fine h
step_leads l new x o whole (takes i f t n bytes net out h next r) =
    receive_leads l.net net f t bytes out l.lines whole.code whole.drained whole.sound.fine
    (next_is l i f t n bytes whole.sound h next) r
step_leads l new x o whole (sends f t n bytes h) = same_leads (net_of_links l) l.net.code
step_leads l new x o whole (loses i y h) = same_leads (net_of_links l) l.net.code
step_leads l new x o whole (repeats i y h) = same_leads (net_of_links l) l.net.code
step_leads l new x o whole (drops i f t n bytes h other) = same_leads (net_of_links l) l.net.code
step_leads l new x o whole (learns i f t n h) = acked_leads l.net.net l.net.code f t n l.lines

pub whole_after : (l new : Links NetParts) (x : Step) (o : Option Event) → IsWhole l
    → StepsTo l x o new → IsWhole new
whole_after l new x o whole steps =
    let empty = emptied_step l new x o whole.drained whole.no_froms steps in
    record {
      sound = (step_keeps NetParts ActsOver ReceivesOver l new x o whole.sound steps).0;
      used = used_step l new x o whole.sound whole.used steps;
      spelled = spelled_step l new x o whole.spelled steps;
      code = subst IsCode (sym empty.code) whole.code;
      drained = empty.packets;
      no_froms = empty.froms;
      stands = subst (λ (c : CodeParts). RunsSome c (net_of_links new)) (sym empty.code)
          (some_led l.net.code (net_of_links l) (net_of_links new) o whole.stands
          (step_leads l new x o whole steps));
    }

-- each packet that is handed out stands in its place among those that were sent
pub whole_order : (l : Links NetParts) → IsWhole l → AreInOrder l.lines
whole_order l whole f t = (whole.sound.fine f t).front

-- ---- what a step answers

pub event_of : (l new : Links NetParts) (x : Step) (o : Option Event) → StepsTo l x o new
    → is_some o ≡ is_act x
event_of l new x o (acts y e net out h) = refl
event_of l new x o (takes i f t n bytes net out h next r) = refl
event_of l new x o (sends f t n bytes h) = refl
event_of l new x o (loses i y h) = refl
event_of l new x o (repeats i y h) = refl
event_of l new x o (drops i f t n bytes h other) = refl
event_of l new x o (learns i f t n h) = refl

-- ---- a receipt

same_frame : (f t n g u m : ℕ) (xs ys : List ℕ) (o : Option Frame) → o ≡ Some (Data f t n xs)
    → o ≡ Some (Data g u m ys) → Data f t n xs ≡ Data g u m ys
same_frame f t n g u m xs ys o one two =
    same_Some (Data f t n xs) (Data g u m ys) (sym one ∙ two)

pub arrived_falls : (l new : Links NetParts) (i : ℕ) → IsWhole l → StepsTo l (Arrive i) None new
    → ReceiptFalls l i new
arrived_falls l new i whole (takes _ g u m ys net out h next r) f t n xs at due =
    receipt_falls l.net net g u ys out l.lines whole.drained whole.sound.fine
    (next_is l i g u m ys whole.sound h next) whole.stands r
arrived_falls l new i whole (drops _ g u m ys h other) f t n xs at due =
    let same = same_frame f t n g u m xs ys (slice_get l.wire i) at h in
    let one : f ≡ g = cc in
    let two : t ≡ u = cc in
    let three : n ≡ m = cc in
    absurd (other (sym three ∙ due ∙ ap (λ (k : ℕ). length (line_of k t l.lines).history.handed) one
    ∙ ap (λ (k : ℕ). length (line_of g k l.lines).history.handed) two))
arrived_falls l new i whole (learns _ g u m h) f t n xs at due =
    let same : Data f t n xs ≡ Ack g u m =
    same_Some (Data f t n xs) (Ack g u m) (sym at ∙ h) in
    cc
