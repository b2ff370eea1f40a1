-- A run over links makes the journal of the run without them, whatever is lost.
use Rattle.std.proofs.Common.{◌≡◌, ℕ, ◌+◌, ◌≤◌, List, [], ◌∷◌, ◌++◌, Option, length, drop, Some}
use Rattle.std.proofs.Common.{None, slice_get, refl, sym, ap, subst, ◌∙◌, arith}
use Rattle.std.proofs.lemmas.List.{drop_all}
use Rattle.chem_model.specs.Each.{Each}
use Rattle.lossy_link.specs.declared.step.Step.{Step}
use Rattle.lossy_link.specs.declared.step.Step.TheVariants.{Act, Send, Lose, Repeat, Arrive}
use Rattle.net_core.specs.declared.choice.Choice.{Choice}
use Rattle.chem_model.specs.declared.event.Event.{Event}
use Rattle.net_core.specs.declared.drained.FlightFrom.{FlightFrom}
use Rattle.lossy_link.specs.declared.frame.Frame.{Frame}
use Rattle.lossy_link.specs.declared.frame.Frame.TheVariants.{Data, Ack}
use Rattle.lossy_link.specs.declared.line.Line.{Line}
use Rattle.lossy_link.specs.Lines.{line_of, with_sent, all_sent, with_handed, with_acked, sent_more}
use Rattle.lossy_link.specs.Lines.{acked_more}
use Rattle.lossy_link.specs.Lines.{undelivered, IsFine, AreFine}
use Rattle.lossy_link.specs.Links.{Links, IsTrueOf, AreSound, Steps, acts, sends, loses, repeats}
use Rattle.lossy_link.specs.Links.{takes, drops, learns}
use Rattle.net_core.specs.Parts.{without}
use Rattle.lossy_link.specs.Schedule as schedule
use Rattle.lossy_link.specs.declared.schedule.LinkCounts.{LinkCounts}
use Rattle.lossy_link.specs.Schedule.{next_turn, Turns, Runs}
use Rattle.lossy_link.specs.Links.{Precedes, IsLeastOpen, NoneIsOpen}
use Rattle.lossy_link.proofs.Bringing as bringing
use Rattle.lossy_link.proofs.Bringing.{IsFirstIn, of_pair, AreSame, Brings}
use Rattle.lossy_link.proofs.LineLaws.{pair_of, each_line, each_more, each_without, each_at}
use Rattle.lossy_link.proofs.LineLaws.{drop_get, handed_length, handed_fine, all_sent_fine}
use Rattle.lossy_link.proofs.Stepping.{step_keeps}
use Rattle.lossy_link.proofs.Ordering.{is_of_pair, none_of_pairs, HasFirst, first_of_pair}
use Rattle.lossy_link.proofs.Ordering.{all_sent_same, handed_same, acked_same}

-- a frame holds the packet of this pair with this number, or an acknowledgement
abbrev pub IsCopy : ℕ → ℕ → ℕ → Frame → Type 0
IsCopy f t n (Data g u m bytes) = (g ≡ f) × (u ≡ t) × (m ≡ n)
IsCopy f t n (Ack g u m) = Unit {0}

-- all packets on the wire are one, of this pair with this number; and where it wasn't received yet,
-- nothing of a lesser pair is left to deliver
pub record AreCopies (f t n : ℕ) (xs : List Frame) (ls : List Line) : Type 0 where
  pub copies : Each (IsCopy f t n) xs
  pub least : n ≡ length (line_of f t ls).history.handed → (g u : ℕ) → Precedes g u f t
      → undelivered (line_of g u ls) ≡ []

pub record IsGood (Net : Type 0) (l : Links Net) (f t n : ℕ) (packets : List FlightFrom) : Type 0
  where
    pub sound : AreSound l.wire l.lines
    pub copies : AreCopies f t n l.wire l.lines
    pub same : AreSame l.lines packets

-- what all of a line has been delivered
all_delivered : (l : Line) → IsFine l → length l.history.sent ≤ l.acked → undelivered l ≡ []
all_delivered l fine e =
    drop_all (length l.history.handed) l.history.sent (let a = fine.acked in omega arith)

-- handed out by more: each pair keeps how many it was handed
handed_by_sending : (out : List FlightFrom) (ls : List Line) (f t : ℕ)
    → (line_of f t (all_sent out ls)).history.handed ≡ (line_of f t ls).history.handed
handed_by_sending [] ls f t = refl
handed_by_sending (p ∷ out) ls f t = handed_by_sending out (with_sent p ls) f t ∙ one
  where
    one : (line_of f t (with_sent p ls)).history.handed ≡ (line_of f t ls).history.handed
    one =
        let l = line_of p.from p.flight.target ls in
        let is = pair_of p.from p.flight.target ls in
        each_line (λ v w k. k.history.handed ≡ (line_of v w ls).history.handed) p.from
        p.flight.target (sent_more l p.flight.bytes) ls is.0 is.1 refl (λ v w. refl) f t

-- and where a number is acknowledged, it keeps what it was handed, and what is left
acked_hands : (g u n : ℕ) (ls : List Line) (f t : ℕ)
    → length (line_of f t (with_acked g u n ls)).history.handed
    ≡ length (line_of f t ls).history.handed
acked_hands g u n ls f t =
    let l = line_of g u ls in
    let is = pair_of g u ls in
    each_line (λ v w k. length k.history.handed ≡ length (line_of v w ls).history.handed) g u
    (acked_more l n) ls is.0 is.1 refl (λ v w. refl) f t

acked_leaves : (g u n : ℕ) (ls : List Line) (f t : ℕ)
    → undelivered (line_of f t (with_acked g u n ls)) ≡ undelivered (line_of f t ls)
acked_leaves g u n ls f t =
    let l = line_of g u ls in
    let is = pair_of g u ls in
    each_line (λ v w k. undelivered k ≡ undelivered (line_of v w ls)) g u
    (acked_more l n) ls is.0 is.1 refl (λ v w. refl) f t

module _ (Net : Type 0) (Acts : Net → Choice → Event → Net → List FlightFrom → Type 0)
    (Receives : Net → ℕ → List ℕ → Net → List FlightFrom → Type 0) where
  -- what a step on the wire does to the network
  pub data After (l mid : Links Net) (f t n : ℕ) (packets : List FlightFrom) : Type 0 where
    stays : l.net ≡ mid.net → IsGood Net mid f t n packets → After l mid f t n packets
    receives :
        (i : ℕ) (p : FlightFrom) (out : List FlightFrom) → IsFirstIn packets i p
        → Receives l.net p.flight.target p.flight.bytes mid.net out
        → IsGood Net mid f t n (without i packets ++ out)
        → After l mid f t n packets

  abbrev pub IsOnWire : Step → Type 0
  IsOnWire (Act x) = ⊥
  IsOnWire (Send f t n) = ⊥
  IsOnWire (Lose i) = Unit {0}
  IsOnWire (Repeat i) = Unit {0}
  IsOnWire (Arrive i) = Unit {0}

  after_step : (l mid : Links Net) (x : Step) (o : Option Event) (f t n : ℕ)
      (packets : List FlightFrom) → IsOnWire x → IsGood Net l f t n packets
      → Steps Net Acts Receives l x o mid → After l mid f t n packets
  after_step l mid x o f t n packets on good (acts y e net out h) = absurd on
  after_step l mid x o f t n packets on good (sends g u m bytes h) = absurd on
  after_step l mid x o f t n packets on good (loses i y h) =
      let sound =
      (step_keeps Net Acts Receives l (record l { wire = without i l.wire }) (Lose i) None
      good.sound (loses i y h)).0 in
      stays refl (record {
        sound = sound;
        copies = record {
          copies = each_without (IsCopy f t n) i l.wire good.copies.copies;
          least = good.copies.least;
        };
        same = good.same;
      })
  after_step l mid x o f t n packets on good (repeats i y h) =
      let sound =
      (step_keeps Net Acts Receives l (record l { wire = l.wire ++ y ∷ [] }) (Repeat i) None
      good.sound (repeats i y h)).0 in
      stays refl (record {
        sound = sound;
        copies = record {
          copies = each_more (IsCopy f t n) l.wire y good.copies.copies
              (each_at (IsCopy f t n) l.wire i y good.copies.copies h);
          least = good.copies.least;
        };
        same = good.same;
      })
  after_step l mid x o f t n packets on good (takes i g u m bytes net out h next r) =
      let copy : (g ≡ f) × (u ≡ t) × (m ≡ n) =
      each_at (IsCopy f t n) l.wire i (Data g u m bytes) good.copies.copies h in
      let said : slice_get (line_of g u l.lines).history.sent m ≡ Some bytes =
      each_at (IsTrueOf l.lines) l.wire i (Data g u m bytes) good.sound.wire h in
      let k = line_of g u l.lines in
      let at : slice_get k.history.sent (length k.history.handed) ≡ Some bytes =
      subst (λ (j : ℕ). slice_get k.history.sent j ≡ Some bytes) next said in
      let new : Links Net = record {
        net = net;
        wire = without i l.wire ++ Ack g u (m + 1) ∷ [];
        lines = all_sent out
            (with_handed g u bytes l.lines);
      } in
      let sound =
      (step_keeps Net Acts Receives l new (Arrive i) None good.sound
      (takes i g u m bytes net out h next r)).0 in
      let here : of_pair g u packets ≡ bytes ∷ drop (length k.history.handed + 1) k.history.sent =
      sym (good.same g u) ∙ drop_get k.history.sent (length k.history.handed) bytes at in
      let first =
      first_of_pair g u packets bytes (drop (length k.history.handed + 1) k.history.sent)
      here in
      let fine = handed_fine g u bytes l.lines good.sound.fine at in
      let same =
      all_sent_same out (with_handed g u bytes l.lines) (without first.place packets) fine
      (handed_same g u bytes l.lines packets at good.same first) in
      let long : length (line_of g u new.lines).history.handed ≡ length k.history.handed + 1 =
      ap (λ (xs : List (List ℕ)). length xs) (handed_by_sending out
      (with_handed g u bytes l.lines) g u) ∙ handed_length g u bytes l.lines in
      let long_here : length (line_of f t new.lines).history.handed ≡ n + 1 =
      ap (λ (j : ℕ). length (line_of j t new.lines).history.handed) (sym copy.0)
      ∙ ap (λ (j : ℕ). length (line_of g j new.lines).history.handed) (sym copy.1) ∙ long
      ∙ ap (λ (j : ℕ). j + 1) (sym next) ∙ ap (λ (j : ℕ). j + 1) copy.2 in
      let given : Receives l.net first.packet.flight.target first.packet.flight.bytes net out =
      subst (λ (j : ℕ). Receives l.net j first.packet.flight.bytes net out) (sym first.into)
      (subst (λ (bs : List ℕ). Receives l.net u bs net out) (sym first.bytes) r) in
      receives first.place first.packet out (is_first g u m k bytes copy next first) given
      (record {
        sound = sound;
        copies = record {
          copies =
              each_more (IsCopy f t n) (without i l.wire) (Ack g u (m + 1))
              (each_without (IsCopy f t n) i l.wire good.copies.copies) tt;
          least =
              λ is. absurd (never n (length (line_of f t new.lines).history.handed) is long_here);
        };
        same = same;
      })
    where
      never : (a b : ℕ) → a ≡ b → b ≡ a + 1 → ⊥
      never a b e d = omega arith

      is_first : (g u m : ℕ) (k : Line) (bytes : List ℕ) → (g ≡ f) × (u ≡ t) × (m ≡ n)
          → m ≡ length (line_of g u l.lines).history.handed
          → (first : HasFirst g u packets bytes (drop
          (length (line_of g u l.lines).history.handed + 1)
          (line_of g u l.lines).history.sent))
          → IsFirstIn packets first.place first.packet
      is_first g u m k bytes copy next first = record {
        is = first.is;
        first =
            λ j q below at one two. first.first j q below at (one ∙ first.from) (two ∙ first.into);
        least = λ j q at before.
            let ready : n ≡ length (line_of f t l.lines).history.handed =
            sym copy.2 ∙ next ∙ ap (λ (i : ℕ). length (line_of i u l.lines).history.handed)
            copy.0 ∙ ap (λ (i : ℕ). length (line_of f i l.lines).history.handed) copy.1 in
            let lesser : Precedes q.from q.flight.target f t =
            subst (λ (i : ℕ). Precedes q.from q.flight.target i t) (first.from ∙ copy.0)
            (subst (λ (i : ℕ). Precedes q.from q.flight.target first.packet.from i)
            (first.into ∙ copy.1) before) in
            is_of_pair packets j q at (sym (good.same q.from q.flight.target)
            ∙ good.copies.least ready q.from q.flight.target lesser);
      }
  after_step l mid x o f t n packets on good (drops i g u m bytes h other) =
      let k = line_of g u l.lines in
      let new : Links Net =
      record l { wire = without i l.wire ++ Ack g u (length k.history.handed) ∷ [] } in
      let sound =
      (step_keeps Net Acts Receives l new (Arrive i) None good.sound
      (drops i g u m bytes h other)).0 in
      stays refl (record {
        sound = sound;
        copies = record {
          copies = each_more (IsCopy f t n) (without i l.wire)
              (Ack g u (length k.history.handed)) (each_without (IsCopy f t n) i l.wire
              good.copies.copies) tt;
          least = good.copies.least;
        };
        same = good.same;
      })
  after_step l mid x o f t n packets on good (learns i g u m h) =
      let new : Links Net =
      record l { wire = without i l.wire; lines = with_acked g u m l.lines } in
      let sound =
      (step_keeps Net Acts Receives l new (Arrive i) None good.sound (learns i g u m h)).0 in
      let keeps : (v w : ℕ) → undelivered (line_of v w new.lines)
      ≡ undelivered (line_of v w l.lines) = λ v w. acked_leaves g u m l.lines v w in
      let many : length (line_of f t new.lines).history.handed
      ≡ length (line_of f t l.lines).history.handed = acked_hands g u m l.lines f t in
      stays refl (record {
        sound = sound;
        copies = record {
          copies = each_without (IsCopy f t n) i l.wire good.copies.copies;
          least = λ is v w before. keeps v w ∙ good.copies.least (is ∙ many) v w before;
        };
        same = acked_same g u m l.lines packets good.same;
      })

  module _ (IsNext : Net → Choice → Type 0) (Rests : Net → Type 0) (budget : ℕ) where
    abbrev Carried : ℕ → Net → List FlightFrom → List Event → Net → Type 0
    Carried = Brings Net Acts Receives IsNext Rests budget

    -- a step on the wire is a delivery or nothing
    carried_back : (l mid : Links Net) (f t n k : ℕ) (packets : List FlightFrom) (es : List Event)
        (end : Net) → After l mid f t n packets → ((ps : List FlightFrom) → IsGood Net mid f t n ps
        → Carried k mid.net ps es end) → Carried k l.net packets es end
    carried_back l mid f t n k packets es end (stays same good) on =
        subst (λ (net : Net). Carried k net packets es end) (sym same) (on packets good)
    carried_back l mid f t n k packets es end (receives i p out first r good) on =
        bringing.delivers k i l.net mid.net end packets out p es first r
        (on (without i packets ++ out) good)

    -- nothing is left where all is acknowledged
    none_left : (l : Links Net) (f t n : ℕ) (packets : List FlightFrom) → IsGood Net l f t n packets
        → NoneIsOpen l.lines → packets ≡ []
    none_left l f t n packets good none =
        none_of_pairs packets (λ g u. sym (good.same g u)
        ∙ all_delivered (line_of g u l.lines) (good.sound.fine g u) (none g u))

    -- what is sent is the least that is left to deliver, or was delivered
    sent_good : (l : Links Net) (f t n g u m : ℕ) (bytes : List ℕ) (packets : List FlightFrom)
        → IsGood Net l f t n packets → l.wire ≡ [] → IsLeastOpen l.lines g u m bytes
        → IsGood Net (record l { wire = l.wire ++ Data g u m bytes ∷ [] }) g u m packets
    sent_good l f t n g u m bytes packets good bare least = record {
      sound = record {
        fine = good.sound.fine;
        wire = each_more (IsTrueOf l.lines) l.wire
            (Data g u m bytes) good.sound.wire least.is;
      };
      copies = record {
        copies =
            subst (λ (xs : List Frame). Each (IsCopy g u m) (xs ++ Data g u m bytes ∷ []))
            (sym bare) ((refl, refl, refl), tt);
        least =
            λ is v w before. all_delivered (line_of v w l.lines) (good.sound.fine v w)
            (least.least v w before);
      };
      same = good.same;
    }

    -- at the start
    pub begun_good : (l : Links Net) (packets : List FlightFrom) → l.wire ≡ []
        → l.lines ≡ all_sent packets []
        → IsGood Net l 0 0 (length (line_of 0 0 l.lines).history.handed + 1) packets
    begun_good l packets bare lines =
        let m = length (line_of 0 0 l.lines).history.handed in
        record {
          sound = record {
            fine = subst AreFine (sym lines) (all_sent_fine packets [] fine_nil);
            wire = subst (λ (xs : List Frame). Each (IsTrueOf l.lines) xs) (sym bare) tt;
          };
          copies = record {
            copies = subst (λ (xs : List Frame). Each (IsCopy 0 0 (m + 1)) xs) (sym bare) tt;
            least = λ is. absurd (apart m is);
          };
          same = subst (λ (ls : List Line). AreSame ls packets) (sym lines)
              (all_sent_same packets [] [] fine_nil (λ f t. refl));
        }
      where
        apart : (a : ℕ) → a + 1 ≡ a → ⊥
        apart a e = omega arith

        fine_nil : AreFine []
        fine_nil f t = record { front = refl; within = omega arith; acked = omega arith }

    -- after an event
    made_good : (l : Links Net) (f t n : ℕ) (net : Net) (out packets : List FlightFrom)
        → IsGood Net l f t n packets → l.wire ≡ [] → packets ≡ []
        → IsGood Net (record { net = net; wire = l.wire; lines = all_sent out l.lines }) 0 0
        (length (line_of 0 0 (all_sent out l.lines)).history.handed + 1) out
    made_good l f t n net out packets good bare none =
        let fine = all_sent_fine out l.lines good.sound.fine in
        let m = length (line_of 0 0 (all_sent out l.lines)).history.handed in
        record {
          sound = record {
            fine = fine;
            wire = subst (λ (xs : List Frame). Each
                (IsTrueOf (all_sent out l.lines)) xs) (sym bare) tt;
          };
          copies = record {
            copies = subst (λ (xs : List Frame). Each (IsCopy 0 0 (m + 1)) xs) (sym bare)
                tt;
            least = λ is. absurd (apart m is);
          };
          same =
              subst (λ (ps : List FlightFrom). AreSame (all_sent out l.lines) (ps ++ out)) none
              (all_sent_same out l.lines packets good.sound.fine good.same);
        }
      where
        apart : (a : ℕ) → a + 1 ≡ a → ⊥
        apart a e = omega arith

    sent_on : (l mid : Links Net) (f t n g u m : ℕ) (bytes : List ℕ) (packets : List FlightFrom)
        → IsGood Net l f t n packets → l.wire ≡ [] → IsLeastOpen l.lines g u m bytes
        → Steps Net Acts Receives l (Send g u m) None mid → (l.net ≡ mid.net)
        × IsGood Net mid g u m packets
    sent_on l mid f t n g u m bytes packets good bare least (sends a b c other h) =
        let again : IsLeastOpen l.lines g u m other =
        record { at = least.at; is = h.is; least = least.least } in
        (refl, sent_good l f t n g u m other packets good bare again)

    acted_on : (l mid : Links Net) (f t n : ℕ) (x : Choice) (e : Event) (packets : List FlightFrom)
        → IsGood Net l f t n packets → l.wire ≡ [] → packets ≡ []
        → Steps Net Acts Receives l (Act x) (Some e) mid → (out : List FlightFrom)
        × Acts l.net x e mid.net out × IsGood Net mid 0 0
        (length (line_of 0 0 mid.lines).history.handed + 1) out
    acted_on l mid f t n x e packets good bare none (acts y d net out h) =
        (out, h, made_good l f t n net out packets good bare none)

    -- a turn of the wire is a delivery or nothing
    abbrev Turned : Links Net → ℕ → Links Net → LinkCounts → Type 0
    Turned = Turns Net Acts Receives

    turned_back : (l mid : Links Net) (v f t n k : ℕ) (a : LinkCounts) (packets : List FlightFrom)
        (es : List Event) (end : Net) → IsGood Net l f t n packets → Turned l v mid a
        → ((ps : List FlightFrom) → IsGood Net mid f t n ps → Carried k mid.net ps es end)
        → Carried k l.net packets es end
    turned_back l mid v f t n k a packets es end good (schedule.loses w step) on =
        carried_back l mid f t n k packets es end (after_step l mid (Lose 0) None f t n packets tt
        good step) on
    turned_back l mid v f t n k a packets es end good (schedule.repeats w x one two) on =
        carried_back l w f t n k packets es end (after_step l w (Repeat 0) None f t n packets tt
        good one)
        (λ ps g. carried_back w mid f t n k ps es end
        (after_step w mid (Arrive 0) None f t n ps tt g two) on)
    turned_back l mid v f t n k a packets es end good (schedule.delays w x one two) on =
        carried_back l w f t n k packets es end (after_step l w (Repeat 0) None f t n packets tt
        good one)
        (λ ps g. carried_back w mid f t n k ps es end
        (after_step w mid (Lose 0) None f t n ps tt g two) on)
    turned_back l mid v f t n k a packets es end good (schedule.arrives w step) on =
        carried_back l mid f t n k packets es end (after_step l mid (Arrive 0) None f t n packets tt
        good step) on

    pub runs_bring : (v k f t m : ℕ) (l end : Links Net) (packets : List FlightFrom)
        (es : List Event) (n : LinkCounts) → IsGood Net l f t m packets
        → Runs Net Acts Receives IsNext Rests budget v k l es n end
        → Carried k l.net packets es end.net
    runs_bring v k f t m l end packets es n good
        (schedule.turns c b w mid last x rest fs a p wire turn more) =
        turned_back l mid v f t m k a packets es end.net good turn
        (λ ps g. runs_bring (next_turn v) k f t m mid end ps es p g more)
    runs_bring v k f t m l end packets es n good
        (schedule.sends a b w mid last g u j bytes fs p wire least step more) =
        let at = sent_on l mid f t m g u j bytes packets good wire least step in
        subst (λ (net : Net). Carried k net packets es end.net) (sym at.0)
        (runs_bring v k g u j mid end packets es p at.1 more)
    runs_bring v k f t m l end packets es n good (schedule.ends a b w wire none spent) =
        bringing.ends k l.net packets (none_left l f t m packets good none) spent
    runs_bring v k f t m l end packets es n good (schedule.rests a b w wire none few rest) =
        bringing.rests k l.net packets (none_left l f t m packets good none) few rest
    runs_bring v k f t m l end packets es n good
        (schedule.makes a b w mid last x e fs p wire none few next step more) =
        let left = none_left l f t m packets good none in
        let at = acted_on l mid f t m x e packets good wire left step in
        bringing.makes k l.net mid.net end.net packets at.0 x e fs left few next at.1
        (runs_bring v (k + 1) 0 0 (length (line_of 0 0 mid.lines).history.handed + 1) mid end
        at.0 fs p at.2 more)
