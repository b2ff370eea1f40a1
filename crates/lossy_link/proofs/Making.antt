-- The steps that the code makes.
use Rattle.std.proofs.Common.{◌≡◌, ℕ, ◌+◌, ◌-◌, ◌<◌, List, [], ◌∷◌, ◌++◌, Option, Some, None}
use Rattle.std.proofs.Common.{slice_get}
use Rattle.std.proofs.Common.{length, get_or, replicate, refl, sym, ap, subst, ◌∙◌, arith}
use Rattle.std.proofs.lemmas.Option.{slice_get_within, slice_get-get_or}
use Rattle.chem_model.specs.declared.event.Event.{Event}
use Rattle.net_core.specs.Acts as acting
use Rattle.net_core.specs.Choosing.{Allows}
use Rattle.net_core.specs.Drained.{AreHandedOut}
use Rattle.net_core.specs.Making.{HasActed}
use Rattle.net_core.specs.Parts.{without, carried, message_in, IsMessageText}
use Rattle.net_core.specs.Received.{HasReceived, flight_to, with_last}
use Rattle.net_core.specs.Senders.{kept}
use Rattle.net_core.specs.UnderWay.{with_packets}
use Rattle.net_core.specs.Whole.{NetParts, RunsSome}
use Rattle.net_laws.specs.Net.{Addressed}
use Rattle.net_core.specs.declared.choice.Choice.{Choice}
use Rattle.net_core.specs.declared.choice.Choice.TheVariants as choice
use Rattle.net_core.specs.declared.drained.FlightFrom.{FlightFrom}
use Rattle.lossy_link.specs.declared.frame.Frame.{Frame}
use Rattle.lossy_link.specs.declared.frame.Frame.TheVariants.{Data, Ack}
use Rattle.lossy_link.specs.declared.line.Line.{Line}
use Rattle.lossy_link.specs.declared.step.Step.TheVariants.{Act, Send, Lose, Repeat, Arrive}
use Rattle.lossy_link.specs.Lines.{line_of, all_sent, with_handed, with_acked}
use Rattle.lossy_link.specs.Links.{Links, IsOpen, IsTrueOf, acts, sends, loses, repeats, takes}
use Rattle.lossy_link.specs.Links.{drops, learns}
use Rattle.lossy_link.specs.FrameFormat.{CarriesMessage}
use Rattle.lossy_link.specs.Over.{AllowsOver, ActsOver, ReceivesOver, StepsTo}
use Rattle.lossy_link.specs.Whole.{AreSpelled, IsWhole}
use Rattle.lossy_link.proofs.Keeping.{spelled_at}
use Rattle.lossy_link.proofs.LineLaws.{each_at}
use Rattle.lossy_link.proofs.Standing.{has_site, may_receive}
use Rattle.lossy_link.specs.inside.Parted.{Comes, ComesIn, IsLearned, IsReceived}
use Rattle.lossy_link.specs.inside.Parted as parted
use Rattle.lossy_link.specs.inside.Queue.{IsRepeated}

abbrev LinksOver : Type 0
LinksOver = Links NetParts

pub lost : (l : LinksOver) (ws : List Frame) (i : ℕ) → i < length l.wire → ws ≡ without i l.wire
    → StepsTo l (Lose i) None (record l { wire = ws })
lost l ws i below is =
    let x = get_or l.wire i (Ack 0 0 0) in
    subst (λ (us : List Frame). StepsTo l (Lose i) None (record l { wire = us })) (sym is)
    (loses i x (slice_get-get_or l.wire i (Ack 0 0 0) below))

pub repeated : (l : LinksOver) (ws : List Frame) (i : ℕ) → IsRepeated l.wire i ws
    → StepsTo l (Repeat i) None (record l { wire = ws })
repeated l ws i h =
    subst (λ (us : List Frame). StepsTo l (Repeat i) None (record l { wire = us })) (sym h.last)
    (repeats i h.frame h.is)

pub sent : (l : LinksOver) (ws : List Frame) (f t n : ℕ) (bytes : List ℕ)
    → IsOpen l.lines f t n bytes → ws ≡ l.wire ++ Data f t n bytes ∷ []
    → StepsTo l (Send f t n) None (record l { wire = ws })
sent l ws f t n bytes at is =
    subst (λ (us : List Frame). StepsTo l (Send f t n) None (record l { wire = us })) (sym is)
    (sends f t n bytes at)

pub acted : (l : LinksOver) (net : NetParts) (lines : List Line) (x : Choice) (e : Event)
    (out : List FlightFrom) → ActsOver l.net x e net out → lines ≡ all_sent out l.lines
    → StepsTo l (Act x) (Some e) (record { net = net; wire = l.wire; lines = lines })
acted l net lines x e out h is = subst (λ (ls : List Line).
    StepsTo l (Act x) (Some e) (record { net = net; wire = l.wire; lines = ls })) (sym is)
    (acts x e net out h)

-- a packet comes in once it is taken off the wire
packet_came : (l new : LinksOver) (ws : List Frame) (i f t n : ℕ) (bytes : List ℕ)
    → slice_get l.wire i ≡ Some (Data f t n bytes) → ws ≡ without i l.wire
    → ComesIn f t n bytes (record l { wire = ws }) new → StepsTo l (Arrive i) None new
packet_came l new ws i f t n bytes at left (parted.takes out next r one two) =
    let wire = one ∙ ap (λ (us : List Frame). us ++ Ack f t (n + 1) ∷ []) left in
    let is : new ≡ record {
      net = new.net;
      wire = without i l.wire ++ Ack f t (n + 1) ∷ [];
      lines = all_sent out (with_handed f t bytes l.lines);
    } = λ j. record { net = new.net; wire = wire j; lines = two j } in
    subst (StepsTo l (Arrive i) None) (sym is) (takes i f t n bytes new.net out at next r)
packet_came l new ws i f t n bytes at left (parted.drops other net one lines) =
    let k = length (line_of f t l.lines).history.handed in
    let wire = one ∙ ap (λ (us : List Frame). us ++ Ack f t k ∷ []) left in
    let is : new ≡ record l { wire = without i l.wire ++ Ack f t k ∷ [] } =
    λ j. record { net = net j; wire = wire j; lines = lines j } in
    subst (StepsTo l (Arrive i) None) (sym is) (drops i f t n bytes at other)

learned : (l new : LinksOver) (ws : List Frame) (i f t n : ℕ)
    → slice_get l.wire i ≡ Some (Ack f t n)
    → ws ≡ without i l.wire → IsLearned f t n (record l { wire = ws }) new
    → StepsTo l (Arrive i) None new
learned l new ws i f t n at left h =
    let wire = h.wire ∙ left in
    let is : new
    ≡ record l { wire = without i l.wire; lines = with_acked f t n l.lines } =
    λ j. record { net = h.net j; wire = wire j; lines = h.lines j } in
    subst (StepsTo l (Arrive i) None) (sym is) (learns i f t n at)

pub came : (l new : LinksOver) (ws : List Frame) (i : ℕ) (x : Frame) → slice_get l.wire i ≡ Some x
    → ws ≡ without i l.wire → Comes x (record l { wire = ws }) new → StepsTo l (Arrive i) None new
came l new ws i (Data f t n bytes) at left h = packet_came l new ws i f t n bytes at left h
came l new ws i (Ack f t n) at left h = learned l new ws i f t n at left h

pub dropped : (l : LinksOver) (ws : List Frame) (f t n next : ℕ) (bytes : List ℕ)
    → next ≡ length (line_of f t l.lines).history.handed → (n ≡ next → ⊥)
    → ws ≡ l.wire ++ Ack f t next ∷ [] → ComesIn f t n bytes l (record l { wire = ws })
dropped l ws f t n next bytes is other left = parted.drops (λ e. other (e ∙ sym is)) refl
    (left ∙ ap (λ (m : ℕ). l.wire ++ Ack f t m ∷ []) is) refl

pub taken : (l mid : LinksOver) (ws : List Frame) (f t n next : ℕ) (bytes : List ℕ)
    → next ≡ length (line_of f t l.lines).history.handed → n ≡ next
    → IsReceived f t bytes l mid → ws ≡ mid.wire ++ Ack f t (next + 1) ∷ []
    → ComesIn f t n bytes l (record mid { wire = ws })
taken l mid ws f t n next bytes is same r left =
    parted.takes r.out (same ∙ is) r.receives
    (left ∙ ap (λ (us : List Frame). us ++ Ack f t (next + 1) ∷ []) r.wire
    ∙ ap (λ (m : ℕ). l.wire ++ Ack f t (m + 1) ∷ []) (sym same)) r.lines

-- ---- what the network does, with its packets handed out

-- an enabled choice that is no delivery
pub allowed_over : (net : NetParts) (x : Choice) → AllowsOver net x → Allows net.code net.net x
allowed_over net (choice.React i p) h = h
allowed_over net (choice.Deliver f) h = absurd h
allowed_over net (choice.Move a) h = h
allowed_over net (choice.Halt a) h = h
allowed_over net (choice.Detect a) h = h

-- where nothing is under way no delivery is enabled
pub over_allowed : (net : NetParts) (x : Choice) → net.net.packets ≡ [] → Allows net.code net.net x
    → AllowsOver net x
over_allowed net (choice.React i p) none h = h
over_allowed net (choice.Deliver f) none h =
    let there : slice_get [] f ≡ Some h.packet =
    ap (λ xs. slice_get xs f) (sym none) ∙ h.packet_is in
    cc
over_allowed net (choice.Move a) none h = h
over_allowed net (choice.Halt a) none h = h
over_allowed net (choice.Detect a) none h = h

pub acts_over : (old mid new : NetParts) (x : Choice) (e : Event) (out : List FlightFrom)
    → HasActed old x (Some e) mid → AreHandedOut mid out new → ActsOver old x e new out
acts_over old mid new x e out h handed_out = record {
  mid = mid;
  acts = h.acts;
  code = h.code;
  events = h.events;
  sender = h.sender;
  sent_by = h.sent_by;
  froms = go x h.acts h.froms;
  handed_out = handed_out;
}
  where
    many : ℕ
    many = length mid.net.packets

    go : (x : Choice) → acting.Acts old.code old.net x (Some e) mid.net
        → mid.froms
        ≡ kept x old.froms
        ++ replicate (many - length (kept x old.net.packets)) h.sender
        → mid.froms ≡ old.froms ++ replicate (many - length old.net.packets) h.sender
    go (choice.React i p) does froms = froms
    go (choice.Move a) does froms = froms
    go (choice.Halt a) does froms = froms
    go (choice.Detect a) does froms = froms
    go (choice.Deliver f) does froms = elim does [ ]

pub receives_over : (old mid new : NetParts) (site : ℕ) (bytes : List ℕ) (out : List FlightFrom)
    → HasReceived old site bytes mid → AreHandedOut mid out new
    → ReceivesOver old site bytes new out
receives_over old mid new site bytes out h handed_out = record {
  mid = mid;
  delivers = h.delivers;
  code = h.code;
  events = h.events;
  froms = h.froms;
  handed_out = handed_out;
}

-- a choice that is no delivery has an event
pub has_event : (old mid : NetParts) (x : Choice) (o : Option Event) → AllowsOver old x
    → HasActed old x o mid → o ≡ None → ⊥
has_event old mid x o may h none = go x may (subst (λ (p : Option Event).
    acting.Acts old.code old.net x p mid.net) none h.acts)
  where
    go : (x : Choice) → AllowsOver old x → acting.Acts old.code old.net x None mid.net → ⊥
    go (choice.Deliver f) may does = may
    go (choice.React i p) may does = elim does [ ]
    go (choice.Move a) may does = elim does [ ]
    go (choice.Halt a) may does = elim does [ ]
    go (choice.Detect a) may does = elim does [ ]

-- a pair of which a packet is on the wire sent one
pub sent_some : (ls : List Line) (f t n : ℕ) (bytes : List ℕ)
    → slice_get (line_of f t ls).history.sent n ≡ Some bytes
    → 0 < length (line_of f t ls).history.sent
sent_some ls f t n bytes at =
    let below = slice_get_within (line_of f t ls).history.sent n bytes at in omega arith

-- a packet that a pair sent is the spelling of a message
pub carries_text : (f t n : ℕ) (bytes : List ℕ) → IsMessageText bytes
    → CarriesMessage (Data f t n bytes)
carries_text f t n bytes h = (message_in bytes, h)

pub carries_sent : (ls : List Line) (f t n : ℕ) (found bytes : List ℕ) → AreSpelled ls
    → IsOpen ls f t n found → bytes ≡ found → CarriesMessage (Data f t n bytes)
carries_sent ls f t n found bytes all open_one same =
    carries_text f t n bytes
    (subst IsMessageText (sym same) (spelled_at f t n found ls all open_one.is))

-- ---- a receipt

-- what a frame on the wire says is so
pub frame_true : (l : LinksOver) (i : ℕ) (x : Frame) → IsWhole l → slice_get l.wire i ≡ Some x
    → IsTrueOf l.lines x
frame_true l i x whole at = each_at (IsTrueOf l.lines) l.wire i x whole.sound.wire at

module _ (l : LinksOver) (f t : ℕ) (bytes : List ℕ) where
  abbrev IsNextPacket : Type 0
  IsNextPacket =
      slice_get (line_of f t l.lines).history.sent (length (line_of f t l.lines).history.handed)
      ≡ Some bytes

  pub receive_site : IsWhole l → IsNextPacket → t < length l.net.net.sites
  receive_site whole next = has_site l.net.net f t bytes l.lines next l.net.code whole.stands

  pub receive_spelled : (text : List ℕ) → IsWhole l → IsNextPacket → text ≡ bytes
      → IsMessageText text
  receive_spelled text whole next same = subst IsMessageText (sym same)
      (spelled_at f t (length (line_of f t l.lines).history.handed) bytes
      l.lines whole.spelled next)

  pub receive_stands : (text : List ℕ) → IsWhole l → IsNextPacket → text ≡ bytes
      → RunsSome l.net.code (with_last l.net.net t text)
  receive_stands text whole next same =
      let one : RunsSome l.net.code (with_packets (carried (flight_to t bytes) ∷ []) l.net.net) =
      may_receive l.net.net f t bytes l.lines next l.net.code whole.stands in
      subst (λ (bs : List ℕ). RunsSome l.net.code (with_last l.net.net t bs)) (sym same)
      (subst (λ (qs : List Addressed). RunsSome l.net.code
      (with_packets (qs ++ carried (flight_to t bytes) ∷ []) l.net.net)) (sym whole.drained) one)

  pub received : (mid new : NetParts) (text : List ℕ) (out : List FlightFrom)
      (given lines : List Line) → text ≡ bytes → HasReceived l.net t text mid
      → AreHandedOut mid out new → given ≡ with_handed f t bytes l.lines
      → lines ≡ all_sent out given
      → IsReceived f t bytes l (record { net = new; wire = l.wire; lines = lines })
  received mid new text out given lines same h handed_out one two = record {
    out = out;
    receives = receives_over l.net mid new t bytes out
        (subst (λ (bs : List ℕ). HasReceived l.net t bs mid) same h) handed_out;
    wire = refl;
    lines = two ∙ ap (all_sent out) one;
  }
