-- Texts that are worked off one after another.
use Rattle.std.proofs.Common.{◌≡◌, ℕ, zero, suc, ◌+◌, ◌<◌, ◌≤◌, List, [], ◌∷◌, ◌++◌, length, get_or}
use Rattle.std.proofs.Common.{take, Some, Result, Ok, Err, refl, sym, ap, ◌∙◌, subst, arith, inl}
use Rattle.std.proofs.Common.{inr, append_assoc}
use Rattle.std.specs.Prelude.{slice_get}
use Rattle.std.proofs.lemmas.Option.{slice_get_read}
use Rattle.chem_model.specs.Each.{Each}
use Rattle.chem_laws.proofs.Lists.{append_nil}
use Rattle.wire_packet.specs.MessageFacts.{MessageParts}
use Rattle.wire_packet.specs.declared.packet.Flight.{Flight}
use Rattle.wire_packet.specs.declared.parcel.Packet.{Packet}
use Rattle.wire_packet.specs.declared.parcel.Packet.TheVariants as packet
use Rattle.wire_packet.specs.declared.fault.DecodeEnd.{DecodeEnd}
use Rattle.wire_packet.specs.declared.fault.DecodeEnd.TheVariants as end
use Rattle.wire_packet.specs.Codec.{IsSpelledBy, IsOrMemory}
use Rattle.loc_tree.specs.Tree.{Tree}
use Rattle.net_laws.specs.Site.{Site}
use Rattle.net_laws.specs.Net.{Addressed}
use Rattle.site_solution.specs.Answers.{AreFlights}
use Rattle.site_turn.specs.Mail.{IsMessageFlight, AreSpelled}
use Rattle.site_turn.specs.Arriving.{Arrival, come, all_come, HasCome}
use Rattle.site_turn.specs.inside.Coming.{Comes, HasComeUpTo}

-- ---- what a text spells

pub read_found : (m : MessageParts) (bytes slice : List ℕ) (x : Packet)
    → IsSpelledBy (packet.Message m) bytes → slice ≡ bytes
    → ((p : Packet) → IsSpelledBy p slice → IsOrMemory (Ok p) (Ok x)) → x ≡ packet.Message m
read_found m bytes slice x spelt same reads =
    elim (reads (packet.Message m)
    (subst (λ (bs : List ℕ). IsSpelledBy (packet.Message m) bs) (sym same) spelt)) [
      | inl e ↦ found e
      | inr e ↦ absurd (memory e)
    ]
  where
    found : ◌≡◌ {A = Result Packet DecodeEnd} (Ok x) (Ok (packet.Message m)) → x ≡ packet.Message m
    found e = cc

    memory : ◌≡◌ {A = Result Packet DecodeEnd} (Ok x) (Err end.Memory) → ⊥
    memory e = cc

pub read_bad : (m : MessageParts) (bytes slice : List ℕ) (e : DecodeEnd) (place : ℕ)
    → e ≡ end.Bad place → IsSpelledBy (packet.Message m) bytes → slice ≡ bytes
    → ((p : Packet) → IsSpelledBy p slice → IsOrMemory (Ok p) (Err e)) → ⊥
read_bad m bytes slice e place is spelt same reads =
    elim (reads (packet.Message m)
    (subst (λ (bs : List ℕ). IsSpelledBy (packet.Message m) bs) (sym same) spelt)) [
      | inl f ↦ found f
      | inr f ↦ memory f
    ]
  where
    found : ◌≡◌ {A = Result Packet DecodeEnd} (Err e) (Ok (packet.Message m)) → ⊥
    found f = cc

    memory : ◌≡◌ {A = Result Packet DecodeEnd} (Err e) (Err end.Memory) → ⊥
    memory f =
        let same : e ≡ end.Memory = cc in
        let other : end.Bad place ≡ end.Memory = sym is ∙ same in
        cc

-- ---- one more

site_more : (t : Tree) (ms : List MessageParts) (m : MessageParts) (s : Site)
    → (all_come t (ms ++ m ∷ []) s).site ≡ (come t m (all_come t ms s).site).site
site_more t [] m s = refl
site_more t (x ∷ ms) m s = site_more t ms m (come t x s).site

on_more : (t : Tree) (ms : List MessageParts) (m : MessageParts) (s : Site)
    → (all_come t (ms ++ m ∷ []) s).on
    ≡ (all_come t ms s).on ++ (come t m (all_come t ms s).site).on
on_more t [] m s = append_nil (come t m s).on
on_more t (x ∷ ms) m s =
    let first = come t x s in
    ap (λ (ps : List Addressed). first.on ++ ps) (on_more t ms m first.site)
    ∙ sym (append_assoc first.on (all_come t ms first.site).on
    (come t m (all_come t ms first.site).site).on)

flights_more : (ps qs : List Addressed) (fs gs : List Flight) → AreFlights ps fs → AreFlights qs gs
    → AreFlights (ps ++ qs) (fs ++ gs)
flights_more [] qs [] gs h k = k
flights_more [] qs (f ∷ fs) gs h k = absurd h
flights_more (p ∷ ps) qs [] gs h k = absurd h
flights_more (p ∷ ps) qs (f ∷ fs) gs h k = (h.0, flights_more ps qs fs gs h.1 k)

pub spelled_more :
    (ms : List MessageParts) (m : MessageParts) (texts : List (List ℕ)) (text : List ℕ)
    → AreSpelled ms texts → IsSpelledBy (packet.Message m) text
    → AreSpelled (ms ++ m ∷ []) (texts ++ text ∷ [])
spelled_more [] m [] text h k = (k, tt)
spelled_more [] m (x ∷ texts) text h k = absurd h
spelled_more (y ∷ ms) m [] text h k = absurd h
spelled_more (y ∷ ms) m (x ∷ texts) text h k = (h.0, spelled_more ms m texts text h.1 k)

take_suc : {X : Type 0} (xs : List X) (n : ℕ) (x : X) → slice_get xs n ≡ Some x
    → take (suc n) xs ≡ take n xs ++ x ∷ []
take_suc [] n x e = cc
take_suc (y ∷ xs) zero x e = let same : y ≡ x = cc in ap (λ z. z ∷ []) same
take_suc (y ∷ xs) (suc n) x e = ap (λ zs. y ∷ zs) (take_suc xs n x e)

take_next : {X : Type 0} (xs : List X) (n : ℕ) (x : X) → slice_get xs n ≡ Some x
    → take (n + 1) xs ≡ take n xs ++ x ∷ []
take_next xs n x e =
    let one : n + 1 ≡ suc n = omega arith in
    ap (λ k. take k xs) one ∙ take_suc xs n x e

take_whole : {X : Type 0} (xs : List X) (n : ℕ) → length xs ≤ n → take n xs ≡ xs
take_whole [] zero h = refl
take_whole [] (suc n) h = refl
take_whole (x ∷ xs) zero h = absurd (omega arith)
take_whole (x ∷ xs) (suc n) h = ap (λ ys. x ∷ ys) (take_whole xs n (omega arith))

pub member_at : {X : Type 0} (xs : List X) (i : ℕ) (x : X) → i < length xs → x ≡ get_or xs i x
    → slice_get xs i ≡ Some x
member_at xs i x below is = slice_get_read xs (length xs) i x refl below is

module _ (t : Tree) (s : Site) (mail : List (List ℕ)) where
  -- the first n of the texts were worked off
  abbrev pub IsComing : ℕ → Site → List Flight → Type 0
  IsComing n site on = HasCome t s (take n mail) site on

  pub none_came : (site : Site) (on : List Flight) → site ≡ s → on ≡ [] → IsComing 0 site on
  none_came site on at e =
      record { msgs = []; spelled = tt; site = at; flights = subst (AreFlights []) (sym e) tt }

  pub one_came :
      (n : ℕ) (site : Site) (on : List Flight) (text : List ℕ) (new : Site) (after : List Flight)
      → IsComing n site on → slice_get mail n ≡ Some text → Comes t site text on new after
      → IsComing (n + 1) new after
  one_came n site on text new after h at c =
      let more : take (n + 1) mail ≡ take n mail ++ text ∷ [] = take_next mail n text at in
      let here : come t c.msg site ≡ come t c.msg (all_come t h.msgs s).site =
      ap (come t c.msg) h.site in
      let flights : AreFlights (come t c.msg (all_come t h.msgs s).site).on c.more =
      subst (λ (a : Arrival). AreFlights a.on c.more) here c.flights in
      record {
        msgs = h.msgs ++ c.msg ∷ [];
        spelled = subst (AreSpelled (h.msgs ++ c.msg ∷ [])) (sym more)
            (spelled_more h.msgs c.msg (take n mail) text h.spelled c.spelled);
        site = c.site ∙ ap (λ (a : Arrival). a.site) here ∙ sym (site_more t h.msgs c.msg s);
        flights =
            subst (λ (fs : List Flight). AreFlights (all_come t (h.msgs ++ c.msg ∷ []) s).on fs)
            (sym c.added)
            (subst (λ (ps : List Addressed). AreFlights ps (on ++ c.more))
            (sym (on_more t h.msgs c.msg s))
            (flights_more (all_come t h.msgs s).on (come t c.msg (all_come t h.msgs s).site).on on
            c.more h.flights flights));
      }

  pub all_came : (n : ℕ) (site : Site) (on : List Flight) → length mail ≤ n → IsComing n site on
      → HasCome t s mail site on
  all_came n site on past h =
      subst (λ (ts : List (List ℕ)). HasCome t s ts site on) (take_whole mail n past) h

  pub some_came : (n : ℕ) (site new : Site) (on : List Flight) → new ≡ site → IsComing n site on
      → HasComeUpTo t s mail new
  some_came n site new on at h = record {
    done = n;
    on = on;
    come_is = subst (λ (u : Site). HasCome t s (take n mail) u on) (sym at) h;
  }

-- ---- all mail

flights_spelled : (ps : List Addressed) (fs : List Flight) → AreFlights ps fs
    → Each IsMessageFlight fs
flights_spelled [] [] h = tt
flights_spelled [] (f ∷ fs) h = absurd h
flights_spelled (p ∷ ps) [] h = absurd h
flights_spelled (p ∷ ps) (f ∷ fs) h = ((p.msg, h.0.spelled), flights_spelled ps fs h.1)

pub are_message_flights : (ps : List Addressed) (fs : List Flight) → AreFlights ps fs
    → Each IsMessageFlight fs
are_message_flights ps fs h = flights_spelled ps fs h
