-- Whatever is lost: the packets are delivered in the order of their pairs.
use Rattle.std.proofs.Common.{◌≡◌, ℕ, zero, suc, ◌+◌, ◌<◌, List, [], ◌∷◌, ◌++◌, Bool, true, false}
use Rattle.std.proofs.Common.{cond, length, drop, Some, slice_get, refl, sym, ap, subst, ◌∙◌, arith}
use Rattle.std.proofs.lemmas.List.{append_assoc, append-nil, drop-append-le, length-append}
use Rattle.std.proofs.lemmas.Option.{same_Some}
use Rattle.net_core.specs.declared.drained.FlightFrom.{FlightFrom}
use Rattle.lossy_link.specs.declared.line.Line.{Line}
use Rattle.lossy_link.specs.Lines.{is_between, line_of, with_sent, all_sent, with_handed}
use Rattle.lossy_link.specs.Lines.{with_acked, sent_more, handed_more, acked_more, undelivered}
use Rattle.lossy_link.specs.Lines.{AreFine}
use Rattle.net_core.specs.Parts.{without}
use Rattle.lossy_link.proofs.Bringing.{of_pair, AreSame}
use Rattle.lossy_link.proofs.LineLaws.{between, same_pair, pair_of, line_with, each_line, sent_fine}

-- ---- what is under way of a pair

pub of_pair_append : (f t : ℕ) (ps qs : List FlightFrom)
    → of_pair f t (ps ++ qs) ≡ of_pair f t ps ++ of_pair f t qs
of_pair_append f t [] qs = refl
of_pair_append f t (p ∷ ps) qs =
    go (is_between f t p.from p.flight.target) (of_pair_append f t ps qs)
  where
    go : (b : Bool) → of_pair f t (ps ++ qs) ≡ of_pair f t ps ++ of_pair f t qs
        → cond b (p.flight.bytes ∷ of_pair f t (ps ++ qs)) (of_pair f t (ps ++ qs))
        ≡ cond b (p.flight.bytes ∷ of_pair f t ps) (of_pair f t ps) ++ of_pair f t qs
    go true ih = ap (λ (xs : List (List ℕ)). p.flight.bytes ∷ xs) ih
    go false ih = ih

-- one that is under way is among those of its pair
pub is_of_pair : (ps : List FlightFrom) (j : ℕ) (q : FlightFrom) → slice_get ps j ≡ Some q
    → of_pair q.from q.flight.target ps ≡ [] → ⊥
is_of_pair [] j q e none = cc
is_of_pair (p ∷ ps) zero q e none =
    let same : p ≡ q = same_Some p q e in
    let is : is_between q.from q.flight.target p.from p.flight.target ≡ true =
    ap (λ (r : FlightFrom). is_between q.from q.flight.target r.from r.flight.target) same
    ∙ same_pair q.from q.flight.target in
    go (is_between q.from q.flight.target p.from p.flight.target) is none
  where
    go : (b : Bool) → b ≡ true → cond b (p.flight.bytes ∷ of_pair q.from q.flight.target ps)
        (of_pair q.from q.flight.target ps) ≡ [] → ⊥
    go true e none = cc
    go false e none = cc
is_of_pair (p ∷ ps) (suc j) q e none =
    is_of_pair ps j q e (go (is_between q.from q.flight.target p.from p.flight.target) none)
  where
    go : (b : Bool) → cond b (p.flight.bytes ∷ of_pair q.from q.flight.target ps)
        (of_pair q.from q.flight.target ps) ≡ [] → of_pair q.from q.flight.target ps ≡ []
    go true none = cc
    go false none = none

-- where nothing of any pair is under way, nothing is
pub none_of_pairs : (ps : List FlightFrom) → ((f t : ℕ) → of_pair f t ps ≡ []) → ps ≡ []
none_of_pairs [] none = refl
none_of_pairs (p ∷ ps) none = absurd (is_of_pair (p ∷ ps) 0 p refl (none p.from p.flight.target))

-- the first of a pair, and what is left without it
pub record HasFirst (f t : ℕ) (ps : List FlightFrom) (x : List ℕ) (rest : List (List ℕ)) : Type 0
  where
    pub place : ℕ
    pub packet : FlightFrom
    pub is : slice_get ps place ≡ Some packet
    pub from : packet.from ≡ f
    pub into : packet.flight.target ≡ t
    pub bytes : packet.flight.bytes ≡ x
    pub first : (j : ℕ) (q : FlightFrom) → j < place → slice_get ps j ≡ Some q → q.from ≡ f
        → q.flight.target ≡ t → ⊥
    pub left : of_pair f t (without place ps) ≡ rest
    pub others : (g u : ℕ) → is_between g u f t ≡ false
        → of_pair g u (without place ps) ≡ of_pair g u ps

pub first_of_pair : (f t : ℕ) (ps : List FlightFrom) (x : List ℕ) (rest : List (List ℕ))
    → of_pair f t ps ≡ x ∷ rest → HasFirst f t ps x rest
first_of_pair f t [] x rest e = cc
first_of_pair f t (p ∷ ps) x rest e =
    go (is_between f t p.from p.flight.target) refl (first_of_pair f t ps x rest) e
  where
    skip : (g u : ℕ) (b : Bool) → is_between g u p.from p.flight.target ≡ b → (xs : List (List ℕ))
        → b ≡ false → xs ≡ cond b (p.flight.bytes ∷ xs) xs
    skip g u true e xs h = cc
    skip g u false e xs h = refl

    go : (b : Bool) → is_between f t p.from p.flight.target ≡ b
        → (of_pair f t ps ≡ x ∷ rest → HasFirst f t ps x rest)
        → cond b (p.flight.bytes ∷ of_pair f t ps) (of_pair f t ps) ≡ x ∷ rest
        → HasFirst f t (p ∷ ps) x rest
    go true is ih e =
        let pair = between f t p.from p.flight.target is in
        record {
          place = 0;
          packet = p;
          is = refl;
          from = sym pair.0;
          into = sym pair.1;
          bytes = cc;
          first = λ j q below. absurd (let no : j < 0 = below in omega arith);
          left = cc;
          others = λ g u other.
              let apart : is_between g u p.from p.flight.target ≡ false =
              ap (λ (n : ℕ). is_between g u n p.flight.target) (sym pair.0)
              ∙ ap (λ (n : ℕ). is_between g u f n) (sym pair.1) ∙ other in
              skip g u (is_between g u p.from p.flight.target) refl (of_pair g u ps) apart;
        }
    go false is ih e =
        let h = ih e in
        record {
          place = suc h.place;
          packet = h.packet;
          is = h.is;
          from = h.from;
          into = h.into;
          bytes = h.bytes;
          first = before h;
          left =
              sym (skip f t (is_between f t p.from p.flight.target) refl
              (of_pair f t (without h.place ps)) is) ∙ h.left;
          others =
              λ g u other. ap (λ (xs : List (List ℕ)). cond (is_between g u p.from p.flight.target)
              (p.flight.bytes ∷ xs) xs) (h.others g u other);
        }
      where
        before : (h : HasFirst f t ps x rest) (j : ℕ) (q : FlightFrom) → j < suc h.place
            → slice_get (p ∷ ps) j ≡ Some q → q.from ≡ f → q.flight.target ≡ t → ⊥
        before h zero q below at one two =
            let same : p ≡ q = same_Some p q at in
            let yes : is_between f t p.from p.flight.target ≡ true =
            ap (λ (r : FlightFrom). is_between f t r.from r.flight.target) same
            ∙ ap (λ (n : ℕ). is_between f t n q.flight.target) one
            ∙ ap (λ (n : ℕ). is_between f t f n) two ∙ same_pair f t in
            let bad : true ≡ false = sym yes ∙ is in
            cc
        before h (suc j) q below at one two =
            h.first j q (let less : suc j < suc h.place = below in omega arith) at one two

-- ---- lines and packets under way

-- a packet leaves
pub sent_same : (p : FlightFrom) (ls : List Line) (ps : List FlightFrom) → AreFine ls
    → AreSame ls ps → AreSame (with_sent p ls) (ps ++ p ∷ [])
sent_same p ls ps fine same f t =
    let l = line_of p.from p.flight.target ls in
    let is = pair_of p.from p.flight.target ls in
    let new : Line =
    sent_more l p.flight.bytes in
    let names : is_between f t new.from new.into ≡ is_between f t p.from p.flight.target =
    ap (λ (n : ℕ). is_between f t n l.into) is.0
    ∙ ap (λ (n : ℕ). is_between f t p.from n) is.1 in
    ap (λ (k : Line). undelivered k) (line_with f t new ls)
    ∙ ap (λ (b : Bool). undelivered (cond b new (line_of f t ls))) names
    ∙ go (is_between f t p.from p.flight.target) refl ∙ sym (of_pair_append f t ps (p ∷ []))
  where
    go : (b : Bool) → is_between f t p.from p.flight.target ≡ b
        → undelivered (cond b (sent_more (line_of p.from p.flight.target ls) p.flight.bytes)
        (line_of f t ls)) ≡ of_pair f t ps ++ cond b (p.flight.bytes ∷ []) []
    go true e =
        let pair = between f t p.from p.flight.target e in
        let k = line_of p.from p.flight.target ls in
        let here : undelivered k ≡ of_pair f t ps =
        ap (λ (n : ℕ). undelivered (line_of n p.flight.target ls)) (sym pair.0)
        ∙ ap (λ (n : ℕ). undelivered (line_of f n ls)) (sym pair.1) ∙ same f t in
        drop-append-le (length k.history.handed) k.history.sent (p.flight.bytes ∷ [])
        (fine p.from p.flight.target).within ∙ ap
        (λ (xs : List (List ℕ)). xs ++ p.flight.bytes ∷ []) here
    go false e = same f t ∙ sym (append-nil (of_pair f t ps))

pub all_sent_same : (out : List FlightFrom) (ls : List Line) (ps : List FlightFrom) → AreFine ls
    → AreSame ls ps → AreSame (all_sent out ls) (ps ++ out)
all_sent_same [] ls ps fine same = subst (AreSame ls) (sym (append-nil ps)) same
all_sent_same (p ∷ out) ls ps fine same =
    subst (AreSame (all_sent out (with_sent p ls))) (append_assoc ps (p ∷ []) out)
    (all_sent_same out (with_sent p ls) (ps ++ p ∷ []) (sent_fine p ls fine)
    (sent_same p ls ps fine same))

-- a packet is handed out
pub handed_same : (f t : ℕ) (x : List ℕ) (ls : List Line) (ps : List FlightFrom)
    → slice_get (line_of f t ls).history.sent (length (line_of f t ls).history.handed) ≡ Some x
    → AreSame ls ps → (h : HasFirst f t ps x (drop (length (line_of f t ls).history.handed + 1)
    (line_of f t ls).history.sent)) → AreSame (with_handed f t x ls) (without h.place ps)
handed_same f t x ls ps at same h g u =
    let l = line_of f t ls in
    let is = pair_of f t ls in
    let new : Line =
    handed_more l x in
    let names : is_between g u new.from new.into ≡ is_between g u f t =
    ap (λ (n : ℕ). is_between g u n l.into) is.0 ∙ ap (λ (n : ℕ). is_between g u f n) is.1 in
    ap (λ (k : Line). undelivered k) (line_with g u new ls)
    ∙ ap (λ (b : Bool). undelivered (cond b new (line_of g u ls))) names
    ∙ go (is_between g u f t) refl
  where
    go : (b : Bool) → is_between g u f t ≡ b → undelivered
        (cond b (handed_more (line_of f t ls) x) (line_of g u ls))
        ≡ of_pair g u (without h.place ps)
    go true e =
        let pair = between g u f t e in
        let k = line_of f t ls in
        ap (λ (n : ℕ). drop n k.history.sent) (length-append k.history.handed (x ∷ [])) ∙ sym h.left
        ∙ ap (λ (n : ℕ). of_pair n t (without h.place ps)) (sym pair.0)
        ∙ ap (λ (n : ℕ). of_pair g n (without h.place ps)) (sym pair.1)
    go false e = same g u ∙ sym (h.others g u e)

-- a number is acknowledged
pub acked_same : (f t n : ℕ) (ls : List Line) (ps : List FlightFrom) → AreSame ls ps
    → AreSame (with_acked f t n ls) ps
acked_same f t n ls ps same g u =
    let l = line_of f t ls in
    let is = pair_of f t ls in
    each_line (λ v w k. undelivered k ≡ of_pair v w ps) f t (acked_more l n)
    ls is.0 is.1 (same f t) same g u
