-- What holds of each packet that the lines still have to deliver, as messages under way.
use Rattle.std.proofs.Common.{◌≡◌, ℕ, List, [], ◌∷◌, ◌++◌, Bool, true, false, cond, Some}
use Rattle.std.proofs.Common.{length, slice_get, refl, sym, ap, subst, ◌∙◌, ◌+◌}
use Rattle.chem_model.specs.Each.{Each}
use Rattle.chem_model.specs.declared.numbered.NumberedAtom.{NumberedAtom}
use Rattle.chem_model.specs.Bag.{one}
use Rattle.chem_laws.proofs.Lists.{Each-append, Each-left, Each-right}
use Rattle.net_laws.specs.Site.{coded_atom}
use Rattle.net_laws.specs.Net.{Addressed, under_way}
use Rattle.net_core.specs.Parts.{carried}
use Rattle.net_core.specs.declared.drained.FlightFrom.{FlightFrom}
use Rattle.net_core.proofs.Fewer.{flying}
use Rattle.lossy_link.specs.declared.line.Line.{Line}
use Rattle.lossy_link.specs.Lines.{flight_from, is_between, line_of, with_line, with_sent, all_sent}
use Rattle.lossy_link.specs.Lines.{with_handed, with_acked, sent_more, handed_more, acked_more}
use Rattle.lossy_link.specs.Lines.{undelivered, AreFine}
use Rattle.lossy_link.specs.Pending.{of_texts, pending, weight}
use Rattle.lossy_link.specs.Standing.{flights}
use Rattle.lossy_link.proofs.LineLaws.{pair_of, sent_fine}
use Rattle.lossy_link.proofs.Weights.{first_undelivered, last_undelivered}

pub flights_append : (ps qs : List FlightFrom) → flights (ps ++ qs) ≡ flights ps ++ flights qs
flights_append [] qs = refl
flights_append (p ∷ ps) qs =
    ap (λ (xs : List Addressed). carried p.flight ∷ xs) (flights_append ps qs)

-- ---- how often an atom is a packet's

abbrev atom_weight : NumberedAtom → FlightFrom → ℕ
atom_weight a p = one coded_atom (flying (carried p.flight)) a

under_way_weight : (a : NumberedAtom) (ps : List FlightFrom)
    → under_way (flights ps) a ≡ weight (atom_weight a) ps
under_way_weight a [] = refl
under_way_weight a (p ∷ ps) = ap (λ (n : ℕ). atom_weight a p + n) (under_way_weight a ps)

-- packets that weigh the same, whatever each weighs
abbrev pub Alike : List FlightFrom → List FlightFrom → Type 0
Alike ps qs = (w : FlightFrom → ℕ) → weight w ps ≡ weight w qs

pub alike_under_way : (ps qs : List FlightFrom) → Alike ps qs → (a : NumberedAtom)
    → under_way (flights ps) a ≡ under_way (flights qs) a
alike_under_way ps qs same a =
    under_way_weight a ps ∙ same (atom_weight a) ∙ sym (under_way_weight a qs)

-- ---- what holds of each

module _ (P : Addressed → Type 0) where
  abbrev EachOf : ℕ → ℕ → List (List ℕ) → Type 0
  EachOf f t xs = Each P (flights (of_texts f t xs))

  of_append : (f t : ℕ) (xs ys : List (List ℕ)) → EachOf f t xs → EachOf f t ys
      → EachOf f t (xs ++ ys)
  of_append f t [] ys h g = g
  of_append f t (x ∷ xs) ys h g = (h.0, of_append f t xs ys h.1 g)

  abbrev EachLine : Line → Type 0
  EachLine l = EachOf l.from l.into (undelivered l)

  abbrev of_line : Line → List Addressed
  of_line l = flights (of_texts l.from l.into (undelivered l))

  -- of a line in front, and of the others
  split : (l : Line) (ls : List Line) → Each P (flights (pending (l ∷ ls)))
      → Each P (of_line l) × Each P (flights (pending ls))
  split l ls h =
      let both : Each P (of_line l ++ flights (pending ls)) =
      subst (Each P) (flights_append (of_texts l.from l.into (undelivered l)) (pending ls)) h in (
        Each-left P (of_line l) (flights (pending ls)) both,
        Each-right P (of_line l) (flights (pending ls)) both,
      )

  joined : (l : Line) (ls : List Line) → EachLine l → Each P (flights (pending ls))
      → Each P (flights (pending (l ∷ ls)))
  joined l ls h g =
      subst (Each P) (sym (flights_append (of_texts l.from l.into (undelivered l)) (pending ls)))
      (Each-append P (of_line l) (flights (pending ls)) h g)

  line_each : (f t : ℕ) (ls : List Line) → Each P (flights (pending ls))
      → EachLine (line_of f t ls)
  line_each f t [] h = tt
  line_each f t (l ∷ ls) h =
      go (is_between f t l.from l.into) (line_each f t ls (split l ls h).1)
    where
      go : (b : Bool) → EachLine (line_of f t ls) → EachLine (cond b l (line_of f t ls))
      go true rest = (split l ls h).0
      go false rest = rest

  with_line_each : (l : Line) (ls : List Line) → EachLine l → Each P (flights (pending ls))
      → Each P (flights (pending (with_line l ls)))
  with_line_each l [] h g = joined l [] h tt
  with_line_each l (k ∷ ks) h g =
      go (is_between l.from l.into k.from k.into) (with_line_each l ks h (split k ks g).1)
    where
      go : (b : Bool) → Each P (flights (pending (with_line l ks)))
          → Each P (flights (pending (cond b (l ∷ ks) (k ∷ with_line l ks))))
      go true rest = joined l ks h (split k ks g).1
      go false rest = joined k (with_line l ks) (split k ks g).0 rest

  sent_each : (p : FlightFrom) (ls : List Line) → AreFine ls → P (carried p.flight)
      → Each P (flights (pending ls)) → Each P (flights (pending (with_sent p ls)))
  sent_each p ls fine one all =
      let l = line_of p.from p.flight.target ls in
      let is = pair_of p.from p.flight.target ls in
      let x = p.flight.bytes in
      let last : EachOf l.from l.into (x ∷ []) = (
        subst (λ (n : ℕ). P (carried (flight_from l.from n x).flight)) (sym is.1) one,
        tt,
      ) in
      with_line_each (sent_more l x) ls
      (subst (EachOf l.from l.into) (sym (last_undelivered p ls fine))
      (of_append l.from l.into (undelivered l) (x ∷ [])
      (line_each p.from p.flight.target ls all) last)) all

  pub all_sent_each : (ps : List FlightFrom) (ls : List Line) → AreFine ls → Each P (flights ps)
      → Each P (flights (pending ls)) → Each P (flights (pending (all_sent ps ls)))
  all_sent_each [] ls fine some all = all
  all_sent_each (p ∷ ps) ls fine some all =
      all_sent_each ps (with_sent p ls) (sent_fine p ls fine) some.1
      (sent_each p ls fine some.0 all)

  first_each : (f t : ℕ) (x : List ℕ) (ls : List Line)
      → slice_get (line_of f t ls).history.sent (length (line_of f t ls).history.handed) ≡ Some x
      → Each P (flights (pending ls))
      → EachOf (line_of f t ls).from (line_of f t ls).into
      (x ∷ undelivered (handed_more (line_of f t ls) x))
  first_each f t x ls at all =
      let l = line_of f t ls in
      subst (EachOf l.from l.into) (first_undelivered l x at) (line_each f t ls all)

  pub handed_each : (f t : ℕ) (x : List ℕ) (ls : List Line)
      → slice_get (line_of f t ls).history.sent (length (line_of f t ls).history.handed) ≡ Some x
      → Each P (flights (pending ls)) → Each P (flights (pending (with_handed f t x ls)))
  handed_each f t x ls at all =
      with_line_each (handed_more (line_of f t ls) x) ls (first_each f t x ls at all).1 all

  pub handed_one : (f t : ℕ) (x : List ℕ) (ls : List Line)
      → slice_get (line_of f t ls).history.sent (length (line_of f t ls).history.handed) ≡ Some x
      → Each P (flights (pending ls)) → P (carried (flight_from f t x).flight)
  handed_one f t x ls at all =
      let is = pair_of f t ls in
      subst (λ (n : ℕ). P (carried (flight_from f n x).flight)) is.1
      (first_each f t x ls at all).0

  pub acked_each : (f t n : ℕ) (ls : List Line) → Each P (flights (pending ls))
      → Each P (flights (pending (with_acked f t n ls)))
  acked_each f t n ls all =
      with_line_each (acked_more (line_of f t ls) n) ls (line_each f t ls all) all
