-- What the lines still have to deliver, weighed: a packet that leaves adds to it, and one that is
-- handed out is taken from it.
use Rattle.std.proofs.Common.{◌≡◌, ℕ, ◌+◌, List, [], ◌∷◌, ◌++◌, Bool, true, false, cond, length}
use Rattle.std.proofs.Common.{drop}
use Rattle.std.proofs.Common.{Some, slice_get, sym, ap, subst, ◌∙◌, arith}
use Rattle.std.proofs.lemmas.List.{length-append, drop-append-le}
use Rattle.net_core.specs.declared.drained.FlightFrom.{FlightFrom}
use Rattle.lossy_link.specs.declared.line.Line.{Line}
use Rattle.lossy_link.specs.Lines.{flight_from, is_between, line_of, with_line, with_sent, all_sent}
use Rattle.lossy_link.specs.Lines.{with_handed, with_acked, sent_more, handed_more, acked_more}
use Rattle.lossy_link.specs.Lines.{undelivered, AreFine}
use Rattle.lossy_link.specs.Pending.{of_texts, pending, weight}
use Rattle.lossy_link.proofs.LineLaws.{pair_of, sent_fine, drop_get}

-- of a line that was handed a packet, that packet was the first that it had to deliver
pub first_undelivered : (l : Line) (x : List ℕ)
    → slice_get l.history.sent (length l.history.handed) ≡ Some x
    → undelivered l ≡ x ∷ undelivered (handed_more l x)
first_undelivered l x at =
    drop_get l.history.sent (length l.history.handed) x at
    ∙ ap (λ (n : ℕ). x ∷ drop n l.history.sent) (sym (length-append l.history.handed (x ∷ [])))

-- a packet that leaves is the last that its line has to deliver
pub last_undelivered : (p : FlightFrom) (ls : List Line) → AreFine ls
    → undelivered (sent_more (line_of p.from p.flight.target ls) p.flight.bytes)
    ≡ undelivered (line_of p.from p.flight.target ls) ++ p.flight.bytes ∷ []
last_undelivered p ls fine =
    let l = line_of p.from p.flight.target ls in
    drop-append-le (length l.history.handed) l.history.sent (p.flight.bytes ∷ [])
    (fine p.from p.flight.target).within

module _ (w : FlightFrom → ℕ) where
  pub weight_append : (ps qs : List FlightFrom) → weight w (ps ++ qs) ≡ weight w ps + weight w qs
  weight_append [] qs = omega arith
  weight_append (p ∷ ps) qs = let ih = weight_append ps qs in omega arith

  -- what a line still has to deliver
  abbrev heft : Line → ℕ
  heft l = weight w (of_texts l.from l.into (undelivered l))

  texts_append : (f t : ℕ) (xs ys : List (List ℕ))
      → weight w (of_texts f t (xs ++ ys))
      ≡ weight w (of_texts f t xs) + weight w (of_texts f t ys)
  texts_append f t [] ys = omega arith
  texts_append f t (x ∷ xs) ys = let ih = texts_append f t xs ys in omega arith

  line_in_front : (l : Line) (ls : List Line)
      → weight w (pending (l ∷ ls)) ≡ heft l + weight w (pending ls)
  line_in_front l ls = weight_append (of_texts l.from l.into (undelivered l)) (pending ls)

  -- a line in the place of that of its pair
  with_line_weight : (l : Line) (ls : List Line)
      → weight w (pending (with_line l ls)) + heft (line_of l.from l.into ls)
      ≡ weight w (pending ls) + heft l
  with_line_weight l [] = let one = line_in_front l [] in omega arith
  with_line_weight l (k ∷ ks) = go (is_between l.from l.into k.from k.into) (with_line_weight l ks)
    where
      go : (b : Bool)
          → weight w (pending (with_line l ks)) + heft (line_of l.from l.into ks)
          ≡ weight w (pending ks) + heft l
          → weight w (pending (cond b (l ∷ ks) (k ∷ with_line l ks)))
          + heft (cond b k (line_of l.from l.into ks)) ≡ weight w (pending (k ∷ ks)) + heft l
      go true ih =
          let one = line_in_front l ks in
          let two = line_in_front k ks in
          omega arith
      go false ih =
          let one = line_in_front k (with_line l ks) in
          let two = line_in_front k ks in
          omega arith

  -- a line of a pair in the place of the one before
  changed : (f t : ℕ) (l : Line) (ls : List Line) → l.from ≡ f → l.into ≡ t
      → weight w (pending (with_line l ls)) + heft (line_of f t ls) ≡ weight w (pending ls) + heft l
  changed f t l ls one two = subst (λ (n : ℕ). weight w (pending (with_line l ls))
      + heft (line_of n t ls) ≡ weight w (pending ls) + heft l) one
      (subst (λ (n : ℕ). weight w (pending (with_line l ls)) + heft (line_of l.from n ls)
      ≡ weight w (pending ls) + heft l) two (with_line_weight l ls))

  -- a packet of a line is one of its pair
  of_pair : (f t : ℕ) (x : List ℕ) (l : Line) → l.from ≡ f → l.into ≡ t
      → w (flight_from l.from l.into x) ≡ w (flight_from f t x)
  of_pair f t x l one two = ap (λ (n : ℕ). w (flight_from n l.into x)) one
      ∙ ap (λ (n : ℕ). w (flight_from f n x)) two

  sent_weight : (p : FlightFrom) (ls : List Line) → AreFine ls
      → weight w (pending (with_sent p ls)) ≡ weight w (pending ls) + w p
  sent_weight p ls fine =
      let l = line_of p.from p.flight.target ls in
      let is = pair_of p.from p.flight.target ls in
      let x = p.flight.bytes in
      let sum = changed p.from p.flight.target (sent_more l x) ls is.0 is.1 in
      let more : heft (sent_more l x) ≡ heft l + weight w (of_texts l.from l.into (x ∷ [])) =
      ap (λ (xs : List (List ℕ)). weight w (of_texts l.from l.into xs))
      (last_undelivered p ls fine) ∙ texts_append l.from l.into (undelivered l) (x ∷ []) in
      let one : w (flight_from l.from l.into x) ≡ w p =
      of_pair p.from p.flight.target x l is.0 is.1 in
      omega arith

  pub all_sent_weight : (ps : List FlightFrom) (ls : List Line) → AreFine ls
      → weight w (pending (all_sent ps ls)) ≡ weight w (pending ls) + weight w ps
  all_sent_weight [] ls fine = omega arith
  all_sent_weight (p ∷ ps) ls fine =
      let here = sent_weight p ls fine in
      let later = all_sent_weight ps (with_sent p ls) (sent_fine p ls fine) in
      omega arith

  pub handed_weight : (f t : ℕ) (x : List ℕ) (ls : List Line)
      → slice_get (line_of f t ls).history.sent (length (line_of f t ls).history.handed) ≡ Some x
      → weight w (pending (with_handed f t x ls)) + w (flight_from f t x) ≡ weight w (pending ls)
  handed_weight f t x ls at =
      let l = line_of f t ls in
      let is = pair_of f t ls in
      let new : Line = handed_more l x in
      let sum = changed f t new ls is.0 is.1 in
      let less : heft l ≡ w (flight_from l.from l.into x) + heft new =
      ap (λ (xs : List (List ℕ)). weight w (of_texts l.from l.into xs))
      (first_undelivered l x at) in
      let one = of_pair f t x l is.0 is.1 in
      omega arith

  pub acked_weight : (f t n : ℕ) (ls : List Line)
      → weight w (pending (with_acked f t n ls)) ≡ weight w (pending ls)
  acked_weight f t n ls =
      let l = line_of f t ls in
      let is = pair_of f t ls in
      let sum = changed f t (acked_more l n) ls is.0 is.1 in
      omega arith
