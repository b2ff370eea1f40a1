-- Lines of pairs: what is read after a change, and what a change keeps.
use Rattle.std.proofs.Common.{◌≡◌, ℕ, zero, suc, ◌+◌, ◌<◌, ◌≤◌, List, [], ◌∷◌, ◌++◌, Bool, true}
use Rattle.std.proofs.Common.{false}
use Rattle.std.proofs.Common.{cond, length, take, drop, Some, slice_get, refl, sym, ap, subst, ◌∙◌}
use Rattle.std.proofs.Common.{arith}
use Rattle.std.specs.Prelude.{◌==◌}
use Rattle.std.proofs.lemmas.Bool.{eqb-true, eq-eqb, and_parts, cond-true}
use Rattle.std.proofs.lemmas.List.{length-append, take-append-le, append_assoc, append-nil}
use Rattle.std.proofs.lemmas.List.{drop_more, take_more}
use Rattle.std.proofs.lemmas.Option.{same_Some, slice_get_within, get_or_from_slice_get}
use Rattle.chem_model.specs.Each.{Each}
use Rattle.chem_laws.proofs.Lists.{Each-weaker}
use Rattle.net_core.specs.Parts.{without}
use Rattle.net_core.specs.declared.drained.FlightFrom.{FlightFrom}
use Rattle.lossy_link.specs.declared.frame.Frame.{Frame}
use Rattle.lossy_link.specs.declared.frame.Frame.TheVariants.{Data, Ack}
use Rattle.lossy_link.specs.declared.line.Line.{Line}
use Rattle.lossy_link.specs.Lines.{is_between, no_line, line_of, with_line, with_sent, all_sent}
use Rattle.lossy_link.specs.Lines.{with_handed, with_acked, sent_more, handed_more, acked_more}
use Rattle.lossy_link.specs.Lines.{IsFine, AreFine}
use Rattle.lossy_link.specs.Links.{IsTrueOf}

pub between : (f t g u : ℕ) → is_between f t g u ≡ true → (f ≡ g) × (t ≡ u)
between f t g u e =
    let parts = and_parts (f == g) (t == u) e in
    (eqb-true f g parts.0, eqb-true t u parts.1)

pub same_pair : (f t : ℕ) → is_between f t f t ≡ true
same_pair f t = rw (eq-eqb f f refl, eq-eqb t t refl) refl

-- the line of a pair is one of that pair
pub pair_of : (f t : ℕ) (ls : List Line) → ((line_of f t ls).from ≡ f) × ((line_of f t ls).into ≡ t)
pair_of f t [] = (refl, refl)
pair_of f t (l ∷ ls) = go (is_between f t l.from l.into) refl (pair_of f t ls)
  where
    go : (b : Bool) → is_between f t l.from l.into ≡ b
        → ((line_of f t ls).from ≡ f) × ((line_of f t ls).into ≡ t)
        → ((cond b l (line_of f t ls)).from ≡ f) × ((cond b l (line_of f t ls)).into ≡ t)
    go true e rest = let p = between f t l.from l.into e in (sym p.0, sym p.1)
    go false e rest = rest

-- a line that was set is read, and those of other pairs are as before
pub line_with : (f t : ℕ) (l : Line) (ls : List Line)
    → line_of f t (with_line l ls) ≡ cond (is_between f t l.from l.into) l (line_of f t ls)
line_with f t l [] = refl
line_with f t l (k ∷ ks) = go (is_between l.from l.into k.from k.into) refl (line_with f t l ks)
  where
    other : (b : Bool) → is_between f t l.from l.into ≡ b → l.from ≡ k.from → l.into ≡ k.into
        → cond b l (line_of f t ks)
        ≡ cond b l (cond (is_between f t k.from k.into) k (line_of f t ks))
    other true e p q = refl
    other false e p q =
        let same : is_between f t k.from k.into ≡ false =
        ap (λ (n : ℕ). is_between f t n k.into) (sym p)
        ∙ ap (λ (n : ℕ). is_between f t l.from n) (sym q) ∙ e in
        rw same refl

    past : (b c : Bool) → is_between f t l.from l.into ≡ b → is_between f t k.from k.into ≡ c
        → is_between l.from l.into k.from k.into ≡ false
        → cond c k (cond b l (line_of f t ks)) ≡ cond b l (cond c k (line_of f t ks))
    past true true e h n =
        let p = between f t l.from l.into e in
        let same : is_between l.from l.into k.from k.into ≡ true =
        ap (λ (m : ℕ). is_between m l.into k.from k.into) (sym p.0)
        ∙ ap (λ (m : ℕ). is_between f m k.from k.into) (sym p.1) ∙ h in
        let bad : false ≡ true = sym n ∙ same in
        cc
    past true false e h n = refl
    past false c e h n = refl

    go : (b : Bool) → is_between l.from l.into k.from k.into ≡ b
        → line_of f t (with_line l ks) ≡ cond (is_between f t l.from l.into) l (line_of f t ks)
        → line_of f t (cond b (l ∷ ks) (k ∷ with_line l ks))
        ≡ cond (is_between f t l.from l.into) l
        (cond (is_between f t k.from k.into) k (line_of f t ks))
    go true e rest =
        let p = between l.from l.into k.from k.into e in
        other (is_between f t l.from l.into) refl p.0 p.1
    go false e rest =
        rw rest (past (is_between f t l.from l.into) (is_between f t k.from k.into) refl refl e)

pub line_same : (l : Line) (ls : List Line) → line_of l.from l.into (with_line l ls) ≡ l
line_same l ls =
    line_with l.from l.into l ls
    ∙ cond-true (is_between l.from l.into l.from l.into) l (line_of l.from l.into ls)
    (same_pair l.from l.into)

-- what holds of a line that is set, and of all others before, holds of each
pub each_line : (P : ℕ → ℕ → Line → Type 0) (g u : ℕ) (l : Line) (ls : List Line) → l.from ≡ g
    → l.into ≡ u → P g u l → ((f t : ℕ) → P f t (line_of f t ls))
    → (f t : ℕ) → P f t (line_of f t (with_line l ls))
each_line P g u l ls from into here others f t =
    subst (P f t) (sym (line_with f t l ls)) (go (is_between f t l.from l.into) refl)
  where
    go : (b : Bool) → is_between f t l.from l.into ≡ b → P f t (cond b l (line_of f t ls))
    go true e =
        let p = between f t l.from l.into e in
        let one : g ≡ f = sym from ∙ sym p.0 in
        let two : u ≡ t = sym into ∙ sym p.1 in
        subst (λ (m : ℕ). P m t l) one (subst (λ (m : ℕ). P g m l) two here)
    go false e = others f t

-- ---- lists

pub get_append : {X : Type 0} (xs ys : List X) (n : ℕ) (x : X) → slice_get xs n ≡ Some x
    → slice_get (xs ++ ys) n ≡ Some x
get_append [] ys n x e = cc
get_append (y ∷ xs) ys zero x e = e
get_append (y ∷ xs) ys (suc n) x e = get_append xs ys n x e

pub drop_get : {X : Type 0} (xs : List X) (n : ℕ) (x : X) → slice_get xs n ≡ Some x
    → drop n xs ≡ x ∷ drop (n + 1) xs
drop_get {X = X} xs n x e =
    drop_more xs n x (slice_get_within xs n x e)
    ∙ ap (λ (y : X). y ∷ drop (n + 1) xs) (get_or_from_slice_get xs n x x e)

pub take_get : {X : Type 0} (xs : List X) (n : ℕ) (x : X) → slice_get xs n ≡ Some x
    → take (n + 1) xs ≡ take n xs ++ x ∷ []
take_get {X = X} xs n x e =
    take_more xs n x (slice_get_within xs n x e)
    ∙ ap (λ (y : X). take n xs ++ y ∷ []) (get_or_from_slice_get xs n x x e)

pub each_more : {X : Type 0} (P : X → Type 0) (xs : List X) (x : X) → Each P xs → P x
    → Each P (xs ++ x ∷ [])
each_more P [] x all one = (one, tt)
each_more P (y ∷ xs) x all one = (all.0, each_more P xs x all.1 one)

pub each_without : {X : Type 0} (P : X → Type 0) (n : ℕ) (xs : List X) → Each P xs
    → Each P (without n xs)
each_without P n [] all = tt
each_without P zero (x ∷ xs) all = all.1
each_without P (suc n) (x ∷ xs) all = (all.0, each_without P n xs all.1)

pub each_at : {X : Type 0} (P : X → Type 0) (xs : List X) (n : ℕ) (x : X) → Each P xs
    → slice_get xs n ≡ Some x → P x
each_at P [] n x all e = cc
each_at P (y ∷ xs) zero x all e = subst P (same_Some y x e) all.0
each_at P (y ∷ xs) (suc n) x all e = each_at P xs n x all.1 e

-- ---- what a line keeps

-- what was sent of a pair, and what was handed out, only grows, and so does what is acknowledged
pub record Grows (old new : Line) : Type 0 where
  pub sent : (more : List (List ℕ)) × (new.history.sent ≡ old.history.sent ++ more)
  pub handed : (more : List (List ℕ)) × (new.history.handed ≡ old.history.handed ++ more)
  pub acked : old.acked ≤ new.acked

abbrev pub AllGrow : List Line → List Line → Type 0
AllGrow old new = (f t : ℕ) → Grows (line_of f t old) (line_of f t new)

pub grows_same : (l : Line) → Grows l l
grows_same l = record {
  sent = ([], sym (append-nil l.history.sent));
  handed = ([], sym (append-nil l.history.handed));
  acked = omega arith;
}

grows_on : (a b c : Line) → Grows a b → Grows b c → Grows a c
grows_on a b c g h = record {
  sent = (
    g.sent.0 ++ h.sent.0,
    h.sent.1 ∙ ap (λ (xs : List (List ℕ)). xs ++ h.sent.0) g.sent.1
        ∙ append_assoc a.history.sent g.sent.0 h.sent.0,
  );
  handed = (
    g.handed.0 ++ h.handed.0,
    h.handed.1 ∙ ap (λ (xs : List (List ℕ)). xs ++ h.handed.0) g.handed.1
        ∙ append_assoc a.history.handed g.handed.0 h.handed.0,
  );
  acked = let one = g.acked in let two = h.acked in omega arith;
}

pub all_grow_on : (a b c : List Line) → AllGrow a b → AllGrow b c → AllGrow a c
all_grow_on a b c g h = λ f t.
    grows_on (line_of f t a) (line_of f t b) (line_of f t c) (g f t) (h f t)

fine_sent : (l : Line) (x : List ℕ) → IsFine l → IsFine (sent_more l x)
fine_sent l x h = record {
  front =
      h.front
      ∙ sym (take-append-le (length l.history.handed) l.history.sent (x ∷ []) h.within);
  within =
      let some : length (l.history.sent ++ x ∷ []) ≡ length l.history.sent + length (x ∷ []) =
      length-append l.history.sent (x ∷ []) in
      let w = h.within in
      omega arith;
  acked = h.acked;
}

fine_handed : (l : Line) (x : List ℕ) → IsFine l
    → slice_get l.history.sent (length l.history.handed) ≡ Some x → IsFine (handed_more l x)
fine_handed l x h e =
    let one : length (l.history.handed ++ x ∷ []) ≡ length l.history.handed + 1 =
    length-append l.history.handed (x ∷ []) in
    let below : length l.history.handed < length l.history.sent =
    slice_get_within l.history.sent (length l.history.handed) x e in
    record {
      front =
          ap (λ (xs : List (List ℕ)). xs ++ x ∷ []) h.front
          ∙ sym (take_get l.history.sent (length l.history.handed) x e)
          ∙ ap (λ (n : ℕ). take n l.history.sent) (sym one);
      within = omega arith;
      acked = let a = h.acked in omega arith;
    }

fine_acked : (l : Line) (n : ℕ) → IsFine l → n ≤ length l.history.handed → IsFine (acked_more l n)
fine_acked l n h e = record {
  front = h.front;
  within = h.within;
  acked = let a = h.acked in omega arith;
}

pub no_line_fine : (f t : ℕ) → IsFine (no_line f t)
no_line_fine f t = record { front = refl; within = omega arith; acked = omega arith }

-- ---- what the lines keep

-- a packet gets its number
pub sent_fine : (p : FlightFrom) (ls : List Line) → AreFine ls → AreFine (with_sent p ls)
sent_fine p ls all =
    let l = line_of p.from p.flight.target ls in
    let is = pair_of p.from p.flight.target ls in
    each_line (λ f t k. IsFine k) p.from p.flight.target (sent_more l p.flight.bytes) ls is.0 is.1
    (fine_sent l p.flight.bytes (all p.from p.flight.target)) all

sent_grows : (p : FlightFrom) (ls : List Line) → AllGrow ls (with_sent p ls)
sent_grows p ls =
    let l = line_of p.from p.flight.target ls in
    let is = pair_of p.from p.flight.target ls in
    each_line (λ f t k. Grows (line_of f t ls) k) p.from p.flight.target
    (sent_more l p.flight.bytes) ls is.0 is.1
    (record {
      sent = (p.flight.bytes ∷ [], refl);
      handed = ([], sym (append-nil l.history.handed));
      acked = omega arith;
    }) (λ f t. grows_same (line_of f t ls))

pub all_sent_fine : (ps : List FlightFrom) (ls : List Line) → AreFine ls → AreFine (all_sent ps ls)
all_sent_fine [] ls all = all
all_sent_fine (p ∷ ps) ls all = all_sent_fine ps (with_sent p ls) (sent_fine p ls all)

pub all_sent_grows : (ps : List FlightFrom) (ls : List Line) → AllGrow ls (all_sent ps ls)
all_sent_grows [] ls = λ f t. grows_same (line_of f t ls)
all_sent_grows (p ∷ ps) ls =
    all_grow_on ls (with_sent p ls) (all_sent ps (with_sent p ls)) (sent_grows p ls)
    (all_sent_grows ps (with_sent p ls))

-- a packet is handed out
pub handed_fine : (g u : ℕ) (x : List ℕ) (ls : List Line) → AreFine ls
    → slice_get (line_of g u ls).history.sent (length (line_of g u ls).history.handed) ≡ Some x
    → AreFine (with_handed g u x ls)
handed_fine g u x ls all e =
    let l = line_of g u ls in
    let is = pair_of g u ls in
    each_line (λ f t k. IsFine k) g u (handed_more l x) ls is.0 is.1 (fine_handed l x (all g u) e)
    all

pub handed_grows : (g u : ℕ) (x : List ℕ) (ls : List Line) → AllGrow ls (with_handed g u x ls)
handed_grows g u x ls =
    let l = line_of g u ls in
    let is = pair_of g u ls in
    each_line (λ f t k. Grows (line_of f t ls) k) g u (handed_more l x) ls is.0 is.1
    (record {
      sent = ([], sym (append-nil l.history.sent));
      handed = (x ∷ [], refl);
      acked = omega arith;
    }) (λ f t. grows_same (line_of f t ls))

-- a number is acknowledged
pub acked_fine : (g u n : ℕ) (ls : List Line) → AreFine ls
    → n ≤ length (line_of g u ls).history.handed → AreFine (with_acked g u n ls)
acked_fine g u n ls all e =
    let l = line_of g u ls in
    let is = pair_of g u ls in
    each_line (λ f t k. IsFine k) g u (acked_more l n) ls is.0 is.1 (fine_acked l n (all g u) e) all

pub acked_grows : (g u n : ℕ) (ls : List Line) → AllGrow ls (with_acked g u n ls)
acked_grows g u n ls =
    let l = line_of g u ls in
    let is = pair_of g u ls in
    each_line (λ f t k. Grows (line_of f t ls) k) g u (acked_more l n) ls is.0 is.1
    (record {
      sent = ([], sym (append-nil l.history.sent));
      handed = ([], sym (append-nil l.history.handed));
      acked = omega arith;
    }) (λ f t. grows_same (line_of f t ls))

-- ---- of each line

module _ (P : Line → Type 0) where
  pub each_with : (l : Line) (ls : List Line) → P l → Each P ls → Each P (with_line l ls)
  each_with l [] one all = (one, tt)
  each_with l (k ∷ ks) one all =
      go (is_between l.from l.into k.from k.into) (each_with l ks one all.1)
    where
      go : (b : Bool) → Each P (with_line l ks) → Each P (cond b (l ∷ ks) (k ∷ with_line l ks))
      go true rest = (one, all.1)
      go false rest = (all.0, rest)

  pub line_has : (f t : ℕ) (ls : List Line) → P (no_line f t) → Each P ls → P (line_of f t ls)
  line_has f t [] none all = none
  line_has f t (l ∷ ls) none all = go (is_between f t l.from l.into) (line_has f t ls none all.1)
    where
      go : (b : Bool) → P (line_of f t ls) → P (cond b l (line_of f t ls))
      go true rest = all.0
      go false rest = rest

-- ---- what is on the wire

-- what a frame says stays so
pub true_on : (old new : List Line) (x : Frame) → AllGrow old new → IsTrueOf old x → IsTrueOf new x
true_on old new (Data f t n bytes) g h =
    let more = (g f t).sent in
    ap (λ (xs : List (List ℕ)). slice_get xs n) more.1
    ∙ get_append (line_of f t old).history.sent more.0 n bytes h
true_on old new (Ack f t n) g h =
    let more = (g f t).handed in
    let other = (g f t).sent in
    let many : length (line_of f t new).history.handed
    ≡ length (line_of f t old).history.handed + length more.0 =
    ap (λ (xs : List (List ℕ)). length xs) more.1
    ∙ length-append (line_of f t old).history.handed more.0 in
    let some : length (line_of f t new).history.sent
    ≡ length (line_of f t old).history.sent + length other.0 =
    ap (λ (xs : List (List ℕ)). length xs) other.1
    ∙ length-append (line_of f t old).history.sent other.0 in
    let one = h.0 in
    let two = h.1 in
    (omega arith, omega arith)

pub wire_on : (old new : List Line) (wire : List Frame) → AllGrow old new
    → Each (IsTrueOf old) wire → Each (IsTrueOf new) wire
wire_on old new wire g all =
    Each-weaker (IsTrueOf old) (IsTrueOf new) (λ x h. true_on old new x g h) wire all

-- after a packet was handed out
pub handed_length : (g u : ℕ) (x : List ℕ) (ls : List Line)
    → length (line_of g u (with_handed g u x ls)).history.handed
    ≡ length (line_of g u ls).history.handed + 1
handed_length g u x ls =
    let l = line_of g u ls in
    let is = pair_of g u ls in
    let new : Line = handed_more l x in
    let here : line_of g u (with_line new ls) ≡ new =
    ap (λ (n : ℕ). line_of n u (with_line new ls)) (sym is.0)
    ∙ ap (λ (n : ℕ). line_of l.from n (with_line new ls)) (sym is.1) ∙ line_same new ls in
    ap (λ (k : Line). length k.history.handed) here ∙ length-append l.history.handed (x ∷ [])

pub without_is : {X : Type 0} (n : ℕ) (xs : List X) → without n xs ≡ take n xs ++ drop (suc n) xs
without_is zero [] = refl
without_is (suc n) [] = refl
without_is zero (x ∷ xs) = refl
without_is (suc n) (x ∷ xs) = ap (λ zs. x ∷ zs) (without_is n xs)
