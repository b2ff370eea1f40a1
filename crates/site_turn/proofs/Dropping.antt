-- Fronts of queues that are dropped one after another.
use Rattle.std.proofs.Common.{◌≡◌, ℕ, zero, suc, ◌+◌, ◌<◌, ◌≤◌, List, [], ◌∷◌, length, get_or, drop}
use Rattle.std.proofs.Common.{Option, Some, None, true, false, Bor, refl, sym, ap, ◌∙◌, subst}
use Rattle.std.proofs.Common.{arith}
use Rattle.std.specs.Prelude.{slice_get, slice_set, slice_index_or, is_some, option_copied}
use Rattle.chem_model.specs.Each.{Each}
use Rattle.wire_packet.specs.MessageFacts.{MessageParts}
use Rattle.net_laws.specs.Site.{Group, Site}
use Rattle.site_solution.specs.Held.{queues_in, queues_of, queue_of, without_front, taken_in}
use Rattle.site_solution.specs.Held.{taken_at}
use Rattle.site_solution.specs.inside.New.{gone_at}
use Rattle.site_solution.proofs.Fronts.{gone-empty, gone-more, taken-is, taken-nothing}

group_at : (gs : List Group) (j : ℕ) → j < length gs → (g : Group) × (slice_get gs j ≡ Some g)
group_at [] j h = absurd (omega arith)
group_at (g ∷ gs) zero h = (g, refl)
group_at (g ∷ gs) (suc j) h = group_at gs j (omega arith)

first_some : (q : List MessageParts) → is_some (slice_get q 0) ≡ true → 0 < length q
first_some [] e = cc
first_some (m ∷ q) e = omega arith

first_none : (q : List MessageParts) → slice_get q 0 ≡ None → q ≡ []
first_none [] e = refl
first_none (m ∷ q) e = cc

pub some_front : (q : List MessageParts) (o : Option MessageParts) → o ≡ slice_get q 0
    → is_some o ≡ true → 0 < length q
some_front q o e some = first_some q (ap is_some (sym e) ∙ some)

none_is : (o : Option MessageParts) → is_some o ≡ false → o ≡ None
none_is None e = refl
none_is (Some m) e = cc

-- a borrowed front
pub copied_some : {X : Type 0} (r : Option (Bor X)) → is_some r ≡ true
    → is_some (option_copied r) ≡ true
copied_some None e = cc
copied_some (Some b) e = refl

pub copied_none : {X : Type 0} (r : Option (Bor X)) → is_some r ≡ false
    → is_some (option_copied r) ≡ false
copied_none None e = refl
copied_none (Some b) e = cc

module _ (s : Site) (j c : ℕ) where
  pub nothing_dropped : (o : Option MessageParts) → j < length s.groups
      → o ≡ slice_get (queue_of s.groups j c) 0 → is_some o ≡ false → s ≡ taken_at j (c ∷ []) s
  nothing_dropped o below e none =
      let at = group_at s.groups j below in
      let empty : queue_of s.groups j c ≡ [] =
      first_none (queue_of s.groups j c) (sym e ∙ none_is o none) in
      let own : slice_index_or at.0.queues c [] ≡ [] =
      ap (λ (p : Option Group). slice_index_or (queues_in p) c []) (sym at.1) ∙ empty in
      sym (taken-is j (c ∷ []) s
      ∙ ap (λ (gs : List Group). record s { groups = gs }) (gone-empty s.groups j c at.0 at.1 own))

-- ---- one after another

taken_more : (j c : ℕ) (cs : List ℕ) (s : Site)
    → taken_at j (c ∷ cs) s ≡ taken_at j cs (taken_at j (c ∷ []) s)
taken_more j c cs s =
    let first = taken-is j (c ∷ []) s in
    taken-is j (c ∷ cs) s
    ∙ ap (λ (gs : List Group). record s { groups = gs }) (gone-more s.groups j c cs)
    ∙ sym (taken-is j cs (record s { groups = gone_at j (c ∷ []) s.groups }))
    ∙ ap (taken_at j cs) (sym first)

set_long : {X : Type 0} (xs : List X) (j : ℕ) (x : X) → length (slice_set xs j x) ≡ length xs
set_long [] j x = refl
set_long (y ∷ ys) zero x = refl
set_long (y ∷ ys) (suc j) x = ap suc (set_long ys j x)

set_there : {X : Type 0} (xs : List X) (j : ℕ) (x y : X) → slice_get xs j ≡ Some x
    → slice_get (slice_set xs j y) j ≡ Some y
set_there [] j x y e = cc
set_there (z ∷ xs) zero x y e = refl
set_there (z ∷ xs) (suc j) x y e = set_there xs j x y e

pub record IsAsLong (j : ℕ) (s new : Site) : Type 0 where
  pub groups : length new.groups ≡ length s.groups
  pub queues : length (queues_of new.groups j) ≡ length (queues_of s.groups j)

one_long : (j c : ℕ) (s : Site) (o : Option Group) → slice_get s.groups j ≡ o
    → IsAsLong j s (taken_in o j (c ∷ []) s)
one_long j c s None e = record { groups = refl; queues = refl }
one_long j c s (Some g) e =
    let h : Group = record g { queues = without_front g.queues c } in
    let here : queues_of (slice_set s.groups j h) j ≡ h.queues =
    ap queues_in (set_there s.groups j g h e) in
    let was : queues_of s.groups j ≡ g.queues = ap queues_in e in
    record {
      groups = set_long s.groups j h;
      queues = ap length here ∙ set_long g.queues c (drop 1 (slice_index_or g.queues c []))
          ∙ ap length (sym was);
    }

-- fronts of the first channels went
pub record IsDropping (j : ℕ) (cs rest : List ℕ) (s now : Site) : Type 0 where
  pub whole : taken_at j rest now ≡ taken_at j cs s
  pub group : j < length now.groups
  pub chans : Each (λ c. c < length (queues_of now.groups j)) rest

drop_head : {X : Type 0} (xs : List X) (i : ℕ) (d : X) → i < length xs
    → drop i xs ≡ get_or xs i d ∷ drop (i + 1) xs
drop_head [] i d h = absurd (omega arith)
drop_head (x ∷ xs) zero d h = refl
drop_head (x ∷ xs) (suc i) d h =
    let place : suc (i + 1) ≡ suc i + 1 = omega arith in
    drop_head xs i d (omega arith) ∙ ap (λ k. get_or xs i d ∷ drop k (x ∷ xs)) place

pub dropping_first : (j : ℕ) (cs : List ℕ) (s : Site) → j < length s.groups
    → Each (λ c. c < length (queues_of s.groups j)) cs → IsDropping j cs cs s s
dropping_first j cs s below chans = record { whole = refl; group = below; chans = chans }

module _ (j : ℕ) (cs : List ℕ) (i : ℕ) (s now : Site) (c : ℕ) (within : i < length cs)
    (is : c ≡ get_or cs i 0) (h : IsDropping j cs (drop i cs) s now) where
  rest_is : drop i cs ≡ c ∷ drop (i + 1) cs
  rest_is = drop_head cs i 0 within ∙ ap (λ k. k ∷ drop (i + 1) cs) (sym is)

  pub dropping_chan : c < length (queues_of now.groups j)
  dropping_chan = (subst (Each (λ k. k < length (queues_of now.groups j))) rest_is h.chans).0

  pub dropping_next : (new : Site) → new ≡ taken_at j (c ∷ []) now
      → IsDropping j cs (drop (i + 1) cs) s new
  dropping_next new e =
      let long : IsAsLong j now new =
      subst (IsAsLong j now) (sym e) (one_long j c now (slice_get now.groups j) refl) in
      let chans = (subst (Each (λ k. k < length (queues_of now.groups j))) rest_is h.chans).1 in
      record {
        whole = ap (taken_at j (drop (i + 1) cs)) e ∙ sym (taken_more j c (drop (i + 1) cs) now)
            ∙ ap (λ ks. taken_at j ks now) (sym rest_is) ∙ h.whole;
        group = omega (arith, h.group, long.groups);
        chans = subst (λ n. Each (λ k. k < n) (drop (i + 1) cs)) (sym long.queues) chans;
      }

drop_past : {X : Type 0} (xs : List X) (i : ℕ) → length xs ≤ i → drop i xs ≡ []
drop_past [] zero h = refl
drop_past [] (suc i) h = refl
drop_past (x ∷ xs) zero h = absurd (omega arith)
drop_past (x ∷ xs) (suc i) h = drop_past xs i (omega arith)

pub dropped_all : (j : ℕ) (cs : List ℕ) (i : ℕ) (s now : Site) → length cs ≤ i
    → IsDropping j cs (drop i cs) s now → now ≡ taken_at j cs s
dropped_all j cs i s now past h =
    sym (taken-nothing j now) ∙ ap (λ ks. taken_at j ks now) (sym (drop_past cs i past)) ∙ h.whole
