-- Fronts of queues that go.
use Rattle.std.proofs.Common.{◌≡◌, ℕ, zero, suc, ◌≤◌, List, [], ◌∷◌, length, Option, Some, None}
use Rattle.std.proofs.Common.{refl, sym, ap, ◌∙◌, subst, arith}
use Rattle.std.specs.Prelude.{slice_get, slice_set, slice_index_or, drop}
use Rattle.wire_packet.specs.MessageFacts.{MessageParts}
use Rattle.net_laws.specs.Site.{Group, Site, told_in}
use Rattle.net_laws.specs.Kept.{IsKept}
use Rattle.net_laws.specs.Changes.{Takes}
use Rattle.net_laws.proofs.Posting.{fronts_go}
use Rattle.site_shelves.specs.Held.{without_front, without_fronts, taken_in, taken_at}
use Rattle.site_shelves.specs.Counted.{over_waiting}
use Rattle.site_shelves.specs.inside.New.{gone_in, gone_at}
use Rattle.site_shelves.proofs.Counting.{front-sum}

pub set-get : {X : Type 0} (xs : List X) (j : ℕ) (x y : X) → slice_get xs j ≡ Some x
    → slice_get (slice_set xs j y) j ≡ Some y
set-get [] j x y is = cc
set-get (z ∷ xs) zero x y is = refl
set-get (z ∷ xs) (suc j) x y is = set-get xs j x y is

set-set : {X : Type 0} (xs : List X) (j : ℕ) (x y : X)
    → slice_set (slice_set xs j x) j y ≡ slice_set xs j y
set-set [] j x y = refl
set-set (z ∷ xs) zero x y = refl
set-set (z ∷ xs) (suc j) x y = ap (λ ys. z ∷ ys) (set-set xs j x y)

set-same : {X : Type 0} (xs : List X) (j : ℕ) (x : X) → slice_get xs j ≡ Some x
    → slice_set xs j x ≡ xs
set-same [] j x is = refl
set-same (z ∷ xs) zero x is = let same : z ≡ x = cc in ap (λ y. y ∷ xs) (sym same)
set-same (z ∷ xs) (suc j) x is = ap (λ ys. z ∷ ys) (set-same xs j x is)

-- no front is there
pub no-front : (qs : List (List MessageParts)) (c : ℕ) → slice_index_or qs c [] ≡ []
    → without_front qs c ≡ qs
no-front [] c none = refl
no-front (q ∷ qs) zero none = ap (λ (p : List MessageParts). drop 1 p ∷ qs) none
    ∙ ap (λ (p : List MessageParts). p ∷ qs) (sym none)
no-front (q ∷ qs) (suc c) none = ap (λ ps. q ∷ ps) (no-front qs c none)

pub past-front : (qs : List (List MessageParts)) (c : ℕ) → length qs ≤ c
    → slice_index_or qs c [] ≡ []
past-front [] c past = refl
past-front (q ∷ qs) zero past = absurd (omega arith)
past-front (q ∷ qs) (suc c) past = past-front qs c (omega arith)

-- ---- the groups, one front after another

pub gone-none : (gs : List Group) (j : ℕ) (cs : List ℕ) → slice_get gs j ≡ None
    → gone_at j cs gs ≡ gs
gone-none gs j cs none = ap (λ o. gone_in o j cs gs) none

pub gone-past : (gs : List Group) (j : ℕ) → length gs ≤ j → slice_get gs j ≡ None
gone-past [] j past = refl
gone-past (g ∷ gs) zero past = absurd (omega arith)
gone-past (g ∷ gs) (suc j) past = gone-past gs j (omega arith)

pub gone-nothing : (gs : List Group) (j : ℕ) → gone_at j [] gs ≡ gs
gone-nothing gs j = go (slice_get gs j) refl
  where
    go : (o : Option Group) → slice_get gs j ≡ o → gone_in o j [] gs ≡ gs
    go None is = refl
    go (Some g) is = set-same gs j g is

-- a queue that is empty
pub gone-empty : (gs : List Group) (j c : ℕ) (g : Group) → slice_get gs j ≡ Some g
    → slice_index_or g.queues c [] ≡ [] → gone_at j (c ∷ []) gs ≡ gs
gone-empty gs j c g is none = ap (λ o. gone_in o j (c ∷ []) gs) is
    ∙ ap (λ qs. slice_set gs j (record g { queues = qs })) (no-front g.queues c none)
    ∙ set-same gs j g is

pub gone-one : (gs : List Group) (j c : ℕ) (g : Group) → slice_get gs j ≡ Some g
    → gone_at j (c ∷ []) gs ≡ slice_set gs j (record g { queues = without_front g.queues c })
gone-one gs j c g is = ap (λ o. gone_in o j (c ∷ []) gs) is

pub gone-more : (gs : List Group) (j c : ℕ) (cs : List ℕ)
    → gone_at j (c ∷ cs) gs ≡ gone_at j cs (gone_at j (c ∷ []) gs)
gone-more gs j c cs = go (slice_get gs j) refl
  where
    go : (o : Option Group) → slice_get gs j ≡ o
        → gone_in o j (c ∷ cs) gs ≡ gone_at j cs (gone_in o j (c ∷ []) gs)
    go None is = sym (gone-none gs j cs is)
    go (Some g) is =
        let h : Group = record g { queues = without_front g.queues c } in
        sym (ap (λ o. gone_in o j cs (slice_set gs j h)) (set-get gs j g h is)
        ∙ set-set gs j h (record h { queues = without_fronts h.queues cs }))

-- ---- the site

pub taken-is : (j : ℕ) (cs : List ℕ) (s : Site)
    → taken_at j cs s ≡ record s { groups = gone_at j cs s.groups }
taken-is j cs s = go (slice_get s.groups j)
  where
    go : (o : Option Group) → taken_in o j cs s ≡ record s { groups = gone_in o j cs s.groups }
    go None = refl
    go (Some g) = refl

pub taken-nothing : (j : ℕ) (s : Site) → taken_at j [] s ≡ s
taken-nothing j s =
    taken-is j [] s ∙ ap (λ (gs : List Group). record s { groups = gs }) (gone-nothing s.groups j)

-- the site without the fronts keeps what it kept, tells the same of its groups, and holds no more
pub record AreGone (s : Site) (gs : List Group) : Type 0 where
  pub kept : IsKept (record s { groups = gs })
  pub told : told_in gs ≡ told_in s.groups
  pub less : (f : MessageParts → ℕ) → over_waiting f (record s { groups = gs }) ≤ over_waiting f s

one-gone : (s : Site) (j c : ℕ) (g : Group) → IsKept s → slice_get s.groups j ≡ Some g
    → AreGone s (slice_set s.groups j (record g { queues = without_front g.queues c }))
one-gone s j c g kept is = go (slice_index_or g.queues c []) refl
  where
    there : (qs : List (List MessageParts)) (k : ℕ) (m : MessageParts) (rest : List MessageParts)
        → slice_index_or qs k [] ≡ m ∷ rest → slice_get qs k ≡ Some (m ∷ rest)
    there [] k m rest e = cc
    there (q ∷ qs) zero m rest e = ap Some e
    there (q ∷ qs) (suc k) m rest e = there qs k m rest e

    go : (q : List MessageParts) → slice_index_or g.queues c [] ≡ q
        → AreGone s (slice_set s.groups j (record g { queues = without_front g.queues c }))
    go [] none =
        let same : slice_set s.groups j (record g { queues = without_front g.queues c })
        ≡ s.groups =
        ap (λ qs. slice_set s.groups j (record g { queues = qs })) (no-front g.queues c none)
        ∙ set-same s.groups j g is in
        record {
          kept = subst (λ (gs : List Group). IsKept (record s { groups = gs })) (sym same) kept;
          told = ap told_in same;
          less = λ f. front-sum f s j c g is;
        }
    go (m ∷ rest) some =
        let front : without_front g.queues c ≡ slice_set g.queues c rest =
        ap (λ (q : List MessageParts). slice_set g.queues c (drop 1 q)) some in
        let takes : Takes g.queues (c ∷ []) (m ∷ []) (without_front g.queues c) =
        (rest, there g.queues c m rest some, sym front) in
        let gone = fronts_go s j g (c ∷ []) (m ∷ []) (without_front g.queues c) kept is takes in
        record { kept = gone.kept; told = gone.told; less = λ f. front-sum f s j c g is }

pub are-gone : (s : Site) (j : ℕ) (cs : List ℕ) → IsKept s → AreGone s (gone_at j cs s.groups)
are-gone s j [] kept =
    let same = gone-nothing s.groups j in
    record {
      kept = subst (λ (gs : List Group). IsKept (record s { groups = gs })) (sym same) kept;
      told = ap told_in same;
      less = λ f.
          omega (arith, ap (λ (gs : List Group). over_waiting f (record s { groups = gs })) same);
    }
are-gone s j (c ∷ cs) kept = go (slice_get s.groups j) refl (λ t k. are-gone t j cs k)
  where
    go : (o : Option Group) → slice_get s.groups j ≡ o
        → ((t : Site) → IsKept t → AreGone t (gone_at j cs t.groups))
        → AreGone s (gone_at j (c ∷ cs) s.groups)
    go None is rest =
        let same = gone-none s.groups j (c ∷ cs) is in
        record {
          kept = subst (λ (gs : List Group). IsKept (record s { groups = gs })) (sym same) kept;
          told = ap told_in same;
          less = λ f. omega
              (arith, ap (λ (gs : List Group). over_waiting f (record s { groups = gs })) same);
        }
    go (Some g) is rest =
        let first = one-gone s j c g kept is in
        let gs = slice_set s.groups j (record g { queues = without_front g.queues c }) in
        let later = rest (record s { groups = gs }) first.kept in
        let is_all : gone_at j (c ∷ cs) s.groups ≡ gone_at j cs gs =
        gone-more s.groups j c cs ∙ ap (gone_at j cs) (gone-one s.groups j c g is) in
        subst (AreGone s) (sym is_all) (record {
          kept = later.kept;
          told = later.told ∙ first.told;
          less = λ f. omega (arith, later.less f, first.less f);
        })
