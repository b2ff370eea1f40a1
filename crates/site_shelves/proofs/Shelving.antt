-- What shelves keep.
use Rattle.std.proofs.Common.{◌≡◌, ℕ, zero, suc, ◌+◌, ◌≤◌, ◌<◌, ◌^◌, Bool, true, false, cond, List}
use Rattle.std.proofs.Common.{[], ◌∷◌, ◌++◌, length, drop, Option, Some, None, Result, Ok, Err, refl}
use Rattle.std.proofs.Common.{sym, ap, subst, ◌∙◌, arith}
use Rattle.std.specs.Prelude.{slice_get, slice_set, not, filter, OnOk, OnErr}
use Rattle.chem_model.specs.declared.name.Loc.{Loc}
use Rattle.chem_model.specs.Solution.{same_loc}
use Rattle.chem_model.specs.Each.{Each}
use Rattle.wire_packet.specs.MessageFacts.{MessageParts}
use Rattle.wire_packet.specs.GroupFacts.{GroupParts}
use Rattle.wire_packet.specs.declared.packet.Waiting.{Waiting}
use Rattle.net_laws.specs.Site.{Told, Group, Site, told_in}
use Rattle.net_laws.specs.Changes.{AreQueues, IsQueued}
use Rattle.net_laws.specs.Holding.{queued_up, in_groups, or_later, put_in, put, put_all}
use Rattle.net_laws.specs.Parcels.{groups_but, stuck_but}
use Rattle.net_laws.proofs.Holding.{AreAllQueues}
use Rattle.net_laws.proofs.Holds.{each_get}
use Rattle.net_laws.proofs.Posting.{each_set}
use Rattle.site_shelves.specs.CanLay.{HasNumbers}
use Rattle.site_shelves.specs.Held.{without_front, without_fronts}
use Rattle.site_shelves.specs.declared.told.Spots.{Spots}
use Rattle.site_shelves.specs.declared.shelves.Shelves.TheInside.{Inside}
use Rattle.site_shelves.specs.inside.Index.{Rows, groups_of, told_of, new_groups, IsIndex}
use Rattle.site_shelves.specs.inside.Lying.{AreKept}
use Rattle.site_shelves.specs.inside.Covered.{Keys}
use Rattle.site_shelves.specs.inside.Begun.{IsBegun}
use Rattle.site_shelves.specs.inside.New.{gone_in, gone_at}
use Rattle.site_shelves.proofs.Queueing.{index-same}
use Rattle.site_shelves.proofs.Putting.{told-many}

-- what holds before and after holds of what comes out
pub either : {A E X : Type 0} (P : X → Type 0) (r : Result A E) (old done new : X)
    → OnOk r (new ≡ done) → OnErr r (new ≡ old) → P old → P done → P new
either P (Ok a) old done new ok err before after = subst P (sym ok) after
either P (Err e) old done new ok err before after = subst P (sym err) before

-- where it succeeds, what comes out is, for each y, a function of what was done
pub on-each : {A E X Y Z : Type 0} (f : Y → X → Z) (g : Y → Z) (r : Result A E) (done new : X)
    → OnOk r (new ≡ done) → ((y : Y) → g y ≡ f y done) → OnOk r ((y : Y) → g y ≡ f y new)
on-each f g (Ok a) done new ok is = λ y. is y ∙ ap (f y) (sym ok)
on-each f g (Err e) done new ok is = tt

-- ---- the index of queues

pub record AreIndexed (spots : Spots) (begins : Keys) (qs : Rows) : Type 0 where
  pub index : IsIndex spots (groups_of qs)
  pub numbers : Each HasNumbers (told_of qs)
  pub few : length qs < 2 ^ 32
  pub begun : Each (IsBegun begins) (told_of qs)

pub as-indexed : (a : Inside) → AreKept a → AreIndexed a.spots a.firsts.keys a.groups.groups
as-indexed a h =
    record { index = h.index; numbers = h.numbers; few = h.few; begun = h.begun }

pub same-indexed : (spots : Spots) (begins : Keys) (old new : Rows) → AreIndexed spots begins old
    → IsIndex spots (groups_of new) → told_of new ≡ told_of old → AreIndexed spots begins new
same-indexed spots begins old new h index told = record {
  index = index;
  numbers = subst (Each HasNumbers) (sym told) h.numbers;
  few = let many = sym (told-many new) ∙ ap length told ∙ told-many old in omega (arith, h.few);
  begun = subst (Each (IsBegun begins)) (sym told) h.begun;
}

-- ---- fronts that go

each-rest : (P : MessageParts → Type 0) (q : List MessageParts) → Each P q → Each P (drop 1 q)
each-rest P [] h = tt
each-rest P (m ∷ ms) h = h.1

queues-front : (i : GroupParts) (k : ℕ) (ns : List ℕ) (qs : List (List MessageParts)) (c : ℕ)
    → AreQueues i k ns qs → AreQueues i k ns (without_front qs c)
queues-front i k [] [] c h = tt
queues-front i k [] (q ∷ qs) c h = absurd h
queues-front i k (n ∷ ns) [] c h = absurd h
queues-front i k (n ∷ ns) (q ∷ qs) zero h = (each-rest (IsQueued i k n) q h.0, h.1)
queues-front i k (n ∷ ns) (q ∷ qs) (suc c) h = (h.0, queues-front i (k + 1) ns qs c h.1)

queues-fronts : (i : GroupParts) (ns : List ℕ) (qs : List (List MessageParts)) (cs : List ℕ)
    → AreQueues i 0 ns qs → AreQueues i 0 ns (without_fronts qs cs)
queues-fronts i ns qs [] h = h
queues-fronts i ns qs (c ∷ cs) h =
    queues-fronts i ns (without_front qs c) cs (queues-front i 0 ns qs c h)

queues-gone : (gs : List Group) (j : ℕ) (cs : List ℕ) → AreAllQueues gs
    → AreAllQueues (gone_at j cs gs)
queues-gone gs j cs h = go (slice_get gs j) refl
  where
    go : (o : Option Group) → slice_get gs j ≡ o → AreAllQueues (gone_in o j cs gs)
    go None is = h
    go (Some g) is =
        each_set (λ (x : Group). AreQueues x.told.inst 0 x.told.counts x.queues) gs j
        (record g { queues = without_fronts g.queues cs }) h
        (queues-fronts g.told.inst g.told.counts g.queues cs
        (each_get (λ (x : Group). AreQueues x.told.inst 0 x.told.counts x.queues) gs j g is h))

told-set : (gs : List Group) (j : ℕ) (g : Group) (qs : List (List MessageParts))
    → slice_get gs j ≡ Some g → told_in (slice_set gs j (record g { queues = qs })) ≡ told_in gs
told-set [] j g qs is = refl
told-set (h ∷ gs) zero g qs is =
    let same : h ≡ g = cc in
    ap (λ (x : Group). x.told ∷ told_in gs) (sym same)
told-set (h ∷ gs) (suc j) g qs is = ap (λ ds. h.told ∷ ds) (told-set gs j g qs is)

pub told-gone : (gs : List Group) (j : ℕ) (cs : List ℕ) → told_in (gone_at j cs gs) ≡ told_in gs
told-gone gs j cs = go (slice_get gs j) refl
  where
    go : (o : Option Group) → slice_get gs j ≡ o → told_in (gone_in o j cs gs) ≡ told_in gs
    go None is = refl
    go (Some g) is = told-set gs j g (without_fronts g.queues cs) is

pub index-gone : (spots : Spots) (gs : List Group) (j : ℕ) (cs : List ℕ) → IsIndex spots gs
    → IsIndex spots (gone_at j cs gs)
index-gone spots gs j cs index =
    index-same spots gs (gone_at j cs gs) index (told-gone gs j cs)
    (queues-gone gs j cs index.queues)

-- ---- what is told of groups, where messages are put

told-put : (gs : List Group) (m : MessageParts) (new : List Group) → in_groups gs m ≡ Some new
    → told_in new ≡ told_in gs
told-put [] m new is = absurd (cc)
told-put (g ∷ gs) m new is =
    go (queued_up g.told.inst 0 g.told.counts g.queues m) (in_groups gs m) refl
    (λ hs e. told-put gs m hs e) is
  where
    go : (o : Option (List (List MessageParts))) (later : Option (List Group))
        → in_groups gs m ≡ later
        → ((hs : List Group) → in_groups gs m ≡ Some hs → told_in hs ≡ told_in gs)
        → or_later g o later gs ≡ Some new → told_in new ≡ told_in (g ∷ gs)
    go (Some qs) later rest ih e =
        let same : record g { queues = qs } ∷ gs ≡ new = cc in
        ap told_in (sym same)
    go None None rest ih e = absurd (cc)
    go None (Some hs) rest ih e =
        let same : g ∷ hs ≡ new = cc in
        ap told_in (sym same) ∙ ap (λ ds. g.told ∷ ds) (ih hs rest)

put-told : (l : Loc) (m : MessageParts) (s : Site) → told_in (put l m s).groups ≡ told_in s.groups
put-told l m s = go (in_groups s.groups m) refl
  where
    go : (o : Option (List Group)) → in_groups s.groups m ≡ o
        → told_in (put_in o l m s).groups ≡ told_in s.groups
    go None e = refl
    go (Some gs) e = told-put s.groups m gs e

pub put_all-told : (ws : List Waiting) (s : Site)
    → told_in (put_all ws s).groups ≡ told_in s.groups
put_all-told [] s = refl
put_all-told (w ∷ ws) s = put_all-told ws (put w.loc w.msg s) ∙ put-told w.loc w.msg s

pub told-laid : (gs : List Group) (ds : List Told)
    → told_in (gs ++ new_groups ds) ≡ told_in gs ++ ds
told-laid [] [] = refl
told-laid [] (d ∷ ds) = ap (λ es. d ∷ es) (told-laid [] ds)
told-laid (g ∷ gs) ds = ap (λ es. g.told ∷ es) (told-laid gs ds)

-- ---- a location that leaves

pub length-groups_but : (l : Loc) (gs : List Group) → length (groups_but l gs) ≤ length gs
length-groups_but l [] = omega arith
length-groups_but l (g ∷ gs) = by_test (same_loc l g.told.inst.loc) (length-groups_but l gs)
  where
    by_test : (b : Bool) → length (groups_but l gs) ≤ length gs
        → length (cond b (groups_but l gs) (g ∷ groups_but l gs)) ≤ suc (length gs)
    by_test true rest = omega arith
    by_test false rest = omega arith

pub stuck-kept : (l : Loc) (ws : List Waiting)
    → filter (λ (w : Waiting). not (same_loc l w.loc)) ws ≡ stuck_but l ws
stuck-kept l [] = refl
stuck-kept l (w ∷ ws) = by_test (same_loc l w.loc) (stuck-kept l ws)
  where
    by_test : (b : Bool) → filter (λ (v : Waiting). not (same_loc l v.loc)) ws ≡ stuck_but l ws
        → cond (not b) (w ∷ filter (λ (v : Waiting). not (same_loc l v.loc)) ws)
        (filter (λ (v : Waiting). not (same_loc l v.loc)) ws)
        ≡ cond b (stuck_but l ws) (w ∷ stuck_but l ws)
    by_test true rest = rest
    by_test false rest = ap (λ vs. w ∷ vs) rest
