-- The queue of a channel: where it is, and what it is for the groups as the laws see them.
use Rattle.std.proofs.Common.{◌≡◌, ℕ, zero, suc, ◌+◌, ◌-◌, ◌<◌, ◌≤◌, Bool, true, false, cond, List}
use Rattle.std.proofs.Common.{[], ◌∷◌, ◌++◌, length, Option, Some, None, refl, sym, ap, subst, ◌∙◌}
use Rattle.std.proofs.Common.{arith, eqb-true, eq-eqb}
use Rattle.std.specs.Prelude.{slice_get, slice_set, slice_index_or, ◌&&◌, ◌==◌, nat_lt}
use Rattle.std.specs.HashMap.{get}
use Rattle.std.proofs.lemmas.Bool.{and_parts}
use Rattle.std.proofs.lemmas.Bool.Decides.{nat_tests}
use Rattle.chem_model.specs.declared.name.Loc.{Loc}
use Rattle.chem_model.specs.declared.name.Name.{Name}
use Rattle.chem_model.specs.declared.name.Name.TheVariants as name
use Rattle.chem_model.specs.Each.{Each}
use Rattle.chem_model.specs.Numbered.{same_name}
use Rattle.chem_model.specs.Solution.{same_loc}
use Rattle.chem_laws.proofs.Lists.{true_both, Each-weaker, Each-right, is_false}
use Rattle.chem_laws.proofs.Taking.{same_name_refl}
use Rattle.chem_laws.proofs.Within.{same_loc_is, same_loc_refl}
use Rattle.wire_packet.specs.MessageFacts.{MessageParts}
use Rattle.wire_packet.specs.GroupFacts.{GroupParts}
use Rattle.queue_cells.specs.Grouped.{Queued, lists_at, with_last}
use Rattle.net_laws.specs.Site.{Told, Group, told_in}
use Rattle.net_laws.specs.Changes.{channel_of, AreQueues}
use Rattle.net_laws.specs.Kept.{Fits, FitsNone, AreDisjoint, AreApart}
use Rattle.net_laws.specs.Holding.{is_on, behind, queued_up, or_later, in_groups}
use Rattle.net_laws.proofs.Holding.{on_is, AreAllQueues, in_groups_is}
use Rattle.net_laws.proofs.Holds.{each_get}
use Rattle.site_shelves.specs.declared.told.Spot.{Spot}
use Rattle.site_shelves.specs.declared.told.Mark.{Mark}
use Rattle.site_shelves.specs.declared.told.Spots.{Spots}
use Rattle.site_shelves.specs.Held.{queues_of}
use Rattle.site_shelves.proofs.Marks.{located-at, located-none}
use Rattle.site_shelves.specs.inside.Index.{Rows, same_key, groups_of, told_of}
use Rattle.site_shelves.specs.inside.Index.{has_channel, locate_from, locate, is_count, on_count}
use Rattle.site_shelves.specs.inside.Index.{counts_in, with_count, spot_on, spot_of, mark_in}
use Rattle.site_shelves.specs.inside.Index.{place_of, IsIndex}

-- ---- groups as queue_cells has them

pub queues-are : (qs : Rows) (j : ℕ) → queues_of (groups_of qs) j ≡ lists_at qs j
queues-are [] j = refl
queues-are (q ∷ qs) zero = refl
queues-are (q ∷ qs) (suc j) = queues-are qs j

pub groups-many : (qs : Rows) → length (groups_of qs) ≡ length qs
groups-many [] = refl
groups-many (q ∷ qs) = ap suc (groups-many qs)

pub group-at : (qs : Rows) (j : ℕ) (q : Queued Told MessageParts) → slice_get qs j ≡ Some q
    → slice_get (groups_of qs) j ≡ Some (record { told = q.told; queues = q.lists })
group-at [] j q is = absurd (cc)
group-at (p ∷ qs) zero q is =
    let same : p ≡ q = cc in
    ap (λ (x : Queued Told MessageParts). Some (record { told = x.told; queues = x.lists })) same
group-at (p ∷ qs) (suc j) q is = group-at qs j q is

pub told-at : (qs : Rows) (j : ℕ) (q : Queued Told MessageParts) → slice_get qs j ≡ Some q
    → slice_get (told_of qs) j ≡ Some q.told
told-at [] j q is = absurd (cc)
told-at (p ∷ qs) zero q is =
    let same : p ≡ q = cc in
    ap (λ (x : Queued Told MessageParts). Some x.told) same
told-at (p ∷ qs) (suc j) q is = told-at qs j q is

get-below : {X : Type 0} (xs : List X) (i : ℕ) (x : X) → slice_get xs i ≡ Some x → i < length xs
get-below [] i x is = absurd (cc)
get-below (y ∷ xs) zero x is = omega arith
get-below (y ∷ xs) (suc i) x is = omega (arith, get-below xs i x is)

-- ---- channels

channels-differ : (i : GroupParts) (a b : ℕ) → channel_of i a ≡ channel_of i b → a ≡ b
channels-differ i a b same = let numbers : i.chans.k + a ≡ i.chans.k + b = cc in omega arith

in-range : (first width k : ℕ) → nat_lt k (first + width) && nat_lt first (k + 1) ≡ true
    → (first ≤ k) × (k - first < width)
in-range first width k e =
    let h = and_parts (nat_lt k (first + width)) (nat_lt first (k + 1)) e in
    (grind (arith, nat_tests), grind (arith, nat_tests))

range-in : (first width c : ℕ) → c < width
    → nat_lt (first + c) (first + width) && nat_lt first (first + c + 1) ≡ true
range-in first width c less = grind (arith, nat_tests)

-- the channel is one of the group's
record IsChannelOf (d : Told) (c : ℕ) (n : Name) : Type 0 where
  on : n ≡ channel_of d.inst c
  within : c < length d.counts

has-channel : (d : Told) (site k : ℕ) (home : Loc) → has_channel d site k home ≡ true
    → IsChannelOf d (k - d.inst.chans.k) (name.Chan site k home)
has-channel d site k home e =
    let p = and_parts (d.inst.chans.site == site) _ e in
    let q = and_parts (nat_lt k (d.inst.chans.k + length d.counts) && nat_lt d.inst.chans.k (k + 1))
    (same_loc d.inst.loc home) p.1 in
    let r = in-range d.inst.chans.k (length d.counts) k q.0 in
    let s = eqb-true d.inst.chans.site site p.0 in
    let n : d.inst.chans.k + (k - d.inst.chans.k) ≡ k = omega (arith, r.0) in
    let l = same_loc_is d.inst.loc home q.1 in
    record { on = λ t. name.Chan (sym s t) (sym n t) (sym l t); within = r.1 }

channel-there : (d : Told) (c : ℕ) (site k : ℕ) (home : Loc)
    → name.Chan site k home ≡ channel_of d.inst c → c < length d.counts
    → has_channel d site k home ≡ true
channel-there d c site k home is within =
    let s : d.inst.chans.site ≡ site = cc in
    let n : d.inst.chans.k + c ≡ k = cc in
    let l : d.inst.loc ≡ home = cc in
    let r : nat_lt k (d.inst.chans.k + length d.counts) && nat_lt d.inst.chans.k (k + 1) ≡ true =
    subst (λ j. nat_lt j (d.inst.chans.k + length d.counts) && nat_lt d.inst.chans.k (j + 1) ≡ true)
    n (range-in d.inst.chans.k (length d.counts) c within) in
    true_both (d.inst.chans.site == site) _ (eq-eqb d.inst.chans.site site s)
    (true_both _ (same_loc d.inst.loc home) r
    (ap (λ (x : Loc). same_loc d.inst.loc x) (sym l) ∙ same_loc_refl d.inst.loc))

-- ---- where a channel is

record IsThere (ds : List Told) (g c : ℕ) (n : Name) : Type 0 where
  told : Told
  is : slice_get ds g ≡ Some told
  chan : IsChannelOf told c n

located_from : (n : ℕ) (ds : List Told) (site k : ℕ) (home : Loc) (t : Spot)
    → locate_from n ds site k home ≡ Some t
    → (n ≤ t.group) × IsThere ds (t.group - n) t.chan (name.Chan site k home)
located_from n [] site k home t is = absurd (cc)
located_from n (d ∷ ds) site k home t is = by_test (has_channel d site k home) refl is
    (λ later. located_from (n + 1) ds site k home t later)
  where
    by_test : (b : Bool) → has_channel d site k home ≡ b
        → cond b (Some (record { group = n; chan = k - d.inst.chans.k }))
        (locate_from (n + 1) ds site k home) ≡ Some t
        → (locate_from (n + 1) ds site k home ≡ Some t
        → (n + 1 ≤ t.group) × IsThere ds (t.group - (n + 1)) t.chan (name.Chan site k home))
        → (n ≤ t.group) × IsThere (d ∷ ds) (t.group - n) t.chan (name.Chan site k home)
    by_test true has found rest =
        let spot : record { group = n; chan = k - d.inst.chans.k } ≡ t = cc in
        let group : n ≡ t.group = ap (λ (x : Spot). x.group) spot in
        let chan : k - d.inst.chans.k ≡ t.chan = ap (λ (x : Spot). x.chan) spot in
        let first : t.group - n ≡ 0 = omega arith in
        let there = has-channel d site k home has in (
          omega arith,
          rw first (record {
            told = d;
            is = refl;
            chan = subst (λ c. IsChannelOf d c (name.Chan site k home)) chan there;
          }),
        )
    by_test false not found rest =
        let later = rest found in
        let next : t.group - n ≡ suc (t.group - (n + 1)) = omega (arith, later.0) in (
          omega (arith, later.0),
          rw next (record { told = later.1.told; is = later.1.is; chan = later.1.chan }),
        )

located : (ds : List Told) (site k : ℕ) (home : Loc) (t : Spot) → locate ds site k home ≡ Some t
    → IsThere ds t.group t.chan (name.Chan site k home)
located ds site k home t is =
    let r = (located_from 0 ds site k home t is).1 in
    let e : t.group - 0 ≡ t.group = omega arith in
    subst (λ g. IsThere ds g t.chan (name.Chan site k home)) e r

not_located : (n : ℕ) (ds : List Told) (site k : ℕ) (home : Loc)
    → locate_from n ds site k home ≡ None
    → Each (λ (d : Told). (c : ℕ) → IsChannelOf d c (name.Chan site k home) → ⊥) ds
not_located n [] site k home is = tt
not_located n (d ∷ ds) site k home is =
    by_test (has_channel d site k home) refl is (λ later. not_located (n + 1) ds site k home later)
  where
    by_test : (b : Bool) → has_channel d site k home ≡ b
        → cond b (Some (record { group = n; chan = k - d.inst.chans.k }))
        (locate_from (n + 1) ds site k home) ≡ None
        → (locate_from (n + 1) ds site k home ≡ None
        → Each (λ (d : Told). (c : ℕ) → IsChannelOf d c (name.Chan site k home) → ⊥) ds)
        → Each (λ (d : Told). (c : ℕ) → IsChannelOf d c (name.Chan site k home) → ⊥) (d ∷ ds)
    by_test true has none rest = absurd (cc)
    by_test false not none rest =
        ((λ c is. let there = channel-there d c site k home is.on is.within in cc), rest none)

-- ---- the queues of one group

are-many : (i : GroupParts) (k : ℕ) (ns : List ℕ) (qs : List (List MessageParts))
    → AreQueues i k ns qs → length qs ≡ length ns
are-many i k [] [] are = refl
are-many i k [] (q ∷ qs) are = absurd are
are-many i k (n ∷ ns) [] are = absurd are
are-many i k (n ∷ ns) (q ∷ qs) are = ap suc (are-many i (k + 1) ns qs are.1)

on_it : (i : GroupParts) (c n : ℕ) (m : MessageParts) → m.on ≡ channel_of i c → n ≡ length m.args
    → is_on i c n m ≡ true
on_it i c n m on count = true_both (same_name m.on (channel_of i c)) (length m.args == n)
    (ap (same_name m.on) (sym on) ∙ same_name_refl m.on) (eq-eqb (length m.args) n (sym count))

up-at :
    (i : GroupParts) (k : ℕ) (ns : List ℕ) (qs : List (List MessageParts)) (m : MessageParts)
    (c : ℕ) → AreQueues i k ns qs → m.on ≡ channel_of i (k + c)
    → slice_get ns c ≡ Some (length m.args)
    → queued_up i k ns qs m ≡ Some (slice_set qs c (slice_index_or qs c [] ++ m ∷ []))
up-at i k [] qs m c are on count = absurd (cc)
up-at i k (n ∷ ns) [] m c are on count = absurd are
up-at i k (n ∷ ns) (q ∷ qs) m zero are on count =
    let first : k + 0 ≡ k = omega arith in
    let same : n ≡ length m.args = cc in
    let here = on_it i k n m (on ∙ ap (channel_of i) first) same in
    ap (λ b. cond b (Some ((q ++ m ∷ []) ∷ qs)) (behind q (queued_up i (k + 1) ns qs m))) here
up-at i k (n ∷ ns) (q ∷ qs) m (suc c) are on count =
    let next : k + suc c ≡ k + 1 + c = omega arith in
    let later = up-at i (k + 1) ns qs m c are.1 (on ∙ ap (channel_of i) next) count in
    let other : is_on i k n m ≡ false =
    is_false (is_on i k n m)
    (λ e. let h = channels-differ i k (k + suc c) (sym (on_is i k n m e).0 ∙ on) in omega arith) in
    ap (λ b. cond b (Some ((q ++ m ∷ []) ∷ qs)) (behind q (queued_up i (k + 1) ns qs m))) other
    ∙ ap (behind q) later

up-none : (i : GroupParts) (k : ℕ) (ns : List ℕ) (qs : List (List MessageParts)) (m : MessageParts)
    → ((c : ℕ) → m.on ≡ channel_of i (k + c) → slice_get ns c ≡ Some (length m.args) → ⊥)
    → queued_up i k ns qs m ≡ None
up-none i k [] qs m none = refl
up-none i k (n ∷ ns) [] m none = refl
up-none i k (n ∷ ns) (q ∷ qs) m none =
    let first : k ≡ k + 0 = omega arith in
    let other : is_on i k n m ≡ false =
    is_false (is_on i k n m)
    (λ e. let h = on_is i k n m e in none 0 (h.0 ∙ ap (channel_of i) first) (ap Some (sym h.1))) in
    let later =
    up-none i (k + 1) ns qs m (λ c on count. let next : k + 1 + c ≡ k + suc c = omega arith in
    none (suc c) (on ∙ ap (channel_of i) next) count) in
    ap (λ b. cond b (Some ((q ++ m ∷ []) ∷ qs)) (behind q (queued_up i (k + 1) ns qs m))) other
    ∙ ap (behind q) later

zero_add : (c : ℕ) → 0 + c ≡ c
zero_add c = omega arith

-- ---- the groups

pub in-none : (gs : List Group) (m : MessageParts) → FitsNone (told_in gs) m → in_groups gs m ≡ None
in-none [] m none = refl
in-none (g ∷ gs) m none =
    let here = up-none g.told.inst 0 g.told.counts g.queues m
    (λ c on count. none.0 c (on ∙ ap (channel_of g.told.inst) (zero_add c), count)) in
    let later = in-none gs m none.1 in
    ap (λ o. or_later g o (in_groups gs m) gs) here ∙ ap (λ o. or_later g None o gs) later

in-at : (qs : Rows) (g c : ℕ) (m : MessageParts) (d : Told) → AreAllQueues (groups_of qs)
    → AreApart (told_of qs) → slice_get (told_of qs) g ≡ Some d → m.on ≡ channel_of d.inst c
    → slice_get d.counts c ≡ Some (length m.args)
    → in_groups (groups_of qs) m ≡ Some (groups_of (with_last qs g c m))
in-at [] g c m d are apart is on count = absurd (cc)
in-at (q ∷ qs) zero c m d are apart is on count =
    let same : q.told ≡ d = cc in
    let on' : m.on ≡ channel_of q.told.inst (0 + c) =
    on ∙ ap (λ (x : Told). channel_of x.inst c) (sym same)
    ∙ ap (channel_of q.told.inst) (sym (zero_add c)) in
    let count' : slice_get q.told.counts c ≡ Some (length m.args) =
    ap (λ (x : Told). slice_get x.counts c) same ∙ count in
    let up = up-at q.told.inst 0 q.told.counts q.lists m c are.0 on' count' in
    ap (λ o. or_later (record { told = q.told; queues = q.lists }) o (in_groups (groups_of qs) m)
    (groups_of qs)) up
in-at (q ∷ qs) (suc g) c m d are apart is on count =
    let later = in-at qs g c m d are.1 apart.1 is on count in
    let disjoint = each_get (AreDisjoint q.told) (told_of qs) g d is apart.0 in
    let here = up-none q.told.inst 0 q.told.counts q.lists m (λ b on' count'. disjoint b c
    (get-below q.told.counts b (length m.args) count') (get-below d.counts c (length m.args) count)
    (sym (on' ∙ ap (channel_of q.told.inst) (zero_add b)) ∙ on)) in
    ap (λ o. or_later (record { told = q.told; queues = q.lists }) o (in_groups (groups_of qs) m)
    (groups_of qs)) here
    ∙ ap (λ o. or_later (record { told = q.told; queues = q.lists }) None o (groups_of qs)) later

-- a message on a channel with another count fits nowhere
only-there : (ds : List Told) (g c : ℕ) (m : MessageParts) (d : Told) → AreApart ds
    → slice_get ds g ≡ Some d → IsChannelOf d c m.on
    → (slice_get d.counts c ≡ Some (length m.args) → ⊥) → FitsNone ds m
only-there [] g c m d apart is chan wrong = absurd (cc)
only-there (e ∷ ds) zero c m d apart is chan wrong =
    let same : e ≡ d = cc in (
      λ b f. let at : b ≡ c =
          channels-differ d.inst b c
          (ap (λ (x : Told). channel_of x.inst b) (sym same) ∙ sym f.0 ∙ chan.on) in
          wrong (ap (slice_get d.counts) (sym at)
          ∙ ap (λ (x : Told). slice_get x.counts b) (sym same) ∙ f.1),
      Each-weaker (AreDisjoint e) (λ (x : Told). (b : ℕ) → Fits x b m → ⊥) (λ x disjoint b f.
          disjoint c b (subst (λ (y : Told). c < length y.counts) (sym same) chan.within)
          (get-below x.counts b (length m.args) f.1)
          (ap (λ (y : Told). channel_of y.inst c) same ∙ sym chan.on ∙ f.0)) ds apart.0,
    )
only-there (e ∷ ds) (suc g) c m d apart is chan wrong =
    let disjoint = each_get (AreDisjoint e) ds g d is apart.0 in (
      (λ b f.
          disjoint b c (get-below e.counts b (length m.args) f.1) chan.within (sym f.0 ∙ chan.on)),
      only-there ds g c m d apart.1 is chan wrong,
    )

-- ---- the queue that takes a message

is-count : (o : Option ℕ) (count : ℕ) → is_count o count ≡ true → o ≡ Some count
is-count None count e = absurd (cc)
is-count (Some n) count e = ap Some (eqb-true n count e)

count-is : (o : Option ℕ) (count : ℕ) → o ≡ Some count → is_count o count ≡ true
count-is None count e = absurd (cc)
count-is (Some n) count e = let same : n ≡ count = cc in eq-eqb n count same

record Takes (ds : List Told) (t : Spot) (m : MessageParts) : Type 0 where
  told : Told
  is : slice_get ds t.group ≡ Some told
  chan : IsChannelOf told t.chan m.on
  count : slice_get told.counts t.chan ≡ Some (length m.args)

by-count : (ds : List Told) (m : MessageParts) (site k : ℕ) (home : Loc) (t : Spot)
    → m.on ≡ name.Chan site k home → (o : Option Spot) → locate ds site k home ≡ o
    → with_count ds (length m.args) o ≡ Some t → Takes ds t m
by-count ds m site k home t on None at is = absurd (cc)
by-count ds m site k home t on (Some u) at is =
    by_test (is_count (slice_get (counts_in (slice_get ds u.group)) u.chan) (length m.args)) refl is
  where
    by_test : (b : Bool)
        → is_count (slice_get (counts_in (slice_get ds u.group)) u.chan) (length m.args) ≡ b
        → cond b (Some u) None ≡ Some t → Takes ds t m
    by_test true right is =
        let same : u ≡ t = cc in
        let there = located ds site k home u at in
        let counted =
        is-count (slice_get (counts_in (slice_get ds u.group)) u.chan) (length m.args) right in
        subst (λ (x : Spot). Takes ds x m) same (record {
          told = there.told;
          is = there.is;
          chan = subst (IsChannelOf there.told u.chan) (sym on) there.chan;
          count = ap (λ o. slice_get (counts_in o) u.chan) (sym there.is) ∙ counted;
        })
    by_test false wrong is = absurd (cc)

takes : (ds : List Told) (m : MessageParts) (t : Spot) (n : Name) → m.on ≡ n
    → spot_on ds n (length m.args) ≡ Some t → Takes ds t m
takes ds m t (name.Seen i) on is = absurd (cc)
takes ds m t (name.Place l) on is = absurd (cc)
takes ds m t (name.Num n) on is = absurd (cc)
takes ds m t (name.Op i) on is = absurd (cc)
takes ds m t (name.Chan site k home) on is =
    by-count ds m site k home t on (locate ds site k home) refl is

no-count : (ds : List Told) (m : MessageParts) (site k : ℕ) (home : Loc) → AreApart ds
    → m.on ≡ name.Chan site k home → (o : Option Spot) → locate ds site k home ≡ o
    → with_count ds (length m.args) o ≡ None → FitsNone ds m
no-count ds m site k home apart on None at is =
    Each-weaker (λ (d : Told). (c : ℕ) → IsChannelOf d c (name.Chan site k home) → ⊥)
    (λ (d : Told). (c : ℕ) → Fits d c m → ⊥) (λ d none c f.
    none c (record { on = sym on ∙ f.0; within = get-below d.counts c (length m.args) f.1 })) ds
    (not_located 0 ds site k home at)
no-count ds m site k home apart on (Some u) at is =
    let there = located ds site k home u at in
    only-there ds u.group u.chan m there.told apart
    there.is (subst (IsChannelOf there.told u.chan) (sym on) there.chan) (λ count.
    let right = count-is (slice_get (counts_in (slice_get ds u.group)) u.chan) (length m.args)
    (ap (λ o. slice_get (counts_in o) u.chan) there.is ∙ count) in
    let some : with_count ds (length m.args) (Some u) ≡ Some u =
    ap (λ b. cond b (Some u) None) right in
    cc)

fits-none : (ds : List Told) (m : MessageParts) (n : Name) → AreApart ds → m.on ≡ n
    → spot_on ds n (length m.args) ≡ None → FitsNone ds m
fits-none ds m (name.Seen i) apart on is = no-channel ds
  where
    no-channel : (xs : List Told) → FitsNone xs m
    no-channel [] = tt
    no-channel (x ∷ xs) = ((λ c f. let e = sym on ∙ f.0 in cc), no-channel xs)
fits-none ds m (name.Place l) apart on is = no-channel ds
  where
    no-channel : (xs : List Told) → FitsNone xs m
    no-channel [] = tt
    no-channel (x ∷ xs) = ((λ c f. let e = sym on ∙ f.0 in cc), no-channel xs)
fits-none ds m (name.Num n) apart on is = no-channel ds
  where
    no-channel : (xs : List Told) → FitsNone xs m
    no-channel [] = tt
    no-channel (x ∷ xs) = ((λ c f. let e = sym on ∙ f.0 in cc), no-channel xs)
fits-none ds m (name.Op i) apart on is = no-channel ds
  where
    no-channel : (xs : List Told) → FitsNone xs m
    no-channel [] = tt
    no-channel (x ∷ xs) = ((λ c f. let e = sym on ∙ f.0 in cc), no-channel xs)
fits-none ds m (name.Chan site k home) apart on is =
    no-count ds m site k home apart on (locate ds site k home) refl is

-- ---- for the code

queue-there : (qs : Rows) (g c : ℕ) (d : Told) → AreAllQueues (groups_of qs)
    → slice_get (told_of qs) g ≡ Some d → c < length d.counts
    → (g < length qs) × (c < length (lists_at qs g))
queue-there [] g c d are is within = absurd (cc)
queue-there (q ∷ qs) zero c d are is within =
    let same : q.told ≡ d = cc in (
      omega arith,
      omega (
        arith,
        are-many q.told.inst 0 q.told.counts q.lists are.0,
        subst (λ (x : Told). c < length x.counts) (sym same) within,
      ),
    )
queue-there (q ∷ qs) (suc g) c d are is within =
    let later = queue-there qs g c d are.1 is within in
    (omega (arith, later.0), later.1)

pub told-length : (gs : List Group) → length (told_in gs) ≡ length gs
told-length [] = refl
told-length (g ∷ gs) = ap suc (told-length gs)

-- the index is that of groups of which the same is told
pub index-same : (spots : Spots) (gs hs : List Group) → IsIndex spots gs → told_in hs ≡ told_in gs
    → AreAllQueues hs → IsIndex spots hs
index-same spots gs hs index told are = record {
  many = index.many ∙ sym (told-length gs) ∙ ap length (sym told) ∙ told-length hs;
  rise = index.rise;
  named = λ site k home.
      index.named site k home ∙ ap (λ ds. mark_in spots.serials.items ds site k home) (sym told);
  queues = are;
  apart = subst AreApart (sym told) index.apart;
}

-- what the index tells of a message
pub record IsTaken (spots : Spots) (qs : Rows) (m : MessageParts) (t : Spot) : Type 0 where
  pub group : t.group < length qs
  pub chan : t.chan < length (lists_at qs t.group)
  pub is : in_groups (groups_of qs) m ≡ Some (groups_of (with_last qs t.group t.chan m))
  pub index : IsIndex spots (groups_of (with_last qs t.group t.chan m))
  pub same : told_of (with_last qs t.group t.chan m) ≡ told_of qs

pub taken : (spots : Spots) (qs : Rows) (m : MessageParts) (t : Spot) → IsIndex spots (groups_of qs)
    → spot_of (told_of qs) m ≡ Some t → IsTaken spots qs m t
taken spots qs m t index is =
    let it = takes (told_of qs) m t m.on refl is in
    let there = queue-there qs t.group t.chan it.told index.queues it.is it.chan.within in
    let put =
    in-at qs t.group t.chan m it.told index.queues index.apart it.is it.chan.on it.count in
    let up =
    in_groups_is (groups_of qs) m (groups_of (with_last qs t.group t.chan m)) index.queues put in
    record {
      group = there.0;
      chan = there.1;
      is = put;
      index = index-same spots (groups_of qs) (groups_of (with_last qs t.group t.chan m)) index
          up.same up.are;
      same = up.same;
    }

pub not_taken : (spots : Spots) (qs : Rows) (m : MessageParts) → IsIndex spots (groups_of qs)
    → spot_of (told_of qs) m ≡ None → in_groups (groups_of qs) m ≡ None
not_taken spots qs m index is =
    in-none (groups_of qs) m (fits-none (told_of qs) m m.on index.apart refl is)

-- where the index has a channel, its group is there
pub found-at : (spots : Spots) (qs : Rows) (site k : ℕ) (home : Loc) (m : Mark)
    → IsIndex spots (groups_of qs)
    → get same_key spots.marks ((site, k), (home.site, home.k)) ≡ Some m
    → locate (told_of qs) site k home
    ≡ Some (record { group = place_of m.serial spots.serials.items; chan = m.chan })
found-at spots qs site k home m index is =
    located-at spots.serials.items spots.next (told_of qs) site k home m
    index.rise (index.many ∙ sym (told-length (groups_of qs))) (sym (index.named site k home) ∙ is)

pub found-group : (spots : Spots) (qs : Rows) (site k : ℕ) (home : Loc) (m : Mark)
    → IsIndex spots (groups_of qs)
    → get same_key spots.marks ((site, k), (home.site, home.k)) ≡ Some m
    → place_of m.serial spots.serials.items < length qs
found-group spots qs site k home m index is =
    let it = located (told_of qs) site k home
    (record { group = place_of m.serial spots.serials.items; chan = m.chan })
    (found-at spots qs site k home m index is) in
    (queue-there qs (place_of m.serial spots.serials.items)
    m.chan it.told index.queues it.is it.chan.within).0

-- so what the code reads is the queue that takes the message
pub spot-is :
    (spots : Spots) (qs : Rows) (m : MessageParts) (site k : ℕ) (home : Loc) (u : Mark)
    (q : Queued Told MessageParts) (r : Option Spot) → IsIndex spots (groups_of qs)
    → m.on ≡ name.Chan site k home
    → get same_key spots.marks ((site, k), (home.site, home.k)) ≡ Some u
    → slice_get qs (place_of u.serial spots.serials.items) ≡ Some q
    → r
    ≡ on_count (slice_get q.told.counts u.chan) (length m.args)
    (record { group = place_of u.serial spots.serials.items; chan = u.chan })
    → r ≡ spot_of (told_of qs) m
spot-is spots qs m site k home u q r index on is there read =
    let t : Spot = record { group = place_of u.serial spots.serials.items; chan = u.chan } in
    let at : locate (told_of qs) site k home ≡ Some t = found-at spots qs site k home u index is in
    let told = told-at qs t.group q there in
    let counted : with_count (told_of qs) (length m.args) (locate (told_of qs) site k home)
    ≡ on_count (slice_get q.told.counts t.chan) (length m.args) t =
    ap (with_count (told_of qs) (length m.args)) at
    ∙ ap (λ o. on_count (slice_get (counts_in o) t.chan) (length m.args) t) told in
    read ∙ sym counted ∙ sym (ap (λ n. spot_on (told_of qs) n (length m.args)) on)

-- a message whose channel has no mark is taken by none
pub spot-none : (spots : Spots) (qs : Rows) (m : MessageParts) (site k : ℕ) (home : Loc)
    → IsIndex spots (groups_of qs) → m.on ≡ name.Chan site k home
    → get same_key spots.marks ((site, k), (home.site, home.k)) ≡ None
    → spot_of (told_of qs) m ≡ None
spot-none spots qs m site k home index on is =
    let none = located-none spots.serials.items spots.next (told_of qs) site k home index.rise
    (index.many ∙ sym (told-length (groups_of qs))) (sym (index.named site k home) ∙ is) in
    ap (λ n. spot_on (told_of qs) n (length m.args)) on
    ∙ ap (with_count (told_of qs) (length m.args)) none

-- ---- a group is added

last-apart : (ds : List Told) (d e : Told) (g : ℕ) → AreApart (ds ++ d ∷ [])
    → slice_get ds g ≡ Some e → AreDisjoint e d
last-apart [] d e g apart is = absurd (cc)
last-apart (x ∷ ds) d e zero apart is =
    let same : x ≡ e = cc in
    subst (λ (y : Told). AreDisjoint y d) same (Each-right (AreDisjoint x) ds (d ∷ []) apart.0).0
last-apart (x ∷ ds) d e (suc g) apart is = last-apart ds d e g apart.1 is

-- no other group has its channels
pub absent : (ds : List Told) (d : Told) (site k : ℕ) (at : Loc) → AreApart (ds ++ d ∷ [])
    → has_channel d site k at ≡ true → locate ds site k at ≡ None
absent ds d site k at apart has = go (locate ds site k at) refl
  where
    go : (o : Option Spot) → locate ds site k at ≡ o → o ≡ None
    go None is = refl
    go (Some t) is =
        let there = located ds site k at t is in
        let here = has-channel d site k at has in
        absurd (last-apart ds d there.told t.group apart there.is t.chan (k - d.inst.chans.k)
        there.chan.within here.within (sym there.chan.on ∙ here.on))

-- ---- the first group

-- what the code reads where the first group has the channel is the queue that takes the message
pub first-spot :
    (qs : Rows) (m : MessageParts) (site k : ℕ) (home : Loc) (q : Queued Told MessageParts) (c : ℕ)
    (r : Option Spot) → slice_get qs 0 ≡ Some q → m.on ≡ name.Chan site k home
    → has_channel q.told site k home ≡ true → k - q.told.inst.chans.k ≡ c
    → r ≡ on_count (slice_get q.told.counts c) (length m.args) (record { group = 0; chan = c })
    → spot_of (told_of qs) m ≡ r
first-spot [] m site k home q c r there on has from read = absurd (cc)
first-spot (p ∷ qs) m site k home q c r there on has from read =
    let same : p ≡ q = cc in
    let ds = told_of qs in
    let count = length m.args in
    let t : ℕ → Spot = λ j. record { group = 0; chan = j } in
    let here : has_channel p.told site k home ≡ true =
    ap (λ (x : Queued Told MessageParts). has_channel x.told site k home) same ∙ has in
    let at : locate (p.told ∷ ds) site k home ≡ Some (t (k - p.told.inst.chans.k)) =
    ap (λ b. cond b (Some (t (k - p.told.inst.chans.k))) (locate_from 1 ds site k home)) here in
    ap (λ n. spot_on (p.told ∷ ds) n count) on ∙ ap (with_count (p.told ∷ ds) count) at
    ∙ ap (λ (x : Queued Told MessageParts).
    on_count (slice_get x.told.counts (k - x.told.inst.chans.k)) count
    (t (k - x.told.inst.chans.k))) same
    ∙ ap (λ j. on_count (slice_get q.told.counts j) count (t j)) from ∙ sym read
