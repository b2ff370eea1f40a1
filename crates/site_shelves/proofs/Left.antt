-- What is left of groups and of their index where a location leaves.
use Rattle.std.proofs.Common.{◌≡◌, ℕ, zero, suc, ◌+◌, ◌-◌, ◌<◌, ◌≤◌, Bool, true, false, cond, List}
use Rattle.std.proofs.Common.{[], ◌∷◌, ◌++◌, length, get_or, take, drop, set, Option, Some, None}
use Rattle.std.proofs.Common.{refl, sym, ap, subst, ◌∙◌, arith, append_assoc, append-nil}
use Rattle.std.specs.Prelude.{◌&&◌, ◌||◌, slice_get}
use Rattle.std.specs.HashMap.{get}
use Rattle.std.proofs.lemmas.Bool.Decides.{nat_tests}
use Rattle.std.proofs.lemmas.List.{take_more_set, drop-set-lt, take_all, drop_all}
use Rattle.std.proofs.lemmas.List.Folds.{list_any_more}
use Rattle.chem_model.specs.declared.name.Loc.{Loc}
use Rattle.chem_model.specs.Solution.{same_loc}
use Rattle.wire_packet.specs.MessageFacts.{MessageParts}
use Rattle.queue_cells.specs.Grouped.{Queued, but_where}
use Rattle.net_laws.specs.Site.{Told, Group, told_in}
use Rattle.net_laws.specs.Changes.{AreQueues}
use Rattle.net_laws.specs.Parcels.{groups_but}
use Rattle.net_laws.proofs.Parcels.{each_group_but, apart_but}
use Rattle.site_shelves.specs.declared.told.Mark.{Mark}
use Rattle.site_shelves.specs.declared.told.Spots.{Spots}
use Rattle.site_shelves.specs.inside.Index.{Rows, groups_of, told_of, key_of, same_key, is_one_of}
use Rattle.site_shelves.specs.inside.Index.{has_channel, mark_in, Rise, IsIndex}
use Rattle.site_shelves.specs.inside.Forgotten.{has_any, serials_but}
use Rattle.site_shelves.proofs.Naming.{one-more}
use Rattle.site_shelves.proofs.Putting.{told-many}

-- ---- one group's queues are forgotten

one-none : (first_site first site k : ℕ) (home at : Loc)
    → is_one_of first_site first 0 home site k at ≡ false
one-none first_site first site k home at = grind (arith, nat_tests)

pub none-forgotten : (first_site first site k : ℕ) (home at : Loc) (before : Option Mark)
    → before ≡ cond (is_one_of first_site first 0 home site k at) None before
none-forgotten first_site first site k home at before =
    ap (λ b. cond b None before) (sym (one-none first_site first site k home at))

pub one-forgotten : (first_site first n site k : ℕ) (home at : Loc) (before old new : Option Mark)
    → new ≡ cond (same_key (key_of first_site (first + n) home) (key_of site k at)) None old
    → old ≡ cond (is_one_of first_site first n home site k at) None before
    → new ≡ cond (is_one_of first_site first (n + 1) home site k at) None before
one-forgotten first_site first n site k home at before old new put was =
    put
    ∙ ap (λ o. cond (same_key (key_of first_site (first + n) home) (key_of site k at)) None o) was
    ∙ by_test (same_key (key_of first_site (first + n) home) (key_of site k at))
    (is_one_of first_site first n home site k at)
    ∙ ap (λ b. cond b None before) (sym (one-more first_site first n site k home at))
  where
    by_test : (b c : Bool) → cond b None (cond c None before) ≡ cond (cond b true c) None before
    by_test true c = refl
    by_test false c = refl

other-home : (d : Told) (l : Loc) (site k : ℕ) (at : Loc) → same_loc l d.inst.loc ≡ false
    → has_channel d site k at ≡ true → same_loc l at ≡ false
other-home d l site k at other has = grind (arith, nat_tests)

same-home : (d : Told) (l : Loc) (site k : ℕ) (at : Loc) → same_loc l d.inst.loc ≡ true
    → has_channel d site k at ≡ true → same_loc l at ≡ true
same-home d l site k at same has = grind (arith, nat_tests)

told_get : (qs : Rows) (g : ℕ) (q : Queued Told MessageParts) → slice_get qs g ≡ Some q
    → (g < length (told_of qs)) × (get_or (told_of qs) g q.told ≡ q.told)
told_get [] g q is = absurd (cc)
told_get (x ∷ qs) zero q is =
    let same : x ≡ q = cc in
    (omega arith, ap (λ (y : Queued Told MessageParts). y.told) same)
told_get (x ∷ qs) (suc g) q is = let later = told_get qs g q is in (omega (arith, later.0), later.1)

-- one group more is looked at
pub forgotten-next :
    (l : Loc) (qs : Rows) (g : ℕ) (q : Queued Told MessageParts) (site k : ℕ) (at : Loc)
    (before old new : Option Mark) → slice_get qs g ≡ Some q
    → new ≡ cond (same_loc l at && has_channel q.told site k at) None old
    → old ≡ cond (same_loc l at && has_any (take g (told_of qs)) site k at) None before
    → new ≡ cond (same_loc l at && has_any (take (g + 1) (told_of qs)) site k at) None before
forgotten-next l qs g q site k at before old new is put was =
    let there = told_get qs g q is in
    let more : has_any (take (g + 1) (told_of qs)) site k at
    ≡ has_any (take g (told_of qs)) site k at || has_channel q.told site k at =
    list_any_more (λ (d : Told). has_channel d site k at) (told_of qs) g q.told there.0
    ∙ ap (λ (d : Told). has_any (take g (told_of qs)) site k at || has_channel d site k at)
    there.1 in
    put ∙ ap (λ o. cond (same_loc l at && has_channel q.told site k at) None o) was
    ∙ by_tests (same_loc l at) (has_any (take g (told_of qs)) site k at)
    (has_channel q.told site k at)
    ∙ ap (λ b. cond (same_loc l at && b) None before) (sym more)
  where
    by_tests : (a b h : Bool)
        → cond (a && h) None (cond (a && b) None before) ≡ cond (a && (b || h)) None before
    by_tests true true true = refl
    by_tests true true false = refl
    by_tests true false true = refl
    by_tests true false false = refl
    by_tests false b h = refl

pub forgotten-all : (l : Loc) (qs : Rows) (n site k : ℕ) (at : Loc) (before new : Option Mark)
    → length qs ≤ n
    → new ≡ cond (same_loc l at && has_any (take n (told_of qs)) site k at) None before
    → new ≡ cond (same_loc l at && has_any (told_of qs) site k at) None before
forgotten-all l qs n site k at before new all is = is
    ∙ ap (λ ds. cond (same_loc l at && has_any ds site k at) None before)
    (take_all n (told_of qs) (omega (arith, told-many qs)))

-- ---- serials close up

at-drop : {X : Type 0} (xs : List X) (i : ℕ) (x : X) → i < length xs → get_or xs i x ≡ x
    → drop i xs ≡ x ∷ drop (suc i) xs
at-drop [] i x within is = absurd (omega arith)
at-drop (y ∷ xs) zero x within is = ap (λ z. z ∷ xs) is
at-drop (y ∷ xs) (suc i) x within is = at-drop xs i x (omega arith) is

plus-one : (i : ℕ) → suc i ≡ i + 1
plus-one i = omega arith

-- what is done and what is to be done
abbrev pub closing : Loc → List ℕ → Rows → ℕ → ℕ → List ℕ
closing l ss qs kept g = take kept ss ++ serials_but l (drop g ss) (drop g (told_of qs))

pub closed-gone :
    (l : Loc) (ss : List ℕ) (qs : Rows) (kept g : ℕ) (q : Queued Told MessageParts) (s : ℕ)
    → g < length ss → slice_get qs g ≡ Some q → get_or ss g s ≡ s
    → same_loc l q.told.inst.loc ≡ true → closing l ss qs kept (g + 1) ≡ closing l ss qs kept g
closed-gone l ss qs kept g q s within is read gone =
    let there = told_get qs g q is in
    let front : drop g (told_of qs) ≡ q.told ∷ drop (suc g) (told_of qs) =
    at-drop (told_of qs) g q.told there.0 there.1 in
    let serial : drop g ss ≡ s ∷ drop (suc g) ss = at-drop ss g s within read in
    let whole : serials_but l (drop g ss) (drop g (told_of qs))
    ≡ serials_but l (drop (suc g) ss) (drop (suc g) (told_of qs)) =
    ap (λ xs. serials_but l xs (drop g (told_of qs))) serial
    ∙ ap (serials_but l (s ∷ drop (suc g) ss)) front
    ∙ ap (λ b. cond b (serials_but l (drop (suc g) ss) (drop (suc g) (told_of qs)))
    (s ∷ serials_but l (drop (suc g) ss) (drop (suc g) (told_of qs)))) gone in
    ap (λ n. take kept ss ++ serials_but l (drop n ss) (drop n (told_of qs))) (sym (plus-one g))
    ∙ ap (λ xs. take kept ss ++ xs) (sym whole)

pub closed-kept :
    (l : Loc) (ss : List ℕ) (qs : Rows) (kept g : ℕ) (q : Queued Told MessageParts) (s : ℕ)
    → g < length ss → kept ≤ g → slice_get qs g ≡ Some q → get_or ss g s ≡ s
    → same_loc l q.told.inst.loc ≡ false
    → closing l (set ss kept s) qs (kept + 1) (g + 1) ≡ closing l ss qs kept g
closed-kept l ss qs kept g q s within behind is read stays =
    let there = told_get qs g q is in
    let front : drop g (told_of qs) ≡ q.told ∷ drop (suc g) (told_of qs) =
    at-drop (told_of qs) g q.told there.0 there.1 in
    let serial : drop g ss ≡ s ∷ drop (suc g) ss = at-drop ss g s within read in
    let whole : serials_but l (drop g ss) (drop g (told_of qs))
    ≡ s ∷ serials_but l (drop (suc g) ss) (drop (suc g) (told_of qs)) =
    ap (λ xs. serials_but l xs (drop g (told_of qs))) serial
    ∙ ap (serials_but l (s ∷ drop (suc g) ss)) front
    ∙ ap (λ b. cond b (serials_but l (drop (suc g) ss) (drop (suc g) (told_of qs)))
    (s ∷ serials_but l (drop (suc g) ss) (drop (suc g) (told_of qs)))) stays in
    let taken : take (kept + 1) (set ss kept s) ≡ take kept ss ++ s ∷ [] =
    take_more_set ss kept s (omega arith) in
    let dropped : drop (g + 1) (set ss kept s) ≡ drop (g + 1) ss =
    drop-set-lt (g + 1) ss kept s (omega arith) in
    ap (λ xs. xs ++ serials_but l (drop (g + 1) (set ss kept s)) (drop (g + 1) (told_of qs))) taken
    ∙ ap (λ xs. (take kept ss ++ s ∷ []) ++ serials_but l xs (drop (g + 1) (told_of qs))) dropped
    ∙ ap (λ n. (take kept ss ++ s ∷ []) ++ serials_but l (drop n ss) (drop n (told_of qs)))
    (sym (plus-one g))
    ∙ append_assoc (take kept ss) (s ∷ [])
    (serials_but l (drop (suc g) ss) (drop (suc g) (told_of qs)))
    ∙ ap (λ xs. take kept ss ++ xs) (sym whole)

pub closed-all : (l : Loc) (ss : List ℕ) (qs : Rows) (kept g : ℕ) → length ss ≤ g
    → take kept ss ≡ closing l ss qs kept g
closed-all l ss qs kept g all =
    let none : drop g ss ≡ [] = drop_all g ss all in
    sym (append-nil (take kept ss))
    ∙ ap (λ xs. take kept ss ++ serials_but l xs (drop g (told_of qs))) (sym none)

-- ---- the groups that are left

pub groups-left : (l : Loc) (qs : Rows)
    → groups_of (but_where (λ (d : Told). same_loc l d.inst.loc) qs) ≡ groups_but l (groups_of qs)
groups-left l [] = refl
groups-left l (q ∷ qs) = by_test (same_loc l q.told.inst.loc) (groups-left l qs)
  where
    by_test : (b : Bool)
        → groups_of (but_where (λ (d : Told). same_loc l d.inst.loc) qs)
        ≡ groups_but l (groups_of qs)
        → groups_of (cond b (but_where (λ (d : Told). same_loc l d.inst.loc) qs)
        (q ∷ but_where (λ (d : Told). same_loc l d.inst.loc) qs))
        ≡ cond b (groups_but l (groups_of qs))
        (record { told = q.told; queues = q.lists } ∷ groups_but l (groups_of qs))
    by_test true rest = rest
    by_test false rest = ap (λ gs. record { told = q.told; queues = q.lists } ∷ gs) rest

-- no channel at the location has a mark, and each other one has the mark that it had
mark-left : (l : Loc) (ss : List ℕ) (gs : List Group) (site k : ℕ) (home : Loc)
    → length ss ≡ length gs
    → mark_in (serials_but l ss (told_in gs)) (told_in (groups_but l gs)) site k home
    ≡ cond (same_loc l home) None (mark_in ss (told_in gs) site k home)
mark-left l [] [] site k home many = by_test (same_loc l home)
  where
    by_test : (b : Bool) → ◌≡◌ {A = Option Mark} None (cond b None None)
    by_test true = refl
    by_test false = refl
mark-left l [] (g ∷ gs) site k home many = absurd (omega arith)
mark-left l (s ∷ ss) [] site k home many = absurd (omega arith)
mark-left l (s ∷ ss) (g ∷ gs) site k home many =
    by_tests (same_loc l g.told.inst.loc) (has_channel g.told site k home) (same_loc l home) refl
    refl refl (mark-left l ss gs site k home (omega arith))
  where
    here : Option Mark
    here = Some (record { serial = s; chan = k - g.told.inst.chans.k })

    by_tests : (t h a : Bool) → same_loc l g.told.inst.loc ≡ t → has_channel g.told site k home ≡ h
        → same_loc l home ≡ a
        → mark_in (serials_but l ss (told_in gs)) (told_in (groups_but l gs)) site k home
        ≡ cond a None (mark_in ss (told_in gs) site k home)
        → mark_in (cond t (serials_but l ss (told_in gs)) (s ∷ serials_but l ss (told_in gs)))
        (told_in (cond t (groups_but l gs) (g ∷ groups_but l gs))) site k home
        ≡ cond a None (cond h here (mark_in ss (told_in gs) site k home))
    by_tests true true true t_is h_is a_is rest = rest
    by_tests true true false t_is h_is a_is rest =
        absurd (let e = same-home g.told l site k home t_is h_is in cc)
    by_tests true false true t_is h_is a_is rest = rest
    by_tests true false false t_is h_is a_is rest = rest
    by_tests false true true t_is h_is a_is rest =
        absurd (let e = other-home g.told l site k home t_is h_is in cc)
    by_tests false true false t_is h_is a_is rest = rw h_is refl
    by_tests false false true t_is h_is a_is rest = rw h_is rest
    by_tests false false false t_is h_is a_is rest = rw h_is rest

any-none : (ss : List ℕ) (ds : List Told) (site k : ℕ) (home : Loc) → has_any ds site k home ≡ false
    → mark_in ss ds site k home ≡ None
any-none [] ds site k home none = refl
any-none (s ∷ ss) [] site k home none = refl
any-none (s ∷ ss) (d ∷ ds) site k home none =
    by_test (has_channel d site k home) none (any-none ss ds site k home)
  where
    by_test : (b : Bool) → b || has_any ds site k home ≡ false
        → (has_any ds site k home ≡ false → mark_in ss ds site k home ≡ None)
        → cond b (Some (record { serial = s; chan = k - d.inst.chans.k }))
        (mark_in ss ds site k home) ≡ None
    by_test true e rest = absurd (cc)
    by_test false e rest = rest e

Rise-from : (less least : ℕ) (ss : List ℕ) (next : ℕ) → less ≤ least → Rise least ss next
    → Rise less ss next
Rise-from less least [] next below rise = omega arith
Rise-from less least (s ∷ ss) next below rise = (omega (arith, rise.0), rise.1)

Rise-end : (least : ℕ) (ss : List ℕ) (next : ℕ) → Rise least ss next → least ≤ next
Rise-end least [] next rise = rise
Rise-end least (s ∷ ss) next rise = omega (arith, rise.0, Rise-end (suc s) ss next rise.1)

Rise-left : (l : Loc) (least : ℕ) (ss : List ℕ) (next : ℕ) (ds : List Told) → Rise least ss next
    → Rise least (serials_but l ss ds) next
Rise-left l least [] next ds rise = rise
Rise-left l least (s ∷ ss) next [] rise = Rise-end least (s ∷ ss) next rise
Rise-left l least (s ∷ ss) next (d ∷ ds) rise =
    by_test (same_loc l d.inst.loc) (Rise-left l (suc s) ss next ds rise.1)
  where
    by_test : (b : Bool) → Rise (suc s) (serials_but l ss ds) next
        → Rise least (cond b (serials_but l ss ds) (s ∷ serials_but l ss ds)) next
    by_test true rest =
        Rise-from least (suc s) (serials_but l ss ds) next (omega (arith, rise.0)) rest
    by_test false rest = (rise.0, rest)

many-left : (l : Loc) (ss : List ℕ) (gs : List Group) → length ss ≡ length gs
    → length (serials_but l ss (told_in gs)) ≡ length (groups_but l gs)
many-left l [] [] many = refl
many-left l [] (g ∷ gs) many = absurd (omega arith)
many-left l (s ∷ ss) [] many = absurd (omega arith)
many-left l (s ∷ ss) (g ∷ gs) many =
    by_test (same_loc l g.told.inst.loc) (many-left l ss gs (omega arith))
  where
    by_test : (b : Bool) → length (serials_but l ss (told_in gs)) ≡ length (groups_but l gs)
        → length (cond b (serials_but l ss (told_in gs)) (s ∷ serials_but l ss (told_in gs)))
        ≡ length (cond b (groups_but l gs) (g ∷ groups_but l gs))
    by_test true rest = rest
    by_test false rest = ap suc rest

-- ---- the index of what is left

pub index-left : (l : Loc) (old new : Spots) (gs : List Group) → IsIndex old gs
    → ((site k : ℕ) (at : Loc)
    → get same_key new.marks (key_of site k at)
    ≡ cond (same_loc l at && has_any (told_in gs) site k at) None
    (get same_key old.marks (key_of site k at)))
    → new.serials.items ≡ serials_but l old.serials.items (told_in gs) → new.next ≡ old.next
    → IsIndex new (groups_but l gs)
index-left l old new gs index named serials next = record {
  many = ap length serials ∙ many-left l old.serials.items gs index.many;
  rise = subst (λ n. Rise 0 new.serials.items n) (sym next) (subst (λ ss. Rise 0 ss old.next)
      (sym serials) (Rise-left l 0 old.serials.items old.next (told_in gs) index.rise));
  named = λ site k home.
      named site k home
      ∙ ap (λ o. cond (same_loc l home && has_any (told_in gs) site k home) None o)
      (index.named site k home)
      ∙ by_tests site k home (same_loc l home) (has_any (told_in gs) site k home) refl
      ∙ sym (mark-left l old.serials.items gs site k home index.many)
      ∙ ap (λ ss. mark_in ss (told_in (groups_but l gs)) site k home) (sym serials);
  queues = each_group_but l (λ (g : Group). AreQueues g.told.inst 0 g.told.counts g.queues) gs
      index.queues;
  apart = apart_but l gs index.apart;
}
  where
    by_tests : (site k : ℕ) (home : Loc) (a b : Bool) → has_any (told_in gs) site k home ≡ b
        → cond (a && b) None (mark_in old.serials.items (told_in gs) site k home)
        ≡ cond a None (mark_in old.serials.items (told_in gs) site k home)
    by_tests site k home true true is = refl
    by_tests site k home true false is = any-none old.serials.items (told_in gs) site k home is
    by_tests site k home false b is = refl
