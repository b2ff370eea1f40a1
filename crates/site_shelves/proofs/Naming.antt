-- The index of the groups with one more.
use Rattle.std.proofs.Common.{◌≡◌, ℕ, ◌+◌, ◌-◌, Bool, true, false, cond, List, [], ◌∷◌, ◌++◌}
use Rattle.std.proofs.Common.{length, Option, Some, None, Result, Ok, Err, refl, sym, ap, subst}
use Rattle.std.proofs.Common.{◌∙◌, arith}
use Rattle.std.specs.Prelude.{IsOk, OnOk}
use Rattle.std.specs.HashMap.{get}
use Rattle.std.proofs.lemmas.List.{length-append}
use Rattle.std.proofs.lemmas.Bool.Decides.{nat_tests}
use Rattle.chem_model.specs.declared.name.Loc.{Loc}
use Rattle.chem_model.specs.declared.event.AtomId.{AtomId}
use Rattle.chem_model.specs.Each.{Each}
use Rattle.chem_laws.proofs.Lists.{Each-append}
use Rattle.wire_packet.specs.GroupFacts.{GroupParts}
use Rattle.net_laws.specs.Site.{Told, Group, told_in}
use Rattle.net_laws.specs.Changes.{AreQueues}
use Rattle.net_laws.specs.Kept.{AreApart}
use Rattle.net_laws.specs.Holding.{empty_queues, new_group}
use Rattle.site_shelves.proofs.Queueing.{absent, told-length}
use Rattle.site_shelves.proofs.Marks.{mark-none, mark-push, Rise-push}
use Rattle.site_shelves.proofs.Putting.{told-more}
use Rattle.site_shelves.specs.declared.told.Mark.{Mark}
use Rattle.site_shelves.specs.declared.told.Spots.{Spots}
use Rattle.site_shelves.specs.inside.Index.{same_key, key_of, is_one_of, has_channel, mark_in}
use Rattle.site_shelves.specs.inside.Index.{Rise, Key, Rows, groups_of, told_of, IsIndex}

pub from_ok : {A E : Type 0} (r : Result A E) (P : Type 0) → IsOk r → OnOk r P → P
from_ok (Ok a) P ok p = p
from_ok (Err e) P ok p = absurd (cc)

one-none : (first_site first site k : ℕ) (home at : Loc)
    → is_one_of first_site first 0 home site k at ≡ false
one-none first_site first site k home at = grind (arith, nat_tests)

pub one-more : (first_site first n site k : ℕ) (home at : Loc)
    → is_one_of first_site first (n + 1) home site k at
    ≡ cond (same_key (key_of first_site (first + n) home) (key_of site k at)) true
    (is_one_of first_site first n home site k at)
one-more first_site first n site k home at = grind (arith, nat_tests)

key-same : (a b site k : ℕ) (home at : Loc) → same_key (key_of a b home) (key_of site k at) ≡ true
    → b ≡ k
key-same a b site k home at same = grind (arith, nat_tests)

-- one channel more was noted
pub named-more :
    (first_site first : ℕ) (home : Loc) (n serial site k : ℕ) (at : Loc)
    (before old new : Option Mark)
    → new
    ≡ cond (same_key (key_of first_site (first + n) home) (key_of site k at))
    (Some (record { serial = serial; chan = n })) old
    → old
    ≡ cond (is_one_of first_site first n home site k at)
    (Some (record { serial = serial; chan = k - first })) before
    → new
    ≡ cond (is_one_of first_site first (n + 1) home site k at)
    (Some (record { serial = serial; chan = k - first })) before
named-more first_site first home n serial site k at before old new put was =
    by_test (same_key (key_of first_site (first + n) home) (key_of site k at)) refl put
  where
    by_test : (b : Bool) → same_key (key_of first_site (first + n) home) (key_of site k at) ≡ b
        → new ≡ cond b (Some (record { serial = serial; chan = n })) old
        → new
        ≡ cond (is_one_of first_site first (n + 1) home site k at)
        (Some (record { serial = serial; chan = k - first })) before
    by_test true same here =
        let chan : n ≡ k - first = let e = key-same first_site (first + n) site k home at same in
        omega arith in
        let test : is_one_of first_site first (n + 1) home site k at ≡ true =
        one-more first_site first n site k home at
        ∙ ap (λ b. cond b true (is_one_of first_site first n home site k at)) same in
        rw test (here ∙ ap (λ j. Some (record { serial = serial; chan = j })) chan)
    by_test false other here =
        let test : is_one_of first_site first (n + 1) home site k at
        ≡ is_one_of first_site first n home site k at = one-more first_site first n site k home at
        ∙ ap (λ b. cond b true (is_one_of first_site first n home site k at)) other in
        rw test (here ∙ was)

empty-are : (i : GroupParts) (k : ℕ) (ns : List ℕ) → AreQueues i k ns (empty_queues ns)
empty-are i k [] = tt
empty-are i k (n ∷ ns) = (tt, empty-are i (k + 1) ns)

-- the index of the groups with one more
pub index-added :
    (old new : Spots) (qs : Rows) (gs : List Group) (d : Told) (first : AtomId) (home : Loc)
    (width : ℕ) → IsIndex old (groups_of qs) → AreApart (told_of qs ++ d ∷ [])
    → d.inst.chans ≡ first → d.inst.loc ≡ home → length d.counts ≡ width
    → ((site k : ℕ) (at : Loc)
    → get same_key new.marks (key_of site k at)
    ≡ cond (is_one_of first.site first.k width home site k at)
    (Some (record { serial = old.next; chan = k - first.k }))
    (get same_key old.marks (key_of site k at)))
    → new.serials.items ≡ old.serials.items ++ old.next ∷ [] → new.next ≡ old.next + 1
    → gs ≡ groups_of qs ++ new_group d ∷ [] → IsIndex new gs
index-added old new qs gs d first home width index apart first_is home_is width_is named serials
    next is =
    let told : told_in gs ≡ told_of qs ++ d ∷ [] =
    ap told_in is ∙ told-more (groups_of qs) (new_group d) in
    let many : length old.serials.items ≡ length (told_of qs) =
    index.many ∙ sym (told-length (groups_of qs)) in
    let put : (site k : ℕ) (at : Loc)
    → get same_key new.marks (key_of site k at)
    ≡ cond (has_channel d site k at)
    (Some (record { serial = old.next; chan = k - d.inst.chans.k }))
    (mark_in old.serials.items (told_of qs) site k at) = λ site k at.
    named site k at
    ∙ ap (λ (f : AtomId). cond (is_one_of f.site f.k width home site k at)
    (Some (record { serial = old.next; chan = k - f.k }))
    (get same_key old.marks (key_of site k at))) (sym first_is)
    ∙ ap (λ (l : Loc). cond (is_one_of d.inst.chans.site d.inst.chans.k width l site k at)
    (Some (record { serial = old.next; chan = k - d.inst.chans.k }))
    (get same_key old.marks (key_of site k at))) (sym home_is)
    ∙ ap (λ w. cond (is_one_of d.inst.chans.site d.inst.chans.k w d.inst.loc site k at)
    (Some (record { serial = old.next; chan = k - d.inst.chans.k }))
    (get same_key old.marks (key_of site k at))) (sym width_is)
    ∙ ap (λ o. cond (has_channel d site k at)
    (Some (record { serial = old.next; chan = k - d.inst.chans.k })) o) (index.named site k at) in
    let none : (site k : ℕ) (at : Loc) → has_channel d site k at ≡ true
    → mark_in old.serials.items (told_of qs) site k at ≡ None = λ site k at has.
    mark-none old.serials.items old.next (told_of qs) site k at index.rise many
    (absent (told_of qs) d site k at apart has) in
    record {
      many = ap length serials ∙ length-append old.serials.items (old.next ∷ [])
          ∙ ap (λ n. n + 1) index.many ∙ sym (length-append (groups_of qs) (new_group d ∷ []))
          ∙ ap length (sym is);
      rise =
          subst (λ n. Rise 0 new.serials.items n) (sym next) (subst (λ ss. Rise 0 ss (old.next + 1))
          (sym serials) (Rise-push 0 old.serials.items old.next index.rise));
      named = λ site k at. put site k at
          ∙ sym
          (mark-push old.serials.items (told_of qs) old.next d site k at many (none site k at))
          ∙ ap (λ ss. mark_in ss (told_of qs ++ d ∷ []) site k at) (sym serials)
          ∙ ap (λ ds. mark_in new.serials.items ds site k at) (sym told);
      queues = subst (Each (λ (g : Group). AreQueues g.told.inst 0 g.told.counts g.queues)) (sym is)
          (Each-append (λ (g : Group). AreQueues g.told.inst 0 g.told.counts g.queues)
          (groups_of qs) (new_group d ∷ []) index.queues (empty-are d.inst 0 d.counts, tt));
      apart = subst AreApart (sym told) apart;
    }

-- more room, and the same serials and marks
pub index-reserved : (old new : Spots) (gs : List Group) → new.serials.items ≡ old.serials.items
    → new.next ≡ old.next → ((k : Key) → get same_key new.marks k ≡ get same_key old.marks k)
    → IsIndex old gs → IsIndex new gs
index-reserved old new gs serials next marks index = record {
  many = ap length serials ∙ index.many;
  rise = subst (λ n. Rise 0 new.serials.items n) (sym next)
      (subst (λ ss. Rise 0 ss old.next) (sym serials) index.rise);
  named = λ site k home. marks (key_of site k home) ∙ index.named site k home
      ∙ ap (λ ss. mark_in ss (told_in gs) site k home) (sym serials);
  queues = index.queues;
  apart = index.apart;
}
