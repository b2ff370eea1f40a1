-- What holds of a site that stands within limits: what its tests say, and how it stays there.
use Rattle.std.proofs.Common.{◌≡◌, ℕ, ◌<◌, ◌≤◌, List, [], ◌∷◌, Bool, true, false, refl, sym}
use Rattle.std.proofs.Common.{ap, ◌∙◌, subst, arith, eqb-true, ltb-true, lt-ltb}
use Rattle.std.specs.Prelude.{not, ◌&&◌, ◌||◌, ◌==◌, nat_lt, is_some}
use Rattle.std.specs.List.{list_all, list_any}
use Rattle.std.proofs.lemmas.Bool.{and_parts, and_from}
use Rattle.chem_model.specs.declared.name.Loc.{Loc}
use Rattle.chem_model.specs.declared.event.AtomId.{AtomId}
use Rattle.chem_model.specs.Apply.{same_atom}
use Rattle.chem_laws.proofs.Taking.{same_atom_is}
use Rattle.wire_packet.specs.MessageFacts.{MessageParts}
use Rattle.wire_packet.specs.declared.packet.Waiting.{Waiting}
use Rattle.wire_packet.specs.GroupFacts.{RequestParts}
use Rattle.net_laws.specs.Site.{Told, Group, Site, told_in}
use Rattle.net_laws.specs.Holding.{request_with}
use Rattle.site_shelves.specs.Named.{names_in, message_in, request_in, group_in}
use Rattle.site_shelves.specs.Named.{all_in}
use Rattle.site_shelves.specs.Draws.{is_drawn, told_drawn, message_drawn, all_drawn}
use Rattle.site_shelves.specs.Held.{is_id_of, in_queues, in_groups_of, has_atom}
use Rattle.site_shelves.proofs.Fronts.{AreGone}
use Rattle.site_limits.specs.Limits.{Limits, is_before, message_within}
use Rattle.site_limits.specs.Limits.{request_within, loc_within, told_within, group_within}
use Rattle.site_limits.specs.Limits.{IsWithin, AreWithin}
use Rattle.site_solution.proofs.AllHold.{AllHold, all-both, all-weaker, holds-weaker, come-holds}
use Rattle.site_solution.proofs.AllHold.{gone-holds}
use Rattle.site_solution.proofs.Adding.{HasCome}
use Rattle.site_solution.proofs.Leaves.{drawn-later}
use Rattle.site_solution.proofs.Together.{drawn_from}
use Rattle.site_solution.proofs.Arriving.{told_later}
use Rattle.site_limits.proofs.Learned.{Stays}
use Rattle.site_limits.proofs.Stays.{names-weaker, message-weaker, ask-weaker, loc-stays}
use Rattle.site_limits.proofs.Stays.{message-stays, request-stays, told-stays}

-- ---- what the tests say

module _ (b : Limits) (number : ℕ) where
  before-in : (m : MessageParts) → message_within b m ≡ true
      → (is_before b m.id ≡ true) × (message_in b.known m ≡ true)
  before-in m h = and_parts (is_before b m.id) (message_in b.known m) h

  asked-in : (q : RequestParts) → request_within b q ≡ true
      → (is_before b q.id ≡ true) × (request_in b.known q ≡ true)
  asked-in q h = and_parts (is_before b q.id) (request_in b.known q) h

  drawn-in : (d : Told) → told_within b number d ≡ true
      → told_drawn number b.drawn d ≡ true
  drawn-in d h =
      (and_parts (told_drawn number b.drawn d) (names_in b.known d.inst.env && b.shaped d) h).0

  env-in : (d : Told) → told_within b number d ≡ true
      → (names_in b.known d.inst.env ≡ true) × (b.shaped d ≡ true)
  env-in d h = and_parts (names_in b.known d.inst.env) (b.shaped d)
      (and_parts (told_drawn number b.drawn d) (names_in b.known d.inst.env && b.shaped d) h).1

  pub as-held : (s : Site) → IsWithin b number s
      → AllHold (message_within b) (told_within b number) (request_within b) s
  as-held s h = record { groups = h.groups; stuck = h.stuck; requests = h.requests }

  -- where all that may be named is there, all that is named is
  pub all-named : (there : Loc → Bool) (s : Site)
      → ((l : Loc) → b.known l ≡ true → there l ≡ true) → IsWithin b number s
      → all_in there s ≡ true
  all-named there s weaker h =
      let all = holds-weaker (message_within b) (message_in there) (told_within b number)
      (λ (d : Told). names_in there d.inst.env) (request_within b) (request_in there) s
      (λ m e. message-weaker b.known there weaker m (before-in m e).1)
      (λ d e. names-weaker b.known there weaker d.inst.env (env-in d e).0)
      (λ q e. ask-weaker b.known there weaker q.ask (asked-in q e).1) (as-held s h) in
      let stuck = list_all (λ (w : Waiting). message_in there w.msg) s.stuck in
      let requests = list_all (request_in there) s.requests in
      and_from (list_all (group_in there) s.groups) (stuck && requests) all.groups
      (and_from stuck requests all.stuck all.requests)

  before-drawn : (made : ℕ) (i : AtomId) → b.after number ≤ made → is_before b i ≡ true
      → is_drawn number made i.site i.k ≡ true
  before-drawn made i past h = go (i.site == number) refl
    where
      less : i.k < b.after i.site
      less = ltb-true i.k (b.after i.site) h

      go : (t : Bool) → (i.site == number) ≡ t → not (i.site == number) || nat_lt i.k made ≡ true
      go true e =
          let at : b.after i.site ≡ b.after number = ap b.after (eqb-true i.site number e) in
          let under : nat_lt i.k made ≡ true = lt-ltb i.k made (omega (arith, less, at, past)) in
          rw e under
      go false e = rw e refl

  -- where the count is past them, all that the site made and holds has a number below it
  pub all-below : (s : Site) → s.number ≡ number → b.drawn ≤ s.made → b.after number ≤ s.made
      → IsWithin b number s → all_drawn s ≡ true
  all-below s same drawn past h =
      let asked : RequestParts → Bool =
      λ (q : RequestParts). is_drawn number s.made q.id.site q.id.k in
      let all = holds-weaker (message_within b) (message_drawn number s.made)
      (told_within b number) (told_drawn number s.made) (request_within b) asked s
      (λ m e. before-drawn s.made m.id past (before-in m e).0)
      (λ d e. told_later number b.drawn s.made d drawn (drawn-in d e))
      (λ q e. before-drawn s.made q.id past (asked-in q e).0) (as-held s h) in
      let locs = all-weaker (loc_within b number)
      (λ (l : Loc). is_drawn number s.made l.site l.k) s.locs
      (λ l e. drawn-later number b.drawn s.made l.site l.k drawn e) h.locs in
      let at : all_drawn (record s { number = number }) ≡ true =
      drawn_from (record s { number = number }) (record {
        locs = locs;
        groups = all.groups;
        stuck = all.stuck;
        requests = all.requests;
      }) in
      subst (λ (n : ℕ). all_drawn (record s { number = n }) ≡ true) (sym same) at

  -- each group may be laid
  pub all-shaped : (gs : List Group) → list_all (group_within b number) gs ≡ true
      → list_all b.shaped (told_in gs) ≡ true
  all-shaped [] h = refl
  all-shaped (g ∷ gs) h =
      let both = and_parts (group_within b number g) (list_all (group_within b number) gs) h in
      let one = and_parts (told_within b number g.told)
      (list_all (list_all (message_within b)) g.queues) both.0 in
      and_from (b.shaped g.told) (list_all b.shaped (told_in gs)) (env-in g.told one.0).1
      (all-shaped gs both.1)

  -- ---- ids that are past the limits

  module _ (i : AtomId) (past : b.after i.site ≤ i.k) where
    other : (j : AtomId) → is_before b j ≡ true → same_atom j i ≡ false
    other j h = go (same_atom j i) refl
      where
        go : (t : Bool) → same_atom j i ≡ t → t ≡ false
        go true e =
            let same : j ≡ i = same_atom_is j i e in
            let less : i.k < b.after i.site =
            subst (λ (x : AtomId). x.k < b.after x.site) same (ltb-true j.k (b.after j.site) h) in
            absurd (omega (arith, less, past))
        go false e = refl

    none-queue : (q : List MessageParts) → list_all (message_within b) q ≡ true
        → list_any (is_id_of i) q ≡ false
    none-queue [] h = refl
    none-queue (m ∷ q) h =
        let both = and_parts (message_within b m) (list_all (message_within b) q) h in
        rw (other m.id (before-in m both.0).0) (none-queue q both.1)

    none-queues : (qs : List (List MessageParts))
        → list_all (list_all (message_within b)) qs ≡ true → in_queues i qs ≡ false
    none-queues [] h = refl
    none-queues (q ∷ qs) h =
        let both = and_parts (list_all (message_within b) q)
        (list_all (list_all (message_within b)) qs) h in
        rw (none-queue q both.0) (none-queues qs both.1)

    none-groups : (gs : List Group) → list_all (group_within b number) gs ≡ true
        → in_groups_of i gs ≡ false
    none-groups [] h = refl
    none-groups (g ∷ gs) h =
        let both = and_parts (group_within b number g) (list_all (group_within b number) gs) h in
        let one = and_parts (told_within b number g.told)
        (list_all (list_all (message_within b)) g.queues) both.0 in
        rw (none-queues g.queues one.1) (none-groups gs both.1)

    none-stuck : (ws : List Waiting)
        → list_all (λ (w : Waiting). message_within b w.msg) ws ≡ true
        → list_any (λ (w : Waiting). is_id_of i w.msg) ws ≡ false
    none-stuck [] h = refl
    none-stuck (w ∷ ws) h =
        let both = and_parts (message_within b w.msg)
        (list_all (λ (v : Waiting). message_within b v.msg) ws) h in
        rw (other w.msg.id (before-in w.msg both.0).0) (none-stuck ws both.1)

    none-asked : (qs : List RequestParts) → list_all (request_within b) qs ≡ true
        → is_some (request_with i qs) ≡ false
    none-asked [] h = refl
    none-asked (q ∷ qs) h =
        let both = and_parts (request_within b q) (list_all (request_within b) qs) h in
        rw (other q.id (asked-in q both.0).0) (none-asked qs both.1)

    -- nothing here has this id
    pub not-held : (s : Site) → IsWithin b number s → has_atom i s ≡ false
    not-held s h =
        rw (none-groups s.groups h.groups, none-stuck s.stuck h.stuck)
        (none-asked s.requests h.requests)

  -- ---- the site changes

  -- less is held
  pub within-gone : (s : Site) (gs : List Group) → AreGone s gs → IsWithin b number s
      → IsWithin b number (record s { groups = gs })
  within-gone s gs gone h =
      let all = gone-holds (message_within b) (told_within b number) (request_within b) s gs gone
      (as-held s h) in
      record {
        locs = h.locs;
        groups = all.groups;
        stuck = all.stuck;
        requests = all.requests;
      }

  -- more is, within the same limits
  pub within-come :
      (next : ℕ) (ls : List Loc) (ds : List Told) (ws : List Waiting) (qs : List RequestParts)
      (s new : Site) → HasCome next ls ds ws qs s new → AreWithin b number ls ds ws qs
      → IsWithin b number s → IsWithin b number new
  within-come next ls ds ws qs s new come more h =
      let all = come-holds (message_within b) (told_within b number) (request_within b) next ls ds
      ws qs s new come (as-held s h) more.told more.waiting more.requests in
      record {
        locs = ap (list_all (loc_within b number)) come.locs
            ∙ all-both (loc_within b number) s.locs ls h.locs more.locs;
        groups = all.groups;
        stuck = all.stuck;
        requests = all.requests;
      }

-- ---- the limits grow

pub within-stays : (number : ℕ) (s : Site) → Stays (λ d. IsWithin d number s)
within-stays number s a b wider h =
    let all = holds-weaker (message_within a) (message_within b) (told_within a number)
    (told_within b number) (request_within a) (request_within b) s
    (λ m e. message-stays m a b wider e) (λ d e. told-stays number d a b wider e)
    (λ q e. request-stays q a b wider e) (as-held a number s h) in
    record {
      locs = all-weaker (loc_within a number) (loc_within b number) s.locs
          (λ l e. loc-stays number l a b wider e) h.locs;
      groups = all.groups;
      stuck = all.stuck;
      requests = all.requests;
    }
