-- Of a network each choice is enabled or not, what is enabled can be made, and one choice comes
-- next where any is enabled.
use Rattle.std.proofs.Common.{◌≡◌, ℕ, zero, suc, ◌+◌, ◌-◌, ◌<◌, List, [], ◌∷◌, length, Option, Some}
use Rattle.std.proofs.Common.{None, Bool, true, false, cond, refl, sym, ap, ◌∙◌, subst, arith}
use Rattle.std.proofs.Common.{slice_get, ◌⊎◌, inl, inr, ◌==◌, eq-eqb, eqb-true}
use Rattle.std.specs.Prelude.{nat_lt, ◌||◌, ◌&&◌, slice_index_or}
use Rattle.std.proofs.lemmas.Bool.Decides.{nat_tests}
use Rattle.std.proofs.lemmas.Option.{slice_get_within}
use Rattle.chem_model.specs.declared.name.Loc.{Loc}
use Rattle.chem_model.specs.declared.name.Name.TheVariants as name
use Rattle.chem_model.specs.declared.event.AtomId.{AtomId}
use Rattle.chem_model.specs.declared.event.Event.{Event}
use Rattle.chem_model.specs.declared.event.Event.TheVariants as event
use Rattle.chem_model.specs.declared.numbered.NumberedRule.{NumberedRule}
use Rattle.chem_model.specs.ProgramFacts.{ProgramTerms, IsProgram}
use Rattle.chem_model.specs.Each.{Each}
use Rattle.chem_model.specs.Sound.{IsRule}
use Rattle.chem_laws.proofs.Taking.{apart, rule_found}
use Rattle.wire_packet.specs.MessageFacts.{MessageParts}
use Rattle.wire_packet.specs.declared.packet.Ask.{Ask}
use Rattle.wire_packet.specs.declared.packet.Ask.TheVariants as request
use Rattle.wire_packet.specs.GroupFacts.{GroupParts, RequestParts}
use Rattle.env_store.specs.declared.code.Level.{Level}
use Rattle.env_store.specs.CodeParts.{CodeParts}
use Rattle.env_store.specs.CodeFacts.{IsCode}
use Rattle.env_store.specs.Reading.{IsCodeOf}
use Rattle.env_store.specs.Laws.{rules_of_group}
use Rattle.env_store.proofs.RuleGuards.{reacting_is_pouring}
use Rattle.loc_tree.specs.Tree.{is_alive, is_dead}
use Rattle.loc_tree.proofs.Alive.{own_number}
use Rattle.loc_tree.proofs.Follows.{moves}
use Rattle.reducer.specs.declared.pick.Pick.{Pick}
use Rattle.reducer.specs.Picks.{Picked, Fires}
use Rattle.reducer.specs.Ready.{NoneFires, IsReady}
use Rattle.reducer.proofs.Masks.{HaveFronts, fronts_held}
use Rattle.net_laws.specs.Site.{Told, Site, told_in}
use Rattle.net_laws.specs.Net.{Addressed, Net, IsOnItsWay}
use Rattle.net_laws.specs.Changes.{IsGuard}
use Rattle.net_laws.specs.Holding.{precedes, request_with, with_request}
use Rattle.net_laws.specs.ByCode.{IsOfCode}
use Rattle.net_laws.proofs.Below.{number_below}
use Rattle.net_laws.proofs.ByCode.{rules_are_guards}
use Rattle.net_laws.proofs.Found.{rule_in}
use Rattle.net_laws.proofs.Holds.{each_get, laid_at}
use Rattle.net_laws.proofs.Quiet.{chans_differ, fronts_taken}
use Rattle.net_laws.proofs.React.{rules_differ}
use Rattle.net_laws.proofs.Steps.{guard_there}
use Rattle.net_core.specs.declared.choice.Choice.{Choice}
use Rattle.net_core.specs.declared.choice.Choice.TheVariants as choice
use Rattle.net_laws.specs.Moves as laws
use Rattle.net_laws.proofs.Moves.{may_leave}
use Rattle.net_core.specs.Acting.{HasGuard, Reacts, Delivers, Asks, MayGo, Moves, stays, leaves}
use Rattle.net_core.specs.Enabled.{HasFront, MayHalt, MayDetect}
use Rattle.net_core.specs.Choosing.{MayReact, MayDeliver, Allows, request_of, IsFirstReaction}
use Rattle.net_core.specs.Choosing.{IsNext}
use Rattle.net_core.specs.Choosing as next
use Rattle.net_core.specs.Acts.{Acts}
use Rattle.net_core.specs.Acts as acts
use Rattle.net_core.specs.Asking.{in_order, requests_of, choice_by}
use Rattle.net_core.specs.Scheduling.{IsReadyAt, births_of, ReadyOpens, ReadyOpensNone, Opens}
use Rattle.net_core.proofs.Leading.{get_some, request_id}
use Rattle.net_core.proofs.OneAnswer.{one_of, same_request, each_request}
use Rattle.net_core.proofs.Picking.{IsFine, fires_reacts}
use Rattle.net_core.proofs.Readiness.{Decides, both, as_other, is_true, some_ready}
use Rattle.net_core.proofs.Scheduled.{ready_at_one}

-- ---- lists

is_long : (qs : List (List MessageParts)) (c : ℕ) (m : MessageParts) (rest : List MessageParts)
    → slice_get qs c ≡ Some (m ∷ rest) → 0 < length (slice_index_or qs c [])
is_long [] c m rest e = cc
is_long (q ∷ qs) zero m rest e =
    let same : q ≡ m ∷ rest = cc in
    subst (λ us. 0 < length us) (sym same) (omega arith)
is_long (q ∷ qs) (suc c) m rest e = is_long qs c m rest e

from_fronts : (qs : List (List MessageParts)) (cs : List ℕ) → Each (HasFront qs) cs
    → HaveFronts qs cs
from_fronts qs [] h = tt
from_fronts qs (c ∷ cs) h = (is_long qs c h.0.0 h.0.1 h.0.2, from_fronts qs cs h.1)

-- all requests of a list with one more, and of two lists in order
each_with : (P : RequestParts → Type 0) (q : RequestParts) (rs : List RequestParts)
    → Each P (with_request q rs) → P q × Each P rs
each_with P q [] h = (h.0, tt)
each_with P q (x ∷ xs) h = go (precedes x.id q.id) h (each_with P q xs)
  where
    go : (b : Bool) → Each P (cond b (x ∷ with_request q xs) (q ∷ x ∷ xs))
        → (Each P (with_request q xs) → P q × Each P xs) → P q × Each P (x ∷ xs)
    go true h ih = let later = ih h.1 in (later.0, (h.0, later.1))
    go false h ih = h

each_in_order : (P : RequestParts → Type 0) (qs rs : List RequestParts) → Each P (in_order qs rs)
    → Each P qs × Each P rs
each_in_order P [] rs h = (tt, h)
each_in_order P (q ∷ qs) rs h =
    let first = each_with P q (in_order qs rs) h in
    let later = each_in_order P qs rs first.1 in
    ((first.0, later.0), later.1)

each_asked :
    (P : RequestParts → Type 0) (ss : List Site) (i : ℕ) (s : Site) (a : AtomId) (q : RequestParts)
    → Each P (requests_of ss) → slice_get ss i ≡ Some s → request_with a s.requests ≡ Some q → P q
each_asked P [] i s a q h here e = cc
each_asked P (u ∷ us) zero s a q h here e =
    let same : u ≡ s = cc in
    each_request P u.requests a q (each_in_order P u.requests (requests_of us) h).0
    (subst (λ (v : Site). request_with a v.requests ≡ Some q) (sym same) e)
each_asked P (u ∷ us) (suc i) s a q h here e =
    each_asked P us i s a q (each_in_order P u.requests (requests_of us) h).1 here e

-- ---- ids

not_itself : (s k : ℕ) → nat_lt s s || ((s == s) && nat_lt k k) ≡ false
not_itself s k = grind (arith, nat_tests)

not_before : (s k t j u i : ℕ) → nat_lt t u || ((t == u) && nat_lt j i) ≡ true
    → nat_lt s u || ((s == u) && nat_lt k i) ≡ false
    → nat_lt s t || ((s == t) && nat_lt k j) ≡ false
not_before s k t j u i h e = grind (arith, nat_tests)

pub choice_meets : (v : Ask) (a : AtomId) → request_of (choice_by v a) ≡ Some a
choice_meets (request.Go b k) a = refl
choice_meets (request.Fail b k) a = refl
choice_meets request.Halt a = refl

module _ (p : ProgramTerms) (c : CodeParts) (ok : IsProgram p) (kept : IsCode c) (is : IsCodeOf p c)
    (net : Net) (fine : IsFine p c net) where
  abbrev rules_by : GroupParts → List NumberedRule
  rules_by = rules_of_group p

  -- ---- what is enabled can be made

  -- the guard is that of one of the group's rules
  pub guard_rule : (i j k : ℕ) (by : HasGuard c net i j k)
      → (r : NumberedRule) × IsGuard rules_by by.group.told r by.guard.chans
  guard_rule i j k by =
      let g = by.group in
      let of = each_get (IsOfCode p c) (told_in by.site.groups) j
      g.told (laid_at by.site.groups j g by.group_is)
      (each_get (λ (u : Site). Each (IsOfCode p c) (told_in u.groups)) net.sites i
      by.site by.site_is fine.runs.of_code) in
      let group = reacting_is_pouring p c ok kept is g.told.inst of.0 in
      let same_level : Some group.level ≡ Some by.level = sym group.level_is ∙ by.level_is in
      let levels_are : group.level ≡ by.level = cc in
      let from = by.from in
      let below = by.below in
      let many : length (rules_by g.told.inst) ≡ by.level.guards =
      group.guards ∙ ap (λ (v : Level). v.guards) levels_are in
      let q = k - by.level.first in
      let found = get_some (rules_by g.told.inst) q (omega arith) in
      let number : by.level.first + q ≡ k = omega arith in
      let guard_is : slice_get c.guards (by.level.first + q) ≡ Some by.guard =
      ap (slice_get c.guards) number ∙ by.guard_is in (
        found.0,
        subst (λ (e : Told). IsGuard rules_by e found.0 by.guard.chans) of.1 (rules_are_guards p c
            ok kept is g.told.inst of.0 q found.0 found.1 by.level by.level_is by.guard guard_is),
      )

  pub makes_react : (i j k : ℕ) (by : HasGuard c net i j k)
      → Each (HasFront by.group.queues) by.guard.chans
      → (e : Event) × (new : Net) × Reacts c net i j k e new
  makes_react i j k by fronts =
      let n = fine.solution in
      let g = by.group in
      let one = guard_rule i j k by in
      let r = one.0 in
      let guard = one.1 in
      let found = rule_in n.rules r (rules_differ n fine.stands.sound) (guard_there rules_by net n i
      j by.site g r by.guard.chans fine.stands by.site_is by.group_is guard) in
      let rule = rule_found (IsRule n) n.rules r.id r found fine.stands.sound.rules in
      let taken =
      fronts_taken rules_by g.queues by.guard.chans (chans_differ g.told.inst g.told.counts r.pats
      by.guard.chans guard.channels (apart r.pats rule.is.0.channels)) fronts in (
        _,
        _,
        record {
          by = by;
          taken = taken.0;
          left = taken.1;
          takes = taken.2;
          event_is = refl;
          new_is = refl;
        },
      )

  pub makes_delivery : (f : ℕ) (q : Addressed) → slice_get net.packets f ≡ Some q
      → (new : Net) × Delivers net f new
  makes_delivery f q at =
      let s = get_some net.sites q.target
      (each_get (IsOnItsWay (length net.sites)) net.packets f q at fine.runs.keeps.packets).1 in
      (_, record { packet = q; site = s.0; packet_is = at; site_is = s.1; new_is = refl })

  makes_move : (a : AtomId) → MayGo net a → (new : Net) × Moves net a new
  makes_move a go = at (go.target.site == go.asks.number) refl
    where
      at : (b : Bool) → (go.target.site == go.asks.number) ≡ b → (new : Net) × Moves net a new
      at true e = (
        _,
        stays (record { go = go; here = eqb-true go.target.site go.asks.number e; new_is = refl }),
      )
      at false e =
          let to = (moves net.tree go.asks.request.loc go.target
          (may_leave net.version net.tree go.asks.request.loc go.target go.can)).to_root in
          let below = number_below rules_by net fine.solution fine.stands go.target go.target.site
          (own_number net.tree fine.stands.agrees.tree.is go.target to) in
          let into = get_some net.sites go.target.site below in (
            _,
            leaves
                (record { go = go; away = away e; into = into.0; into_is = into.1; new_is = refl }),
          )
        where
          away : (go.target.site == go.asks.number) ≡ false → go.asks.number ≡ go.target.site → ⊥
          away e same = let t = eq-eqb go.target.site go.asks.number (sym same) in cc

  -- a choice that meets a request
  pub makes_meeting : (x : Choice) (a : AtomId) → request_of x ≡ Some a → Allows c net x
      → (e : Event) × (new : Net) × Acts c net x (Some e) new
  makes_meeting (choice.React i q) a e h = cc
  makes_meeting (choice.Deliver f) a e h = cc
  makes_meeting (choice.Move b) a e h =
      let m = makes_move b h in
      (event.Move b, m.0, acts.move b m.0 m.1)
  makes_meeting (choice.Halt b) a e h = (
    event.Halt b,
    _,
    acts.halt b _ (record { asks = h.asks; is = h.is; alive = h.alive; new_is = refl }),
  )
  makes_meeting (choice.Detect b) a e h = (
    event.Detect b,
    _,
    acts.detect b _ (record {
      asks = h.asks;
      target = h.target;
      cont = h.cont;
      is = h.is;
      alive = h.alive;
      dead = h.dead;
      new_is = refl;
    }),
  )

  abbrev IsMade : Choice → Type 0
  IsMade x = (o : Option Event) × (new : Net) × Acts c net x o new

  some_made : (x : Choice) → (e : Event) × (new : Net) × Acts c net x (Some e) new → IsMade x
  some_made x m = (Some m.0, m.1, m.2)

  pub makes_any : (x : Choice) → Allows c net x → IsMade x
  makes_any (choice.React i q) h =
      let m = makes_react i q.group q.guard h.by h.fronts in
      (Some m.0, m.1, acts.react i q m.0 m.1 m.2)
  makes_any (choice.Deliver f) h =
      let m = makes_delivery f h.packet h.packet_is in
      (None, m.0, acts.deliver f m.0 m.1)
  makes_any (choice.Move b) h = some_made (choice.Move b) (makes_meeting (choice.Move b) b refl h)
  makes_any (choice.Halt b) h = some_made (choice.Halt b) (makes_meeting (choice.Halt b) b refl h)
  makes_any (choice.Detect b) h =
      some_made (choice.Detect b) (makes_meeting (choice.Detect b) b refl h)

  -- ---- which requests can be met

  abbrev Found : AtomId → List Site → Type 0
  Found a ss = (i : ℕ) × (s : Site) × (q : RequestParts) × (slice_get ss i ≡ Some s)
      × (request_with a s.requests ≡ Some q)

  find : (a : AtomId) (ss : List Site) → Decides (Found a ss)
  find a [] = inr (λ h. let e : None ≡ Some h.1 = h.3 in cc)
  find a (s ∷ ss) = at (request_with a s.requests) refl (find a ss)
    where
      none : request_with a s.requests ≡ None → (Found a ss → ⊥)
          → (i : ℕ) (u : Site) (q : RequestParts) → slice_get (s ∷ ss) i ≡ Some u
          → request_with a u.requests ≡ Some q → ⊥
      none e not zero u q here f =
          let same : s ≡ u = cc in
          let clash : None ≡ Some q =
          sym e ∙ ap (λ (v : Site). request_with a v.requests) same ∙ f in
          cc
      none e not (suc i) u q here f = not (i, u, q, here, f)

      at : (o : Option RequestParts) → request_with a s.requests ≡ o → Decides (Found a ss)
          → Decides (Found a (s ∷ ss))
      at (Some q) e rest = inl (0, s, q, refl, e)
      at None e (inl h) = inl (suc h.0, h.1, h.2, h.3, h.4)
      at None e (inr not) = inr (λ h. none e not h.0 h.1 h.2 h.3 h.4)

  some_asks : (a : AtomId) → Decides (Asks net a)
  some_asks a = as_other
      (λ h. record { number = h.0; site = h.1; request = h.2; site_is = h.3; request_is = h.4 })
      (λ x. (x.number, x.site, x.request, x.site_is, x.request_is))
      (find a net.sites)

  same_ask : (a : AtomId) (x y : Asks net a) (v w : Ask) → x.request.ask ≡ v → y.request.ask ≡ w
      → v ≡ w
  same_ask a x y v w e f = sym e
      ∙ ap (λ (q : RequestParts). q.ask)
      (same_request p c net fine.solution fine.stands fine.runs a x y).request ∙ f

  same_loc : (a : AtomId) (x y : Asks net a) → x.request.loc ≡ y.request.loc
  same_loc a x y = ap (λ (q : RequestParts). q.loc)
      (same_request p c net fine.solution fine.stands fine.runs a x y).request

  may_go : (a : AtomId) → Decides (MayGo net a)
  may_go a = step (some_asks a)
    where
      of : (x : Asks net a) (v : Ask) → x.request.ask ≡ v → Decides (MayGo net a)
      of x (request.Go (name.Place b) k) e = as_other
          (λ can. record { asks = x; target = b; cont = k; is = e; can = can })
          (λ m.
          let asks = same_ask a m.asks x (request.Go (name.Place m.target) m.cont)
          (request.Go (name.Place b) k) m.is e in
          let target : m.target ≡ b = cc in
          subst (λ (l : Loc). laws.may_go net.version net.tree x.request.loc l ≡ true) target
          (subst (λ (l : Loc). laws.may_go net.version net.tree l m.target ≡ true)
          (same_loc a m.asks x) m.can))
          (is_true (laws.may_go net.version net.tree x.request.loc b))
      of x (request.Go (name.Seen i) k) e = inr (λ m. let asks = same_ask a m.asks x
          (request.Go (name.Place m.target) m.cont) (request.Go (name.Seen i) k) m.is e in cc)
      of x (request.Go (name.Chan s i h) k) e = inr (λ m. let asks = same_ask a m.asks x
          (request.Go (name.Place m.target) m.cont) (request.Go (name.Chan s i h) k) m.is e in cc)
      of x (request.Go (name.Num n) k) e = inr (λ m. let asks = same_ask a m.asks x
          (request.Go (name.Place m.target) m.cont) (request.Go (name.Num n) k) m.is e in cc)
      of x (request.Go (name.Op n) k) e = inr (λ m. let asks = same_ask a m.asks x
          (request.Go (name.Place m.target) m.cont) (request.Go (name.Op n) k) m.is e in cc)
      of x (request.Fail b k) e = inr (λ m. let asks =
          same_ask a m.asks x (request.Go (name.Place m.target) m.cont) (request.Fail b k) m.is e in
          cc)
      of x request.Halt e = inr (λ m. let asks =
          same_ask a m.asks x (request.Go (name.Place m.target) m.cont) request.Halt m.is e in cc)

      step : Decides (Asks net a) → Decides (MayGo net a)
      step (inr not) = inr (λ m. not m.asks)
      step (inl x) = of x x.request.ask refl

  may_detect : (a : AtomId) → Decides (MayDetect net a)
  may_detect a = step (some_asks a)
    where
      of : (x : Asks net a) (v : Ask) → x.request.ask ≡ v → Decides (MayDetect net a)
      of x (request.Fail (name.Place b) k) e = as_other
          (λ h. record { asks = x; target = b; cont = k; is = e; alive = h.0; dead = h.1 })
          (λ m.
          let asks = same_ask a m.asks x (request.Fail (name.Place m.target) m.cont)
          (request.Fail (name.Place b) k) m.is e in
          let target : m.target ≡ b = cc in (
            subst (λ (l : Loc). is_alive net.tree l ≡ true) (same_loc a m.asks x) m.alive,
            subst (λ (l : Loc). is_dead net.tree l ≡ true) target m.dead,
          ))
          (both (is_true (is_alive net.tree x.request.loc)) (is_true (is_dead net.tree b)))
      of x (request.Fail (name.Seen i) k) e = inr (λ m. let asks = same_ask a m.asks x
          (request.Fail (name.Place m.target) m.cont) (request.Fail (name.Seen i) k) m.is e in cc)
      of x (request.Fail (name.Chan s i h) k) e =
          inr (λ m. let asks = same_ask a m.asks x (request.Fail (name.Place m.target) m.cont)
          (request.Fail (name.Chan s i h) k) m.is e in cc)
      of x (request.Fail (name.Num n) k) e = inr (λ m. let asks = same_ask a m.asks x
          (request.Fail (name.Place m.target) m.cont) (request.Fail (name.Num n) k) m.is e in cc)
      of x (request.Fail (name.Op n) k) e = inr (λ m. let asks = same_ask a m.asks x
          (request.Fail (name.Place m.target) m.cont) (request.Fail (name.Op n) k) m.is e in cc)
      of x (request.Go b k) e = inr (λ m. let asks =
          same_ask a m.asks x (request.Fail (name.Place m.target) m.cont) (request.Go b k) m.is e in
          cc)
      of x request.Halt e = inr (λ m. let asks =
          same_ask a m.asks x (request.Fail (name.Place m.target) m.cont) request.Halt m.is e in cc)

      step : Decides (Asks net a) → Decides (MayDetect net a)
      step (inr not) = inr (λ m. not m.asks)
      step (inl x) = of x x.request.ask refl

  may_halt : (a : AtomId) → Decides (MayHalt net a)
  may_halt a = step (some_asks a)
    where
      of : (x : Asks net a) (v : Ask) → x.request.ask ≡ v → Decides (MayHalt net a)
      of x request.Halt e = as_other
          (λ h. record { asks = x; is = e; alive = h })
          (λ m. subst (λ (l : Loc). is_alive net.tree l ≡ true) (same_loc a m.asks x) m.alive)
          (is_true (is_alive net.tree x.request.loc))
      of x (request.Go b k) e =
          inr (λ m. let asks = same_ask a m.asks x request.Halt (request.Go b k) m.is e in cc)
      of x (request.Fail b k) e =
          inr (λ m. let asks = same_ask a m.asks x request.Halt (request.Fail b k) m.is e in cc)

      step : Decides (Asks net a) → Decides (MayHalt net a)
      step (inr not) = inr (λ m. not m.asks)
      step (inl x) = of x x.request.ask refl

  pub may_meet : (x : Choice) (a : AtomId) → request_of x ≡ Some a → Decides (Allows c net x)
  may_meet (choice.React i q) a e = cc
  may_meet (choice.Deliver f) a e = cc
  may_meet (choice.Move b) a e = may_go b
  may_meet (choice.Halt b) a e = may_halt b
  may_meet (choice.Detect b) a e = may_detect b

  -- ---- the least request that can be met

  abbrev CanMeet : RequestParts → Type 0
  CanMeet q = Allows c net (choice_by q.ask q.id)

  record IsLeast (qs : List RequestParts) : Type 0 where
    request : RequestParts
    can : CanMeet request
    least : Each (λ (r : RequestParts). CanMeet r → precedes r.id request.id ≡ false) qs

  first_before : (q r : RequestParts) (qs : List RequestParts) → precedes q.id r.id ≡ true
      → Each (λ (x : RequestParts). CanMeet x → precedes x.id r.id ≡ false) qs
      → Each (λ (x : RequestParts). CanMeet x → precedes x.id q.id ≡ false) qs
  first_before q r [] e h = tt
  first_before q r (x ∷ xs) e h = (
    λ can. not_before x.id.site x.id.k q.id.site q.id.k r.id.site r.id.k e (h.0 can),
    first_before q r xs e h.1,
  )

  none_before : (q : RequestParts) (qs : List RequestParts)
      → Each (λ (x : RequestParts). CanMeet x → ⊥) qs
      → Each (λ (x : RequestParts). CanMeet x → precedes x.id q.id ≡ false) qs
  none_before q [] h = tt
  none_before q (x ∷ xs) h = (λ can. absurd (h.0 can), none_before q xs h.1)

  least_of : (qs : List RequestParts) → IsLeast qs ⊎ Each (λ (r : RequestParts). CanMeet r → ⊥) qs
  least_of [] = inr tt
  least_of (q ∷ qs) =
      step (may_meet (choice_by q.ask q.id) q.id (choice_meets q.ask q.id)) (least_of qs)
    where
      lesser : CanMeet q → (l : IsLeast qs) → (b : Bool) → precedes q.id l.request.id ≡ b
          → IsLeast (q ∷ qs)
      lesser can l true e = record {
        request = q;
        can = can;
        least = (λ h. not_itself q.id.site q.id.k, first_before q l.request qs e l.least);
      }
      lesser can l false e = record { request = l.request; can = l.can; least = (λ h. e, l.least) }

      step : Decides (CanMeet q) → IsLeast qs ⊎ Each (λ (r : RequestParts). CanMeet r → ⊥) qs
          → IsLeast (q ∷ qs) ⊎ Each (λ (r : RequestParts). CanMeet r → ⊥) (q ∷ qs)
      step (inl can) (inl l) = inl (lesser can l (precedes q.id l.request.id) refl)
      step (inl can) (inr none) = inl (record {
        request = q;
        can = can;
        least = (λ h. not_itself q.id.site q.id.k, none_before q qs none);
      })
      step (inr not) (inl l) =
          inl (record { request = l.request; can = l.can; least = (λ h. absurd (not h), l.least) })
      step (inr not) (inr none) = inr (not, none)

  -- a fact of all requests holds of the one that a choice meets
  of_asked : (P : AtomId → Choice → Type 0) (b : AtomId) (x : Asks net b) (v : Ask)
      → x.request.ask ≡ v
      → Each (λ (q : RequestParts). P q.id (choice_by q.ask q.id)) (requests_of net.sites)
      → P b (choice_by v b)
  of_asked P b x v e all =
      let h = each_asked (λ (q : RequestParts). P q.id (choice_by q.ask q.id))
      net.sites x.number x.site b x.request all x.site_is x.request_is in
      let id = request_id x.site.requests b x.request x.request_is in
      subst (λ (a : AtomId). P a (choice_by v a)) id
      (subst (λ (w : Ask). P x.request.id (choice_by w x.request.id)) e h)

  of_choice : (P : AtomId → Choice → Type 0) (y : Choice) (b : AtomId) → request_of y ≡ Some b
      → Allows c net y
      → Each (λ (q : RequestParts). P q.id (choice_by q.ask q.id)) (requests_of net.sites) → P b y
  of_choice P (choice.React i q) b e h all = cc
  of_choice P (choice.Deliver f) b e h all = cc
  of_choice P (choice.Move a) b e h all =
      let same : a ≡ b = cc in
      subst (λ (d : AtomId). P d (choice.Move a)) same
      (of_asked P a h.asks (request.Go (name.Place h.target) h.cont) h.is all)
  of_choice P (choice.Halt a) b e h all =
      let same : a ≡ b = cc in
      subst (λ (d : AtomId). P d (choice.Halt a)) same (of_asked P a h.asks request.Halt h.is all)
  of_choice P (choice.Detect a) b e h all =
      let same : a ≡ b = cc in
      subst (λ (d : AtomId). P d (choice.Detect a)) same
      (of_asked P a h.asks (request.Fail (name.Place h.target) h.cont) h.is all)

  -- ---- the first reaction

  reacts_fires : (i : ℕ) (q : Pick) (m : MayReact c net i q)
      → (x : Picked) × Fires c net.tree m.by.site q x
  reacts_fires i q m =
      let by = m.by in
      let at = kept.guards q.guard by.guard by.guard_is in (
        record { group = by.group; level = by.level; guard = by.guard },
        record {
          covers = record {
            picks = record {
              group = by.group_is;
              level = by.level_is;
              guard = by.guard_is;
              from = by.from;
              below = by.below;
            };
            held = fronts_held (length at.level.counts) by.group.queues by.guard.chans
                by.guard.mask.words at.mask (from_fronts by.group.queues by.guard.chans m.fronts);
          };
          live = by.alive;
        },
      )

  pub none_reacts : (i : ℕ) (s : Site) (q : Pick) → slice_get net.sites i ≡ Some s
      → NoneFires c net.tree s → MayReact c net i q → ⊥
  none_reacts i s q here none m =
      let same : m.by.site ≡ s = one_of (slice_get net.sites i) m.by.site s m.by.site_is here in
      let fires =
      subst (λ (u : Site). (x : Picked) × Fires c net.tree u q x) same (reacts_fires i q m) in
      none q fires.0 fires.1

  abbrev IsFirst : Type 0
  IsFirst = (i : ℕ) × (q : Pick) × IsFirstReaction c net i q

  abbrev NoneBelow : ℕ → Type 0
  NoneBelow n = (i : ℕ) (q : Pick) → i < n → MayReact c net i q → ⊥

  first_of : (n : ℕ) → IsFirst ⊎ NoneBelow n
  first_of zero = inr (λ i q less h. absurd (omega arith))
  first_of (suc n) = step (first_of n)
    where
      split : (i n : ℕ) → i < suc n → (i < n) ⊎ (i ≡ n)
      split i n h = grind arith

      last_too : NoneBelow n → ((q : Pick) → MayReact c net n q → ⊥) → NoneBelow (suc n)
      last_too none not i q less m =
          elim (split i n less) [
            | inl lower ↦ none i q lower m
            | inr same ↦ not q (subst (λ (k : ℕ). MayReact c net k q) same m)
          ]

      at : NoneBelow n → (s : Site) → slice_get net.sites n ≡ Some s
          → ((q : Pick) × IsReady c net.tree s q) ⊎ NoneFires c net.tree s
          → IsFirst ⊎ NoneBelow (suc n)
      at none s here (inl ready) =
          inl (n, ready.0, record { site = s; site_is = here; ready = ready.1; first = none })
      at none s here (inr not) = inr (last_too none (λ q m. none_reacts n s q here not m))

      there : NoneBelow n → (o : Option Site) → slice_get net.sites n ≡ o
          → IsFirst ⊎ NoneBelow (suc n)
      there none None e = inr
          (last_too none (λ q m. let clash : None ≡ Some m.by.site = sym e ∙ m.by.site_is in cc))
      there none (Some s) e = at none s e (some_ready c net.tree s kept)

      step : IsFirst ⊎ NoneBelow n → IsFirst ⊎ NoneBelow (suc n)
      step (inl f) = inl f
      step (inr none) = there none (slice_get net.sites n) refl

  -- ---- the next choice

  abbrev NoneAllowed : Type 0
  NoneAllowed = (x : Choice) → Allows c net x → ⊥

  none_under_way : (f : ℕ) (q : Addressed) → net.packets ≡ [] → slice_get net.packets f ≡ Some q → ⊥
  none_under_way f q e at = let clash : None ≡ Some q = sym (ap (λ ps. slice_get ps f) e) ∙ at in cc

  pub none_allowed : net.packets ≡ [] → NoneBelow (length net.sites)
      → Each (λ (r : RequestParts). CanMeet r → ⊥) (requests_of net.sites) → NoneAllowed
  none_allowed e none all (choice.React i q) h =
      none i q (slice_get_within net.sites i h.by.site h.by.site_is) h
  none_allowed e none all (choice.Deliver f) h = none_under_way f h.packet e h.packet_is
  none_allowed e none all (choice.Move a) h =
      of_choice (λ _ x. Allows c net x → ⊥) (choice.Move a) a refl h all h
  none_allowed e none all (choice.Halt a) h =
      of_choice (λ _ x. Allows c net x → ⊥) (choice.Halt a) a refl h all h
  none_allowed e none all (choice.Detect a) h =
      of_choice (λ _ x. Allows c net x → ⊥) (choice.Detect a) a refl h all h

  pub some_next : ((x : Choice) × IsNext c net x) ⊎ NoneAllowed
  some_next = under_way net.packets refl
    where
      asked : net.packets ≡ [] → NoneBelow (length net.sites)
          → IsLeast (requests_of net.sites)
          ⊎ Each (λ (r : RequestParts). CanMeet r → ⊥) (requests_of net.sites)
          → ((x : Choice) × IsNext c net x) ⊎ NoneAllowed
      asked e none (inl l) =
          let a = l.request.id in
          let x = choice_by l.request.ask a in
          inl (
            x,
            next.meet a x e
                (λ i q m. none i q (slice_get_within net.sites i m.by.site m.by.site_is) m)
                (record {
                  meets = choice_meets l.request.ask a;
                  allowed = l.can;
                  least = λ y b f h.
                      of_choice (λ d z. Allows c net z → precedes d a ≡ false) y b f h l.least h;
                }),
          )
      asked e none (inr not) = inr (none_allowed e none not)

      reacts : net.packets ≡ [] → IsFirst ⊎ NoneBelow (length net.sites)
          → ((x : Choice) × IsNext c net x) ⊎ NoneAllowed
      reacts e (inl f) = inl (choice.React f.0 f.1, next.react f.0 f.1 e f.2)
      reacts e (inr none) = asked e none (least_of (requests_of net.sites))

      under_way : (ps : List Addressed) → net.packets ≡ ps
          → ((x : Choice) × IsNext c net x) ⊎ NoneAllowed
      under_way (q ∷ qs) e = inl (
        choice.Deliver 0,
        next.deliver (record { packet = q; packet_is = ap (λ ps. slice_get ps 0) e }),
      )
      under_way [] e = reacts e (first_of (length net.sites))

  -- ---- what is ready at a site

  abbrev NoneReady : ℕ → Type 0
  NoneReady i = (q : Pick) → IsReadyAt c net i q → ⊥

  pub ready_at : (i : ℕ) → ((q : Pick) × IsReadyAt c net i q) ⊎ NoneReady i
  ready_at i = there (slice_get net.sites i) refl
    where
      at : (s : Site) → slice_get net.sites i ≡ Some s
          → ((q : Pick) × IsReady c net.tree s q) ⊎ NoneFires c net.tree s
          → ((q : Pick) × IsReadyAt c net i q) ⊎ NoneReady i
      at s here (inl ready) = inl (ready.0, record { site = s; site_is = here; ready = ready.1 })
      at s here (inr none) = inr (λ q r.
          let same : r.site ≡ s = one_of (slice_get net.sites i) r.site s r.site_is here in
          let ready = subst (λ (u : Site). IsReady c net.tree u q) same r.ready in
          none q ready.pick ready.fires)

      there : (o : Option Site) → slice_get net.sites i ≡ o
          → ((q : Pick) × IsReadyAt c net i q) ⊎ NoneReady i
      there None e = inr (λ q r. let clash : None ≡ Some r.site = sym e ∙ r.site_is in cc)
      there (Some s) e = at s e (some_ready c net.tree s kept)

  pub ready_makes : (i : ℕ) (q : Pick) → IsReadyAt c net i q
      → (e : Event) × (new : Net) × Reacts c net i q.group q.guard e new
  ready_makes i q r =
      let m = fires_reacts c net kept i r.site q r.ready.pick r.site_is r.ready.fires in
      makes_react i q.group q.guard m.by m.fronts

  none_or_some : (k : ℕ) → (k ≡ 0) ⊎ (0 < k)
  none_or_some k = grind arith

  -- where one is ready, all that are ready are that one
  all_ready : (P : Pick → Type 0) (i : ℕ) (q : Pick) → IsReadyAt c net i q → P q → (r : Pick)
      → IsReadyAt c net i r → P r
  all_ready P i q h holds r g = subst P (ready_at_one p c ok kept is net i q r h g) holds

  pub may_open : (i : ℕ)
      → ((e : Event) × (new : Net) × Opens c net i e new) ⊎ ReadyOpensNone c net i
  may_open i = go (ready_at i)
    where
      go : ((q : Pick) × IsReadyAt c net i q) ⊎ NoneReady i
          → ((e : Event) × (new : Net) × Opens c net i e new) ⊎ ReadyOpensNone c net i
      go (inr none) = inr (λ q r. absurd (none q r))
      go (inl h) =
          elim (none_or_some (births_of c h.0)) [
            | inl zero_births ↦
                inr (all_ready (λ (q : Pick). births_of c q ≡ 0) i h.0 h.1 zero_births)
            | inr some ↦ (let m = ready_makes i h.0 h.1 in
                inl (m.0, m.1, record { pick = h.0; ready = h.1; some = some; reacts = m.2 }))
          ]

  -- a reaction that is ready and opens nothing
  pub record IsPlain (i : ℕ) : Type 0 where
    pub pick : Pick
    pub ready : IsReadyAt c net i pick
    pub none : births_of c pick ≡ 0
    pub event : Event
    pub new : Net
    pub reacts : Reacts c net i pick.group pick.guard event new

  pub may_react : (i : ℕ) → IsPlain i ⊎ ReadyOpens c net i
  may_react i = go (ready_at i)
    where
      go : ((q : Pick) × IsReadyAt c net i q) ⊎ NoneReady i → IsPlain i ⊎ ReadyOpens c net i
      go (inr none) = inr (λ q r. absurd (none q r))
      go (inl h) =
          elim (none_or_some (births_of c h.0)) [
            | inl zero_births ↦ (let m = ready_makes i h.0 h.1 in inl (record {
              pick = h.0;
              ready = h.1;
              none = zero_births;
              event = m.0;
              new = m.1;
              reacts = m.2;
            }))
            | inr some ↦ inr (all_ready (λ (q : Pick). 0 < births_of c q) i h.0 h.1 some)
          ]
