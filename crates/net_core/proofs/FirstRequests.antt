-- Requests of sites: which may be met, and which of them has the least id.
use Rattle.std.proofs.Common.{◌≡◌, ℕ, zero, suc, ◌+◌, ◌<◌, ◌≤◌, List, [], ◌∷◌, length, Option, Some}
use Rattle.std.proofs.Common.{None, Bool, true, false, cond, refl, sym, ap, ◌∙◌, subst, arith, inl}
use Rattle.std.proofs.Common.{inr}
use Rattle.std.specs.Prelude.{slice_get, nat_lt, ◌==◌, ◌||◌, ◌&&◌, ◌↔◌, IsTrue, IfNone, IfSome}
use Rattle.std.specs.Prelude.{is_some}
use Rattle.std.proofs.lemmas.Bool.{and_parts}
use Rattle.std.proofs.lemmas.Bool.Decides.{nat_tests}
use Rattle.std.proofs.lemmas.Option.{slice_get_within}
use Rattle.chem_model.specs.declared.name.Loc.{Loc}
use Rattle.chem_model.specs.declared.name.Name.TheVariants as name
use Rattle.chem_model.specs.declared.event.AtomId.{AtomId}
use Rattle.chem_model.specs.declared.event.Event.{Event}
use Rattle.chem_model.specs.declared.event.Event.TheVariants as event
use Rattle.chem_model.specs.Apply.{same_atom}
use Rattle.chem_laws.proofs.Lists.{true_both}
use Rattle.wire_packet.specs.declared.packet.Ask.{Ask}
use Rattle.wire_packet.specs.declared.packet.Ask.TheVariants as request
use Rattle.wire_packet.specs.GroupFacts.{RequestParts}
use Rattle.env_store.specs.CodeParts.{CodeParts}
use Rattle.loc_tree.specs.Tree.{Tree, is_alive, is_dead, bare}
use Rattle.net_laws.specs.Site.{Site}
use Rattle.net_laws.specs.Net.{Net}
use Rattle.net_laws.specs.Holding.{precedes, request_with}
use Rattle.site_solution.proofs.Together.{request_id}
use Rattle.failure.specs.Halts as halts
use Rattle.failure.specs.Deaths as deaths
use Rattle.migration.specs.Moves as moves
use Rattle.net_core.specs.declared.choice.Choice.{Choice}
use Rattle.net_core.specs.declared.choice.Choice.TheVariants as choice
use Rattle.net_core.specs.Acting.{Asks, MayGo}
use Rattle.net_core.specs.Enabled.{MayHalt, MayDetect}
use Rattle.net_core.specs.Choosing.{Allows, request_of, NoneMeetsAny}
use Rattle.net_core.specs.Asking.{choice_by}
use Rattle.site_turn.specs.Next.{may_meet, NoneMeets, IsLeastMet}
use Rattle.site_turn.proofs.Choices.{can_go_now, can_detect_now, can_halt_now}
use Rattle.net_core.specs.inside.Searched.{HasSites, meets, IsMet, choice_for}
use Rattle.net_core.specs.inside.Searched.{NoneMeets as NoneMeetsAt}
use Rattle.net_core.specs.inside.Searched.{IsMeetable, IsLeastAt, lesser_of, IsLeastOf, IsLeast}
use Rattle.net_core.specs.inside.Searched.{IsFirstMeeting}
use Rattle.net_core.proofs.SiteReactions.{below_or, one_member, alive_bare, dead_bare, move_bare}

-- ---- the order of ids

pub after_not_before : (a b : AtomId) → precedes a b ≡ true → precedes b a ≡ false
after_not_before a b e = pairs a.site a.k b.site b.k e
  where
    pairs : (s k t j : ℕ) → nat_lt s t || ((s == t) && nat_lt k j) ≡ true
        → nat_lt t s || ((t == s) && nat_lt j k) ≡ false
    pairs s k t j e = grind (arith, nat_tests)

pub not_itself : (a : AtomId) → precedes a a ≡ false
not_itself a = pairs a.site a.k
  where
    pairs : (s k : ℕ) → nat_lt s s || ((s == s) && nat_lt k k) ≡ false
    pairs s k = grind (arith, nat_tests)

not_before : (a b c : AtomId) → precedes b c ≡ true → precedes a c ≡ false → precedes a b ≡ false
not_before a b c e f = pairs a.site a.k b.site b.k c.site c.k e f
  where
    pairs : (s k t j u i : ℕ) → nat_lt t u || ((t == u) && nat_lt j i) ≡ true
        → nat_lt s u || ((s == u) && nat_lt k i) ≡ false
        → nat_lt s t || ((s == t) && nat_lt k j) ≡ false
    pairs s k t j u i e f = grind (arith, nat_tests)

-- what doesn't come before a greater one doesn't before a lesser one
pub not_after : (a b c : AtomId) → precedes b c ≡ false → precedes a b ≡ false
    → precedes a c ≡ false
not_after a b c e f = pairs a.site a.k b.site b.k c.site c.k e f
  where
    pairs : (s k t j u i : ℕ) → nat_lt t u || ((t == u) && nat_lt j i) ≡ false
        → nat_lt s t || ((s == t) && nat_lt k j) ≡ false
        → nat_lt s u || ((s == u) && nat_lt k i) ≡ false
    pairs s k t j u i e f = grind (arith, nat_tests)

-- ---- the requests of a site, by the choices that meet them

second : (u v w : Bool) → v ≡ true → u || (v || w) ≡ true
second true v w e = refl
second false v w e = ap (λ (x : Bool). x || w) e

last : (u v w : Bool) → w ≡ true → u || (v || w) ≡ true
last true v w e = refl
last false true w e = refl
last false false w e = e

module _ (version : ℕ) (t : Tree) (s : Site) where
  may_of : (a : AtomId) (v : Ask) → meets version t (choice_by v a) s ≡ true
      → may_meet version t s a ≡ true
  may_of a (request.Go b k) e =
      ap (λ (u : Bool). u || (halts.can_halt t a s || is_some (deaths.dead_for t a s))) e
  may_of a (request.Fail b k) e =
      last (moves.can_go version t a s) (halts.can_halt t a s) (is_some (deaths.dead_for t a s)) e
  may_of a request.Halt e = second (moves.can_go version t a s) (halts.can_halt t a s)
      (is_some (deaths.dead_for t a s)) e

  not_both : (b : Bool) → b ≡ true → b ≡ false → ⊥
  not_both b e f = cc

  pub none_at_all : NoneMeets version t s → (r : RequestParts) → IsMeetable version t s r → ⊥
  none_at_all none r may =
      not_both (may_meet version t s r.id) (may_of r.id r.ask may.met) (none r.id)

  pub least_here : (a : AtomId) (q : RequestParts) → request_with a s.requests ≡ Some q
      → IsLeastMet version t s a → IsLeastAt version t s q
  least_here a q here h =
      let own : q.id ≡ a = request_id s.requests a q here in
      record {
        meetable = record {
          here = ap (λ (b : AtomId). request_with b s.requests) own ∙ here;
          met = ap (λ (b : AtomId). meets version t (choice_by q.ask b) s) own
              ∙ by_kind q.ask refl;
        };
        least = λ r may.
            subst (λ (b : AtomId). precedes r.id b ≡ false) (sym own)
            (h.least r.id (may_of r.id r.ask may.met));
      }
    where
      by_kind : (v : Ask) → q.ask ≡ v → meets version t (choice_by q.ask a) s ≡ true
      by_kind (request.Go b k) e = ap (λ (v : Ask). meets version t (choice_by v a) s) e
          ∙ can_go_now version t s a q here h.met b k e
      by_kind (request.Fail b k) e = ap (λ (v : Ask). meets version t (choice_by v a) s) e
          ∙ can_detect_now version t s a q here h.met b k e
      by_kind request.Halt e = ap (λ (v : Ask). meets version t (choice_by v a) s) e
          ∙ can_halt_now version t s a q here h.met e

-- ---- the requests of all sites

module _ (version : ℕ) (sites : List Site) (t : Tree) where
  -- one site more
  more_of : (n : ℕ) (s : Site) (q : RequestParts) → slice_get sites n ≡ Some s
      → ((i : ℕ) (u : Site) (r : RequestParts) → i < n → slice_get sites i ≡ Some u
      → IsMeetable version t u r → precedes r.id q.id ≡ false)
      → ((r : RequestParts) → IsMeetable version t s r → precedes r.id q.id ≡ false)
      → (i : ℕ) (u : Site) (r : RequestParts) → i < n + 1 → slice_get sites i ≡ Some u
      → IsMeetable version t u r → precedes r.id q.id ≡ false
  more_of n s q here before at i u r below e may =
      elim (below_or n i below) [
        | inl lower ↦ before i u r lower e may
        | inr same ↦
            let there : slice_get sites n ≡ Some u = ap (slice_get sites) (sym same) ∙ e in
            let is : u ≡ s = one_member (slice_get sites n) u s there here in
            at r (subst (λ (v : Site). IsMeetable version t v r) is may)
      ]

  none_more : (n : ℕ) (s : Site) → slice_get sites n ≡ Some s → IsLeast version sites t n None
      → ((r : RequestParts) → IsMeetable version t s r → ⊥) → IsLeast version sites t (n + 1) None
  none_more n s here none last i u r below e may =
      elim (below_or n i below) [
        | inl lower ↦ none i u r lower e may
        | inr same ↦
            let there : slice_get sites n ≡ Some u = ap (slice_get sites) (sym same) ∙ e in
            let is : u ≡ s = one_member (slice_get sites n) u s there here in
            last r (subst (λ (v : Site). IsMeetable version t v r) is may)
      ]

  -- what a site answers
  abbrev pub IsAnswer : Site → Option RequestParts → Type 0
  IsAnswer s None = (r : RequestParts) → IsMeetable version t s r → ⊥
  IsAnswer s (Some q) = IsLeastAt version t s q

  pub answer_is : (s : Site) (o : Option RequestParts)
      → IfNone o ((r : RequestParts) → IsMeetable version t s r → ⊥)
      → IfSome o (IsLeastAt version t s) → IsAnswer s o
  answer_is s None none some = none
  answer_is s (Some q) none some = some

  pub least_step : (n : ℕ) (s : Site) (best answer : Option RequestParts)
      → slice_get sites n ≡ Some s → IsLeast version sites t n best → IsAnswer s answer
      → IsLeast version sites t (n + 1) (lesser_of best answer)
  least_step n s None None here before at = none_more n s here before at
  least_step n s None (Some r) here before at = record {
    number = n;
    site = s;
    site_is = here;
    meetable = at.meetable;
    least = more_of n s r here (λ i u o below e may. absurd (before i u o below e may)) at.least;
  }
  least_step n s (Some q) None here before at = record {
    number = before.number;
    site = before.site;
    site_is = before.site_is;
    meetable = before.meetable;
    least = more_of n s q here before.least (λ r may. absurd (at r may));
  }
  least_step n s (Some q) (Some r) here before at = by_order (precedes r.id q.id) refl
    where
      by_order : (b : Bool) → precedes r.id q.id ≡ b
          → IsLeast version sites t (n + 1) (cond b (Some r) (Some q))
      by_order true e = record {
        number = n;
        site = s;
        site_is = here;
        meetable = at.meetable;
        least = more_of n s r here
            (λ i u o below f may. not_before o.id r.id q.id e (before.least i u o below f may))
            at.least;
      }
      by_order false e = record {
        number = before.number;
        site = before.site;
        site_is = before.site_is;
        meetable = before.meetable;
        least =
            more_of n s q here before.least (λ o may. not_after o.id r.id q.id e (at.least o may));
      }

-- ---- choices of a network

some_request : (o : Option RequestParts) (test : Option RequestParts → Bool) → test None ≡ false
    → test o ≡ true → (q : RequestParts) × (o ≡ Some q)
some_request None test none e = let no : true ≡ false = sym e ∙ none in cc
some_request (Some q) test none e = (q, refl)

module _ (net : Net) (i : ℕ) (s : Site) (here : slice_get net.sites i ≡ Some s) where
  abbrev asks_at : (a : AtomId) (q : RequestParts) → request_with a s.requests ≡ Some q → Asks net a
  asks_at a q e = record { number = i; site = s; request = q; site_is = here; request_is = e }

  -- each test of a site is what enables the choice
  go_of : (a : AtomId) (q : RequestParts) → request_with a s.requests ≡ Some q → (k : Ask)
      → q.ask ≡ k → moves.goes net.version net.tree q.loc k ≡ true → MayGo net a
  go_of a q e (request.Go (name.Place b) k) is may =
      record { asks = asks_at a q e; target = b; cont = k; is = is; can = may }
  go_of a q e (request.Go (name.Seen n) k) is may = cc
  go_of a q e (request.Go (name.Chan n m h) k) is may = cc
  go_of a q e (request.Go (name.Num n) k) is may = cc
  go_of a q e (request.Go (name.Op n) k) is may = cc
  go_of a q e (request.Fail b k) is may = cc
  go_of a q e request.Halt is may = cc

  halt_of : (a : AtomId) (q : RequestParts) → request_with a s.requests ≡ Some q → (k : Ask)
      → q.ask ≡ k → halts.is_halt k && is_alive net.tree q.loc ≡ true → MayHalt net a
  halt_of a q e request.Halt is may = record { asks = asks_at a q e; is = is; alive = may }
  halt_of a q e (request.Go b k) is may = cc
  halt_of a q e (request.Fail b k) is may = cc

  detect_of : (a : AtomId) (q : RequestParts) → request_with a s.requests ≡ Some q → (k : Ask)
      → q.ask ≡ k → deaths.is_told net.tree q.loc k ≡ true → MayDetect net a
  detect_of a q e (request.Fail (name.Place b) k) is may =
      let both = and_parts (is_alive net.tree q.loc) (is_dead net.tree b) may in
      record { asks = asks_at a q e; target = b; cont = k; is = is; alive = both.0; dead = both.1 }
  detect_of a q e (request.Fail (name.Seen n) k) is may =
      let both = and_parts (is_alive net.tree q.loc) false may in
      absurd (not_true both.1)
    where
      not_true : false ≡ true → ⊥
      not_true e = cc
  detect_of a q e (request.Fail (name.Chan n m h) k) is may =
      let both = and_parts (is_alive net.tree q.loc) false may in
      absurd (not_true both.1)
    where
      not_true : false ≡ true → ⊥
      not_true e = cc
  detect_of a q e (request.Fail (name.Num n) k) is may =
      let both = and_parts (is_alive net.tree q.loc) false may in
      absurd (not_true both.1)
    where
      not_true : false ≡ true → ⊥
      not_true e = cc
  detect_of a q e (request.Fail (name.Op n) k) is may =
      let both = and_parts (is_alive net.tree q.loc) false may in
      absurd (not_true both.1)
    where
      not_true : false ≡ true → ⊥
      not_true e = cc
  detect_of a q e (request.Go b k) is may = cc
  detect_of a q e request.Halt is may = cc

  sees : (b : Bool) (e : Event) → is_some (cond b (Some e) None) ≡ true → b ≡ true
  sees true e h = refl
  sees false e h = cc

  pub met_allows : (c : CodeParts) (x : Choice) → meets net.version net.tree x s ≡ true
      → Allows c net x
  met_allows c (choice.React j p) e = cc
  met_allows c (choice.Deliver f) e = cc
  met_allows c (choice.Move a) e =
      let found =
      some_request (request_with a s.requests) (moves.is_ready net.version net.tree) refl e in
      let q = found.0 in
      go_of a q found.1 q.ask refl (ap (moves.is_ready net.version net.tree) (sym found.1) ∙ e)
  met_allows c (choice.Halt a) e =
      let found = some_request (request_with a s.requests) (halts.is_ready net.tree) refl e in
      let q = found.0 in
      halt_of a q found.1 q.ask refl (ap (halts.is_ready net.tree) (sym found.1) ∙ e)
  met_allows c (choice.Detect a) e =
      let saw = sees (deaths.sees_death net.tree (request_with a s.requests)) (event.Detect a) e in
      let found = some_request (request_with a s.requests) (deaths.sees_death net.tree) refl saw in
      let q = found.0 in
      detect_of a q found.1 q.ask refl (ap (deaths.sees_death net.tree) (sym found.1) ∙ saw)

-- the tree's room is read by none of them
go_bare : (version : ℕ) (t : Tree) (l : Loc) (k : Ask)
    → moves.goes version (bare t) l k ≡ moves.goes version t l k
go_bare version t l (request.Go (name.Place b) k) = move_bare version t l b
go_bare version t l (request.Go (name.Seen n) k) = refl
go_bare version t l (request.Go (name.Chan n m h) k) = refl
go_bare version t l (request.Go (name.Num n) k) = refl
go_bare version t l (request.Go (name.Op n) k) = refl
go_bare version t l (request.Fail b k) = refl
go_bare version t l request.Halt = refl

told_bare : (t : Tree) (l : Loc) (k : Ask) → deaths.is_told (bare t) l k ≡ deaths.is_told t l k
told_bare t l (request.Go b k) = refl
told_bare t l request.Halt = refl
told_bare t l (request.Fail (name.Place a) k) =
    ap (λ b. b && is_dead (bare t) a) (alive_bare t l) ∙ ap (λ b. is_alive t l && b) (dead_bare t a)
told_bare t l (request.Fail (name.Seen n) k) = ap (λ b. b && false) (alive_bare t l)
told_bare t l (request.Fail (name.Chan n m h) k) = ap (λ b. b && false) (alive_bare t l)
told_bare t l (request.Fail (name.Num n) k) = ap (λ b. b && false) (alive_bare t l)
told_bare t l (request.Fail (name.Op n) k) = ap (λ b. b && false) (alive_bare t l)

pub meets_bare : (version : ℕ) (t : Tree) (x : Choice) (s : Site)
    → meets version (bare t) x s ≡ meets version t x s
meets_bare version t (choice.React i p) s = refl
meets_bare version t (choice.Deliver f) s = refl
meets_bare version t (choice.Move a) s = by_request (request_with a s.requests)
  where
    by_request : (o : Option RequestParts)
        → moves.is_ready version (bare t) o ≡ moves.is_ready version t o
    by_request None = refl
    by_request (Some q) = go_bare version t q.loc q.ask
meets_bare version t (choice.Halt a) s = by_request (request_with a s.requests)
  where
    by_request : (o : Option RequestParts) → halts.is_ready (bare t) o ≡ halts.is_ready t o
    by_request None = refl
    by_request (Some q) = ap (λ b. halts.is_halt q.ask && b) (alive_bare t q.loc)
meets_bare version t (choice.Detect a) s =
    ap (λ b. is_some (cond b (Some (event.Detect a)) None)) (by_request (request_with a s.requests))
  where
    by_request : (o : Option RequestParts) → deaths.sees_death (bare t) o ≡ deaths.sees_death t o
    by_request None = refl
    by_request (Some q) = told_bare t q.loc q.ask

-- and what is enabled a site meets
pub record IsSeen (version : ℕ) (t : Tree) (net : Net) (x : Choice) (a : AtomId) : Type 0 where
  pub number : ℕ
  pub site : Site
  pub request : RequestParts
  pub site_is : slice_get net.sites number ≡ Some site
  pub id : request.id ≡ a
  pub is : choice_for request ≡ x
  pub meetable : IsMeetable version t site request

module _ (c : CodeParts) (net : Net) where
  seen_by : (a : AtomId) (asks : Asks net a) (x : Choice) → choice_by asks.request.ask a ≡ x
      → meets net.version net.tree x asks.site ≡ true → IsSeen net.version net.tree net x a
  seen_by a asks x is met =
      let q = asks.request in
      let id = request_id asks.site.requests a q asks.request_is in
      let own : choice_for q ≡ x = ap (choice_by q.ask) id ∙ is in
      record {
        number = asks.number;
        site = asks.site;
        request = q;
        site_is = asks.site_is;
        id = id;
        is = own;
        meetable = record {
          here = ap (λ (b : AtomId). request_with b asks.site.requests) id ∙ asks.request_is;
          met = ap (λ (y : Choice). meets net.version net.tree y asks.site) own ∙ met;
        };
      }

  pub allowed_seen : (x : Choice) (a : AtomId) → request_of x ≡ Some a → Allows c net x
      → IsSeen net.version net.tree net x a
  allowed_seen (choice.React i p) a e may = cc
  allowed_seen (choice.Deliver f) a e may = cc
  allowed_seen (choice.Move b) a e may =
      let same : b ≡ a = cc in
      let q = may.asks.request in
      let asked : moves.goes net.version net.tree q.loc q.ask ≡ true =
      ap (moves.goes net.version net.tree q.loc) may.is ∙ may.can in
      let met : moves.can_go net.version net.tree b may.asks.site ≡ true =
      ap (moves.is_ready net.version net.tree) may.asks.request_is ∙ asked in
      subst (IsSeen net.version net.tree net (choice.Move b)) same
      (seen_by b may.asks (choice.Move b) (ap (λ k. choice_by k b) may.is) met)
  allowed_seen (choice.Halt b) a e may =
      let same : b ≡ a = cc in
      let q = may.asks.request in
      let asked : halts.is_halt q.ask && is_alive net.tree q.loc ≡ true =
      ap (λ k. halts.is_halt k && is_alive net.tree q.loc) may.is ∙ may.alive in
      let met : halts.can_halt net.tree b may.asks.site ≡ true =
      ap (halts.is_ready net.tree) may.asks.request_is ∙ asked in
      subst (IsSeen net.version net.tree net (choice.Halt b)) same
      (seen_by b may.asks (choice.Halt b) (ap (λ k. choice_by k b) may.is) met)
  allowed_seen (choice.Detect b) a e may =
      let same : b ≡ a = cc in
      let q = may.asks.request in
      let asked : deaths.is_told net.tree q.loc q.ask ≡ true =
      ap (deaths.is_told net.tree q.loc) may.is
      ∙ true_both (is_alive net.tree q.loc) (is_dead net.tree may.target) may.alive may.dead in
      let saw : deaths.sees_death net.tree (request_with b may.asks.site.requests) ≡ true =
      ap (deaths.sees_death net.tree) may.asks.request_is ∙ asked in
      let met : is_some (deaths.dead_for net.tree b may.asks.site) ≡ true =
      ap (λ h. is_some (cond h (Some (event.Detect b)) None)) saw in
      subst (IsSeen net.version net.tree net (choice.Detect b)) same
      (seen_by b may.asks (choice.Detect b) (ap (λ k. choice_by k b) may.is) met)

-- ---- what the code answers, by the parts of the network

request_is : (q : RequestParts) → request_of (choice_for q) ≡ Some q.id
request_is q = by_ask q.ask
  where
    by_ask : (k : Ask) → request_of (choice_by k q.id) ≡ Some q.id
    by_ask (request.Go b m) = refl
    by_ask (request.Fail b m) = refl
    by_ask request.Halt = refl

module _ (version : ℕ) (sites : List Site) (t : Tree) where
  pub meets_next : (x : Choice) (n : ℕ) (s : Site) → slice_get sites n ≡ Some s
      → meets version t x s ≡ false → NoneMeetsAt version sites t x n
      → NoneMeetsAt version sites t x (n + 1)
  meets_next x n s here not none i u below e =
      elim (below_or n i below) [
        | inl lower ↦ none i u lower e
        | inr same ↦
            let there : slice_get sites n ≡ Some u = ap (slice_get sites) (sym same) ∙ e in
            subst (λ (v : Site). meets version t x v ≡ false)
            (one_member (slice_get sites n) s u here there) not
      ]

  module _ (c : CodeParts) (net : Net) (parts : HasSites sites t net)
      (same : net.version ≡ version) where
    in_net : (i : ℕ) (s : Site) → slice_get sites i ≡ Some s → slice_get net.sites i ≡ Some s
    in_net i s e = ap (λ ss. slice_get ss i) parts.sites_are ∙ e

    in_sites : (i : ℕ) (s : Site) → slice_get net.sites i ≡ Some s → slice_get sites i ≡ Some s
    in_sites i s e = ap (λ ss. slice_get ss i) (sym parts.sites_are) ∙ e

    pub is_met_allows : (x : Choice) (i : ℕ) → IsMet version sites t x i → Allows c net x
    is_met_allows x i met = met_allows net i met.site (in_net i met.site met.site_is) c x
        (ap (λ (v : ℕ). meets v net.tree x met.site) same
        ∙ ap (λ (u : Tree). meets version u x met.site) parts.tree_is
        ∙ meets_bare version t x met.site ∙ met.met)

    seen_here : (x : Choice) (a : AtomId) → IsSeen net.version net.tree net x a
        → IsSeen version t net x a
    seen_here x a seen =
        let q = seen.request in
        record {
          number = seen.number;
          site = seen.site;
          request = q;
          site_is = seen.site_is;
          id = seen.id;
          is = seen.is;
          meetable = record {
            here = seen.meetable.here;
            met = sym (meets_bare version t (choice_for q) seen.site)
                ∙ ap (λ (u : Tree). meets version u (choice_for q) seen.site) (sym parts.tree_is)
                ∙ ap (λ (v : ℕ). meets v net.tree (choice_for q) seen.site) (sym same)
                ∙ seen.meetable.met;
          };
        }

    pub none_meets_none : (x : Choice) (a : AtomId) → request_of x ≡ Some a
        → NoneMeetsAt version sites t x (length sites) → Allows c net x → ⊥
    none_meets_none x a asks none may =
        let seen = seen_here x a (allowed_seen c net x a asks may) in
        let at = in_sites seen.number seen.site seen.site_is in
        let no : meets version t x seen.site ≡ false =
        none seen.number seen.site (slice_get_within sites seen.number seen.site at) at in
        let yes : meets version t x seen.site ≡ true =
        ap (λ (y : Choice). meets version t y seen.site) (sym seen.is) ∙ seen.meetable.met in
        let both : true ≡ false = sym yes ∙ no in
        cc

    pub site_tells : (x : Choice) (a : AtomId) (o : Option ℕ) (r : Bool) → request_of x ≡ Some a
        → r ≡ is_some o → IfNone o (NoneMeetsAt version sites t x (length sites))
        → IfSome o (IsMet version sites t x) → IsTrue r ↔ Allows c net x
    site_tells x a None r asks is none some = (
      (λ e. let no : true ≡ false = sym e ∙ is in cc),
      (λ may. absurd (none_meets_none x a asks none may)),
    )
    site_tells x a (Some i) r asks is none some = ((λ e. is_met_allows x i some), (λ may. is))

    pub none_least_none : IsLeast version sites t (length sites) None → NoneMeetsAny c net
    none_least_none none x a asks may =
        let seen = seen_here x a (allowed_seen c net x a asks may) in
        let at = in_sites seen.number seen.site seen.site_is in
        none seen.number seen.site seen.request (slice_get_within sites seen.number seen.site at) at
        seen.meetable

    pub least_first : (q : RequestParts) → IsLeastOf version sites t (length sites) q
        → IsFirstMeeting c net (choice_for q)
    least_first q least = (
      q.id,
      record {
        meets = request_is q;
        allowed = is_met_allows (choice_for q) least.number
            (record { site = least.site; site_is = least.site_is; met = least.meetable.met });
        least = λ y b asks may.
            let seen = seen_here y b (allowed_seen c net y b asks may) in
            let at = in_sites seen.number seen.site seen.site_is in
            let not = least.least seen.number seen.site seen.request
            (slice_get_within sites seen.number seen.site at) at seen.meetable in
            ap (λ (d : AtomId). precedes d q.id) (sym seen.id) ∙ not;
      },
    )
