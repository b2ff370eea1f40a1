-- What a network does by a choice is one thing.
use Rattle.std.proofs.Common.{◌≡◌, ℕ, ◌+◌, ◌-◌, ◌<◌, List, [], ◌∷◌, ◌++◌, Option, Some, Bool, true}
use Rattle.std.proofs.Common.{false, cond, refl, sym, ap, ◌∙◌, subst, slice_get}
use Rattle.std.specs.Prelude.{slice_set}
use Rattle.chem_model.specs.declared.name.Loc.{Loc}
use Rattle.chem_model.specs.declared.name.Name.{Name}
use Rattle.chem_model.specs.declared.name.Name.TheVariants as name
use Rattle.chem_model.specs.declared.event.AtomId.{AtomId}
use Rattle.chem_model.specs.declared.event.Event.{Event}
use Rattle.chem_model.specs.declared.event.Event.TheVariants as event
use Rattle.chem_model.specs.declared.numbered.NumberedAtom.{NumberedAtom}
use Rattle.chem_model.specs.declared.numbered.Numbered.{Numbered}
use Rattle.chem_model.specs.ProgramFacts.{ProgramTerms}
use Rattle.chem_model.specs.Each.{Each}
use Rattle.chem_model.specs.Bag.{bag}
use Rattle.chem_model.specs.Apply.{same_atom}
use Rattle.chem_model.specs.Opening.{root_of}
use Rattle.wire_packet.specs.MessageFacts.{MessageParts}
use Rattle.wire_packet.specs.declared.packet.Ask.{Ask}
use Rattle.wire_packet.specs.declared.packet.Ask.TheVariants as request
use Rattle.wire_packet.specs.GroupFacts.{RequestParts}
use Rattle.env_store.specs.declared.code.Guard.{Guard}
use Rattle.env_store.specs.declared.code.Level.{Level}
use Rattle.env_store.specs.CodeParts.{CodeParts}
use Rattle.env_store.specs.Running.{code_made}
use Rattle.env_store.specs.Laws.{rules_of_group}
use Rattle.loc_tree.specs.Tree.{spot, number_in, is_alive, with_number, with_mark}
use Rattle.net_laws.specs.Site.{Group, Site, coded_atom, ask_term, request_atom}
use Rattle.net_laws.specs.Net.{Addressed, Net, Stands, among, home_or}
use Rattle.net_laws.specs.Changes.{Takes, ids}
use Rattle.net_laws.specs.Kept.{IsKept}
use Rattle.net_laws.specs.Holding.{request_with, drop_request}
use Rattle.net_laws.specs.Posting.{posted_of, with_queues}
use Rattle.net_laws.specs.Choices.{with_outcome, moved_between}
use Rattle.net_laws.specs.ByCode.{args_of, run_here}
use Rattle.net_laws.specs.Moves.{continuation_made, moved_made}
use Rattle.net_laws.specs.Meeting.{sent_here}
use Rattle.net_laws.specs.Opened.{RunsCode}
use Rattle.net_laws.proofs.Events.{asked_there}
use Rattle.net_laws.proofs.Follows.{atom_once}
use Rattle.net_laws.proofs.Holds.{each_get}
use Rattle.net_core.specs.Acting.{HasGuard, Reacts, delivered, Delivers, Asks, Halts, Detects}
use Rattle.net_core.specs.Acting.{MayGo, Stays, Leaves, Moves, stays, leaves}
use Rattle.net_core.specs.OneAnswer.{ActsAreOne}
use Rattle.net_core.proofs.Enabling.{held_request}
use Rattle.net_core.proofs.Leading.{request_id}

pub one_of : {X : Type 0} (o : Option X) (x y : X) → o ≡ Some x → o ≡ Some y → x ≡ y
one_of o x y e f = let both : Some x ≡ Some y = sym e ∙ f in cc

-- ---- a reaction

pub takes_one :
    (queues : List (List MessageParts)) (cs : List ℕ) (ms ns : List MessageParts)
    (left other : List (List MessageParts)) → Takes queues cs ms left → Takes queues cs ns other
    → (ms ≡ ns) × (left ≡ other)
takes_one queues [] [] [] left other h g = (refl, sym h ∙ g)
takes_one queues [] [] (n ∷ ns) left other h g = absurd g
takes_one queues [] (m ∷ ms) ns left other h g = absurd h
takes_one queues (c ∷ cs) [] ns left other h g = absurd h
takes_one queues (c ∷ cs) (m ∷ ms) [] left other h g = absurd g
takes_one queues (c ∷ cs) (m ∷ ms) (n ∷ ns) left other h g =
    let both : m ∷ h.0 ≡ n ∷ g.0 = one_of (slice_get queues c) (m ∷ h.0) (n ∷ g.0) h.1 g.1 in
    let front : m ≡ n = cc in
    let rest : h.0 ≡ g.0 = cc in
    let later = takes_one (slice_set queues c h.0) cs ms ns left other h.2
    (subst (λ (q : List MessageParts). Takes (slice_set queues c q) cs ns other) (sym rest) g.2) in
    (λ i. front i ∷ later.0 i, later.1)

-- what a guard is
record SameGuard (c : CodeParts) (net : Net) (i j k : ℕ) (a b : HasGuard c net i j k) : Type 0 where
  site : a.site ≡ b.site
  group : a.group ≡ b.group
  level : a.level ≡ b.level
  guard : a.guard ≡ b.guard

same_guard : (c : CodeParts) (net : Net) (i j k : ℕ) (a b : HasGuard c net i j k)
    → SameGuard c net i j k a b
same_guard c net i j k a b =
    let site = one_of (slice_get net.sites i) a.site b.site a.site_is b.site_is in
    let group = one_of (slice_get b.site.groups j)
    a.group b.group (ap (λ (s : Site). slice_get s.groups j) (sym site) ∙ a.group_is) b.group_is in
    record {
      site = site;
      group = group;
      level = one_of (slice_get c.levels b.group.told.inst.level) a.level b.level
          (ap (λ (g : Group). slice_get c.levels g.told.inst.level) (sym group) ∙ a.level_is)
          b.level_is;
      guard = one_of (slice_get c.guards k) a.guard b.guard a.guard_is b.guard_is;
    }

reacts_one : (c : CodeParts) (net : Net) (i j k : ℕ) (e f : Event) (new other : Net)
    → Reacts c net i j k e new → Reacts c net i j k f other → (e ≡ f) × (new ≡ other)
reacts_one c net i j k e f new other x y =
    let same = same_guard c net i j k x.by y.by in
    let queues : x.by.group.queues ≡ y.by.group.queues = ap (λ (g : Group). g.queues) same.group in
    let chans : x.by.guard.chans ≡ y.by.guard.chans = ap (λ (g : Guard). g.chans) same.guard in
    let first : Takes y.by.group.queues x.by.guard.chans x.taken x.left =
    subst (λ (q : List (List MessageParts)). Takes q x.by.guard.chans x.taken x.left) queues
    x.takes in
    let takes : Takes y.by.group.queues y.by.guard.chans x.taken x.left =
    subst (λ (cs : List ℕ). Takes y.by.group.queues cs x.taken x.left) chans first in
    let taken =
    takes_one y.by.group.queues y.by.guard.chans x.taken y.taken x.left y.left takes y.takes in (
      x.event_is ∙ (λ t. event_by (same.group t) (same.level t) (taken.0 t)) ∙ sym y.event_is,
      x.new_is ∙ (λ t. net_by (same.site t) (same.group t) (same.guard t) (taken.0 t) (taken.1 t))
          ∙ sym y.new_is,
    )
  where
    event_by : Group → Level → List MessageParts → Event
    event_by group level taken =
        let g = group.told.inst in
        event.React (record { site = g.rules.site; k = g.rules.k + (k - level.first) }) (ids taken)

    net_by : Site → Group → Guard → List MessageParts → List (List MessageParts) → Net
    net_by site group guard taken left =
        let g = group.told.inst in
        let a = code_made c i guard.body (g.env ++ args_of taken) g.loc site.made in
        with_outcome net i (run_here c net.tree a (with_queues site j group left)) a.outs a.births

-- ---- a delivery

delivers_one : (net : Net) (f : ℕ) (new other : Net) → Delivers net f new → Delivers net f other
    → new ≡ other
delivers_one net f new other x y =
    let packet = one_of (slice_get net.packets f) x.packet y.packet x.packet_is y.packet_is in
    let site = one_of (slice_get net.sites y.packet.target) x.site y.site
    (ap (λ (p : Addressed). slice_get net.sites p.target) (sym packet) ∙ x.site_is) y.site_is in
    x.new_is ∙ (λ t. net_by (packet t) (site t)) ∙ sym y.new_is
  where
    net_by : Addressed → Site → Net
    net_by p s = delivered net f p s (home_or (root_of p.target) p.msg.on)

-- ---- requests

-- a request is what its atom says
same_ask : (v w : Ask) → ask_term v ≡ ask_term w → v ≡ w
same_ask (request.Go a b) (request.Go c d) e =
    let target : a ≡ c = cc in
    let cont : b ≡ d = cc in
    λ i. request.Go (target i) (cont i)
same_ask (request.Go a b) (request.Fail c d) e = cc
same_ask (request.Go a b) request.Halt e = cc
same_ask (request.Fail a b) (request.Go c d) e = cc
same_ask (request.Fail a b) (request.Fail c d) e =
    let target : a ≡ c = cc in
    let cont : b ≡ d = cc in
    λ i. request.Fail (target i) (cont i)
same_ask (request.Fail a b) request.Halt e = cc
same_ask request.Halt (request.Go c d) e = cc
same_ask request.Halt (request.Fail c d) e = cc
same_ask request.Halt request.Halt e = refl

request_is : (p q : RequestParts) → request_atom p ≡ request_atom q → p ≡ q
request_is p q e = λ i. record {
  id = (e i).id;
  loc = (e i).loc;
  ask = same_ask p.ask q.ask (ap (λ (a : NumberedAtom). a.term) e) i;
}

-- a fact of all requests holds of the one that is found
pub each_request :
    (P : RequestParts → Type 0) (qs : List RequestParts) (a : AtomId) (q : RequestParts) → Each P qs
    → request_with a qs ≡ Some q → P q
each_request P [] a q all e = cc
each_request P (x ∷ qs) a q all e = go (same_atom x.id a) (each_request P qs a q all.1) e
  where
    go : (u : Bool) → (request_with a qs ≡ Some q → P q)
        → cond u (Some x) (request_with a qs) ≡ Some q → P q
    go true ih f = let same : x ≡ q = cc in subst P same all.0
    go false ih f = ih f

module _ (p : ProgramTerms) (c : CodeParts) (net : Net) (n : Numbered)
    (stands : Stands (rules_of_group p) net n) (runs : RunsCode p c net) where
  pub record SameRequest (a : AtomId) (x y : Asks net a) : Type 0 where
    pub number : x.number ≡ y.number
    pub site : x.site ≡ y.site
    pub request : x.request ≡ y.request

  -- two requests with one id are one: they are one atom of the solution, so they stand at one
  -- location, which one site hosts
  pub same_request : (a : AtomId) (x y : Asks net a) → SameRequest a x y
  same_request a x y =
      let id : x.request.id ≡ y.request.id =
      request_id x.site.requests a x.request x.request_is
      ∙ sym (request_id y.site.requests a y.request y.request_is) in
      let atom = atom_once (rules_of_group p) net n stands (request_atom x.request)
      (request_atom y.request) id (there x) (there y) in
      let request = request_is x.request y.request atom in
      let number = one_of (number_in (spot net.tree y.request.loc)) x.number y.number
      (ap (λ (q : RequestParts). number_in (spot net.tree q.loc)) (sym request) ∙ hosted x)
      (hosted y) in
      record {
        number = number;
        site = one_of (slice_get net.sites y.number)
            x.site y.site (ap (slice_get net.sites) (sym number) ∙ x.site_is) y.site_is;
        request = request;
      }
    where
      there : (z : Asks net a) → 0 < bag coded_atom n.atoms (request_atom z.request)
      there z = asked_there (rules_of_group p) net n z.number z.site z.request stands
          z.site_is (held_request z.site.requests a z.request z.request_is)

      hosted : (z : Asks net a) → number_in (spot net.tree z.request.loc) ≡ Some z.number
      hosted z =
          let kept = each_get IsKept net.sites z.number z.site z.site_is runs.keeps.kept in
          let here = each_request (λ (r : RequestParts). among z.site.locs r.loc ≡ true)
          z.site.requests a z.request kept.requests_here z.request_is in
          ((stands.hosts z.number z.site z.site_is).locs z.request.loc).0 here

  halts_one : (a : AtomId) (new other : Net) → Halts net a new → Halts net a other → new ≡ other
  halts_one a new other x y =
      let same = same_request a x.asks y.asks in
      x.new_is ∙ (λ t. net_by (same.number t) (same.site t) (same.request t)) ∙ sym y.new_is
    where
      net_by : ℕ → Site → RequestParts → Net
      net_by i s q = record net {
        sites = slice_set net.sites i (drop_request a s);
        tree = with_mark net.tree q.loc;
      }

  detects_one : (a : AtomId) (new other : Net) → Detects net a new → Detects net a other
      → new ≡ other
  detects_one a new other x y =
      let same = same_request a x.asks y.asks in
      let asks : request.Fail (name.Place x.target) x.cont
      ≡ request.Fail (name.Place y.target) y.cont =
      sym x.is ∙ ap (λ (q : RequestParts). q.ask) same.request ∙ y.is in
      let cont : x.cont ≡ y.cont = cc in
      x.new_is ∙ (λ t. net_by (same.number t) (same.site t) (same.request t) (cont t))
      ∙ sym y.new_is
    where
      net_by : ℕ → Site → RequestParts → Name → Net
      net_by i s q cont =
          let m = continuation_made net.seen i q.loc s.made cont in
          with_outcome net i (sent_here net.tree m (drop_request a s)) m.outs []

  -- ---- moves

  pub record SameGo (a : AtomId) (x y : MayGo net a) : Type 0 where
    pub request : SameRequest a x.asks y.asks
    pub target : x.target ≡ y.target
    pub cont : x.cont ≡ y.cont

  pub same_go : (a : AtomId) (x y : MayGo net a) → SameGo a x y
  same_go a x y =
      let same = same_request a x.asks y.asks in
      let asks : request.Go (name.Place x.target) x.cont ≡ request.Go (name.Place y.target) y.cont =
      sym x.is ∙ ap (λ (q : RequestParts). q.ask) same.request ∙ y.is in
      record { request = same; target = cc; cont = cc }

  -- it goes to the site that has it for both, or for neither
  not_both : (a : AtomId) (new other : Net) → Stays net a new → Leaves net a other → ⊥
  not_both a new other x y =
      let same = same_go a x.go y.go in
      y.away (sym same.request.number ∙ sym x.here ∙ ap (λ (l : Loc). l.site) same.target)

  stays_one : (a : AtomId) (new other : Net) → Stays net a new → Stays net a other → new ≡ other
  stays_one a new other x y =
      let same = same_go a x.go y.go in
      x.new_is
      ∙ (λ t.
      net_by (same.request.number t) (same.request.site t) (same.request.request t) (same.cont t))
      ∙ sym y.new_is
    where
      net_by : ℕ → Site → RequestParts → Name → Net
      net_by i s q cont =
          let m = continuation_made net.seen i q.loc s.made cont in
          with_outcome (record net { tree = with_number net.tree q.loc i }) i
          (sent_here net.tree m (drop_request a s)) m.outs []

  leaves_one : (a : AtomId) (new other : Net) → Leaves net a new → Leaves net a other → new ≡ other
  leaves_one a new other x y =
      let same = same_go a x.go y.go in
      let into = one_of (slice_get net.sites y.go.target.site) x.into y.into
      (ap (λ (l : Loc). slice_get net.sites l.site) (sym same.target) ∙ x.into_is) y.into_is in
      x.new_is
      ∙ (λ t. net_by (same.request.number t) (same.request.site t) (same.request.request t)
      (same.target t) (same.cont t) (into t)) ∙ sym y.new_is
    where
      net_by : ℕ → Site → RequestParts → Loc → Name → Site → Net
      net_by i s q target cont into =
          let m = moved_made (is_alive net.tree target) net.seen target.site q.loc into.made cont in
          moved_between net i target.site q.loc (drop_request a s) into m.next (posted_of m.atoms)
          m.outs

  moves_one : (a : AtomId) (new other : Net) → Moves net a new → Moves net a other → new ≡ other
  moves_one a new other (stays x) (stays y) = stays_one a new other x y
  moves_one a new other (stays x) (leaves y) = absurd (not_both a new other x y)
  moves_one a new other (leaves x) (stays y) = absurd (not_both a other new y x)
  moves_one a new other (leaves x) (leaves y) = leaves_one a new other x y

pub acts_are_one : ActsAreOne
acts_are_one p c net n stands runs = record {
  reacts = reacts_one c net;
  delivers = delivers_one net;
  halts = halts_one p c net n stands runs;
  detects = detects_one p c net n stands runs;
  moves = moves_one p c net n stands runs;
}
