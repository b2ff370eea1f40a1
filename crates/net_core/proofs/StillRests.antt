-- Where no request may be met, none may be after a round in which no site came to more requests.
use Rattle.std.proofs.Common.{◌≡◌, ℕ, zero, suc, ◌+◌, ◌-◌, ◌≤◌, List, [], ◌∷◌, ◌++◌, length}
use Rattle.std.proofs.Common.{Option, Some, None, Bool, true, false, cond, refl, sym, ap, ◌∙◌, subst}
use Rattle.std.proofs.Common.{arith, slice_get, inl, inr}
use Rattle.std.specs.Prelude.{slice_set}
use Rattle.chem_model.specs.declared.name.Loc.{Loc}
use Rattle.chem_model.specs.declared.event.AtomId.{AtomId}
use Rattle.chem_model.specs.declared.event.Event.{Event}
use Rattle.chem_model.specs.Opening.{root_of}
use Rattle.wire_packet.specs.MessageFacts.{MessageParts}
use Rattle.wire_packet.specs.GroupFacts.{RequestParts}
use Rattle.wire_packet.specs.declared.packet.Waiting.{Waiting}
use Rattle.env_store.specs.CodeParts.{CodeParts}
use Rattle.env_store.specs.Running.{code_made}
use Rattle.loc_tree.specs.Tree.{Tree, is_alive, is_dead}
use Rattle.net_laws.specs.Site.{Told, Group, Site}
use Rattle.net_laws.specs.Net.{Net, among, home_or, address, without_packet}
use Rattle.net_laws.specs.Holding.{in_groups, put_in, put, put_all, new_group, lay, lay_all}
use Rattle.net_laws.specs.Holding.{host_all, with_request, request_with}
use Rattle.net_laws.specs.Posting.{Posted, a_message, a_request, post, post_all, pour_here, Outcome}
use Rattle.net_laws.specs.Posting.{posted_of, with_queues}
use Rattle.net_laws.specs.Parcels.{all_told}
use Rattle.net_laws.specs.ByCode.{told_by, args_of, run_here}
use Rattle.net_laws.specs.Moves.{may_go}
use Rattle.site_solution.proofs.Ranks.{length-with}
use Rattle.net_core.specs.declared.choice.Choice.TheVariants as choice
use Rattle.net_core.specs.Acting.{Reacts, Delivers, Asks}
use Rattle.net_core.specs.Choosing.{NoneMeetsAny}
use Rattle.net_core.specs.Scheduling.{Collects, all_in, brings, ReactsUpTo, used_up, rests, reacts}
use Rattle.net_core.specs.Scheduling.{AreTurns, no_site, a_site}
use Rattle.net_core.specs.inside.Rests.{asked_by, MayRest, AskNoMore, AreStill}
use Rattle.net_core.specs.inside.Slots.{Pairwise}

-- ---- the requests of a site only grow

-- they are no fewer, and the same where they are no more
pub record Grows (qs rs : List RequestParts) : Type 0 where
  pub more : length qs ≤ length rs
  pub same : length rs ≤ length qs → rs ≡ qs

grows_by : (qs rs : List RequestParts) → rs ≡ qs → Grows qs rs
grows_by qs rs e = record { more = omega (arith, ap length e); same = λ le. e }

grows_both : (qs rs ts : List RequestParts) → Grows qs rs → Grows rs ts → Grows qs ts
grows_both qs rs ts a b = record {
  more = omega (arith, a.more, b.more);
  same = λ le. b.same (omega (arith, le, a.more)) ∙ a.same (omega (arith, le, b.more));
}

asked_grows : (q : RequestParts) (qs : List RequestParts) → Grows qs (with_request q qs)
asked_grows q qs = record {
  more = omega (arith, length-with q qs);
  same = λ le. absurd (omega (arith, le, length-with q qs));
}

put_same : (l : Loc) (m : MessageParts) (s : Site) → (put l m s).requests ≡ s.requests
put_same l m s = go (in_groups s.groups m)
  where
    go : (o : Option (List Group)) → (put_in o l m s).requests ≡ s.requests
    go None = refl
    go (Some gs) = refl

all_put_same : (ws : List Waiting) (s : Site) → (put_all ws s).requests ≡ s.requests
all_put_same [] s = refl
all_put_same (w ∷ ws) s = all_put_same ws (put w.loc w.msg s) ∙ put_same w.loc w.msg s

all_laid_same : (ds : List Told) (s : Site) → (lay_all ds s).requests ≡ s.requests
all_laid_same [] s = refl
all_laid_same (d ∷ ds) s =
    all_laid_same ds (lay d s)
    ∙ all_put_same s.stuck (record s { groups = s.groups ++ new_group d ∷ []; stuck = [] })

posted_grows : (t : Tree) (p : Posted) (s : Site) → Grows s.requests (post t p s).site.requests
posted_grows t (a_message l m) s = go (among s.locs l)
  where
    go : (u : Bool)
        → Grows s.requests (cond {A = Outcome} u (record { site = put l m s; sends = [] })
        (record { site = s; sends = record { target = address t l; msg = m } ∷ [] })).site.requests
    go true = grows_by s.requests (put l m s).requests (put_same l m s)
    go false = grows_by s.requests s.requests refl
posted_grows t (a_request q) s = asked_grows q s.requests

all_posted_grows : (t : Tree) (ps : List Posted) (s : Site)
    → Grows s.requests (post_all t ps s).site.requests
all_posted_grows t [] s = grows_by s.requests s.requests refl
all_posted_grows t (p ∷ ps) s =
    grows_both s.requests (post t p s).site.requests (post_all t ps (post t p s).site).site.requests
    (posted_grows t p s) (all_posted_grows t ps (post t p s).site)

poured_grows :
    (t : Tree) (next : ℕ) (births : List Loc) (ds : List Told) (ps : List Posted) (s : Site)
    → Grows s.requests (pour_here t next births ds ps s).site.requests
poured_grows t next births ds ps s =
    let start = host_all births (record s { made = next }) in
    let laid = lay_all ds start in
    grows_both s.requests laid.requests (post_all t ps laid).site.requests
    (grows_by s.requests laid.requests (all_laid_same ds start)) (all_posted_grows t ps laid)

-- ---- and those of all sites

abbrev pub AreMore : Site → Site → Type 0
AreMore s u = Grows s.requests u.requests

abbrev AreSame : Site → Site → Type 0
AreSame s u = u.requests ≡ s.requests

all_more : (ss : List Site) → Pairwise AreMore ss ss
all_more [] = tt
all_more (s ∷ ss) = (grows_by s.requests s.requests refl, all_more ss)

more_both : (ss ms us : List Site) → Pairwise AreMore ss ms → Pairwise AreMore ms us
    → Pairwise AreMore ss us
more_both [] [] [] a b = tt
more_both [] [] (u ∷ us) a b = absurd b
more_both [] (m ∷ ms) us a b = absurd a
more_both (s ∷ ss) [] us a b = absurd a
more_both (s ∷ ss) (m ∷ ms) [] a b = absurd b
more_both (s ∷ ss) (m ∷ ms) (u ∷ us) a b =
    (grows_both s.requests m.requests u.requests a.0 b.0, more_both ss ms us a.1 b.1)

set_more : (ss : List Site) (i : ℕ) (s u : Site) → slice_get ss i ≡ Some s → AreMore s u
    → Pairwise AreMore ss (slice_set ss i u)
set_more [] i s u e more = cc
set_more (x ∷ xs) zero s u e more =
    let same : s ≡ x = cc in
    (subst (λ (w : Site). AreMore w u) same more, all_more xs)
set_more (x ∷ xs) (suc i) s u e more =
    (grows_by x.requests x.requests refl, set_more xs i s u e more)

-- a network in which all sites have their requests still, or more
pub record NetGrows (net new : Net) : Type 0 where
  pub version : new.version ≡ net.version
  pub sites : Pairwise AreMore net.sites new.sites

net_same : (net : Net) → NetGrows net net
net_same net = record { version = refl; sites = all_more net.sites }

net_both : (net mid new : Net) → NetGrows net mid → NetGrows mid new → NetGrows net new
net_both net mid new a b = record {
  version = b.version ∙ a.version;
  sites = more_both net.sites mid.sites new.sites a.sites b.sites;
}

one_more : (net new : Net) (i : ℕ) (s u : Site) → new.version ≡ net.version
    → new.sites ≡ slice_set net.sites i u → slice_get net.sites i ≡ Some s → AreMore s u
    → NetGrows net new
one_more net new i s u version sites here more = record {
  version = version;
  sites = subst (Pairwise AreMore net.sites) (sym sites) (set_more net.sites i s u here more);
}

delivery_grows : (net new : Net) (f : ℕ) → Delivers net f new → NetGrows net new
delivery_grows net new f h = subst (NetGrows net) (sym h.new_is) (go (among h.site.locs home))
  where
    home : Loc
    home = home_or (root_of h.packet.target) h.packet.msg.on

    there : Site
    there = put home h.packet.msg h.site

    go : (u : Bool)
        → NetGrows net (cond {A = Net} u (record net {
          sites = slice_set net.sites h.packet.target there;
          packets = without_packet f net.packets;
        })
        (record net {
          packets = without_packet f net.packets
              ++ record { target = address net.tree home; msg = h.packet.msg } ∷ [];
        }))
    go true = record {
      version = refl;
      sites = set_more net.sites h.packet.target h.site there h.site_is
          (grows_by h.site.requests there.requests (put_same home h.packet.msg h.site));
    }
    go false = record { version = refl; sites = all_more net.sites }

module _ (c : CodeParts) where
  reaction_grows : (net new : Net) (i j k : ℕ) (e : Event) → Reacts c net i j k e new
      → NetGrows net new
  reaction_grows net new i j k e does =
      let s = does.by.site in
      let g = does.by.group in
      let a = code_made c i does.by.guard.body (g.told.inst.env ++ args_of does.taken)
      g.told.inst.loc s.made in
      let old = with_queues s j g does.left in
      one_more net new i s (run_here c net.tree a old).site
      (ap (λ (w : Net). w.version) does.new_is) (ap (λ (w : Net). w.sites) does.new_is)
      does.by.site_is
      (poured_grows net.tree a.next a.births (all_told (told_by c) a.groups) (posted_of a.atoms)
      old)

  mail_grows : (i old left : ℕ) (net new : Net) → Collects i old net left new → NetGrows net new
  mail_grows i old left net new (all_in _ _ e) = net_same net
  mail_grows i old left net new (brings _ _ f _ mid _ e h rest) =
      net_both net mid new (delivery_grows net mid f h) (mail_grows i (old - 1) left mid new rest)

  reactions_grow : (i quota : ℕ) (net new : Net) (es : List Event)
      → ReactsUpTo c i quota net es new → NetGrows net new
  reactions_grow i quota net new es (used_up _) = net_same net
  reactions_grow i quota net new es (rests _ _ h) = net_same net
  reactions_grow i quota net new es (reacts _ _ mid _ p e ds some ready none does more) =
      net_both net mid new (reaction_grows net mid i p.group p.guard e does)
      (reactions_grow i (quota - 1) mid new ds more)

  pub turns_grow : (quota : ℕ) (sites : List ℕ) (old : ℕ) (net new : Net) (es : List Event)
      → AreTurns c quota sites old net es new → NetGrows net new
  turns_grow quota sites old net new es (no_site _ _) = net_same net
  turns_grow quota sites old net new es (a_site i others _ left _ mid _ first more turn rest) =
      net_both net mid new
      (net_both net turn.mid mid (mail_grows i old left net turn.mid turn.collects)
      (reactions_grow i quota turn.mid mid first turn.reacts))
      (turns_grow quota others left mid new more rest)

-- ---- where no site asks more, all have the requests that they had

all_same : (ss us : List Site) → Pairwise AreMore ss us → AskNoMore us (asked_by ss)
    → Pairwise AreSame ss us
all_same [] [] more no_more = tt
all_same [] (u ∷ us) more no_more = absurd more
all_same (s ∷ ss) [] more no_more = absurd more
all_same (s ∷ ss) (u ∷ us) more no_more = (
  more.0.same (no_more 0 u (length s.requests) refl refl),
  all_same ss us more.1 (λ i w n at of. no_more (suc i) w n at of),
)

same_asked : (ss us : List Site) → Pairwise AreSame ss us → asked_by ss ≡ asked_by us
same_asked [] [] same = refl
same_asked [] (u ∷ us) same = absurd same
same_asked (s ∷ ss) [] same = absurd same
same_asked (s ∷ ss) (u ∷ us) same =
    λ i. length (sym same.0 i) ∷ same_asked ss us same.1 i

-- the site of before
same_at : (ss us : List Site) (i : ℕ) (u : Site) → Pairwise AreSame ss us
    → slice_get us i ≡ Some u
    → (s : Site) × (slice_get ss i ≡ Some s) × (u.requests ≡ s.requests)
same_at [] [] i u same e = cc
same_at [] (w ∷ us) i u same e = absurd same
same_at (s ∷ ss) [] i u same e = absurd same
same_at (s ∷ ss) (w ∷ us) zero u same e =
    let is : u ≡ w = cc in
    (s, refl, ap (λ (v : Site). v.requests) is ∙ same.0)
same_at (s ∷ ss) (w ∷ us) (suc i) u same e = same_at ss us i u same.1 e

module _ (c : CodeParts) (net new : Net) (version : new.version ≡ net.version)
    (tree : new.tree ≡ net.tree) (same : Pairwise AreSame net.sites new.sites) where
  asked_before : (a : AtomId) (asks : Asks new a)
      → (old : Asks net a) × (old.request ≡ asks.request)
  asked_before a asks =
      let at = same_at net.sites new.sites asks.number asks.site same asks.site_is in (
        record {
          number = asks.number;
          site = at.0;
          request = asks.request;
          site_is = at.1;
          request_is = ap (request_with a) (sym at.2) ∙ asks.request_is;
        },
        refl,
      )

  alive_before : (q r : RequestParts) → q ≡ r → is_alive new.tree r.loc ≡ true
      → is_alive net.tree q.loc ≡ true
  alive_before q r is alive =
      ap (λ (x : RequestParts). is_alive net.tree x.loc) is
      ∙ ap (λ (t : Tree). is_alive t r.loc) (sym tree) ∙ alive

  pub none_still : NoneMeetsAny c net → NoneMeetsAny c new
  none_still none (choice.React i p) a is may = cc
  none_still none (choice.Deliver f) a is may = cc
  none_still none (choice.Move b) a is may =
      let old = asked_before b may.asks in
      none (choice.Move b) a is (record {
        asks = old.0;
        target = may.target;
        cont = may.cont;
        is = ap (λ (q : RequestParts). q.ask) old.1 ∙ may.is;
        can = ap (λ (q : RequestParts). may_go net.version net.tree q.loc may.target) old.1
            ∙ ap (λ (v : ℕ). may_go v net.tree may.asks.request.loc may.target) (sym version)
            ∙ ap (λ (t : Tree). may_go new.version t may.asks.request.loc may.target) (sym tree)
            ∙ may.can;
      })
  none_still none (choice.Halt b) a is may =
      let old = asked_before b may.asks in
      none (choice.Halt b) a is (record {
        asks = old.0;
        is = ap (λ (q : RequestParts). q.ask) old.1 ∙ may.is;
        alive = alive_before old.0.request may.asks.request old.1 may.alive;
      })
  none_still none (choice.Detect b) a is may =
      let old = asked_before b may.asks in
      none (choice.Detect b) a is (record {
        asks = old.0;
        target = may.target;
        cont = may.cont;
        is = ap (λ (q : RequestParts). q.ask) old.1 ∙ may.is;
        alive = alive_before old.0.request may.asks.request old.1 may.alive;
        dead = ap (λ (t : Tree). is_dead t may.target) (sym tree) ∙ may.dead;
      })

-- what is known of the requests, after a round
pub still_rests :
    (c : CodeParts) (net new : Net) (asked still : List ℕ) → NetGrows net new
    → new.tree ≡ net.tree → AreStill new.sites asked still → MayRest c net asked
    → MayRest c new still
still_rests c net new asked still grows tree (inl none) rest = inl none
still_rests c net new asked still grows tree (inr are) (inl none) = inl (are.0 ∙ none)
still_rests c net new asked still grows tree (inr are) (inr rest) =
    let no_more : AskNoMore new.sites (asked_by net.sites) =
    subst (AskNoMore new.sites) rest.asked_is are.1 in
    let same = all_same net.sites new.sites grows.sites no_more in
    inr (record {
      asked_is = are.0 ∙ rest.asked_is ∙ same_asked net.sites new.sites same;
      none = none_still c net new grows.version tree same rest.none;
    })

-- and where the sites are the same ones
each_same : (ss : List Site) → Pairwise AreSame ss ss
each_same [] = tt
each_same (s ∷ ss) = (refl, each_same ss)

pub rests_by :
    (c : CodeParts) (net new : Net) (asked : List ℕ) → new.version ≡ net.version
    → new.tree ≡ net.tree → new.sites ≡ net.sites → MayRest c net asked → MayRest c new asked
rests_by c net new asked version tree sites (inl none) = inl none
rests_by c net new asked version tree sites (inr rest) =
    inr (record {
      asked_is = rest.asked_is ∙ ap asked_by (sym sites);
      none = none_still c net new version tree
          (subst (Pairwise AreSame net.sites) (sym sites) (each_same net.sites)) rest.none;
    })
