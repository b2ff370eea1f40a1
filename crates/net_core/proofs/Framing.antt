-- What a network does without packets under way it does with any in front of those that it sends.
use Rattle.std.proofs.Common.{◌≡◌, ℕ, List, [], ◌∷◌, ◌++◌, Bool, true, false, cond, Some, length}
use Rattle.std.proofs.Common.{slice_get, refl, sym, ap, ◌∙◌}
use Rattle.std.specs.Prelude.{slice_set}
use Rattle.std.proofs.lemmas.Option.{same_Some}
use Rattle.chem_laws.proofs.Lists.{append_nil}
use Rattle.chem_model.specs.declared.name.Loc.{Loc}
use Rattle.chem_model.specs.declared.event.AtomId.{AtomId}
use Rattle.chem_model.specs.declared.event.Event.{Event}
use Rattle.chem_model.specs.Opening.{root_of}
use Rattle.env_store.specs.CodeParts.{CodeParts}
use Rattle.loc_tree.specs.Tree.{with_mark}
use Rattle.net_laws.specs.Site.{Site}
use Rattle.net_laws.specs.Net.{Addressed, Net, among, home_or, address, without_packet}
use Rattle.net_laws.specs.Holding.{put, drop_request}
use Rattle.net_core.specs.UnderWay.{with_packets}
use Rattle.net_core.specs.declared.choice.Choice.{Choice}
use Rattle.net_core.specs.declared.choice.Choice.TheVariants as choice
use Rattle.net_core.specs.Acting.{HasGuard, Reacts, Delivers, Asks, Halts, Detects, MayGo, Moves}
use Rattle.net_core.specs.Acting.{stays, leaves}
use Rattle.net_core.specs.Acts.{Acts}
use Rattle.net_core.specs.Acts as acts
use Rattle.net_core.specs.Playing.{Does}
use Rattle.net_core.specs.Playing as does
use Rattle.net_core.specs.Senders.{IsSentBy}
use Rattle.net_core.specs.Senders as senders

module _ (net : Net) (ps : List Addressed) where
  -- without packets
  abbrev pub empty : Net
  empty = with_packets [] net

  -- with these
  abbrev pub full : Net
  full = with_packets ps net

  -- with these in front
  abbrev pub behind : Net → Net
  behind new = with_packets (ps ++ new.packets) new

  module _ (c : CodeParts) where
    abbrev guard_framed : (i j k : ℕ) → HasGuard c empty i j k → HasGuard c full i j k
    guard_framed i j k h = record {
      site = h.site;
      group = h.group;
      level = h.level;
      guard = h.guard;
      site_is = h.site_is;
      group_is = h.group_is;
      level_is = h.level_is;
      guard_is = h.guard_is;
      from = h.from;
      below = h.below;
      alive = h.alive;
    }

    pub reacts_framed : (i j k : ℕ) (e : Event) (new : Net) → Reacts c empty i j k e new
        → Reacts c full i j k e (behind new)
    reacts_framed i j k e new h = record {
      by = guard_framed i j k h.by;
      taken = h.taken;
      left = h.left;
      takes = h.takes;
      event_is = h.event_is;
      new_is = ap behind h.new_is;
    }

  abbrev pub asks_framed : (a : AtomId) → Asks empty a → Asks full a
  asks_framed a h = record {
    number = h.number;
    site = h.site;
    request = h.request;
    site_is = h.site_is;
    request_is = h.request_is;
  }

  abbrev pub go_framed : (a : AtomId) → MayGo empty a → MayGo full a
  go_framed a h = record {
    asks = asks_framed a h.asks;
    target = h.target;
    cont = h.cont;
    is = h.is;
    can = h.can;
  }

  pub halts_framed : (a : AtomId) (new : Net) → Halts empty a new → Halts full a (behind new)
  halts_framed a new h = record {
    asks = asks_framed a h.asks;
    is = h.is;
    alive = h.alive;
    new_is = ap behind h.new_is ∙ ap (λ (qs : List Addressed). with_packets qs (record net {
      sites = slice_set net.sites h.asks.number (drop_request a h.asks.site);
      tree = with_mark net.tree h.asks.request.loc;
    })) (append_nil ps);
  }

  pub detects_framed : (a : AtomId) (new : Net) → Detects empty a new → Detects full a (behind new)
  detects_framed a new h = record {
    asks = asks_framed a h.asks;
    target = h.target;
    cont = h.cont;
    is = h.is;
    alive = h.alive;
    dead = h.dead;
    new_is = ap behind h.new_is;
  }

  pub moves_framed : (a : AtomId) (new : Net) → Moves empty a new → Moves full a (behind new)
  moves_framed a new (stays h) =
      stays (record { go = go_framed a h.go; here = h.here; new_is = ap behind h.new_is })
  moves_framed a new (leaves h) = leaves (record {
    go = go_framed a h.go;
    away = h.away;
    into = h.into;
    into_is = h.into_is;
    new_is = ap behind h.new_is;
  })

  -- every event
  pub does_framed : (c : CodeParts) (e : Event) (new : Net) → Does c empty (Some e) new
      → Does c full (Some e) (behind new)
  does_framed c e new (does.react i j k _ _ h) =
      does.react i j k e (behind new) (reacts_framed c i j k e new h)
  does_framed c e new (does.halt a _ h) = does.halt a (behind new) (halts_framed a new h)
  does_framed c e new (does.detect a _ h) = does.detect a (behind new) (detects_framed a new h)
  does_framed c e new (does.move a _ h) = does.move a (behind new) (moves_framed a new h)

  -- of each choice
  pub acts_framed : (c : CodeParts) (x : Choice) (e : Event) (new : Net)
      → Acts c empty x (Some e) new → Acts c full x (Some e) (behind new)
  acts_framed c x e new (acts.react i p _ _ h) =
      acts.react i p e (behind new) (reacts_framed c i p.group p.guard e new h)
  acts_framed c x e new (acts.halt a _ h) = acts.halt a (behind new) (halts_framed a new h)
  acts_framed c x e new (acts.detect a _ h) = acts.detect a (behind new) (detects_framed a new h)
  acts_framed c x e new (acts.move a _ h) = acts.move a (behind new) (moves_framed a new h)

  -- and the same site sends what it sends
  pub sent_framed : (x : Choice) (i : ℕ) → ((f : ℕ) → x ≡ choice.Deliver f → ⊥) → IsSentBy empty x i
      → IsSentBy full x i
  sent_framed x i other (senders.react _ p) = senders.react i p
  sent_framed x i other (senders.deliver f p at) = absurd (other f refl)
  sent_framed x i other (senders.move a go) = senders.move a (go_framed a go)
  sent_framed x i other (senders.halt a asks) = senders.halt a (asks_framed a asks)
  sent_framed x i other (senders.detect a asks) = senders.detect a (asks_framed a asks)

-- ---- and a delivery of the last packet under way

pub without_last : (ps : List Addressed) (p : Addressed)
    → without_packet (length ps) (ps ++ p ∷ []) ≡ ps
without_last [] p = refl
without_last (q ∷ ps) p = ap (λ (qs : List Addressed). q ∷ qs) (without_last ps p)

pub last_is : (ps : List Addressed) (p : Addressed) → slice_get (ps ++ p ∷ []) (length ps) ≡ Some p
last_is [] p = refl
last_is (q ∷ ps) p = last_is ps p

pub delivers_framed : (net new : Net) (ps : List Addressed) (p : Addressed)
    → Delivers (with_packets (p ∷ []) net) 0 new
    → Delivers (with_packets (ps ++ p ∷ []) net) (length ps) (with_packets (ps ++ new.packets) new)
delivers_framed net new ps p h =
    let same : p ≡ h.packet = same_Some p h.packet h.packet_is in
    record {
      packet = h.packet;
      site = h.site;
      packet_is = last_is ps p ∙ ap (λ (q : Addressed). Some q) same;
      site_is = h.site_is;
      new_is = ap (λ (m : Net). with_packets (ps ++ m.packets) m) h.new_is
          ∙ go (among h.site.locs (home h.packet)) h.packet h.site;
    }
  where
    home : Addressed → Loc
    home q = home_or (root_of q.target) q.msg.on

    go : (b : Bool) (q : Addressed) (s : Site)
        → (let m = cond b (record (with_packets (p ∷ [])
        net) { sites = slice_set net.sites q.target (put (home q) q.msg s); packets = [] })
        (record (with_packets (p ∷ []) net) {
          packets =
              record { target = address net.tree (home q); msg = q.msg } ∷ [];
        }) in
        with_packets (ps ++ m.packets) m)
        ≡ cond b (record (with_packets (ps ++ p ∷ []) net) {
          sites = slice_set net.sites q.target (put (home q) q.msg s);
          packets = without_packet (length ps) (ps ++ p ∷ []);
        }) (record (with_packets (ps ++ p ∷ []) net) {
          packets =
              without_packet (length ps) (ps ++ p ∷ [])
              ++ record { target = address net.tree (home q); msg = q.msg } ∷ [];
        })
    go true q s = ap (λ (qs : List Addressed). with_packets qs
        (record net { sites = slice_set net.sites q.target (put (home q) q.msg s) }))
        (append_nil ps ∙ sym (without_last ps p))
    go false q s = ap (λ (qs : List Addressed).
        with_packets (qs ++ record { target = address net.tree (home q); msg = q.msg } ∷ []) net)
        (sym (without_last ps p))
