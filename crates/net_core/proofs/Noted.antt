-- A choice that was made: what it keeps under way, and which site sent the rest.
use Rattle.std.proofs.Common.{◌≡◌, ℕ, zero, suc, ◌-◌, ◌<◌, ◌≤◌, Bool, true, false, cond, List, []}
use Rattle.std.proofs.Common.{◌∷◌, ◌++◌, Option, Some, None, length, replicate, refl, sym, ap, ◌∙◌}
use Rattle.std.proofs.Common.{subst, arith, length-append}
use Rattle.std.specs.Prelude.{is_some, slice_get, slice_set}
use Rattle.std.proofs.lemmas.List.{length-replicate}
use Rattle.chem_laws.proofs.Lists.{append_nil}
use Rattle.chem_model.specs.declared.event.AtomId.{AtomId}
use Rattle.chem_model.specs.declared.event.Event.{Event}
use Rattle.chem_model.specs.declared.event.Event.TheVariants as event
use Rattle.chem_model.specs.Opening.{root_of}
use Rattle.wire_packet.specs.GroupFacts.{RequestParts}
use Rattle.env_store.specs.CodeParts.{CodeParts}
use Rattle.env_store.specs.Running.{code_made}
use Rattle.loc_tree.specs.Tree.{Tree, is_alive, with_number}
use Rattle.net_laws.specs.Site.{Site}
use Rattle.net_laws.specs.Net.{Addressed, Net, among, home_or, address, without_packet}
use Rattle.net_laws.specs.Holding.{put, request_with, drop_request}
use Rattle.net_laws.specs.Posting.{posted_of, with_queues, pour_here}
use Rattle.net_laws.specs.Parcels.{pack, take_in}
use Rattle.net_laws.specs.ByCode.{args_of, run_here}
use Rattle.net_laws.specs.Moves.{continuation_made, moved_made}
use Rattle.net_laws.specs.Meeting.{sent_here}
use Rattle.net_laws.proofs.Sites.{get_below}
use Rattle.failure.specs.Halts.{is_ready}
use Rattle.failure.specs.Deaths.{sees_death}
use Rattle.net_core.specs.declared.choice.Choice.{Choice}
use Rattle.net_core.specs.declared.choice.Choice.TheVariants as choice
use Rattle.net_core.specs.declared.parts.Parts.{Parts}
use Rattle.net_core.specs.declared.senders.Run.{Run}
use Rattle.net_core.specs.Acting.{stays, leaves}
use Rattle.net_core.specs.Acts.{Acts}
use Rattle.net_core.specs.Acts as acts
use Rattle.net_core.specs.Parts.{without, net_of}
use Rattle.net_core.specs.Senders.{IsSentBy, kept}
use Rattle.net_core.specs.Senders as senders
use Rattle.net_core.specs.Whole.{IsWhole, IsNetWhole}
use Rattle.net_core.specs.inside.Noted.{IsMadeNoted}
use Rattle.net_core.specs.inside.Runs.{spread}
use Rattle.net_core.specs.inside.Searched.{meets, IsMet}
use Rattle.net_core.proofs.Carrying.{carried_length}
use Rattle.net_core.proofs.Spreads.{kept_alike}

-- ---- what is under way afterwards

without_same : (f : ℕ) (ps : List Addressed) → without_packet f ps ≡ without f ps
without_same f [] = refl
without_same zero (p ∷ ps) = refl
without_same (suc f) (p ∷ ps) = ap (λ qs. p ∷ qs) (without_same f ps)

-- what is kept, and what is sent behind it
pub record HasMore (x : Choice) (net new : Net) : Type 0 where
  pub more : List Addressed
  pub packets : new.packets ≡ kept x net.packets ++ more

pub acts_keep : (c : CodeParts) (net new : Net) (x : Choice) (o : Option Event) → Acts c net x o new
    → HasMore x net new
acts_keep c net new x o (acts.react i p e _ h) =
    let g = h.by.group.told.inst in
    let a = code_made c i h.by.guard.body (g.env ++ args_of h.taken) g.loc h.by.site.made in
    record {
      more = (run_here c net.tree a (with_queues h.by.site p.group h.by.group h.left)).sends;
      packets = ap (λ (n : Net). n.packets) h.new_is;
    }
acts_keep c net new x o (acts.deliver f _ h) =
    let home = home_or (root_of h.packet.target) h.packet.msg.on in
    go (among h.site.locs home) (slice_set net.sites h.packet.target (put home h.packet.msg h.site))
    (record { target = address net.tree home; msg = h.packet.msg }) h.new_is
  where
    go : (u : Bool) (ss : List Site) (p : Addressed)
        → new
        ≡ cond u (record net { sites = ss; packets = without_packet f net.packets })
        (record net { packets = without_packet f net.packets ++ p ∷ [] })
        → HasMore (choice.Deliver f) net new
    go true ss p e = record {
      more = [];
      packets = ap (λ (n : Net). n.packets) e ∙ without_same f net.packets
          ∙ sym (append_nil (without f net.packets));
    }
    go false ss p e = record {
      more = p ∷ [];
      packets = ap (λ (n : Net). n.packets) e
          ∙ ap (λ (ps : List Addressed). ps ++ p ∷ []) (without_same f net.packets);
    }
acts_keep c net new x o (acts.move a _ (stays h)) =
    let i = h.go.asks.number in
    let m = continuation_made net.seen i h.go.asks.request.loc h.go.asks.site.made h.go.cont in
    record {
      more = (sent_here net.tree m (drop_request a h.go.asks.site)).sends;
      packets = ap (λ (n : Net). n.packets) h.new_is;
    }
acts_keep c net new x o (acts.move a _ (leaves h)) =
    let j = h.go.target.site in
    let l = h.go.asks.request.loc in
    let m = moved_made (is_alive net.tree h.go.target) net.seen j l h.into.made h.go.cont in
    record {
      more = (pour_here (with_number net.tree l j) m.next [] [] (posted_of m.atoms)
          (take_in (pack l (drop_request a h.go.asks.site)) h.into)).sends;
      packets = ap (λ (n : Net). n.packets) h.new_is;
    }
acts_keep c net new x o (acts.halt a _ h) = record {
  more = [];
  packets = ap (λ (n : Net). n.packets) h.new_is ∙ sym (append_nil net.packets);
}
acts_keep c net new x o (acts.detect a _ h) =
    let m = continuation_made net.seen h.asks.number h.asks.request.loc h.asks.site.made h.cont in
    record {
      more = (sent_here net.tree m (drop_request a h.asks.site)).sends;
      packets = ap (λ (n : Net). n.packets) h.new_is;
    }

-- ---- the parts of a choice that was made

module _ (c : CodeParts) (old new : Parts) (x : Choice) (o : Option Event) (events later : ℕ)
    (whole : IsWhole c old events) (after : IsWhole c new later)
    (acted : Acts c (net_of c.seen old) x o (net_of c.seen new)) (was mid : List Run)
    (same : mid ≡ was) (sent : length (spread was) ≡ old.under_way) where
  abbrev before : List Addressed
  before = (net_of c.seen old).packets

  abbrev now : List Addressed
  now = (net_of c.seen new).packets

  counted_old : length (spread was) ≡ length before
  counted_old = sent ∙ whole.flying.counted ∙ sym (carried_length old.flights.items)

  counted_new : new.under_way ≡ length now
  counted_new = after.flying.counted ∙ sym (carried_length new.flights.items)

  left : length (kept x (spread was)) ≡ length (kept x before)
  left = kept_alike x (spread was) before counted_old

  at_most : length (kept x before) ≤ length now
  at_most =
      let h = acts_keep c (net_of c.seen old) (net_of c.seen new) x o acted in
      omega (arith, ap length h.packets, length-append (kept x before) h.more)

  pub before_is : length (spread mid) ≡ old.under_way
  before_is = ap (λ (rs : List Run). length (spread rs)) same ∙ sent

  pub more_is : length (kept x (spread mid)) ≤ new.under_way
  more_is = omega
      (arith, ap (λ (rs : List Run). length (kept x (spread rs))) same, left, at_most, counted_new)

  module _ (sender : ℕ) (by : IsSentBy (net_of c.seen old) x sender) (runs : List Run)
      (noted : spread runs
      ≡ kept x (spread mid)
      ++ replicate (new.under_way - length (kept x (spread mid))) sender) where
    noted_as :
        spread runs ≡ kept x (spread was) ++ replicate (length now - length (kept x before)) sender
    noted_as =
        let count : new.under_way - length (kept x (spread was))
        ≡ length now - length (kept x before) = omega (arith, left, counted_new) in
        noted
        ∙ ap (λ (rs : List Run).
        kept x (spread rs) ++ replicate (new.under_way - length (kept x (spread rs))) sender) same
        ∙ ap (λ (n : ℕ). kept x (spread was) ++ replicate n sender) count

    pub made_noted : IsMadeNoted c old (spread was) x o new (spread runs)
    made_noted = record { acts = acted; sender = sender; sent_by = by; noted = noted_as }

    pub noted_whole : IsNetWhole c new runs later
    noted_whole = record {
      whole = after;
      sent =
          let n = length now - length (kept x before) in
          omega (
            arith,
            ap length noted_as,
            length-append (kept x (spread was)) (replicate n sender),
            length-replicate n sender,
            left,
            at_most,
            counted_new,
          );
    }

-- nothing was made
pub unmade_whole : (c : CodeParts) (old new : Parts) (was mid : List Run) (events : ℕ) → mid ≡ was
    → net_of c.seen new ≡ net_of c.seen old → (IsWhole c old events → IsWhole c new events)
    → IsNetWhole c old was events → IsNetWhole c new mid events
unmade_whole c old new was mid events same net still h =
    let after = still h.whole in
    record {
      whole = after;
      sent = omega (
        arith,
        ap (λ (rs : List Run). length (spread rs)) same,
        h.sent,
        after.flying.counted,
        h.whole.flying.counted,
        ap (λ (n : Net). length n.packets) net,
        carried_length old.flights.items,
        carried_length new.flights.items,
      );
    }

-- ---- who sends

halt_asks : (net : Net) (t : Tree) (a : AtomId) (i : ℕ) (s : Site) → slice_get net.sites i ≡ Some s
    → is_ready t (request_with a s.requests) ≡ true → IsSentBy net (choice.Halt a) i
halt_asks net t a i s at can = go (request_with a s.requests) refl can
  where
    go : (q : Option RequestParts) → request_with a s.requests ≡ q → is_ready t q ≡ true
        → IsSentBy net (choice.Halt a) i
    go None e ready = absurd (cc)
    go (Some q) e ready =
        senders.halt a (record { number = i; site = s; request = q; site_is = at; request_is = e })

detect_asks : (net : Net) (t : Tree) (a : AtomId) (i : ℕ) (s : Site)
    → slice_get net.sites i ≡ Some s
    → is_some (cond (sees_death t (request_with a s.requests)) (Some (event.Detect a)) None) ≡ true
    → IsSentBy net (choice.Detect a) i
detect_asks net t a i s at dead = go (request_with a s.requests) refl dead
  where
    go : (q : Option RequestParts) → request_with a s.requests ≡ q
        → is_some (cond (sees_death t q) (Some (event.Detect a)) None) ≡ true
        → IsSentBy net (choice.Detect a) i
    go None e sees = absurd (cc)
    go (Some q) e sees = senders.detect a
        (record { number = i; site = s; request = q; site_is = at; request_is = e })

module _ (net : Net) (version : ℕ) (t : Tree) (x : Choice) (a : AtomId) (i : ℕ)
    (met : IsMet version net.sites t x i) where
  met_by : (y : Choice) → x ≡ y → meets version t y met.site ≡ true
  met_by y is = ap (λ (z : Choice). meets version t z met.site) (sym is) ∙ met.met

  pub halt_sends : x ≡ choice.Halt a → IsSentBy net x i
  halt_sends is = subst (λ (y : Choice). IsSentBy net y i) (sym is)
      (halt_asks net t a i met.site met.site_is (met_by (choice.Halt a) is))

  pub detect_sends : x ≡ choice.Detect a → IsSentBy net x i
  detect_sends is = subst (λ (y : Choice). IsSentBy net y i) (sym is)
      (detect_asks net t a i met.site met.site_is (met_by (choice.Detect a) is))

  pub met_low : i < length net.sites
  met_low = get_below net.sites i met.site met.site_is
