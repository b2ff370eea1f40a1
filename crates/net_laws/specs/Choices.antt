-- The choices of a network, as its sites make them, and that each is one event.
use Rattle.std.specs.Prelude.{◌≡◌, ℕ, List, [], ◌∷◌, ◌++◌, true, false, Option, Some, None}
use Rattle.std.specs.Prelude.{slice_get, slice_set, length}
use Rattle.chem_model.specs.declared.name.Loc.{Loc}
use Rattle.chem_model.specs.declared.name.Name.{Name}
use Rattle.chem_model.specs.declared.name.Ref.TheVariants.{Known}
use Rattle.chem_model.specs.declared.event.AtomId.{AtomId}
use Rattle.chem_model.specs.declared.event.RuleId.{RuleId}
use Rattle.chem_model.specs.declared.event.Event.{Event}
use Rattle.chem_model.specs.declared.event.Out.{Out}
use Rattle.chem_model.specs.declared.numbered.NumberedRule.{NumberedRule}
use Rattle.chem_model.specs.declared.numbered.Numbered.{Numbered}
use Rattle.chem_model.specs.declared.numbered.Made.{Made}
use Rattle.chem_model.specs.Each.{Each}
use Rattle.chem_model.specs.Reduction.{continuation}
use Rattle.chem_model.specs.Opening.{root_of}
use Rattle.chem_model.specs.Pour.{pour}
use Rattle.wire_packet.specs.MessageFacts.{MessageParts}
use Rattle.wire_packet.specs.GroupFacts.{GroupParts, RequestParts}
use Rattle.net_laws.specs.Site.{Told, Group, Site}
use Rattle.loc_tree.specs.Tree.{spot, number_in, is_alive, is_dead, with_number}
use Rattle.loc_tree.specs.Tree.{with_mark, Tree}
use Rattle.net_laws.specs.Net.{Addressed, Net, Effects, Stands, among, with_effects, with_site}
use Rattle.net_laws.specs.Net.{without_packet, address}
use Rattle.net_laws.specs.Changes.{given_all, ids, IsGuard, Takes}
use Rattle.chem_model.specs.Apply.{apply}
use Rattle.net_laws.specs.Moves.{may_go, moved_made}
use Rattle.net_laws.specs.Kept.{HasGuards, IsNet}
use Rattle.net_laws.specs.Holding.{put, request_with, drop_request}
use Rattle.net_laws.specs.Posting.{Posted, Outcome, Gives, MayPour, pour_here, with_queues}
use Rattle.net_laws.specs.Parcels.{pack, remove, take_in}
use Rattle.chem_model.specs.declared.name.Name.TheVariants as name
use Rattle.chem_model.specs.declared.event.Event.TheVariants as event
use Rattle.wire_packet.specs.declared.packet.Ask.TheVariants as request

-- a choice: a site, a group of it and a rule of the group; a message under way, by its place; or a
-- request
pub data Choice : Type 0 where
  to_react : (site group : ℕ) (rule : RuleId) → Choice
  to_deliver : (flight : ℕ) → Choice
  to_meet : (request : AtomId) → Choice

abbrev pub effects : Outcome → List Out → List Loc → Effects
effects o outs births = record { sends = o.sends; outs = outs; births = births }

-- the network with what a run leaves at the site i and hands out
abbrev pub with_outcome : Net → ℕ → Outcome → List Out → List Loc → Net
with_outcome net i o outs births = with_site net i o.site (effects o outs births)

-- the network with a location moved from the site i to the site j, where a run leaves and hands out
-- the rest
abbrev pub moved_between :
    Net → ℕ → ℕ → Loc → Site → Site → ℕ → List Posted → List Out → Net
moved_between net i j l from into next ps outs =
    let t = with_number net.tree l j in
    let o = pour_here t next [] [] ps (take_in (pack l from) into) in
    with_effects (record net { tree = t })
    (slice_set (slice_set net.sites i (remove l from)) j o.site) j (effects o outs [])

module _ (rules_of : GroupParts → List NumberedRule) where
  -- a run gives what is poured, and may be laid and posted at the site
  pub record Runs (count : ℕ) (t : Tree) (i : ℕ) (s : Site) (a : Made) (next : ℕ)
      (births : List Loc) (ds : List Told) (ps : List Posted) (outs : List Out) : Type 0 where
    pub gives : Gives rules_of i a next births ds ps outs
    pub may : MayPour count t s births ds ps
    pub coded : Each (HasGuards rules_of) ds

  -- what a choice does: its event, if it has one, and the network that it leaves. It is a function
  -- of the network as contracts see it and of the runs
  pub data Works (net : Net) : Choice → Option Event → Net → Type 0 where
    -- React: the fronts of a guard's queues go, and its body is run
    react :
        (i j : ℕ) (s : Site) (g : Group) (r : NumberedRule) (cs : List ℕ)
        (ms : List MessageParts) (left : List (List MessageParts))
        (next : ℕ) (births : List Loc) (ds : List Told) (ps : List Posted) (outs : List Out)
        → slice_get net.sites i ≡ Some s → slice_get s.groups j ≡ Some g
        → IsGuard rules_of g.told r cs
        → number_in (spot net.tree r.loc) ≡ Some i → is_alive net.tree r.loc ≡ true
        → Takes g.queues cs ms left
        → Runs (length net.sites) net.tree i (with_queues s j g left)
        (pour net.seen i (root_of i) (given_all r.pats ms) r.loc s.made r.body)
        next births ds ps outs
        → Works net (to_react i j r.id) (Some (event.React r.id (ids ms)))
        (with_outcome net i
        (pour_here net.tree next births ds ps (with_queues s j g left)) outs births)
    -- Detect: a request goes, and its continuation is poured
    detect :
        (i : ℕ) (s : Site) (q : RequestParts) (target : Loc) (cont : Name)
        (next : ℕ) (births : List Loc) (ds : List Told) (ps : List Posted) (outs : List Out)
        → slice_get net.sites i ≡ Some s → request_with q.id s.requests ≡ Some q
        → q.ask ≡ request.Fail (name.Place target) cont
        → number_in (spot net.tree q.loc) ≡ Some i
        → is_alive net.tree q.loc ≡ true → is_dead net.tree target ≡ true
        → Runs (length net.sites) net.tree i (drop_request q.id s)
        (pour net.seen i (root_of i) [] q.loc s.made (continuation (Known cont)))
        next births ds ps outs
        → Works net (to_meet q.id) (Some (event.Detect q.id))
        (with_outcome net i
        (pour_here net.tree next births ds ps (drop_request q.id s)) outs births)
    -- Halt: a request goes, and its location is marked
    halt :
        (i : ℕ) (s : Site) (q : RequestParts)
        → slice_get net.sites i ≡ Some s → request_with q.id s.requests ≡ Some q
        → q.ask ≡ request.Halt
        → is_alive net.tree q.loc ≡ true
        → Works net (to_meet q.id) (Some (event.Halt q.id))
        (record net {
          sites = slice_set net.sites i (drop_request q.id s);
          tree = with_mark net.tree q.loc;
        })
    -- Go or Fall, to the present host: a request goes, and where the target is alive its
    -- continuation is poured
    move_within :
        (i : ℕ) (s : Site) (q : RequestParts) (target : Loc) (cont : Name)
        (next : ℕ) (births : List Loc) (ds : List Told) (ps : List Posted) (outs : List Out)
        → slice_get net.sites i ≡ Some s → request_with q.id s.requests ≡ Some q
        → q.ask ≡ request.Go (name.Place target) cont
        → may_go net.version net.tree q.loc target ≡ true
        → number_in (spot net.tree q.loc) ≡ Some i → target.site ≡ i
        → Runs (length net.sites) net.tree i (drop_request q.id s)
        (moved_made (is_alive net.tree target) net.seen i q.loc s.made cont)
        next births ds ps outs
        → Works net (to_meet q.id) (Some (event.Move q.id))
        (with_outcome (record net { tree = with_number net.tree q.loc i }) i
        (pour_here net.tree next births ds ps (drop_request q.id s)) outs births)
    -- Go or Fall, to another site: a location leaves with all that stands there but the request, is
    -- taken in at the other site, and where the target is alive the continuation is poured there
    move_between :
        (i j : ℕ) (from into : Site) (q : RequestParts) (target : Loc) (cont : Name)
        (next : ℕ) (ps : List Posted) (outs : List Out)
        → (i ≡ j → ⊥) → slice_get net.sites i ≡ Some from → slice_get net.sites j ≡ Some into
        → request_with q.id from.requests ≡ Some q
        → q.ask ≡ request.Go (name.Place target) cont
        → may_go net.version net.tree q.loc target ≡ true
        → number_in (spot net.tree q.loc) ≡ Some i → target.site ≡ j
        → Runs (length net.sites) (with_number net.tree q.loc j) j
        (take_in (pack q.loc (drop_request q.id from)) into)
        (moved_made (is_alive net.tree target) net.seen j q.loc into.made cont)
        next [] [] ps outs
        → Works net (to_meet q.id) (Some (event.Move q.id))
        (moved_between net i j q.loc (drop_request q.id from) into next ps outs)
    -- a message under way is put at its home, where its target hosts that
    deliver :
        (f : ℕ) (p : Addressed) (s : Site) (site k : ℕ) (home : Loc)
        → slice_get net.packets f ≡ Some p → slice_get net.sites p.target ≡ Some s
        → p.msg.on ≡ name.Chan site k home → among s.locs home ≡ true
        → Works net (to_deliver f) None
        (record net {
          sites = slice_set net.sites p.target (put home p.msg s);
          packets = without_packet f net.packets;
        })
    -- and else goes on, behind all others, to the site that hosts its home
    forward :
        (f : ℕ) (p : Addressed) (s : Site) (site k : ℕ) (home : Loc)
        → slice_get net.packets f ≡ Some p → slice_get net.sites p.target ≡ Some s
        → p.msg.on ≡ name.Chan site k home → among s.locs home ≡ false
        → Works net (to_deliver f) None
        (record net {
          packets =
              without_packet f net.packets
              ++ record { target = address net.tree home; msg = p.msg } ∷ [];
        })

  -- ---- each choice is one event, or none

  -- the event is possible in the solution, and the network stands for what it leads to
  pub record Stepped (e : Event) (n : Numbered) (net : Net) : Type 0 where
    pub after : Numbered
    pub applies : apply n e ≡ Some after
    pub stands : Stands rules_of net after

  -- the network stands for what the event leads to, or without one for the same solution
  abbrev pub Leads : Numbered → Option Event → Net → Type 0
  Leads n None net = Stands rules_of net n
  Leads n (Some e) net = Stepped e n net

  abbrev pub ChoiceIsOneEvent : Type 0
  ChoiceIsOneEvent =
      (net new : Net) (n : Numbered) (choice : Choice) (o : Option Event)
      → Stands rules_of net n → IsNet rules_of net → Works net choice o new
      → Leads n o new × IsNet rules_of new
