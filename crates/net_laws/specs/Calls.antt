-- What the calls of a site are: by the functions of what it holds, the events of a part.
use Rattle.std.specs.Prelude.{◌≡◌, ℕ, true, List, [], ◌++◌, Some, slice_get}
use Rattle.chem_model.specs.declared.name.Loc.{Loc}
use Rattle.chem_model.specs.declared.name.Name.{Name}
use Rattle.chem_model.specs.declared.name.Ref.TheVariants.{Known}
use Rattle.chem_model.specs.declared.event.Out.{Out}
use Rattle.chem_model.specs.declared.numbered.NumberedRule.{NumberedRule}
use Rattle.chem_model.specs.Bag.{one, nothing}
use Rattle.chem_model.specs.Each.{Each}
use Rattle.chem_model.specs.Reduction.{continuation}
use Rattle.chem_model.specs.Opening.{root_of}
use Rattle.chem_model.specs.Pour.{pour}
use Rattle.wire_packet.specs.MessageFacts.{MessageParts}
use Rattle.wire_packet.specs.GroupFacts.{GroupParts, RequestParts}
use Rattle.loc_tree.specs.Tree.{Tree, spot, number_in, is_alive, is_dead, with_number}
use Rattle.net_laws.specs.Site.{Told, Group, Site, told_in, coded_atom, message_atom}
use Rattle.net_laws.specs.Net.{IsOnItsWay, among}
use Rattle.net_laws.specs.Changes.{IsGuard, Takes, Alters, given_all}
use Rattle.net_laws.specs.Moves.{may_go, moved_made}
use Rattle.net_laws.specs.Kept.{IsKept}
use Rattle.net_laws.specs.Holding.{put, request_with, drop_request}
use Rattle.net_laws.specs.Posting.{Outcome, Posted, pour_here, with_queues}
use Rattle.net_laws.specs.Parcels.{pack, remove, take_in}
use Rattle.net_laws.specs.Choices.{Runs, effects}
use Rattle.net_laws.specs.Parts.{ReactsHere, DetectsHere, HaltsHere, StaysHere, MovesHere}
use Rattle.chem_model.specs.declared.name.Name.TheVariants as name
use Rattle.wire_packet.specs.declared.packet.Ask.TheVariants as request

-- a site that keeps its facts, with these groups more; and what it sends are messages on channels,
-- to sites
pub record Keeps (count : ℕ) (s : Site) (ds : List Told) (o : Outcome) : Type 0 where
  pub kept : IsKept o.site
  pub told : told_in o.site.groups ≡ told_in s.groups ++ ds
  pub sent : Each (IsOnItsWay count) o.sends

module _ (rules_of : GroupParts → List NumberedRule) where
  -- the fronts of a guard's queues are taken, and a run of its body is poured
  abbrev pub ReactCall : Type 0
  ReactCall =
      (seen : List ℕ) (count : ℕ) (t : Tree) (i j : ℕ) (s : Site) (g : Group)
      (r : NumberedRule) (cs : List ℕ) (ms : List MessageParts)
      (left : List (List MessageParts)) (next : ℕ) (births : List Loc) (ds : List Told)
      (ps : List Posted) (outs : List Out)
      → IsKept s → slice_get s.groups j ≡ Some g → IsGuard rules_of g.told r cs
      → number_in (spot t r.loc) ≡ Some i → is_alive t r.loc ≡ true
      → Takes g.queues cs ms left
      → Runs rules_of count t i (with_queues s j g left)
      (pour seen i (root_of i) (given_all r.pats ms) r.loc s.made r.body)
      next births ds ps outs
      → let o = pour_here t next births ds ps (with_queues s j g left) in
      ReactsHere rules_of seen t i s r ms o.site (effects o outs births) × Keeps count s ds o

  -- a request is dropped, and a run of its continuation is poured
  abbrev pub DetectCall : Type 0
  DetectCall =
      (seen : List ℕ) (count : ℕ) (t : Tree) (i : ℕ) (s : Site) (q : RequestParts) (target : Loc)
      (cont : Name) (next : ℕ) (births : List Loc) (ds : List Told) (ps : List Posted)
      (outs : List Out)
      → IsKept s → request_with q.id s.requests ≡ Some q
      → q.ask ≡ request.Fail (name.Place target) cont
      → number_in (spot t q.loc) ≡ Some i → is_alive t q.loc ≡ true → is_dead t target ≡ true
      → Runs rules_of count t i (drop_request q.id s)
      (pour seen i (root_of i) [] q.loc s.made (continuation (Known cont)))
      next births ds ps outs
      → let o = pour_here t next births ds ps (drop_request q.id s) in
      DetectsHere rules_of seen t i s q o.site (effects o outs births) × Keeps count s ds o

  abbrev pub HaltCall : Type 0
  HaltCall =
      (t : Tree) (s : Site) (q : RequestParts)
      → IsKept s → request_with q.id s.requests ≡ Some q → q.ask ≡ request.Halt
      → is_alive t q.loc ≡ true
      → HaltsHere rules_of t s q (drop_request q.id s) × IsKept (drop_request q.id s)

  abbrev pub MoveWithinCall : Type 0
  MoveWithinCall =
      (version : ℕ) (seen : List ℕ) (count : ℕ) (t : Tree) (i : ℕ) (s : Site) (q : RequestParts)
      (target : Loc) (cont : Name) (next : ℕ) (births : List Loc) (ds : List Told)
      (ps : List Posted) (outs : List Out)
      → IsKept s → request_with q.id s.requests ≡ Some q
      → q.ask ≡ request.Go (name.Place target) cont
      → may_go version t q.loc target ≡ true → number_in (spot t q.loc) ≡ Some i → target.site ≡ i
      → Runs rules_of count t i (drop_request q.id s)
      (moved_made (is_alive t target) seen i q.loc s.made cont)
      next births ds ps outs
      → let o = pour_here t next births ds ps (drop_request q.id s) in
      StaysHere rules_of version seen t i s q o.site (effects o outs births) × Keeps count s ds o

  -- the location with all that stands there but the request is removed from the one site and taken
  -- in at the other, which doesn't host it yet; and a run of the continuation is poured there
  abbrev pub MoveBetweenCall : Type 0
  MoveBetweenCall =
      (version : ℕ) (seen : List ℕ) (count : ℕ) (t : Tree) (i j : ℕ) (from into : Site)
      (q : RequestParts) (target : Loc) (cont : Name) (next : ℕ) (ps : List Posted)
      (outs : List Out)
      → (among into.locs q.loc ≡ true → ⊥)
      → IsKept from → IsKept into → request_with q.id from.requests ≡ Some q
      → q.ask ≡ request.Go (name.Place target) cont
      → may_go version t q.loc target ≡ true → number_in (spot t q.loc) ≡ Some i → target.site ≡ j
      → let left = drop_request q.id from in
      let load = pack q.loc left in
      let moved = with_number t q.loc j in
      Runs rules_of count moved j (take_in load into)
      (moved_made (is_alive t target) seen j q.loc into.made cont)
      next [] [] ps outs
      → let o = pour_here moved next [] [] ps (take_in load into) in
      MovesHere rules_of version seen t i j from into q (remove q.loc left) o.site
      (effects o outs [])
      × IsKept (remove q.loc left) × Keeps count into load.groups o

  -- a message is put at its home
  abbrev pub DeliverCall : Type 0
  DeliverCall =
      (s : Site) (m : MessageParts) (site k : ℕ) (home : Loc)
      → IsKept s → m.on ≡ name.Chan site k home → among s.locs home ≡ true
      → Alters rules_of nothing (one coded_atom (message_atom home m)) s (put home m s)
      × IsKept (put home m s)
