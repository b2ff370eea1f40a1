-- A site as a part of a solution, beside any others, and what its events are.
use Rattle.std.specs.Prelude.{◌≡◌, ℕ, ◌+◌, ◌<◌, List, [], ◌∷◌, ◌++◌, ◌&&◌, true, Some, length}
use Rattle.std.specs.Prelude.{slice_get, slice_index, slice_set}
use Rattle.chem_model.specs.declared.name.Loc.{Loc}
use Rattle.chem_model.specs.declared.name.Name.{Name}
use Rattle.chem_model.specs.declared.name.Ref.TheVariants.{Known}
use Rattle.chem_model.specs.declared.event.Event.{Event}
use Rattle.chem_model.specs.declared.numbered.NumberedRule.{NumberedRule}
use Rattle.chem_model.specs.declared.numbered.NumberedAtom.{NumberedAtom}
use Rattle.chem_model.specs.declared.numbered.Numbered.{Numbered}
use Rattle.chem_model.specs.Bag.{Bag, one, bag, nothing, ◌⊕◌}
use Rattle.chem_model.specs.Reduction.{continuation}
use Rattle.chem_model.specs.Opening.{root_of}
use Rattle.chem_model.specs.Pour.{pour}
use Rattle.chem_model.specs.Apply.{apply}
use Rattle.chem_model.specs.Sound.{IsSound}
use Rattle.wire_packet.specs.MessageFacts.{MessageParts}
use Rattle.wire_packet.specs.GroupFacts.{GroupParts, RequestParts}
use Rattle.net_laws.specs.Site.{Group, Site, coded_rule, coded_atom, message_atom, messages_at}
use Rattle.net_laws.specs.Site.{request_atom, request_atoms, atoms_of, rules_held}
use Rattle.loc_tree.specs.Tree.{spot, Tree, number_in, is_alive, is_dead, with_mark}
use Rattle.loc_tree.specs.Tree.{with_number}
use Rattle.loc_tree.specs.Places.{IsTreeOf}
use Rattle.net_laws.specs.Net.{Effects, with_births, under_way}
use Rattle.net_laws.specs.Moves.{may_go, moved_made}
use Rattle.net_laws.specs.Changes.{given_all, ids, AreQueues, IsGuard, Takes, Pours, Alters}
use Rattle.net_laws.specs.Changes.{Changes, Leaves}
use Rattle.chem_model.specs.declared.name.Name.TheVariants as name
use Rattle.chem_model.specs.declared.event.Event.TheVariants as event
use Rattle.wire_packet.specs.declared.packet.Ask.TheVariants as request

module _ (rules_of : GroupParts → List NumberedRule) where
  -- the site is the solution's part with this number: beside it stand other rules and other atoms
  pub record IsPart (seen : List ℕ) (t : Tree) (i : ℕ) (s : Site) (rules : Bag NumberedRule)
      (atoms : Bag NumberedAtom) (n : Numbered) : Type 0 where
    pub sound : IsSound n
    pub seen_is : n.seen ≡ seen
    pub below : i < length n.counts
    pub count : slice_index n.counts i ≡ s.made
    pub tree : IsTreeOf t n.places
    pub rules_are :
        (r : NumberedRule) → bag coded_rule n.rules r ≡ rules_held rules_of s r + rules r
    pub atoms_are : (x : NumberedAtom) → bag coded_atom n.atoms x ≡ atoms_of s x + atoms x

  -- the event is possible, and in what it leads to the new site stands beside the same others and
  -- what it sends
  pub record GoesOn (seen : List ℕ) (t : Tree) (i : ℕ) (new : Site) (e : Effects)
      (rules : Bag NumberedRule) (atoms : Bag NumberedAtom) (n : Numbered)
      (ev : Event) : Type 0 where
    pub after : Numbered
    pub applies : apply n ev ≡ Some after
    pub part : IsPart seen (with_births t i e.births) i new rules (under_way e.sends ⊕ atoms) after
    pub counts : after.counts ≡ slice_set n.counts i new.made
    pub trace : after.trace ≡ n.trace ++ e.outs

  -- ---- React

  -- a rule of a group takes the fronts of its channels' queues, and its body is poured, where these
  -- are the tree and the counts of observed names
  pub record ReactsHere (seen : List ℕ) (t : Tree) (i : ℕ) (s : Site) (r : NumberedRule)
      (ms : List MessageParts) (new : Site) (e : Effects) : Type 0 where
    pub index : ℕ
    pub group : Group
    pub chans : List ℕ
    pub left : List (List MessageParts)
    pub held : slice_get s.groups index ≡ Some group
    pub queues : AreQueues group.told.inst 0 group.told.counts group.queues
    pub guard : IsGuard rules_of group.told r chans
    pub hosted : number_in (spot t r.loc) ≡ Some i
    pub alive : is_alive t r.loc ≡ true
    pub takes : Takes group.queues chans ms left
    pub pours :
        Pours rules_of i (messages_at r.loc ms)
        (pour seen i (root_of i) (given_all r.pats ms) r.loc s.made r.body) s new e

  abbrev pub ReactionOfAPart : Type 0
  ReactionOfAPart =
      (seen : List ℕ) (t : Tree) (i : ℕ) (s new : Site) (r : NumberedRule)
      (ms : List MessageParts) (e : Effects)
      (rules : Bag NumberedRule) (atoms : Bag NumberedAtom) (n : Numbered)
      → IsPart seen t i s rules atoms n → ReactsHere seen t i s r ms new e
      → GoesOn seen t i new e rules atoms n (event.React r.id (ids ms))

  -- ---- Detect

  -- a request to detect the failure of a dead location goes, and its continuation is poured
  pub record DetectsHere (seen : List ℕ) (t : Tree) (i : ℕ) (s : Site) (q : RequestParts)
      (new : Site) (e : Effects) : Type 0 where
    pub target : Loc
    pub cont : Name
    pub is : q.ask ≡ request.Fail (name.Place target) cont
    pub held : 0 < request_atoms s.requests (request_atom q)
    pub hosted : number_in (spot t q.loc) ≡ Some i
    pub can : is_alive t q.loc && is_dead t target ≡ true
    pub pours :
        Pours rules_of i (one coded_atom (request_atom q))
        (pour seen i (root_of i) [] q.loc s.made (continuation (Known cont))) s new e

  abbrev pub DetectionOfAPart : Type 0
  DetectionOfAPart =
      (seen : List ℕ) (t : Tree) (i : ℕ) (s new : Site) (q : RequestParts) (e : Effects)
      (rules : Bag NumberedRule) (atoms : Bag NumberedAtom) (n : Numbered)
      → IsPart seen t i s rules atoms n → DetectsHere seen t i s q new e
      → GoesOn seen t i new e rules atoms n (event.Detect q.id)

  -- ---- Halt: nothing is poured, and the tree has one mark more

  pub record HaltsHere (t : Tree) (s : Site) (q : RequestParts) (new : Site) : Type 0 where
    pub is : q.ask ≡ request.Halt
    pub held : 0 < request_atoms s.requests (request_atom q)
    pub alive : is_alive t q.loc ≡ true
    pub alters : Alters rules_of (one coded_atom (request_atom q)) nothing s new

  pub record HaltOf (seen : List ℕ) (t : Tree) (i : ℕ) (q : RequestParts) (new : Site)
      (rules : Bag NumberedRule) (atoms : Bag NumberedAtom) (n : Numbered) : Type 0 where
    pub after : Numbered
    pub applies : apply n (event.Halt q.id) ≡ Some after
    pub part : IsPart seen (with_mark t q.loc) i new rules atoms after
    pub counts : after.counts ≡ n.counts
    pub trace : after.trace ≡ n.trace

  abbrev pub HaltOfAPart : Type 0
  HaltOfAPart =
      (seen : List ℕ) (t : Tree) (i : ℕ) (s new : Site) (q : RequestParts)
      (rules : Bag NumberedRule) (atoms : Bag NumberedAtom) (n : Numbered)
      → IsPart seen t i s rules atoms n → HaltsHere t s q new
      → HaltOf seen t i q new rules atoms n

  -- ---- Go or Fall, to the site that hosts the location already

  pub record StaysHere (version : ℕ) (seen : List ℕ) (t : Tree) (i : ℕ) (s : Site)
      (q : RequestParts) (new : Site) (e : Effects) : Type 0 where
    pub target : Loc
    pub cont : Name
    pub is : q.ask ≡ request.Go (name.Place target) cont
    pub held : 0 < request_atoms s.requests (request_atom q)
    pub can : may_go version t q.loc target ≡ true
    pub hosted : number_in (spot t q.loc) ≡ Some i
    pub target_site : target.site ≡ i
    pub pours :
        Pours rules_of i (one coded_atom (request_atom q))
        (moved_made (is_alive t target) seen i q.loc s.made cont) s new e

  abbrev pub MoveOfAPart : Type 0
  MoveOfAPart =
      (seen : List ℕ) (t : Tree) (i : ℕ) (s new : Site) (q : RequestParts) (e : Effects)
      (rules : Bag NumberedRule) (atoms : Bag NumberedAtom) (n : Numbered)
      → IsPart seen t i s rules atoms n → StaysHere n.version seen t i s q new e
      → GoesOn seen (with_number t q.loc i) i new e rules atoms n (event.Move q.id)

  -- ---- a delivery is no event: a message that stood beside the site is now a part of it

  abbrev pub DeliveryToAPart : Type 0
  DeliveryToAPart =
      (seen : List ℕ) (t : Tree) (i : ℕ) (s new : Site) (home : Loc) (m : MessageParts)
      (rules : Bag NumberedRule) (atoms : Bag NumberedAtom) (n : Numbered)
      → IsPart seen t i s rules (one coded_atom (message_atom home m) ⊕ atoms) n
      → Alters rules_of nothing (one coded_atom (message_atom home m)) s new
      → IsPart seen t i new rules atoms n

  -- ---- Go or Fall, from one site to another

  -- two sites are the solution's parts with these numbers
  pub record AreParts (seen : List ℕ) (t : Tree) (i j : ℕ) (first second : Site)
      (rules : Bag NumberedRule) (atoms : Bag NumberedAtom) (n : Numbered) : Type 0 where
    pub sound : IsSound n
    pub seen_is : n.seen ≡ seen
    pub first_below : i < length n.counts
    pub second_below : j < length n.counts
    pub first_count : slice_index n.counts i ≡ first.made
    pub second_count : slice_index n.counts j ≡ second.made
    pub tree : IsTreeOf t n.places
    pub rules_are :
        (r : NumberedRule)
        → bag coded_rule n.rules r
        ≡ rules_held rules_of first r + rules_held rules_of second r + rules r
    pub atoms_are :
        (x : NumberedAtom)
        → bag coded_atom n.atoms x ≡ atoms_of first x + atoms_of second x + atoms x

  -- the location leaves the one with all that stands there, and comes to the other, where its
  -- continuation is poured if the target is alive
  pub record MovesHere (version : ℕ) (seen : List ℕ) (t : Tree) (i j : ℕ) (from into : Site)
      (q : RequestParts) (left new : Site) (e : Effects) : Type 0 where
    pub target : Loc
    pub cont : Name
    pub with_it : Bag NumberedRule
    pub at_it : Bag NumberedAtom
    pub is : q.ask ≡ request.Go (name.Place target) cont
    pub held : 0 < request_atoms from.requests (request_atom q)
    pub can : may_go version t q.loc target ≡ true
    pub hosted : number_in (spot t q.loc) ≡ Some i
    pub target_site : target.site ≡ j
    pub leaves :
        Leaves rules_of q.loc with_it (one coded_atom (request_atom q) ⊕ at_it) from left
    pub comes :
        Changes rules_of j nothing (q.loc ∷ []) with_it at_it
        (moved_made (is_alive t target) seen j q.loc into.made cont) into new e

  pub record MoveOf (seen : List ℕ) (t : Tree) (i j : ℕ) (q : RequestParts) (left new : Site)
      (e : Effects) (rules : Bag NumberedRule) (atoms : Bag NumberedAtom)
      (n : Numbered) : Type 0 where
    pub after : Numbered
    pub applies : apply n (event.Move q.id) ≡ Some after
    pub parts :
        AreParts seen (with_births (with_number t q.loc j) j e.births) i j left new rules
        (under_way e.sends ⊕ atoms) after
    pub counts : after.counts ≡ slice_set n.counts j new.made
    pub trace : after.trace ≡ n.trace ++ e.outs

  abbrev pub MoveOfTwoParts : Type 0
  MoveOfTwoParts =
      (seen : List ℕ) (t : Tree) (i j : ℕ) (from into left new : Site) (q : RequestParts)
      (e : Effects) (rules : Bag NumberedRule) (atoms : Bag NumberedAtom) (n : Numbered)
      → (i ≡ j → ⊥) → AreParts seen t i j from into rules atoms n
      → MovesHere n.version seen t i j from into q left new e
      → MoveOf seen t i j q left new e rules atoms n
