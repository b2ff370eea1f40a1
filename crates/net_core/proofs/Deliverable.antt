-- A message under way may be delivered to its target: that follows from what the network stands
-- for.
use Rattle.std.proofs.Common.{◌≡◌, ℕ, ◌<◌, ◌==◌, Bool, true, false, cond, List, [], ◌∷◌, Option}
use Rattle.std.proofs.Common.{Some, None, length, slice_get, refl, sym, ap, ◌∙◌, arith, inl, inr}
use Rattle.std.proofs.Common.{eqb-true, lt-ltb}
use Rattle.std.specs.Prelude.{◌&&◌, ◌||◌, not, is_some, slice_index, nat_lt}
use Rattle.std.specs.List.{list_any}
use Rattle.std.proofs.lemmas.Bool.{and_from, or_cases}
use Rattle.chem_model.specs.declared.name.Loc.{Loc}
use Rattle.chem_model.specs.declared.name.Name.{Name}
use Rattle.chem_model.specs.declared.name.Name.TheVariants as name
use Rattle.chem_model.specs.declared.event.AtomId.{AtomId}
use Rattle.chem_model.specs.declared.numbered.NumberedRule.{NumberedRule}
use Rattle.chem_model.specs.declared.numbered.NumberedAtom.{NumberedAtom}
use Rattle.chem_model.specs.declared.numbered.Numbered.{Numbered}
use Rattle.chem_model.specs.Apply.{same_atom}
use Rattle.chem_model.specs.Bag.{bag}
use Rattle.chem_model.specs.Each.{Each}
use Rattle.chem_model.specs.Opening.{root_of}
use Rattle.chem_model.specs.Reduction.{all_known}
use Rattle.chem_model.specs.Scope.{Position, names_message}
use Rattle.chem_model.specs.Solution.{is_there}
use Rattle.chem_model.specs.Numbered.{standing}
use Rattle.chem_model.specs.Sound.{IsNameOf, MayStand, IsKnown, IsAtom}
use Rattle.chem_laws.proofs.Bags.{one_self}
use Rattle.chem_laws.proofs.Taking.{same_atom_is, atom_found}
use Rattle.wire_packet.specs.MessageFacts.{MessageParts}
use Rattle.wire_packet.specs.GroupFacts.{GroupParts, RequestParts}
use Rattle.wire_packet.specs.declared.packet.Waiting.{Waiting}
use Rattle.loc_tree.specs.declared.tree.Spot.{Spot}
use Rattle.loc_tree.specs.Tree.{spot, is_root}
use Rattle.loc_tree.specs.Places.{standing_in}
use Rattle.net_laws.specs.Site.{Group, Site, coded_atom, message_atom, request_atom, messages_at}
use Rattle.net_laws.specs.Site.{queues_at, queue_atoms, waiting_atoms, request_atoms, atoms_of}
use Rattle.net_laws.specs.Net.{Addressed, Net, Stands, IsChannel, IsOnItsWay, home_or, under_way}
use Rattle.net_laws.specs.Net.{made_of}
use Rattle.net_laws.specs.Holding.{request_with}
use Rattle.net_laws.proofs.Found.{atom_in}
use Rattle.net_laws.proofs.Follows.{atom_below, flying_elsewhere}
use Rattle.net_laws.proofs.Lists.{packet_taken}
use Rattle.net_laws.proofs.React.{atoms_differ}
use Rattle.net_laws.proofs.Sites.{made_at}
use Rattle.net_laws.proofs.Steps.{atoms_among}
use Rattle.site_solution.specs.Held.{is_id_of, in_queues, in_groups_of, has_atom}
use Rattle.site_solution.specs.Named.{name_in, names_in, in_tree}
use Rattle.site_solution.specs.InTree.{message_stands}
use Rattle.site_solution.specs.Draws.{message_drawn}
use Rattle.router.specs.Delivering.{is_channel, can_deliver}

-- ---- what has an id is an atom that is held

abbrev pub IsHeld : AtomId → (NumberedAtom → ℕ) → Type 0
IsHeld i held = (y : NumberedAtom) × (y.id ≡ i) × (0 < held y)

queue_held_as : (i : AtomId) (l : Loc) (ms : List MessageParts) → list_any (is_id_of i) ms ≡ true
    → IsHeld i (messages_at l ms)
queue_held_as i l [] e = cc
queue_held_as i l (m ∷ ms) e =
    elim (or_cases (same_atom m.id i) (list_any (is_id_of i) ms) e) [
      | inl u ↦ (
        message_atom l m,
        same_atom_is m.id i u,
        omega (arith, one_self coded_atom (message_atom l m)),
      )
      | inr u ↦ more (queue_held_as i l ms u)
    ]
  where
    more : IsHeld i (messages_at l ms) → IsHeld i (messages_at l (m ∷ ms))
    more h = (h.0, h.1, omega (arith, h.2))

queues_held_as : (i : AtomId) (l : Loc) (qs : List (List MessageParts)) → in_queues i qs ≡ true
    → IsHeld i (queues_at l qs)
queues_held_as i l [] e = cc
queues_held_as i l (q ∷ qs) e =
    elim (or_cases (list_any (is_id_of i) q) (in_queues i qs) e) [
      | inl u ↦ here (queue_held_as i l q u)
      | inr u ↦ more (queues_held_as i l qs u)
    ]
  where
    here : IsHeld i (messages_at l q) → IsHeld i (queues_at l (q ∷ qs))
    here h = (h.0, h.1, omega (arith, h.2))

    more : IsHeld i (queues_at l qs) → IsHeld i (queues_at l (q ∷ qs))
    more h = (h.0, h.1, omega (arith, h.2))

groups_held_as : (i : AtomId) (gs : List Group) → in_groups_of i gs ≡ true
    → IsHeld i (queue_atoms gs)
groups_held_as i [] e = cc
groups_held_as i (g ∷ gs) e =
    elim (or_cases (in_queues i g.queues) (in_groups_of i gs) e) [
      | inl u ↦ here (queues_held_as i g.told.inst.loc g.queues u)
      | inr u ↦ more (groups_held_as i gs u)
    ]
  where
    here : IsHeld i (queues_at g.told.inst.loc g.queues) → IsHeld i (queue_atoms (g ∷ gs))
    here h = (h.0, h.1, omega (arith, h.2))

    more : IsHeld i (queue_atoms gs) → IsHeld i (queue_atoms (g ∷ gs))
    more h = (h.0, h.1, omega (arith, h.2))

stuck_held_as : (i : AtomId) (ws : List Waiting)
    → list_any (λ (w : Waiting). is_id_of i w.msg) ws ≡ true → IsHeld i (waiting_atoms ws)
stuck_held_as i [] e = cc
stuck_held_as i (w ∷ ws) e =
    elim (or_cases (same_atom w.msg.id i) (list_any (λ (v : Waiting). is_id_of i v.msg) ws) e) [
      | inl u ↦ (
        message_atom w.loc w.msg,
        same_atom_is w.msg.id i u,
        omega (arith, one_self coded_atom (message_atom w.loc w.msg)),
      )
      | inr u ↦ more (stuck_held_as i ws u)
    ]
  where
    more : IsHeld i (waiting_atoms ws) → IsHeld i (waiting_atoms (w ∷ ws))
    more h = (h.0, h.1, omega (arith, h.2))

requests_held_as : (i : AtomId) (qs : List RequestParts) → is_some (request_with i qs) ≡ true
    → IsHeld i (request_atoms qs)
requests_held_as i [] e = cc
requests_held_as i (q ∷ qs) e = go (same_atom q.id i) refl e (λ f. more (requests_held_as i qs f))
  where
    more : IsHeld i (request_atoms qs) → IsHeld i (request_atoms (q ∷ qs))
    more h = (h.0, h.1, omega (arith, h.2))

    go : (u : Bool) → same_atom q.id i ≡ u → is_some (cond u (Some q) (request_with i qs)) ≡ true
        → (is_some (request_with i qs) ≡ true → IsHeld i (request_atoms (q ∷ qs)))
        → IsHeld i (request_atoms (q ∷ qs))
    go true c f ih =
        (request_atom q, same_atom_is q.id i c, omega (arith, one_self coded_atom (request_atom q)))
    go false c f ih = ih f

pub held_as : (i : AtomId) (s : Site) → has_atom i s ≡ true → IsHeld i (atoms_of s)
held_as i s e =
    elim (or_cases (in_groups_of i s.groups)
    (list_any (λ (w : Waiting). is_id_of i w.msg) s.stuck || is_some (request_with i s.requests))
    e) [
      | inl u ↦ in_groups (groups_held_as i s.groups u)
      | inr u ↦ elim (or_cases (list_any (λ (w : Waiting). is_id_of i w.msg) s.stuck)
          (is_some (request_with i s.requests)) u) [
            | inl v ↦ in_stuck (stuck_held_as i s.stuck v)
            | inr v ↦ in_requests (requests_held_as i s.requests v)
          ]
    ]
  where
    in_groups : IsHeld i (queue_atoms s.groups) → IsHeld i (atoms_of s)
    in_groups h = (h.0, h.1, omega (arith, h.2))

    in_stuck : IsHeld i (waiting_atoms s.stuck) → IsHeld i (atoms_of s)
    in_stuck h = (h.0, h.1, omega (arith, h.2))

    in_requests : IsHeld i (request_atoms s.requests) → IsHeld i (atoms_of s)
    in_requests h = (h.0, h.1, omega (arith, h.2))

-- ---- what names are there

module _ (rules_of : GroupParts → List NumberedRule) (net : Net) (n : Numbered)
    (stands : Stands rules_of net n) where
  there_in : (l : Loc) → is_there (standing n.places l) ≡ true → in_tree net.tree l ≡ true
  there_in l h = go (spot net.tree l) refl (ap is_there (sym (stands.agrees.tree.same l)) ∙ h)
    where
      go : (o : Option Spot) → spot net.tree l ≡ o
          → is_there (standing_in (is_root net.tree l) o) ≡ true → is_some (spot net.tree l) ≡ true
      go None e h = cc
      go (Some p) e h = ap is_some e

  name_there : (x : Name) → IsNameOf n x → name_in (in_tree net.tree) x ≡ true
  name_there (name.Seen i) h = refl
  name_there (name.Place a) h = there_in a h
  name_there (name.Num m) h = refl
  name_there (name.Op i) h = refl
  name_there (name.Chan s k l) h = there_in l h.1

  on_there : (q : Position) (x : Name) → MayStand (IsNameOf n) q x
      → name_in (in_tree net.tree) x ≡ true
  on_there q (name.Seen i) h = refl
  on_there q (name.Place a) h = there_in a h
  on_there q (name.Chan s k l) h = there_in l h.1
  on_there q (name.Num m) h = refl
  on_there q (name.Op i) h = refl

  names_there : (ns : List Name) → Each (IsKnown (IsNameOf n)) (all_known ns)
      → names_in (in_tree net.tree) ns ≡ true
  names_there [] h = refl
  names_there (x ∷ ns) h = and_from (name_in (in_tree net.tree) x) (names_in (in_tree net.tree) ns)
      (name_there x h.0) (names_there ns h.1)

  -- ---- a message under way

  module _ (f : ℕ) (p : Addressed) (s : Site) (flies : slice_get net.packets f ≡ Some p)
      (at : slice_get net.sites p.target ≡ Some s) where
    abbrev flying : NumberedAtom
    flying = message_atom (home_or (root_of p.target) p.msg.on) p.msg

    under : 0 < under_way net.packets flying
    under = omega (arith, packet_taken net.packets f p flying flies, one_self coded_atom flying)

    held : 0 < bag coded_atom n.atoms flying
    held = omega (arith, stands.agrees.atoms flying, under)

    is_atom : IsAtom n flying
    is_atom = atom_found (IsAtom n) n.atoms flying.id flying
        (atom_in n.atoms flying (atoms_differ n stands.sound) held) stands.sound.atoms

    message_there : message_stands net.tree p.msg ≡ true
    message_there =
        and_from (name_in (in_tree net.tree) p.msg.on) (names_in (in_tree net.tree) p.msg.args)
        (on_there (names_message (length (all_known p.msg.args))) p.msg.on is_atom.1.0)
        (names_there p.msg.args is_atom.1.1)

    is_new : has_atom p.msg.id s ≡ false
    is_new = go (has_atom p.msg.id s) refl
      where
        none : IsHeld p.msg.id (atoms_of s) → ⊥
        none h = flying_elsewhere rules_of net n stands flying h.0 (sym h.1) under
            (omega (arith, h.2, atoms_among rules_of net.sites p.target s h.0 at))

        go : (u : Bool) → has_atom p.msg.id s ≡ u → u ≡ false
        go true e = absurd (none (held_as p.msg.id s e))
        go false e = refl

    is_drawn_there : message_drawn s.number s.made p.msg ≡ true
    is_drawn_there = go (p.msg.id.site == s.number) refl
      where
        low : p.msg.id.k < slice_index (made_of net.sites) p.msg.id.site
        low = atom_below rules_of net n stands flying held

        go : (u : Bool) → (p.msg.id.site == s.number) ≡ u → not u || nat_lt p.msg.id.k s.made ≡ true
        go true e =
            let own : p.msg.id.site ≡ p.target =
            eqb-true p.msg.id.site s.number e ∙ (stands.hosts p.target s at).number in
            let count : slice_index (made_of net.sites) p.msg.id.site ≡ s.made =
            ap (slice_index (made_of net.sites)) own ∙ made_at net.sites p.target s at in
            lt-ltb p.msg.id.k s.made (omega (arith, low, count))
        go false e = refl

    pub may_be_delivered : IsOnItsWay (length net.sites) p → can_deliver net.tree s p.msg ≡ true
    may_be_delivered way =
        and_from (is_channel p.msg.on) (message_stands net.tree p.msg
        && (not (has_atom p.msg.id s) && message_drawn s.number s.made p.msg))
        (channel p.msg.on way.0)
        (and_from (message_stands net.tree p.msg)
        (not (has_atom p.msg.id s) && message_drawn s.number s.made p.msg) message_there
        (and_from (not (has_atom p.msg.id s)) (message_drawn s.number s.made p.msg) (ap not is_new)
        is_drawn_there))
      where
        channel : (x : Name) → IsChannel x → is_channel x ≡ true
        channel (name.Seen i) h = absurd h
        channel (name.Place a) h = absurd h
        channel (name.Num m) h = absurd h
        channel (name.Op i) h = absurd h
        channel (name.Chan t k l) h = refl
