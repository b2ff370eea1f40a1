-- What both sites and all others keep of a move from one site to another.
use Rattle.std.proofs.Common.{◌≡◌, ℕ, ◌<◌, ◌++◌, Bool, true, false, cond, List, [], ◌∷◌, Some, refl}
use Rattle.std.proofs.Common.{sym, ap, subst, ◌∙◌, arith}
use Rattle.std.specs.Prelude.{◌&&◌, is_some}
use Rattle.std.specs.List.{list_all}
use Rattle.std.proofs.lemmas.Bool.{and_parts, and_from, not-true}
use Rattle.std.proofs.lemmas.Bool.Decides.{nat_tests}
use Rattle.chem_model.specs.declared.name.Loc.{Loc}
use Rattle.chem_model.specs.declared.name.Name.{Name}
use Rattle.chem_model.specs.declared.name.Name.TheVariants as name
use Rattle.chem_model.specs.declared.event.AtomId.{AtomId}
use Rattle.chem_model.specs.Opening.{root_of}
use Rattle.chem_model.specs.Solution.{same_loc}
use Rattle.wire_packet.specs.MessageFacts.{MessageParts}
use Rattle.wire_packet.specs.declared.packet.Waiting.{Waiting}
use Rattle.wire_packet.specs.GroupFacts.{RequestParts}
use Rattle.env_store.specs.CodeParts.{CodeParts}
use Rattle.loc_tree.specs.Tree.{Tree, spot, number_in, is_root, can_leave, with_number}
use Rattle.loc_tree.specs.Places.{IsTree}
use Rattle.loc_tree.proofs.Spots.{same_loc_is}
use Rattle.net_laws.specs.Site.{Told, Group, told_in, Site}
use Rattle.net_laws.specs.Kept.{IsKept}
use Rattle.net_laws.specs.Holding.{request_with, drop_request}
use Rattle.net_laws.specs.Parcels.{groups_at, stuck_at, requests_at, in_queue, in_queues}
use Rattle.net_laws.specs.Parcels.{in_all_queues, pack}
use Rattle.site_solution.specs.Named.{names_in, message_in, request_in, in_tree}
use Rattle.site_solution.specs.InTree.{name_stands, is_in_tree}
use Rattle.site_solution.specs.InCode.{is_told_by, is_in_code}
use Rattle.site_solution.specs.Staying.{AgreeBut, StillFits}
use Rattle.site_solution.specs.Arriving.{load_in, load_drawn, FitsInto}
use Rattle.site_solution.proofs.AllHold.{group_holds, all-both}
use Rattle.site_solution.proofs.Together.{in_tree_parts, in_tree_from, drop_in_tree, number_here}
use Rattle.site_solution.proofs.Staying.{number_agrees, number_moved, others_fit, load_more}
use Rattle.router.proofs.Sending.{asked_here}
use Rattle.migration.proofs.Within.{leaves}

-- ---- what holds of all that a site holds, holds of what is packed

module _ (l : Loc) where
  all_told_at : (p : Told → Bool) (gs : List Group) → list_all p (told_in gs) ≡ true
      → list_all p (told_in (groups_at l gs)) ≡ true
  all_told_at p [] h = refl
  all_told_at p (g ∷ gs) h =
      let both = and_parts (p g.told) (list_all p (told_in gs)) h in
      go (same_loc l g.told.inst.loc) both.0 (all_told_at p gs both.1)
    where
      go : (b : Bool) → p g.told ≡ true → list_all p (told_in (groups_at l gs)) ≡ true
          → list_all p (told_in (cond b (g ∷ groups_at l gs) (groups_at l gs))) ≡ true
      go true one rest = and_from (p g.told) (list_all p (told_in (groups_at l gs))) one rest
      go false one rest = rest

  all_groups_at : (p : Group → Bool) (gs : List Group) → list_all p gs ≡ true
      → list_all p (groups_at l gs) ≡ true
  all_groups_at p [] h = refl
  all_groups_at p (g ∷ gs) h =
      let both = and_parts (p g) (list_all p gs) h in
      go (same_loc l g.told.inst.loc) both.0 (all_groups_at p gs both.1)
    where
      go : (b : Bool) → p g ≡ true → list_all p (groups_at l gs) ≡ true
          → list_all p (cond b (g ∷ groups_at l gs) (groups_at l gs)) ≡ true
      go true one rest = and_from (p g) (list_all p (groups_at l gs)) one rest
      go false one rest = rest

  all_stuck_at : (p : Waiting → Bool) (ws : List Waiting) → list_all p ws ≡ true
      → list_all p (stuck_at l ws) ≡ true
  all_stuck_at p [] h = refl
  all_stuck_at p (w ∷ ws) h =
      let both = and_parts (p w) (list_all p ws) h in
      go (same_loc l w.loc) both.0 (all_stuck_at p ws both.1)
    where
      go : (b : Bool) → p w ≡ true → list_all p (stuck_at l ws) ≡ true
          → list_all p (cond b (w ∷ stuck_at l ws) (stuck_at l ws)) ≡ true
      go true one rest = and_from (p w) (list_all p (stuck_at l ws)) one rest
      go false one rest = rest

  all_requests_at : (p : RequestParts → Bool) (qs : List RequestParts) → list_all p qs ≡ true
      → list_all p (requests_at l qs) ≡ true
  all_requests_at p [] h = refl
  all_requests_at p (q ∷ qs) h =
      let both = and_parts (p q) (list_all p qs) h in
      go (same_loc l q.loc) both.0 (all_requests_at p qs both.1)
    where
      go : (b : Bool) → p q ≡ true → list_all p (requests_at l qs) ≡ true
          → list_all p (cond b (q ∷ requests_at l qs) (requests_at l qs)) ≡ true
      go true one rest = and_from (p q) (list_all p (requests_at l qs)) one rest
      go false one rest = rest

module _ (P : MessageParts → Bool) where
  queue_waits : (l : Loc) (ms : List MessageParts) → list_all P ms ≡ true
      → list_all (λ (w : Waiting). P w.msg) (in_queue l ms) ≡ true
  queue_waits l [] h = refl
  queue_waits l (m ∷ ms) h =
      let both = and_parts (P m) (list_all P ms) h in
      and_from (P m) (list_all (λ (w : Waiting). P w.msg) (in_queue l ms))
      both.0 (queue_waits l ms both.1)

  queues_wait : (l : Loc) (qs : List (List MessageParts)) → list_all (list_all P) qs ≡ true
      → list_all (λ (w : Waiting). P w.msg) (in_queues l qs) ≡ true
  queues_wait l [] h = refl
  queues_wait l (q ∷ qs) h =
      let both = and_parts (list_all P q) (list_all (list_all P) qs) h in
      all-both (λ (w : Waiting). P w.msg) (in_queue l q) (in_queues l qs) (queue_waits l q both.0)
      (queues_wait l qs both.1)

  module _ (T : Told → Bool) where
    groups_wait : (gs : List Group) → list_all (group_holds P T) gs ≡ true
        → list_all (λ (w : Waiting). P w.msg) (in_all_queues gs) ≡ true
    groups_wait [] h = refl
    groups_wait (g ∷ gs) h =
        let both = and_parts (group_holds P T g) (list_all (group_holds P T) gs) h in
        let one = and_parts (T g.told) (list_all (list_all P) g.queues) both.0 in
        all-both (λ (w : Waiting). P w.msg) (in_queues g.told.inst.loc g.queues) (in_all_queues gs)
        (queues_wait g.told.inst.loc g.queues one.1) (groups_wait gs both.1)

    groups_told : (gs : List Group) → list_all (group_holds P T) gs ≡ true
        → list_all T (told_in gs) ≡ true
    groups_told [] h = refl
    groups_told (g ∷ gs) h =
        let both = and_parts (group_holds P T g) (list_all (group_holds P T) gs) h in
        let one = and_parts (T g.told) (list_all (list_all P) g.queues) both.0 in
        and_from (T g.told) (list_all T (told_in gs)) one.0 (groups_told gs both.1)

-- what a site names is in the tree, and so is what is packed of it
pub packed_named : (t : Tree) (l : Loc) (s : Site) → is_in_tree t s ≡ true
    → load_in (in_tree t) (pack l s) ≡ true
packed_named t l s h =
    let parts = in_tree_parts t s h in
    let P : MessageParts → Bool = message_in (in_tree t) in
    let T : Told → Bool = λ (d : Told). names_in (in_tree t) d.inst.env in
    let groups = all_groups_at l (group_holds P T) s.groups parts.groups in
    let envs = list_all T (told_in (groups_at l s.groups)) in
    let waits = list_all (λ (w : Waiting). P w.msg)
    (in_all_queues (groups_at l s.groups) ++ stuck_at l s.stuck) in
    let asks = list_all (request_in (in_tree t)) (requests_at l s.requests) in
    and_from envs (waits && asks) (groups_told P T (groups_at l s.groups) groups)
    (and_from waits asks
    (all-both (λ (w : Waiting). P w.msg) (in_all_queues (groups_at l s.groups)) (stuck_at l s.stuck)
    (groups_wait P T (groups_at l s.groups) groups)
    (all_stuck_at l (λ (w : Waiting). P w.msg) s.stuck parts.stuck))
    (all_requests_at l (request_in (in_tree t)) s.requests parts.requests))

-- names stay in a tree with the same locations
pub name_there : (t u : Tree) → ((x : Loc) → is_some (spot t x) ≡ is_some (spot u x)) → (n : Name)
    → name_stands t n ≡ true → name_stands u n ≡ true
name_there t u same (name.Seen j) h = refl
name_there t u same (name.Place a) h = sym (same a) ∙ h
name_there t u same (name.Chan s j a) h = sym (same a) ∙ h
name_there t u same (name.Num n) h = refl
name_there t u same (name.Op i) h = refl

-- ---- the location that moves

is_root_of : (t : Tree) (n : ℕ) → n < t.roots → is_root t (root_of n) ≡ true
is_root_of t n below = grind (arith, nat_tests)

module _ (t : Tree) (from into : Site) (i : AtomId) (q : RequestParts) (b : Loc)
    (there : request_with i from.requests ≡ Some q) (can : can_leave t q.loc b ≡ true)
    (kept_from : IsKept from) (from_tree : is_in_tree t from ≡ true) (tree : IsTree t)
    (number : b.site ≡ into.number) (moved : Tree)
    (moves : moved ≡ with_number t q.loc b.site) where
  at : number_in (spot t q.loc) ≡ Some from.number
  at = number_here t from.number from.locs q.loc (in_tree_parts t from from_tree).hosted
      (asked_here from i q kept_from there)

  pub agree : AgreeBut q.loc t moved
  agree = subst (AgreeBut q.loc t) (sym moves) (number_agrees t q.loc b.site)

  pub no_root : same_loc q.loc (root_of from.number) ≡ false
  no_root = go (same_loc q.loc (root_of from.number)) refl
    where
      go : (u : Bool) → same_loc q.loc (root_of from.number) ≡ u → u ≡ false
      go false e = refl
      go true e =
          let root : is_root t q.loc ≡ true =
          ap (is_root t) (same_loc_is q.loc (root_of from.number) e)
          ∙ is_root_of t from.number (tree.below q.loc from.number at) in
          let other : is_root t q.loc ≡ false =
          not-true (is_root t q.loc) (leaves t q.loc b can).no_root in
          absurd (cc)

  pub others_keep : (c : CodeParts) (s : Site) → (s.number ≡ from.number → ⊥)
      → StillFits c t s moved s
  others_keep c s differ = others_fit q.loc t moved agree c s from.number at differ

  -- what is packed fits into the other site
  pub comes_fit : (c : CodeParts) → is_in_code c t from ≡ true
      → load_drawn into.number into.made (pack q.loc (drop_request i from)) ≡ true
      → FitsInto c moved (pack q.loc (drop_request i from)) into
  comes_fit c coded drawn =
      let left : Site = drop_request i from in
      let u : Tree = with_number t q.loc into.number in
      let same : moved ≡ u = moves ∙ ap (with_number t q.loc) number in
      let left_tree : is_in_tree t left ≡ true =
      in_tree_from t left (drop_in_tree t i from (in_tree_parts t from from_tree)) in
      let both = and_parts (list_all (is_told_by c) (told_in from.groups))
      (list_all (λ (x : Loc). is_some (spot t x)) c.tops) coded in
      subst (λ (v : Tree). FitsInto c v (pack q.loc left) into) (sym same) (record {
        hosted = number_moved t q.loc from.number into.number at;
        named = load_more (in_tree t) (in_tree u)
            (λ x e. sym ((number_agrees t q.loc into.number).there x) ∙ e) (pack q.loc left)
            (packed_named t q.loc left left_tree);
        told = all_told_at q.loc (is_told_by c) from.groups both.0;
        drawn = drawn;
      })
