-- Moves, from their parts.
use Rattle.std.proofs.Common.{◌≡◌, ℕ, ◌<◌, Bool, true, List, [], ◌++◌, Option, Some, None}
use Rattle.std.proofs.Common.{slice_get, inl, inr, refl, sym, ap, ◌∙◌, subst, ◌==◌, eqb-true}
use Rattle.std.specs.Prelude.{slice_set, ◌&&◌, not, nat_lt}
use Rattle.std.proofs.lemmas.Bool.{and_parts, or_cases, or_left, or_right, ltb-true}
use Rattle.chem_model.specs.Opening.{root_of}
use Rattle.chem_model.specs.declared.name.Loc.{Loc}
use Rattle.chem_model.specs.declared.name.Name.{Name}
use Rattle.chem_model.specs.declared.name.Name.TheVariants as name
use Rattle.chem_model.specs.declared.event.AtomId.{AtomId}
use Rattle.chem_model.specs.declared.event.Out.{Out}
use Rattle.wire_packet.specs.declared.packet.Ask.{Ask}
use Rattle.wire_packet.specs.declared.packet.Ask.TheVariants as request
use Rattle.wire_packet.specs.GroupFacts.{RequestParts}
use Rattle.env_store.specs.CodeParts.{CodeParts}
use Rattle.loc_tree.specs.Tree.{Tree, spot, number_in, is_alive, is_dead, is_root, can_move}
use Rattle.loc_tree.specs.Tree.{can_fall, with_number, bare}
use Rattle.net_laws.specs.Site.{Site}
use Rattle.net_laws.specs.Net.{Addressed, Net, among}
use Rattle.net_laws.specs.Holding.{request_with, drop_request}
use Rattle.net_laws.specs.Posting.{posted_of, Outcome}
use Rattle.net_laws.specs.Parcels.{pack, remove, take_in}
use Rattle.net_laws.specs.Choices.{moved_between}
use Rattle.net_laws.specs.Moves.{may_go, continuation_made, moved_made}
use Rattle.net_laws.specs.Meeting.{sent_here}
use Rattle.site_solution.specs.Answers.{Answers}
use Rattle.site_solution.specs.declared.effects.Effects.{Effects}
use Rattle.migration.specs.Moves.{goes, can_go, is_ready}
use Rattle.migration.specs.Within.{leads_into, leads_to_one_of, goes_to_one_of}
use Rattle.net_core.specs.declared.parts.Parts.{Parts}
use Rattle.net_core.specs.Parts.{joined, all_carried, net_of}
use Rattle.net_core.specs.Acting.{MayGo, Moves, stays, leaves}
use Rattle.net_core.specs.inside.AtSites.{MovesAt, CrossesAt}
use Rattle.net_core.specs.Whole.{RunsSome}
use Rattle.net_core.proofs.Carrying.{carried_append, all_carry}
use Rattle.net_core.proofs.Deliveries.{same_net}
use Rattle.net_core.proofs.Handed.{sent_bare, outcome_net}
use Rattle.net_core.proofs.SiteReactions.{alive_bare}

-- what the test says of a request to go
pub can_is :
    (version : ℕ) (t : Tree) (a : AtomId) (s : Site) (q : RequestParts) (target : Loc) (cont : Name)
    → can_go version t a s ≡ true → request_with a s.requests ≡ Some q
    → q.ask ≡ request.Go (name.Place target) cont → may_go version t q.loc target ≡ true
can_is version t a s q target cont can here asks =
    let ready : is_ready version t (Some q) ≡ true = ap (is_ready version t) (sym here) ∙ can in
    ap (λ (v : Ask). is_ready version t (Some (record q { ask = v }))) (sym asks) ∙ ready

pub moves_net : (seen : List ℕ) (old new : Parts) → new.version ≡ old.version
    → (i : ℕ) (a : AtomId) (s : Site) (e : Effects) → slice_get old.sites.items i ≡ Some s
    → s.number ≡ i → can_go old.version old.tree a s ≡ true
    → (moves : MovesAt seen old.tree new.tree i a s old.sites.items new.sites.items e)
    → moves.moves.target.site ≡ i
    → joined new.trace.items ≡ joined old.trace.items ++ e.outs
    → new.flights.items ≡ old.flights.items ++ e.sends
    → Moves (net_of seen old) a (net_of seen new)
moves_net seen old new version i a s e at number can moves here trace flights =
    let d = moves.moves in
    let q = d.asked in
    let from = λ (k : ℕ). continuation_made seen k q.loc s.made d.cont in
    let answers : Answers (sent_here (bare old.tree) (from i) (drop_request a s)) (from i).outs []
    moves.after e =
    subst (λ (k : ℕ).
    Answers (sent_here (bare old.tree) (from k) (drop_request a s)) (from k).outs [] moves.after e)
    number
    (subst (λ (o : Outcome). Answers o (from s.number).outs [] moves.after e)
    (sym (sent_bare old.tree (from s.number) (drop_request a s))) d.answers) in
    let go : MayGo (net_of seen old) a = record {
      asks = record { number = i; site = s; request = q; site_is = at; request_is = d.here };
      target = d.target;
      cont = d.cont;
      is = d.asks;
      can = can_is old.version old.tree a s q d.target d.cont can d.here d.asks;
    } in
    stays (record {
      go = go;
      here = here;
      new_is = outcome_net seen old new version i (with_number (bare old.tree) q.loc i)
          (sent_here (bare old.tree) (from i) (drop_request a s)) (from i).outs [] moves.after e
          moves.sites answers
          (ap bare d.tree ∙ ap (with_number (bare old.tree) q.loc) number) trace flights;
    })

pub crosses_net : (seen : List ℕ) (old new : Parts) → new.version ≡ old.version
    → (i j : ℕ) (a : AtomId) (s u : Site) (e : Effects) → slice_get old.sites.items i ≡ Some s
    → slice_get old.sites.items j ≡ Some u → (i ≡ j → ⊥) → u.number ≡ j
    → can_go old.version old.tree a s ≡ true
    → (moves : CrossesAt seen old.tree new.tree i j a s u old.sites.items new.sites.items e)
    → moves.moves.target.site ≡ j
    → joined new.trace.items ≡ joined old.trace.items ++ e.outs
    → new.flights.items ≡ old.flights.items ++ e.sends
    → Moves (net_of seen old) a (net_of seen new)
crosses_net seen old new version i j a s u e at into away number can moves there trace flights =
    let d = moves.moves in
    let q = d.asked in
    let load = take_in (pack q.loc (drop_request a s)) u in
    let made = λ (k : ℕ). moved_made (is_alive old.tree d.target) seen k q.loc u.made d.cont in
    let moved = with_number (bare old.tree) q.loc j in
    let tree : bare new.tree ≡ moved =
    ap bare d.tree ∙ ap (with_number (bare old.tree) q.loc) number in
    let answers : Answers (sent_here moved (made j) load) (made j).outs [] moves.after e =
    subst (λ (t : Tree). Answers (sent_here t (made j) load) (made j).outs [] moves.after e) tree
    (subst
    (λ (k : ℕ). Answers (sent_here (bare new.tree) (made k) load) (made k).outs [] moves.after e)
    number
    (subst (λ (o : Outcome). Answers o (made u.number).outs [] moves.after e)
    (sym (sent_bare new.tree (made u.number) load)) d.answers)) in
    let go : MayGo (net_of seen old) a = record {
      asks = record { number = i; site = s; request = q; site_is = at; request_is = d.here };
      target = d.target;
      cont = d.cont;
      is = d.asks;
      can = can_is old.version old.tree a s q d.target d.cont can d.here d.asks;
    } in
    let o = sent_here moved (made j) load in
    let is : net_of seen new
    ≡ moved_between (net_of seen old) i j q.loc (drop_request a s) u
    (made j).next (posted_of (made j).atoms) (made j).outs =
    same_net (net_of seen new) (moved_between (net_of seen old) i j q.loc (drop_request a s) u
    (made j).next (posted_of (made j).atoms) (made j).outs) version refl
    (moves.sites
    ∙ ap (λ (v : Site). slice_set (slice_set old.sites.items i v) j moves.after) d.leaves
    ∙ ap (slice_set (slice_set old.sites.items i (remove q.loc (drop_request a s))) j) answers.site)
    tree
    (trace ∙ ap (λ (os : List Out). joined old.trace.items ++ os) answers.outs)
    (ap all_carried flights ∙ carried_append old.flights.items e.sends
    ∙ ap (λ (ps : List Addressed). all_carried old.flights.items ++ ps)
    (all_carry o.sends e.sends answers.sends).0) in
    leaves (record {
      go = go;
      away = λ same. away (same ∙ there);
      into = u;
      into_is = ap (slice_get old.sites.items) there ∙ into;
      new_is = is ∙ (λ t. net_by (sym (alive_bare old.tree d.target) t) (sym there t));
    })
  where
    net_by : Bool → ℕ → Net
    net_by b k =
        let q = moves.moves.asked in
        let m = moved_made b seen k q.loc u.made moves.moves.cont in
        moved_between (net_of seen old) i k q.loc (drop_request a s) u m.next (posted_of m.atoms)
        m.outs

-- ---- where a request leads

-- the target is a root
rooted : (version : ℕ) (t : Tree) (l target : Loc) → may_go version t l target ≡ true
    → is_root t target ≡ true
rooted version t l target may =
    elim (or_cases (can_move t l target) ((version == 2) && can_fall t l target) may) [
      | inl goes ↦
          let second = (and_parts (is_alive t l && not (is_root t l))
          (is_alive t target && is_root t target) goes).1 in
          (and_parts (is_alive t target) (is_root t target) second).1
      | inr falls ↦
          let second =
          (and_parts (is_alive t l && not (is_root t l)) (is_dead t target && is_root t target)
          (and_parts (version == 2) (can_fall t l target) falls).1).1 in
          (and_parts (is_dead t target) (is_root t target) second).1
    ]

pub root_is : (version : ℕ) (t : Tree) (l target : Loc) → may_go version t l target ≡ true
    → target.k ≡ 0
root_is version t l target may = eqb-true target.k 0
    (and_parts (target.k == 0) (nat_lt target.site t.roots) (rooted version t l target may)).0

pub root_low : (version : ℕ) (t : Tree) (l target : Loc) → may_go version t l target ≡ true
    → target.site < t.roots
root_low version t l target may = ltb-true target.site t.roots
    (and_parts (target.k == 0) (nat_lt target.site t.roots) (rooted version t l target may)).1

-- the site that hosts it has its number
pub goal_here :
    (version : ℕ) (c : CodeParts) (net : Net) (some : RunsSome c net) (j : ℕ) (a : AtomId)
    (from into : Site) (q : RequestParts) (target : Loc) (cont : Name)
    → slice_get net.sites j ≡ Some into → request_with a from.requests ≡ Some q
    → q.ask ≡ request.Go (name.Place target) cont
    → can_go version net.tree a from ≡ true → leads_into a from into ≡ true → target.site ≡ j
goal_here version c net some j a from into q target cont at here asks can leads =
    let may = can_is version net.tree a from q target cont can here asks in
    let one : leads_to_one_of into.locs (Some q) ≡ true =
    ap (leads_to_one_of into.locs) (sym here) ∙ leads in
    let among_is : among into.locs target ≡ true =
    ap (λ (v : Ask). goes_to_one_of into.locs v) (sym asks) ∙ one in
    let hosted = ((some.stands.hosts j into at).locs target).0 among_is in
    let own : target ≡ root_of target.site =
    let zeroed = root_is version net.tree q.loc target may in
    λ i. record { site = target.site; k = zeroed i } in
    let numbered : number_in (spot net.tree target) ≡ Some target.site =
    ap (λ (l : Loc). number_in (spot net.tree l)) own
    ∙ some.stands.agrees.tree.is.rooted target.site (root_low version net.tree q.loc target may) in
    let both : Some target.site ≡ Some j = sym numbered ∙ hosted in cc

-- ---- what the calls of moves need

two : (version : ℕ) (t : Tree) (l target : Loc) → may_go version t l target ≡ true
    → may_go 2 t l target ≡ true
two version t l target may =
    elim (or_cases (can_move t l target) ((version == 2) && can_fall t l target) may) [
      | inl goes ↦ or_left (can_move t l target) (can_fall t l target) goes
      | inr falls ↦ or_right (can_move t l target) (can_fall t l target)
          (and_parts (version == 2) (can_fall t l target) falls).1
    ]

goes_two : (version : ℕ) (t : Tree) (l : Loc) (v : Ask) → goes version t l v ≡ true
    → goes 2 t l v ≡ true
goes_two version t l (request.Go (name.Seen n) k) e = e
goes_two version t l (request.Go (name.Place b) k) e = two version t l b e
goes_two version t l (request.Go (name.Chan n m h) k) e = e
goes_two version t l (request.Go (name.Num n) k) e = e
goes_two version t l (request.Go (name.Op n) k) e = e
goes_two version t l (request.Fail b k) e = e
goes_two version t l request.Halt e = e

-- what may go in some version may in version 2
pub can_two : (version : ℕ) (t : Tree) (a : AtomId) (s : Site) → can_go version t a s ≡ true
    → can_go 2 t a s ≡ true
can_two version t a s = go (request_with a s.requests)
  where
    go : (o : Option RequestParts) → is_ready version t o ≡ true → is_ready 2 t o ≡ true
    go None e = e
    go (Some q) e = goes_two version t q.loc q.ask e
