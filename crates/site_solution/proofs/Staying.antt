-- What the tests of a site say after a change of the tree, and after a location has left.
use Rattle.std.proofs.Common.{◌≡◌, ℕ, Bool, true, false, cond, List, [], ◌∷◌, Option, Some, None}
use Rattle.std.proofs.Common.{refl, sym, ap, ◌∙◌, arith, eq-eqb}
use Rattle.std.specs.Prelude.{◌&&◌, ◌||◌, ◌==◌, is_some}
use Rattle.std.specs.Option.{option_map}
use Rattle.std.specs.List.{list_all}
use Rattle.std.specs.Map.{lookup}
use Rattle.std.proofs.lemmas.Bool.{and_parts, and_from}
use Rattle.std.proofs.lemmas.Bool.Decides.{nat_tests}
use Rattle.chem_model.specs.declared.name.Loc.{Loc}
use Rattle.chem_model.specs.declared.name.Name.{Name}
use Rattle.chem_model.specs.declared.name.Name.TheVariants as name
use Rattle.chem_model.specs.Each.{Each}
use Rattle.chem_model.specs.Opening.{root_of}
use Rattle.chem_model.specs.Solution.{same_loc}
use Rattle.wire_packet.specs.MessageFacts.{MessageParts}
use Rattle.wire_packet.specs.declared.packet.Waiting.{Waiting}
use Rattle.wire_packet.specs.GroupFacts.{RequestParts}
use Rattle.wire_packet.specs.declared.packet.Ask.{Ask}
use Rattle.wire_packet.specs.declared.packet.Ask.TheVariants as request
use Rattle.env_store.specs.CodeParts.{CodeParts}
use Rattle.loc_tree.specs.declared.tree.Spot.{Spot}
use Rattle.loc_tree.specs.Tree.{Tree, spot, number_in, is_pair_of, unmarked, renumbered, with_birth}
use Rattle.loc_tree.specs.Tree.{with_number}
use Rattle.loc_tree.proofs.Spots.{same_loc_is}
use Rattle.net_laws.specs.Site.{Told, Group, told_in, Site}
use Rattle.net_laws.specs.Net.{among, with_births}
use Rattle.net_laws.specs.Parcels.{Load, locs_but, groups_but, stuck_but, requests_but, remove}
use Rattle.net_laws.proofs.Trees.{or_else, lookup_behind, number_spot, number_renumbered}
use Rattle.site_shelves.specs.InTree.{is_number, has_number, message_stands}
use Rattle.site_shelves.specs.inside.InTree.{group_stands, request_stands}
use Rattle.site_shelves.specs.InCode.{is_told_by, is_in_code}
use Rattle.site_shelves.specs.Named.{name_in, names_in, message_in, ask_in, request_in, in_tree}
use Rattle.site_shelves.specs.Draws.{is_drawn, message_drawn, group_drawn}
use Rattle.site_solution.specs.Staying.{AgreeBut, StillFits, SameNumbersKeep, BirthsKeepOthers}
use Rattle.site_solution.specs.Arriving.{load_in}
use Rattle.site_solution.proofs.AllHold.{AllHold, all-weaker, holds-weaker}
use Rattle.site_solution.proofs.Together.{IsInTree, in_tree_parts, in_tree_from, drawn_parts}
use Rattle.site_solution.proofs.Together.{drawn_from, tree_same, code_same, fresh_same, places_same}
use Rattle.site_solution.proofs.Together.{numbers_same}

-- ---- trees with the same numbers

pub same_numbers : SameNumbersKeep
same_numbers c t u s same = record {
  in_tree = λ h. in_tree_from u s (numbers_same t u same s (in_tree_parts t s h));
  in_code = λ h. code_same t u (places_same t u same) c s h;
  draws = λ h. record {
    few = h.few;
    drawn = h.drawn;
    fresh = fresh_same t u (places_same t u same) s.number s.made h.fresh;
  };
}

-- ---- trees in which one location alone has another number

-- a site that doesn't host it
module _ (l : Loc) (t u : Tree) (agree : AgreeBut l t u) where
  pub hosted_but : (i : ℕ) (ls : List Loc) → Each (λ (x : Loc). same_loc l x ≡ false) ls
      → list_all (has_number t i) ls ≡ true → list_all (has_number u i) ls ≡ true
  hosted_but i [] other h = refl
  hosted_but i (x ∷ ls) other h =
      let both = and_parts (has_number t i x) (list_all (has_number t i) ls) h in
      and_from (has_number u i x) (list_all (has_number u i) ls)
      (sym (ap (λ o. is_number o i) (agree.numbers x other.0)) ∙ both.0)
      (hosted_but i ls other.1 both.1)

  pub hosts_others : (i j : ℕ) (ls : List Loc) → number_in (spot t l) ≡ Some j → (i ≡ j → ⊥)
      → list_all (has_number t i) ls ≡ true → Each (λ (x : Loc). same_loc l x ≡ false) ls
  hosts_others i j [] at differ h = tt
  hosts_others i j (x ∷ ls) at differ h =
      let both = and_parts (has_number t i x) (list_all (has_number t i) ls) h in
      (go (same_loc l x) refl both.0, hosts_others i j ls at differ both.1)
    where
      number : (o : Option ℕ) → is_number o i ≡ true → o ≡ Some i
      number None e = absurd (cc)
      number (Some k) e = ap Some (eqb-is k i e)
        where
          eqb-is : (a b : ℕ) → a == b ≡ true → a ≡ b
          eqb-is a b e = grind (arith, nat_tests)

      go : (b : Bool) → same_loc l x ≡ b → has_number t i x ≡ true → b ≡ false
      go false c e = refl
      go true c e =
          let here : number_in (spot t l) ≡ Some i =
          ap (λ (y : Loc). number_in (spot t y)) (same_loc_is l x c)
          ∙ number (number_in (spot t x)) e in
          let two : Some i ≡ Some j = sym here ∙ at in
          let same : i ≡ j = cc in
          absurd (differ same)

  pub others_fit : (c : CodeParts) (s : Site) (j : ℕ) → number_in (spot t l) ≡ Some j
      → (s.number ≡ j → ⊥) → StillFits c t s u s
  others_fit c s j at differ = record {
    in_tree = λ h.
        let parts = in_tree_parts t s h in
        in_tree_from u s (tree_same t u agree.there s
        (hosted_but s.number s.locs (hosts_others s.number j s.locs at differ parts.hosted)
        parts.hosted) parts);
    in_code = λ h. code_same t u agree.there c s h;
    draws = λ h. record {
      few = h.few;
      drawn = h.drawn;
      fresh = fresh_same t u agree.there s.number s.made h.fresh;
    };
  }

-- the tree with another number of a location
pub number_agrees : (t : Tree) (l : Loc) (i : ℕ) → AgreeBut l t (with_number t l i)
number_agrees t l i = record {
  there = λ x. by_test (same_loc l x) (spot t x) ∙ sym (ap is_some (number_spot t l i x));
  numbers = λ x other. sym (ap number_in (number_spot t l i x)
      ∙ ap (λ (b : Bool). number_in (cond b (option_map (renumbered i) (spot t x)) (spot t x)))
      other);
}
  where
    by_test : (b : Bool) (o : Option Spot)
        → is_some o ≡ is_some (cond b (option_map (renumbered i) o) o)
    by_test true None = refl
    by_test true (Some p) = refl
    by_test false o = refl

pub number_moved : (t : Tree) (l : Loc) (i j : ℕ) → number_in (spot t l) ≡ Some i
    → has_number (with_number t l j) j l ≡ true
number_moved t l i j at = ap (λ o. is_number o j) (number_renumbered t l i j at) ∙ eq-eqb j j refl

-- ---- a location leaves

module _ (l : Loc) where
  locs_other : (ls : List Loc) → Each (λ (x : Loc). same_loc l x ≡ false) (locs_but l ls)
  locs_other [] = tt
  locs_other (x ∷ ls) = go (same_loc l x) refl (locs_other ls)
    where
      go : (b : Bool) → same_loc l x ≡ b → Each (λ (y : Loc). same_loc l y ≡ false) (locs_but l ls)
          → Each (λ (y : Loc). same_loc l y ≡ false) (cond b (locs_but l ls) (x ∷ locs_but l ls))
      go true e rest = rest
      go false e rest = (e, rest)

  still_among : (y : Loc) (ls : List Loc) → same_loc l y ≡ false → among ls y ≡ true
      → among (locs_but l ls) y ≡ true
  still_among y [] other h = absurd (cc)
  still_among y (x ∷ ls) other h =
      go (same_loc l x) refl (same_loc x y) refl h (still_among y ls other)
    where
      go : (a : Bool) → same_loc l x ≡ a → (b : Bool) → same_loc x y ≡ b → b || among ls y ≡ true
          → (among ls y ≡ true → among (locs_but l ls) y ≡ true)
          → among (cond a (locs_but l ls) (x ∷ locs_but l ls)) y ≡ true
      go true e true f g ih =
          let same : same_loc l y ≡ true = ap (same_loc l) (sym (same_loc_is x y f)) ∙ e in
          absurd (cc)
      go true e false f g ih = ih g
      go false e true f g ih = ap (λ (v : Bool). v || among (locs_but l ls) y) f
      go false e false f g ih = ap (λ (v : Bool). v || among (locs_but l ls) y) f ∙ ih g

  all_locs_but : (p : Loc → Bool) (ls : List Loc) → list_all p ls ≡ true
      → list_all p (locs_but l ls) ≡ true
  all_locs_but p [] h = refl
  all_locs_but p (x ∷ ls) h =
      let both = and_parts (p x) (list_all p ls) h in
      go (same_loc l x) both.0 (all_locs_but p ls both.1)
    where
      go : (b : Bool) → p x ≡ true → list_all p (locs_but l ls) ≡ true
          → list_all p (cond b (locs_but l ls) (x ∷ locs_but l ls)) ≡ true
      go true one rest = rest
      go false one rest = and_from (p x) (list_all p (locs_but l ls)) one rest

  all_groups_but : (p : Group → Bool) (gs : List Group) → list_all p gs ≡ true
      → list_all p (groups_but l gs) ≡ true
  all_groups_but p [] h = refl
  all_groups_but p (g ∷ gs) h =
      let both = and_parts (p g) (list_all p gs) h in
      go (same_loc l g.told.inst.loc) both.0 (all_groups_but p gs both.1)
    where
      go : (b : Bool) → p g ≡ true → list_all p (groups_but l gs) ≡ true
          → list_all p (cond b (groups_but l gs) (g ∷ groups_but l gs)) ≡ true
      go true one rest = rest
      go false one rest = and_from (p g) (list_all p (groups_but l gs)) one rest

  all_told_but : (p : Told → Bool) (gs : List Group) → list_all p (told_in gs) ≡ true
      → list_all p (told_in (groups_but l gs)) ≡ true
  all_told_but p [] h = refl
  all_told_but p (g ∷ gs) h =
      let both = and_parts (p g.told) (list_all p (told_in gs)) h in
      go (same_loc l g.told.inst.loc) both.0 (all_told_but p gs both.1)
    where
      go : (b : Bool) → p g.told ≡ true → list_all p (told_in (groups_but l gs)) ≡ true
          → list_all p (told_in (cond b (groups_but l gs) (g ∷ groups_but l gs))) ≡ true
      go true one rest = rest
      go false one rest = and_from (p g.told) (list_all p (told_in (groups_but l gs))) one rest

  all_stuck_but : (p : Waiting → Bool) (ws : List Waiting) → list_all p ws ≡ true
      → list_all p (stuck_but l ws) ≡ true
  all_stuck_but p [] h = refl
  all_stuck_but p (w ∷ ws) h =
      let both = and_parts (p w) (list_all p ws) h in
      go (same_loc l w.loc) both.0 (all_stuck_but p ws both.1)
    where
      go : (b : Bool) → p w ≡ true → list_all p (stuck_but l ws) ≡ true
          → list_all p (cond b (stuck_but l ws) (w ∷ stuck_but l ws)) ≡ true
      go true one rest = rest
      go false one rest = and_from (p w) (list_all p (stuck_but l ws)) one rest

  all_requests_but : (p : RequestParts → Bool) (qs : List RequestParts) → list_all p qs ≡ true
      → list_all p (requests_but l qs) ≡ true
  all_requests_but p [] h = refl
  all_requests_but p (q ∷ qs) h =
      let both = and_parts (p q) (list_all p qs) h in
      go (same_loc l q.loc) both.0 (all_requests_but p qs both.1)
    where
      go : (b : Bool) → p q ≡ true → list_all p (requests_but l qs) ≡ true
          → list_all p (cond b (requests_but l qs) (q ∷ requests_but l qs)) ≡ true
      go true one rest = rest
      go false one rest = and_from (p q) (list_all p (requests_but l qs)) one rest

  pub removed_fits : (c : CodeParts) (t u : Tree) (s : Site) → AgreeBut l t u
      → same_loc l (root_of s.number) ≡ false → StillFits c t s u (remove l s)
  removed_fits c t u s agree no_root = record {
    in_tree = λ h.
        let parts = in_tree_parts t s h in
        let left : Site = remove l s in
        let hosted : list_all (has_number t s.number) (locs_but l s.locs) ≡ true =
        all_locs_but (has_number t s.number) s.locs parts.hosted in
        in_tree_from u left (tree_same t u agree.there left
        (hosted_but l t u agree s.number (locs_but l s.locs) (locs_other s.locs) hosted) (record {
          hosted = hosted;
          rooted = still_among (root_of s.number) s.locs no_root parts.rooted;
          groups = all_groups_but (group_stands t) s.groups parts.groups;
          stuck = all_stuck_but (λ (w : Waiting). message_stands t w.msg) s.stuck parts.stuck;
          requests = all_requests_but (request_stands t) s.requests parts.requests;
        }));
    in_code = λ h.
        let both = and_parts (list_all (is_told_by c) (told_in s.groups))
        (list_all (λ (x : Loc). is_some (spot t x)) c.tops) h in
        code_same t u agree.there c (remove l s)
        (and_from (list_all (is_told_by c) (told_in (groups_but l s.groups)))
        (list_all (λ (x : Loc). is_some (spot t x)) c.tops)
        (all_told_but (is_told_by c) s.groups both.0) both.1);
    draws = λ h.
        let parts = drawn_parts s h.drawn in
        record {
          few = h.few;
          drawn = drawn_from (remove l s) (record {
            locs =
                all_locs_but (λ (x : Loc). is_drawn s.number s.made x.site x.k) s.locs parts.locs;
            groups = all_groups_but (group_drawn s.number s.made) s.groups parts.groups;
            stuck = all_stuck_but (λ (w : Waiting). message_drawn s.number s.made w.msg)
                s.stuck parts.stuck;
            requests =
                all_requests_but (λ (q : RequestParts). is_drawn s.number s.made q.id.site q.id.k)
                s.requests parts.requests;
          });
          fresh = fresh_same t u agree.there s.number s.made h.fresh;
        };
  }

-- ---- births at another site

module _ (i : ℕ) where
  birth_spot : (t : Tree) (b q : Loc)
      → spot (with_birth t b i) q ≡ or_else (spot t q) (lookup (is_pair_of q) (unmarked b i ∷ []))
  birth_spot t b q = lookup_behind q t.entries (unmarked b i ∷ [])

  -- what is in the tree stays as it is
  still_there : (bs : List Loc) (t : Tree) (q : Loc) (p : Spot) → spot t q ≡ Some p
      → spot (with_births t i bs) q ≡ Some p
  still_there [] t q p e = e
  still_there (b ∷ bs) t q p e = still_there bs (with_birth t b i) q p
      (birth_spot t b q ∙ ap (λ o. or_else o (lookup (is_pair_of q) (unmarked b i ∷ []))) e)

  not_born : (q b : Loc) → (q.site ≡ i → ⊥) → b.site ≡ i → is_pair_of q (b.site, b.k) ≡ false
  not_born q b other own = grind (arith, nat_tests)

  -- and what isn't, and isn't of that site, comes not to be
  still_gone : (bs : List Loc) (t : Tree) (q : Loc) → Each (λ (b : Loc). b.site ≡ i) bs
      → (q.site ≡ i → ⊥) → spot t q ≡ None → spot (with_births t i bs) q ≡ None
  still_gone [] t q own other e = e
  still_gone (b ∷ bs) t q own other e =
      still_gone bs (with_birth t b i) q own.1 other
      (birth_spot t b q ∙ ap (λ o. or_else o (lookup (is_pair_of q) (unmarked b i ∷ []))) e
      ∙ ap (λ (v : Bool). cond v (Some (record { number = i; marked = false })) None)
      (not_born q b other own.0))

-- ---- names of more locations

module _ (there later : Loc → Bool) (weaker : (l : Loc) → there l ≡ true → later l ≡ true) where
  name_more : (x : Name) → name_in there x ≡ true → name_in later x ≡ true
  name_more (name.Seen i) h = refl
  name_more (name.Place a) h = weaker a h
  name_more (name.Chan s k a) h = weaker a h
  name_more (name.Num n) h = refl
  name_more (name.Op i) h = refl

  names_more : (xs : List Name) → names_in there xs ≡ true → names_in later xs ≡ true
  names_more xs h = all-weaker (name_in there) (name_in later) xs name_more h

  message_more : (m : MessageParts) → message_in there m ≡ true → message_in later m ≡ true
  message_more m h =
      let both = and_parts (name_in there m.on) (names_in there m.args) h in
      and_from (name_in later m.on) (names_in later m.args) (name_more m.on both.0)
      (names_more m.args both.1)

  ask_more : (a : Ask) → ask_in there a ≡ true → ask_in later a ≡ true
  ask_more (request.Go b k) h =
      let both = and_parts (name_in there b) (name_in there k) h in
      and_from (name_in later b) (name_in later k) (name_more b both.0) (name_more k both.1)
  ask_more (request.Fail b k) h =
      let both = and_parts (name_in there b) (name_in there k) h in
      and_from (name_in later b) (name_in later k) (name_more b both.0) (name_more k both.1)
  ask_more request.Halt h = refl

  -- of what is carried
  pub load_more : (p : Load) → load_in there p ≡ true → load_in later p ≡ true
  load_more p h =
      let envs = list_all (λ (d : Told). names_in there d.inst.env) p.groups in
      let waits = list_all (λ (w : Waiting). message_in there w.msg) p.waiting in
      let asks = list_all (request_in there) p.requests in
      let first = and_parts envs (waits && asks) h in
      let second = and_parts waits asks first.1 in
      and_from (list_all (λ (d : Told). names_in later d.inst.env) p.groups)
      (list_all (λ (w : Waiting). message_in later w.msg) p.waiting
      && list_all (request_in later) p.requests)
      (all-weaker (λ (d : Told). names_in there d.inst.env)
      (λ (d : Told). names_in later d.inst.env) p.groups (λ d e. names_more d.inst.env e) first.0)
      (and_from (list_all (λ (w : Waiting). message_in later w.msg) p.waiting)
      (list_all (request_in later) p.requests)
      (all-weaker (λ (w : Waiting). message_in there w.msg)
      (λ (w : Waiting). message_in later w.msg) p.waiting (λ w e. message_more w.msg e) second.0)
      (all-weaker (request_in there) (request_in later) p.requests (λ q e. ask_more q.ask e)
      second.1))

-- where the second tree has what the first one has, with the same numbers
module _ (t u : Tree) (kept : (l : Loc) (p : Spot) → spot t l ≡ Some p → spot u l ≡ Some p) where
  more_there : (l : Loc) → in_tree t l ≡ true → in_tree u l ≡ true
  more_there l e = go (spot t l) refl e
    where
      go : (o : Option Spot) → spot t l ≡ o → is_some o ≡ true → is_some (spot u l) ≡ true
      go None c h = absurd (cc)
      go (Some p) c h = ap is_some (kept l p c)

  more_numbered : (i : ℕ) (l : Loc) → has_number t i l ≡ true → has_number u i l ≡ true
  more_numbered i l e = go (spot t l) refl e
    where
      go : (o : Option Spot) → spot t l ≡ o → is_number (number_in o) i ≡ true
          → has_number u i l ≡ true
      go None c h = absurd (cc)
      go (Some p) c h = ap (λ o. is_number (number_in o) i) (kept l p c) ∙ h

  pub more_in_tree : (s : Site) → IsInTree t s → IsInTree u s
  more_in_tree s h =
      let here = in_tree t in
      let later = in_tree u in
      let all : AllHold (message_in here) (λ (d : Told). names_in here d.inst.env) (request_in here)
      s = record { groups = h.groups; stuck = h.stuck; requests = h.requests } in
      let more =
      holds-weaker (message_in here) (message_in later) (λ (d : Told). names_in here d.inst.env)
      (λ (d : Told). names_in later d.inst.env) (request_in here) (request_in later) s
      (message_more here later more_there) (λ d e. names_more here later more_there d.inst.env e)
      (λ q e. ask_more here later more_there q.ask e) all in
      record {
        hosted = all-weaker (has_number t s.number) (has_number u s.number)
            s.locs (more_numbered s.number) h.hosted;
        rooted = h.rooted;
        groups = more.groups;
        stuck = more.stuck;
        requests = more.requests;
      }

  pub more_in_code : (c : CodeParts) (s : Site) → is_in_code c t s ≡ true → is_in_code c u s ≡ true
  more_in_code c s h =
      let both =
      and_parts (list_all (is_told_by c) (told_in s.groups)) (list_all (in_tree t) c.tops) h in
      and_from (list_all (is_told_by c) (told_in s.groups)) (list_all (in_tree u) c.tops)
      both.0 (all-weaker (in_tree t) (in_tree u) c.tops more_there both.1)

pub births_keep_others : BirthsKeepOthers
births_keep_others c t i births s own other =
    let u = with_births t i births in
    let kept : (l : Loc) (p : Spot) → spot t l ≡ Some p → spot u l ≡ Some p =
    λ l p e. still_there i births t l p e in
    record {
      in_tree = λ h. in_tree_from u s (more_in_tree t u kept s (in_tree_parts t s h));
      in_code = λ h. more_in_code t u kept c s h;
      draws = λ h. record {
        few = h.few;
        drawn = h.drawn;
        fresh = λ k later.
            still_gone i births t (record { site = s.number; k = k }) own other (h.fresh k later);
      };
    }
