-- What is noted of several lists, and what is asked of the tree and of the code.
use Rattle.std.proofs.Common.{◌≡◌, ℕ, ◌<◌, List, [], ◌∷◌, Bool, true, false, Option, Some, None}
use Rattle.std.proofs.Common.{length, refl, sym, ap, ◌∙◌, subst, arith, eqb-true, ltb-true}
use Rattle.std.specs.Prelude.{◌&&◌, ◌||◌, ◌==◌, nat_lt, slice_get, zip, is_some}
use Rattle.std.specs.List.{list_all}
use Rattle.std.proofs.lemmas.Bool.{and_parts}
use Rattle.chem_model.specs.declared.name.Loc.{Loc}
use Rattle.chem_model.specs.Opening.{root_of}
use Rattle.chem_model.specs.Solution.{same_loc}
use Rattle.loc_tree.specs.declared.tree.Spot.{Spot}
use Rattle.loc_tree.specs.Tree.{Tree, spot, number_in}
use Rattle.loc_tree.specs.Places.{IsTree}
use Rattle.loc_tree.proofs.Spots.{same_loc_is, root_is}
use Rattle.wire_packet.specs.declared.packet.Waiting.{Waiting}
use Rattle.wire_packet.specs.GroupFacts.{RequestParts}
use Rattle.env_store.specs.declared.code.Level.{Level}
use Rattle.env_store.specs.CodeParts.{CodeParts}
use Rattle.net_laws.specs.Site.{Told}
use Rattle.net_laws.specs.Net.{among}
use Rattle.site_shelves.specs.Named.{in_tree}
use Rattle.site_shelves.specs.InCode.{same_counts, same_pairs, is_level_of, is_told_by}
use Rattle.site_limits.specs.declared.known.Known.{Known}
use Rattle.site_limits.specs.declared.shapes.Shape.{Shape}
use Rattle.site_limits.specs.Shapes.{has_shape, is_shaped, is_of_level, is_in_levels}
use Rattle.site_limits.specs.Limits.{message_within, request_within, loc_within, AreWithin}
use Rattle.site_limits.specs.Knows.{is_known, limits_of, Noted}
use Rattle.site_limits.proofs.Learned.{wider-then}
use Rattle.site_limits.proofs.Stays.{loc-stays, message-stays, list-stays}

-- ---- several lists at once

pub noted-all :
    (number : ℕ) (ls : List Loc) (ws : List Waiting) (qs : List RequestParts) (a b c d : Known)
    → Noted a b (λ e. list_all (loc_within e number) ls ≡ true)
    → Noted b c (λ e. list_all (λ (w : Waiting). message_within e w.msg) ws ≡ true)
    → Noted c d (λ e. list_all (request_within e) qs ≡ true)
    → Noted a d (λ e. AreWithin e number ls [] ws qs)
noted-all number ls ws qs a b c d f g h lost =
    let third = h lost in
    let second = g third.kept in
    let first = f second.kept in
    let later =
    wider-then (limits_of b) (limits_of c) (limits_of d) second.wider third.wider in
    record {
      kept = first.kept;
      wider = wider-then (limits_of a) (limits_of b) (limits_of d) first.wider later;
      holds = record {
        locs = list-stays (λ e l. loc_within e number l) (loc-stays number) ls (limits_of b)
            (limits_of d) later first.holds;
        told = refl;
        waiting = list-stays (λ e (w : Waiting). message_within e w.msg)
            (λ w. message-stays w.msg) ws (limits_of c) (limits_of d) third.wider second.holds;
        requests = third.holds;
      };
    }

-- ---- what is asked of the tree and of the code

among-all : (p : Loc → Bool) (ls : List Loc) (l : Loc) → list_all p ls ≡ true → among ls l ≡ true
    → p l ≡ true
among-all p [] l h here = absurd (cc)
among-all p (x ∷ ls) l h here =
    go (same_loc x l) refl here (λ later. among-all p ls l both.1 later)
  where
    both : (p x ≡ true) × (list_all p ls ≡ true)
    both = and_parts (p x) (list_all p ls) h

    go : (u : Bool) → same_loc x l ≡ u → u || among ls l ≡ true
        → (among ls l ≡ true → p l ≡ true) → p l ≡ true
    go true c a ih = ap p (sym (same_loc_is x l c)) ∙ both.0
    go false c a ih = ih a

pub all-known : (a : Known) (there : Loc → Bool)
    → ((i : ℕ) → i < a.roots → there (root_of i) ≡ true) → list_all there a.named.locs ≡ true
    → (l : Loc) → is_known a l ≡ true → there l ≡ true
all-known a there roots named l h = go ((l.k == 0) && nat_lt l.site a.roots) refl h
  where
    go : (t : Bool) → (l.k == 0) && nat_lt l.site a.roots ≡ t → t || among a.named.locs l ≡ true
        → there l ≡ true
    go true e f =
        let both = and_parts (l.k == 0) (nat_lt l.site a.roots) e in
        subst (λ (x : Loc). there x ≡ true) (root_is l l.site (eqb-true l.k 0 both.0) refl)
        (roots l.site (ltb-true l.site a.roots both.1))
    go false e f = among-all there a.named.locs l named f

pairs-are : (ns ms : List ℕ) → length ns ≡ length ms → same_pairs (zip ns ms) ≡ true → ns ≡ ms
pairs-are [] [] many h = refl
pairs-are [] (m ∷ ms) many h = absurd (omega arith)
pairs-are (n ∷ ns) [] many h = absurd (omega arith)
pairs-are (n ∷ ns) (m ∷ ms) many h =
    let both = and_parts (n == m) (same_pairs (zip ns ms)) h in
    ap (λ (k : ℕ). k ∷ ns) (eqb-true n m both.0)
    ∙ ap (λ (ks : List ℕ). m ∷ ks) (pairs-are ns ms (omega arith) both.1)

counts-are : (ns ms : List ℕ) → same_counts ns ms ≡ true → ns ≡ ms
counts-are ns ms h =
    let both = and_parts (length ns == length ms) (same_pairs (zip ns ms)) h in
    pairs-are ns ms (eqb-true (length ns) (length ms) both.0) both.1

-- a group that has the shape of its level is of the level
shape-told : (c : CodeParts) (d : Told) (v : Shape) → has_shape d v ≡ true
    → is_in_levels c v ≡ true → is_told_by c d ≡ true
shape-told c d v has there =
    let first = and_parts (v.level == d.inst.level) (same_counts v.counts d.counts
    && ((v.guards == d.guards) && (v.depth == length d.inst.env))) has in
    let second = and_parts (same_counts v.counts d.counts)
    ((v.guards == d.guards) && (v.depth == length d.inst.env)) first.1 in
    let third = and_parts (v.guards == d.guards) (v.depth == length d.inst.env) second.1 in
    let counts = counts-are v.counts d.counts second.0 in
    let guards : v.guards ≡ d.guards = eqb-true v.guards d.guards third.0 in
    let depth : v.depth ≡ length d.inst.env = eqb-true v.depth (length d.inst.env) third.1 in
    let here : is_of_level (slice_get c.levels d.inst.level) v ≡ true =
    subst (λ (n : ℕ). is_of_level (slice_get c.levels n) v ≡ true)
    (eqb-true v.level d.inst.level first.0) there in
    go (slice_get c.levels d.inst.level) counts guards depth here
  where
    go : (o : Option Level) → v.counts ≡ d.counts → v.guards ≡ d.guards
        → v.depth ≡ length d.inst.env → is_of_level o v ≡ true → is_level_of o d ≡ true
    go None counts guards depth e = e
    go (Some w) counts guards depth e =
        subst (λ (ns : List ℕ). same_counts w.counts ns
        && ((w.guards == d.guards) && (w.depth == length d.inst.env)) ≡ true) counts
        (subst (λ (n : ℕ). same_counts w.counts v.counts
        && ((w.guards == n) && (w.depth == length d.inst.env)) ≡ true) guards
        (subst (λ (n : ℕ). same_counts w.counts v.counts
        && ((w.guards == v.guards) && (w.depth == n)) ≡ true) depth e))

pub shaped-told : (c : CodeParts) (vs : List Shape) (d : Told)
    → list_all (is_in_levels c) vs ≡ true → is_shaped vs d ≡ true → is_told_by c d ≡ true
shaped-told c [] d all h = absurd (cc)
shaped-told c (v ∷ vs) d all h =
    go (has_shape d v) refl h (λ later. shaped-told c vs d both.1 later)
  where
    both : (is_in_levels c v ≡ true) × (list_all (is_in_levels c) vs ≡ true)
    both = and_parts (is_in_levels c v) (list_all (is_in_levels c) vs) all

    go : (t : Bool) → has_shape d v ≡ t → t || is_shaped vs d ≡ true
        → (is_shaped vs d ≡ true → is_told_by c d ≡ true) → is_told_by c d ≡ true
    go true e f ih = shape-told c d v e both.0
    go false e f ih = ih f

-- each root of a tree is there
pub rooted-there : (t : Tree) (i : ℕ) → IsTree t → i < t.roots → in_tree t (root_of i) ≡ true
rooted-there t i h less = go (spot t (root_of i)) (h.rooted i less)
  where
    go : (o : Option Spot) → number_in o ≡ Some i → is_some o ≡ true
    go None e = absurd (cc)
    go (Some s) e = refl
