-- A site stands within what it knows, at each change; and what its tests say by that.
use Rattle.std.proofs.Common.{◌≡◌, ℕ, zero, suc, ◌≤◌, List, [], ◌∷◌, ◌++◌, Bool, true, false}
use Rattle.std.proofs.Common.{cond, length, drop, refl, sym, ap, ◌∙◌, subst}
use Rattle.std.proofs.Common.{arith, append-nil}
use Rattle.std.specs.Prelude.{slice_index}
use Rattle.std.specs.List.{list_all}
use Rattle.std.proofs.lemmas.Bool.{and_parts, and_from}
use Rattle.chem_model.specs.declared.name.Loc.{Loc}
use Rattle.chem_model.specs.declared.event.AtomId.{AtomId}
use Rattle.chem_model.specs.Apply.{same_atom}
use Rattle.chem_model.specs.Solution.{same_loc}
use Rattle.wire_packet.specs.MessageFacts.{MessageParts}
use Rattle.wire_packet.specs.declared.packet.Waiting.{Waiting}
use Rattle.wire_packet.specs.GroupFacts.{RequestParts}
use Rattle.env_store.specs.CodeParts.{CodeParts}
use Rattle.net_laws.specs.Site.{Told, Group, Site, told_in}
use Rattle.net_laws.specs.Net.{among, home_or}
use Rattle.net_laws.specs.Kept.{IsKept}
use Rattle.net_laws.specs.Holding.{put, precedes, with_request, without_request}
use Rattle.net_laws.specs.Parcels.{locs_but, groups_but, stuck_but, requests_but, remove}
use Rattle.net_laws.proofs.Holding.{put_is}
use Rattle.site_shelves.specs.Named.{all_in}
use Rattle.site_shelves.specs.InCode.{is_told_by}
use Rattle.site_shelves.specs.Draws.{all_drawn}
use Rattle.site_shelves.specs.Held.{has_atom, taken_at}
use Rattle.site_shelves.specs.Shelved.{Shelved, with_shelves}
use Rattle.site_shelves.specs.inside.New.{gone_at, told_of_new}
use Rattle.site_shelves.proofs.Counting.{put-sum}
use Rattle.site_shelves.proofs.Fronts.{AreGone, are-gone, taken-is}
use Rattle.site_shelves.proofs.Queueing.{told-length}
use Rattle.site_solution.specs.declared.coming.Coming.{Coming}
use Rattle.site_limits.specs.declared.known.Known.{Known}
use Rattle.site_solution.specs.declared.site.Site.TheInside.{Inside}
use Rattle.site_solution.specs.inside.Coming.{added}
use Rattle.site_solution.specs.inside.Stored.{seen, IsStored}
use Rattle.site_limits.specs.Shapes.{is_shaped}
use Rattle.site_limits.specs.Limits.{Limits, message_within, request_within, loc_within}
use Rattle.site_limits.specs.Limits.{told_within, group_within, IsWithin, AreWithin}
use Rattle.site_limits.specs.Knows.{is_known, limits_of, IsKnown, Noted}
use Rattle.site_solution.proofs.Adding.{HasCome, MayAdd, come-is, may-come}
use Rattle.site_solution.proofs.AllHold.{all-both, all-weaker}
use Rattle.site_solution.proofs.Keeping.{shelves-are}
use Rattle.site_limits.proofs.Learned.{wider-then}
use Rattle.site_solution.proofs.WithinLimits.{all-named, all-below, all-shaped, not-held}
use Rattle.site_solution.proofs.WithinLimits.{within-gone, within-come, within-stays}
use Rattle.site_limits.proofs.Stays.{list-stays, loc-stays, message-stays, request-stays}

-- ---- what comes

-- what was noted more doesn't matter to what is held already
pub known-later : (a b : Known) (H : Limits → Type 0) (s : Site) → Noted a b H → IsKnown a s
    → IsKnown b s
known-later a b H s noted h lost =
    let n = noted lost in
    within-stays s.number s (limits_of a) (limits_of b) n.wider (h n.kept)

-- what comes was noted before
pub known-come :
    (a b : Known) (next : ℕ) (ls : List Loc) (ds : List Told) (ws : List Waiting)
    (qs : List RequestParts) (s new : Site) → HasCome next ls ds ws qs s new
    → Noted a b (λ d. AreWithin d s.number ls ds ws qs) → IsKnown a s → IsKnown b new
known-come a b next ls ds ws qs s new come noted h lost =
    let n = noted lost in
    let old = within-stays s.number s (limits_of a) (limits_of b) n.wider (h n.kept) in
    let all = within-come (limits_of b) s.number next ls ds ws qs s new come n.holds old in
    subst (λ (i : ℕ). IsWithin (limits_of b) i new) (sym come.number) all

-- one message
put-come : (l : Loc) (m : MessageParts) (s : Site) → IsKept s → among s.locs l ≡ true
    → home_or l m.on ≡ l
    → HasCome s.made [] [] (record { loc = l; msg = m } ∷ []) [] s (put l m s)
put-come l m s kept here home =
    let is = put_is l m s kept here home in
    record {
      kept = is.kept;
      number = is.number;
      made = is.made;
      locs = is.locs ∙ sym (append-nil s.locs);
      told = is.told ∙ sym (append-nil (told_in s.groups));
      requests = is.requests;
      sums = λ f. omega (arith, put-sum f l m s);
    }

pub known-put : (a b : Known) (l : Loc) (m : MessageParts) (s : Site) → IsKept s
    → among s.locs l ≡ true → home_or l m.on ≡ l → Noted a b (λ d. message_within d m ≡ true)
    → IsKnown a s → IsKnown b (put l m s)
known-put a b l m s kept here home noted =
    known-come a b s.made [] [] (record { loc = l; msg = m } ∷ []) [] s (put l m s)
    (put-come l m s kept here home) (λ lost.
    let n = noted lost in
    record {
      kept = n.kept;
      wider = n.wider;
      holds = record {
        locs = refl;
        told = refl;
        waiting = and_from (message_within (limits_of b) m) true n.holds refl;
        requests = refl;
      };
    })

pub known-host : (a b : Known) (l : Loc) (s : Site)
    → Noted a b (λ d. loc_within d s.number l ≡ true) → IsKnown a s
    → IsKnown b (record s { locs = s.locs ++ l ∷ [] })
known-host a b l s noted h lost =
    let n = noted lost in
    let old = within-stays s.number s (limits_of a) (limits_of b) n.wider (h n.kept) in
    record {
      locs = all-both (loc_within (limits_of b) s.number) s.locs (l ∷ []) old.locs
          (and_from (loc_within (limits_of b) s.number l) true n.holds refl);
      groups = old.groups;
      stuck = old.stuck;
      requests = old.requests;
    }

with-all : (p : RequestParts → Bool) (q : RequestParts) (qs : List RequestParts)
    → list_all p qs ≡ true → p q ≡ true → list_all p (with_request q qs) ≡ true
with-all p q [] h one = and_from (p q) true one refl
with-all p q (x ∷ qs) h one =
    let both = and_parts (p x) (list_all p qs) h in
    go (precedes x.id q.id)
    (and_from (p x) (list_all p (with_request q qs)) both.0 (with-all p q qs both.1 one))
    (and_from (p q) (list_all p (x ∷ qs)) one h)
  where
    go : (u : Bool) → list_all p (x ∷ with_request q qs) ≡ true → list_all p (q ∷ x ∷ qs) ≡ true
        → list_all p (cond u (x ∷ with_request q qs) (q ∷ x ∷ qs)) ≡ true
    go true first later = first
    go false first later = later

pub known-ask : (a b : Known) (q : RequestParts) (s : Site)
    → Noted a b (λ d. request_within d q ≡ true) → IsKnown a s
    → IsKnown b (record s { requests = with_request q s.requests })
known-ask a b q s noted h lost =
    let n = noted lost in
    let old = within-stays s.number s (limits_of a) (limits_of b) n.wider (h n.kept) in
    record {
      locs = old.locs;
      groups = old.groups;
      stuck = old.stuck;
      requests = with-all (request_within (limits_of b)) q s.requests old.requests n.holds;
    }

-- and the groups, once they are there
noted-laid :
    (number : ℕ) (ls : List Loc) (ds es : List Told) (ws : List Waiting) (qs : List RequestParts)
    (a b c : Known) → es ≡ ds → Noted a b (λ e. AreWithin e number ls [] ws qs)
    → Noted b c (λ e. list_all (told_within e number) es ≡ true)
    → Noted a c (λ e. AreWithin e number ls ds ws qs)
noted-laid number ls ds es ws qs a b c same f g lost =
    let second = g lost in
    let first = f second.kept in
    let later = second.wider in
    record {
      kept = first.kept;
      wider = wider-then (limits_of a) (limits_of b) (limits_of c) first.wider later;
      holds = record {
        locs = list-stays (λ e l. loc_within e number l) (loc-stays number) ls (limits_of b)
            (limits_of c) later first.holds.locs;
        told = ap (list_all (told_within (limits_of c) number)) (sym same) ∙ second.holds;
        waiting = list-stays (λ e (w : Waiting). message_within e w.msg)
            (λ w. message-stays w.msg) ws (limits_of b) (limits_of c) later first.holds.waiting;
        requests = list-stays (λ e (q : RequestParts). request_within e q) request-stays qs
            (limits_of b) (limits_of c) later first.holds.requests;
      };
    }

drop-front : {X : Type 0} (xs ys : List X) (n : ℕ) → n ≡ length xs → drop n (xs ++ ys) ≡ ys
drop-front [] ys zero e = refl
drop-front [] ys (suc n) e = absurd (omega arith)
drop-front (x ∷ xs) ys zero e = absurd (omega arith)
drop-front (x ∷ xs) ys (suc n) e = drop-front xs ys n (omega arith)

-- without fronts
pub known-gone : (a : Known) (s : Site) (gs : List Group) → AreGone s gs → IsKnown a s
    → IsKnown a (record s { groups = gs })
known-gone a s gs gone h lost = within-gone (limits_of a) s.number s gs gone (h lost)

pub known-front : (a : Known) (s : Site) (new : Shelved) (j c : ℕ) → IsKept s
    → new.groups ≡ gone_at j (c ∷ []) s.groups → new.stuck ≡ s.stuck → IsKnown a s
    → IsKnown a (with_shelves new s)
known-front a s new j c kept groups stuck h =
    let gs = gone_at j (c ∷ []) s.groups in
    subst (IsKnown a) (sym (shelves-are s new gs s.stuck groups stuck))
    (known-gone a s gs (are-gone s j (c ∷ []) kept) h)

-- all that comes to a site at once, where fronts go first
pub known-add :
    (a b : Inside) (k k' : Known) (ls : List Loc) (m : Coming) (j : ℕ) (cs : List ℕ) (laid : ℕ)
    (es : List Told) → IsStored (seen a)
    → MayAdd ls m (record (seen a) { groups = gone_at j cs a.shelves.groups })
    → seen b ≡ added ls m (taken_at j cs (seen a)) → laid ≡ length a.shelves.groups
    → es ≡ told_in b.shelves.groups
    → Noted a.known k (λ e. AreWithin e a.number ls [] m.waiting.items m.requests.items)
    → Noted k k' (λ e. list_all (told_within e a.number) (drop laid es) ≡ true)
    → IsKnown a.known (seen a) → IsKnown k' (seen b)
known-add a b k k' ls m j cs laid es h may is many told_is f g known =
    let ds = told_of_new m.groups.items in
    let gs : List Group = gone_at j cs a.shelves.groups in
    let s : Site = record (seen a) { groups = gs } in
    let gone = are-gone (seen a) j cs h.kept in
    let come = come-is m.next ls ds m.waiting.items m.requests.items s
    (may-come ls m s may.can may.stored.kept) in
    let same : seen b ≡ added ls m s = is ∙ ap (added ls m) (taken-is j cs (seen a)) in
    let told : told_in b.shelves.groups ≡ told_in a.shelves.groups ++ ds =
    ap (λ (x : Site). told_in x.groups) same ∙ come.told
    ∙ ap (λ (xs : List Told). xs ++ ds) gone.told in
    let new : drop laid es ≡ ds =
    ap (drop laid) (told_is ∙ told)
    ∙ drop-front (told_in a.shelves.groups) ds laid (many ∙ sym (told-length a.shelves.groups)) in
    subst (IsKnown k') (sym same)
    (known-come a.known k' m.next ls ds m.waiting.items m.requests.items s (added ls m s) come
    (noted-laid a.number ls ds (drop laid es) m.waiting.items m.requests.items a.known k k' new f
    g) (known-gone a.known (seen a) gs gone known))

-- ---- what goes

without-all : (p : RequestParts → Bool) (i : AtomId) (qs : List RequestParts)
    → list_all p qs ≡ true → list_all p (without_request i qs) ≡ true
without-all p i [] h = refl
without-all p i (x ∷ qs) h =
    let both = and_parts (p x) (list_all p qs) h in
    go (same_atom x.id i) both.0 both.1 (without-all p i qs both.1)
  where
    go : (u : Bool) → p x ≡ true → list_all p qs ≡ true → list_all p (without_request i qs) ≡ true
        → list_all p (cond u qs (x ∷ without_request i qs)) ≡ true
    go true one rest later = rest
    go false one rest later = and_from (p x) (list_all p (without_request i qs)) one later

pub known-drop : (a : Known) (i : AtomId) (s : Site) → IsKnown a s
    → IsKnown a (record s { requests = without_request i s.requests })
known-drop a i s h lost =
    let old = h lost in
    record {
      locs = old.locs;
      groups = old.groups;
      stuck = old.stuck;
      requests = without-all (request_within (limits_of a)) i s.requests old.requests;
    }

module _ (l : Loc) where
  -- one that stays where it isn't at the location
  one-but : {X : Type 0} (p : X → Bool) (x : X) (xs : List X) (t : Bool) → p x ≡ true
      → list_all p xs ≡ true → list_all p (cond t xs (x ∷ xs)) ≡ true
  one-but p x xs true one rest = rest
  one-but p x xs false one rest = and_from (p x) (list_all p xs) one rest

  locs-but : (p : Loc → Bool) (xs : List Loc) → list_all p xs ≡ true
      → list_all p (locs_but l xs) ≡ true
  locs-but p [] h = refl
  locs-but p (x ∷ xs) h =
      let both = and_parts (p x) (list_all p xs) h in
      one-but p x (locs_but l xs) (same_loc l x) both.0 (locs-but p xs both.1)

  groups-but : (p : Group → Bool) (xs : List Group) → list_all p xs ≡ true
      → list_all p (groups_but l xs) ≡ true
  groups-but p [] h = refl
  groups-but p (x ∷ xs) h =
      let both = and_parts (p x) (list_all p xs) h in
      one-but p x (groups_but l xs) (same_loc l x.told.inst.loc) both.0 (groups-but p xs both.1)

  stuck-but : (p : Waiting → Bool) (xs : List Waiting) → list_all p xs ≡ true
      → list_all p (stuck_but l xs) ≡ true
  stuck-but p [] h = refl
  stuck-but p (x ∷ xs) h =
      let both = and_parts (p x) (list_all p xs) h in
      one-but p x (stuck_but l xs) (same_loc l x.loc) both.0 (stuck-but p xs both.1)

  requests-but : (p : RequestParts → Bool) (xs : List RequestParts) → list_all p xs ≡ true
      → list_all p (requests_but l xs) ≡ true
  requests-but p [] h = refl
  requests-but p (x ∷ xs) h =
      let both = and_parts (p x) (list_all p xs) h in
      one-but p x (requests_but l xs) (same_loc l x.loc) both.0 (requests-but p xs both.1)

  pub known-removed : (a : Known) (s : Site) → IsKnown a s → IsKnown a (remove l s)
  known-removed a s h lost =
      let old = h lost in
      record {
        locs = locs-but (loc_within (limits_of a) s.number) s.locs old.locs;
        groups = groups-but (group_within (limits_of a) s.number) s.groups old.groups;
        stuck = stuck-but (λ (w : Waiting). message_within (limits_of a) w.msg) s.stuck old.stuck;
        requests = requests-but (request_within (limits_of a)) s.requests old.requests;
      }

-- ---- what the tests say

pub known-named : (a : Known) (there : Loc → Bool) (s : Site) → a.lost ≡ false
    → ((l : Loc) → is_known a l ≡ true → there l ≡ true) → IsKnown a s → all_in there s ≡ true
known-named a there s lost weaker h =
    all-named (limits_of a) s.number there s weaker (h lost)

pub known-drawn : (a : Known) (s : Site) → a.lost ≡ false → a.drawn ≤ s.made
    → slice_index a.atoms.items s.number ≤ s.made → IsKnown a s → all_drawn s ≡ true
known-drawn a s lost drawn past h =
    all-below (limits_of a) s.number s refl drawn past (h lost)

pub known-absent : (a : Known) (i : AtomId) (s : Site) → a.lost ≡ false
    → slice_index a.atoms.items i.site ≤ i.k → IsKnown a s → has_atom i s ≡ false
known-absent a i s lost past h = not-held (limits_of a) s.number i past s (h lost)

pub known-told : (a : Known) (c : CodeParts) (s : Site) → a.lost ≡ false
    → ((d : Told) → is_shaped a.shapes.items d ≡ true → is_told_by c d ≡ true) → IsKnown a s
    → list_all (is_told_by c) (told_in s.groups) ≡ true
known-told a c s lost weaker h =
    all-weaker (is_shaped a.shapes.items) (is_told_by c) (told_in s.groups) weaker
    (all-shaped (limits_of a) s.number s.groups (h lost).groups)
