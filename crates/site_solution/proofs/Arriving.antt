-- What the tests of a site say after a location has come to it, and a continuation with it.
use Rattle.site_solution.proofs.Dropping.{operated_none}
use Rattle.std.proofs.Common.{◌≡◌, ℕ, ◌+◌, ◌≤◌, ◌++◌, Bool, true, false, cond, List, [], ◌∷◌}
use Rattle.std.proofs.Common.{Option, Result, Ok, Err, refl, sym, ap, subst, ◌∙◌, arith}
use Rattle.std.specs.Prelude.{◌&&◌, is_some, slice_get, OnOk}
use Rattle.std.specs.List.{list_all}
use Rattle.std.proofs.lemmas.Bool.{and_parts, and_from, or_left}
use Rattle.std.proofs.lemmas.Bool.Decides.{nat_tests}
use Rattle.chem_model.specs.declared.name.Loc.{Loc}
use Rattle.chem_model.specs.declared.name.Name.{Name}
use Rattle.chem_model.specs.declared.name.Name.TheVariants as name
use Rattle.chem_model.specs.declared.name.Ref.TheVariants.{Known}
use Rattle.chem_model.specs.declared.numbered.Made.{Made}
use Rattle.chem_model.specs.Process.{Msg}
use Rattle.chem_model.specs.Opening.{root_of}
use Rattle.chem_model.specs.Pour.{is_count, atom_made, out_made, operated_made}
use Rattle.chem_model.specs.declared.operation.Became.{Became}
use Rattle.chem_model.specs.Solution.{same_loc}
use Rattle.wire_packet.specs.MessageFacts.{MessageParts}
use Rattle.wire_packet.specs.declared.packet.Waiting.{Waiting}
use Rattle.wire_packet.specs.GroupFacts.{RequestParts}
use Rattle.wire_packet.specs.ParcelFacts.{ParcelParts}
use Rattle.env_store.specs.CodeParts.{CodeParts}
use Rattle.loc_tree.specs.Tree.{Tree, spot, IsFresh}
use Rattle.loc_tree.proofs.Spots.{same_loc_is}
use Rattle.net_laws.specs.Site.{Told, told_in, Site}
use Rattle.net_laws.specs.Net.{among}
use Rattle.net_laws.specs.Kept.{IsKept}
use Rattle.net_laws.specs.ByCode.{told_by}
use Rattle.net_laws.specs.Parcels.{Load, all_told, load_of}
use Rattle.net_laws.specs.Posting.{posted_of}
use Rattle.net_laws.specs.Moves.{continuation_made}
use Rattle.net_laws.proofs.Posting.{among_append}
use Rattle.site_solution.specs.declared.coming.Coming.{Coming}
use Rattle.site_shelves.specs.Named.{name_in, names_in, message_in, request_in, in_tree}
use Rattle.site_shelves.specs.InTree.{is_number, has_number, name_stands, is_in_tree}
use Rattle.site_shelves.specs.InCode.{is_told_by, is_in_code}
use Rattle.site_shelves.specs.Draws.{is_drawn, message_drawn, told_drawn, all_drawn}
use Rattle.site_shelves.specs.Draws.{CanDraw}
use Rattle.site_solution.specs.inside.Split.{waits_in, asked_in}
use Rattle.site_shelves.specs.inside.New.{told_of_new}
use Rattle.site_shelves.specs.Held.{taken_at}
use Rattle.site_solution.specs.inside.Coming.{CanAdd, added}
use Rattle.site_solution.specs.inside.Carried.{IsCarried, IsBeside}
use Rattle.site_solution.specs.Staying.{AgreeBut, StillFits, HasReceived}
use Rattle.site_solution.specs.Arriving.{FitsInto}
use Rattle.site_shelves.proofs.Fronts.{taken-nothing}
use Rattle.site_solution.proofs.Adding.{HasCome, come-is, may-come}
use Rattle.site_solution.proofs.AllHold.{AllHold, all-both, all-weaker, holds-weaker, come-holds}
use Rattle.site_solution.proofs.Leaves.{drawn-later}
use Rattle.site_solution.proofs.Together.{in_tree_parts, in_tree_from, drawn_parts, drawn_from}
use Rattle.site_solution.proofs.Together.{tree_same, code_same, fresh_same}
pub use Rattle.site_limits.proofs.Stays.{told_later}

-- ---- what has come to a site

pub has_come : (ls : List Loc) (m : Coming) (s new : Site) → CanAdd ls m s → IsKept s
    → new ≡ added ls m (taken_at 0 [] s)
    → HasCome m.next ls (told_of_new m.groups.items) m.waiting.items m.requests.items s new
has_come ls m s new can kept is =
    subst (HasCome m.next ls (told_of_new m.groups.items) m.waiting.items m.requests.items s)
    (sym (is ∙ ap (added ls m) (taken-nothing 0 s)))
    (come-is m.next ls (told_of_new m.groups.items) m.waiting.items m.requests.items s
    (may-come ls m s can kept))

-- ---- numbers below a larger count

-- ---- what comes at one location

-- it is in the tree with the number of the site, all that comes names what is there, and is of the
-- code's levels, and what the site made of it has numbers below the next one
pub record Fit (c : CodeParts) (u : Tree) (i next : ℕ) (l : Loc) (ds : List Told)
    (ws : List Waiting) (qs : List RequestParts) : Type 0 where
  pub hosted : has_number u i l ≡ true
  pub told : list_all (is_told_by c) ds ≡ true
  pub envs : list_all (λ (d : Told). names_in (in_tree u) d.inst.env) ds ≡ true
  pub messages : list_all (λ (w : Waiting). message_in (in_tree u) w.msg) ws ≡ true
  pub asks : list_all (request_in (in_tree u)) qs ≡ true
  pub loc_drawn : is_drawn i next l.site l.k ≡ true
  pub told_drawn : list_all (told_drawn i next) ds ≡ true
  pub messages_drawn : list_all (λ (w : Waiting). message_drawn i next w.msg) ws ≡ true
  pub asks_drawn : list_all (λ (q : RequestParts). is_drawn i next q.id.site q.id.k) qs ≡ true

module _ (c : CodeParts) (t u : Tree) (l : Loc) (agree : AgreeBut l t u) (next : ℕ) (ds : List Told)
    (ws : List Waiting) (qs : List RequestParts) (s new : Site)
    (come : HasCome next (l ∷ []) ds ws qs s new) (fit : Fit c u s.number next l ds ws qs) where
  hosted_too : (ls : List Loc) → list_all (has_number t s.number) ls ≡ true
      → list_all (has_number u s.number) ls ≡ true
  hosted_too [] h = refl
  hosted_too (x ∷ ls) h =
      let both = and_parts (has_number t s.number x) (list_all (has_number t s.number) ls) h in
      and_from (has_number u s.number x) (list_all (has_number u s.number) ls)
      (go (same_loc l x) refl both.0) (hosted_too ls both.1)
    where
      go : (b : Bool) → same_loc l x ≡ b → has_number t s.number x ≡ true
          → has_number u s.number x ≡ true
      go true e one = ap (has_number u s.number) (sym (same_loc_is l x e)) ∙ fit.hosted
      go false e one = sym (ap (λ o. is_number o s.number) (agree.numbers x e)) ∙ one

  pub come_in_tree : is_in_tree t s ≡ true → is_in_tree u new ≡ true
  come_in_tree h =
      let parts = in_tree_parts t s h in
      let hosted = hosted_too s.locs parts.hosted in
      let old = tree_same t u agree.there s hosted parts in
      let all = come-holds (message_in (in_tree u)) (λ (d : Told). names_in (in_tree u) d.inst.env)
      (request_in (in_tree u)) next (l ∷ []) ds ws qs s new come
      (record { groups = old.groups; stuck = old.stuck; requests = old.requests })
      fit.envs fit.messages fit.asks in
      let both : list_all (has_number u s.number) (s.locs ++ l ∷ []) ≡ true =
      all-both (has_number u s.number) s.locs (l ∷ []) hosted
      (and_from (has_number u s.number l) true fit.hosted refl) in
      in_tree_from u new (record {
        hosted = ap (λ (i : ℕ). list_all (has_number u i) new.locs) come.number
            ∙ ap (list_all (has_number u s.number)) come.locs ∙ both;
        rooted = ap (λ (i : ℕ). among new.locs (root_of i)) come.number
            ∙ ap (λ (xs : List Loc). among xs (root_of s.number)) come.locs
            ∙ among_append s.locs (l ∷ []) (root_of s.number)
            ∙ or_left (among s.locs (root_of s.number)) (among (l ∷ []) (root_of s.number))
            parts.rooted;
        groups = all.groups;
        stuck = all.stuck;
        requests = all.requests;
      })

  pub come_in_code : is_in_code c t s ≡ true → is_in_code c u new ≡ true
  come_in_code h =
      let both = and_parts (list_all (is_told_by c) (told_in s.groups))
      (list_all (λ (x : Loc). is_some (spot t x)) c.tops) h in
      let told : list_all (is_told_by c) (told_in new.groups) ≡ true =
      ap (list_all (is_told_by c)) come.told
      ∙ all-both (is_told_by c) (told_in s.groups) ds both.0 fit.told in
      code_same t u agree.there c new (and_from (list_all (is_told_by c) (told_in new.groups))
      (list_all (λ (x : Loc). is_some (spot t x)) c.tops) told both.1)

  pub come_drawn : s.made ≤ next → all_drawn s ≡ true → all_drawn new ≡ true
  come_drawn later h =
      let i = s.number in
      let old = drawn_parts s h in
      let was : AllHold (message_drawn i s.made) (told_drawn i s.made)
      (λ (q : RequestParts). is_drawn i s.made q.id.site q.id.k) s =
      record { groups = old.groups; stuck = old.stuck; requests = old.requests } in
      let held = holds-weaker (message_drawn i s.made) (message_drawn i next) (told_drawn i s.made)
      (told_drawn i next) (λ (q : RequestParts). is_drawn i s.made q.id.site q.id.k)
      (λ (q : RequestParts). is_drawn i next q.id.site q.id.k) s
      (λ m e. drawn-later i s.made next m.id.site m.id.k later e)
      (λ d e. told_later i s.made next d later e)
      (λ q e. drawn-later i s.made next q.id.site q.id.k later e) was in
      let all = come-holds (message_drawn i next) (told_drawn i next)
      (λ (q : RequestParts). is_drawn i next q.id.site q.id.k) next (l ∷ []) ds ws qs s new come
      held fit.told_drawn fit.messages_drawn fit.asks_drawn in
      let locs : list_all (λ (x : Loc). is_drawn i next x.site x.k) (s.locs ++ l ∷ []) ≡ true =
      all-both (λ (x : Loc). is_drawn i next x.site x.k) s.locs (l ∷ [])
      (all-weaker (λ (x : Loc). is_drawn i s.made x.site x.k)
      (λ (x : Loc). is_drawn i next x.site x.k)
      s.locs (λ x e. drawn-later i s.made next x.site x.k later e) old.locs)
      (and_from (is_drawn i next l.site l.k) true fit.loc_drawn refl) in
      let at : all_drawn (record new { number = i; made = next }) ≡ true =
      drawn_from (record new { number = i; made = next }) (record {
        locs = ap (list_all (λ (x : Loc). is_drawn i next x.site x.k)) come.locs ∙ locs;
        groups = all.groups;
        stuck = all.stuck;
        requests = all.requests;
      }) in
      subst (λ (j : ℕ). all_drawn (record new { number = j; made = new.made }) ≡ true)
      (sym come.number)
      (subst (λ (n : ℕ). all_drawn (record new { number = i; made = n }) ≡ true) (sym come.made) at)

  pub come_fresh : s.made ≤ next → IsFresh t s.number s.made → IsFresh u new.number new.made
  come_fresh later h =
      let first : IsFresh u s.number next =
      λ k past. fresh_same t u agree.there s.number s.made h k (omega (arith, later, past)) in
      subst (λ (j : ℕ). IsFresh u j new.made) (sym come.number)
      (subst (λ (n : ℕ). IsFresh u s.number n) (sym come.made) first)

  pub come_received : s.made ≤ next → is_in_tree t s ≡ true → is_in_code c t s ≡ true → CanDraw t s
      → HasReceived c u new
  come_received later there coded draws = record {
    all_there = come_in_tree there;
    in_code = come_in_code coded;
    drawn = come_drawn later draws.drawn;
    fresh = come_fresh later draws.fresh;
  }

  -- where the count stays
  pub come_fits : next ≡ s.made → StillFits c t s u new
  come_fits same = record {
    in_tree = come_in_tree;
    in_code = come_in_code;
    draws = λ h. record {
      few = omega (arith, h.few, come.made, same);
      drawn = come_drawn (omega (arith, same)) h.drawn;
      fresh = come_fresh (omega (arith, same)) h.fresh;
    };
  }

-- ---- what a parcel brings

pub load_fits : (c : CodeParts) (u : Tree) (p : Load) (s : Site) (next : ℕ) → s.made ≤ next
    → FitsInto c u p s → Fit c u s.number next p.loc p.groups p.waiting p.requests
load_fits c u p s next later h =
    let i = s.number in
    let k = s.made in
    let names = and_parts (list_all (λ (d : Told). names_in (in_tree u) d.inst.env) p.groups)
    (list_all (λ (w : Waiting). message_in (in_tree u) w.msg) p.waiting
    && list_all (request_in (in_tree u)) p.requests) h.named in
    let names' = and_parts (list_all (λ (w : Waiting). message_in (in_tree u) w.msg) p.waiting)
    (list_all (request_in (in_tree u)) p.requests) names.1 in
    let groups = list_all (told_drawn i k) p.groups in
    let waits = list_all (λ (w : Waiting). message_drawn i k w.msg) p.waiting in
    let asks = list_all (λ (q : RequestParts). is_drawn i k q.id.site q.id.k) p.requests in
    let first = and_parts (is_drawn i k p.loc.site p.loc.k) (groups && (waits && asks)) h.drawn in
    let second = and_parts groups (waits && asks) first.1 in
    let third = and_parts waits asks second.1 in
    record {
      hosted = h.hosted;
      told = h.told;
      envs = names.0;
      messages = names'.0;
      asks = names'.1;
      loc_drawn = drawn-later i k next p.loc.site p.loc.k later first.0;
      told_drawn = all-weaker (told_drawn i k) (told_drawn i next)
          p.groups (λ d e. told_later i k next d later e) second.0;
      messages_drawn = all-weaker (λ (w : Waiting). message_drawn i k w.msg)
          (λ (w : Waiting). message_drawn i next w.msg)
          p.waiting (λ w e. drawn-later i k next w.msg.id.site w.msg.id.k later e) third.0;
      asks_drawn = all-weaker (λ (q : RequestParts). is_drawn i k q.id.site q.id.k)
          (λ (q : RequestParts). is_drawn i next q.id.site q.id.k)
          p.requests (λ q e. drawn-later i k next q.id.site q.id.k later e) third.1;
    }

-- ---- a continuation

-- it is shown, or one message with the next number
pub record Continues (P : MessageParts → Bool) (i k : ℕ) (on : Name) (ls : List Loc)
    (a : Made) : Type 0 where
  pub from : k ≤ a.next
  pub no_asks : asked_in (posted_of a.atoms) ≡ []
  pub holds :
      (a.next ≡ k + 1 → P (record { id = record { site = i; k = k }; on = on; args = [] }) ≡ true)
      → list_all (λ (w : Waiting). P w.msg) (waits_in ls (posted_of a.atoms)) ≡ true

module _ (P : MessageParts → Bool) (i k : ℕ) (ls : List Loc) where
  continues_one : (l : Loc) (on : Name)
      → Continues P i k on ls (atom_made i l k (Msg (Known on) []))
  continues_one l on =
      record { from = omega arith; no_asks = refl; holds = λ is. go (among ls l) (is refl) }
    where
      go : (b : Bool) → P (record { id = record { site = i; k = k }; on = on; args = [] }) ≡ true
          → list_all (λ (w : Waiting). P w.msg) (cond b
          (record { loc = l; msg = record { id = record { site = i; k = k }; on = on; args = [] } }
          ∷ []) []) ≡ true
      go true e =
          and_from (P (record { id = record { site = i; k = k }; on = on; args = [] })) true e refl
      go false e = refl

  pub continues : (seen : List ℕ) (l : Loc) (cont : Name)
      → Continues P i k cont ls (continuation_made seen i l k cont)
  continues seen l (name.Seen j) = go (is_count (slice_get seen j) 0)
    where
      go : (b : Bool)
          → Continues P i k (name.Seen j) ls
          (cond b (out_made k j []) (atom_made i l k (Msg (Known (name.Seen j)) [])))
      go true = record { from = omega arith; no_asks = refl; holds = λ is. refl }
      go false = continues_one l (name.Seen j)
  continues seen l (name.Place a) = continues_one l (name.Place a)
  continues seen l (name.Chan s j h) = continues_one h (name.Chan s j h)
  continues seen l (name.Num n) = continues_one l (name.Num n)
  continues seen l (name.Op n) =
      subst
      (λ (o : Option Became). Continues P i k (name.Op n) ls (operated_made seen i l k n [] o))
      (sym (operated_none n)) (continues_one l (name.Op n))

own_drawn : (i k n : ℕ) → n ≡ k + 1 → is_drawn i n i k ≡ true
own_drawn i k n is = grind (arith, nat_tests)

-- what a parcel brings, with the continuation
pub cont_fits :
    (c : CodeParts) (u : Tree) (p : Load) (s : Site) (seen : List ℕ) (l : Loc) (cont : Name)
    (ls : List Loc) → FitsInto c u p s → name_stands u cont ≡ true
    → let a = continuation_made seen s.number l s.made cont in
    Fit c u s.number a.next p.loc p.groups (p.waiting ++ waits_in ls (posted_of a.atoms))
    (p.requests ++ asked_in (posted_of a.atoms))
cont_fits c u p s seen l cont ls h named =
    let i = s.number in
    let k = s.made in
    let a : Made = continuation_made seen i l k cont in
    let names = continues (message_in (in_tree u)) i k ls seen l cont in
    let drawn = continues (message_drawn i a.next) i k ls seen l cont in
    let fit = load_fits c u p s a.next names.from h in
    let none : asked_in (posted_of a.atoms) ≡ [] = names.no_asks in
    record {
      hosted = fit.hosted;
      told = fit.told;
      envs = fit.envs;
      messages = all-both (λ (w : Waiting). message_in (in_tree u) w.msg)
          p.waiting (waits_in ls (posted_of a.atoms))
          fit.messages (names.holds (λ _. and_from (name_in (in_tree u) cont) true named refl));
      asks = all-both (request_in (in_tree u)) p.requests (asked_in (posted_of a.atoms))
          fit.asks (ap (list_all (request_in (in_tree u))) none);
      loc_drawn = fit.loc_drawn;
      told_drawn = fit.told_drawn;
      messages_drawn = all-both (λ (w : Waiting). message_drawn i a.next w.msg)
          p.waiting (waits_in ls (posted_of a.atoms))
          fit.messages_drawn (drawn.holds (λ is. own_drawn i k a.next is));
      asks_drawn = all-both (λ (q : RequestParts). is_drawn i a.next q.id.site q.id.k)
          p.requests (asked_in (posted_of a.atoms)) fit.asks_drawn
          (ap (list_all (λ (q : RequestParts). is_drawn i a.next q.id.site q.id.k)) none);
    }

-- ---- the clauses of the calls

pub on_ok : {A E X : Type 0} (Q : Type 0) (r : Result A E) (new done : X) → OnOk r (new ≡ done)
    → (new ≡ done → Q) → OnOk r Q
on_ok Q (Ok a) new done is then = then is
on_ok Q (Err e) new done is then = tt

pub taken_fits : (c : CodeParts) (p : ParcelParts) (m : Coming) (s new : Site)
    → CanAdd (p.loc ∷ []) m s → IsKept s → IsCarried c p s.made m
    → new ≡ added (p.loc ∷ []) m (taken_at 0 [] s)
    → (t u : Tree) → AgreeBut p.loc t u → FitsInto c u (load_of (told_by c) p) s
    → StillFits c t s u new
taken_fits c p m s new can kept is was t u agree fits =
    let come = has_come (p.loc ∷ []) m s new can kept was in
    let fit = load_fits c u (load_of (told_by c) p) s s.made (omega arith) fits in
    let fit' : Fit c u s.number m.next p.loc (told_of_new m.groups.items)
    m.waiting.items m.requests.items =
    subst (λ (n : ℕ).
    Fit c u s.number n p.loc (told_of_new m.groups.items) m.waiting.items m.requests.items)
    (sym is.next_is)
    (subst (λ (ds : List Told). Fit c u s.number s.made p.loc ds m.waiting.items m.requests.items)
    (sym is.told)
    (subst (λ (ws : List Waiting).
    Fit c u s.number s.made p.loc (all_told (told_by c) p.groups) ws m.requests.items)
    (sym is.waiting_are)
    (subst (λ (qs : List RequestParts).
    Fit c u s.number s.made p.loc (all_told (told_by c) p.groups) p.waiting qs)
    (sym is.requests_are) fit))) in
    come_fits c t u p.loc agree m.next (told_of_new m.groups.items)
    m.waiting.items m.requests.items s new come fit' is.next_is

pub received_fits :
    (c : CodeParts) (p : ParcelParts) (l : Loc) (seen : List ℕ) (cont : Name) (before m : Coming)
    (s new : Site) (ls : List Loc) → p.loc ≡ l → CanAdd (l ∷ []) m s → IsKept s
    → new ≡ added (l ∷ []) m (taken_at 0 [] s)
    → let a = continuation_made seen s.number l s.made cont in IsCarried c p a.next before
    → IsBeside before (waits_in ls (posted_of a.atoms)) (asked_in (posted_of a.atoms)) m
    → (t u : Tree) → AgreeBut l t u → FitsInto c u (load_of (told_by c) p) s
    → name_stands u cont ≡ true → is_in_tree t s ≡ true → is_in_code c t s ≡ true → CanDraw t s
    → HasReceived c u new
received_fits c p l seen cont before m s new ls at can kept was is more t u agree fits named there
    coded draws =
    let a : Made = continuation_made seen s.number l s.made cont in
    let come = has_come (l ∷ []) m s new can kept was in
    let fit = cont_fits c u (load_of (told_by c) p) s seen l cont ls fits named in
    let next : m.next ≡ a.next = more.next_same ∙ is.next_is in
    let told : told_of_new m.groups.items ≡ all_told (told_by c) p.groups =
    ap told_of_new more.groups_are ∙ is.told in
    let waiting : m.waiting.items ≡ p.waiting ++ waits_in ls (posted_of a.atoms) =
    more.waiting_are ∙ ap (λ ws. ws ++ waits_in ls (posted_of a.atoms)) is.waiting_are in
    let asks : m.requests.items ≡ p.requests ++ asked_in (posted_of a.atoms) =
    more.requests_are ∙ ap (λ qs. qs ++ asked_in (posted_of a.atoms)) is.requests_are in
    let fit' : Fit c u s.number m.next p.loc (told_of_new m.groups.items)
    m.waiting.items m.requests.items =
    subst (λ (n : ℕ).
    Fit c u s.number n p.loc (told_of_new m.groups.items) m.waiting.items m.requests.items)
    (sym next)
    (subst (λ (ds : List Told). Fit c u s.number a.next p.loc ds m.waiting.items m.requests.items)
    (sym told)
    (subst (λ (ws : List Waiting).
    Fit c u s.number a.next p.loc (all_told (told_by c) p.groups) ws m.requests.items) (sym waiting)
    (subst
    (λ (qs : List RequestParts). Fit c u s.number a.next p.loc (all_told (told_by c) p.groups)
    (p.waiting ++ waits_in ls (posted_of a.atoms)) qs) (sym asks) fit))) in
    let fit_at : Fit c u s.number m.next l (told_of_new m.groups.items)
    m.waiting.items m.requests.items = subst (λ (x : Loc).
    Fit c u s.number m.next x (told_of_new m.groups.items) m.waiting.items m.requests.items) at
    fit' in
    let later : s.made ≤ m.next =
    let from = (continues (message_in (in_tree u)) s.number s.made ls seen l cont).from in
    omega (arith, from, next) in
    come_received c t u l agree m.next (told_of_new m.groups.items)
    m.waiting.items m.requests.items s new come fit_at later there coded draws
