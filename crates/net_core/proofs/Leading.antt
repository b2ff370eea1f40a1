-- What a network does by code is a choice of it, and so one event or none.
use Rattle.std.proofs.Common.{◌≡◌, ℕ, zero, suc, ◌+◌, ◌<◌, ◌≤◌, List, [], ◌∷◌, ◌++◌, Some, None}
use Rattle.std.proofs.Common.{Bool, true, false, cond, refl, sym, ap, ◌∙◌, subst, arith, length}
use Rattle.std.proofs.Common.{slice_get}
use Rattle.std.specs.Prelude.{slice_set, slice_index, ◌-◌}
use Rattle.std.proofs.lemmas.List.{get_or-set_same}
use Rattle.chem_model.specs.declared.name.Loc.{Loc}
use Rattle.chem_model.specs.declared.name.Name.{Name}
use Rattle.chem_model.specs.declared.name.Name.TheVariants as name
use Rattle.chem_model.specs.declared.event.AtomId.{AtomId}
use Rattle.chem_model.specs.declared.event.RuleId.{RuleId}
use Rattle.chem_model.specs.declared.event.Event.{Event}
use Rattle.chem_model.specs.declared.event.Event.TheVariants as event
use Rattle.chem_model.specs.declared.numbered.NumberedRule.{NumberedRule}
use Rattle.chem_model.specs.declared.numbered.Numbered.{Numbered}
use Rattle.chem_model.specs.ProgramFacts.{ProgramTerms, IsProgram}
use Rattle.chem_model.specs.Each.{Each}
use Rattle.chem_model.specs.Apply.{same_atom}
use Rattle.chem_model.specs.Opening.{root_of, counts_of}
use Rattle.chem_model.specs.Reduction.{continuation}
use Rattle.chem_model.specs.declared.name.Ref.TheVariants.{Known}
use Rattle.chem_laws.proofs.Lists.{Each-append, Each-weaker, append_nil}
use Rattle.chem_laws.proofs.PourNumbers.{pour_draws}
use Rattle.chem_laws.proofs.Taking.{same_atom_is}
use Rattle.wire_packet.specs.GroupFacts.{GroupParts, RequestParts}
use Rattle.env_store.specs.declared.code.Level.{Level}
use Rattle.env_store.specs.CodeParts.{CodeParts}
use Rattle.env_store.specs.CodeFacts.{IsCode}
use Rattle.env_store.specs.Layout.{levels_of_program}
use Rattle.env_store.specs.Reading.{IsCodeOf}
use Rattle.env_store.specs.Running.{code_made}
use Rattle.env_store.specs.Groups.{IsNumbered}
use Rattle.env_store.specs.Laws.{IsGroupIn, rules_of_group}
use Rattle.env_store.proofs.RuleGuards.{reacting_is_pouring}
use Rattle.loc_tree.specs.Tree.{spot, number_in, is_alive, with_number, with_mark}
use Rattle.net_laws.specs.Site.{Told, Site, told_in}
use Rattle.net_laws.specs.Net.{Addressed, Net, Stands, among, made_of, home_or, IsChannel}
use Rattle.net_laws.specs.Net.{IsOnItsWay, address, without_packet}
use Rattle.net_laws.specs.Changes.{given_all, ids}
use Rattle.net_laws.specs.Kept.{IsKept, IsNet}
use Rattle.net_laws.specs.Holding.{put, request_with, drop_request}
use Rattle.net_laws.specs.Posting.{posted_of, with_queues}
use Rattle.net_laws.specs.Parcels.{all_told, pack, remove, take_in}
use Rattle.net_laws.specs.Choices.{Choice, to_react, to_deliver, to_meet, with_outcome}
use Rattle.net_laws.specs.Choices.{moved_between, Works, Leads}
use Rattle.net_laws.specs.Choices as works
use Rattle.net_laws.specs.ByCode.{told_by, args_of, run_here, IsOfCode, IsDrawn}
use Rattle.net_laws.specs.Moves.{may_go, continuation_made, moved_made}
use Rattle.net_laws.specs.Meeting.{sent_here}
use Rattle.net_laws.specs.Opened.{AreDrawn, RunsCode}
use Rattle.net_laws.proofs.ByCode.{counted, each_told, reaction_works, run_at, site_is_part}
use Rattle.net_laws.proofs.Calls.{each_at}
use Rattle.net_laws.proofs.Choices.{works_lead}
use Rattle.net_laws.proofs.Follows.{group_hosted}
use Rattle.net_laws.proofs.Holds.{each_get, laid_at}
use Rattle.net_laws.proofs.Moves.{may_leave}
use Rattle.site_solution.proofs.Together.{request_has}
use Rattle.net_laws.proofs.Meeting.{detection_works, move_within_works, move_between_works}
use Rattle.net_laws.proofs.Parcels.{each_laid_but}
use Rattle.net_laws.proofs.Posting.{each_set, fronts_go}
use Rattle.net_laws.proofs.Sites.{made_set, made_at, get_below, length_made}
use Rattle.net_core.specs.Acting.{Reacts, delivered, Delivers, Halts, Detects, Stays, Leaves, Moves}
use Rattle.net_core.specs.Acting.{stays, leaves}
use Rattle.net_core.specs.Laws.{IsLed, ActsLead}
use Rattle.loc_tree.proofs.Away.{goal_lives}
use Rattle.net_core.proofs.Poured.{poured_made, poured_told, put_made, put_told, taken_told}

-- ---- lists

pub get_some : {X : Type 0} (xs : List X) (i : ℕ) → i < length xs
    → (x : X) × (slice_get xs i ≡ Some x)
get_some [] i h = absurd (omega arith)
get_some (x ∷ xs) zero h = (x, refl)
get_some (x ∷ xs) (suc i) h = get_some xs i (omega arith)

-- one number that rises
rises : (counts : List ℕ) (i old k : ℕ) → slice_index counts i ≡ old → old ≤ k → (j : ℕ)
    → slice_index counts j ≤ slice_index (slice_set counts i k) j
rises [] i old k e h j = omega arith
rises (n ∷ ns) zero old k e h zero = omega arith
rises (n ∷ ns) zero old k e h (suc j) = omega arith
rises (n ∷ ns) (suc i) old k e h zero = omega arith
rises (n ∷ ns) (suc i) old k e h (suc j) = rises ns i old k e h j

pub request_id : (qs : List RequestParts) (a : AtomId) (q : RequestParts)
    → request_with a qs ≡ Some q → q.id ≡ a
request_id [] a q e = cc
request_id (x ∷ qs) a q e = go (same_atom x.id a) refl (request_id qs a q) e
  where
    go : (u : Bool) → same_atom x.id a ≡ u → (request_with a qs ≡ Some q → q.id ≡ a)
        → cond u (Some x) (request_with a qs) ≡ Some q → q.id ≡ a
    go true c ih f =
        let same : x ≡ q = cc in
        ap (λ (y : RequestParts). y.id) (sym same) ∙ same_atom_is x.id a c
    go false c ih f = ih f

module _ (p : ProgramTerms) (c : CodeParts) (ok : IsProgram p) (kept : IsCode c)
    (is : IsCodeOf p c) where
  abbrev rules_by : GroupParts → List NumberedRule
  rules_by = rules_of_group p

  abbrev AreOfCode : Site → Type 0
  AreOfCode s = Each (IsOfCode p c) (told_in s.groups)

  abbrev HasDrawn : List ℕ → Site → Type 0
  HasDrawn counts s = Each (AreDrawn counts) (told_in s.groups)

  -- a group of which the site has drawn the channels
  abbrev IsOwn : ℕ → ℕ → Told → Type 0
  IsOwn i made d = (d.inst.chans.site ≡ i) × (d.inst.chans.k + length d.counts ≤ made)

  -- one site changes: it has these groups more, and its count doesn't fall
  record OneChanged (net : Net) (i : ℕ) (s t : Site) (ds : List Told) : Type 0 where
    here : slice_get net.sites i ≡ Some s
    told : told_in t.groups ≡ told_in s.groups ++ ds
    of_code : Each (IsOfCode p c) ds
    drawn : Each (IsOwn i t.made) ds
    more : s.made ≤ t.made

  drawn_on : (counts : List ℕ) (i made : ℕ) → slice_index counts i ≡ made → (d : Told)
      → IsOwn i made d → AreDrawn counts d
  drawn_on counts i made e d h = subst (λ (k : ℕ). d.inst.chans.k + length d.counts ≤ k)
      (sym (ap (slice_index counts) h.0 ∙ e)) h.1

  drawn_more : (old new : List ℕ) → ((j : ℕ) → slice_index old j ≤ slice_index new j)
      → (ds : List Told) → Each (AreDrawn old) ds → Each (AreDrawn new) ds
  drawn_more old new f ds h =
      Each-weaker (AreDrawn old) (AreDrawn new) (λ d g. one d g (f d.inst.chans.site)) ds h
    where
      one : (d : Told) → AreDrawn old d
          → slice_index old d.inst.chans.site ≤ slice_index new d.inst.chans.site → AreDrawn new d
      one d g more = omega arith

  all_drawn_more : (old new : List ℕ) → ((j : ℕ) → slice_index old j ≤ slice_index new j)
      → (ss : List Site) → Each (HasDrawn old) ss → Each (HasDrawn new) ss
  all_drawn_more old new f ss h = Each-weaker (HasDrawn old) (HasDrawn new)
      (λ s g. drawn_more old new f (told_in s.groups) g) ss h

  runs_on : (net : Net) (i : ℕ) (s t : Site) (ds : List Told) (new : Net) → RunsCode p c net
      → OneChanged net i s t ds → new.version ≡ net.version → new.seen ≡ net.seen
      → new.sites ≡ slice_set net.sites i t → IsNet rules_by new → RunsCode p c new
  runs_on net i s t ds new runs one version seen sites keeps =
      let old_counts = made_of net.sites in
      let counts = slice_set old_counts i t.made in
      let at = made_at net.sites i s one.here in
      let low = get_below net.sites i s one.here in
      let more = rises old_counts i s.made t.made at one.more in
      let new_at : slice_index counts i ≡ t.made =
      get_or-set_same old_counts i t.made 0 (omega (arith, low, length_made net.sites)) in
      let new_counts : counts ≡ made_of new.sites =
      sym (made_set net.sites i t) ∙ ap made_of (sym sites) in
      let of_s = each_get AreOfCode net.sites i s one.here runs.of_code in
      let drawn_s = each_get (HasDrawn old_counts) net.sites i s one.here runs.drawn in
      let of_t : AreOfCode t = subst (Each (IsOfCode p c)) (sym one.told)
      (Each-append (IsOfCode p c) (told_in s.groups) ds of_s one.of_code) in
      let drawn_t : HasDrawn counts t = subst (Each (AreDrawn counts)) (sym one.told)
      (Each-append (AreDrawn counts) (told_in s.groups) ds
      (drawn_more old_counts counts more (told_in s.groups) drawn_s) (Each-weaker (IsOwn i t.made)
      (AreDrawn counts) (drawn_on counts i t.made new_at) ds one.drawn)) in
      record {
        version = version ∙ runs.version;
        seen = seen ∙ runs.seen;
        keeps = keeps;
        of_code =
            subst (Each AreOfCode) (sym sites) (each_set AreOfCode net.sites i t runs.of_code of_t);
        drawn = subst (λ (ks : List ℕ). Each (HasDrawn ks) new.sites) new_counts
            (subst (Each (HasDrawn counts)) (sym sites) (each_set (HasDrawn counts) net.sites i t
            (all_drawn_more old_counts counts more net.sites runs.drawn) drawn_t));
      }

  drawn_of : (counts : List ℕ) (i made : ℕ) → slice_index counts i ≡ made → (d : Told)
      → AreDrawn counts d → IsDrawn i made d
  drawn_of counts i made e d h site some =
      subst (λ (k : ℕ). d.inst.chans.k + length d.counts ≤ k) (ap (slice_index counts) site ∙ e) h

  -- ---- what is known of one site

  pub record Knows (net : Net) (n : Numbered) (i : ℕ) (s : Site) : Type 0 where
    pub kept_s : IsKept s
    pub of_code : AreOfCode s
    pub drawn : Each (IsDrawn i s.made) (told_in s.groups)

  pub known : (net : Net) (n : Numbered) (i : ℕ) (s : Site) → RunsCode p c net
      → slice_get net.sites i ≡ Some s → Knows net n i s
  known net n i s runs here = record {
    kept_s = each_get IsKept net.sites i s here runs.keeps.kept;
    of_code = each_get AreOfCode net.sites i s here runs.of_code;
    drawn = Each-weaker (AreDrawn (made_of net.sites)) (IsDrawn i s.made)
        (drawn_of (made_of net.sites) i s.made (made_at net.sites i s here)) (told_in s.groups)
        (each_get (HasDrawn (made_of net.sites)) net.sites i s here runs.drawn);
  }

  own_groups : (i n : ℕ) (k : ℕ) (gs : List GroupParts) → Each (IsGroupIn p) gs
      → Each (IsNumbered (levels_of_program p) i k n) gs
      → Each (IsOwn i n) (all_told (told_by c) gs)
  own_groups i n k [] h g = tt
  own_groups i n k (d ∷ gs) h g = (
    (
      g.0.chans.same_site,
      (let many = counted p c ok kept is d h.0 in let low = g.0.chans.below in omega arith),
    ),
    own_groups i n k gs h.1 g.1,
  )

  -- ---- a reaction

  reaction_leads : (net new : Net) (n : Numbered) (i j k : ℕ) (e : Event) → Stands rules_by net n
      → RunsCode p c net → Reacts c net i j k e new → IsLed p c n (Some e) new
  reaction_leads net new n i j k e stands runs reacts =
      let s = reacts.by.site in
      let g = reacts.by.group in
      let level = reacts.by.level in
      let guard = reacts.by.guard in
      let ms = reacts.taken in
      let left = reacts.left in
      let here = reacts.by.site_is in
      let held = reacts.by.group_is in
      let s_is = known net n i s runs here in
      let of = each_get (IsOfCode p c) (told_in s.groups) j g.told (laid_at s.groups j g held)
      s_is.of_code in
      let group = reacting_is_pouring p c ok kept is g.told.inst of.0 in
      let same_level : Some group.level ≡ Some level = sym group.level_is ∙ reacts.by.level_is in
      let levels_are : group.level ≡ level = cc in
      let q = k - level.first in
      let from = reacts.by.from in
      let below = reacts.by.below in
      let many : length (rules_by g.told.inst) ≡ level.guards =
      group.guards ∙ ap (λ (v : Level). v.guards) levels_are in
      let found = get_some (rules_by g.told.inst) q (omega arith) in
      let r = found.0 in
      let rule = group.rules q r found.1 in
      let number : level.first + q ≡ k = omega arith in
      let guard_is : slice_get c.guards (level.first + q) ≡ Some guard =
      ap (slice_get c.guards) number ∙ reacts.by.guard_is in
      let lives : is_alive net.tree r.loc ≡ true =
      ap (is_alive net.tree) rule.loc ∙ reacts.by.alive in
      let does = reaction_works p c ok kept is net n i j s g q r level guard ms left stands
      runs.seen here s_is.kept_s s_is.of_code s_is.drawn held found.1 reacts.by.level_is guard_is
      lives reacts.takes in
      let a = code_made c i guard.body (g.told.inst.env ++ args_of ms) r.loc s.made in
      let o = run_here c net.tree a (with_queues s j g left) in
      let event_is : event.React r.id (ids ms) ≡ e =
      ap (λ (x : RuleId). event.React x (ids ms)) rule.id ∙ sym reacts.event_is in
      let new_is : with_outcome net i o a.outs a.births ≡ new =
      ap (λ (l : Loc). let b = code_made c i guard.body (g.told.inst.env ++ args_of ms) l s.made in
      with_outcome net i (run_here c net.tree b (with_queues s j g left)) b.outs b.births) rule.loc
      ∙ sym reacts.new_is in
      let lead = works_lead rules_by net (with_outcome net i o a.outs a.births) n
      (to_react i j r.id) (Some (event.React r.id (ids ms))) stands runs.keeps does in
      let hosted : number_in (spot net.tree r.loc) ≡ Some i =
      ap (λ (l : Loc). number_in (spot net.tree l)) rule.loc
      ∙ group_hosted rules_by net n stands i j s g here s_is.kept_s held in
      let part = site_is_part p c ok kept is net n i s stands runs.seen here in
      let ran =
      run_at p c ok kept is net.tree i j s g q r level guard ms left _ _ n part s_is.kept_s
      s_is.of_code s_is.drawn held found.1 reacts.by.level_is guard_is hosted lives reacts.takes in
      let lays = ran.2 in
      let ds = all_told (told_by c) a.groups in
      let made : o.site.made ≡ a.next =
      poured_made net.tree a.next a.births ds (posted_of a.atoms) (with_queues s j g left) in
      let draws =
      pour_draws i (counts_of p.seen) (root_of i) r.body (given_all r.pats ms) r.loc s.made in
      let up : s.made ≤ a.next = subst (λ (m : ℕ). s.made ≤ m) (sym ran.1.gives.next_is) draws.up in
      let one : OneChanged net i s o.site ds = record {
        here = here;
        told = poured_told net.tree a.next a.births ds (posted_of a.atoms) (with_queues s j g left)
            ∙ ap (λ es. es ++ ds)
            (fronts_go s j g guard.chans ms left s_is.kept_s held reacts.takes).told;
        of_code = each_told p c ok kept is (IsGroupIn p) (IsOfCode p c) (λ d h. (h, refl))
            a.groups lays.groups;
        drawn = subst (λ (m : ℕ). Each (IsOwn i m) ds) (sym made)
            (own_groups i a.next s.made a.groups lays.groups lays.numbered);
        more = subst (λ (m : ℕ). s.made ≤ m) (sym made) up;
      } in
      let after = runs_on net i s o.site ds (with_outcome net i o a.outs a.births) runs one refl
      refl refl lead.1 in
      record {
        leads = subst (λ (w : Net). Leads rules_by n (Some e) w) new_is
            (subst (λ (v : Event). Leads rules_by n (Some v) (with_outcome net i o a.outs a.births))
            event_is lead.0);
        runs = subst (RunsCode p c) new_is after;
      }

  -- ---- a delivery

  delivery_leads : (net new : Net) (n : Numbered) (f : ℕ) → Stands rules_by net n → RunsCode p c net
      → Delivers net f new → IsLed p c n None new
  delivery_leads net new n f stands runs delivers =
      let q = delivers.packet in
      let s = delivers.site in
      let way = each_get (IsOnItsWay (length net.sites)) net.packets f q
      delivers.packet_is runs.keeps.packets in
      subst (IsLed p c n None) (sym delivers.new_is) (on q.msg.on refl way.0)
    where
      q : Addressed
      q = delivers.packet

      s : Site
      s = delivers.site

      at_home : (site k : ℕ) (home : Loc) → q.msg.on ≡ name.Chan site k home → (u : Bool)
          → among s.locs home ≡ u → IsLed p c n None (delivered net f q s home)
      at_home site k home on true here =
          let to = record net {
            sites = slice_set net.sites q.target (put home q.msg s);
            packets = without_packet f net.packets;
          } in
          let does : Works rules_by net (to_deliver f) None to =
          works.deliver f q s site k home delivers.packet_is delivers.site_is on here in
          let lead = works_lead rules_by net to n (to_deliver f) None stands runs.keeps does in
          let one : OneChanged net q.target s (put home q.msg s) [] = record {
            here = delivers.site_is;
            told = put_told home q.msg s ∙ sym (append_nil (told_in s.groups));
            of_code = tt;
            drawn = tt;
            more = subst (λ (m : ℕ). s.made ≤ m) (sym (put_made home q.msg s)) (omega arith);
          } in
          let led : IsLed p c n None to = record {
            leads = lead.0;
            runs = runs_on net q.target s (put home q.msg s) [] to runs one refl refl refl lead.1;
          } in
          subst (λ (u : Bool).
          IsLed p c n None (cond u to (record net {
            packets = without_packet f net.packets
                ++ record { target = address net.tree home; msg = q.msg } ∷ [];
          }))) (sym here) led
      at_home site k home on false away =
          let to = record net {
            packets = without_packet f net.packets
                ++ record { target = address net.tree home; msg = q.msg } ∷ [];
          } in
          let does : Works rules_by net (to_deliver f) None to =
          works.forward f q s site k home delivers.packet_is delivers.site_is on away in
          let lead = works_lead rules_by net to n (to_deliver f) None stands runs.keeps does in
          let led : IsLed p c n None to = record {
            leads = lead.0;
            runs = record {
              version = runs.version;
              seen = runs.seen;
              keeps = lead.1;
              of_code = runs.of_code;
              drawn = runs.drawn;
            };
          } in
          subst (λ (u : Bool). IsLed p c n None (cond u (record net {
            sites = slice_set net.sites q.target (put home q.msg s);
            packets = without_packet f net.packets;
          }) to)) (sym away) led

      on : (x : Name) → q.msg.on ≡ x → IsChannel q.msg.on
          → IsLed p c n None (delivered net f q s (home_or (root_of q.target) q.msg.on))
      on (name.Seen i) e h = absurd (subst IsChannel e h)
      on (name.Place a) e h = absurd (subst IsChannel e h)
      on (name.Num m) e h = absurd (subst IsChannel e h)
      on (name.Op m) e h = absurd (subst IsChannel e h)
      on (name.Chan site k home) e h =
          subst (λ (l : Loc). IsLed p c n None (delivered net f q s l))
          (sym (ap (home_or (root_of q.target)) e)) (at_home site k home e (among s.locs home) refl)

  -- ---- requests

  -- one site has one request less, and perhaps more messages
  same_groups : (net : Net) (i : ℕ) (s t : Site) → slice_get net.sites i ≡ Some s
      → told_in t.groups ≡ told_in s.groups → s.made ≤ t.made → OneChanged net i s t []
  same_groups net i s t here told more = record {
    here = here;
    told = told ∙ sym (append_nil (told_in s.groups));
    of_code = tt;
    drawn = tt;
    more = more;
  }

  halt_leads : (net new : Net) (n : Numbered) (a : AtomId) → Stands rules_by net n
      → RunsCode p c net → Halts net a new → IsLed p c n (Some (event.Halt a)) new
  halt_leads net new n a stands runs halts =
      let i = halts.asks.number in
      let s = halts.asks.site in
      let q = halts.asks.request in
      let id : q.id ≡ a = request_id s.requests a q halts.asks.request_is in
      let held : request_with q.id s.requests ≡ Some q =
      ap (λ (b : AtomId). request_with b s.requests) id ∙ halts.asks.request_is in
      let to : AtomId → Net = λ (b : AtomId). record net {
        sites = slice_set net.sites i (drop_request b s);
        tree = with_mark net.tree q.loc;
      } in
      let does : Works rules_by net (to_meet q.id) (Some (event.Halt q.id)) (to q.id) =
      works.halt i s q halts.asks.site_is held halts.is halts.alive in
      let lead = works_lead rules_by net (to q.id) n (to_meet q.id) (Some (event.Halt q.id)) stands
      runs.keeps does in
      let one = same_groups net i s (drop_request q.id s) halts.asks.site_is refl (omega arith) in
      let led : IsLed p c n (Some (event.Halt q.id)) (to q.id) = record {
        leads = lead.0;
        runs = runs_on net i s (drop_request q.id s) [] (to q.id) runs one refl refl refl lead.1;
      } in
      subst (IsLed p c n (Some (event.Halt a))) (sym halts.new_is)
      (subst (λ (b : AtomId). IsLed p c n (Some (event.Halt b)) (to b)) id led)

  -- a continuation draws from the next number on
  continued : (seen : List ℕ) (i : ℕ) (l : Loc) (k : ℕ) (cont : Name)
      → k ≤ (continuation_made seen i l k cont).next
  continued seen i l k cont = (pour_draws i seen (root_of i) (continuation (Known cont)) [] l k).up

  moved_on : (alive : Bool) (seen : List ℕ) (i : ℕ) (l : Loc) (k : ℕ) (cont : Name)
      → k ≤ (moved_made alive seen i l k cont).next
  moved_on true seen i l k cont = continued seen i l k cont
  moved_on false seen i l k cont = omega arith

  detection_leads : (net new : Net) (n : Numbered) (a : AtomId) → Stands rules_by net n
      → RunsCode p c net → Detects net a new → IsLed p c n (Some (event.Detect a)) new
  detection_leads net new n a stands runs detects =
      let i = detects.asks.number in
      let s = detects.asks.site in
      let q = detects.asks.request in
      let here = detects.asks.site_is in
      let id : q.id ≡ a = request_id s.requests a q detects.asks.request_is in
      let held : request_with q.id s.requests ≡ Some q =
      ap (λ (b : AtomId). request_with b s.requests) id ∙ detects.asks.request_is in
      let kept_s = each_get IsKept net.sites i s here runs.keeps.kept in
      let m = continuation_made net.seen i q.loc s.made detects.cont in
      let to : AtomId → Net =
      λ (b : AtomId). with_outcome net i (sent_here net.tree m (drop_request b s)) m.outs [] in
      let does = detection_works rules_by net n i s q detects.target detects.cont stands here kept_s
      held detects.is detects.alive detects.dead in
      let lead = works_lead rules_by net (to q.id) n (to_meet q.id) (Some (event.Detect q.id))
      stands runs.keeps does in
      let t = (sent_here net.tree m (drop_request q.id s)).site in
      let one = same_groups net i s t here
      (poured_told net.tree m.next [] [] (posted_of m.atoms) (drop_request q.id s)
      ∙ append_nil (told_in s.groups))
      (subst (λ (k : ℕ). s.made ≤ k)
      (sym (poured_made net.tree m.next [] [] (posted_of m.atoms) (drop_request q.id s)))
      (continued net.seen i q.loc s.made detects.cont)) in
      let led : IsLed p c n (Some (event.Detect q.id)) (to q.id) = record {
        leads = lead.0;
        runs = runs_on net i s t [] (to q.id) runs one refl refl refl lead.1;
      } in
      subst (IsLed p c n (Some (event.Detect a))) (sym detects.new_is)
      (subst (λ (b : AtomId). IsLed p c n (Some (event.Detect b)) (to b)) id led)

  -- the root of a site that hosts what moves is alive
  goal_alive : (net : Net) (n : Numbered) (a : AtomId) → Stands rules_by net n
      → (i : ℕ) (s : Site) (q : RequestParts) (target : Loc) → slice_get net.sites i ≡ Some s
      → IsKept s → request_with a s.requests ≡ Some q
      → may_go net.version net.tree q.loc target ≡ true → target.site ≡ i
      → is_alive net.tree target ≡ true
  goal_alive net n a stands i s q target here kept_s there can own =
      let among_is = request_has (λ (r : RequestParts). among s.locs r.loc ≡ true) s.requests a q
      kept_s.requests_here there in
      let hosted : number_in (spot net.tree q.loc) ≡ Some i =
      ((stands.hosts i s here).locs q.loc).0 among_is in
      goal_lives net.tree stands.agrees.tree.is q.loc target
      (may_leave net.version net.tree q.loc target can) (hosted ∙ ap (λ (k : ℕ). Some k) (sym own))

  stay_leads : (net new : Net) (n : Numbered) (a : AtomId) → Stands rules_by net n
      → RunsCode p c net → Stays net a new → IsLed p c n (Some (event.Move a)) new
  stay_leads net new n a stands runs moves =
      let i = moves.go.asks.number in
      let s = moves.go.asks.site in
      let q = moves.go.asks.request in
      let here = moves.go.asks.site_is in
      let cont = moves.go.cont in
      let id : q.id ≡ a = request_id s.requests a q moves.go.asks.request_is in
      let held : request_with q.id s.requests ≡ Some q =
      ap (λ (b : AtomId). request_with b s.requests) id ∙ moves.go.asks.request_is in
      let kept_s = each_get IsKept net.sites i s here runs.keeps.kept in
      let m = continuation_made net.seen i q.loc s.made cont in
      let moved : Net = record net { tree = with_number net.tree q.loc i } in
      let to : AtomId → Net =
      λ (b : AtomId). with_outcome moved i (sent_here net.tree m (drop_request b s)) m.outs [] in
      let alive : is_alive net.tree moves.go.target ≡ true =
      goal_alive net n a stands i s q moves.go.target here kept_s
      moves.go.asks.request_is moves.go.can moves.here in
      let does : Works rules_by net (to_meet q.id) (Some (event.Move q.id)) (to q.id) =
      subst (λ (u : Bool). let w = moved_made u net.seen i q.loc s.made cont in
      Works rules_by net (to_meet q.id) (Some (event.Move q.id))
      (with_outcome moved i (sent_here net.tree w (drop_request q.id s)) w.outs [])) alive
      (move_within_works rules_by net n i s q moves.go.target cont stands here kept_s held
      moves.go.is moves.go.can moves.here) in
      let lead = works_lead rules_by net (to q.id) n (to_meet q.id) (Some (event.Move q.id)) stands
      runs.keeps does in
      let t = (sent_here net.tree m (drop_request q.id s)).site in
      let one = same_groups net i s t here
      (poured_told net.tree m.next [] [] (posted_of m.atoms) (drop_request q.id s)
      ∙ append_nil (told_in s.groups))
      (subst (λ (k : ℕ). s.made ≤ k)
      (sym (poured_made net.tree m.next [] [] (posted_of m.atoms) (drop_request q.id s)))
      (continued net.seen i q.loc s.made cont)) in
      let led : IsLed p c n (Some (event.Move q.id)) (to q.id) = record {
        leads = lead.0;
        runs = runs_on net i s t [] (to q.id) runs one refl refl refl lead.1;
      } in
      subst (IsLed p c n (Some (event.Move a))) (sym moves.new_is)
      (subst (λ (b : AtomId). IsLed p c n (Some (event.Move b)) (to b)) id led)

  leave_leads : (net new : Net) (n : Numbered) (a : AtomId) → Stands rules_by net n
      → RunsCode p c net → Leaves net a new → IsLed p c n (Some (event.Move a)) new
  leave_leads net new n a stands runs moves =
      let i = moves.go.asks.number in
      let j = moves.go.target.site in
      let from = moves.go.asks.site in
      let into = moves.into in
      let q = moves.go.asks.request in
      let here = moves.go.asks.site_is in
      let there = moves.into_is in
      let cont = moves.go.cont in
      let id : q.id ≡ a = request_id from.requests a q moves.go.asks.request_is in
      let held : request_with q.id from.requests ≡ Some q =
      ap (λ (b : AtomId). request_with b from.requests) id ∙ moves.go.asks.request_is in
      let kept_from = each_get IsKept net.sites i from here runs.keeps.kept in
      let kept_into = each_get IsKept net.sites j into there runs.keeps.kept in
      let alive = is_alive net.tree moves.go.target in
      let m = moved_made alive net.seen j q.loc into.made cont in
      let to : AtomId → Net =
      λ (b : AtomId).
      moved_between net i j q.loc (drop_request b from) into m.next (posted_of m.atoms) m.outs in
      let does = move_between_works rules_by net n i j from into q moves.go.target cont
      moves.away stands here there kept_from kept_into held moves.go.is moves.go.can refl in
      let lead = works_lead rules_by net (to q.id) n (to_meet q.id) (Some (event.Move q.id)) stands
      runs.keeps does in
      let left = remove q.loc (drop_request q.id from) in
      let load = pack q.loc (drop_request q.id from) in
      let o = sent_here (with_number net.tree q.loc j) m (take_in load into) in
      let old_counts = made_of net.sites in
      let of_from = each_get AreOfCode net.sites i from here runs.of_code in
      let drawn_from = each_get (HasDrawn old_counts) net.sites i from here runs.drawn in
      let of_into = each_get AreOfCode net.sites j into there runs.of_code in
      let drawn_into = each_get (HasDrawn old_counts) net.sites j into there runs.drawn in
      let told : told_in o.site.groups ≡ told_in into.groups ++ load.groups =
      poured_told (with_number net.tree q.loc j) m.next [] [] (posted_of m.atoms)
      (take_in load into) ∙ append_nil (told_in (take_in load into).groups)
      ∙ taken_told load into in
      let made : o.site.made ≡ m.next =
      poured_made (with_number net.tree q.loc j) m.next [] [] (posted_of m.atoms)
      (take_in load into) in
      let new_sites = slice_set (slice_set net.sites i left) j o.site in
      let counts : made_of new_sites ≡ slice_set old_counts j m.next =
      made_set (slice_set net.sites i left) j o.site
      ∙ (λ b. slice_set ((made_set net.sites i left ∙ same_count net.sites i from left here refl) b)
      j (made b)) in
      let more : (k : ℕ) → slice_index old_counts k ≤ slice_index (made_of new_sites) k = λ k.
      subst (λ (ks : List ℕ). slice_index old_counts k ≤ slice_index ks k) (sym counts)
      (rises old_counts j into.made m.next (made_at net.sites j into there)
      (moved_on alive net.seen j q.loc into.made cont) k) in
      let new_counts = made_of new_sites in
      let of_new : AreOfCode o.site =
      subst (Each (IsOfCode p c)) (sym told) (Each-append (IsOfCode p c) (told_in into.groups)
      load.groups of_into (each_at q.loc (IsOfCode p c) from.groups of_from)) in
      let drawn_new : HasDrawn new_counts o.site = subst (Each (AreDrawn new_counts)) (sym told)
      (drawn_more old_counts new_counts more (told_in into.groups ++ load.groups)
      (Each-append (AreDrawn old_counts) (told_in into.groups) load.groups drawn_into
      (each_at q.loc (AreDrawn old_counts) from.groups drawn_from))) in
      let of_left : AreOfCode left = each_laid_but q.loc (IsOfCode p c) from.groups of_from in
      let drawn_left : HasDrawn new_counts left = drawn_more old_counts new_counts more
      (told_in left.groups) (each_laid_but q.loc (AreDrawn old_counts) from.groups drawn_from) in
      let drawn_all = all_drawn_more old_counts new_counts more net.sites runs.drawn in
      let after : RunsCode p c (to q.id) = record {
        version = runs.version;
        seen = runs.seen;
        keeps = lead.1;
        of_code = each_set AreOfCode (slice_set net.sites i left) j
            o.site (each_set AreOfCode net.sites i left runs.of_code of_left) of_new;
        drawn = each_set (HasDrawn new_counts) (slice_set net.sites i left) j
            o.site (each_set (HasDrawn new_counts) net.sites i left drawn_all drawn_left) drawn_new;
      } in
      let led : IsLed p c n (Some (event.Move q.id)) (to q.id) =
      record { leads = lead.0; runs = after } in
      subst (IsLed p c n (Some (event.Move a))) (sym moves.new_is)
      (subst (λ (b : AtomId). IsLed p c n (Some (event.Move b)) (to b)) id led)
    where
      same_count : (ss : List Site) (i : ℕ) (s t : Site) → slice_get ss i ≡ Some s → t.made ≡ s.made
          → slice_set (made_of ss) i t.made ≡ made_of ss
      same_count [] i s t e h = refl
      same_count (u ∷ ss) zero s t e h =
          let same : u ≡ s = cc in
          ap (λ (k : ℕ). k ∷ made_of ss) (h ∙ ap (λ (v : Site). v.made) (sym same))
      same_count (u ∷ ss) (suc i) s t e h = ap (λ ks. u.made ∷ ks) (same_count ss i s t e h)

  move_leads : (net new : Net) (n : Numbered) (a : AtomId) → Stands rules_by net n
      → RunsCode p c net → Moves net a new → IsLed p c n (Some (event.Move a)) new
  move_leads net new n a stands runs (stays h) = stay_leads net new n a stands runs h
  move_leads net new n a stands runs (leaves h) = leave_leads net new n a stands runs h

pub acts_lead : ActsLead
acts_lead c net new kept = (
  λ i j k e reacts p n ok is stands runs.
      reaction_leads p c ok kept is net new n i j k e stands runs reacts,
  λ f delivers p n ok is stands runs.
      delivery_leads p c ok kept is net new n f stands runs delivers,
  λ a halts p n ok is stands runs. halt_leads p c ok kept is net new n a stands runs halts,
  λ a detects p n ok is stands runs. detection_leads p c ok kept is net new n a stands runs detects,
  λ a moves p n ok is stands runs. move_leads p c ok kept is net new n a stands runs moves,
)
