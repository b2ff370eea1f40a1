-- What lent sites leave is what their turns leave, one after another.
use Rattle.std.proofs.Common.{◌≡◌, ℕ, zero, suc, ◌+◌, ◌-◌, ◌<◌, ◌≤◌, List, [], ◌∷◌, ◌++◌, length}
use Rattle.std.proofs.Common.{Some, None, Bool, true, false, cond, refl, sym, ap, ◌∙◌, subst, arith}
use Rattle.std.proofs.Common.{slice_get, ◌⊎◌, inl, inr, ◌==◌, eqb-true, eq-eqb, length-append}
use Rattle.std.proofs.Common.{append_assoc}
use Rattle.std.specs.Prelude.{slice_set, take}
use Rattle.std.specs.List.{range_with_len}
use Rattle.chem_model.specs.declared.name.Loc.{Loc}
use Rattle.chem_model.specs.declared.name.Pat.{Pat}
use Rattle.chem_model.specs.declared.event.Event.{Event}
use Rattle.chem_model.specs.declared.event.Out.{Out}
use Rattle.chem_model.specs.Binders.{params_of}
use Rattle.chem_model.specs.Each.{Each}
use Rattle.chem_model.specs.Opening.{root_of}
use Rattle.chem_model.specs.ProgramFacts.{ProgramTerms, IsProgram}
use Rattle.chem_laws.proofs.Lists.{append_nil, Each-weaker}
use Rattle.wire_packet.specs.MessageFacts.{MessageParts}
use Rattle.env_store.specs.declared.code.Guard.{Guard}
use Rattle.env_store.specs.declared.code.Level.{Level}
use Rattle.env_store.specs.CodeParts.{CodeParts}
use Rattle.env_store.specs.CodeFacts.{IsCode}
use Rattle.env_store.specs.Reading.{IsCodeOf}
use Rattle.env_store.specs.Running.{Ran, code_made}
use Rattle.env_store.specs.Laws.{rules_of_group}
use Rattle.env_store.proofs.RuleGuards.{reacting_is_pouring}
use Rattle.loc_tree.specs.Tree.{Tree}
use Rattle.reducer.specs.declared.pick.Pick.{Pick}
use Rattle.reducer.specs.Ready.{IsReady}
use Rattle.net_laws.specs.Site.{Told, Group, Site, told_in}
use Rattle.net_laws.specs.Net.{Addressed, Net, home_or, address, without_packet, IsOnItsWay}
use Rattle.net_laws.specs.Changes.{Takes, IsGuard, AreQueues}
use Rattle.net_laws.specs.Kept.{IsKept}
use Rattle.net_laws.specs.Holding.{put}
use Rattle.net_laws.specs.Posting.{Outcome, with_queues}
use Rattle.net_laws.specs.Choices.{with_outcome}
use Rattle.net_laws.specs.ByCode.{args_of, run_here, IsOfCode}
use Rattle.net_laws.specs.Rounds.{WorksOff, nothing_left, puts, passes_on}
use Rattle.net_laws.proofs.ByCode.{rules_are_guards}
use Rattle.net_laws.proofs.Holds.{each_get, laid_at}
use Rattle.net_laws.proofs.Lists.{get_set_same, set_set}
use Rattle.net_laws.proofs.Queues.{takes_for}
use Rattle.net_laws.proofs.Received.{AreFor}
use Rattle.net_core.specs.Acting.{HasGuard, Reacts, delivered, Delivers}
use Rattle.net_core.specs.Scheduling.{next_place, first_to, Collects, all_in, brings, IsReadyAt}
use Rattle.net_core.specs.Scheduling.{births_or, births_of, ReadyOpens, ReactsUpTo, IsTurn}
use Rattle.net_core.specs.Scheduling.{AreTurns, numbers}
use Rattle.net_core.specs.Scheduling as sched
use Rattle.net_core.specs.Lending.{mail_to, ReactsAlone, WorksAlone, used_up, rests, reacts}
use Rattle.net_core.specs.Lending.{AllAreLent, no_site, a_site, LentSitesHaveTurns}
use Rattle.net_core.proofs.Leading.{get_some}
use Rattle.net_core.proofs.OneAnswer.{one_of}
use Rattle.net_core.proofs.Picking.{IsFine}
use Rattle.net_core.proofs.Scheduled.{collects_fine, reacted, turn_fine}

-- ---- lists

take_front : {X : Type 0} (xs ys : List X) → take (length xs) (xs ++ ys) ≡ xs
take_front [] ys = refl
take_front (x ∷ xs) ys = ap (λ zs. x ∷ zs) (take_front xs ys)

get_front : {X : Type 0} (xs ys : List X) (i : ℕ) (x : X) → slice_get xs i ≡ Some x
    → slice_get (xs ++ ys) i ≡ Some x
get_front [] ys i x e = cc
get_front (z ∷ zs) ys zero x e = e
get_front (z ∷ zs) ys (suc i) x e = get_front zs ys i x e

set_same : {X : Type 0} (xs : List X) (i : ℕ) (x : X) → slice_get xs i ≡ Some x
    → slice_set xs i x ≡ xs
set_same [] i x e = cc
set_same (y ∷ ys) zero x e = let same : y ≡ x = cc in ap (λ z. z ∷ ys) (sym same)
set_same (y ∷ ys) (suc i) x e = ap (λ zs. y ∷ zs) (set_same ys i x e)

get_next : {X : Type 0} (xs : List X) (x : X) (ys : List X)
    → slice_get (xs ++ x ∷ ys) (length xs) ≡ Some x
get_next [] x ys = refl
get_next (z ∷ zs) x ys = get_next zs x ys

set_next : {X : Type 0} (xs : List X) (x y : X) (ys : List X)
    → slice_set (xs ++ x ∷ ys) (length xs) y ≡ (xs ++ y ∷ []) ++ ys
set_next [] x y ys = refl
set_next (z ∷ zs) x y ys = ap (λ us. z ∷ us) (set_next zs x y ys)

-- ---- mail

abbrev but_to : ℕ → List Addressed → List Addressed
but_to i [] = []
but_to i (p ∷ ps) = cond (p.target == i) (but_to i ps) (p ∷ but_to i ps)

record NoMail (i : ℕ) (front : List Addressed) : Type 0 where
  first : first_to i front ≡ None
  mail : mail_to i front ≡ []
  but : but_to i front ≡ front

record SomeMail (i : ℕ) (front : List Addressed) : Type 0 where
  f : ℕ
  p : Addressed
  rest : List Addressed
  first : first_to i front ≡ Some f
  at : slice_get front f ≡ Some p
  target : p.target ≡ i
  mail : mail_to i front ≡ p ∷ rest
  left : mail_to i (without_packet f front) ≡ rest
  but : but_to i (without_packet f front) ≡ but_to i front
  shorter : (back : List Addressed)
      → without_packet f (front ++ back) ≡ without_packet f front ++ back
  count : length front ≡ length (without_packet f front) + 1

mail_view : (i : ℕ) (front : List Addressed) → NoMail i front ⊎ SomeMail i front
mail_view i [] = inl (record { first = refl; mail = refl; but = refl })
mail_view i (p ∷ ps) = go (p.target == i) refl (mail_view i ps)
  where
    go : (u : Bool) → (p.target == i) ≡ u → NoMail i ps ⊎ SomeMail i ps
        → NoMail i (p ∷ ps) ⊎ SomeMail i (p ∷ ps)
    go true e v = inr (record {
      f = 0;
      p = p;
      rest = mail_to i ps;
      first = ap (λ b. cond b (Some 0) (next_place (first_to i ps))) e;
      at = refl;
      target = eqb-true p.target i e;
      mail = ap (λ b. cond b (p ∷ mail_to i ps) (mail_to i ps)) e;
      left = refl;
      but = sym (ap (λ b. cond b (but_to i ps) (p ∷ but_to i ps)) e);
      shorter = λ back. refl;
      count = omega arith;
    })
    go false e (inl v) = inl (record {
      first = ap (λ b. cond b (Some 0) (next_place (first_to i ps))) e ∙ ap next_place v.first;
      mail = ap (λ b. cond b (p ∷ mail_to i ps) (mail_to i ps)) e ∙ v.mail;
      but = ap (λ b. cond b (but_to i ps) (p ∷ but_to i ps)) e ∙ ap (λ qs. p ∷ qs) v.but;
    })
    go false e (inr v) =
        let place : v.f + 1 ≡ suc v.f = omega arith in
        let rest_of : (qs : List Addressed)
        → cond (p.target == i) (p ∷ mail_to i qs) (mail_to i qs) ≡ mail_to i qs =
        λ qs. ap (λ b. cond b (p ∷ mail_to i qs) (mail_to i qs)) e in
        let but_of : (qs : List Addressed)
        → cond (p.target == i) (but_to i qs) (p ∷ but_to i qs) ≡ p ∷ but_to i qs =
        λ qs. ap (λ b. cond b (but_to i qs) (p ∷ but_to i qs)) e in
        inr (record {
          f = suc v.f;
          p = v.p;
          rest = v.rest;
          first = ap (λ b. cond b (Some 0) (next_place (first_to i ps))) e ∙ ap next_place v.first
              ∙ ap (λ k. Some k) place;
          at = v.at;
          target = v.target;
          mail = rest_of ps ∙ v.mail;
          left = rest_of (without_packet v.f ps) ∙ v.left;
          but = but_of (without_packet v.f ps) ∙ ap (λ qs. p ∷ qs) v.but ∙ sym (but_of ps);
          shorter = λ back. ap (λ qs. p ∷ qs) (v.shorter back);
          count = omega (arith, v.count);
        })

-- the network with other sites, trace and packets
abbrev moved : Net → List Site → List Out → List Addressed → Net
moved net sites trace packets = record {
  version = net.version;
  seen = net.seen;
  sites = sites;
  tree = net.tree;
  trace = trace;
  packets = packets;
}

same_moved : (net : Net) (ss us : List Site) (ts vs : List Out) (ps qs : List Addressed) → ss ≡ us
    → ts ≡ vs → ps ≡ qs → moved net ss ts ps ≡ moved net us vs qs
same_moved net ss us ts vs ps qs a b c = λ j. moved net (a j) (b j) (c j)

one_mail : (p q : Addressed) (ps qs : List Addressed) → p ∷ ps ≡ q ∷ qs → (p ≡ q) × (ps ≡ qs)
one_mail p q ps qs e = (cc, cc)

-- ---- mail is worked off

pub works_off : (t : Tree) (i : ℕ) (s mid : Site) (mail on : List Addressed)
    → WorksOff t s mail on mid → (net : Net) → net.tree ≡ t
    → (sites : List Site) (trace : List Out) (front back : List Addressed)
    → slice_get sites i ≡ Some s → mail_to i front ≡ mail
    → Collects i (length front) (moved net sites trace (front ++ back)) (length (but_to i front))
    (moved net (slice_set sites i mid) trace (but_to i front ++ (back ++ on)))
works_off t i s mid mail on (nothing_left _) net tree sites trace front back here is =
    go (mail_view i front)
  where
    go : NoMail i front ⊎ SomeMail i front
        → Collects i (length front) (moved net sites trace (front ++ back))
        (length (but_to i front))
        (moved net (slice_set sites i s) trace (but_to i front ++ (back ++ [])))
    go (inl v) =
        let none : first_to i (take (length front) (front ++ back)) ≡ None =
        ap (first_to i) (take_front front back) ∙ v.first in
        let start : Collects i (length front) (moved net sites trace (front ++ back)) (length front)
        (moved net sites trace (front ++ back)) =
        all_in (length front) (moved net sites trace (front ++ back)) none in
        let same = same_moved net sites (slice_set sites i s) trace trace (front ++ back)
        (but_to i front ++ (back ++ [])) (sym (set_same sites i s here)) refl
        (λ j. sym v.but j ++ sym (append_nil back) j) in
        subst (λ (k : ℕ). Collects i (length front) (moved net sites trace (front ++ back)) k
        (moved net (slice_set sites i s) trace (but_to i front ++ (back ++ []))))
        (sym (ap length v.but))
        (subst (λ (w : Net).
        Collects i (length front) (moved net sites trace (front ++ back)) (length front) w) same
        start)
    go (inr v) = let clash : [] ≡ v.p ∷ v.rest = sym is ∙ v.mail in cc
works_off t i s mid mail on (puts _ _ p more_mail _ site k home is_home at_home more) net tree sites
    trace front back here is =
    go (mail_view i front) (λ f e left. works_off t i (put home p.msg s) mid more_mail on more net
    tree (slice_set sites i (put home p.msg s)) trace (without_packet f front) back
    (get_set_same sites i s (put home p.msg s) here) left)
  where
    go : NoMail i front ⊎ SomeMail i front
        → ((f : ℕ) → Unit {0} → mail_to i (without_packet f front) ≡ more_mail
        → Collects i (length (without_packet f front))
        (moved net (slice_set sites i (put home p.msg s)) trace (without_packet f front ++ back))
        (length (but_to i (without_packet f front)))
        (moved net (slice_set (slice_set sites i (put home p.msg s)) i mid) trace
        (but_to i (without_packet f front) ++ (back ++ on))))
        → Collects i (length front) (moved net sites trace (front ++ back))
        (length (but_to i front))
        (moved net (slice_set sites i mid) trace (but_to i front ++ (back ++ on)))
    go (inl v) ih = let clash : p ∷ more_mail ≡ [] = sym is ∙ v.mail in cc
    go (inr v) ih =
        let same = one_mail v.p p v.rest more_mail (sym v.mail ∙ is) in
        let at : slice_get front v.f ≡ Some p = v.at ∙ ap (λ q. Some q) same.0 in
        let target : p.target ≡ i = ap (λ (q : Addressed). q.target) (sym same.0) ∙ v.target in
        let first : first_to i (take (length front) (front ++ back)) ≡ Some v.f =
        ap (first_to i) (take_front front back) ∙ v.first in
        let new =
        moved net (slice_set sites i (put home p.msg s)) trace (without_packet v.f front ++ back) in
        let home_is : home_or (root_of p.target) p.msg.on ≡ home =
        ap (home_or (root_of p.target)) is_home in
        let yes : Net = record (moved net sites trace (front ++ back)) {
          sites = slice_set sites p.target (put home p.msg s);
          packets = without_packet v.f (front ++ back);
        } in
        let away : Net = record (moved net sites trace (front ++ back)) {
          packets =
              without_packet v.f (front ++ back)
              ++ record { target = address net.tree home; msg = p.msg }
              ∷ [];
        } in
        let new_is : new
        ≡ delivered (moved net sites trace (front ++ back)) v.f p s
        (home_or (root_of p.target) p.msg.on) =
        sym (ap (λ (l : Loc). delivered (moved net sites trace (front ++ back)) v.f p s l) home_is
        ∙ ap (λ (u : Bool). cond u yes away) at_home
        ∙ (λ j.
        moved net (slice_set sites (target j) (put home p.msg s)) trace (v.shorter back j))) in
        let delivers : Delivers (moved net sites trace (front ++ back)) v.f new = record {
          packet = p;
          site = s;
          packet_is = get_front front back v.f p at;
          site_is = ap (slice_get sites) target ∙ here;
          new_is = new_is;
        } in
        let rest = ih v.f tt (v.left ∙ same.1) in
        let less : length (without_packet v.f front) ≡ length front - 1 = omega (arith, v.count) in
        let last = same_moved net (slice_set (slice_set sites i (put home p.msg s)) i mid)
        (slice_set sites i mid) trace trace (but_to i (without_packet v.f front) ++ (back ++ on))
        (but_to i front ++ (back ++ on)) (set_set sites i (put home p.msg s) mid) refl
        (ap (λ qs. qs ++ (back ++ on)) v.but) in
        let rest_one =
        subst (λ (k : ℕ). Collects i k new (length (but_to i (without_packet v.f front)))
        (moved net (slice_set (slice_set sites i (put home p.msg s)) i mid) trace
        (but_to i (without_packet v.f front) ++ (back ++ on)))) less rest in
        let rest_two = subst (λ (w : Net).
        Collects i (length front - 1) new (length (but_to i (without_packet v.f front))) w) last
        rest_one in
        let rest_three = subst (λ (k : ℕ). Collects i (length front - 1) new k
        (moved net (slice_set sites i mid) trace (but_to i front ++ (back ++ on))))
        (ap length v.but) rest_two in
        brings (length front) (length (but_to i front)) v.f (moved net sites trace (front ++ back))
        new (moved net (slice_set sites i mid) trace (but_to i front ++ (back ++ on))) first
        delivers rest_three
works_off t i s mid mail on (passes_on _ _ p more_mail more_on site k home is_home elsewhere more)
    net tree sites trace front back here is =
    go (mail_view i front) (λ f e left.
    works_off t i s mid more_mail more_on more net tree sites trace (without_packet f front)
    (back ++ record { target = address t home; msg = p.msg } ∷ []) here left)
  where
    go : NoMail i front ⊎ SomeMail i front
        → ((f : ℕ) → Unit {0} → mail_to i (without_packet f front) ≡ more_mail
        → Collects i (length (without_packet f front)) (moved net sites trace
        (without_packet f front ++ (back ++ record { target = address t home; msg = p.msg } ∷ [])))
        (length (but_to i (without_packet f front)))
        (moved net (slice_set sites i mid) trace (but_to i (without_packet f front)
        ++ ((back ++ record { target = address t home; msg = p.msg } ∷ []) ++ more_on))))
        → Collects i (length front) (moved net sites trace (front ++ back))
        (length (but_to i front)) (moved net (slice_set sites i mid) trace
        (but_to i front ++ (back ++ record { target = address t home; msg = p.msg } ∷ more_on)))
    go (inl v) ih = let clash : p ∷ more_mail ≡ [] = sym is ∙ v.mail in cc
    go (inr v) ih =
        let q : Addressed = record { target = address t home; msg = p.msg } in
        let same = one_mail v.p p v.rest more_mail (sym v.mail ∙ is) in
        let at : slice_get front v.f ≡ Some p = v.at ∙ ap (λ x. Some x) same.0 in
        let target : p.target ≡ i = ap (λ (x : Addressed). x.target) (sym same.0) ∙ v.target in
        let first : first_to i (take (length front) (front ++ back)) ≡ Some v.f =
        ap (first_to i) (take_front front back) ∙ v.first in
        let new = moved net sites trace (without_packet v.f front ++ (back ++ q ∷ [])) in
        let home_is : home_or (root_of p.target) p.msg.on ≡ home =
        ap (home_or (root_of p.target)) is_home in
        let yes : Net = record (moved net sites trace (front ++ back)) {
          sites = slice_set sites p.target (put home p.msg s);
          packets = without_packet v.f (front ++ back);
        } in
        let away : Net = record (moved net sites trace (front ++ back)) {
          packets =
              without_packet v.f (front ++ back)
              ++ record { target = address net.tree home; msg = p.msg }
              ∷ [];
        } in
        let packets : without_packet v.f (front ++ back)
        ++ record { target = address net.tree home; msg = p.msg } ∷ []
        ≡ without_packet v.f front ++ (back ++ q ∷ []) =
        ap (λ (u : Tree).
        without_packet v.f (front ++ back) ++ record { target = address u home; msg = p.msg } ∷ [])
        tree ∙ ap (λ ps. ps ++ q ∷ []) (v.shorter back)
        ∙ append_assoc (without_packet v.f front) back (q ∷ []) in
        let new_is : new
        ≡ delivered (moved net sites trace (front ++ back)) v.f p s
        (home_or (root_of p.target) p.msg.on) =
        sym (ap (λ (l : Loc). delivered (moved net sites trace (front ++ back)) v.f p s l) home_is
        ∙ ap (λ (u : Bool). cond u yes away) elsewhere
        ∙ (λ j. moved net sites trace (packets j))) in
        let delivers : Delivers (moved net sites trace (front ++ back)) v.f new = record {
          packet = p;
          site = s;
          packet_is = get_front front back v.f p at;
          site_is = ap (slice_get sites) target ∙ here;
          new_is = new_is;
        } in
        let rest = ih v.f tt (v.left ∙ same.1) in
        let less : length (without_packet v.f front) ≡ length front - 1 = omega (arith, v.count) in
        let last = same_moved net (slice_set sites i mid) (slice_set sites i mid) trace trace
        (but_to i (without_packet v.f front) ++ ((back ++ q ∷ []) ++ more_on))
        (but_to i front ++ (back ++ q ∷ more_on)) refl refl
        (λ j. v.but j ++ append_assoc back (q ∷ []) more_on j) in
        let rest_one = subst (λ (k : ℕ). Collects i k new
        (length (but_to i (without_packet v.f front))) (moved net (slice_set sites i mid) trace
        (but_to i (without_packet v.f front) ++ ((back ++ q ∷ []) ++ more_on)))) less rest in
        let rest_two = subst (λ (w : Net).
        Collects i (length front - 1) new (length (but_to i (without_packet v.f front))) w) last
        rest_one in
        let rest_three = subst (λ (k : ℕ). Collects i (length front - 1) new k
        (moved net (slice_set sites i mid) trace (but_to i front ++ (back ++ q ∷ more_on))))
        (ap length v.but) rest_two in
        brings (length front) (length (but_to i front)) v.f (moved net sites trace (front ++ back))
        new (moved net (slice_set sites i mid) trace (but_to i front ++ (back ++ q ∷ more_on)))
        first delivers rest_three

-- ---- a reaction that opens no location

args_long : (ps : List Pat) (ms : List MessageParts) → AreFor ps ms
    → length (args_of ms) ≡ length (params_of ps)
args_long [] [] h = refl
args_long [] (m ∷ ms) h = absurd h
args_long (p ∷ ps) [] h = absurd h
args_long (p ∷ ps) (m ∷ ms) h = omega (
  arith,
  length-append m.args (args_of ms),
  length-append p.params (params_of ps),
  args_long ps ms h.1,
  h.0.1,
)

empty : {X : Type 0} (xs : List X) → length xs ≡ 0 → xs ≡ []
empty [] e = refl
empty (x ∷ xs) e = absurd (omega arith)

module _ (p : ProgramTerms) (c : CodeParts) (ok : IsProgram p) (kept : IsCode c)
    (is : IsCodeOf p c) where
  abbrev Fine : Net → Type 0
  Fine net = IsFine p c net

  no_births : (net : Net) → Fine net
      → (i j k : ℕ) (by : HasGuard c net i j k) (taken : List MessageParts)
      (left : List (List MessageParts)) → Takes by.group.queues by.guard.chans taken left
      → by.guard.births ≡ 0
      → (n : ℕ) (l : Loc) (made : ℕ)
      → (code_made c n by.guard.body (by.group.told.inst.env ++ args_of taken) l made).births ≡ []
  no_births net fine i j k by taken left takes none n l made =
      let g = by.group in
      let of = each_get (IsOfCode p c) (told_in by.site.groups) j
      g.told (laid_at by.site.groups j g by.group_is)
      (each_get (λ (u : Site). Each (IsOfCode p c) (told_in u.groups)) net.sites i
      by.site by.site_is fine.runs.of_code) in
      let group = reacting_is_pouring p c ok kept is g.told.inst of.0 in
      let same_level : Some group.level ≡ Some by.level = sym group.level_is ∙ by.level_is in
      let levels_are : group.level ≡ by.level = cc in
      let from = by.from in
      let below = by.below in
      let many : length (rules_of_group p g.told.inst) ≡ by.level.guards =
      group.guards ∙ ap (λ (v : Level). v.guards) levels_are in
      let q = k - by.level.first in
      let found = get_some (rules_of_group p g.told.inst) q (omega arith) in
      let rule = group.rules q found.0 found.1 in
      let number : by.level.first + q ≡ k = omega arith in
      let guard_is : slice_get c.guards (by.level.first + q) ≡ Some by.guard =
      ap (slice_get c.guards) number ∙ by.guard_is in
      let is_guard = subst (λ (e : Told). IsGuard (rules_of_group p) e found.0 by.guard.chans)
      of.1 (rules_are_guards p c ok kept is g.told.inst of.0 q
      found.0 found.1 by.level by.level_is by.guard guard_is) in
      let guards : rule.guard ≡ by.guard =
      one_of (slice_get c.guards (by.level.first + q)) rule.guard by.guard
      (ap (λ (v : Level). slice_get c.guards (v.first + q)) (sym levels_are) ∙ rule.guard_is)
      guard_is in
      let kept_site = each_get IsKept net.sites i by.site by.site_is fine.runs.keeps.kept in
      let queues = each_get (λ (h : Group). AreQueues h.told.inst 0 h.told.counts h.queues)
      by.site.groups j g by.group_is kept_site.queues in
      let fits = takes_for g.told.inst g.told.counts g.queues found.0.pats by.guard.chans taken left
      queues is_guard.channels takes in
      let counted = rule.counted (args_of taken) (args_long found.0.pats taken fits) n l made in
      let same : (code_made c n by.guard.body (g.told.inst.env ++ args_of taken) l made).births
      ≡ (code_made c n rule.guard.body (g.told.inst.env ++ args_of taken) l made).births =
      ap (λ (u : Guard). (code_made c n u.body (g.told.inst.env ++ args_of taken) l made).births)
      (sym guards) in
      let births : rule.guard.births ≡ 0 = ap (λ (u : Guard). u.births) guards ∙ none in
      empty (code_made c n by.guard.body (g.told.inst.env ++ args_of taken) l made).births
      (ap length same ∙ counted.births_are ∙ births)

  reacts_lent : (net : Net) → Fine net
      → (i : ℕ) (s : Site) (q : Pick) (e : Event) (outs : List Out) (o : Outcome)
      → slice_get net.sites i ≡ Some s → ReactsAlone c net.tree i s q e outs o → births_of c q ≡ 0
      → Reacts c net i q.group q.guard e
      (moved net (slice_set net.sites i o.site) (net.trace ++ outs) (net.packets ++ o.sends))
  reacts_lent net fine i s q e outs o here a none =
      let x = a.ready.pick in
      let picks = a.ready.fires.covers.picks in
      let by : HasGuard c net i q.group q.guard = record {
        site = s;
        group = x.group;
        level = x.level;
        guard = x.guard;
        site_is = here;
        group_is = picks.group;
        level_is = picks.level;
        guard_is = picks.guard;
        from = picks.from;
        below = picks.below;
        alive = a.ready.fires.live;
      } in
      let g = x.group.told.inst in
      let births : x.guard.births ≡ 0 = sym (ap births_or picks.guard) ∙ none in
      let made : Ran = code_made c i x.guard.body (g.env ++ args_of a.taken) g.loc s.made in
      let nothing : made.births ≡ [] =
      no_births net fine i q.group q.guard by a.taken a.left a.takes births i g.loc s.made in
      let old = with_queues s q.group x.group a.left in
      let outcome : o ≡ run_here c net.tree made old =
      a.outcome_is ∙ ap (λ (r : Ran). run_here c net.tree r old) a.ran_is in
      let shown : outs ≡ made.outs = a.outs_are ∙ ap (λ (r : Ran). r.outs) a.ran_is in
      record {
        by = by;
        taken = a.taken;
        left = a.left;
        takes = a.takes;
        event_is = a.event_is;
        new_is = λ j. with_outcome net i (outcome j) (shown j) (sym nothing j);
      }

  -- ---- a site's reactions

  works_alone :
      (i : ℕ) (t : Tree) (quota : ℕ) (s new : Site) (es : List Event) (outs : List Out)
      (sends : List Addressed) → WorksAlone c t i quota s es outs sends new → (net : Net)
      → net.tree ≡ t → Fine net → slice_get net.sites i ≡ Some s
      → ReactsUpTo c i quota net es
      (moved net (slice_set net.sites i new) (net.trace ++ outs) (net.packets ++ sends))
  works_alone i t quota s new es outs sends (used_up _) net tree fine here =
      subst (λ (w : Net). ReactsUpTo c i 0 net [] w)
      (same_moved net net.sites (slice_set net.sites i s) net.trace (net.trace ++ [])
      net.packets (net.packets ++ []) (sym (set_same net.sites i s here))
      (sym (append_nil net.trace)) (sym (append_nil net.packets))) (sched.used_up net)
  works_alone i t quota s new es outs sends (rests _ _ opens) net tree fine here =
      let stops : ReadyOpens c net i = λ q r.
      let site : r.site ≡ s = one_of (slice_get net.sites i) r.site s r.site_is here in
      opens q (subst (λ (u : Tree). IsReady c u s q) tree
      (subst (λ (v : Site). IsReady c net.tree v q) site r.ready)) in
      subst (λ (w : Net). ReactsUpTo c i quota net [] w)
      (same_moved net net.sites (slice_set net.sites i s) net.trace (net.trace ++ [])
      net.packets (net.packets ++ []) (sym (set_same net.sites i s here))
      (sym (append_nil net.trace)) (sym (append_nil net.packets))) (sched.rests quota net stops)
  works_alone i t quota s new es outs sends
      (reacts _ _ _ q e first o later_es later_outs later some alone none more) net tree fine here =
      let own : ReactsAlone c net.tree i s q e first o =
      subst (λ (u : Tree). ReactsAlone c u i s q e first o) (sym tree) alone in
      let mid : Net =
      moved net (slice_set net.sites i o.site) (net.trace ++ first) (net.packets ++ o.sends) in
      let one = reacts_lent net fine i s q e first o here own none in
      let rest = works_alone i t (quota - 1) o.site new later_es later_outs later more mid tree
      (reacted p c ok kept is net mid i q e fine one) (get_set_same net.sites i s o.site here) in
      let end =
      same_moved net (slice_set (slice_set net.sites i o.site) i new) (slice_set net.sites i new)
      ((net.trace ++ first) ++ later_outs) (net.trace ++ (first ++ later_outs))
      ((net.packets ++ o.sends) ++ later) (net.packets ++ (o.sends ++ later))
      (set_set net.sites i o.site new) (append_assoc net.trace first later_outs)
      (append_assoc net.packets o.sends later) in
      sched.reacts quota net mid (moved net (slice_set net.sites i new)
      (net.trace ++ (first ++ later_outs)) (net.packets ++ (o.sends ++ later))) q e later_es some
      (record { site = s; site_is = here; ready = own.ready }) none one
      (subst (λ (w : Net). ReactsUpTo c i (quota - 1) mid later_es w) end rest)

  -- ---- all sites

  -- the mail of a later site is what it was
  mail_but : (i j : ℕ) (ps : List Addressed) → (i ≡ j → ⊥) → mail_to j (but_to i ps) ≡ mail_to j ps
  mail_but i j [] differ = refl
  mail_but i j (p ∷ ps) differ =
      go (p.target == i) refl (p.target == j) refl (mail_but i j ps differ)
    where
      go : (u : Bool) → (p.target == i) ≡ u → (v : Bool) → (p.target == j) ≡ v
          → mail_to j (but_to i ps) ≡ mail_to j ps
          → mail_to j (cond u (but_to i ps) (p ∷ but_to i ps))
          ≡ cond v (p ∷ mail_to j ps) (mail_to j ps)
      go true e true f ih = absurd (differ (sym (eqb-true p.target i e) ∙ eqb-true p.target j f))
      go true e false f ih = ih
      go false e true f ih =
          ap (λ b. cond b (p ∷ mail_to j (but_to i ps)) (mail_to j (but_to i ps))) f
          ∙ ap (λ qs. p ∷ qs) ih
      go false e false f ih =
          ap (λ b. cond b (p ∷ mail_to j (but_to i ps)) (mail_to j (but_to i ps))) f ∙ ih

  -- messages to the sites from i on below n
  abbrev AreTo : ℕ → ℕ → List Addressed → Type 0
  AreTo i n ps = Each (λ (q : Addressed). (i ≤ q.target) × (q.target < n)) ps

  to_later : (i n : ℕ) (ps : List Addressed) → AreTo i n ps → AreTo (i + 1) n (but_to i ps)
  to_later i n [] h = tt
  to_later i n (p ∷ ps) h = go (p.target == i) refl (to_later i n ps h.1)
    where
      more : (a b : ℕ) → a ≤ b → (b ≡ a → ⊥) → a + 1 ≤ b
      more a b le not = elim (split a b le) [ inl same ↦ absurd (not same) | inr less ↦ less ]
        where
          split : (a b : ℕ) → a ≤ b → (b ≡ a) ⊎ (a + 1 ≤ b)
          split a b h = grind arith

      go : (u : Bool) → (p.target == i) ≡ u → AreTo (i + 1) n (but_to i ps)
          → AreTo (i + 1) n (cond u (but_to i ps) (p ∷ but_to i ps))
      go true e ih = ih
      go false e ih =
          ((more i p.target h.0.0 (λ same. (let t = eq-eqb p.target i same in cc)), h.0.1), ih)

  no_later : (i n : ℕ) (ps : List Addressed) → n ≤ i → AreTo i n ps → ps ≡ []
  no_later i n [] le h = refl
  no_later i n (p ∷ ps) le h = absurd (let low = h.0.0 in let less = h.0.1 in omega arith)

  all_lent :
      (quota n : ℕ) (t : Tree) (packets : List Addressed) (i : ℕ) (ss : List Site) (es : List Event)
      (outs : List Out) (left : List Addressed) (news : List Site)
      → AllAreLent c quota t packets i ss es outs left news
      → (net : Net) → net.tree ≡ t
      → (done : List Site) (trace : List Out) (front back : List Addressed) → i ≡ length done
      → n ≡ i + length ss
      → ((j : ℕ) → i ≤ j → mail_to j front ≡ mail_to j packets) → AreTo i n front
      → Fine (moved net (done ++ ss) trace (front ++ back))
      → AreTurns c quota (range_with_len i (length ss)) (length front)
      (moved net (done ++ ss) trace (front ++ back)) es
      (moved net (done ++ news) (trace ++ outs) (back ++ left))
  all_lent quota n t packets i ss es outs left news (no_site _) net tree done trace front back
      number many mail to fine =
      let none = no_later i n front (omega arith) to in
      subst (λ (ps : List Addressed).
      AreTurns c quota [] (length ps) (moved net (done ++ []) trace (ps ++ back)) []
      (moved net (done ++ []) (trace ++ []) (back ++ []))) (sym none)
      (subst (λ (w : Net). AreTurns c quota [] 0 (moved net (done ++ []) trace back) [] w)
      (same_moved net (done ++ []) (done ++ []) trace (trace ++ []) back (back ++ []) refl
      (sym (append_nil trace)) (sym (append_nil back)))
      (sched.no_site 0 (moved net (done ++ []) trace back)))
  all_lent quota n t packets i ss es outs left news (a_site _ s mid new on sends own_es own_outs
      others later_news later_es later_outs later works alone more) net tree done trace front back
      number many mail to fine =
      let sites = done ++ s ∷ others in
      let start = moved net sites trace (front ++ back) in
      let here : slice_get sites i ≡ Some s =
      ap (slice_get sites) number ∙ get_next done s others in
      let collects = works_off t i s mid (mail_to i packets) on works net tree sites trace front
      back here (mail i (omega arith)) in
      let after = moved net (slice_set sites i mid) trace (but_to i front ++ (back ++ on)) in
      let fine_after = collects_fine p c ok kept is i (length front) (length (but_to i front)) start
      after fine collects in
      let reacts_all = works_alone i t quota mid new own_es own_outs sends alone after tree
      fine_after (get_set_same sites i s mid here) in
      let end = moved net ((done ++ new ∷ []) ++ others) (trace ++ own_outs)
      (but_to i front ++ (back ++ (on ++ sends))) in
      let sites_are : slice_set (slice_set sites i mid) i new ≡ (done ++ new ∷ []) ++ others =
      set_set sites i mid new ∙ ap (λ (k : ℕ). slice_set sites k new) number
      ∙ set_next done s new others in
      let packets_are : (but_to i front ++ (back ++ on)) ++ sends
      ≡ but_to i front ++ (back ++ (on ++ sends)) = append_assoc (but_to i front) (back ++ on) sends
      ∙ ap (λ ps. but_to i front ++ ps) (append_assoc back on sends) in
      let same =
      same_moved net (slice_set (slice_set sites i mid) i new) ((done ++ new ∷ []) ++ others)
      (trace ++ own_outs) (trace ++ own_outs) ((but_to i front ++ (back ++ on)) ++ sends)
      (but_to i front ++ (back ++ (on ++ sends))) sites_are refl packets_are in
      let turn : IsTurn c quota i (length front) start (length (but_to i front)) own_es end =
      record {
        mid = after;
        collects = collects;
        reacts = subst (λ (w : Net). ReactsUpTo c i quota after own_es w) same reacts_all;
      } in
      let place : i + 1 ≡ length (done ++ new ∷ []) =
      ap (λ k. k + 1) number ∙ sym (length-append done (new ∷ [])) in
      let rest = all_lent quota n t packets (i + 1) others later_es later_outs later later_news more
      net tree (done ++ new ∷ []) (trace ++ own_outs) (but_to i front) (back ++ (on ++ sends)) place
      (omega arith)
      (λ j le. mail_but i j front (λ e. omega arith) ∙ mail j (omega arith)) (to_later i n front to)
      (turn_fine p c ok kept is quota i (length front) (length (but_to i front)) start end own_es
      fine turn) in
      let last = same_moved net ((done ++ new ∷ []) ++ later_news) (done ++ new ∷ later_news)
      ((trace ++ own_outs) ++ later_outs) (trace ++ (own_outs ++ later_outs))
      ((back ++ (on ++ sends)) ++ later) (back ++ ((on ++ sends) ++ later))
      (append_assoc done (new ∷ []) later_news) (append_assoc trace own_outs later_outs)
      (append_assoc back (on ++ sends) later) in
      sched.a_site i (range_with_len (i + 1) (length others)) (length front)
      (length (but_to i front)) start end (moved net (done ++ new ∷ later_news)
      (trace ++ (own_outs ++ later_outs)) (back ++ ((on ++ sends) ++ later))) own_es later_es turn
      (subst (λ (w : Net). AreTurns c quota (range_with_len (i + 1) (length others))
      (length (but_to i front)) end later_es w) last rest)

all_to : (n : ℕ) (ps : List Addressed) → Each (IsOnItsWay n) ps
    → Each (λ (q : Addressed). (0 ≤ q.target) × (q.target < n)) ps
all_to n ps h = Each-weaker (IsOnItsWay n) (λ (q : Addressed). (0 ≤ q.target) × (q.target < n))
    (λ q way. (omega arith, way.1)) ps h

pub lent_sites_have_turns : LentSitesHaveTurns
lent_sites_have_turns p c ok kept is net n stands runs quota es outs packets news lent =
    let fine : IsFine p c net = record { solution = n; stands = stands; runs = runs } in
    let many : length net.sites ≡ 0 + length net.sites = omega arith in
    let whole : moved net net.sites net.trace net.packets
    ≡ moved net net.sites net.trace (net.packets ++ []) =
    same_moved net net.sites net.sites net.trace net.trace net.packets (net.packets ++ []) refl refl
    (sym (append_nil net.packets)) in
    subst (λ (w : Net). AreTurns c quota (numbers net) (length net.packets) w es
    (moved net news (net.trace ++ outs) packets)) (sym whole)
    (all_lent p c ok kept is quota (length net.sites) net.tree net.packets 0 net.sites es outs
    packets news lent net refl [] net.trace net.packets [] refl many (λ j le. refl)
    (all_to (length net.sites) net.packets runs.keeps.packets) (subst (IsFine p c) whole fine))
