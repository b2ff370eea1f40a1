-- A site that works while its network is elsewhere: each step is one of the network.
use Rattle.std.proofs.Common.{◌≡◌, ℕ, zero, suc, ◌+◌, ◌<◌, ◌≤◌, ◌^◌, ◌==◌, Bool, true, false, cond}
use Rattle.std.proofs.Common.{List, [], ◌∷◌, ◌++◌, length, take, drop, Option, Some, None, refl}
use Rattle.std.proofs.Common.{sym, ap, ◌∙◌, subst, arith, slice_get, append_assoc, length-append}
use Rattle.std.specs.Prelude.{slice_set, ◌-◌, ◌&&◌, not}
use Rattle.chem_model.specs.declared.name.Loc.{Loc}
use Rattle.chem_model.specs.declared.name.Name.{Name}
use Rattle.chem_model.specs.declared.name.Name.TheVariants as name
use Rattle.chem_model.specs.declared.event.Event.{Event}
use Rattle.chem_model.specs.declared.event.Out.{Out}
use Rattle.chem_model.specs.Each.{Each}
use Rattle.chem_model.specs.Opening.{root_of}
use Rattle.chem_laws.proofs.Lists.{Each-append, append_nil}
use Rattle.wire_packet.specs.MessageFacts.{MessageParts}
use Rattle.wire_packet.specs.declared.packet.Flight.{Flight}
use Rattle.env_store.specs.CodeParts.{CodeParts}
use Rattle.env_store.specs.Laws.{rules_of_group}
use Rattle.env_store.specs.Running.{Ran, code_made}
use Rattle.loc_tree.specs.Tree.{Tree, bare}
use Rattle.net_laws.specs.Site.{Site}
use Rattle.net_laws.specs.Net.{Addressed, Net, among, home_or, address, without_packet, IsOnItsWay}
use Rattle.net_laws.specs.Net.{with_births}
use Rattle.net_laws.specs.Holding.{put}
use Rattle.net_laws.specs.Posting.{Outcome, with_queues}
use Rattle.net_laws.specs.ByCode.{args_of, run_here}
use Rattle.net_laws.specs.Choices.{with_outcome}
use Rattle.net_laws.specs.Rounds.{WorksOff, nothing_left, puts, passes_on}
use Rattle.net_laws.proofs.Holds.{each_get}
use Rattle.net_laws.proofs.Lists.{get_set_same}
use Rattle.site_solution.specs.Draws.{message_drawn}
use Rattle.site_solution.specs.Held.{has_atom, taken_in, taken_at, without_fronts}
use Rattle.site_solution.specs.InTree.{message_stands}
use Rattle.site_solution.specs.Answers.{Answers}
use Rattle.site_solution.specs.Staying.{CanAct, HasReceived}
use Rattle.site_solution.specs.declared.effects.Effects.{Effects}
use Rattle.reducer.specs.declared.pick.Pick.{Pick}
use Rattle.reducer.specs.Picks.{Picked, Fires}
use Rattle.reducer.specs.Fronts.{taken_by, event_of}
use Rattle.reducer.specs.Ready.{IsReady}
use Rattle.reducer.specs.Reacting.{ran_by}
use Rattle.reducer.specs.Reacted.{IsFit}
use Rattle.router.specs.Delivering.{is_channel, home_at, can_deliver}
use Rattle.net_laws.specs.Site.{Group}
use Rattle.net_core.specs.declared.turn.Made.{Made}
use Rattle.net_core.specs.Acting.{Reacts, Delivers}
use Rattle.net_core.specs.inside.AtSites.{AllStayFit}
use Rattle.net_core.specs.inside.Alone.{IsAlone, HasArrived}
use Rattle.site_turn.specs.Reacting.{ReactsOnce}
use Rattle.net_core.specs.inside.Alone.{IsNoted, HasReacted}
use Rattle.site_turn.specs.Bringing.{IsBroughtTo, GoesOn, Brings}
use Rattle.net_core.specs.Lending.{mail_to, ReactsAlone, WorksAlone, used_up, rests, reacts}
use Rattle.net_core.specs.Parts.{message_in, carried, all_carried, IsMessageFlight}
use Rattle.net_core.specs.Playing as does
use Rattle.net_core.specs.Scheduling.{births_or, births_of}
use Rattle.net_core.specs.Whole.{AllFit, IsRunning}
use Rattle.net_core.proofs.Carrying.{all_carry, carried_append}
use Rattle.net_core.proofs.Deliverable.{may_be_delivered}
use Rattle.net_core.proofs.Deliveries.{set_length}
use Rattle.net_core.proofs.Fitting.{fits_at, all_fit_set, fit_full, fit_stays, stay_set}
use Rattle.site_turn.proofs.Room.{run_bare}
use Rattle.net_core.proofs.Mail.{first_mail, mail_append, mail_here, mail_elsewhere, drop_next}
use Rattle.net_core.proofs.Reaching.{by_guard, takes, births_counted, fires_bare}
use Rattle.net_core.proofs.SiteReactions.{to_bare, from_bare, take_next}
use Rattle.net_core.proofs.Stepping.{running_on, event_running}

module _ (c : CodeParts) (t : Tree) (i events : ℕ) (s : Site) (mail : List Addressed)
    (h : IsAlone c t i events s mail) where
  pub alone_fits : CanAct c t s
  alone_fits =
      let bare_fit : AllFit c (bare t) h.net.sites =
      subst (λ (u : Tree). AllFit c u h.net.sites) h.tree h.running.fit in
      let fits = fits_at c t h.net.sites i s (fit_full c t h.net.sites bare_fit) h.here in
      record { in_tree = fits.in_tree; in_code = fits.in_code; draws = fits.draws }

  pub alone_number : s.number ≡ i
  alone_number = (h.running.some.stands.hosts i s h.here).number

-- with the room of the tree or without
fits_in : (c : CodeParts) (t u : Tree) (s : Site) → u ≡ bare t → CanAct c t s → CanAct c u s
fits_in c t u s same h =
    let less : CanAct c (bare t) s = record {
      in_tree = h.in_tree;
      in_code = h.in_code;
      draws = record { few = h.draws.few; drawn = h.draws.drawn; fresh = h.draws.fresh };
    } in
    subst (λ (v : Tree). CanAct c v s) (sym same) less

-- ---- mail

-- in the network of the site its next message is under way at this place
record IsFront (c : CodeParts) (t : Tree) (i events : ℕ) (s : Site) (p : Addressed)
    (mail : List Addressed) : Type 0 where
  net : Net
  running : IsRunning c net events
  tree : net.tree ≡ bare t
  here : slice_get net.sites p.target ≡ Some s
  place : ℕ
  at : slice_get net.packets place ≡ Some p
  target : p.target ≡ i
  later : List Addressed
  left : mail_to i (without_packet place net.packets) ≡ mail ++ later
  number : s.number ≡ p.target
  home : home_at s p.msg ≡ home_or (root_of p.target) p.msg.on

front : (c : CodeParts) (t : Tree) (i events : ℕ) (s : Site) (p : Addressed) (mail : List Addressed)
    → IsAlone c t i events s (p ∷ mail) → IsFront c t i events s p mail
front c t i events s p mail h =
    let first = first_mail i h.net.packets p (mail ++ h.later) h.mail_is in
    let number = alone_number c t i events s (p ∷ mail) h ∙ sym first.target in
    record {
      net = h.net;
      running = h.running;
      tree = h.tree;
      here = ap (slice_get h.net.sites) first.target ∙ h.here;
      place = first.place;
      at = first.at;
      target = first.target;
      later = h.later;
      left = first.left;
      number = number;
      home = ap (λ (k : ℕ). home_or (root_of k) p.msg.on) number;
    }

pub alone_may :
    (c : CodeParts) (t : Tree) (i events : ℕ) (s : Site) (p : Addressed) (mail : List Addressed)
    → IsAlone c t i events s (p ∷ mail) → can_deliver t s p.msg ≡ true
alone_may c t i events s p mail h =
    let f = front c t i events s p mail h in
    let net = f.net in
    let some = f.running.some in
    let can : can_deliver net.tree s p.msg ≡ true =
    may_be_delivered (rules_of_group some.program) net some.solution some.stands f.place p s
    f.at f.here
    (each_get (IsOnItsWay (length net.sites)) net.packets f.place p f.at some.runs.keeps.packets) in
    subst (λ (u : Tree). can_deliver u s p.msg ≡ true) f.tree can

-- the message was put
puts_here :
    (c : CodeParts) (t : Tree) (i events : ℕ) (s new : Site) (p : Addressed) (mail : List Addressed)
    → IsAlone c t i events s (p ∷ mail) → CanAct c t new → IsBroughtTo t s p.msg None new
    → IsAlone c t i events new mail
puts_here c t i events s new p mail h fits b =
    let f = front c t i events s p mail h in
    let net = f.net in
    let home = home_or (root_of p.target) p.msg.on in
    let there : among s.locs home ≡ true = ap (among s.locs) (sym f.home) ∙ b.0 in
    let is : new ≡ put home p.msg s = b.1 ∙ ap (λ (l : Loc). put l p.msg s) f.home in
    let others = without_packet f.place net.packets in
    let after : Net = record {
      version = net.version;
      seen = net.seen;
      sites = slice_set net.sites p.target (put home p.msg s);
      tree = net.tree;
      trace = net.trace;
      packets = others;
    } in
    let on : Net = record {
      version = net.version;
      seen = net.seen;
      sites = net.sites;
      tree = net.tree;
      trace = net.trace;
      packets = others ++ record { target = address net.tree home; msg = p.msg } ∷ [];
    } in
    let made : Delivers net f.place after = record {
      packet = p;
      site = s;
      packet_is = f.at;
      site_is = f.here;
      new_is = ap (λ (u : Bool). cond u after on) (sym there);
    } in
    let fits_new : CanAct c net.tree (put home p.msg s) =
    subst (CanAct c net.tree) is (fits_in c t net.tree new f.tree fits) in
    let running = running_on c net after None events f.running (does.deliver f.place after made)
    (all_fit_set c net.tree net.sites p.target (put home p.msg s) f.running.fit fits_new)
    (set_length net.sites p.target (put home p.msg s)) in
    let none : events + 0 ≡ events = omega arith in
    record {
      net = after;
      running = subst (IsRunning c after) none running;
      tree = f.tree;
      here = ap (slice_get after.sites) (sym f.target)
          ∙ get_set_same net.sites p.target s (put home p.msg s) f.here
          ∙ ap (λ (u : Site). Some u) (sym is);
      later = f.later;
      mail_is = f.left;
    }

-- the message goes on
goes_from :
    (c : CodeParts) (t : Tree) (i events : ℕ) (s new : Site) (p : Addressed) (mail : List Addressed)
    (target : ℕ) → IsAlone c t i events s (p ∷ mail) → IsBroughtTo t s p.msg (Some target) new
    → IsAlone c t i events new mail
goes_from c t i events s new p mail target h b =
    let f = front c t i events s p mail h in
    let net = f.net in
    let home = home_or (root_of p.target) p.msg.on in
    let away : among s.locs home ≡ false = ap (among s.locs) (sym f.home) ∙ b.0 in
    let others = without_packet f.place net.packets in
    let more : List Addressed = record { target = address net.tree home; msg = p.msg } ∷ [] in
    let after : Net = record {
      version = net.version;
      seen = net.seen;
      sites = slice_set net.sites p.target (put home p.msg s);
      tree = net.tree;
      trace = net.trace;
      packets = others;
    } in
    let on : Net = record {
      version = net.version;
      seen = net.seen;
      sites = net.sites;
      tree = net.tree;
      trace = net.trace;
      packets = others ++ more;
    } in
    let made : Delivers net f.place on = record {
      packet = p;
      site = s;
      packet_is = f.at;
      site_is = f.here;
      new_is = ap (λ (u : Bool). cond u after on) (sym away);
    } in
    let running =
    running_on c net on None events f.running (does.deliver f.place on made) f.running.fit refl in
    let none : events + 0 ≡ events = omega arith in
    record {
      net = on;
      running = subst (IsRunning c on) none running;
      tree = f.tree;
      here = ap (slice_get net.sites) (sym f.target) ∙ f.here ∙ ap (λ (u : Site). Some u) (sym b.2);
      later = f.later ++ mail_to i more;
      mail_is = mail_append i others more ∙ ap (λ qs. qs ++ mail_to i more) f.left
          ∙ append_assoc mail f.later (mail_to i more);
    }

brought_alone :
    (c : CodeParts) (t : Tree) (i events : ℕ) (s new : Site) (p : Addressed) (mail : List Addressed)
    (target : Option ℕ) → IsAlone c t i events s (p ∷ mail) → CanAct c t new
    → IsBroughtTo t s p.msg target new → IsAlone c t i events new mail
brought_alone c t i events s new p mail None h fits b = puts_here c t i events s new p mail h fits b
brought_alone c t i events s new p mail (Some target) h fits b =
    goes_from c t i events s new p mail target h b

-- ---- what arrives is worked off

works_join : (t : Tree) (s mid new : Site) (mail more on onward : List Addressed)
    → WorksOff t s mail on mid → WorksOff t mid more onward new
    → WorksOff t s (mail ++ more) (on ++ onward) new
works_join t s mid new mail more on onward (nothing_left _) w = w
works_join t s mid new mail more on onward (puts _ _ p others _ site k home is here rest) w =
    puts s new p (others ++ more) (on ++ onward) site k home is here
    (works_join t (put home p.msg s) mid new others more on onward rest w)
works_join t s mid new mail more on onward (passes_on _ _ p others passed site k home is away rest)
    w =
    passes_on s new p (others ++ more) (passed ++ onward) site k home is away
    (works_join t s mid new others more passed onward rest w)

module _ (t : Tree) (s new : Site) (f : Flight) where
  abbrev m : MessageParts
  m = message_in f.bytes

  one_put : (n : Name) → m.on ≡ n → is_channel n ≡ true → IsBroughtTo t s m None new
      → WorksOff (bare t) s (carried f ∷ []) [] new
  one_put (name.Seen j) e is b = cc
  one_put (name.Place a) e is b = cc
  one_put (name.Num n) e is b = cc
  one_put (name.Op i) e is b = cc
  one_put (name.Chan site k home) e is b =
      let home_is : home_at s m ≡ home = ap (home_or (root_of s.number)) e in
      let there : among s.locs home ≡ true = ap (among s.locs) (sym home_is) ∙ b.0 in
      let same : new ≡ put home m s = b.1 ∙ ap (λ (l : Loc). put l m s) home_is in
      subst (λ (u : Site). WorksOff (bare t) s (carried f ∷ []) [] u) (sym same)
      (puts s (put home m s) (carried f) [] [] site k home e there (nothing_left (put home m s)))

  one_on : (target : ℕ) (n : Name) → m.on ≡ n → is_channel n ≡ true
      → IsBroughtTo t s m (Some target) new
      → WorksOff (bare t) s (carried f ∷ []) (record { target = target; msg = m } ∷ []) new
  one_on target (name.Seen j) e is b = cc
  one_on target (name.Place a) e is b = cc
  one_on target (name.Num n) e is b = cc
  one_on target (name.Op i) e is b = cc
  one_on target (name.Chan site k home) e is b =
      let home_is : home_at s m ≡ home = ap (home_or (root_of s.number)) e in
      let away : among s.locs home ≡ false = ap (among s.locs) (sym home_is) ∙ b.0 in
      let to : target ≡ address (bare t) home = b.1 ∙ ap (address t) home_is in
      let passed : WorksOff (bare t) s (carried f ∷ [])
      (record { target = address (bare t) home; msg = m } ∷ []) s =
      passes_on s s (carried f) [] [] site k home e away (nothing_left s) in
      let from : WorksOff (bare t) s (carried f ∷ [])
      (record { target = address (bare t) home; msg = m } ∷ []) new =
      subst (λ (u : Site). WorksOff (bare t) s (carried f ∷ [])
      (record { target = address (bare t) home; msg = m } ∷ []) u) (sym b.2) passed in
      subst
      (λ (k : ℕ). WorksOff (bare t) s (carried f ∷ []) (record { target = k; msg = m } ∷ []) new)
      (sym to) from

  one_arrives : (target : Option ℕ) (more : List Flight) → is_channel m.on ≡ true
      → IsBroughtTo t s m target new → GoesOn f.bytes target more
      → WorksOff (bare t) s (carried f ∷ []) (all_carried more) new
  one_arrives None more is b g =
      subst (λ (fs : List Flight). WorksOff (bare t) s (carried f ∷ []) (all_carried fs) new)
      (sym g) (one_put m.on refl is b)
  one_arrives (Some target) more is b g =
      subst (λ (fs : List Flight). WorksOff (bare t) s (carried f ∷ []) (all_carried fs) new)
      (sym g) (one_on target m.on refl is b)

  more_spelled : (target : Option ℕ) (more : List Flight) → IsMessageFlight f
      → GoesOn f.bytes target more → Each IsMessageFlight more
  more_spelled None more spelled g = subst (Each IsMessageFlight) (sym g) tt
  more_spelled (Some target) more spelled g = subst (Each IsMessageFlight) (sym g) (spelled, tt)

first_true : (u v : Bool) → u && v ≡ true → u ≡ true
first_true true v e = refl
first_true false v e = e

channel_of : (t : Tree) (s : Site) (msg : MessageParts) → can_deliver t s msg ≡ true
    → is_channel msg.on ≡ true
channel_of t s msg e = first_true (is_channel msg.on)
    (message_stands t msg && (not (has_atom msg.id s) && message_drawn s.number s.made msg)) e

-- of the first n flights those to the site i arrived
pub record IsComing (c : CodeParts) (t : Tree) (i : ℕ) (fs : List Flight) (n : ℕ) (s now : Site)
    (on : List Flight) : Type 0 where
  pub works : WorksOff (bare t) s (mail_to i (all_carried (take n fs))) (all_carried on) now
  pub spelled : Each IsMessageFlight on
  pub stays : (events : ℕ) → IsAlone c t i events s (mail_to i (all_carried fs))
      → IsAlone c t i events now (mail_to i (all_carried (drop n fs)))

module _ (c : CodeParts) (t : Tree) (i : ℕ) (fs : List Flight) (s : Site) where
  pub none_came : (on : List Flight) → on ≡ [] → IsComing c t i fs 0 s s on
  none_came on e = subst (IsComing c t i fs 0 s s) (sym e)
      (record { works = nothing_left s; spelled = tt; stays = λ events h. h })

  module _ (n : ℕ) (now : Site) (on : List Flight) (h : IsComing c t i fs n s now on) (f : Flight)
      (at : slice_get fs n ≡ Some f) where
    taken : all_carried (take (n + 1) fs) ≡ all_carried (take n fs) ++ carried f ∷ []
    taken = ap all_carried (take_next fs n f at) ∙ carried_append (take n fs) (f ∷ [])

    mail_then :
        mail_to i (all_carried (take (n + 1) fs))
        ≡ mail_to i (all_carried (take n fs)) ++ mail_to i (carried f ∷ [])
    mail_then = ap (mail_to i) taken ∙ mail_append i (all_carried (take n fs)) (carried f ∷ [])

    rest :
        mail_to i (all_carried (drop n fs)) ≡ mail_to i (carried f ∷ all_carried (drop (n + 1) fs))
    rest = ap (λ (gs : List Flight). mail_to i (all_carried gs)) (drop_next fs n f at)

    pub passes_by : f.target == i ≡ false → IsComing c t i fs (n + 1) s now on
    passes_by e =
        let front_is : mail_to i (all_carried (take (n + 1) fs))
        ≡ mail_to i (all_carried (take n fs)) = mail_then
        ∙ ap (λ qs. mail_to i (all_carried (take n fs)) ++ qs) (mail_elsewhere i (carried f) [] e)
        ∙ append_nil (mail_to i (all_carried (take n fs))) in
        let rest_is : mail_to i (all_carried (drop n fs))
        ≡ mail_to i (all_carried (drop (n + 1) fs)) =
        rest ∙ mail_elsewhere i (carried f) (all_carried (drop (n + 1) fs)) e in
        record {
          works = subst (λ (qs : List Addressed). WorksOff (bare t) s qs (all_carried on) now)
              (sym front_is) h.works;
          spelled = h.spelled;
          stays = λ events a. subst (IsAlone c t i events now) rest_is (h.stays events a);
        }

    module _ (to : f.target == i ≡ true) where
      next_mail : (events : ℕ) → IsAlone c t i events s (mail_to i (all_carried fs))
          → IsAlone c t i events now (carried f ∷ mail_to i (all_carried (drop (n + 1) fs)))
      next_mail events a = subst (IsAlone c t i events now)
          (rest ∙ mail_here i (carried f) (all_carried (drop (n + 1) fs)) to) (h.stays events a)

      pub may_come : (events : ℕ) → IsAlone c t i events s (mail_to i (all_carried fs))
          → can_deliver t now (message_in f.bytes) ≡ true
      may_come events a = alone_may c t i events now (carried f)
          (mail_to i (all_carried (drop (n + 1) fs))) (next_mail events a)

      pub comes : (events : ℕ) → IsAlone c t i events s (mail_to i (all_carried fs))
          → IsMessageFlight f → (new : Site) (more : List Flight) (bytes : List ℕ)
          → bytes ≡ f.bytes → Brings t now (message_in bytes) bytes on new more
          → (CanAct c t now → CanAct c t new) → IsComing c t i fs (n + 1) s new more
      comes events a spelled new more bytes own brings fit =
          let b : Brings t now (message_in f.bytes) f.bytes on new more =
          subst (λ (bs : List ℕ). Brings t now (message_in bs) bs on new more) own brings in
          let is = channel_of t now (message_in f.bytes) (may_come events a) in
          let one = one_arrives t now new f b.target b.more is b.brought b.goes in
          let front_is : mail_to i (all_carried (take (n + 1) fs))
          ≡ mail_to i (all_carried (take n fs)) ++ carried f ∷ [] = mail_then
          ∙ ap (λ qs. mail_to i (all_carried (take n fs)) ++ qs) (mail_here i (carried f) [] to) in
          let on_is : all_carried more ≡ all_carried on ++ all_carried b.more =
          ap all_carried b.on_is ∙ carried_append on b.more in
          let both = works_join (bare t) s now new (mail_to i (all_carried (take n fs)))
          (carried f ∷ []) (all_carried on) (all_carried b.more) h.works one in
          record {
            works = subst (λ (qs : List Addressed). WorksOff (bare t) s qs (all_carried more) new)
                (sym front_is)
                (subst (λ (qs : List Addressed).
                WorksOff (bare t) s (mail_to i (all_carried (take n fs)) ++ carried f ∷ []) qs new)
                (sym on_is) both);
            spelled = subst (Each IsMessageFlight) (sym b.on_is) (Each-append IsMessageFlight on
                b.more h.spelled (more_spelled t now new f b.target b.more spelled b.goes));
            stays = λ k alone.
                let next = next_mail k alone in
                brought_alone c t i k now new (carried f)
                (mail_to i (all_carried (drop (n + 1) fs))) b.target next (fit (alone_fits c t i k
                now (carried f ∷ mail_to i (all_carried (drop (n + 1) fs))) next)) b.brought;
          }

  pub coming_as : (n : ℕ) (now site : Site) (on more : List Flight) → site ≡ now → more ≡ on
      → IsComing c t i fs n s now on → IsComing c t i fs n s site more
  coming_as n now site on more a b h = subst (λ (u : Site). IsComing c t i fs n s u more) (sym a)
      (subst (IsComing c t i fs n s now) (sym b) h)

  take_whole : {X : Type 0} (xs : List X) (n : ℕ) → length xs ≤ n → take n xs ≡ xs
  take_whole [] zero h = refl
  take_whole [] (suc n) h = refl
  take_whole (x ∷ xs) zero h = absurd (omega arith)
  take_whole (x ∷ xs) (suc n) h = ap (λ ys. x ∷ ys) (take_whole xs n (omega arith))

  pub all_came : (n : ℕ) (now : Site) (on : List Flight) → IsComing c t i fs n s now on
      → length fs ≤ n → HasArrived t i fs s on now
  all_came n now on h e = record {
    works = subst (λ (gs : List Flight).
        WorksOff (bare t) s (mail_to i (all_carried gs)) (all_carried on) now) (take_whole fs n e)
        h.works;
    spelled = h.spelled;
  }

-- ---- a reaction

module _ (c : CodeParts) (t : Tree) (i events : ℕ) (s new : Site) (mail : List Addressed)
    (h : IsAlone c t i events s mail) (q : Pick) (ready : IsReady c t s q)
    (none : births_of c q ≡ 0)
    (e : Event) (effects : Effects) (made : ReactsOnce c t s q ready.pick e effects new) where
  abbrev x : Picked
  x = ready.pick

  abbrev net : Net
  net = h.net

  abbrev left : Site
  left = with_queues s q.group x.group (without_fronts x.group.queues x.guard.chans)

  abbrev ran : ℕ → Ran
  ran k = code_made c k x.guard.body (x.group.told.inst.env ++ args_of (taken_by x))
      x.group.told.inst.loc s.made

  abbrev o : Outcome
  o = run_here c (bare t) (ran i) left

  number : s.number ≡ i
  number = alone_number c t i events s mail h

  fires : Fires c net.tree s q x
  fires = subst (λ (u : Tree). Fires c u s q x) (sym h.tree) (fires_bare c t s q x ready.fires)

  answers : Answers o (ran i).outs (ran i).births new effects
  answers =
      let same : taken_at q.group x.guard.chans s ≡ left =
      ap (λ (g : Option Group). taken_in g q.group x.guard.chans s)
      ready.fires.covers.picks.group in
      let full : Answers (run_here c t (ran s.number) left)
      (ran s.number).outs (ran s.number).births new effects =
      subst (λ (u : Site).
      Answers (run_here c t (ran s.number) u) (ran s.number).outs (ran s.number).births new effects)
      same made.reacts in
      subst (λ (k : ℕ).
      Answers (run_here c (bare t) (ran k) left) (ran k).outs (ran k).births new effects) number
      (subst (λ (r : Outcome). Answers r (ran s.number).outs (ran s.number).births new effects)
      (sym (run_bare c t (ran s.number) left)) full)

  nil_of : (ls : List Loc) → length ls ≡ 0 → ls ≡ []
  nil_of [] e = refl
  nil_of (l ∷ ls) e = absurd (omega arith)

  births_nil : (ran i).births ≡ []
  births_nil =
      let coded = (fits_at c net.tree net.sites i s h.running.fit h.here).in_code in
      let count = births_counted c h.running.code net h.running.some i s q x h.here fires coded in
      let by_guard_is : births_of c q ≡ x.guard.births =
      ap births_or ready.fires.covers.picks.guard in
      let long : length (ran_by c s x).births ≡ 0 = count ∙ sym by_guard_is ∙ none in
      ap (λ (k : ℕ). (ran k).births) (sym number) ∙ nil_of (ran_by c s x).births long

  pub alone_reacts : ReactsAlone c (bare t) i s q e (ran i).outs o
  alone_reacts = record {
    ready = record {
      pick = x;
      fires = to_bare c t s q x ready.fires;
      least = λ r y f. ready.least r y (from_bare c t s r y f);
      first = λ r y f same. ready.first r y (from_bare c t s r y f) same;
    };
    taken = taken_by x;
    left = without_fronts x.group.queues x.guard.chans;
    takes = takes c h.running.code net h.running.some i s q x h.here fires;
    event_is = made.event_is;
    ran = ran i;
    ran_is = refl;
    outs_are = refl;
    outcome_is = refl;
  }

  pub outs_are : effects.outs ≡ (ran i).outs
  outs_are = answers.outs

  pub site_is : new ≡ o.site
  site_is = answers.site

  pub sends_are : (all_carried effects.sends ≡ o.sends) × Each IsMessageFlight effects.sends
  sends_are = all_carry o.sends effects.sends answers.sends

  -- the network after it
  abbrev after : Net
  after = with_outcome net i (run_here c net.tree (ran i) left) (ran i).outs (ran i).births

  does_there : Reacts c net i q.group q.guard (event_of q x) after
  does_there = record {
    by = by_guard c h.running.code net h.running.some i s q x h.here fires;
    taken = taken_by x;
    left = without_fronts x.group.queues x.guard.chans;
    takes = takes c h.running.code net h.running.some i s q x h.here fires;
    event_is = refl;
    new_is = refl;
  }

  tree_after : after.tree ≡ net.tree
  tree_after = ap (with_births net.tree i) births_nil

  site_after : (run_here c net.tree (ran i) left).site ≡ new
  site_after = ap (λ (u : Tree). (run_here c u (ran i) left).site) h.tree ∙ sym site_is

  received : HasReceived c net.tree new
  received =
      let born : effects.births ≡ [] = answers.births ∙ births_nil in
      let fit : IsFit c t new =
      subst (λ (ls : List Loc). IsFit c (with_births t s.number ls) new) born made.fit in
      subst (λ (u : Tree). HasReceived c u new) (sym h.tree)
      (record { all_there = fit.there; in_code = fit.coded; drawn = fit.drawn; fresh = fit.fresh })

  pub alone_after : events < 2 ^ 32 → IsAlone c t i (events + 1) new []
  alone_after few =
      let kept =
      stay_set c net.tree net.sites i new (fit_stays c net.tree net.sites h.running.fit) received in
      let sites : after.sites ≡ slice_set net.sites i new = ap (slice_set net.sites i) site_after in
      let all : AllStayFit c after.tree after.sites =
      subst (λ (u : Tree). AllStayFit c u after.sites) (sym tree_after)
      (subst (AllStayFit c net.tree) (sym sites) kept) in
      record {
        net = after;
        running = event_running c net after (event_of q x) events
            h.running (does.react i q.group q.guard (event_of q x) after does_there) all
            (set_length net.sites i (run_here c net.tree (ran i) left).site) few;
        tree = tree_after ∙ h.tree;
        here = get_set_same net.sites i s (run_here c net.tree (ran i) left).site h.here
            ∙ ap (λ (u : Site). Some u) site_after;
        later = mail_to i after.packets;
        mail_is = refl;
      }

-- ---- reactions one after another

-- after n reactions
pub record IsReacting (c : CodeParts) (t : Tree) (i quota n : ℕ) (s now : Site)
    (m : Made) : Type 0 where
  pub works :
      (es : List Event) (outs : List Out) (sends : List Addressed) (new : Site)
      → WorksAlone c (bare t) i (quota - n) now es outs sends new
      → WorksAlone c (bare t) i quota s (m.events ++ es) (m.outs ++ outs)
      (all_carried m.sends ++ sends) new
  pub spelled : Each IsMessageFlight m.sends
  pub count : length m.events ≡ n
  pub stays : (events : ℕ) → events + quota < 2 ^ 32 → IsAlone c t i events s []
      → IsAlone c t i (events + n) now []

module _ (c : CodeParts) (t : Tree) (i quota : ℕ) (s : Site) where
  module _ (n : ℕ) (now : Site) (m : Made) (h : IsReacting c t i quota n s now m) where
    pub reacting_fits : (events : ℕ) → events + quota < 2 ^ 32 → IsAlone c t i events s []
        → CanAct c t now
    reacting_fits events few a = alone_fits c t i (events + n) now [] (h.stays events few a)

    -- one more
    pub reacts_more : (events : ℕ) → events + quota < 2 ^ 32 → IsAlone c t i events s [] → n < quota
        → (new : Site) (q : Pick) (ready : IsReady c t now q) → births_of c q ≡ 0
        → (e : Event) (effects : Effects) → ReactsOnce c t now q ready.pick e effects new
        → (more : Made) → IsNoted e effects m more → IsReacting c t i quota (n + 1) s new more
    unfolding alone_reacts
    reacts_more events few a below new q ready none e effects made more noted =
        let alone = h.stays events few a in
        let step = alone_reacts c t i (events + n) now new [] alone q ready none e effects made in
        let outs = outs_are c t i (events + n) now new [] alone q ready none e effects made in
        let site = site_is c t i (events + n) now new [] alone q ready none e effects made in
        let sends = sends_are c t i (events + n) now new [] alone q ready none e effects made in
        let out : Outcome = o c t i (events + n) now new [] alone q ready none e effects made in
        record {
          works = λ es os ps last w.
              let less : quota - (n + 1) ≡ quota - n - 1 = omega arith in
              let later =
              subst (λ (u : Site). WorksAlone c (bare t) i (quota - n - 1) u es os ps last) site
              (subst (λ (k : ℕ). WorksAlone c (bare t) i k new es os ps last) less w) in
              let some : 0 < quota - n = omega arith in
              let all = h.works (e ∷ es) (step.ran.outs ++ os) (out.sends ++ ps) last
              (reacts (quota - n) now last q e step.ran.outs out es os ps some step none later) in
              as_noted es os ps last e effects more noted out.sends step.ran.outs outs sends.0 all;
          spelled = subst (Each IsMessageFlight) (sym noted.sends)
              (Each-append IsMessageFlight m.sends effects.sends h.spelled sends.1);
          count = omega (arith, ap length noted.events, length-append m.events (e ∷ []), h.count);
          stays = λ k low b.
              let one : k + n + 1 ≡ k + (n + 1) = omega arith in
              subst (λ (j : ℕ). IsAlone c t i j new []) one (alone_after c t i (k + n) now new []
              (h.stays k low b) q ready none e effects made (omega arith));
        }
      where
        as_noted :
            (es : List Event) (os : List Out) (ps : List Addressed) (last : Site) (e : Event)
            (effects : Effects) (more : Made) → IsNoted e effects m more
            → (qs : List Addressed) (us : List Out) → effects.outs ≡ us
            → all_carried effects.sends ≡ qs
            → WorksAlone c (bare t) i quota s (m.events ++ e ∷ es) (m.outs ++ (us ++ os))
            (all_carried m.sends ++ (qs ++ ps)) last
            → WorksAlone c (bare t) i quota s (more.events ++ es) (more.outs ++ os)
            (all_carried more.sends ++ ps) last
        as_noted es os ps last e effects more noted qs us outs sends w =
            let events_are : more.events ++ es ≡ m.events ++ e ∷ es =
            ap (λ xs. xs ++ es) noted.events ∙ append_assoc m.events (e ∷ []) es in
            let outs_are : more.outs ++ os ≡ m.outs ++ (us ++ os) =
            ap (λ xs. xs ++ os) noted.outs ∙ append_assoc m.outs effects.outs os
            ∙ ap (λ xs. m.outs ++ (xs ++ os)) outs in
            let sends_are : all_carried more.sends ++ ps ≡ all_carried m.sends ++ (qs ++ ps) =
            ap (λ xs. all_carried xs ++ ps) noted.sends
            ∙ ap (λ xs. xs ++ ps) (carried_append m.sends effects.sends)
            ∙ append_assoc (all_carried m.sends) (all_carried effects.sends) ps
            ∙ ap (λ xs. all_carried m.sends ++ (xs ++ ps)) sends in
            subst (λ (xs : List Event). WorksAlone c (bare t) i quota s xs (more.outs ++ os)
            (all_carried more.sends ++ ps) last) (sym events_are)
            (subst (λ (xs : List Out). WorksAlone c (bare t) i quota s (m.events ++ e ∷ es) xs
            (all_carried more.sends ++ ps) last) (sym outs_are)
            (subst (λ (xs : List Addressed).
            WorksAlone c (bare t) i quota s (m.events ++ e ∷ es) (m.outs ++ (us ++ os)) xs last)
            (sym sends_are) w))

    reacted_with : WorksAlone c (bare t) i (quota - n) now [] [] [] now
        → HasReacted c t i quota s m now
    reacted_with w = record {
      works =
          let all = h.works [] [] [] now w in
          subst
          (λ (xs : List Event). WorksAlone c (bare t) i quota s xs m.outs (all_carried m.sends) now)
          (append_nil m.events)
          (subst (λ (xs : List Out).
          WorksAlone c (bare t) i quota s (m.events ++ []) xs (all_carried m.sends) now)
          (append_nil m.outs)
          (subst (λ (xs : List Addressed).
          WorksAlone c (bare t) i quota s (m.events ++ []) (m.outs ++ []) xs now)
          (append_nil (all_carried m.sends)) all));
      spelled = h.spelled;
      stays = λ events few a.
          subst (λ (k : ℕ). IsAlone c t i (events + k) now []) (sym h.count) (h.stays events few a);
    }

    -- none is ready but one that opens a location
    pub reacted_all : ((q : Pick) → IsReady c (bare t) now q → 0 < births_of c q)
        → HasReacted c t i quota s m now
    reacted_all none = reacted_with (rests (quota - n) now none)

    -- the quota is used up
    pub reacted_most : quota ≤ n → HasReacted c t i quota s m now
    reacted_most all =
        let none : 0 ≡ quota - n = omega arith in
        reacted_with
        (subst (λ (k : ℕ). WorksAlone c (bare t) i k now [] [] [] now) none (used_up now))
