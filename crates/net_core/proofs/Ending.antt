-- The events of a schedule of rounds are those of a list of choices, and it ends quiet or with its
-- budget spent.
use Rattle.std.proofs.Common.{◌≡◌, ℕ, zero, suc, ◌+◌, ◌-◌, ◌/◌, ◌<◌, ◌≤◌, List, [], ◌∷◌, ◌++◌}
use Rattle.std.proofs.Common.{length, Option, Some, None, Bool, true, false, cond, refl, sym, ap}
use Rattle.std.proofs.Common.{◌∙◌, subst, arith, slice_get, ◌⊎◌, inl, inr, ◌==◌, eqb-true}
use Rattle.std.proofs.Common.{length-append}
use Rattle.std.specs.Prelude.{take, min, slice_set}
use Rattle.std.specs.List.{range_with_len}
use Rattle.std.proofs.Math.Nat.{le-div_iff_mul-le}
use Rattle.std.proofs.lemmas.Option.{slice_get_within}
use Rattle.chem_model.specs.declared.name.Loc.{Loc}
use Rattle.chem_model.specs.declared.event.Event.{Event}
use Rattle.chem_model.specs.ProgramFacts.{ProgramTerms, IsProgram}
use Rattle.chem_model.specs.Each.{Each}
use Rattle.chem_model.specs.Opening.{root_of}
use Rattle.wire_packet.specs.GroupFacts.{RequestParts}
use Rattle.env_store.specs.CodeParts.{CodeParts}
use Rattle.env_store.specs.CodeFacts.{IsCode}
use Rattle.env_store.specs.Reading.{IsCodeOf}
use Rattle.loc_tree.specs.Tree.{Tree}
use Rattle.reducer.specs.declared.pick.Pick.{Pick}
use Rattle.reducer.specs.Ready.{NoneFires, IsReady}
use Rattle.net_laws.specs.Site.{Site}
use Rattle.net_laws.specs.Net.{Addressed, Net, among, home_or, address, without_packet}
use Rattle.net_laws.specs.Holding.{put}
use Rattle.net_laws.specs.Opened.{opened_net}
use Rattle.net_core.specs.declared.choice.Choice.{Choice}
use Rattle.net_core.specs.declared.choice.Choice.TheVariants as choice
use Rattle.net_core.specs.Acting.{Delivers}
use Rattle.net_core.specs.Enabled.{IsEnabled, react, deliver, move, halt, detect}
use Rattle.net_core.specs.Choosing.{MayReact, Allows}
use Rattle.net_core.specs.Acts.{Acts}
use Rattle.net_core.specs.Acts as acts
use Rattle.net_core.specs.Asking.{choice_by, choices_for, requests_of, asks}
use Rattle.net_core.specs.Playing.{Does, DoesAll, stops, IsPlayed}
use Rattle.net_core.specs.Playing as plays
use Rattle.net_core.specs.Scheduling.{next_place, first_to, Collects, all_in, brings, IsReadyAt}
use Rattle.net_core.specs.Scheduling.{ReadyOpens, ReadyOpensNone, ReactsUpTo, used_up, rests}
use Rattle.net_core.specs.Scheduling.{reacts, IsTurn, AreTurns, no_site, a_site, InTurn, spent}
use Rattle.net_core.specs.Scheduling.{no_more, passes, makes, Opens, Meets, Forbids, numbers}
use Rattle.net_core.specs.Scheduling.{IsRound, GoesOn, all_spent, none_enabled, commits, carries}
use Rattle.net_core.specs.Scheduling.{AreRounds, few_left, last_round, one_round}
use Rattle.net_core.specs.Rounds.{RoundsReplay}
use Rattle.net_core.proofs.Enabling.{none_enabled_is_quiet}
use Rattle.net_core.proofs.Existing.{none_reacts, none_allowed}
use Rattle.net_core.proofs.Picking.{IsFine}
use Rattle.net_core.proofs.Playing.{opened_play}
use Rattle.net_core.proofs.Readiness.{some_ready}
use Rattle.net_core.proofs.Scheduled.{round_fine, opened_fine}
use Rattle.net_core.proofs.SomeSchedule.{both_empty, each_in_range, nothing_made, round_within}

-- ---- a list of choices

acts_does : (c : CodeParts) (net new : Net) (x : Choice) (o : Option Event) → Acts c net x o new
    → Does c net o new
acts_does c net new x o (acts.react i q e _ h) = plays.react i q.group q.guard e new h
acts_does c net new x o (acts.deliver f _ h) = plays.deliver f new h
acts_does c net new x o (acts.halt a _ h) = plays.halt a new h
acts_does c net new x o (acts.detect a _ h) = plays.detect a new h
acts_does c net new x o (acts.move a _ h) = plays.move a new h

does_more : (c : CodeParts) (net mid end : Net) (es ds : List Event) → DoesAll c net es mid
    → DoesAll c mid ds end → DoesAll c net (es ++ ds) end
does_more c net mid end es ds (stops _) more = more
does_more c net mid end es ds (plays.makes _ next _ e rest one later) more =
    plays.makes net next end e (rest ++ ds) one (does_more c next mid end rest ds later more)
does_more c net mid end es ds (plays.carries _ next _ _ one later) more =
    plays.carries net next end (es ++ ds) one (does_more c next mid end es ds later more)

module _ (c : CodeParts) where
  collects_does : (i old left : ℕ) (net new : Net) → Collects i old net left new
      → DoesAll c net [] new
  collects_does i old left net new (all_in _ _ e) = stops net
  collects_does i old left net new (brings _ _ f _ mid _ e h rest) = plays.carries net mid new []
      (plays.deliver f mid h) (collects_does i (old - 1) left mid new rest)

  reacts_does : (i quota : ℕ) (net new : Net) (es : List Event) → ReactsUpTo c i quota net es new
      → DoesAll c net es new
  reacts_does i quota net new es (used_up _) = stops net
  reacts_does i quota net new es (rests _ _ h) = stops net
  reacts_does i quota net new es (reacts _ _ mid _ q e more some ready none h rest) =
      plays.makes net mid new e more (plays.react i q.group q.guard e mid h)
      (reacts_does i (quota - 1) mid new more rest)

  turn_does : (quota i old left : ℕ) (net new : Net) (es : List Event)
      → IsTurn c quota i old net left es new → DoesAll c net es new
  turn_does quota i old left net new es turn =
      does_more c net turn.mid new [] es (collects_does i old left net turn.mid turn.collects)
      (reacts_does i quota turn.mid new es turn.reacts)

  pub turns_do : (quota : ℕ) (sites : List ℕ) (old : ℕ) (net new : Net) (es : List Event)
      → AreTurns c quota sites old net es new → DoesAll c net es new
  turns_do quota sites old net new es (no_site _ _) = stops net
  turns_do quota sites old net new es (a_site i others _ left _ mid _ first more turn rest) =
      does_more c net mid new first more (turn_does quota i old left net mid first turn)
      (turns_do quota others left mid new more rest)

  in_turn_does : {X : Type 0} (Makes : Net → X → Event → Net → Type 0) (Passes : Net → X → Type 0)
      → ((net mid : Net) (x : X) (e : Event) → Makes net x e mid → Does c net (Some e) mid)
      → (left : ℕ) (xs : List X) (net new : Net) (es : List Event)
      → InTurn Makes Passes left xs net es new → DoesAll c net es new
  in_turn_does Makes Passes does left xs net new es (spent _ _) = stops net
  in_turn_does Makes Passes does left xs net new es (no_more _ _) = stops net
  in_turn_does Makes Passes does left xs net new es (passes _ x others _ _ _ some h rest) =
      in_turn_does Makes Passes does left others net new es rest
  in_turn_does Makes Passes does left xs net new es (makes _ x others _ mid _ e more some h rest) =
      plays.makes net mid new e more (does net mid x e h)
      (in_turn_does Makes Passes does (left - 1) others mid new more rest)

  round_does : (budget : ℕ) (net new : Net) (es : List Event) → IsRound c budget net es new
      → DoesAll c net es new
  round_does budget net new es r =
      let worked = turns_do (min 64 (budget / length net.sites)) (numbers net) (length net.packets)
      net r.after_work r.worked r.turns in
      let opened = in_turn_does (Opens c) (ReadyOpensNone c)
      (λ m k i e h. plays.react i h.pick.group h.pick.guard e k h.reacts) (budget - length r.worked)
      (numbers net) r.after_work r.after_opening r.opened r.opens in
      let asked = in_turn_does (Meets c) (Forbids c) (λ m k x e h. acts_does c m k x (Some e) h)
      (budget - length r.worked - length r.opened) (asks r.after_opening) r.after_opening new
      r.asked r.meets in
      subst (λ (xs : List Event). DoesAll c net xs new) (sym r.events)
      (does_more c net r.after_work new r.worked (r.opened ++ r.asked) worked
      (does_more c r.after_work r.after_opening new r.opened r.asked opened asked))

  goes_does : (budget : ℕ) (net new : Net) (es : List Event) → GoesOn c budget net es new
      → DoesAll c net es new
  goes_does budget net new es (all_spent _) = stops net
  goes_does budget net new es (none_enabled _ _ h) = stops net
  goes_does budget net new es (commits _ _ mid _ x e more some first h rest) = plays.makes net mid
      new e more (acts_does c net mid x (Some e) h) (goes_does (budget - 1) mid new more rest)
  goes_does budget net new es (carries _ _ mid _ x _ some first h rest) =
      plays.carries net mid new es (acts_does c net mid x None h) (goes_does budget mid new es rest)

  rounds_do : (budget : ℕ) (net new : Net) (es : List Event) → AreRounds c budget net es new
      → DoesAll c net es new
  rounds_do budget net new es (few_left _ _ _ _ few goes) = goes_does budget net new es goes
  rounds_do budget net new es (last_round _ _ _ many round empty) =
      round_does budget net new [] round
  rounds_do budget net new es (one_round _ _ mid _ first more many round some rest) =
      does_more c net mid new first more (round_does budget net mid first round)
      (rounds_do (budget - length first) mid new more rest)

-- ---- where a turn leaves the other sites

-- the first message to a site goes there
first_goes : (i old : ℕ) (ps : List Addressed) (f : ℕ) (q : Addressed)
    → first_to i (take old ps) ≡ Some f → slice_get ps f ≡ Some q → q.target ≡ i
first_goes i zero ps f q e at = let clash : None ≡ Some f = e in cc
first_goes i (suc old) [] f q e at = let clash : None ≡ Some f = e in cc
first_goes i (suc old) (r ∷ ps) f q e at = go (r.target == i) refl e (first_goes i old ps)
  where
    later : (o : Option ℕ) → first_to i (take old ps) ≡ o → next_place o ≡ Some f
        → ((g : ℕ) (q : Addressed) → first_to i (take old ps) ≡ Some g → slice_get ps g ≡ Some q
        → q.target ≡ i) → q.target ≡ i
    later None e h ih = let clash : None ≡ Some f = h in cc
    later (Some g) e h ih =
        let place : g + 1 ≡ f = cc in
        let next : f ≡ suc g = omega arith in
        ih g q e (subst (λ (k : ℕ). slice_get (r ∷ ps) k ≡ Some q) next at)

    go : (b : Bool) → (r.target == i) ≡ b
        → cond b (Some 0) (next_place (first_to i (take old ps))) ≡ Some f
        → ((g : ℕ) (q : Addressed) → first_to i (take old ps) ≡ Some g → slice_get ps g ≡ Some q
        → q.target ≡ i) → q.target ≡ i
    go true t h ih =
        let place : 0 ≡ f = cc in
        let here : slice_get (r ∷ ps) 0 ≡ Some q =
        subst (λ (k : ℕ). slice_get (r ∷ ps) k ≡ Some q) (sym place) at in
        let same : r ≡ q = cc in
        ap (λ (v : Addressed). v.target) (sym same) ∙ eqb-true r.target i t
    go false t h ih = later (first_to i (take old ps)) refl h ih

set_other : (ss : List Site) (i j : ℕ) (s : Site) → (i ≡ j → ⊥)
    → slice_get (slice_set ss i s) j ≡ slice_get ss j
set_other [] i j s h = refl
set_other (u ∷ us) zero zero s h = absurd (h refl)
set_other (u ∷ us) zero (suc j) s h = refl
set_other (u ∷ us) (suc i) zero s h = refl
set_other (u ∷ us) (suc i) (suc j) s h = set_other us i j s (λ e. h (ap suc e))

set_length : (ss : List Site) (i : ℕ) (s : Site) → length (slice_set ss i s) ≡ length ss
set_length [] i s = refl
set_length (u ∷ us) zero s = refl
set_length (u ∷ us) (suc i) s = ap suc (set_length us i s)

-- the site i and the tree stay as they are
record Leaves (i : ℕ) (net new : Net) : Type 0 where
  site : slice_get new.sites i ≡ slice_get net.sites i
  tree : new.tree ≡ net.tree

leaves_same : (i : ℕ) (net : Net) → Leaves i net net
leaves_same i net = record { site = refl; tree = refl }

leaves_both : (i : ℕ) (net mid new : Net) → Leaves i net mid → Leaves i mid new → Leaves i net new
leaves_both i net mid new a b = record { site = b.site ∙ a.site; tree = b.tree ∙ a.tree }

-- a message is put at its target, or goes on
abbrev put_or_on : Bool → Net → ℕ → Site → Addressed → List Addressed → Net
put_or_on u net i s q others =
    cond u (record net { sites = slice_set net.sites i s; packets = others })
    (record net { packets = others ++ q ∷ [] })

module _ (net new : Net) (f : ℕ) (h : Delivers net f new) where
  abbrev home : Loc
  home = home_or (root_of h.packet.target) h.packet.msg.on

  new_is :
      new
      ≡ put_or_on (among h.site.locs home) net h.packet.target (put home h.packet.msg h.site)
      (record { target = address net.tree home; msg = h.packet.msg }) (without_packet f net.packets)
  new_is = h.new_is

  delivery_leaves : (i : ℕ) → (h.packet.target ≡ i → ⊥) → Leaves i net new
  delivery_leaves i not = subst (Leaves i net) (sym new_is) (go (among h.site.locs home))
    where
      go : (u : Bool)
          → Leaves i net (put_or_on u net h.packet.target (put home h.packet.msg h.site)
          (record { target = address net.tree home; msg = h.packet.msg })
          (without_packet f net.packets))
      go true = record {
        site = set_other net.sites h.packet.target i (put home h.packet.msg h.site) not;
        tree = refl;
      }
      go false = record { site = refl; tree = refl }

  delivery_length : length new.sites ≡ length net.sites
  delivery_length = ap (λ (w : Net). length w.sites) new_is ∙ go (among h.site.locs home)
    where
      go : (u : Bool)
          → length (put_or_on u net h.packet.target (put home h.packet.msg h.site)
          (record { target = address net.tree home; msg = h.packet.msg })
          (without_packet f net.packets)).sites ≡ length net.sites
      go true = set_length net.sites h.packet.target (put home h.packet.msg h.site)
      go false = refl

module _ (c : CodeParts) where
  collects_leaves : (i j old left : ℕ) (net new : Net) → (j ≡ i → ⊥) → Collects j old net left new
      → Leaves i net new
  collects_leaves i j old left net new differ (all_in _ _ e) = leaves_same i net
  collects_leaves i j old left net new differ (brings _ _ f _ mid _ e h rest) =
      let goes : h.packet.target ≡ j = first_goes j old net.packets f h.packet e h.packet_is in
      leaves_both i net mid new (delivery_leaves net mid f h i (λ same. differ (sym goes ∙ same)))
      (collects_leaves i j (old - 1) left mid new differ rest)

  collects_length : (j old left : ℕ) (net new : Net) → Collects j old net left new
      → length new.sites ≡ length net.sites
  collects_length j old left net new (all_in _ _ e) = refl
  collects_length j old left net new (brings _ _ f _ mid _ e h rest) =
      collects_length j (old - 1) left mid new rest ∙ delivery_length net mid f h

  -- a turn without an event
  idle_turn :
      (quota i old left : ℕ) (net new : Net) (es : List Event)
      (turn : IsTurn c quota i old net left es new) → es ≡ [] → new ≡ turn.mid
  idle_turn quota i old left net new es turn e =
      no_reaction_of i quota turn.mid new es turn.reacts e
    where
      no_reaction_of : (i quota : ℕ) (net new : Net) (es : List Event)
          → ReactsUpTo c i quota net es new → es ≡ [] → new ≡ net
      no_reaction_of i quota net new es (used_up _) e = refl
      no_reaction_of i quota net new es (rests _ _ h) e = refl
      no_reaction_of i quota net new es (reacts _ _ mid _ q d more some ready none h rest) e = cc

  idle_rests : (i quota : ℕ) (net new : Net) (es : List Event) → 0 < quota
      → ReactsUpTo c i quota net es new → es ≡ [] → ReadyOpens c net i
  idle_rests i quota net new es some (used_up _) e = absurd (omega arith)
  idle_rests i quota net new es some (rests _ _ h) e = h
  idle_rests i quota net new es some (reacts _ _ mid _ q d more least ready none h rest) e = cc

  abbrev AreOthers : ℕ → List ℕ → Type 0
  AreOthers i sites = Each (λ (j : ℕ). j ≡ i → ⊥) sites

  turns_leave : (i quota : ℕ) (sites : List ℕ) (old : ℕ) (net new : Net) (es : List Event)
      → AreOthers i sites → AreTurns c quota sites old net es new → es ≡ [] → Leaves i net new
  turns_leave i quota sites old net new es others_ok (no_site _ _) e = leaves_same i net
  turns_leave i quota sites old net new es others_ok
      (a_site j others _ left _ mid _ first more turn rest) e =
      let empty = both_empty first more e in
      let same = idle_turn quota j old left net mid first turn empty.0 in
      let one : Leaves i net mid = subst (Leaves i net) (sym same)
      (collects_leaves i j old left net turn.mid others_ok.0 turn.collects) in
      leaves_both i net mid new one
      (turns_leave i quota others left mid new more others_ok.1 rest empty.1)

  turns_length : (quota : ℕ) (sites : List ℕ) (old : ℕ) (net new : Net) (es : List Event)
      → AreTurns c quota sites old net es new → es ≡ [] → length new.sites ≡ length net.sites
  turns_length quota sites old net new es (no_site _ _) e = refl
  turns_length quota sites old net new es (a_site j others _ left _ mid _ first more turn rest) e =
      let empty = both_empty first more e in
      let same = idle_turn quota j old left net mid first turn empty.0 in
      turns_length quota others left mid new more rest empty.1
      ∙ ap (λ (w : Net). length w.sites) same
      ∙ collects_length j old left net turn.mid turn.collects

  still_opens : (i : ℕ) (net new : Net) → Leaves i net new → ReadyOpens c net i → ReadyOpens c new i
  still_opens i net new leaves opens q r =
      opens q (record {
        site = r.site;
        site_is = sym leaves.site ∙ r.site_is;
        ready = subst (λ (t : Tree). IsReady c t r.site q) leaves.tree r.ready;
      })

  -- each site once
  abbrev AreDistinct : List ℕ → Type 0
  AreDistinct [] = Unit {0}
  AreDistinct (i ∷ sites) = AreOthers i sites × AreDistinct sites

  -- after turns without an event, no reaction is ready at any of the sites but one that opens a
  -- location
  turns_open : (quota : ℕ) (sites : List ℕ) (old : ℕ) (net new : Net) (es : List Event) → 0 < quota
      → AreDistinct sites → AreTurns c quota sites old net es new → es ≡ []
      → Each (λ (i : ℕ). ReadyOpens c new i) sites
  turns_open quota sites old net new es some distinct (no_site _ _) e = tt
  turns_open quota sites old net new es some distinct
      (a_site i others _ left _ mid _ first more turn rest) e =
      let empty = both_empty first more e in
      let same = idle_turn quota i old left net mid first turn empty.0 in
      let here : ReadyOpens c mid i = subst (λ (w : Net). ReadyOpens c w i) (sym same)
      (idle_rests i quota turn.mid mid first some turn.reacts empty.0) in (
        still_opens i mid new (turns_leave i quota others left mid new more distinct.0 rest empty.1)
            here,
        turns_open quota others left mid new more some distinct.1 rest empty.1,
      )

  -- where nothing is made while budget is left, each is passed by
  all_passed : {X : Type 0} (Makes : Net → X → Event → Net → Type 0) (Passes : Net → X → Type 0)
      (left : ℕ) (xs : List X) (net new : Net) (es : List Event) → 0 < left
      → InTurn Makes Passes left xs net es new → es ≡ [] → Each (λ (x : X). Passes net x) xs
  all_passed Makes Passes left xs net new es some (spent _ _) e = absurd (omega arith)
  all_passed Makes Passes left xs net new es some (no_more _ _) e = tt
  all_passed Makes Passes left xs net new es some (passes _ x others _ _ _ more h rest) e =
      (h, all_passed Makes Passes left others net new es some rest e)
  all_passed Makes Passes left xs net new es some (makes _ x others _ mid _ d more least h rest) e =
      cc

each_above : (k n i : ℕ) → i < k → Each (λ (j : ℕ). j ≡ i → ⊥) (range_with_len k n)
each_above k zero i h = tt
each_above k (suc n) i h = (λ e. omega arith, each_above (k + 1) n i (omega arith))

distinct_range : (c : CodeParts) (k n : ℕ) → AreDistinct c (range_with_len k n)
distinct_range c k zero = tt
distinct_range c k (suc n) = (each_above (k + 1) n k (omega arith), distinct_range c (k + 1) n)

each_choice : (P : Choice → Type 0) (qs : List RequestParts) → Each P (choices_for qs)
    → Each (λ (q : RequestParts). P (choice_by q.ask q.id)) qs
each_choice P [] h = tt
each_choice P (q ∷ qs) h = (h.0, each_choice P qs h.1)

-- no choice of a network without sites is enabled, where nothing is under way
module _ (c : CodeParts) (net : Net) (none : length net.sites ≡ 0) where
  no_site_there : (i : ℕ) (s : Site) → slice_get net.sites i ≡ Some s → ⊥
  no_site_there i s e = let within = slice_get_within net.sites i s e in omega arith

  nothing_allowed : net.packets ≡ [] → (x : Choice) → Allows c net x → ⊥
  nothing_allowed e (choice.React i q) h = no_site_there i h.by.site h.by.site_is
  nothing_allowed e (choice.Deliver f) h =
      let clash : None ≡ Some h.packet = sym (ap (λ ps. slice_get ps f) e) ∙ h.packet_is in
      cc
  nothing_allowed e (choice.Move a) h = no_site_there h.asks.number h.asks.site h.asks.site_is
  nothing_allowed e (choice.Halt a) h = no_site_there h.asks.number h.asks.site h.asks.site_is
  nothing_allowed e (choice.Detect a) h = no_site_there h.asks.number h.asks.site h.asks.site_is

module _ (p : ProgramTerms) (c : CodeParts) (ok : IsProgram p) (kept : IsCode c)
    (is : IsCodeOf p c) where
  abbrev Fine : Net → Type 0
  Fine net = IsFine p c net

  abbrev NoneAllowed : Net → Type 0
  NoneAllowed net = (x : Choice) → Allows c net x → ⊥

  -- ---- a round without an event that leaves nothing under way

  nothing_ready : (net : Net) (i : ℕ) (q : Pick) → Fine net → ReadyOpens c net i
      → ReadyOpensNone c net i → MayReact c net i q → ⊥
  nothing_ready net i q fine opens opens_none m = go (some_ready c net.tree m.by.site kept)
    where
      go : ((r : Pick) × IsReady c net.tree m.by.site r) ⊎ NoneFires c net.tree m.by.site → ⊥
      go (inl ready) =
          let at : IsReadyAt c net i ready.0 =
          record { site = m.by.site; site_is = m.by.site_is; ready = ready.1 } in
          let some = opens ready.0 at in
          let none = opens_none ready.0 at in
          omega arith
      go (inr none) = none_reacts p c ok kept is net fine i m.by.site q m.by.site_is none m

  some_share : (budget sites : ℕ) → 0 < sites → sites ≤ budget → 0 < min 64 (budget / sites)
  some_share budget sites some many =
      let one : 1 ≤ budget / sites =
      (le-div_iff_mul-le {k = sites} {x = 1} {y = budget} some).1 (omega arith) in
      omega arith

  round_quiet : (budget : ℕ) (net new : Net) (es : List Event) → Fine net
      → length net.sites ≤ budget → IsRound c budget net es new → es ≡ [] → new.packets ≡ []
      → NoneAllowed new
  round_quiet budget net new es fine many r e empty = go (none_or_some (length net.sites))
    where
      none_or_some : (k : ℕ) → (k ≡ 0) ⊎ (0 < k)
      none_or_some k = grind arith

      all : (r.worked ≡ []) × (r.opened ++ r.asked ≡ [])
      all = both_empty r.worked (r.opened ++ r.asked) (sym r.events ∙ e)

      later : (r.opened ≡ []) × (r.asked ≡ [])
      later = both_empty r.opened r.asked all.1

      met : new ≡ r.after_opening
      met = nothing_made p c ok kept is (Meets c) (Forbids c)
          (budget - length r.worked - length r.opened) (asks r.after_opening) r.after_opening new
          r.asked r.meets later.1

      still : r.after_opening ≡ r.after_work
      still = nothing_made p c ok kept is (Opens c) (ReadyOpensNone c) (budget - length r.worked)
          (numbers net) r.after_work r.after_opening r.opened r.opens later.0

      count : length r.after_work.sites ≡ length net.sites
      count = turns_length c (min 64 (budget / length net.sites)) (numbers net) (length net.packets)
          net r.after_work r.worked r.turns all.0

      same : r.after_work ≡ new
      same = sym (met ∙ still)

      counts : length new.sites ≡ length net.sites
      counts = subst (λ (w : Net). length w.sites ≡ length net.sites) same count

      no_events : (length r.worked ≡ 0) × (length r.opened ≡ 0)
      no_events = (ap length all.0, ap length later.0)

      at_sites : 0 < length net.sites → NoneAllowed new
      at_sites some =
          let zero_events = no_events in
          let turned =
          turns_open c (min 64 (budget / length net.sites)) (numbers net) (length net.packets) net
          r.after_work r.worked (some_share budget (length net.sites) some many)
          (distinct_range c 0 (length net.sites)) r.turns all.0 in
          let turned_new : Each (λ (i : ℕ). ReadyOpens c new i) (numbers net) =
          subst (λ (w : Net). Each (λ (i : ℕ). ReadyOpens c w i) (numbers net)) same turned in
          let passed = all_passed c (Opens c) (ReadyOpensNone c) (budget - length r.worked)
          (numbers net) r.after_work r.after_opening r.opened
          (left_first (length r.worked) budget (length net.sites) zero_events.0 some many)
          r.opens later.0 in
          let passed_new : Each (λ (i : ℕ). ReadyOpensNone c new i) (numbers net) =
          subst (λ (w : Net). Each (λ (i : ℕ). ReadyOpensNone c w i) (numbers net)) same passed in
          let forbidden = all_passed c (Meets c) (Forbids c)
          (budget - length r.worked - length r.opened) (asks r.after_opening) r.after_opening new
          r.asked (left_second (length r.worked) (length r.opened) budget (length net.sites)
          zero_events.0 zero_events.1 some many) r.meets later.1 in
          let forbidden_new : Each (λ (x : Choice). Forbids c new x) (asks new) =
          subst (λ (w : Net). Each (λ (x : Choice). Forbids c w x) (asks w)) (sym met) forbidden in
          let fine_new = round_fine p c ok kept is budget net new es fine r in
          none_allowed p c ok kept is new fine_new empty
          (λ i q less m.
          let low : i < 0 + length net.sites = let k = counts in omega arith in
          nothing_ready new i q fine_new
          (each_in_range (λ (j : ℕ). ReadyOpens c new j) 0 (length net.sites) i turned_new
          (omega arith) low)
          (each_in_range (λ (j : ℕ). ReadyOpensNone c new j) 0 (length net.sites) i passed_new
          (omega arith) low)
          m)
          (each_choice (λ (x : Choice). Forbids c new x) (requests_of new.sites) forbidden_new)
        where
          left_first : (w b s : ℕ) → w ≡ 0 → 0 < s → s ≤ b → 0 < b - w
          left_first w b s e f g = omega arith

          left_second : (w o b s : ℕ) → w ≡ 0 → o ≡ 0 → 0 < s → s ≤ b → 0 < b - w - o
          left_second w o b s e f g h = omega arith

      go : (length net.sites ≡ 0) ⊎ (0 < length net.sites) → NoneAllowed new
      go (inl zero_sites) = nothing_allowed c new (counts ∙ zero_sites) empty
      go (inr some) = at_sites some

  -- ---- the end

  goes_within : (budget : ℕ) (net new : Net) (es : List Event) → GoesOn c budget net es new
      → length es ≤ budget
  goes_within budget net new es (all_spent _) = omega arith
  goes_within budget net new es (none_enabled _ _ h) = omega arith
  goes_within budget net new es (commits _ _ mid _ x e more some first h rest) =
      let less = goes_within (budget - 1) mid new more rest in
      omega arith
  goes_within budget net new es (carries _ _ mid _ x _ some first h rest) =
      goes_within budget mid new es rest

  goes_end : (budget : ℕ) (net new : Net) (es : List Event) → GoesOn c budget net es new
      → (length es ≡ budget) ⊎ NoneAllowed new
  goes_end budget net new es (all_spent _) = inl refl
  goes_end budget net new es (none_enabled _ _ h) = inr h
  goes_end budget net new es (commits _ _ mid _ x e more some first h rest) =
      go (goes_end (budget - 1) mid new more rest)
    where
      go : (length more ≡ budget - 1) ⊎ NoneAllowed new
          → (length (e ∷ more) ≡ budget) ⊎ NoneAllowed new
      go (inl same) = inl (omega arith)
      go (inr none) = inr none
  goes_end budget net new es (carries _ _ mid _ x _ some first h rest) =
      goes_end budget mid new es rest

  rounds_within : (budget : ℕ) (net new : Net) (es : List Event) → AreRounds c budget net es new
      → length es ≤ budget
  rounds_within budget net new es (few_left _ _ _ _ few goes) = goes_within budget net new es goes
  rounds_within budget net new es (last_round _ _ _ many round empty) = omega arith
  rounds_within budget net new es (one_round _ _ mid _ first more many round some rest) =
      let one = round_within p c ok kept is budget net mid first round in
      let later = rounds_within (budget - length first) mid new more rest in
      omega (arith, length-append first more)

  pub rounds_end : (budget : ℕ) (net new : Net) (es : List Event) → Fine net
      → AreRounds c budget net es new → (length es ≡ budget) ⊎ NoneAllowed new
  rounds_end budget net new es fine (few_left _ _ _ _ few goes) = goes_end budget net new es goes
  rounds_end budget net new es fine (last_round _ _ _ many round empty) =
      inr (round_quiet budget net new [] fine many round refl empty)
  rounds_end budget net new es fine (one_round _ _ mid _ first more many round some rest) =
      go (rounds_end (budget - length first) mid new more
      (round_fine p c ok kept is budget net mid first fine round) rest)
    where
      go : (length more ≡ budget - length first) ⊎ NoneAllowed new
          → (length (first ++ more) ≡ budget) ⊎ NoneAllowed new
      go (inl same) =
          let one = round_within p c ok kept is budget net mid first round in
          inl (omega (arith, length-append first more))
      go (inr none) = inr none

  pub not_enabled : (net : Net) → NoneAllowed net → IsEnabled c net → ⊥
  not_enabled net none (react i j k by fronts) =
      none (choice.React i (record { group = j; guard = k })) (record { by = by; fronts = fronts })
  not_enabled net none (deliver f q e) =
      none (choice.Deliver f) (record { packet = q; packet_is = e })
  not_enabled net none (move a h) = none (choice.Move a) h
  not_enabled net none (halt a h) = none (choice.Halt a) h
  not_enabled net none (detect a h) = none (choice.Detect a) h

pub rounds_replay : RoundsReplay
rounds_replay p c ok kept is budget es end schedule =
    let does = rounds_do c budget (opened_net p.version c) end es schedule in
    let played = (opened_play p c ok kept is end es does).0 in
    record {
      does = does;
      played = played;
      within = rounds_within p c ok kept is budget (opened_net p.version c) end es schedule;
      ends =
          elim (rounds_end p c ok kept is budget (opened_net p.version c) end es
          (opened_fine p c ok kept is) schedule) [
            | inl full ↦ inl full
            | inr none ↦ inr
                ((none_enabled_is_quiet p c ok kept is end played.after played.stands played.runs).0
                (not_enabled p c ok kept is end none))
          ];
    }
