-- From each network and each budget there is at most one schedule of rounds.
use Rattle.std.proofs.Common.{◌≡◌, ℕ, ◌-◌, ◌/◌, List, [], ◌∷◌, ◌++◌, length, Option, Some, None}
use Rattle.std.proofs.Common.{refl, sym, ap, ◌∙◌, subst, arith, slice_get}
use Rattle.std.specs.Prelude.{take, min}
use Rattle.chem_model.specs.declared.event.Event.{Event}
use Rattle.chem_model.specs.ProgramFacts.{ProgramTerms, IsProgram}
use Rattle.chem_model.specs.Opening.{opening}
use Rattle.env_store.specs.CodeParts.{CodeParts}
use Rattle.env_store.specs.CodeFacts.{IsCode}
use Rattle.env_store.specs.Reading.{IsCodeOf}
use Rattle.reducer.specs.declared.pick.Pick.{Pick}
use Rattle.reducer.specs.Ready.{IsReady}
use Rattle.net_laws.specs.Site.{Site}
use Rattle.net_laws.specs.Net.{Net}
use Rattle.net_laws.specs.Opened.{opened_net}
use Rattle.net_laws.proofs.Opened.{opened_stands}
use Rattle.net_core.specs.declared.choice.Choice.{Choice}
use Rattle.net_core.specs.declared.choice.Choice.TheVariants as choice
use Rattle.net_core.specs.Acting.{Reacts, Delivers}
use Rattle.net_core.specs.Choosing.{Allows, IsNext}
use Rattle.net_core.specs.Acts.{Acts}
use Rattle.net_core.specs.Acts as acts
use Rattle.net_core.specs.Asking.{asks}
use Rattle.net_core.specs.Scheduling.{first_to, Collects, all_in, brings, IsReadyAt, ReadyOpensNone}
use Rattle.net_core.specs.Scheduling.{ReactsUpTo, used_up, rests, reacts, IsTurn, AreTurns, no_site}
use Rattle.net_core.specs.Scheduling.{a_site, InTurn, spent, no_more, passes, makes, Opens, Meets}
use Rattle.net_core.specs.Scheduling.{Forbids, numbers, IsRound, GoesOn, all_spent, none_enabled}
use Rattle.net_core.specs.Scheduling.{commits, carries, AreRounds, few_left, last_round, one_round}
use Rattle.net_core.specs.Scheduling.{SchedulesOfRoundsAreOne}
use Rattle.net_core.proofs.OneAnswer.{one_of}
use Rattle.net_core.proofs.Picking.{ready_one, IsFine, acts_fine, acts_one, acts_allowed}
use Rattle.net_core.proofs.Picking.{next_allowed, next_one}

module _ (p : ProgramTerms) (c : CodeParts) (ok : IsProgram p) (kept : IsCode c)
    (is : IsCodeOf p c) where
  abbrev Fine : Net → Type 0
  Fine net = IsFine p c net

  -- ---- a turn

  pub brought : (net mid : Net) (f : ℕ) → Fine net → Delivers net f mid → Fine mid
  brought net mid f fine h =
      acts_fine p c ok kept is net mid (choice.Deliver f) None fine (acts.deliver f mid h)

  pub reacted : (net mid : Net) (i : ℕ) (q : Pick) (e : Event) → Fine net
      → Reacts c net i q.group q.guard e mid → Fine mid
  reacted net mid i q e fine h =
      acts_fine p c ok kept is net mid (choice.React i q) (Some e) fine (acts.react i q e mid h)

  pub collects_fine : (i old left : ℕ) (net new : Net) → Fine net → Collects i old net left new
      → Fine new
  collects_fine i old left net new fine (all_in _ _ e) = fine
  collects_fine i old left net new fine (brings _ _ f _ mid _ e h rest) =
      collects_fine i (old - 1) left mid new (brought net mid f fine h) rest

  collects_one : (i old left other : ℕ) (net new last : Net) → Fine net
      → Collects i old net left new → Collects i old net other last → (left ≡ other) × (new ≡ last)
  collects_one i old left other net new last fine (all_in _ _ e) (all_in _ _ d) = (refl, refl)
  collects_one i old left other net new last fine (all_in _ _ e) (brings _ _ f _ mid _ d h rest) =
      let clash : None ≡ Some f = sym e ∙ d in
      cc
  collects_one i old left other net new last fine (brings _ _ f _ mid _ d h rest) (all_in _ _ e) =
      let clash : None ≡ Some f = sym e ∙ d in
      cc
  collects_one i old left other net new last fine (brings _ _ f _ mid _ e h rest)
      (brings _ _ g _ mid2 _ d k rest2) =
      let places : g ≡ f = one_of (first_to i (take old net.packets)) g f d e in
      let same = acts_one p c net fine (choice.Deliver f) None None mid mid2 (acts.deliver f mid h)
      (acts.deliver f mid2 (subst (λ (j : ℕ). Delivers net j mid2) places k)) in
      collects_one i (old - 1) left other mid new last (brought net mid f fine h) rest
      (subst (λ (w : Net). Collects i (old - 1) w other last) (sym same.1) rest2)

  pub ready_at_one : (net : Net) (i : ℕ) (q r : Pick) → IsReadyAt c net i q → IsReadyAt c net i r
      → q ≡ r
  ready_at_one net i q r a b =
      let site : a.site ≡ b.site =
      one_of (slice_get net.sites i) a.site b.site a.site_is b.site_is in
      ready_one c net.tree b.site q r (subst (λ (s : Site). IsReady c net.tree s q) site a.ready)
      b.ready

  -- a reaction that is ready does one thing
  ready_reacts_one : (net mid mid2 : Net) (i : ℕ) (q r : Pick) (e d : Event) → Fine net
      → IsReadyAt c net i q → IsReadyAt c net i r → Reacts c net i q.group q.guard e mid
      → Reacts c net i r.group r.guard d mid2 → (e ≡ d) × (mid ≡ mid2)
  ready_reacts_one net mid mid2 i q r e d fine a b h k =
      let picks : r ≡ q = ready_at_one net i r q b a in
      let same = acts_one p c net fine (choice.React i q) (Some e) (Some d) mid mid2
      (acts.react i q e mid h) (acts.react i q d mid2
      (subst (λ (x : Pick). Reacts c net i x.group x.guard d mid2) picks k)) in
      let events = same.0 in
      (cc, same.1)

  pub reacts_fine : (i quota : ℕ) (net new : Net) (es : List Event) → Fine net
      → ReactsUpTo c i quota net es new → Fine new
  reacts_fine i quota net new es fine (used_up _) = fine
  reacts_fine i quota net new es fine (rests _ _ h) = fine
  reacts_fine i quota net new es fine (reacts _ _ mid _ q e more some ready none h rest) =
      reacts_fine i (quota - 1) mid new more (reacted net mid i q e fine h) rest

  reacts_up_one : (i quota : ℕ) (net new last : Net) (es ds : List Event) → Fine net
      → ReactsUpTo c i quota net es new → ReactsUpTo c i quota net ds last
      → (es ≡ ds) × (new ≡ last)
  reacts_up_one i quota net new last es ds fine (used_up _) (used_up _) = (refl, refl)
  reacts_up_one i quota net new last es ds fine (used_up _) (rests _ _ h) = (refl, refl)
  reacts_up_one i quota net new last es ds fine (used_up _)
      (reacts _ _ mid _ q e more some ready none h rest) = absurd (omega arith)
  reacts_up_one i quota net new last es ds fine (rests _ _ h) (used_up _) = (refl, refl)
  reacts_up_one i quota net new last es ds fine (rests _ _ h) (rests _ _ k) = (refl, refl)
  reacts_up_one i quota net new last es ds fine (rests _ _ h)
      (reacts _ _ mid _ q e more some ready none k rest) =
      let births = h q ready in
      absurd (omega arith)
  reacts_up_one i quota net new last es ds fine (reacts _ _ mid _ q e more some ready none k rest)
      (used_up _) = absurd (omega arith)
  reacts_up_one i quota net new last es ds fine (reacts _ _ mid _ q e more some ready none k rest)
      (rests _ _ h) =
      let births = h q ready in
      absurd (omega arith)
  reacts_up_one i quota net new last es ds fine (reacts _ _ mid _ q e more some ready none h rest)
      (reacts _ _ mid2 _ r d more2 some2 ready2 none2 k rest2) =
      let same = ready_reacts_one net mid mid2 i q r e d fine ready ready2 h k in
      let later = reacts_up_one i (quota - 1) mid new last more more2 (reacted net mid i q e fine h)
      rest (subst (λ (w : Net). ReactsUpTo c i (quota - 1) w more2 last) (sym same.1) rest2) in
      (λ t. same.0 t ∷ later.0 t, later.1)

  pub turn_fine : (quota i old left : ℕ) (net new : Net) (es : List Event) → Fine net
      → IsTurn c quota i old net left es new → Fine new
  turn_fine quota i old left net new es fine a =
      reacts_fine i quota a.mid new es (collects_fine i old left net a.mid fine a.collects) a.reacts

  turn_one : (quota i old left other : ℕ) (net new last : Net) (es ds : List Event) → Fine net
      → IsTurn c quota i old net left es new → IsTurn c quota i old net other ds last
      → (left ≡ other) × (es ≡ ds) × (new ≡ last)
  turn_one quota i old left other net new last es ds fine a b =
      let mail = collects_one i old left other net a.mid b.mid fine a.collects b.collects in
      let then = reacts_up_one i quota a.mid new last es ds
      (collects_fine i old left net a.mid fine a.collects)
      a.reacts (subst (λ (w : Net). ReactsUpTo c i quota w ds last) (sym mail.1) b.reacts) in
      (mail.0, then.0, then.1)

  pub turns_fine : (quota : ℕ) (sites : List ℕ) (old : ℕ) (net new : Net) (es : List Event)
      → Fine net → AreTurns c quota sites old net es new → Fine new
  turns_fine quota sites old net new es fine (no_site _ _) = fine
  turns_fine quota sites old net new es fine (a_site i others _ left _ mid _ first more turn rest) =
      turns_fine quota others left mid new more (turn_fine quota i old left net mid first fine turn)
      rest

  turns_one : (quota : ℕ) (sites : List ℕ) (old : ℕ) (net new last : Net) (es ds : List Event)
      → Fine net → AreTurns c quota sites old net es new → AreTurns c quota sites old net ds last
      → (es ≡ ds) × (new ≡ last)
  turns_one quota sites old net new last es ds fine (no_site _ _) (no_site _ _) = (refl, refl)
  turns_one quota sites old net new last es ds fine
      (a_site i others _ left _ mid _ first more turn rest)
      (a_site _ _ _ left2 _ mid2 _ first2 more2 turn2 rest2) =
      let same = turn_one quota i old left left2 net mid mid2 first first2 fine turn turn2 in
      let moved : AreTurns c quota others left mid more2 last =
      subst (λ (k : ℕ). AreTurns c quota others k mid more2 last) (sym same.0)
      (subst (λ (w : Net). AreTurns c quota others left2 w more2 last) (sym same.2) rest2) in
      let later = turns_one quota others left mid new last more more2
      (turn_fine quota i old left net mid first fine turn) rest moved in
      (λ t. same.1 t ++ later.0 t, later.1)

  -- ---- what comes after the turns

  module _ {X : Type 0} (Makes : Net → X → Event → Net → Type 0) (Passes : Net → X → Type 0)
      (keeps : (net mid : Net) (x : X) (e : Event) → Fine net → Makes net x e mid → Fine mid)
      (one : (net mid mid2 : Net) (x : X) (e d : Event) → Fine net → Makes net x e mid
      → Makes net x d mid2 → (e ≡ d) × (mid ≡ mid2))
      (not_both : (net mid : Net) (x : X) (e : Event) → Fine net → Passes net x → Makes net x e mid
      → ⊥) where
    pub in_turn_fine : (left : ℕ) (xs : List X) (net new : Net) (es : List Event) → Fine net
        → InTurn Makes Passes left xs net es new → Fine new
    in_turn_fine left xs net new es fine (spent _ _) = fine
    in_turn_fine left xs net new es fine (no_more _ _) = fine
    in_turn_fine left xs net new es fine (passes _ x others _ _ _ some h rest) =
        in_turn_fine left others net new es fine rest
    in_turn_fine left xs net new es fine (makes _ x others _ mid _ e more some h rest) =
        in_turn_fine (left - 1) others mid new more (keeps net mid x e fine h) rest

    in_turn_one : (left : ℕ) (xs : List X) (net new last : Net) (es ds : List Event) → Fine net
        → InTurn Makes Passes left xs net es new → InTurn Makes Passes left xs net ds last
        → (es ≡ ds) × (new ≡ last)
    in_turn_one left xs net new last es ds fine (spent _ _) (spent _ _) = (refl, refl)
    in_turn_one left xs net new last es ds fine (spent _ _) (no_more _ _) = (refl, refl)
    in_turn_one left xs net new last es ds fine (spent _ _) (passes _ x others _ _ _ some h rest) =
        absurd (omega arith)
    in_turn_one left xs net new last es ds fine (spent _ _)
        (makes _ x others _ mid _ e more some h rest) = absurd (omega arith)
    in_turn_one left xs net new last es ds fine (no_more _ _) (spent _ _) = (refl, refl)
    in_turn_one left xs net new last es ds fine (no_more _ _) (no_more _ _) = (refl, refl)
    in_turn_one left xs net new last es ds fine (passes _ x others _ _ _ some h rest) (spent _ _) =
        absurd (omega arith)
    in_turn_one left xs net new last es ds fine (passes _ x others _ _ _ some h rest)
        (passes _ _ _ _ _ _ some2 k rest2) =
        in_turn_one left others net new last es ds fine rest rest2
    in_turn_one left xs net new last es ds fine (passes _ x others _ _ _ some h rest)
        (makes _ _ _ _ mid _ e more some2 k rest2) = absurd (not_both net mid x e fine h k)
    in_turn_one left xs net new last es ds fine (makes _ x others _ mid _ e more some h rest)
        (spent _ _) = absurd (omega arith)
    in_turn_one left xs net new last es ds fine (makes _ x others _ mid _ e more some h rest)
        (passes _ _ _ _ _ _ some2 k rest2) = absurd (not_both net mid x e fine k h)
    in_turn_one left xs net new last es ds fine (makes _ x others _ mid _ e more some h rest)
        (makes _ _ _ _ mid2 _ d more2 some2 k rest2) =
        let same = one net mid mid2 x e d fine h k in
        let later = in_turn_one (left - 1) others mid new last more more2 (keeps net mid x e fine h)
        rest (subst (λ (w : Net). InTurn Makes Passes (left - 1) others w more2 last) (sym same.1)
        rest2) in
        (λ t. same.0 t ∷ later.0 t, later.1)

  pub opens_keeps : (net mid : Net) (i : ℕ) (e : Event) → Fine net → Opens c net i e mid → Fine mid
  opens_keeps net mid i e fine h = reacted net mid i h.pick e fine h.reacts

  pub opens_one : (net mid mid2 : Net) (i : ℕ) (e d : Event) → Fine net → Opens c net i e mid
      → Opens c net i d mid2 → (e ≡ d) × (mid ≡ mid2)
  opens_one net mid mid2 i e d fine h k =
      ready_reacts_one net mid mid2 i h.pick k.pick e d fine h.ready k.ready h.reacts k.reacts

  pub opens_not : (net mid : Net) (i : ℕ) (e : Event) → Fine net → ReadyOpensNone c net i
      → Opens c net i e mid → ⊥
  opens_not net mid i e fine none h =
      let some = h.some in
      let births = none h.pick h.ready in
      omega arith

  pub meets_keeps : (net mid : Net) (x : Choice) (e : Event) → Fine net → Meets c net x e mid
      → Fine mid
  meets_keeps net mid x e fine h = acts_fine p c ok kept is net mid x (Some e) fine h

  pub meets_same : (net mid mid2 : Net) (x : Choice) (e d : Event) → Fine net → Meets c net x e mid
      → Meets c net x d mid2 → (e ≡ d) × (mid ≡ mid2)
  meets_same net mid mid2 x e d fine h k =
      let same = acts_one p c net fine x (Some e) (Some d) mid mid2 h k in
      let events = same.0 in
      (cc, same.1)

  pub meets_not : (net mid : Net) (x : Choice) (e : Event) → Fine net → Forbids c net x
      → Meets c net x e mid → ⊥
  meets_not net mid x e fine not h = not (acts_allowed c net mid x (Some e) h)

  -- ---- a round

  pub after_work_fine :
      (budget : ℕ) (net new : Net) (es : List Event) (r : IsRound c budget net es new) → Fine net
      → Fine r.after_work
  after_work_fine budget net new es r fine = turns_fine (min 64 (budget / length net.sites))
      (numbers net) (length net.packets) net r.after_work r.worked fine r.turns

  pub after_opening_fine :
      (budget : ℕ) (net new : Net) (es : List Event) (r : IsRound c budget net es new) → Fine net
      → Fine r.after_opening
  after_opening_fine budget net new es r fine =
      in_turn_fine (Opens c) (ReadyOpensNone c) opens_keeps opens_one opens_not
      (budget - length r.worked) (numbers net)
      r.after_work r.after_opening r.opened (after_work_fine budget net new es r fine) r.opens

  pub round_fine : (budget : ℕ) (net new : Net) (es : List Event) → Fine net
      → IsRound c budget net es new → Fine new
  round_fine budget net new es fine r =
      in_turn_fine (Meets c) (Forbids c) meets_keeps meets_same meets_not
      (budget - length r.worked - length r.opened) (asks r.after_opening) r.after_opening new
      r.asked (after_opening_fine budget net new es r fine) r.meets

  round_only : (budget : ℕ) (net new last : Net) (es ds : List Event) → Fine net
      → IsRound c budget net es new → IsRound c budget net ds last → (es ≡ ds) × (new ≡ last)
  round_only budget net new last es ds fine r s =
      let work = turns_one (min 64 (budget / length net.sites)) (numbers net) (length net.packets)
      net r.after_work s.after_work r.worked s.worked fine r.turns s.turns in
      let opens : InTurn (Opens c) (ReadyOpensNone c) (budget - length r.worked) (numbers net)
      r.after_work s.opened s.after_opening =
      subst (λ (w : Net). InTurn (Opens c) (ReadyOpensNone c) (budget - length r.worked)
      (numbers net) w s.opened s.after_opening) (sym work.1)
      (subst (λ (xs : List Event). InTurn (Opens c) (ReadyOpensNone c) (budget - length xs)
      (numbers net) s.after_work s.opened s.after_opening) (sym work.0) s.opens) in
      let opened = in_turn_one (Opens c) (ReadyOpensNone c) opens_keeps opens_one opens_not
      (budget - length r.worked) (numbers net) r.after_work r.after_opening s.after_opening r.opened
      s.opened (after_work_fine budget net new es r fine) r.opens opens in
      let meets : InTurn (Meets c) (Forbids c) (budget - length r.worked - length r.opened)
      (asks r.after_opening) r.after_opening s.asked last =
      subst (λ (w : Net). InTurn (Meets c) (Forbids c) (budget - length r.worked - length r.opened)
      (asks w) w s.asked last) (sym opened.1)
      (subst (λ (xs : List Event). InTurn (Meets c) (Forbids c)
      (budget - length r.worked - length xs) (asks s.after_opening) s.after_opening s.asked last)
      (sym opened.0)
      (subst (λ (xs : List Event). InTurn (Meets c) (Forbids c)
      (budget - length xs - length s.opened) (asks s.after_opening) s.after_opening s.asked last)
      (sym work.0) s.meets)) in
      let asked = in_turn_one (Meets c) (Forbids c) meets_keeps meets_same meets_not
      (budget - length r.worked - length r.opened) (asks r.after_opening) r.after_opening new last
      r.asked s.asked (after_opening_fine budget net new es r fine) r.meets meets in
      (r.events ∙ (λ t. work.0 t ++ (opened.0 t ++ asked.0 t)) ∙ sym s.events, asked.1)

  -- ---- a run in rounds

  -- what comes next does one thing
  next_acts_one : (net mid mid2 : Net) (x y : Choice) (o u : Option Event) → Fine net
      → IsNext c net x → IsNext c net y → Acts c net x o mid → Acts c net y u mid2
      → (o ≡ u) × (mid ≡ mid2)
  next_acts_one net mid mid2 x y o u fine a b h k =
      let same = next_one p c net fine kept y x b a in
      acts_one p c net fine x o u mid mid2 h (subst (λ (z : Choice). Acts c net z u mid2) same k)

  none_next : (net : Net) (x : Choice) → ((y : Choice) → Allows c net y → ⊥) → Fine net
      → IsNext c net x → ⊥
  none_next net x none fine first = none x (next_allowed p c net fine kept x first)

  goes_one : (budget : ℕ) (net new last : Net) (es ds : List Event) → Fine net
      → GoesOn c budget net es new → GoesOn c budget net ds last → (es ≡ ds) × (new ≡ last)
  goes_one budget net new last es ds fine (all_spent _) (all_spent _) = (refl, refl)
  goes_one budget net new last es ds fine (all_spent _) (none_enabled _ _ h) = (refl, refl)
  goes_one budget net new last es ds fine (all_spent _)
      (commits _ _ mid _ x e more some first acts rest) = absurd (omega arith)
  goes_one budget net new last es ds fine (all_spent _)
      (carries _ _ mid _ x _ some first acts rest) = absurd (omega arith)
  goes_one budget net new last es ds fine (none_enabled _ _ h) (all_spent _) = (refl, refl)
  goes_one budget net new last es ds fine (none_enabled _ _ h) (none_enabled _ _ k) = (refl, refl)
  goes_one budget net new last es ds fine (none_enabled _ _ h)
      (commits _ _ mid _ x e more some first acts rest) = absurd (none_next net x h fine first)
  goes_one budget net new last es ds fine (none_enabled _ _ h)
      (carries _ _ mid _ x _ some first acts rest) = absurd (none_next net x h fine first)
  goes_one budget net new last es ds fine (commits _ _ mid _ x e more some first acts rest)
      (all_spent _) = absurd (omega arith)
  goes_one budget net new last es ds fine (commits _ _ mid _ x e more some first acts rest)
      (none_enabled _ _ h) = absurd (none_next net x h fine first)
  goes_one budget net new last es ds fine (commits _ _ mid _ x e more some first acts rest)
      (commits _ _ mid2 _ y d more2 some2 first2 acts2 rest2) =
      let same = next_acts_one net mid mid2 x y (Some e) (Some d) fine first first2 acts acts2 in
      let events = same.0 in
      let event : e ≡ d = cc in
      let later = goes_one (budget - 1) mid new last more more2
      (acts_fine p c ok kept is net mid x (Some e) fine acts) rest
      (subst (λ (w : Net). GoesOn c (budget - 1) w more2 last) (sym same.1) rest2) in
      (λ t. event t ∷ later.0 t, later.1)
  goes_one budget net new last es ds fine (commits _ _ mid _ x e more some first acts rest)
      (carries _ _ mid2 _ y _ some2 first2 acts2 rest2) =
      let same = next_acts_one net mid mid2 x y (Some e) None fine first first2 acts acts2 in
      let events = same.0 in
      cc
  goes_one budget net new last es ds fine (carries _ _ mid _ x _ some first acts rest)
      (all_spent _) = absurd (omega arith)
  goes_one budget net new last es ds fine (carries _ _ mid _ x _ some first acts rest)
      (none_enabled _ _ h) = absurd (none_next net x h fine first)
  goes_one budget net new last es ds fine (carries _ _ mid _ x _ some first acts rest)
      (commits _ _ mid2 _ y d more2 some2 first2 acts2 rest2) =
      let same = next_acts_one net mid mid2 x y None (Some d) fine first first2 acts acts2 in
      let events = same.0 in
      cc
  goes_one budget net new last es ds fine (carries _ _ mid _ x _ some first acts rest)
      (carries _ _ mid2 _ y _ some2 first2 acts2 rest2) =
      let same = next_acts_one net mid mid2 x y None None fine first first2 acts acts2 in
      goes_one budget mid new last es ds (acts_fine p c ok kept is net mid x None fine acts) rest
      (subst (λ (w : Net). GoesOn c budget w ds last) (sym same.1) rest2)

  -- ---- rounds, one after another

  joined : (es ds more others : List Event) → es ≡ ds → more ≡ others → es ++ more ≡ ds ++ others
  joined es ds more others e f = λ t. e t ++ f t

  rounds_one : (budget : ℕ) (net new last : Net) (es ds : List Event) → Fine net
      → AreRounds c budget net es new → AreRounds c budget net ds last → (es ≡ ds) × (new ≡ last)
  rounds_one budget net new last es ds fine (few_left _ _ _ _ few goes)
      (few_left _ _ _ _ few2 goes2) = goes_one budget net new last es ds fine goes goes2
  rounds_one budget net new last es ds fine (few_left _ _ _ _ few goes)
      (last_round _ _ _ many round empty) = absurd (omega arith)
  rounds_one budget net new last es ds fine (few_left _ _ _ _ few goes)
      (one_round _ _ mid _ first more many round some rest) = absurd (omega arith)
  rounds_one budget net new last es ds fine (last_round _ _ _ many round empty)
      (few_left _ _ _ _ few goes) = absurd (omega arith)
  rounds_one budget net new last es ds fine (last_round _ _ _ many round empty)
      (last_round _ _ _ many2 round2 empty2) =
      (refl, (round_only budget net new last [] [] fine round round2).1)
  rounds_one budget net new last es ds fine (last_round _ _ _ many round empty)
      (one_round _ _ mid _ first more many2 round2 some rest) =
      let same = round_only budget net new mid [] first fine round round2 in
      absurd (some (sym same.0) (ap (λ (w : Net). w.packets) (sym same.1) ∙ empty))
  rounds_one budget net new last es ds fine (one_round _ _ mid _ first more many round some rest)
      (few_left _ _ _ _ few goes) = absurd (omega arith)
  rounds_one budget net new last es ds fine (one_round _ _ mid _ first more many round some rest)
      (last_round _ _ _ many2 round2 empty) =
      let same = round_only budget net last mid [] first fine round2 round in
      absurd (some (sym same.0) (ap (λ (w : Net). w.packets) (sym same.1) ∙ empty))
  rounds_one budget net new last es ds fine (one_round _ _ mid _ first more many round some rest)
      (one_round _ _ mid2 _ first2 more2 many2 round2 some2 rest2) =
      let same = round_only budget net mid mid2 first first2 fine round round2 in
      let moved : AreRounds c (budget - length first) mid more2 last =
      subst (λ (w : Net). AreRounds c (budget - length first) w more2 last) (sym same.1)
      (subst (λ (xs : List Event). AreRounds c (budget - length xs) mid2 more2 last) (sym same.0)
      rest2) in
      let later = rounds_one (budget - length first) mid new last more more2
      (round_fine budget net mid first fine round) rest moved in
      (joined first first2 more more2 same.0 later.0, later.1)

  pub opened_fine : Fine (opened_net p.version c)
  opened_fine =
      let opened = opened_stands p c ok kept is in
      record { solution = opening p; stands = opened.0; runs = opened.1 }

pub schedules_of_rounds_are_one : SchedulesOfRoundsAreOne
schedules_of_rounds_are_one p c ok kept is budget es other end last one two = rounds_one p c ok kept
    is budget (opened_net p.version c) end last es other (opened_fine p c ok kept is) one two
