-- From each network and each budget there is a schedule of rounds.
use Rattle.std.proofs.Common.{◌≡◌, ℕ, zero, suc, ◌+◌, ◌-◌, ◌*◌, ◌/◌, ◌<◌, ◌≤◌, List, [], ◌∷◌, ◌++◌}
use Rattle.std.proofs.Common.{length, Option, Some, None, Bool, true, false, cond, refl, sym, ap}
use Rattle.std.proofs.Common.{◌∙◌, subst, arith, slice_get, ◌⊎◌, inl, inr, ◌==◌, eq-eqb}
use Rattle.std.proofs.Common.{length-append}
use Rattle.std.specs.Prelude.{take, min}
use Rattle.std.specs.List.{range_with_len}
use Rattle.std.proofs.Math.Nat.{div-mul-le_self}
use Rattle.chem_model.specs.declared.event.AtomId.{AtomId}
use Rattle.chem_model.specs.declared.event.Event.{Event}
use Rattle.chem_model.specs.ProgramFacts.{ProgramTerms, IsProgram}
use Rattle.chem_model.specs.Each.{Each}
use Rattle.wire_packet.specs.GroupFacts.{RequestParts}
use Rattle.env_store.specs.CodeParts.{CodeParts}
use Rattle.env_store.specs.CodeFacts.{IsCode}
use Rattle.env_store.specs.Reading.{IsCodeOf}
use Rattle.env_store.specs.Laws.{rules_of_group}
use Rattle.net_laws.specs.Net.{Addressed, Net, IsOnItsWay}
use Rattle.net_laws.specs.Opened.{opened_net}
use Rattle.net_laws.proofs.Holds.{each_get}
use Rattle.net_core.specs.declared.choice.Choice.{Choice}
use Rattle.net_core.specs.Acting.{Delivers}
use Rattle.net_core.specs.Choosing.{Allows, request_of, IsNext}
use Rattle.net_core.specs.Acts.{Acts}
use Rattle.net_core.specs.Acts as acts
use Rattle.net_core.specs.Asking.{choices_for, requests_of, asks}
use Rattle.net_core.specs.Falling.{deliveries_left}
use Rattle.net_core.specs.Scheduling.{next_place, first_to, Collects, all_in, brings, ReadyOpens}
use Rattle.net_core.specs.Scheduling.{ReadyOpensNone, ReactsUpTo, used_up, rests, reacts, IsTurn}
use Rattle.net_core.specs.Scheduling.{AreTurns, no_site, a_site, InTurn, spent, no_more, passes}
use Rattle.net_core.specs.Scheduling.{makes, Opens, Meets, Forbids, numbers, IsRound, GoesOn}
use Rattle.net_core.specs.Scheduling.{all_spent, none_enabled, commits, carries, AreRounds}
use Rattle.net_core.specs.Scheduling.{few_left, last_round, one_round, HasOneScheduleOfRounds}
use Rattle.net_core.proofs.Falling.{deliveries_fall}
use Rattle.net_core.proofs.Existing.{choice_meets, makes_delivery, makes_meeting, makes_any}
use Rattle.net_core.proofs.Existing.{may_meet, some_next, may_open, IsPlain, may_react}
use Rattle.net_core.proofs.Picking.{IsFine, acts_fine, next_allowed}
use Rattle.net_core.proofs.Readiness.{Decides}
use Rattle.net_core.proofs.Scheduled.{brought, reacted, collects_fine, turn_fine, turns_fine}
use Rattle.net_core.proofs.Scheduled.{opens_keeps, opens_one, opens_not, meets_keeps, in_turn_fine}
use Rattle.net_core.proofs.Scheduled.{round_fine, opened_fine, schedules_of_rounds_are_one}

-- ---- lists

-- the place of the first message to a site is one of those under way
first_there : (i old : ℕ) (ps : List Addressed) (f : ℕ) → first_to i (take old ps) ≡ Some f
    → (q : Addressed) × (slice_get ps f ≡ Some q)
first_there i zero ps f e = let clash : None ≡ Some f = e in cc
first_there i (suc old) [] f e = let clash : None ≡ Some f = e in cc
first_there i (suc old) (q ∷ ps) f e = go (q.target == i) e (first_there i old ps)
  where
    later : (o : Option ℕ) → first_to i (take old ps) ≡ o → next_place o ≡ Some f
        → ((g : ℕ) → first_to i (take old ps) ≡ Some g
        → (r : Addressed) × (slice_get ps g ≡ Some r))
        → (r : Addressed) × (slice_get (q ∷ ps) f ≡ Some r)
    later None e h ih = let clash : None ≡ Some f = h in cc
    later (Some g) e h ih =
        let place : g + 1 ≡ f = cc in
        let next : suc g ≡ f = omega arith in
        let r = ih g e in
        (r.0, subst (λ (k : ℕ). slice_get (q ∷ ps) k ≡ Some r.0) next r.1)

    go : (b : Bool) → cond b (Some 0) (next_place (first_to i (take old ps))) ≡ Some f
        → ((g : ℕ) → first_to i (take old ps) ≡ Some g
        → (r : Addressed) × (slice_get ps g ≡ Some r))
        → (r : Addressed) × (slice_get (q ∷ ps) f ≡ Some r)
    go true h ih =
        let place : 0 ≡ f = cc in
        (q, subst (λ (k : ℕ). slice_get (q ∷ ps) k ≡ Some q) place refl)
    go false h ih = later (first_to i (take old ps)) refl h ih

pub each_in_range : (P : ℕ → Type 0) (k n i : ℕ) → Each P (range_with_len k n) → k ≤ i → i < k + n
    → P i
each_in_range P k zero i h le less = absurd (omega arith)
each_in_range P k (suc n) i h le less = elim (split k i le) [
  | inl same ↦ subst P same h.0
  | inr more ↦ each_in_range P (k + 1) n i h.1 (omega arith) (omega arith)
]
  where
    split : (k i : ℕ) → k ≤ i → (k ≡ i) ⊎ (k < i)
    split k i h = grind arith

pub length_range : (k n : ℕ) → length (range_with_len k n) ≡ n
length_range k zero = refl
length_range k (suc n) = ap suc (length_range (k + 1) n)

pub both_empty : {X : Type 0} (xs ys : List X) → xs ++ ys ≡ [] → (xs ≡ []) × (ys ≡ [])
both_empty [] ys e = (refl, e)
both_empty (x ∷ xs) ys e = cc

-- each choice of the list meets a request
abbrev MeetsOne : Choice → Type 0
MeetsOne x = (a : AtomId) × (request_of x ≡ Some a)

all_meet : (qs : List RequestParts) → Each MeetsOne (choices_for qs)
all_meet [] = tt
all_meet (q ∷ qs) = ((q.id, choice_meets q.ask q.id), all_meet qs)

module _ (p : ProgramTerms) (c : CodeParts) (ok : IsProgram p) (kept : IsCode c)
    (is : IsCodeOf p c) where
  abbrev Fine : Net → Type 0
  Fine net = IsFine p c net

  -- ---- what falls

  pub delivery_falls : (net mid : Net) (f : ℕ) → Fine net → Delivers net f mid
      → deliveries_left net ≡ deliveries_left mid + 1
  delivery_falls net mid f fine h = deliveries_fall (rules_of_group p) net mid fine.solution f
      fine.stands fine.runs.keeps.packets h

  pub carries_falls : (net mid : Net) (x : Choice) → Fine net → Acts c net x None mid
      → deliveries_left net ≡ deliveries_left mid + 1
  carries_falls net mid x fine (acts.deliver f _ h) = delivery_falls net mid f fine h

  -- either fewer deliveries are left, or nothing was done
  record IsIdle (i old left : ℕ) (net new : Net) : Type 0 where
    same_net : new ≡ net
    same_left : left ≡ old
    none : first_to i (take old net.packets) ≡ None

  collects_falls : (i old left : ℕ) (net new : Net) → Fine net → Collects i old net left new
      → (deliveries_left new < deliveries_left net) ⊎ IsIdle i old left net new
  collects_falls i old left net new fine (all_in _ _ e) =
      inr (record { same_net = refl; same_left = refl; none = e })
  collects_falls i old left net new fine (brings _ _ f _ mid _ e h rest) = inl
      (go (collects_falls i (old - 1) left mid new (brought p c ok kept is net mid f fine h) rest))
    where
      fall : deliveries_left net ≡ deliveries_left mid + 1
      fall = delivery_falls net mid f fine h

      go : (deliveries_left new < deliveries_left mid) ⊎ IsIdle i (old - 1) left mid new
          → deliveries_left new < deliveries_left net
      go (inl less) = let one = fall in omega arith
      go (inr idle) =
          let one = fall in
          let same : deliveries_left new ≡ deliveries_left mid = ap deliveries_left idle.same_net in
          omega arith

  no_reaction : (i quota : ℕ) (net new : Net) (es : List Event) → ReactsUpTo c i quota net es new
      → es ≡ [] → new ≡ net
  no_reaction i quota net new es (used_up _) e = refl
  no_reaction i quota net new es (rests _ _ h) e = refl
  no_reaction i quota net new es (reacts _ _ mid _ q d more some ready none h rest) e = cc

  turn_falls : (quota i old left : ℕ) (net new : Net) (es : List Event) → Fine net
      → IsTurn c quota i old net left es new → es ≡ []
      → (deliveries_left new < deliveries_left net) ⊎ IsIdle i old left net new
  turn_falls quota i old left net new es fine turn e =
      subst (λ (w : Net). (deliveries_left w < deliveries_left net) ⊎ IsIdle i old left net w)
      (sym (no_reaction i quota turn.mid new es turn.reacts e))
      (collects_falls i old left net turn.mid fine turn.collects)

  abbrev NoneTo : List ℕ → ℕ → Net → Type 0
  NoneTo sites old net = Each (λ (i : ℕ). first_to i (take old net.packets) ≡ None) sites

  turns_fall : (quota : ℕ) (sites : List ℕ) (old : ℕ) (net new : Net) (es : List Event) → Fine net
      → AreTurns c quota sites old net es new → es ≡ []
      → (deliveries_left new < deliveries_left net) ⊎ ((new ≡ net) × NoneTo sites old net)
  turns_fall quota sites old net new es fine (no_site _ _) e = inr (refl, tt)
  turns_fall quota sites old net new es fine (a_site i others _ left _ mid _ first more turn rest)
      e =
      let empty = both_empty first more e in
      go (turn_falls quota i old left net mid first fine turn empty.0) (turns_fall quota others left
      mid new more (turn_fine p c ok kept is quota i old left net mid first fine turn) rest empty.1)
    where
      go : (deliveries_left mid < deliveries_left net) ⊎ IsIdle i old left net mid
          → (deliveries_left new < deliveries_left mid) ⊎ ((new ≡ mid) × NoneTo others left mid)
          → (deliveries_left new < deliveries_left net)
          ⊎ ((new ≡ net) × NoneTo (i ∷ others) old net)
      go (inl a) (inl b) = inl (omega arith)
      go (inl a) (inr b) =
          let same : deliveries_left new ≡ deliveries_left mid = ap deliveries_left b.0 in
          inl (omega arith)
      go (inr a) (inl b) =
          let same : deliveries_left mid ≡ deliveries_left net = ap deliveries_left a.same_net in
          inl (omega arith)
      go (inr a) (inr b) = inr (
        b.0 ∙ a.same_net,
        (
          a.none,
          subst (λ (w : Net). NoneTo others old w)
              a.same_net (subst (λ (k : ℕ). NoneTo others k mid) a.same_left b.1),
        ),
      )

  -- where no message under way goes to any of the sites, none is under way
  none_left : (net : Net) → Fine net → NoneTo (numbers net) (length net.packets) net
      → net.packets ≡ []
  none_left net fine none = go net.packets refl
    where
      go : (ps : List Addressed) → net.packets ≡ ps → net.packets ≡ []
      go [] e = e
      go (q ∷ qs) e =
          let at : slice_get net.packets 0 ≡ Some q = ap (λ ps. slice_get ps 0) e in
          let way =
          each_get (IsOnItsWay (length net.sites)) net.packets 0 q at fine.runs.keeps.packets in
          let here =
          each_in_range (λ (i : ℕ). first_to i (take (length net.packets) net.packets) ≡ None) 0
          (length net.sites) q.target none (omega arith) (omega (arith, way.1)) in
          let first : first_to q.target (take (length (q ∷ qs)) (q ∷ qs)) ≡ None =
          subst (λ (ps : List Addressed). first_to q.target (take (length ps) ps) ≡ None) e here in
          absurd (clash q qs (q.target == q.target) (eq-eqb q.target q.target refl) first)
        where
          clash : (q : Addressed) (qs : List Addressed) (b : Bool) → b ≡ true
              → cond b (Some 0) (next_place (first_to q.target (take (length qs) qs))) ≡ None → ⊥
          clash q qs true h e = cc
          clash q qs false h e = cc

  pub nothing_made : {X : Type 0} (Makes : Net → X → Event → Net → Type 0)
      (Passes : Net → X → Type 0) (left : ℕ) (xs : List X) (net new : Net) (es : List Event)
      → InTurn Makes Passes left xs net es new → es ≡ [] → new ≡ net
  nothing_made Makes Passes left xs net new es (spent _ _) e = refl
  nothing_made Makes Passes left xs net new es (no_more _ _) e = refl
  nothing_made Makes Passes left xs net new es (passes _ x others _ _ _ some h rest) e =
      nothing_made Makes Passes left others net new es rest e
  nothing_made Makes Passes left xs net new es (makes _ x others _ mid _ d more some h rest) e = cc

  -- a round without an event has fewer deliveries left, or does nothing and leaves nothing under
  -- way
  pub idle_round : (budget : ℕ) (net new : Net) (es : List Event) → Fine net
      → IsRound c budget net es new → es ≡ []
      → (deliveries_left new < deliveries_left net) ⊎ ((new ≡ net) × (new.packets ≡ []))
  idle_round budget net new es fine r e =
      let all = both_empty r.worked (r.opened ++ r.asked) (sym r.events ∙ e) in
      let later = both_empty r.opened r.asked all.1 in
      let asked = nothing_made (Meets c) (Forbids c) (budget - length r.worked - length r.opened)
      (asks r.after_opening) r.after_opening new r.asked r.meets later.1 in
      let opened = nothing_made (Opens c) (ReadyOpensNone c) (budget - length r.worked)
      (numbers net) r.after_work r.after_opening r.opened r.opens later.0 in
      let same : r.after_work ≡ new = sym (asked ∙ opened) in
      go same (turns_fall (min 64 (budget / length net.sites)) (numbers net) (length net.packets)
      net r.after_work r.worked fine r.turns all.0)
    where
      go : r.after_work ≡ new
          → (deliveries_left r.after_work < deliveries_left net)
          ⊎ ((r.after_work ≡ net) × NoneTo (numbers net) (length net.packets) net)
          → (deliveries_left new < deliveries_left net) ⊎ ((new ≡ net) × (new.packets ≡ []))
      go same (inl less) =
          inl (subst (λ (w : Net). deliveries_left w < deliveries_left net) same less)
      go same (inr idle) =
          let still : new ≡ net = sym same ∙ idle.0 in
          inr (still, ap (λ (w : Net). w.packets) still ∙ none_left net fine idle.1)

  -- ---- no more events than the budget has

  pub reacts_within : (i quota : ℕ) (net new : Net) (es : List Event)
      → ReactsUpTo c i quota net es new → length es ≤ quota
  reacts_within i quota net new es (used_up _) = omega arith
  reacts_within i quota net new es (rests _ _ h) = omega arith
  reacts_within i quota net new es (reacts _ _ mid _ q d more some ready none h rest) =
      let less = reacts_within i (quota - 1) mid new more rest in
      omega arith

  pub turns_within : (quota : ℕ) (sites : List ℕ) (old : ℕ) (net new : Net) (es : List Event)
      → AreTurns c quota sites old net es new → length es ≤ quota * length sites
  turns_within quota sites old net new es (no_site _ _) = omega arith
  turns_within quota sites old net new es (a_site i others _ left _ mid _ first more turn rest) =
      let one = reacts_within i quota turn.mid mid first turn.reacts in
      let later = turns_within quota others left mid new more rest in
      omega (arith, length-append first more)

  in_turn_within : {X : Type 0} (Makes : Net → X → Event → Net → Type 0) (Passes : Net → X → Type 0)
      (left : ℕ) (xs : List X) (net new : Net) (es : List Event)
      → InTurn Makes Passes left xs net es new → length es ≤ left
  in_turn_within Makes Passes left xs net new es (spent _ _) = omega arith
  in_turn_within Makes Passes left xs net new es (no_more _ _) = omega arith
  in_turn_within Makes Passes left xs net new es (passes _ x others _ _ _ some h rest) =
      in_turn_within Makes Passes left others net new es rest
  in_turn_within Makes Passes left xs net new es (makes _ x others _ mid _ d more some h rest) =
      let less = in_turn_within Makes Passes (left - 1) others mid new more rest in
      omega arith

  share : (quota budget sites : ℕ) → quota ≤ budget / sites → quota * sites ≤ budget
  share quota budget sites h =
      let all = div-mul-le_self budget sites in
      let less : quota * sites ≤ budget / sites * sites = times quota (budget / sites) sites h in
      omega arith
    where
      times : (a b n : ℕ) → a ≤ b → a * n ≤ b * n
      times a b zero h = omega arith
      times a b (suc n) h = let less = times a b n h in grind arith

  pub round_within : (budget : ℕ) (net new : Net) (es : List Event) → IsRound c budget net es new
      → length es ≤ budget
  round_within budget net new es r =
      let quota = min 64 (budget / length net.sites) in
      let low : quota ≤ budget / length net.sites = omega arith in
      let worked =
      turns_within quota (numbers net) (length net.packets) net r.after_work r.worked r.turns in
      let sites = length_range 0 (length net.sites) in
      let part : length r.worked ≤ quota * length net.sites =
      subst (λ (k : ℕ). length r.worked ≤ quota * k) sites worked in
      let all = share quota budget (length net.sites) low in
      let opened = in_turn_within (Opens c) (ReadyOpensNone c) (budget - length r.worked)
      (numbers net) r.after_work r.after_opening r.opened r.opens in
      let asked = in_turn_within (Meets c) (Forbids c) (budget - length r.worked - length r.opened)
      (asks r.after_opening) r.after_opening new r.asked r.meets in
      let parts : length es ≡ length r.worked + (length r.opened + length r.asked) =
      ap length r.events ∙ length-append r.worked (r.opened ++ r.asked)
      ∙ ap (λ k. length r.worked + k) (length-append r.opened r.asked) in
      total (length es) (length r.worked) (length r.opened) (length r.asked) budget
      (quota * length net.sites) parts part all opened asked
    where
      total : (n w o a b q : ℕ) → n ≡ w + (o + a) → w ≤ q → q ≤ b → o ≤ b - w → a ≤ b - w - o
          → n ≤ b
      total n w o a b q e f g h k = omega arith

  -- ---- turns, and what comes after them

  abbrev Collected : ℕ → ℕ → Net → Type 0
  Collected i old net = (left : ℕ) × (new : Net) × Collects i old net left new

  some_collects : (i old : ℕ) (net : Net) → Fine net → Collected i old net
  some_collects i zero net fine = (0, net, all_in 0 net refl)
  some_collects i (suc old) net fine =
      go (first_to i (take (suc old) net.packets)) refl (some_collects i old)
    where
      go : (o : Option ℕ) → first_to i (take (suc old) net.packets) ≡ o
          → ((mid : Net) → Fine mid → Collected i old mid) → Collected i (suc old) net
      go None e ih = (suc old, net, all_in (suc old) net e)
      go (Some f) e ih =
          let q = first_there i (suc old) net.packets f e in
          let made = makes_delivery p c ok kept is net fine f q.0 q.1 in
          let rest = ih made.0 (brought p c ok kept is net made.0 f fine made.1) in
          let one_less : old ≡ suc old - 1 = omega arith in (
            rest.0,
            rest.1,
            brings (suc old) rest.0 f net made.0 rest.1 e
                made.1 (subst (λ (k : ℕ). Collects i k made.0 rest.0 rest.1) one_less rest.2),
          )

  abbrev Reacted : ℕ → ℕ → Net → Type 0
  Reacted i quota net = (es : List Event) × (new : Net) × ReactsUpTo c i quota net es new

  some_reacts : (i quota : ℕ) (net : Net) → Fine net → Reacted i quota net
  some_reacts i zero net fine = ([], net, used_up net)
  some_reacts i (suc quota) net fine =
      go (may_react p c ok kept is net fine i) (some_reacts i quota)
    where
      go : IsPlain p c ok kept is net fine i ⊎ ReadyOpens c net i
          → ((mid : Net) → Fine mid → Reacted i quota mid) → Reacted i (suc quota) net
      go (inr opens) ih = ([], net, rests (suc quota) net opens)
      go (inl h) ih =
          let rest = ih h.new (reacted p c ok kept is net h.new i h.pick h.event fine h.reacts) in
          let one_less : quota ≡ suc quota - 1 = omega arith in (
            h.event ∷ rest.0,
            rest.1,
            reacts (suc quota) net h.new rest.1 h.pick h.event rest.0 (omega arith) h.ready h.none
                h.reacts (subst (λ (k : ℕ). ReactsUpTo c i k h.new rest.0 rest.1) one_less rest.2),
          )

  abbrev Turned : ℕ → List ℕ → ℕ → Net → Type 0
  Turned quota sites old net =
      (es : List Event) × (new : Net) × AreTurns c quota sites old net es new

  some_turns : (quota : ℕ) (sites : List ℕ) (old : ℕ) (net : Net) → Fine net
      → Turned quota sites old net
  some_turns quota [] old net fine = ([], net, no_site old net)
  some_turns quota (i ∷ others) old net fine =
      let mail = some_collects i old net fine in
      let then = some_reacts i quota
      mail.1 (collects_fine p c ok kept is i old mail.0 net mail.1 fine mail.2) in
      let turn : IsTurn c quota i old net mail.0 then.0 then.1 =
      record { mid = mail.1; collects = mail.2; reacts = then.2 } in
      let rest = some_turns quota others mail.0
      then.1 (turn_fine p c ok kept is quota i old mail.0 net then.1 then.0 fine turn) in (
        then.0 ++ rest.0,
        rest.1,
        a_site i others old mail.0 net then.1 rest.1 then.0 rest.0 turn rest.2,
      )

  module _ {X : Type 0} (Makes : Net → X → Event → Net → Type 0) (Passes : Net → X → Type 0)
      (Q : X → Type 0)
      (keeps : (net mid : Net) (x : X) (e : Event) → Fine net → Makes net x e mid → Fine mid)
      (may : (net : Net) → Fine net → (x : X) → Q x
      → ((e : Event) × (mid : Net) × Makes net x e mid) ⊎ Passes net x) where
    abbrev MadeInTurn : ℕ → List X → Net → Type 0
    MadeInTurn left xs net =
        (es : List Event) × (new : Net) × InTurn Makes Passes left xs net es new

    some_in_turn : (xs : List X) (left : ℕ) (net : Net) → Each Q xs → Fine net
        → MadeInTurn left xs net
    some_in_turn [] left net all fine = ([], net, no_more left net)
    some_in_turn (x ∷ xs) zero net all fine = ([], net, spent (x ∷ xs) net)
    some_in_turn (x ∷ xs) (suc left) net all fine =
        go (may net fine x all.0) (λ k mid f. some_in_turn xs k mid all.1 f)
      where
        go : ((e : Event) × (mid : Net) × Makes net x e mid) ⊎ Passes net x
            → ((k : ℕ) (mid : Net) → Fine mid → MadeInTurn k xs mid)
            → MadeInTurn (suc left) (x ∷ xs) net
        go (inr passed) ih =
            let rest = ih (suc left) net fine in
            (rest.0, rest.1, passes (suc left) x xs net rest.1 rest.0 (omega arith) passed rest.2)
        go (inl m) ih =
            let rest = ih left m.1 (keeps net m.1 x m.0 fine m.2) in
            let one_less : left ≡ suc left - 1 = omega arith in (
              m.0 ∷ rest.0,
              rest.1,
              makes (suc left) x xs net m.1 rest.1 m.0 rest.0 (omega arith) m.2
                  (subst (λ (k : ℕ). InTurn Makes Passes k xs m.1 rest.0 rest.1) one_less rest.2),
            )

  all_sites : (k n : ℕ) → Each (λ (i : ℕ). Unit {0}) (range_with_len k n)
  all_sites k zero = tt
  all_sites k (suc n) = (tt, all_sites (k + 1) n)

  may_be_met : (net : Net) → Fine net → (x : Choice) → MeetsOne x
      → ((e : Event) × (mid : Net) × Meets c net x e mid) ⊎ Forbids c net x
  may_be_met net fine x m = go (may_meet p c ok kept is net fine x m.0 m.1)
    where
      go : Decides (Allows c net x)
          → ((e : Event) × (mid : Net) × Meets c net x e mid) ⊎ Forbids c net x
      go (inl h) = inl (makes_meeting p c ok kept is net fine x m.0 m.1 h)
      go (inr not) = inr not

  -- ---- a round

  pub some_round : (budget : ℕ) (net : Net) → Fine net
      → (es : List Event) × (new : Net) × IsRound c budget net es new
  some_round budget net fine =
      let w =
      some_turns (min 64 (budget / length net.sites)) (numbers net) (length net.packets) net fine in
      let fine_w = turns_fine p c ok kept is (min 64 (budget / length net.sites)) (numbers net)
      (length net.packets) net w.1 w.0 fine w.2 in
      let o = some_in_turn (Opens c) (ReadyOpensNone c) (λ (i : ℕ). Unit {0})
      (opens_keeps p c ok kept is) (λ m f i _. may_open p c ok kept is m f i) (numbers net)
      (budget - length w.0) w.1 (all_sites 0 (length net.sites)) fine_w in
      let fine_o = in_turn_fine p c ok kept is (Opens c) (ReadyOpensNone c)
      (opens_keeps p c ok kept is) (opens_one p c ok kept is) (opens_not p c ok kept is)
      (budget - length w.0) (numbers net) w.1 o.1 o.0 fine_w o.2 in
      let a = some_in_turn (Meets c) (Forbids c) MeetsOne (meets_keeps p c ok kept is) may_be_met
      (asks o.1) (budget - length w.0 - length o.0) o.1 (all_meet (requests_of o.1.sites))
      fine_o in (
        w.0 ++ (o.0 ++ a.0),
        a.1,
        record {
          worked = w.0;
          after_work = w.1;
          turns = w.2;
          opened = o.0;
          after_opening = o.1;
          opens = o.2;
          asked = a.0;
          meets = a.2;
          events = refl;
        },
      )

  -- ---- one choice after another

  abbrev Going : ℕ → Net → Type 0
  Going left net = (es : List Event) × (new : Net) × GoesOn c left net es new

  going_by : (left : ℕ) → ((net : Net) → Fine net → Going left net) → (fuel : ℕ) (net : Net)
      → Fine net → deliveries_left net < fuel → Going (suc left) net
  going_by left fewer zero net fine less = absurd (omega arith)
  going_by left fewer (suc fuel) net fine less =
      go (some_next p c ok kept is net fine) (going_by left fewer fuel)
    where
      step : (x : Choice) → IsNext c net x → (o : Option Event) (mid : Net) → Acts c net x o mid
          → ((m : Net) → Fine m → deliveries_left m < fuel → Going (suc left) m)
          → Going (suc left) net
      step x first (Some e) mid h ih =
          let rest = fewer mid (acts_fine p c ok kept is net mid x (Some e) fine h) in
          let one_less : left ≡ suc left - 1 = omega arith in (
            e ∷ rest.0,
            rest.1,
            commits (suc left) net mid rest.1 x e rest.0 (omega arith) first h
                (subst (λ (k : ℕ). GoesOn c k mid rest.0 rest.1) one_less rest.2),
          )
      step x first None mid h ih =
          let fall = carries_falls net mid x fine h in
          let rest = ih mid (acts_fine p c ok kept is net mid x None fine h) (omega arith) in
          (rest.0, rest.1, carries (suc left) net mid rest.1 x rest.0 (omega arith) first h rest.2)

      go : ((x : Choice) × IsNext c net x) ⊎ ((x : Choice) → Allows c net x → ⊥)
          → ((m : Net) → Fine m → deliveries_left m < fuel → Going (suc left) m)
          → Going (suc left) net
      go (inr none) ih = ([], net, none_enabled (suc left) net none)
      go (inl n) ih =
          let made =
          makes_any p c ok kept is net fine n.0 (next_allowed p c net fine kept n.0 n.1) in
          step n.0 n.1 made.0 made.1 made.2 ih

  some_going : (left : ℕ) (net : Net) → Fine net → Going left net
  some_going zero net fine = ([], net, all_spent net)
  some_going (suc left) net fine =
      going_by left (some_going left) (suc (deliveries_left net)) net fine (omega arith)

  -- ---- rounds, one after another

  abbrev Rounds : ℕ → Net → Type 0
  Rounds budget net = (es : List Event) × (new : Net) × AreRounds c budget net es new

  either : (a b : ℕ) → (a < b) ⊎ (b ≤ a)
  either a b = grind arith

  some_packets : (ps : List Addressed) → (ps ≡ []) ⊎ (ps ≡ [] → ⊥)
  some_packets [] = inl refl
  some_packets (q ∷ qs) = inr (λ e. cc)

  rounds_by : (bound : ℕ)
      → ((budget : ℕ) → budget < bound → (net : Net) → Fine net → Rounds budget net)
      → (fuel budget : ℕ) → budget < suc bound → (net : Net) → Fine net → deliveries_left net < fuel
      → Rounds budget net
  rounds_by bound fewer zero budget low net fine less = absurd (omega arith)
  rounds_by bound fewer (suc fuel) budget low net fine less =
      go (either budget (length net.sites)) (rounds_by bound fewer fuel budget low)
    where
      over : (es : List Event) (mid : Net) → length net.sites ≤ budget → IsRound c budget net es mid
          → ((m : Net) → Fine m → deliveries_left m < fuel → Rounds budget m) → Rounds budget net
      over (e ∷ es) mid many r ih =
          let within = round_within budget net mid (e ∷ es) r in
          let rest = fewer (budget - length (e ∷ es)) (omega arith) mid
          (round_fine p c ok kept is budget net mid (e ∷ es) fine r) in (
            (e ∷ es) ++ rest.0,
            rest.1,
            one_round budget net mid rest.1 (e ∷ es) rest.0 many r (λ f. cc) rest.2,
          )
      over [] mid many r ih =
          idle (idle_round budget net mid [] fine r refl) (some_packets mid.packets)
        where
          idle : (deliveries_left mid < deliveries_left net) ⊎ ((mid ≡ net) × (mid.packets ≡ []))
              → (mid.packets ≡ []) ⊎ (mid.packets ≡ [] → ⊥) → Rounds budget net
          idle h (inl empty) = ([], mid, last_round budget net mid many r empty)
          idle (inr h) (inr not) = absurd (not h.1)
          idle (inl falls) (inr not) =
              let rest =
              ih mid (round_fine p c ok kept is budget net mid [] fine r) (omega arith) in
              let all_left : budget ≡ budget - length {A = Event} [] = omega arith in (
                rest.0,
                rest.1,
                one_round budget net mid rest.1 [] rest.0 many r (λ _. not)
                    (subst (λ (k : ℕ). AreRounds c k mid rest.0 rest.1) all_left rest.2),
              )

      go : (budget < length net.sites) ⊎ (length net.sites ≤ budget)
          → ((m : Net) → Fine m → deliveries_left m < fuel → Rounds budget m) → Rounds budget net
      go (inl few) ih =
          let f = some_going budget net fine in
          (f.0, f.1, few_left budget net f.1 f.0 few f.2)
      go (inr many) ih = let r = some_round budget net fine in over r.0 r.1 many r.2 ih

  rounds_below : (bound budget : ℕ) → budget < bound → (net : Net) → Fine net → Rounds budget net
  rounds_below zero budget low net fine = absurd (omega arith)
  rounds_below (suc bound) budget low net fine = rounds_by bound (rounds_below bound)
      (suc (deliveries_left net)) budget low net fine (omega arith)

  pub some_rounds : (budget : ℕ) (net : Net) → Fine net → Rounds budget net
  some_rounds budget net fine = rounds_below (suc budget) budget (omega arith) net fine

pub one_schedule_of_rounds : HasOneScheduleOfRounds
one_schedule_of_rounds p c ok kept is budget =
    let s =
    some_rounds p c ok kept is budget (opened_net p.version c) (opened_fine p c ok kept is) in (
      s.0,
      s.1,
      s.2,
      λ other last h. schedules_of_rounds_are_one p c ok kept is budget other s.0 last s.1 h s.2,
    )
