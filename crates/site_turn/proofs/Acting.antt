-- What a site does once the book has answered.
use Rattle.std.proofs.Common.{◌≡◌, ℕ, ◌≤◌, List, [], length, refl, sym, ap, subst, arith, ◌⊎◌, inl}
use Rattle.std.proofs.Common.{inr}
use Rattle.std.specs.Prelude.{max}
use Rattle.std.proofs.lemmas.Bool.Decides.{nat_tests}
use Rattle.chem_model.specs.declared.event.AtomId.{AtomId}
use Rattle.chem_model.specs.declared.event.Event.{Event}
use Rattle.chem_model.specs.Each.{Each}
use Rattle.wire_packet.specs.declared.packet.Ask.{Ask}
use Rattle.wire_packet.specs.declared.packet.Ask.TheVariants as request
use Rattle.env_store.specs.CodeParts.{CodeParts}
use Rattle.loc_tree.specs.Tree.{Tree, is_alive, with_room}
use Rattle.net_laws.specs.Site.{Site}
use Rattle.net_laws.specs.Moves.{continuation_made, moved_made}
use Rattle.net_laws.specs.Meeting.{sent_here}
use Rattle.net_laws.specs.Holding.{drop_request}
use Rattle.net_laws.specs.Opened.{AreNew}
use Rattle.net_laws.specs.Posting.{Outcome}
use Rattle.net_laws.specs.Parcels.{pack, take_in}
use Rattle.site_solution.specs.Answers.{Answers}
use Rattle.site_solution.specs.Draws.{CanDraw}
use Rattle.site_solution.specs.Held.{taken_at}
use Rattle.site_solution.specs.declared.effects.Effects.{Effects}
use Rattle.site_solution.specs.Staying.{CanAct}
use Rattle.reducer.specs.declared.pick.Pick.{Pick}
use Rattle.reducer.specs.Picks.{Picked, Picks, MayFire}
use Rattle.reducer.specs.Fronts.{event_of}
use Rattle.reducer.specs.Reacting.{ran_by, outcome_of}
use Rattle.reducer.specs.Reacted.{Reacts}
use Rattle.site_turn.specs.declared.turn.Turn.{Turn}
use Rattle.site_turn.specs.declared.turn.Turn.TheVariants.{Did, Passed, Nothing, NotEnabled, Full}
use Rattle.site_turn.specs.Mail.{IsMessageFlight}
use Rattle.site_turn.specs.After.{AreNone, IsLeft, AfterPick, StaysFitAt, MeetsAsk}
use Rattle.site_turn.specs.After.{AfterCrossing, IsSameTree, FitsHere}
use Rattle.site_turn.proofs.Bearing.{births_new}
use Rattle.site_turn.proofs.Coming.{are_message_flights}
use Rattle.site_turn.proofs.Room.{run_same}

-- ---- no effects

pub none_sent : (e : Effects) → AreNone e → Each IsMessageFlight e.sends
none_sent e h = subst (Each IsMessageFlight) (sym h.sends) tt

-- ---- reactions

pub reacts_sent :
    (c : CodeParts) (t : Tree) (s : Site) (p : Pick) (x : Picked) (new : Site) (e : Effects)
    → Reacts c t s p x new e → Each IsMessageFlight e.sends
reacts_sent c t s p x new e h = are_message_flights (outcome_of c t s p x).sends e.sends h.sends

-- where nothing was proposed
pub idle_pick :
    (c : CodeParts) (t : Tree) (s : Site) (p : Pick) (new : Site) (e : Effects) (turn : Turn)
    → (turn ≡ Passed) ⊎ ((turn ≡ Nothing) ⊎ (turn ≡ Full)) → IsLeft s new e
    → AfterPick c t s p turn new e
idle_pick c t s p new e turn (inl is) h = subst (λ (x : Turn). AfterPick c t s p x new e) (sym is) h
idle_pick c t s p new e turn (inr (inl is)) h =
    subst (λ (x : Turn). AfterPick c t s p x new e) (sym is) h
idle_pick c t s p new e turn (inr (inr is)) h =
    subst (λ (x : Turn). AfterPick c t s p x new e) (sym is) h

pub idle_fit : (c : CodeParts) (t : Tree) (i : ℕ) (new : Site) (e : Effects) (turn : Turn)
    → (turn ≡ Passed) ⊎ ((turn ≡ Nothing) ⊎ (turn ≡ Full)) → StaysFitAt c t i turn new e
idle_fit c t i new e turn (inl is) = subst (λ (x : Turn). StaysFitAt c t i x new e) (sym is) tt
idle_fit c t i new e turn (inr (inl is)) =
    subst (λ (x : Turn). StaysFitAt c t i x new e) (sym is) tt
idle_fit c t i new e turn (inr (inr is)) =
    subst (λ (x : Turn). StaysFitAt c t i x new e) (sym is) tt

module _ (c : CodeParts) (t : Tree) (s : Site) (p : Pick) (x : Picked) (picks : Picks c s p x)
    (new : Site) (e : Effects) where
  pub pick_born : (turn : Turn) → AfterPick c t s p turn new e
      → (e.births ≡ (ran_by c s x).births) ⊎ (e.births ≡ [])
  pick_born (Did place) h = inl (h x picks).births
  pick_born NotEnabled h = inr (h x picks).none.births
  pick_born Nothing h = inr h.none.births
  pick_born Full h = inr h.none.births
  pick_born Passed h = inr h.none.births

  pub pick_new : (turn : Turn) → CanDraw t s → AfterPick c t s p turn new e
      → AreNew t s.number e.births
  pick_new turn draws h =
      elim (pick_born turn h) [
        | inl born ↦ subst (AreNew t s.number) (sym born) (births_new c t s x draws)
        | inr none ↦ subst (AreNew t s.number) (sym none) tt
      ]

  pub pick_few : (turn : Turn) (room : ℕ) → length (ran_by c s x).births ≤ room
      → AfterPick c t s p turn new e → length e.births ≤ room
  pick_few turn room few h =
      elim (pick_born turn h) [
        | inl born ↦ omega (arith, few, ap length born)
        | inr none ↦ omega (arith, ap length none)
      ]

  reacts_same : (u : Tree) → IsSameTree t u → Reacts c u s p x new e → Reacts c t s p x new e
  reacts_same u same h =
      let a = ran_by c s x in
      subst (λ (o : Outcome). Answers o a.outs a.births new e)
      (run_same c t u a (taken_at p.group x.guard.chans s) same) h

-- whatever room the tree has
pub pick_same :
    (c : CodeParts) (t u : Tree) (s : Site) (p : Pick) (turn : Turn) (new : Site) (e : Effects)
    → IsSameTree t u → AfterPick c u s p turn new e → AfterPick c t s p turn new e
pick_same c t u s p (Did place) new e same h =
    λ x picks. reacts_same c t s p x picks new e u same (h x picks)
pick_same c t u s p NotEnabled new e same h = h
pick_same c t u s p Nothing new e same h = h
pick_same c t u s p Full new e same h = h
pick_same c t u s p Passed new e same h = h

-- ---- requests

module _ (seen : List ℕ) (t : Tree) (s : Site) (a : AtomId) (u : Tree) (new : Site)
    (e : Effects) where
  meets_sent : (ask : Ask) → MeetsAsk ask seen t s a u new e → Each IsMessageFlight e.sends
  meets_sent (request.Go b k) h =
      let made = continuation_made seen s.number h.asked.loc s.made h.cont in
      are_message_flights (sent_here t made (drop_request a s)).sends e.sends h.answers.sends
  meets_sent (request.Fail b k) h =
      let d = h.0 in
      let made = continuation_made seen s.number d.asked.loc s.made d.cont in
      are_message_flights (sent_here t made (drop_request a s)).sends e.sends d.answers.sends
  meets_sent request.Halt h = none_sent e h.1

  pub ask_met_sent : (ask : Ask) → MeetsAsk ask seen t s a u new e → Each IsMessageFlight e.sends
  ask_met_sent ask h = meets_sent ask h

-- ---- two sites

module _ (seen : List ℕ) (t : Tree) (from into : Site) (a : AtomId) (u : Tree) (left new : Site)
    (e : Effects) where
  pub crossing_sent : (turn : Turn) → AfterCrossing turn seen t from into a u left new e
      → Each IsMessageFlight e.sends
  crossing_sent (Did place) h =
      let made = moved_made (is_alive t h.target) seen into.number h.asked.loc into.made h.cont in
      are_message_flights
      (sent_here u made (take_in (pack h.asked.loc (drop_request a from)) into)).sends e.sends
      h.answers.sends
  crossing_sent NotEnabled h = none_sent e h.0.none
  crossing_sent Nothing h = none_sent e h.0.none
  crossing_sent Full h = none_sent e h.0.none
  crossing_sent Passed h = none_sent e h.0.none

-- ---- a tree with more room

module _ (c : CodeParts) (t : Tree) (s : Site) (n : ℕ) (u : Tree) (room : u ≡ with_room t n) where
  pub act_room : CanAct c t s → CanAct c u s
  act_room act = subst (λ (v : Tree). CanAct c v s) (sym room) (record {
    in_tree = act.in_tree;
    in_code = act.in_code;
    draws = record { few = act.draws.few; drawn = act.draws.drawn; fresh = act.draws.fresh };
  })

  pub fire_room : (p : Pick) → MayFire c t s p → MayFire c u s p
  fire_room p h = subst (λ (v : Tree). MayFire c v s p) (sym room)
      (h.0, record { covers = h.1.covers; live = h.1.live })

  pub same_room : IsSameTree t u
  same_room = subst (IsSameTree t) (sym room) (record { roots = refl; entries = refl })

  pub has_room : n ≤ u.spare
  has_room = subst (λ (v : Tree). n ≤ v.spare) (sym room) (le_max t.spare n)
    where
      le_max : (a b : ℕ) → b ≤ max a b
      le_max a b = grind (arith, nat_tests)

-- a reaction fits everywhere
pub reaction_fits : (s : Site) (p : Pick) (x : Picked) (ev : Event) → ev ≡ event_of p x
    → FitsHere s ev
reaction_fits s p x ev e = subst (FitsHere s) (sym e) tt
