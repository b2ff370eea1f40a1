-- What a site chose, once its event is ready.
use Rattle.std.proofs.Common.{◌≡◌, ◌≤◌, ℕ, length, sym, subst, arith}
use Rattle.chem_model.specs.declared.event.AtomId.{AtomId}
use Rattle.env_store.specs.CodeParts.{CodeParts}
use Rattle.loc_tree.specs.Tree.{Tree}
use Rattle.net_laws.specs.Site.{Site}
use Rattle.net_laws.specs.Net.{with_births}
use Rattle.site_solution.specs.declared.effects.Effects.{Effects}
use Rattle.site_solution.specs.Staying.{CanAct}
use Rattle.reducer.specs.declared.pick.Pick.{Pick}
use Rattle.reducer.specs.Picks.{Picked, Picks, MayFire}
use Rattle.reducer.specs.Reacting.{ran_by}
use Rattle.site_turn.specs.declared.next.Chosen.{Chosen}
use Rattle.site_turn.specs.declared.next.Chosen.TheVariants as choice
use Rattle.site_turn.specs.declared.turn.Turn.{Turn}
use Rattle.site_turn.specs.Next.{ChoosesPick, Chooses, MayMake}
use Rattle.site_turn.specs.After.{HasRoomFor, IsReadied, AfterPick, AfterChosen}
use Rattle.site_turn.proofs.Acting.{act_room, fire_room, same_room, has_room, pick_same}
use Rattle.site_turn.proofs.Bearing.{births_room}
use Rattle.site_turn.proofs.Choices.{may_fire, meet_wider}

-- what was chosen in any version may be made
pub may_make : (w : ℕ) (c : CodeParts) (t : Tree) (s : Site) (x : Chosen) → Chooses w c t s x
    → (x ≡ choice.Nothing → ⊥) → MayMake c t s x
may_make w c t s (choice.Pick p) h some = h
may_make w c t s (choice.Ask a) h some = (h.0, meet_wider w t s a h.1.1.met)
may_make w c t s choice.Nothing h some = absurd (some (λ i. choice.Nothing))

module _ (c : CodeParts) (t : Tree) (s : Site) (p : Pick) (u : Tree) (may : ChoosesPick c t s p)
    (h : HasRoomFor c t s p u) where
  pub room_act : CanAct c u s
  room_act = act_room c t s h.room u h.tree may.0

  pub room_fire : MayFire c u s p
  room_fire = fire_room c t s h.room u h.tree p (may_fire c t s p may.0 may.1)

  pub room_few : (x : Picked) → Picks c s p x → length (ran_by c s x).births ≤ u.spare
  room_few x picks =
      let few = h.births x picks in
      let room = has_room c t s h.room u h.tree in
      omega (arith, few, room)

module _ (c : CodeParts) (s : Site) (x : Chosen) (u v : Tree) (turn : Turn) (new : Site)
    (e : Effects) where
  pub pick_done : (p : Pick) → x ≡ choice.Pick p → AfterPick c u s p turn new e
      → v ≡ with_births u s.number e.births → (t : Tree) → IsReadied c t s x u
      → AfterChosen c t s x turn v new e
  pick_done p is after born t ready =
      let h : HasRoomFor c t s p u = subst (λ (y : Chosen). IsReadied c t s y u) is ready in
      let done : AfterChosen c t s (choice.Pick p) turn v new e = (
        pick_same c t u s p turn new e (same_room c t s h.room u h.tree) after,
        births_room t u v h.room s.number e.births h.tree born,
      ) in
      subst (λ (y : Chosen). AfterChosen c t s y turn v new e) (sym is) done

  pub ask_done : (a : AtomId) → x ≡ choice.Ask a → AfterChosen c u s (choice.Ask a) turn v new e
      → (t : Tree) → IsReadied c t s x u → AfterChosen c t s x turn v new e
  ask_done a is after t ready =
      let same : u ≡ t = subst (λ (y : Chosen). IsReadied c t s y u) is ready in
      subst (λ (y : Chosen). AfterChosen c t s y turn v new e) (sym is)
      (subst (λ (w : Tree). AfterChosen c w s (choice.Ask a) turn v new e) same after)
