-- What a choice tells of a site.
use Rattle.std.proofs.Common.{◌≡◌, ℕ, true, false, Option, Some, None, refl, sym, ap, ◌∙◌, subst}
use Rattle.std.proofs.Common.{Bool, cond}
use Rattle.std.specs.Prelude.{is_some, ◌||◌, ◌&&◌, ◌==◌, Result, Ok, Err, IfOk}
use Rattle.chem_model.specs.declared.memory.Memory.{Memory}
use Rattle.chem_model.specs.declared.name.Loc.{Loc}
use Rattle.chem_model.specs.declared.name.Name.{Name}
use Rattle.chem_model.specs.declared.name.Name.TheVariants as name
use Rattle.chem_model.specs.declared.event.AtomId.{AtomId}
use Rattle.chem_model.specs.declared.event.Event.{Event}
use Rattle.chem_model.specs.declared.event.Event.TheVariants as event
use Rattle.wire_packet.specs.declared.packet.Ask.{Ask}
use Rattle.wire_packet.specs.declared.packet.Ask.TheVariants as request
use Rattle.wire_packet.specs.GroupFacts.{RequestParts}
use Rattle.env_store.specs.CodeParts.{CodeParts}
use Rattle.loc_tree.specs.Tree.{Tree, is_alive, can_move, can_fall}
use Rattle.net_laws.specs.Site.{Site}
use Rattle.net_laws.specs.Holding.{request_with}
use Rattle.site_solution.specs.Staying.{CanAct}
use Rattle.reducer.specs.declared.pick.Pick.{Pick}
use Rattle.reducer.specs.Picks.{Picked, Picks, IsCovered, IsToldAs, MayFire}
use Rattle.reducer.specs.Ready.{IsReady}
use Rattle.reducer.specs.Fronts.{event_of}
use Rattle.reducer.proofs.Levels.{level_at, told_as}
use Rattle.failure.specs.Halts as halts
use Rattle.failure.specs.Deaths as deaths
use Rattle.migration.specs.Moves as moves
use Rattle.site_turn.specs.declared.next.Chosen.TheVariants as choice
use Rattle.site_turn.specs.Next.{may_meet}
use Rattle.site_turn.specs.After.{IsEventOf}

module _ (c : CodeParts) (t : Tree) (s : Site) (p : Pick) (act : CanAct c t s)
    (ready : IsReady c t s p) where
  pub is_covered : IsCovered c s p
  is_covered = (ready.pick, ready.fires.covers)

  pub may_fire : MayFire c t s p
  may_fire = (ready.pick, ready.fires)

  pub is_told : (x : Picked) → Picks c s p x → IsToldAs x
  is_told x picks = told_as c s p x picks (level_at c t s p.group x.group act.in_code picks.group)

  -- what is said of each pick's event is said of the choice's
  pub event_is : (r : Result Event Memory)
      → IfOk r (λ (e : Event). (x : Picked) → Picks c s p x → e ≡ event_of p x)
      → IfOk r (IsEventOf c s (choice.Pick p))
  event_is (Ok e) h =
      let picks = ready.fires.covers.picks in
      (ready.pick, (picks, h ready.pick picks))
  event_is (Err m) h = tt

-- ---- requests that may be met, by their kind

abbrev met_by : ℕ → Tree → Loc → Ask → AtomId → Bool
met_by w t l v a = moves.goes w t l v
    || ((halts.is_halt v && is_alive t l)
    || is_some (cond (deaths.is_told t l v) (Some (event.Detect a)) None))

go_met : (w : ℕ) (t : Tree) (l : Loc) (b k : Name) (a : AtomId)
    → met_by w t l (request.Go b k) a ≡ true → moves.may_go w t l b ≡ true
go_met w t l b k a e = go (moves.may_go w t l b) e
  where
    go : (u : Bool) → u || (false || false) ≡ true → u ≡ true
    go true h = refl
    go false h = cc

fail_met : (w : ℕ) (t : Tree) (l : Loc) (b k : Name) (a : AtomId)
    → met_by w t l (request.Fail b k) a ≡ true
    → is_some (cond (deaths.is_told t l (request.Fail b k)) (Some (event.Detect a)) None) ≡ true
fail_met w t l b k a e = e

halt_met : (w : ℕ) (t : Tree) (l : Loc) (a : AtomId) → met_by w t l request.Halt a ≡ true
    → is_alive t l ≡ true
halt_met w t l a e = go (is_alive t l) e
  where
    go : (u : Bool) → false || ((true && u) || false) ≡ true → u ≡ true
    go true h = refl
    go false h = cc

module _ (w : ℕ) (t : Tree) (s : Site) (a : AtomId) (q : RequestParts)
    (here : request_with a s.requests ≡ Some q) (met : may_meet w t s a ≡ true) where
  abbrev met_of : Option RequestParts → Bool
  met_of o = moves.is_ready w t o
      || (halts.is_ready t o || is_some (cond (deaths.sees_death t o) (Some (event.Detect a)) None))

  met_is : (v : Ask) → q.ask ≡ v → met_by w t q.loc v a ≡ true
  met_is v e =
      let all : met_of (Some q) ≡ true = ap met_of (sym here) ∙ met in
      subst (λ (u : Ask). met_by w t q.loc u a ≡ true) e all

  pub can_go_now : (b k : Name) → q.ask ≡ request.Go b k → moves.can_go w t a s ≡ true
  can_go_now b k e = ap (moves.is_ready w t) here ∙ ap (moves.goes w t q.loc) e
      ∙ go_met w t q.loc b k a (met_is (request.Go b k) e)

  pub can_detect_now : (b k : Name) → q.ask ≡ request.Fail b k
      → is_some (deaths.dead_for t a s) ≡ true
  can_detect_now b k e =
      ap (λ (o : Option RequestParts).
      is_some (cond (deaths.sees_death t o) (Some (event.Detect a)) None)) here
      ∙ ap (λ (v : Ask). is_some (cond (deaths.is_told t q.loc v) (Some (event.Detect a)) None)) e
      ∙ fail_met w t q.loc b k a (met_is (request.Fail b k) e)

  pub can_halt_now : q.ask ≡ request.Halt → halts.can_halt t a s ≡ true
  can_halt_now e =
      ap (halts.is_ready t) here
      ∙ ap (λ (v : Ask). halts.is_halt v && is_alive t q.loc) e
      ∙ halt_met w t q.loc a (met_is request.Halt e)

-- ---- what may be met in any version may be met in version 2

wider : (w : ℕ) (m f : Bool) → m || ((w == 2) && f) ≡ true → m || ((2 == 2) && f) ≡ true
wider w true f e = refl
wider w false f e = go (w == 2) e
  where
    go : (u : Bool) → u && f ≡ true → f ≡ true
    go true h = h
    go false h = cc

module _ (w : ℕ) (t : Tree) where
  name_wider : (l : Loc) (b : Name) → moves.may_go w t l b ≡ true → moves.may_go 2 t l b ≡ true
  name_wider l (name.Seen i) e = e
  name_wider l (name.Place b) e = wider w (can_move t l b) (can_fall t l b) e
  name_wider l (name.Chan i k h) e = e
  name_wider l (name.Num n) e = e
  name_wider l (name.Op i) e = e

  ask_wider : (l : Loc) (v : Ask) → moves.goes w t l v ≡ true → moves.goes 2 t l v ≡ true
  ask_wider l (request.Go b k) e = name_wider l b e
  ask_wider l (request.Fail b k) e = e
  ask_wider l request.Halt e = e

  ready_wider : (o : Option RequestParts) → moves.is_ready w t o ≡ true
      → moves.is_ready 2 t o ≡ true
  ready_wider None e = e
  ready_wider (Some q) e = ask_wider q.loc q.ask e

  either_wider : (u v r : Bool) → (u ≡ true → v ≡ true) → u || r ≡ true → v || r ≡ true
  either_wider true v r more e = ap (λ (x : Bool). x || r) (more refl)
  either_wider false true r more e = refl
  either_wider false false r more e = e

  pub meet_wider : (s : Site) (a : AtomId) → may_meet w t s a ≡ true → may_meet 2 t s a ≡ true
  meet_wider s a =
      either_wider (moves.can_go w t a s) (moves.can_go 2 t a s)
      (halts.can_halt t a s || is_some (deaths.dead_for t a s))
      (ready_wider (request_with a s.requests))
