-- When a pick is one of its site, and covered.
use Rattle.std.proofs.Common.{◌≡◌, ℕ, ◌+◌, ◌-◌, ◌<◌, ◌≤◌, Some, Bool, true, ap, subst, arith}
use Rattle.std.specs.Prelude.{slice_get, nat_lt, ◌↔◌, IsTrue}
use Rattle.std.proofs.lemmas.Bool.Decides.{nat_tests}
use Rattle.env_store.specs.declared.code.Level.{Level}
use Rattle.env_store.specs.CodeParts.{CodeParts}
use Rattle.env_store.specs.CodeFacts.{IsCode}
use Rattle.queue_cells.specs.Grouped.{AllHeld}
use Rattle.net_laws.specs.Site.{Group, Site}
use Rattle.reducer.specs.declared.pick.Pick.{Pick}
use Rattle.reducer.specs.Picks.{Picked, Picks, IsPick, IsCovered}
use Rattle.reducer.proofs.Levels.{level_same, picks_same}
use Rattle.reducer.proofs.Guards.{pick_there}

less_is : (a b : ℕ) → (nat_lt a b ≡ true) ↔ (a < b)
less_is a b = ((λ e. below e), (λ less. above less))
  where
    below : nat_lt a b ≡ true → a < b
    below e = grind (arith, nat_tests)

    above : a < b → nat_lt a b ≡ true
    above less = grind (arith, nat_tests)

module _ (c : CodeParts) (s : Site) (p : Pick) where
  module _ (g : Group) (v : Level) (held : slice_get s.groups p.group ≡ Some g)
      (level : slice_get c.levels g.told.inst.level ≡ Some v) where
    level_is : (x : Picked) → Picks c s p x → x.level ≡ v
    level_is x picks = level_same c s p x g v picks held level

    pub within : IsCode c → v.first ≤ p.guard → IsTrue (nat_lt (p.guard - v.first) v.guards)
        ↔ IsPick c s p
    within code from = (to, back)
      where
        tells : (nat_lt (p.guard - v.first) v.guards ≡ true) ↔ (p.guard - v.first < v.guards)
        tells = less_is (p.guard - v.first) v.guards

        to : IsTrue (nat_lt (p.guard - v.first) v.guards) → IsPick c s p
        to e =
            let less = tells.0 e in
            pick_there c s p.group g v held level p.guard code from (omega arith)

        back : IsPick c s p → IsTrue (nat_lt (p.guard - v.first) v.guards)
        back pick =
            let below = pick.1.below in
            let first : pick.0.level.first + pick.0.level.guards ≡ v.first + v.guards =
            ap (λ (w : Level). w.first + w.guards) (level_is pick.0 pick.1) in
            tells.1 (omega arith)

  pub covered_by : (x : Picked) → Picks c s p x → (r : Bool)
      → (IsTrue r ↔ AllHeld x.group.queues x.guard.mask.words) → IsTrue r ↔ IsCovered c s p
  covered_by x picks r tells = (to, back)
    where
      to : IsTrue r → IsCovered c s p
      to e = (x, record { picks = picks; held = tells.0 e })

      back : IsCovered c s p → IsTrue r
      back (y, covers) =
          let same : y ≡ x = picks_same c s p y x covers.picks picks in
          tells.1
          (subst (λ (z : Picked). AllHeld z.group.queues z.guard.mask.words) same covers.held)
