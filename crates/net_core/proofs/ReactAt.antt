-- A reaction at one of the sites.
use Rattle.std.proofs.Common.{◌≡◌, ℕ, true, Some, Result, Ok, Err, refl, sym, subst, List}
use Rattle.std.proofs.Common.{slice_get}
use Rattle.std.specs.Prelude.{slice_index_or, slice_set, IfOk}
use Rattle.std.proofs.lemmas.Option.{get_or_from_slice_get}
use Rattle.env_store.specs.CodeParts.{CodeParts}
use Rattle.loc_tree.specs.Tree.{Tree}
use Rattle.net_laws.specs.Site.{Site}
use Rattle.chem_model.specs.declared.event.Event.{Event}
use Rattle.site_solution.specs.InCode.{is_in_code}
use Rattle.site_solution.specs.declared.effects.Effects.{Effects}
use Rattle.site_solution.specs.Staying.{CanAct}
use Rattle.reducer.specs.declared.pick.Pick.{Pick}
use Rattle.reducer.specs.Picks.{Picked, Picks, Fires, MayFire, IsToldAs}
use Rattle.reducer.proofs.Levels.{level_at, told_as}
use Rattle.site_turn.specs.Reacting.{ReactsBy}
use Rattle.net_core.specs.inside.AtSites.{MayReactAt, ReactsAt}
use Rattle.net_core.specs.Whole.{AllFit}
use Rattle.net_core.proofs.Fitting.{fits_at}

pub told_at : (c : CodeParts) (t : Tree) (s : Site) (p : Pick) (x : Picked)
    → is_in_code c t s ≡ true → Picks c s p x → IsToldAs x
told_at c t s p x h picks = told_as c s p x picks (level_at c t s p.group x.group h picks.group)

pub fits_or : (c : CodeParts) (t : Tree) (sites : List Site) (i : ℕ) (s d : Site) → AllFit c t sites
    → slice_get sites i ≡ Some s → CanAct c t (slice_index_or sites i d)
fits_or c t sites i s d h at =
    subst (CanAct c t) (sym (get_or_from_slice_get sites i s d at)) (fits_at c t sites i s h at)

-- at one of the sites, as at that site
module _ (c : CodeParts) (t : Tree) (sites : List Site) (i : ℕ) (d : Site) (q : Pick) where
  reacts_here : (new : Site) (e : Event) (effects : Effects)
      → ReactsBy c t (slice_index_or sites i d) q e effects new → (s : Site) (x : Picked)
      → slice_get sites i ≡ Some s → Picks c s q x
      → ReactsAt c t i q s x sites (slice_set sites i new) e effects
  reacts_here new e effects by s x at picks =
      let at_s : ReactsBy c t s q e effects new =
      subst (λ (u : Site). ReactsBy c t u q e effects new) (get_or_from_slice_get sites i s d at)
      by in
      let one = at_s x picks in
      record { after = new; reacts = one.reacts; event = one.event_is; sites = refl; fit = one.fit }

  pub reacts_at : {E : Type 0} (new : Site) (r : Result (Event × Effects) E)
      → IfOk r (λ done. ReactsBy c t (slice_index_or sites i d) q done.0 done.1 new)
      → IfOk r (λ done. (s : Site) (x : Picked) → slice_get sites i ≡ Some s → Picks c s q x
      → ReactsAt c t i q s x sites (slice_set sites i new) done.0 done.1)
  reacts_at new (Ok done) by = reacts_here new done.0 done.1 by
  reacts_at new (Err e) by = tt

  pub may_fire : MayReactAt c t sites i q → MayFire c t (slice_index_or sites i d) q
  may_fire may = (
    may.pick,
    subst (λ (u : Site). Fires c t u q may.pick)
        (sym (get_or_from_slice_get sites i may.site d may.site_is)) may.fires,
  )

  pub ready_here : MayReactAt c t sites i q → AllFit c t sites
      → CanAct c t (slice_index_or sites i d)
  ready_here may fit =
      let fits = fits_or c t sites i may.site d fit may.site_is in
      record { in_tree = fits.in_tree; in_code = fits.in_code; draws = fits.draws }
