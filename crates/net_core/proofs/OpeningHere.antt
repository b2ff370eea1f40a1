-- The reaction that is ready at a site, and whether it opens a location.
use Rattle.std.proofs.Common.{◌≡◌, ℕ, ◌<◌, List, Option, Some, None, IfNone, refl, sym, ap, ◌∙◌}
use Rattle.std.proofs.Common.{subst, slice_get}
use Rattle.env_store.specs.CodeParts.{CodeParts}
use Rattle.loc_tree.specs.Tree.{Tree, bare}
use Rattle.net_laws.specs.Site.{Site}
use Rattle.net_laws.specs.Net.{Net}
use Rattle.reducer.specs.declared.pick.Pick.{Pick}
use Rattle.reducer.specs.Picks.{Picked, Picks}
use Rattle.reducer.specs.Ready.{IsReady}
use Rattle.net_core.specs.declared.choice.Choice.TheVariants as choice
use Rattle.net_core.specs.Scheduling.{births_or, births_of, ReadyOpensNone}
use Rattle.net_core.specs.inside.Searched.{HasSites}
use Rattle.net_core.specs.Working.{IsOpeningAt}
use Rattle.net_core.proofs.Picking.{ready_one}
use Rattle.net_core.proofs.SiteReactions.{one_member, ready_bare}

module _ (c : CodeParts) (t : Tree) (s : Site) (p : Pick) (r : IsReady c t s p) (b : ℕ)
    (count : (x : Picked) → Picks c s p x → b ≡ x.guard.births) where
  pub births_are : births_of c p ≡ b
  births_are = ap births_or r.fires.covers.picks.guard ∙ sym (count r.pick r.fires.covers.picks)

  pub ready_is : (q : Pick) → IsReady c (bare t) s q → q ≡ p
  ready_is q h = ready_one c (bare t) s q p h (ready_bare c t s p r)

  pub all_open : 0 < b → (q : Pick) → IsReady c (bare t) s q → 0 < births_of c q
  all_open some q h = subst (λ (r : Pick). 0 < births_of c r) (sym (ready_is q h))
      (subst (λ (k : ℕ). 0 < k) (sym births_are) some)

  module _ (sites : List Site) (i : ℕ) (at : slice_get sites i ≡ Some s) (net : Net)
      (parts : HasSites sites t net) where
    here : slice_get net.sites i ≡ Some s
    here = ap (λ (us : List Site). slice_get us i) parts.sites_are ∙ at

    pub opens_none : b ≡ 0 → ReadyOpensNone c net i
    opens_none e q h =
        let same : h.site ≡ s = one_member (slice_get net.sites i) h.site s h.site_is here in
        let ready : IsReady c (bare t) s q = subst (λ (u : Site). IsReady c (bare t) u q) same
        (subst (λ (v : Tree). IsReady c v h.site q) parts.tree_is h.ready) in
        ap (births_of c) (ready_is q ready) ∙ births_are ∙ e

    pub opens_some : 0 < b → IsOpeningAt c net i (choice.React i p)
    opens_some some = record {
      pick = p;
      is = refl;
      ready = record {
        site = s;
        site_is = here;
        ready = subst (λ (v : Tree). IsReady c v s p) (sym parts.tree_is) (ready_bare c t s p r);
      };
      some = subst (λ (k : ℕ). 0 < k) (sym births_are) some;
    }

pub if_none : {X : Type 0} (o : Option X) (P Q : Type 0) → (P → Q) → IfNone o P → IfNone o Q
if_none None P Q f p = f p
if_none (Some x) P Q f p = tt
