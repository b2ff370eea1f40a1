-- What the opening of a site leaves.
use Rattle.std.proofs.Common.{◌≡◌, ℕ, zero, suc, ◌+◌, ◌<◌, ◌≤◌, ◌^◌, List, [], ◌∷◌, ◌++◌, length}
use Rattle.std.proofs.Common.{Option, Some, None, Bool, true, false, refl, sym, ap, ◌∙◌, subst}
use Rattle.std.proofs.Common.{arith, eq-eqb}
use Rattle.std.specs.Prelude.{slice_get, ◌&&◌, ◌||◌, ◌==◌, not, nat_lt}
use Rattle.chem_model.specs.declared.name.Loc.{Loc}
use Rattle.chem_model.specs.declared.event.Out.{Out}
use Rattle.chem_model.specs.Solution.{same_loc}
use Rattle.chem_model.specs.Opening.{root_of}
use Rattle.chem_laws.proofs.Within.{same_loc_refl}
use Rattle.env_store.specs.declared.code.SiteCode.{SiteCode}
use Rattle.env_store.specs.CodeParts.{CodeParts}
use Rattle.env_store.specs.Running.{Ran, loc_at, site_made}
use Rattle.loc_tree.specs.Tree.{Tree}
use Rattle.net_laws.specs.Site.{Told, Site}
use Rattle.net_laws.specs.Net.{among}
use Rattle.net_laws.specs.Kept.{IsKept}
use Rattle.net_laws.specs.Opening.{empty_site}
use Rattle.net_laws.specs.Opened.{opened_by, not_in}
use Rattle.net_laws.specs.Posting.{Posted, Outcome, pour_here, posted_of}
use Rattle.net_laws.specs.Parcels.{all_told}
use Rattle.net_laws.specs.ByCode.{told_by}
use Rattle.code_run.specs.declared.made.Run.{Run}
use Rattle.code_run.specs.Posts.{all_posted, run_of}
use Rattle.code_run.specs.RunFacts.{HasRunFacts}
use Rattle.code_run.proofs.Runs.{posted_back}
use Rattle.site_solution.specs.Held.{taken_at}
use Rattle.site_solution.specs.Draws.{all_drawn, is_drawn}
use Rattle.site_solution.specs.Commit.{CanLeave}
use Rattle.site_solution.specs.Answers.{Answers, AreFlights}
use Rattle.site_solution.specs.declared.effects.Effects.{Effects}
use Rattle.site_solution.proofs.Leaves.{run-leaves}
use Rattle.reducer.specs.Opens.{Opens}

abbrev pub bare : ℕ → Site
bare i = empty_site i 1 (root_of i ∷ [])

pub bare_kept : (i : ℕ) → IsKept (bare i)
bare_kept i = record {
  queues = tt;
  stuck = tt;
  apart = tt;
  groups_here = tt;
  stuck_here = tt;
  stuck_home = tt;
  requests_here = tt;
}

or_true : (b : Bool) → (b || true) && true ≡ true
or_true true = refl
or_true false = refl

and_true : (b : Bool) → b ≡ true → b && true ≡ true
and_true true e = refl
and_true false e = e

pub bare_drawn : (i : ℕ) → all_drawn (bare i) ≡ true
bare_drawn i = and_true (is_drawn i 1 i 0 && true) (or_true (not (i == i)))

pub root_here : (i : ℕ) → among (root_of i ∷ []) (loc_at i 0) ≡ true
root_here i = ap (λ b. b || false) (same_loc_refl (loc_at i 0))

-- what it makes may be left at the root alone
pub opening_leaves : (c : CodeParts) (i : ℕ) (s : Site) (r : Run) → s ≡ bare i
    → HasRunFacts c i (loc_at i 0) [] 1 r
    → CanLeave r.births (all_told (told_by c) r.groups) (all_posted r.posts) s
opening_leaves c i s r same run =
    subst (λ (u : Site). CanLeave r.births (all_told (told_by c) r.groups) (all_posted r.posts) u)
    (sym same)
    (run-leaves c (bare i) (loc_at i 0) [] r run (root_here i) (bare_kept i) (λ j. omega arith)
    (bare_drawn i) (omega (arith, run.below)))

-- ---- what is left, and handed out

abbrev pub IsLeft : CodeParts → Tree → Site → Run → Site → Effects → Type 0
IsLeft c t s r new e = Answers (pour_here t r.next r.births (all_told (told_by c) r.groups)
    (all_posted r.posts) (taken_at 0 [] s)) r.outs r.births new e

pub as_opens :
    (c : CodeParts) (t : Tree) (i : ℕ) (site : SiteCode) (r : Run) (s new : Site) (made e : Effects)
    → s ≡ bare i → r ≡ run_of (site_made c i site) → IsLeft c t s r new made → e.sends ≡ made.sends
    → e.outs ≡ made.outs → e.births ≡ not_in t made.births → Opens c t i site new e
as_opens c t i site r s new made e same run left sends outs births =
    let a = site_made c i site in
    let at : IsLeft c t (bare i) (run_of a) new made =
    subst (λ (u : Site). IsLeft c t u (run_of a) new made) same
    (subst (λ (q : Run). IsLeft c t s q new made) run left) in
    let back : Answers (opened_by c t i site) a.outs a.births new made =
    subst (λ (ps : List Posted).
    Answers (pour_here t a.next a.births (all_told (told_by c) a.groups) ps (bare i))
    a.outs a.births new made) (posted_back (posted_of a.atoms)) at in
    record {
      site = back.site;
      sends = subst (λ fs. AreFlights (opened_by c t i site).sends fs) (sym sends) back.sends;
      outs = outs ∙ back.outs;
      births = births ∙ ap (not_in t) back.births;
    }
