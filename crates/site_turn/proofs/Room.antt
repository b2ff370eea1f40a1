-- How much room a tree keeps for births is nothing to what runs under it.
use Rattle.std.proofs.Common.{◌≡◌, ℕ, List, ◌∷◌, [], ◌++◌, refl, sym, ap, ◌∙◌}
use Rattle.chem_model.specs.declared.name.Loc.{Loc}
use Rattle.env_store.specs.CodeParts.{CodeParts}
use Rattle.env_store.specs.Running.{Ran}
use Rattle.loc_tree.specs.Tree.{Tree, bare, with_birth}
use Rattle.net_laws.specs.Site.{Site}
use Rattle.net_laws.specs.Net.{with_births}
use Rattle.net_laws.specs.Opened.{AreNew}
use Rattle.net_laws.specs.Holding.{host_all, lay_all}
use Rattle.net_laws.specs.Posting.{Posted, a_message, a_request, posted_of, Outcome, post, post_all}
use Rattle.net_laws.specs.Parcels.{all_told}
use Rattle.net_laws.specs.ByCode.{told_by, run_here}
use Rattle.site_turn.specs.After.{IsSameTree}

bare_same : (t u : Tree) → IsSameTree t u → bare u ≡ bare t
bare_same t u h = λ j. record { roots = h.roots j; entries = h.entries j; spare = 0 }

post_bare : (t : Tree) (p : Posted) (s : Site) → post (bare t) p s ≡ post t p s
post_bare t (a_message l m) s = refl
post_bare t (a_request q) s = refl

pub all_bare : (t : Tree) (ps : List Posted) (s : Site) → post_all (bare t) ps s ≡ post_all t ps s
all_bare t [] s = refl
all_bare t (p ∷ ps) s =
    ap (λ (o : Outcome). let later = post_all (bare t) ps o.site in
    record { site = later.site; sends = o.sends ++ later.sends }) (post_bare t p s)
    ∙ ap
    (λ (later : Outcome). record { site = later.site; sends = (post t p s).sends ++ later.sends })
    (all_bare t ps (post t p s).site)

pub run_bare : (c : CodeParts) (t : Tree) (a : Ran) (s : Site)
    → run_here c (bare t) a s ≡ run_here c t a s
run_bare c t a s = all_bare t (posted_of a.atoms)
    (lay_all (all_told (told_by c) a.groups) (host_all a.births (record s { made = a.next })))

pub run_same : (c : CodeParts) (t u : Tree) (a : Ran) (s : Site) → IsSameTree t u
    → run_here c u a s ≡ run_here c t a s
run_same c t u a s h = sym (run_bare c u a s)
    ∙ ap (λ (v : Tree). run_here c v a s) (bare_same t u h) ∙ run_bare c t a s

pub births_bare : (t : Tree) (i : ℕ) (ls : List Loc)
    → with_births (bare t) i ls ≡ bare (with_births t i ls)
births_bare t i [] = refl
births_bare t i (l ∷ ls) = births_bare (with_birth t l i) i ls

pub new_full : (t : Tree) (i : ℕ) (ls : List Loc) → AreNew (bare t) i ls → AreNew t i ls
new_full t i [] h = tt
new_full t i (l ∷ ls) h = (h.0, new_full (with_birth t l i) i ls h.1)
