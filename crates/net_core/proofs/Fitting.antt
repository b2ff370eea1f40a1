-- What sites keep when one of them changes, or the tree does.
use Rattle.std.proofs.Common.{◌≡◌, ℕ, zero, suc, ◌<◌, ◌^◌, List, [], ◌∷◌, Some, Result, Ok}
use Rattle.std.proofs.Common.{Err, refl, sym, ap, ◌∙◌, arith, slice_get}
use Rattle.std.specs.Prelude.{slice_set, slice_index_or, IsTrue, IfOk, OnOk, OnErr}
use Rattle.std.proofs.lemmas.Option.{get_or_from_slice_get}
use Rattle.chem_model.specs.Each.{Each}
use Rattle.env_store.specs.CodeParts.{CodeParts}
use Rattle.loc_tree.specs.Tree.{Tree, IsFresh, bare}
use Rattle.chem_laws.proofs.Lists.{Each-weaker}
use Rattle.net_laws.specs.Site.{Site}
use Rattle.net_laws.proofs.Posting.{each_set}
use Rattle.net_laws.proofs.Holds.{each_get}
use Rattle.site_solution.specs.InTree.{is_in_tree}
use Rattle.site_solution.specs.InCode.{is_in_code}
use Rattle.site_solution.specs.Draws.{all_drawn, CanDraw}
use Rattle.site_solution.specs.Staying.{CanAct, StillFits, HasReceived}
use Rattle.net_core.specs.inside.AtSites.{AllStayFit}
use Rattle.net_core.specs.inside.Fitting.{AreNumbered}
use Rattle.net_core.specs.Whole.{AllFit}

-- one site
pub fits_at : (c : CodeParts) (t : Tree) (sites : List Site) (i : ℕ) (s : Site) → AllFit c t sites
    → slice_get sites i ≡ Some s → CanAct c t s
fits_at c t sites i s h at = record {
  in_tree = each_get (λ (u : Site). IsTrue (is_in_tree t u)) sites i s at h.in_tree;
  in_code = each_get (λ (u : Site). IsTrue (is_in_code c t u)) sites i s at h.in_code;
  draws = each_get (CanDraw t) sites i s at h.draws;
}

pub all_fit_set : (c : CodeParts) (t : Tree) (sites : List Site) (i : ℕ) (s : Site)
    → AllFit c t sites → CanAct c t s → AllFit c t (slice_set sites i s)
all_fit_set c t sites i s h fits = record {
  in_tree = each_set (λ (u : Site). IsTrue (is_in_tree t u)) sites i s h.in_tree fits.in_tree;
  in_code = each_set (λ (u : Site). IsTrue (is_in_code c t u)) sites i s h.in_code fits.in_code;
  draws = each_set (CanDraw t) sites i s h.draws fits.draws;
}

-- the room of a tree is nothing to the sites
draws_bare : (t : Tree) (ss : List Site) → Each (CanDraw t) ss → Each (CanDraw (bare t)) ss
draws_bare t [] h = tt
draws_bare t (s ∷ ss) h =
    (record { few = h.0.few; drawn = h.0.drawn; fresh = h.0.fresh }, draws_bare t ss h.1)

draws_full : (t : Tree) (ss : List Site) → Each (CanDraw (bare t)) ss → Each (CanDraw t) ss
draws_full t [] h = tt
draws_full t (s ∷ ss) h =
    (record { few = h.0.few; drawn = h.0.drawn; fresh = h.0.fresh }, draws_full t ss h.1)

pub fit_bare : (c : CodeParts) (t : Tree) (sites : List Site) → AllFit c t sites
    → AllFit c (bare t) sites
fit_bare c t sites h =
    record { in_tree = h.in_tree; in_code = h.in_code; draws = draws_bare t sites h.draws }

pub fit_full : (c : CodeParts) (t : Tree) (sites : List Site) → AllFit c (bare t) sites
    → AllFit c t sites
fit_full c t sites h =
    record { in_tree = h.in_tree; in_code = h.in_code; draws = draws_full t sites h.draws }

-- ---- after an event

pub ok_both : {A E : Type 0} (P Q R : Type 0) (r : Result A E) → (P → Q → R) → IfOk r (λ _. P)
    → IfOk r (λ _. Q) → OnOk r R
ok_both P Q R (Ok x) f p q = f p q
ok_both P Q R (Err e) f p q = tt

pub on_ok : {A E : Type 0} (P R : Type 0) (r : Result A E) → (P → R) → OnOk r P → OnOk r R
on_ok P R (Ok x) f p = f p
on_ok P R (Err e) f p = tt

pub on_ok_both : {A E : Type 0} (P Q R : Type 0) (r : Result A E) → (P → Q → R) → OnOk r P
    → OnOk r Q → OnOk r R
on_ok_both P Q R (Ok x) f p q = f p q
on_ok_both P Q R (Err e) f p q = tt

pub on_err : {A E : Type 0} (P : Type 0) (r : Result A E) → P → OnErr r P
on_err P (Ok x) p = tt
on_err P (Err e) p = p

pub both_err : {A E : Type 0} {P Q R : Type 0} (r : Result A E) → (P → Q → R) → OnErr r P
    → OnErr r Q → OnErr r R
both_err (Ok x) f p q = tt
both_err (Err e) f p q = f p q

-- a member of a list is set to itself
pub set_same : {X : Type 0} (xs : List X) (i : ℕ) (x : X) → slice_get xs i ≡ Some x
    → slice_set xs i x ≡ xs
set_same [] i x e = refl
set_same (y ∷ xs) zero x e = let same : y ≡ x = cc in ap (λ z. z ∷ xs) (sym same)
set_same (y ∷ xs) (suc i) x e = ap (λ r. y ∷ r) (set_same xs i x e)

pub unchanged_set : {X : Type 0} (xs : List X) (i : ℕ) (x d new : X) → slice_get xs i ≡ Some x
    → new ≡ slice_index_or xs i d → slice_set xs i new ≡ xs
unchanged_set xs i x d new at same =
    ap (slice_set xs i) (same ∙ get_or_from_slice_get xs i x d at) ∙ set_same xs i x at

pub none_set : {X A E : Type 0} (xs : List X) (i : ℕ) (x d new : X) (r : Result A E)
    → slice_get xs i ≡ Some x → OnErr r (new ≡ slice_index_or xs i d)
    → OnErr r (slice_set xs i new ≡ xs)
none_set xs i x d new (Ok a) at same = tt
none_set xs i x d new (Err e) at same = unchanged_set xs i x d new at same

pub fit_stays : (c : CodeParts) (t : Tree) (sites : List Site) → AllFit c t sites
    → AllStayFit c t sites
fit_stays c t sites h = record {
  in_tree = h.in_tree;
  in_code = h.in_code;
  drawn =
      Each-weaker (CanDraw t) (λ (s : Site). IsTrue (all_drawn s)) (λ s d. d.drawn) sites h.draws;
  fresh = Each-weaker (CanDraw t) (λ (s : Site). IsFresh t s.number s.made) (λ s d. d.fresh) sites
      h.draws;
}

pub stay_set : (c : CodeParts) (t : Tree) (sites : List Site) (i : ℕ) (s : Site)
    → AllStayFit c t sites → HasReceived c t s → AllStayFit c t (slice_set sites i s)
stay_set c t sites i s h fits = record {
  in_tree = each_set (λ (u : Site). IsTrue (is_in_tree t u)) sites i s h.in_tree fits.all_there;
  in_code = each_set (λ (u : Site). IsTrue (is_in_code c t u)) sites i s h.in_code fits.in_code;
  drawn = each_set (λ (u : Site). IsTrue (all_drawn u)) sites i s h.drawn fits.drawn;
  fresh = each_set (λ (u : Site). IsFresh t u.number u.made) sites i s h.fresh fits.fresh;
}

-- where no site has made too many numbers
pub stay_draws : (t : Tree) (sites : List Site) → Each (λ (s : Site). IsTrue (all_drawn s)) sites
    → Each (λ (s : Site). IsFresh t s.number s.made) sites
    → Each (λ (s : Site). s.made < 2 ^ 63) sites → Each (CanDraw t) sites
stay_draws t [] d f m = tt
stay_draws t (s ∷ ss) d f m =
    (record { few = m.0; drawn = d.0; fresh = f.0 }, stay_draws t ss d.1 f.1 m.1)

pub stays_fit : (c : CodeParts) (t : Tree) (sites : List Site) → AllStayFit c t sites
    → Each (λ (s : Site). s.made < 2 ^ 63) sites → AllFit c t sites
stays_fit c t sites h few = record {
  in_tree = h.in_tree;
  in_code = h.in_code;
  draws = stay_draws t sites h.drawn h.fresh few;
}

-- the tree changes and each site keeps what it has
pub all_still : (c : CodeParts) (t u : Tree) (sites : List Site)
    → ((s : Site) → StillFits c t s u s) → AllFit c t sites → AllFit c u sites
all_still c t u sites still h = record {
  in_tree = Each-weaker (λ (s : Site). IsTrue (is_in_tree t s))
      (λ (s : Site). IsTrue (is_in_tree u s)) (λ s d. (still s).in_tree d) sites h.in_tree;
  in_code = Each-weaker (λ (s : Site). IsTrue (is_in_code c t s))
      (λ (s : Site). IsTrue (is_in_code c u s)) (λ s d. (still s).in_code d) sites h.in_code;
  draws = Each-weaker (CanDraw t) (CanDraw u) (λ s d. (still s).draws d) sites h.draws;
}

-- or each but one, which has the number of its place
each_index : {X : Type 0} (P Q : X → Type 0) (xs : List X)
    → ((j : ℕ) (x : X) → slice_get xs j ≡ Some x → P x → Q x) → Each P xs → Each Q xs
each_index P Q [] f h = tt
each_index P Q (x ∷ xs) f h = (f 0 x refl h.0, each_index P Q xs (λ j y e. f (suc j) y e) h.1)

each_index_set : {X : Type 0} (P Q : X → Type 0) (xs : List X) (i : ℕ) (y : X)
    → ((j : ℕ) (x : X) → slice_get xs j ≡ Some x → (j ≡ i → ⊥) → P x → Q x) → Each P xs → Q y
    → Each Q (slice_set xs i y)
each_index_set P Q [] i y f h q = tt
each_index_set P Q (x ∷ xs) zero y f h q =
    (q, each_index P Q xs (λ j z e. f (suc j) z e (λ same. absurd (omega arith))) h.1)
each_index_set P Q (x ∷ xs) (suc i) y f h q = (
  f 0 x refl (λ same. absurd (omega arith)) h.0,
  each_index_set P Q xs i y (λ j z e far. f (suc j) z e (λ same. far (omega arith))) h.1 q,
)

pub others_stay : (c : CodeParts) (t u : Tree) (sites : List Site) (i : ℕ) (new : Site)
    → AreNumbered sites → ((s : Site) → (s.number ≡ i → ⊥) → StillFits c t s u s) → AllFit c t sites
    → HasReceived c u new → AllStayFit c u (slice_set sites i new)
others_stay c t u sites i new at still h fits = record {
  in_tree =
      each_index_set (λ (s : Site). IsTrue (is_in_tree t s)) (λ (s : Site). IsTrue (is_in_tree u s))
      sites i new (λ j s e far d. (other j s e far).in_tree d) h.in_tree fits.all_there;
  in_code = each_index_set (λ (s : Site). IsTrue (is_in_code c t s))
      (λ (s : Site). IsTrue (is_in_code c u s)) sites i new
      (λ j s e far d. (other j s e far).in_code d) h.in_code fits.in_code;
  drawn = each_index_set (CanDraw t) (λ (s : Site). IsTrue (all_drawn s)) sites i new
      (λ j s e far d. ((other j s e far).draws d).drawn) h.draws fits.drawn;
  fresh = each_index_set (CanDraw t) (λ (s : Site). IsFresh u s.number s.made) sites i new
      (λ j s e far d. ((other j s e far).draws d).fresh) h.draws fits.fresh;
}
  where
    other : (j : ℕ) (s : Site) → slice_get sites j ≡ Some s → (j ≡ i → ⊥) → StillFits c t s u s
    other j s e far = still s (λ same. far (sym (at j s e) ∙ same))
