-- All sites of a program are opened, one after another.
use Rattle.std.proofs.Common.{◌≡◌, ℕ, zero, suc, ◌+◌, ◌<◌, List, [], ◌∷◌, ◌++◌, length, drop}
use Rattle.std.proofs.Common.{Option, Some, None, Bool, true, false, cond, refl, sym, ap, ◌∙◌}
use Rattle.std.proofs.Common.{subst, arith, slice_get, ◌⊎◌, inl, inr, length-append, append_assoc}
use Rattle.std.proofs.Common.{eqb-true}
use Rattle.std.specs.Prelude.{is_some, nat_eq, ◌&&◌, ◌||◌}
use Rattle.std.specs.List.{Contains}
use Rattle.std.specs.Map.{lookup}
use Rattle.std.proofs.lemmas.Bool.Decides.{nat_tests}
use Rattle.std.proofs.lemmas.Option.{slice_get_within}
use Rattle.chem_model.specs.declared.name.Loc.{Loc}
use Rattle.chem_model.specs.Each.{Each}
use Rattle.chem_model.specs.ProgramFacts.{ProgramTerms, IsProgram}
use Rattle.chem_model.specs.Opening.{root_of}
use Rattle.chem_model.specs.Solution.{same_loc}
use Rattle.chem_laws.proofs.Lists.{Each-append, either_true, append_nil}
use Rattle.chem_laws.proofs.Within.{same_loc_is}
use Rattle.env_store.specs.declared.code.SiteCode.{SiteCode}
use Rattle.env_store.specs.CodeParts.{CodeParts}
use Rattle.env_store.specs.CodeFacts.{IsCode}
use Rattle.env_store.specs.Reading.{IsCodeOf}
use Rattle.env_store.specs.Running.{Ran, site_made}
use Rattle.loc_tree.specs.declared.tree.Spot.{Spot}
use Rattle.loc_tree.specs.Tree.{Tree, spot, is_pair_of, unmarked, roots_from, unmarked_roots}
use Rattle.loc_tree.specs.Tree.{with_birth, with_room, bare}
use Rattle.loc_tree.proofs.Spots.{same_loc_refl, same_loc_sym}
use Rattle.code_run.specs.RunFacts.{AreBorn}
use Rattle.code_run.proofs.Facts.{opening_facts}
use Rattle.wire_packet.specs.MessageFacts.{MessageParts}
use Rattle.wire_packet.specs.declared.packet.Waiting.{Waiting}
use Rattle.net_laws.specs.Site.{Told, Group, Site}
use Rattle.net_laws.specs.Net.{Net, among, address, with_births}
use Rattle.net_laws.specs.Holding.{in_groups, put_in, put, put_all, new_group, lay, lay_all}
use Rattle.net_laws.specs.Holding.{host_all}
use Rattle.net_laws.specs.Posting.{Posted, a_message, a_request, posted_of, Outcome, post, post_all}
use Rattle.net_laws.specs.Parcels.{all_told}
use Rattle.net_laws.specs.ByCode.{told_by}
use Rattle.net_laws.specs.Opening.{empty_site}
use Rattle.net_laws.specs.Opened.{not_in, opened_by, with_opened, all_opened, opened_net, with_top}
use Rattle.net_laws.specs.Opened.{with_tops, unopened, AreNew, BearNew}
use Rattle.net_laws.proofs.FirstTree.{tops_roots}
use Rattle.net_laws.proofs.Opened.{openings_bear_new}
use Rattle.net_laws.proofs.Trees.{or_else, none_behind, lookup_behind, births_roots}
use Rattle.site_solution.specs.Answers.{AreFlights}
use Rattle.site_solution.specs.Staying.{CanAct}
use Rattle.site_solution.specs.declared.effects.Effects.{Effects}
use Rattle.site_solution.proofs.Staying.{births_keep_others}
use Rattle.reducer.specs.Opens.{HasTops, IsOpenedFit, Opens}
use Rattle.reducer.proofs.OpeningFit.{root_top}
use Rattle.site_turn.specs.Opening.{tree_before, AreHanded, AreOpened}
use Rattle.site_turn.specs.inside.Opening.{IsUpTo}
use Rattle.site_turn.specs.declared.opening.OpenedSites.{OpenedSites}
use Rattle.site_turn.proofs.Room.{run_bare, births_bare, new_full}

-- ---- lists

drop_next : {X : Type 0} (xs : List X) (n : ℕ) (x : X) → slice_get xs n ≡ Some x
    → drop n xs ≡ x ∷ drop (n + 1) xs
drop_next [] n x e = cc
drop_next (y ∷ ys) zero x e = let same : y ≡ x = cc in ap (λ z. z ∷ ys) same
drop_next (y ∷ ys) (suc n) x e =
    let later = drop_next ys n x e in
    let place : suc (n + 1) ≡ suc n + 1 = omega arith in
    later ∙ ap (λ (k : ℕ). x ∷ drop k (y ∷ ys)) place

pub get_append : {X : Type 0} (xs : List X) (x y : X) (j : ℕ) → slice_get (xs ++ x ∷ []) j ≡ Some y
    → (slice_get xs j ≡ Some y) ⊎ ((j ≡ length xs) × (x ≡ y))
get_append [] x y zero e = inr (refl, cc)
get_append [] x y (suc j) e = cc
get_append (z ∷ zs) x y zero e = inl e
get_append (z ∷ zs) x y (suc j) e =
    elim (get_append zs x y j e) [ inl h ↦ inl h | inr h ↦ inr (ap suc h.0, h.1) ]

each_index : {X : Type 0} (P Q : X → Type 0) (xs : List X)
    → ((j : ℕ) (x : X) → slice_get xs j ≡ Some x → P x → Q x) → Each P xs → Each Q xs
each_index P Q [] f h = tt
each_index P Q (x ∷ xs) f h = (f 0 x refl h.0, each_index P Q xs (λ j y e. f (suc j) y e) h.1)

-- ---- births

module _ (i : ℕ) where
  pub birth_spot : (t : Tree) (b q : Loc)
      → spot (with_birth t b i) q ≡ or_else (spot t q) (lookup (is_pair_of q) (unmarked b i ∷ []))
  birth_spot t b q = lookup_behind q t.entries (unmarked b i ∷ [])

  -- what is in the tree stays as it is
  pub still_there : (bs : List Loc) (t : Tree) (q : Loc) (p : Spot) → spot t q ≡ Some p
      → spot (with_births t i bs) q ≡ Some p
  still_there [] t q p e = e
  still_there (b ∷ bs) t q p e = still_there bs (with_birth t b i) q p
      (birth_spot t b q ∙ ap (λ o. or_else o (lookup (is_pair_of q) (unmarked b i ∷ []))) e)

  not_born : (q b : Loc) → (q.site ≡ i → ⊥) → b.site ≡ i → is_pair_of q (b.site, b.k) ≡ false
  not_born q b other own = grind (arith, nat_tests)

  -- and so does what is of another site
  still_as : (bs : List Loc) (t : Tree) (q : Loc) → Each (λ (b : Loc). b.site ≡ i) bs
      → (q.site ≡ i → ⊥) → spot (with_births t i bs) q ≡ spot t q
  still_as [] t q own other = refl
  still_as (b ∷ bs) t q own other =
      still_as bs (with_birth t b i) q own.1 other
      ∙ birth_spot t b q
      ∙ ap (λ (v : Bool).
      or_else (spot t q) (cond v (Some (record { number = i; marked = false })) None))
      (not_born q b other own.0)
      ∙ none_behind (spot t q)

born_own : (i k n : ℕ) (bs : List Loc) → AreBorn i k n bs → Each (λ (b : Loc). b.site ≡ i) bs
born_own i k n [] h = tt
born_own i k n (b ∷ bs) h = (h.0.0, born_own i (b.k + 1) n bs h.1)

own_not_in : (P : Loc → Type 0) (t : Tree) (bs : List Loc) → Each P bs → Each P (not_in t bs)
own_not_in P t [] h = tt
own_not_in P t (b ∷ bs) h = go (is_some (spot t b)) (own_not_in P t bs h.1)
  where
    go : (u : Bool) → Each P (not_in t bs) → Each P (cond u (not_in t bs) (b ∷ not_in t bs))
    go true rest = rest
    go false rest = (h.0, rest)

not_in_bare : (t : Tree) (bs : List Loc) → not_in (bare t) bs ≡ not_in t bs
not_in_bare t [] = refl
not_in_bare t (b ∷ bs) = ap (λ ls. cond (is_some (spot t b)) ls (b ∷ ls)) (not_in_bare t bs)

-- ---- the number of a site stays

put_number : (l : Loc) (m : MessageParts) (s : Site) → (put l m s).number ≡ s.number
put_number l m s = go (in_groups s.groups m)
  where
    go : (o : Option (List Group)) → (put_in o l m s).number ≡ s.number
    go None = refl
    go (Some gs) = refl

all_put_number : (ws : List Waiting) (s : Site) → (put_all ws s).number ≡ s.number
all_put_number [] s = refl
all_put_number (w ∷ ws) s = all_put_number ws (put w.loc w.msg s) ∙ put_number w.loc w.msg s

all_laid_number : (ds : List Told) (s : Site) → (lay_all ds s).number ≡ s.number
all_laid_number [] s = refl
all_laid_number (d ∷ ds) s = all_laid_number ds (lay d s)
    ∙ all_put_number s.stuck (record s { groups = s.groups ++ new_group d ∷ []; stuck = [] })

post_number : (t : Tree) (p : Posted) (s : Site) → (post t p s).site.number ≡ s.number
post_number t (a_message l m) s = go (among s.locs l)
  where
    go : (u : Bool)
        → (cond {A = Outcome} u (record { site = put l m s; sends = [] })
        (record { site = s; sends = record { target = address t l; msg = m } ∷ [] })).site.number
        ≡ s.number
    go true = put_number l m s
    go false = refl
post_number t (a_request q) s = refl

all_posted_number : (t : Tree) (ps : List Posted) (s : Site)
    → (post_all t ps s).site.number ≡ s.number
all_posted_number t [] s = refl
all_posted_number t (p ∷ ps) s = all_posted_number t ps (post t p s).site ∙ post_number t p s

opened_number : (c : CodeParts) (t : Tree) (i : ℕ) (site : SiteCode)
    → (opened_by c t i site).site.number ≡ i
opened_number c t i site =
    let a = site_made c i site in
    let start = host_all a.births (record (empty_site i 1 (root_of i ∷ [])) { made = a.next }) in
    all_posted_number t (posted_of a.atoms) (lay_all (all_told (told_by c) a.groups) start)
    ∙ all_laid_number (all_told (told_by c) a.groups) start

-- ---- one site more

act_bare : (c : CodeParts) (t u : Tree) (s : Site) → bare t ≡ bare u → CanAct c t s → CanAct c u s
act_bare c t u s same h =
    let there : CanAct c (bare u) s = subst (λ (v : Tree). CanAct c v s) same (record {
      in_tree = h.in_tree;
      in_code = h.in_code;
      draws = record { few = h.draws.few; drawn = h.draws.drawn; fresh = h.draws.fresh };
    }) in
    record {
      in_tree = there.in_tree;
      in_code = there.in_code;
      draws =
          record { few = there.draws.few; drawn = there.draws.drawn; fresh = there.draws.fresh };
    }

module _ (c : CodeParts) (kept : IsCode c) (n : ℕ) (old : OpenedSites) (upto : IsUpTo c n old)
    (site : SiteCode) (at : slice_get c.sites n ≡ Some site) (s : Site) (e : Effects)
    (opens : Opens c old.tree n site s e) where
  abbrev a : Ran
  a = site_made c n site

  abbrev before : Net
  before = upto.net

  births_own : Each (λ (b : Loc). b.site ≡ n) e.births
  births_own =
      let own = born_own n 1 a.next a.births (opening_facts c kept n site at).births in
      subst (Each (λ (b : Loc). b.site ≡ n)) (sym opens.births)
      (own_not_in (λ (b : Loc). b.site ≡ n) old.tree a.births own)

  births_are : e.births ≡ not_in before.tree a.births
  births_are = opens.births ∙ sym (not_in_bare old.tree a.births)
      ∙ ap (λ (t : Tree). not_in t a.births) upto.tree

  head :
      AreNew before.tree n (not_in before.tree a.births)
      × BearNew c (n + 1) (drop (n + 1) c.sites) (with_opened c n site before)
  head = subst (λ (sites : List SiteCode). BearNew c n sites before) (drop_next c.sites n site at)
      upto.new

  -- the births are new, with whatever room the tree has
  pub births_first : (k : ℕ) → AreNew (with_room old.tree k) n e.births
  births_first k =
      let here = subst (AreNew before.tree n) (sym births_are) head.0 in
      new_full (with_room old.tree k) n e.births
      (subst (λ (t : Tree). AreNew t n e.births) (sym upto.tree) here)

  module _ (new : OpenedSites) (k : ℕ)
      (fits : IsOpenedFit c (with_births old.tree n e.births) s)
      (sites : new.sites.items ≡ old.sites.items ++ s ∷ [])
      (tree : new.tree ≡ with_births (with_room old.tree k) n e.births)
      (handed : new.handed.items ≡ old.handed.items ++ e ∷ []) where
    abbrev born : Tree
    born = with_births old.tree n e.births

    bare_tree : bare new.tree ≡ bare born
    bare_tree = ap bare tree ∙ sym (births_bare (with_room old.tree k) n e.births)
        ∙ births_bare old.tree n e.births

    opened_is : opened_by c before.tree n site ≡ opened_by c old.tree n site
    opened_is = ap (λ (t : Tree). opened_by c t n site) (sym upto.tree)
        ∙ run_bare c old.tree a (empty_site n 1 (root_of n ∷ []))

    after_tree : bare new.tree ≡ (with_opened c n site before).tree
    after_tree = bare_tree ∙ sym (births_bare old.tree n e.births)
        ∙ ap (λ (t : Tree). with_births t n e.births) upto.tree
        ∙ ap (with_births before.tree n) births_are

    spot_new : (l : Loc) → spot new.tree l ≡ spot born l
    spot_new l = ap (λ (u : Tree). spot u l) bare_tree

    number_is : s.number ≡ n
    number_is = ap (λ (u : Site). u.number) opens.site ∙ opened_number c old.tree n site

    fit_after : Each (CanAct c new.tree) new.sites.items
    fit_after = subst (Each (CanAct c new.tree)) (sym sites)
        (Each-append (CanAct c new.tree) old.sites.items (s ∷ [])
        (each_index (CanAct c old.tree) (CanAct c new.tree) old.sites.items still upto.fit) (
          act_bare c born new.tree s (sym bare_tree) (record {
            in_tree = fits.there;
            in_code = fits.coded;
            draws = record { few = fits.few; drawn = fits.drawn; fresh = fits.fresh };
          }),
          tt,
        ))
      where
        other : (j : ℕ) (x : Site) → slice_get old.sites.items j ≡ Some x → x.number ≡ n → ⊥
        other j x h same =
            let number = upto.numbered j x h in
            let within = slice_get_within old.sites.items j x h in
            let many = upto.many in
            omega arith

        still : (j : ℕ) (x : Site) → slice_get old.sites.items j ≡ Some x → CanAct c old.tree x
            → CanAct c new.tree x
        still j x h act =
            let fit = births_keep_others c old.tree n e.births x births_own (other j x h) in
            act_bare c born new.tree x (sym bare_tree) (record {
              in_tree = fit.in_tree act.in_tree;
              in_code = fit.in_code act.in_code;
              draws = fit.draws act.draws;
            })

    handed_next : (es : List Effects)
        → AreHanded c (n + 1) (drop (n + 1) c.sites) (with_opened c n site before).tree es
        → AreHanded c 0 c.sites (tree_before c) (new.handed.items ++ es)
    handed_next es h =
        let flights : AreFlights (opened_by c before.tree n site).sends e.sends =
        subst (λ (x : Outcome). AreFlights x.sends e.sends) (sym opened_is) opens.sends in
        let first : AreHanded c n (site ∷ drop (n + 1) c.sites) before.tree (e ∷ es) =
        (opens.outs, flights, h) in
        let here : AreHanded c n (drop n c.sites) before.tree (e ∷ es) =
        subst (λ (ss : List SiteCode). AreHanded c n ss before.tree (e ∷ es))
        (sym (drop_next c.sites n site at)) first in
        subst (AreHanded c 0 c.sites (tree_before c))
        (sym (ap (λ (xs : List Effects). xs ++ es) handed
        ∙ append_assoc old.handed.items (e ∷ []) es)) (upto.handed (e ∷ es) here)

    pub opened_next : IsUpTo c (n + 1) new
    opened_next = record {
      net = with_opened c n site before;
      rest = ap (λ (ss : List SiteCode). all_opened c n ss before)
          (sym (drop_next c.sites n site at)) ∙ upto.rest;
      new = head.1;
      handed = handed_next;
      sites_are = sites ∙ ap (λ (xs : List Site). xs ++ s ∷ []) upto.sites_are
          ∙ ap (λ (x : Site). before.sites ++ x ∷ [])
          (opens.site ∙ ap (λ (x : Outcome). x.site) (sym opened_is));
      tree = after_tree;
      tops = λ l h. spot_new l
          ∙ still_there n e.births old.tree l (record { number = l.site; marked = false })
          (upto.tops l h);
      no_others = λ l less h. upto.no_others l (omega arith) (ap is_some
          (sym (spot_new l ∙ still_as n e.births old.tree l births_own (λ same. omega arith))) ∙ h);
      numbered = numbered;
      many = ap length sites ∙ length-append old.sites.items (s ∷ []) ∙ ap (λ k. k + 1) upto.many;
      roots = ap (λ (u : Tree). u.roots) bare_tree ∙ births_roots e.births old.tree n ∙ upto.roots;
      fit = fit_after;
    }
      where
        numbered : (j : ℕ) (x : Site) → slice_get new.sites.items j ≡ Some x → x.number ≡ j
        numbered j x h =
            elim (get_append old.sites.items s x j
            (ap (λ (ss : List Site). slice_get ss j) (sym sites) ∙ h)) [
              | inl was ↦ upto.numbered j x was
              | inr last ↦
                  ap (λ (v : Site). v.number) (sym last.1) ∙ number_is ∙ sym (last.0 ∙ upto.many)
            ]

pub has_tops : (c : CodeParts) (n : ℕ) (old : OpenedSites) → IsUpTo c n old → HasTops c old.tree n
has_tops c n old upto =
    record { there = upto.tops; no_others = λ l own h. upto.no_others l (omega arith) h }

pub get_some : {X : Type 0} (xs : List X) (i : ℕ) → i < length xs
    → (x : X) × (slice_get xs i ≡ Some x)
get_some [] i h = absurd (omega arith)
get_some (x ∷ xs) zero h = (x, refl)
get_some (x ∷ xs) (suc i) h = get_some xs i (omega arith)

-- ---- all sites

drop_all : {X : Type 0} (xs : List X) → drop (length xs) xs ≡ []
drop_all [] = refl
drop_all (x ∷ xs) = drop_all xs

-- the version is nothing to an opening
opened_as : (c : CodeParts) (i : ℕ) (sites : List SiteCode) (net : Net) (version : ℕ)
    → all_opened c i sites (record net { version = version })
    ≡ record (all_opened c i sites net) { version = version }
opened_as c i [] net version = refl
opened_as c i (site ∷ sites) net version =
    opened_as c (i + 1) sites (with_opened c i site net) version

pub all_are_opened : (c : CodeParts) (n : ℕ) (o : OpenedSites) → n ≡ length c.sites → IsUpTo c n o
    → (version : ℕ) → AreOpened version c o
all_are_opened c n o end h version =
    let past : drop n c.sites ≡ [] = ap (λ k. drop k c.sites) end ∙ drop_all c.sites in
    let own : h.net ≡ opened_net h.net.version c =
    ap (λ (sites : List SiteCode). all_opened c n sites h.net) (sym past) ∙ h.rest in
    let all : record h.net { version = version } ≡ opened_net version c =
    ap (λ (net : Net). record net { version = version }) own
    ∙ sym (opened_as c 0 c.sites (unopened h.net.version c) version) in
    let none : AreHanded c n (drop n c.sites) h.net.tree [] =
    subst (λ (ss : List SiteCode). AreHanded c n ss h.net.tree []) (sym past) tt in
    record {
      sites = h.sites_are ∙ ap (λ (net : Net). net.sites) all;
      tree = h.tree ∙ ap (λ (net : Net). net.tree) all;
      fit = h.fit;
      handed = subst (AreHanded c 0 c.sites (tree_before c)) (append_nil o.handed.items)
          (h.handed [] none);
    }

-- and there is a site for each
pub opened_long : (c : CodeParts) (i : ℕ) (sites : List SiteCode) (net : Net)
    → length (all_opened c i sites net).sites ≡ length net.sites + length sites
opened_long c i [] net = omega arith
opened_long c i (site ∷ sites) net =
    let rest = opened_long c (i + 1) sites (with_opened c i site net) in
    omega (arith, rest, length-append net.sites ((opened_by c net.tree i site).site ∷ []))

-- ---- before any site

root_spot : (i n : ℕ) (l : Loc) (s : Spot) → lookup (is_pair_of l) (roots_from i n) ≡ Some s
    → (s ≡ record { number = l.site; marked = false }) × (l ≡ root_of l.site) × (l.site < i + n)
root_spot i zero l s e = cc
root_spot i (suc n) l s e = go (is_pair_of l (i, 0)) refl e (root_spot (i + 1) n l s)
  where
    both : (a b : Bool) → a && b ≡ true → (a ≡ true) × (b ≡ true)
    both true true e = (refl, refl)
    both true false e = cc
    both false b e = cc

    go : (u : Bool) → is_pair_of l (i, 0) ≡ u
        → cond u (Some (record { number = i; marked = false }))
        (lookup (is_pair_of l) (roots_from (i + 1) n)) ≡ Some s
        → (lookup (is_pair_of l) (roots_from (i + 1) n) ≡ Some s
        → (s ≡ record { number = l.site; marked = false }) × (l ≡ root_of l.site)
        × (l.site < i + 1 + n))
        → (s ≡ record { number = l.site; marked = false }) × (l ≡ root_of l.site)
        × (l.site < i + suc n)
    go true t h ih =
        let same = both (nat_eq l.site i) (nat_eq l.k 0) t in
        let site : l.site ≡ i = eqb-true l.site i same.0 in
        let k : l.k ≡ 0 = eqb-true l.k 0 same.1 in
        let spot_is : record { number = i; marked = false } ≡ s = cc in (
          sym spot_is ∙ (λ j. record { number = sym site j; marked = false }),
          (λ j. record { site = l.site; k = k j }),
          omega arith,
        )
    go false t h ih = let later = ih h in (later.0, later.1, omega (arith, later.2))

top_behind : (t : Tree) (x l : Loc) (o : Option Spot) → spot t x ≡ o
    → spot (with_top o t x) l
    ≡ or_else (spot t l)
    (cond (same_loc x l) (Some (record { number = l.site; marked = false })) None)
top_behind t x l None e =
    lookup_behind l t.entries (unmarked x x.site ∷ [])
    ∙ ap (λ u. or_else (spot t l) (cond u (Some (record { number = x.site; marked = false })) None))
    (same_loc_sym l x) ∙ go (same_loc x l) refl
  where
    go : (u : Bool) → same_loc x l ≡ u
        → or_else (spot t l) (cond u (Some (record { number = x.site; marked = false })) None)
        ≡ or_else (spot t l) (cond u (Some (record { number = l.site; marked = false })) None)
    go true c =
        ap (λ (q : Loc). or_else (spot t l) (Some (record { number = q.site; marked = false })))
        (same_loc_is x l c)
    go false c = refl
top_behind t x l (Some s) e = go (same_loc x l) refl
  where
    go : (u : Bool) → same_loc x l ≡ u
        → spot t l
        ≡ or_else (spot t l) (cond u (Some (record { number = l.site; marked = false })) None)
    go true c =
        let here : spot t l ≡ Some s = ap (spot t) (sym (same_loc_is x l c)) ∙ e in
        here ∙ sym (ap (λ o. or_else o (Some (record { number = l.site; marked = false }))) here)
    go false c = sym (none_behind (spot t l))

tops_spot : (ls : List Loc) (t : Tree) (l : Loc) → spot (with_tops t ls) l ≡ or_else (spot t l)
    (cond (among ls l) (Some (record { number = l.site; marked = false })) None)
tops_spot [] t l = sym (none_behind (spot t l))
tops_spot (x ∷ ls) t l =
    tops_spot ls (with_top (spot t x) t x) l
    ∙ ap
    (λ o. or_else o (cond (among ls l) (Some (record { number = l.site; marked = false })) None))
    (top_behind t x l (spot t x) refl)
    ∙ go (spot t l) (same_loc x l) (among ls l)
  where
    go : (o : Option Spot) (u w : Bool)
        → or_else (or_else o (cond u (Some (record { number = l.site; marked = false })) None))
        (cond w (Some (record { number = l.site; marked = false })) None)
        ≡ or_else o (cond (u || w) (Some (record { number = l.site; marked = false })) None)
    go (Some s) u w = refl
    go None true w = refl
    go None false w = refl

among_is : (ls : List Loc) (l : Loc) → among ls l ≡ true → Contains ls l
among_is [] l e = cc
among_is (x ∷ ls) l e =
    elim (either_true (same_loc x l) (among ls l) e) [
      | inl same ↦ (0, omega arith, same_loc_is x l same)
      | inr later ↦ (let h = among_is ls l later in (suc h.0, omega arith, h.2))
    ]

among-contained : (ls : List Loc) (l : Loc) → Contains ls l → among ls l ≡ true
among-contained [] l (k, less, e) = absurd (omega arith)
among-contained (x ∷ ls) l (zero, less, e) =
    ap (λ b. b || among ls l) (ap (λ (q : Loc). same_loc q l) e ∙ same_loc_refl l)
among-contained (x ∷ ls) l (suc k, less, e) =
    go (same_loc x l) (among-contained ls l (k, omega arith, e))
  where
    go : (u : Bool) → among ls l ≡ true → u || among ls l ≡ true
    go true h = refl
    go false h = h

first_tops : (c : CodeParts) (l : Loc) → Contains c.tops l
    → spot (tree_before c) l ≡ Some (record { number = l.site; marked = false })
first_tops c l h = tops_spot c.tops (unmarked_roots (length c.sites)) l
    ∙ ap (λ u. or_else (spot (unmarked_roots (length c.sites)) l)
    (cond u (Some (record { number = l.site; marked = false })) None)) (among-contained c.tops l h)
    ∙ go (spot (unmarked_roots (length c.sites)) l) refl
  where
    go : (o : Option Spot) → spot (unmarked_roots (length c.sites)) l ≡ o
        → or_else o (Some (record { number = l.site; marked = false }))
        ≡ Some (record { number = l.site; marked = false })
    go None e = refl
    go (Some s) e = ap (λ x. Some x) (root_spot 0 (length c.sites) l s e).0

first_alone : (q : ProgramTerms) (c : CodeParts) → IsCodeOf q c → (l : Loc)
    → is_some (spot (tree_before c) l) ≡ true → Contains c.tops l
first_alone q c is l h = go (spot (unmarked_roots (length c.sites)) l) refl (among c.tops l) refl
    (ap is_some (sym (tops_spot c.tops (unmarked_roots (length c.sites)) l)) ∙ h)
  where
    go : (o : Option Spot) → spot (unmarked_roots (length c.sites)) l ≡ o → (u : Bool)
        → among c.tops l ≡ u
        → is_some (or_else o (cond u (Some (record { number = l.site; marked = false })) None))
        ≡ true → Contains c.tops l
    go (Some s) e u a f =
        let root = root_spot 0 (length c.sites) l s e in
        subst (λ (x : Loc). Contains c.tops x) (sym root.1)
        (root_top q c l.site is (omega (arith, root.2)))
    go None e true a f = among_is c.tops l a
    go None e false a f = cc

pub none_opened : (q : ProgramTerms) (c : CodeParts) → IsProgram q → IsCode c → IsCodeOf q c
    → (o : OpenedSites) → bare o.tree ≡ tree_before c → o.sites.items ≡ [] → o.handed.items ≡ []
    → IsUpTo c 0 o
none_opened q c ok kept is o tree sites handed = record {
  net = unopened q.version c;
  rest = refl;
  new = openings_bear_new q c ok kept is;
  handed = λ es h.
      subst (λ (xs : List Effects). AreHanded c 0 c.sites (tree_before c) (xs ++ es)) (sym handed)
      h;
  sites_are = sites;
  tree = tree;
  tops = λ l h. at l ∙ first_tops c l h;
  no_others = λ l less h. first_alone q c is l (ap is_some (sym (at l)) ∙ h);
  numbered = λ j s h.
      (let none : slice_get [] j ≡ Some s = ap (λ ss. slice_get ss j) (sym sites) ∙ h in cc);
  many = ap length sites;
  roots = ap (λ (t : Tree). t.roots) tree ∙ tops_roots c.tops (unmarked_roots (length c.sites));
  fit = subst (Each (CanAct c o.tree)) (sym sites) tt;
}
  where
    at : (l : Loc) → spot o.tree l ≡ spot (tree_before c) l
    at l = ap (λ (t : Tree). spot t l) tree
