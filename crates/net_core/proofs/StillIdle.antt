-- What is known of idle sites outlives a reaction at another one.
use Rattle.std.proofs.Common.{◌≡◌, ℕ, Bool, true, false, cond, List, [], ◌∷◌, ◌++◌, Option, Some}
use Rattle.std.proofs.Common.{None}
use Rattle.std.proofs.Common.{refl, sym, ap, ◌∙◌, subst, slice_get}
use Rattle.std.specs.Prelude.{◌||◌, not, slice_set}
use Rattle.chem_model.specs.declared.event.Event.{Event}
use Rattle.chem_model.specs.declared.name.Loc.{Loc}
use Rattle.chem_model.specs.Opening.{root_of}
use Rattle.env_store.specs.CodeParts.{CodeParts}
use Rattle.env_store.specs.Running.{code_made}
use Rattle.loc_tree.specs.declared.tree.Spot.{Spot}
use Rattle.loc_tree.specs.Tree.{Tree, spot, number_in, mark_in, has_mark, is_alive, is_alive_in}
use Rattle.loc_tree.specs.Tree.{is_pair_of, with_birth}
use Rattle.net_laws.specs.ByCode.{args_of, run_here}
use Rattle.net_laws.specs.Kept.{IsKept}
use Rattle.net_laws.specs.Net.{Net, among, with_births}
use Rattle.net_laws.specs.Posting.{with_queues}
use Rattle.net_laws.specs.Site.{Site, Told, told_in}
use Rattle.net_laws.proofs.Holds.{each_get, laid_at}
use Rattle.net_laws.proofs.Lists.{get_set_other}
use Rattle.net_laws.proofs.Trees.{or_else}
use Rattle.reducer.specs.Ready.{NoneFires}
use Rattle.net_core.specs.declared.choice.Choice.{Choice}
use Rattle.net_core.specs.declared.choice.Choice.TheVariants as choice
use Rattle.net_core.specs.Acts.{Acts, react, deliver, move, halt, detect}
use Rattle.net_core.specs.inside.Idle.{AreIdle, AreFewer, still_idle}
use Rattle.net_core.specs.Whole.{IsRunning}
use Rattle.net_core.proofs.Idling.{none_known, fewer_idle, woken}
use Rattle.site_turn.proofs.Openings.{birth_spot, still_there}

-- ---- births

-- none is born with a mark
module _ (i : ℕ) where
  one_mark : (t : Tree) (b l : Loc) → has_mark (with_birth t b i) l ≡ has_mark t l
  one_mark t b l =
      ap mark_in (birth_spot i t b l) ∙ go (spot t l) (is_pair_of l (b.site, b.k))
    where
      go : (o : Option Spot) (u : Bool)
          → mark_in (or_else o (cond u (Some (record { number = i; marked = false })) None))
          ≡ mark_in o
      go (Some s) u = refl
      go None true = refl
      go None false = refl

  mark_still : (bs : List Loc) (t : Tree) (l : Loc)
      → has_mark (with_births t i bs) l ≡ has_mark t l
  mark_still [] t l = refl
  mark_still (b ∷ bs) t l = mark_still bs (with_birth t b i) l ∙ one_mark t b l

  alive_still : (bs : List Loc) (t : Tree) (l : Loc) (s : Spot) → spot t l ≡ Some s
      → is_alive (with_births t i bs) l ≡ is_alive t l
  alive_still bs t l s at =
      ap (is_alive_in (with_births t i bs)) (still_there i bs t l s at)
      ∙ ap (λ m. not (s.marked || m)) (mark_still bs t (root_of s.number))
      ∙ ap (is_alive_in t) (sym at)

module _ (c : CodeParts) (net : Net) (events : ℕ) (running : IsRunning c net events) (j : ℕ)
    (s : Site) (at : slice_get net.sites j ≡ Some s) where
  -- what the site hosts has a spot
  spot_of : (l : Loc) → among s.locs l ≡ true → (p : Spot) × (spot net.tree l ≡ Some p)
  spot_of l here = go (spot net.tree l) refl (((running.some.stands.hosts j s at).locs l).0 here)
    where
      go : (o : Option Spot) → spot net.tree l ≡ o → number_in o ≡ Some j
          → (p : Spot) × (spot net.tree l ≡ Some p)
      go None is number = cc
      go (Some p) is number = (p, is)

  none_still : (i : ℕ) (bs : List Loc) → NoneFires c net.tree s
      → NoneFires c (with_births net.tree i bs) s
  none_still i bs none p x f =
      let kept = each_get IsKept net.sites j s at running.some.runs.keeps.kept in
      let here = each_get (λ (d : Told). among s.locs d.inst.loc ≡ true) (told_in s.groups) p.group
      x.group.told (laid_at s.groups p.group x.group f.covers.picks.group) kept.groups_here in
      let place = spot_of x.group.told.inst.loc here in
      none p x (record {
        covers = f.covers;
        live = sym (alive_still i bs net.tree x.group.told.inst.loc place.0 place.1) ∙ f.live;
      })

-- ---- a choice

pub acts_idle : (c : CodeParts) (net new : Net) (x : Choice) (o : Option Event) (events : ℕ)
    (idle : List Bool) → IsRunning c net events → Acts c net x o new
    → AreIdle c net.tree net.sites idle → AreIdle c new.tree new.sites (still_idle x idle)
acts_idle c net new x o events idle running (react i p e _ does) all =
    let old = does.by.site in
    let g = does.by.group.told.inst in
    let a = code_made c i does.by.guard.body (g.env ++ args_of does.taken) g.loc old.made in
    let out = run_here c net.tree a (with_queues old p.group does.by.group does.left) in
    subst (λ (v : Net). AreIdle c v.tree v.sites (slice_set idle i false)) (sym does.new_is)
    (λ j s flag at.
    let before = woken idle i j flag in
    let was = sym (get_set_other net.sites i j out.site before.1) ∙ at in
    none_still c net events running j s was i a.births (all j s before.0 was))
acts_idle c net new x o events idle running (deliver f _ does) all =
    none_known c new.tree new.sites [] refl
acts_idle c net new x o events idle running (move a _ does) all =
    none_known c new.tree new.sites [] refl
acts_idle c net new x o events idle running (halt a _ does) all =
    none_known c new.tree new.sites [] refl
acts_idle c net new x o events idle running (detect a _ does) all =
    none_known c new.tree new.sites [] refl

-- less is known, of the same network
pub stays_idle : (c : CodeParts) (net new : Net) (x : Choice) (idle : List Bool) → new ≡ net
    → AreIdle c net.tree net.sites idle → AreIdle c new.tree new.sites (still_idle x idle)
stays_idle c net new x idle same all =
    subst (λ (v : Net). AreIdle c v.tree v.sites (still_idle x idle)) (sym same)
    (fewer_idle c net.tree net.sites idle (still_idle x idle) (fewer x) all)
  where
    fewer : (y : Choice) → AreFewer idle (still_idle y idle)
    fewer (choice.React i p) j flag = (woken idle i j flag).0
    fewer (choice.Deliver f) j flag = cc
    fewer (choice.Move a) j flag = cc
    fewer (choice.Halt a) j flag = cc
    fewer (choice.Detect a) j flag = cc
