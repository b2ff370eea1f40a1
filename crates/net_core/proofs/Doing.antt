-- Which request is met, and where it leads.
use Rattle.std.proofs.Common.{◌≡◌, ℕ, ◌<◌, true, false, List, Option, Some, None, length, slice_get}
use Rattle.std.proofs.Common.{refl, sym, ap, ◌∙◌, subst, arith}
use Rattle.std.specs.Prelude.{slice_index_or}
use Rattle.std.proofs.lemmas.Option.{get_or_from_slice_get}
use Rattle.chem_model.specs.declared.name.Loc.{Loc}
use Rattle.chem_model.specs.declared.name.Name.TheVariants as name
use Rattle.chem_model.specs.declared.event.AtomId.{AtomId}
use Rattle.chem_model.specs.Opening.{root_of}
use Rattle.wire_packet.specs.declared.packet.Ask.{Ask}
use Rattle.wire_packet.specs.declared.packet.Ask.TheVariants as request
use Rattle.wire_packet.specs.GroupFacts.{RequestParts}
use Rattle.env_store.specs.CodeParts.{CodeParts}
use Rattle.env_store.specs.CodeFacts.{IsCode}
use Rattle.loc_tree.specs.Tree.{Tree, spot, number_in}
use Rattle.loc_tree.proofs.Sound.{roots_are_sites}
use Rattle.net_laws.specs.Site.{Site}
use Rattle.net_laws.specs.Net.{Net, among}
use Rattle.net_laws.specs.Holding.{request_with}
use Rattle.net_laws.specs.Moves.{may_go}
use Rattle.net_laws.specs.Parcels.{pack}
use Rattle.net_laws.proofs.Sites.{length_made, get_below}
use Rattle.site_solution.specs.Apart.{is_apart}
use Rattle.migration.specs.Moves.{is_ready}
use Rattle.migration.specs.Within.{leads_into, leads_to_one_of, goes_to_one_of}
use Rattle.migration.specs.Across.{joins}
use Rattle.net_core.specs.declared.choice.Choice.{Choice}
use Rattle.net_core.specs.declared.choice.Choice.TheVariants as choice
use Rattle.net_core.specs.Senders.{IsSentBy}
use Rattle.net_core.specs.Senders as senders
use Rattle.net_core.specs.inside.Searched.{meets, IsMet, NoneMeets}
use Rattle.net_core.specs.inside.AtSites.{MayGoAt, HasGoal, MayMoveAt, MayCrossAt}
use Rattle.net_core.specs.Whole.{RunsSome}
use Rattle.net_core.proofs.Going.{can_is, root_is, root_low}
use Rattle.net_core.proofs.Joins.{may_join}
use Rattle.net_core.proofs.Leading.{get_some, request_id}

-- a request to go that the tree allows is one to go to a location
pub has_goal : (version : ℕ) (t : Tree) (sites : List Site) (i : ℕ) (a : AtomId)
    → MayGoAt version t sites i a → (target : Loc) × HasGoal sites i a target
has_goal version t sites i a may = go (request_with a may.site.requests) refl may.can
  where
    asked : (q : RequestParts) → request_with a may.site.requests ≡ Some q → (v : Ask) → q.ask ≡ v
        → is_ready version t (Some (record q { ask = v })) ≡ true
        → (target : Loc) × HasGoal sites i a target
    asked q here (request.Go (name.Seen j) k) e can = absurd (cc)
    asked q here (request.Go (name.Place target) k) e can = (
      target,
      record {
        site = may.site;
        site_is = may.site_is;
        request = q;
        here = here;
        cont = k;
        asks = e;
      },
    )
    asked q here (request.Go (name.Chan s j h) k) e can = absurd (cc)
    asked q here (request.Go (name.Num n) k) e can = absurd (cc)
    asked q here (request.Go (name.Op n) k) e can = absurd (cc)
    asked q here (request.Fail b k) e can = absurd (cc)
    asked q here request.Halt e can = absurd (cc)

    go : (o : Option RequestParts) → request_with a may.site.requests ≡ o
        → is_ready version t o ≡ true → (target : Loc) × HasGoal sites i a target
    go None e can = absurd (cc)
    go (Some q) e can = asked q e q.ask refl can

module _ (c : CodeParts) (kept : IsCode c) (net : Net) (some : RunsSome c net) (i : ℕ) (a : AtomId)
    (may : MayGoAt net.version net.tree net.sites i a) (target : Loc)
    (goal : HasGoal net.sites i a target) where
  same_site : goal.site ≡ may.site
  same_site = let both : Some goal.site ≡ Some may.site = sym goal.site_is ∙ may.site_is in cc

  here : request_with a may.site.requests ≡ Some goal.request
  here = ap (λ (s : Site). request_with a s.requests) (sym same_site) ∙ goal.here

  can : may_go net.version net.tree goal.request.loc target ≡ true
  can = can_is net.version net.tree a may.site goal.request target goal.cont may.can here goal.asks

  -- the site of the target sends what the move sends
  pub goal_sends : IsSentBy net (choice.Move a) target.site
  goal_sends = senders.move a (record {
    asks = record {
      number = i;
      site = may.site;
      request = goal.request;
      site_is = may.site_is;
      request_is = here;
    };
    target = target;
    cont = goal.cont;
    is = goal.asks;
    can = can;
  })

  hosted : (j : ℕ) (u : Site) → slice_get net.sites j ≡ Some u → target.site ≡ j
      → leads_into a may.site u ≡ true
  hosted j u at own =
      let is_root : target ≡ root_of target.site =
      let zeroed = root_is net.version net.tree goal.request.loc target can in
      λ k. record { site = target.site; k = zeroed k } in
      let rooted : number_in (spot net.tree target) ≡ Some target.site =
      ap (λ (l : Loc). number_in (spot net.tree l)) is_root
      ∙ some.stands.agrees.tree.is.rooted target.site
      (root_low net.version net.tree goal.request.loc target can) in
      let numbered : number_in (spot net.tree target) ≡ Some j = rooted ∙ ap (λ k. Some k) own in
      let inside : among u.locs target ≡ true =
      ((some.stands.hosts j u at).locs target).1 numbered in
      ap (leads_to_one_of u.locs) here ∙ ap (λ (v : Ask). goes_to_one_of u.locs v) goal.asks
      ∙ inside

  pub goes_here : target.site ≡ i → MayMoveAt net.version net.tree net.sites i a
  goes_here own = record {
    site = may.site;
    site_is = may.site_is;
    can = may.can;
    hosted = hosted i may.site may.site_is own;
  }

  pub goes_over : (target.site ≡ i → ⊥) → MayCrossAt net.version net.tree net.sites i target.site a
  goes_over away =
      let n = some.solution in
      let low : target.site < length net.sites = omega (
        arith,
        root_low net.version net.tree goal.request.loc target can,
        roots_are_sites net.tree n some.stands.sound some.stands.agrees.tree,
        ap length some.stands.agrees.counts,
        length_made net.sites,
      ) in
      let into = get_some net.sites target.site low in
      let id : goal.request.id ≡ a = request_id may.site.requests a goal.request here in
      let asked : request_with goal.request.id may.site.requests ≡ Some goal.request =
      ap (λ (b : AtomId). request_with b may.site.requests) id ∙ here in
      let apart : is_apart into.0 goal.request.id (pack goal.request.loc may.site) ≡ true =
      may_join some.program c some.is_program kept some.of_program net n some.stands some.runs i
      target.site may.site into.0 goal.request (λ same. away (sym same)) may.site_is into.1 asked in
      record {
        from = may.site;
        into = into.0;
        from_is = may.site_is;
        into_is = into.1;
        away = λ same. away (sym same);
        can = may.can;
        hosted = hosted target.site into.0 into.1 refl;
        joins = ap (joins a may.site into.0) here
            ∙ subst (λ (b : AtomId). is_apart into.0 b (pack goal.request.loc may.site) ≡ true) id
            apart;
      }

-- ---- for the code

pub goal_there :
    (sites : List Site) (i : ℕ) (a : AtomId) (target : Loc) (g : HasGoal sites i a target)
    (d : Site) → d ≡ slice_index_or sites i d → request_with a d.requests ≡ Some g.request
goal_there sites i a target g d is = ap (λ (s : Site). request_with a s.requests)
    (is ∙ get_or_from_slice_get sites i g.site d g.site_is) ∙ g.here

pub goal_asks :
    (sites : List Site) (i : ℕ) (a : AtomId) (target : Loc) (g : HasGoal sites i a target)
    (d : Site) → d ≡ slice_index_or sites i d → (q : RequestParts)
    → request_with a d.requests ≡ Some q → q.ask ≡ request.Go (name.Place target) g.cont
goal_asks sites i a target g d is q here =
    let both : Some q ≡ Some g.request = sym here ∙ goal_there sites i a target g d is in
    let same : q ≡ g.request = cc in
    ap (λ (r : RequestParts). r.ask) same ∙ g.asks

pub met_not : (version : ℕ) (sites : List Site) (t : Tree) (x : Choice) (i : ℕ)
    → IsMet version sites t x i → NoneMeets version sites t x (length sites) → ⊥
met_not version sites t x i met none =
    let no_one : meets version t x met.site ≡ false =
    none i met.site (get_below sites i met.site met.site_is) met.site_is in
    absurd (cc)
