-- A reaction, from its parts.
use Rattle.std.proofs.Common.{◌≡◌, ℕ, ◌+◌, ◌<◌, ◌≤◌, true, List, [], ◌∷◌, ◌++◌, Option, Some}
use Rattle.std.proofs.Common.{length, slice_get, refl, sym, ap, ◌∙◌, subst, arith}
use Rattle.chem_model.specs.declared.name.Loc.{Loc}
use Rattle.chem_model.specs.declared.event.Event.{Event}
use Rattle.chem_model.specs.Sound.{IsRule}
use Rattle.chem_laws.proofs.Taking.{apart, rule_found}
use Rattle.env_store.specs.CodeParts.{CodeParts}
use Rattle.env_store.specs.CodeFacts.{IsCode}
use Rattle.env_store.specs.Laws.{rules_of_group}
use Rattle.env_store.specs.Running.{code_made}
use Rattle.loc_tree.specs.Tree.{Tree, bare}
use Rattle.net_laws.specs.Site.{Group, Site}
use Rattle.net_laws.specs.Net.{Net, with_births}
use Rattle.net_laws.specs.Changes.{Takes}
use Rattle.net_laws.specs.Posting.{Outcome, with_queues}
use Rattle.net_laws.specs.ByCode.{args_of, run_here}
use Rattle.net_laws.specs.Kept.{IsKept}
use Rattle.net_laws.specs.ByCode.{IsOfCode}
use Rattle.net_laws.specs.Site.{told_in}
use Rattle.loc_tree.proofs.Sound.{roots_are_sites}
use Rattle.net_laws.proofs.Found.{rule_in}
use Rattle.net_laws.proofs.Holds.{each_get, laid_at}
use Rattle.net_laws.proofs.Sites.{get_below, length_made}
use Rattle.chem_model.specs.Each.{Each}
use Rattle.chem_model.specs.Binders.{params_of}
use Rattle.env_store.specs.declared.code.Guard.{Guard}
use Rattle.env_store.specs.CodeFacts.{received}
use Rattle.env_store.specs.Laws.{IsGroupIn, AreOn, IsCounted}
use Rattle.env_store.specs.Running.{Ran}
use Rattle.code_run.specs.RunFacts.{AreBorn}
use Rattle.code_run.proofs.Numbers.{code_numbers}
use Rattle.site_solution.specs.InCode.{is_in_code}
use Rattle.site_solution.proofs.Staying.{births_keep_others}
use Rattle.reducer.specs.Reacting.{ran_by, outcome_of}
use Rattle.reducer.specs.Reacted.{StaysFit}
use Rattle.reducer.proofs.Counting.{HasRule, has_rule, sends_at_most, received_is}
use Rattle.reducer.proofs.Levels.{level_at, told_as, queues_at}
use Rattle.net_laws.proofs.Quiet.{chans_differ}
use Rattle.net_laws.proofs.React.{rules_differ}
use Rattle.net_laws.proofs.Steps.{guard_there}
use Rattle.site_solution.specs.Held.{taken_in, taken_at, without_fronts}
use Rattle.site_solution.specs.Answers.{Answers}
use Rattle.site_solution.specs.declared.effects.Effects.{Effects}
use Rattle.reducer.specs.declared.pick.Pick.{Pick}
use Rattle.reducer.specs.Picks.{Picked, Fires}
use Rattle.reducer.specs.Fronts.{taken_by, event_of}
use Rattle.reducer.proofs.Masks.{AreDifferent, HaveFronts, held_fronts, fronts_taken, fronts_args}
use Rattle.net_core.specs.declared.parts.Parts.{Parts}
use Rattle.net_core.specs.Parts.{joined, net_of}
use Rattle.net_core.specs.Acting.{HasGuard, Reacts}
use Rattle.net_core.specs.inside.AtSites.{AllStayFit, ReactsAt}
use Rattle.net_core.specs.Whole.{AllFit, RunsSome}
use Rattle.net_laws.specs.Opened.{AreNew}
use Rattle.net_laws.specs.Choices.{with_outcome}
use Rattle.net_core.proofs.Rising.{reactions_bear_new}
use Rattle.net_core.proofs.Existing.{guard_rule}
use Rattle.net_core.proofs.Picking.{IsFine}
use Rattle.net_core.specs.inside.Fitting.{AreNumbered}
use Rattle.net_core.proofs.Fitting.{others_stay}
use Rattle.site_turn.proofs.Room.{run_bare, new_full}
use Rattle.net_core.proofs.Handed.{outcome_net}

module _ (c : CodeParts) (kept : IsCode c) (net : Net) (some : RunsSome c net) (i : ℕ) (s : Site)
    (p : Pick) (x : Picked) (at : slice_get net.sites i ≡ Some s)
    (fires : Fires c net.tree s p x) where
  abbrev pub by_guard : HasGuard c net i p.group p.guard
  by_guard =
      let picks = fires.covers.picks in
      record {
        site = s;
        group = x.group;
        level = x.level;
        guard = x.guard;
        site_is = at;
        group_is = picks.group;
        level_is = picks.level;
        guard_is = picks.guard;
        from = picks.from;
        below = picks.below;
        alive = fires.live;
      }

  differ : AreDifferent x.guard.chans
  differ =
      let n = some.solution in
      let fine : IsFine some.program c net =
      record { solution = n; stands = some.stands; runs = some.runs } in
      let rules_by = rules_of_group some.program in
      let one = guard_rule some.program c some.is_program kept some.of_program net fine i
      p.group p.guard by_guard in
      let r = one.0 in
      let found = rule_in n.rules r (rules_differ n some.stands.sound) (guard_there rules_by net n i
      p.group s x.group r x.guard.chans some.stands at fires.covers.picks.group one.1) in
      let rule = rule_found (IsRule n) n.rules r.id r found some.stands.sound.rules in
      chans_differ x.group.told.inst x.group.told.counts r.pats x.guard.chans one.1.channels
      (apart r.pats rule.is.0.channels)

  fronts : HaveFronts x.group.queues x.guard.chans
  fronts =
      let is = kept.guards p.guard x.guard fires.covers.picks.guard in
      held_fronts (length is.level.counts)
      x.group.queues x.guard.chans x.guard.mask.words is.mask fires.covers.held

  pub takes :
      Takes x.group.queues x.guard.chans (taken_by x) (without_fronts x.group.queues x.guard.chans)
  takes = fronts_taken x.group.queues x.guard.chans differ fronts

  -- ---- what its run makes

  kept_s : IsKept s
  kept_s = each_get IsKept net.sites i s at some.runs.keeps.kept

  group : IsGroupIn some.program x.group.told.inst
  group = (each_get (IsOfCode some.program c) (told_in s.groups)
      p.group x.group.told (laid_at s.groups p.group x.group fires.covers.picks.group)
      (each_get (λ (u : Site). Each (IsOfCode some.program c) (told_in u.groups)) net.sites i s at
      some.runs.of_code)).0

  has : HasRule some.program c p x
  has = has_rule some.program c s p x some.is_program kept some.of_program group fires.covers.picks

  module _ (in_code : is_in_code c net.tree s ≡ true) where
    received_all : length (args_of (taken_by x)) ≡ received x.level.counts x.guard.chans
    received_all =
        let of = level_at c net.tree s p.group x.group in_code fires.covers.picks.group in
        let counts = (told_as c s p x fires.covers.picks of).counts in
        fronts_args x.group.told.inst x.group.told.counts x.group.queues x.guard.chans
        (queues_at s p.group x.group kept_s fires.covers.picks.group) fronts
        ∙ ap (λ ns. received ns x.guard.chans) counts

    args_long : length (args_of (taken_by x)) ≡ length (params_of has.rule.pats)
    args_long =
        let inst = x.group.told.inst in
        let on : AreOn inst x.level.counts has.rule.pats x.guard.chans =
        subst (λ (u : Guard). AreOn inst x.level.counts has.rule.pats u.chans)
        has.guard has.reacts.chans in
        received_all ∙ received_is inst x.level.counts has.rule.pats x.guard.chans on

    pub births_counted : length (ran_by c s x).births ≡ x.guard.births
    births_counted =
        let inst = x.group.told.inst in
        let counted : IsCounted x.guard.births x.guard.sends (ran_by c s x) =
        subst (λ (u : Guard). IsCounted u.births u.sends
        (code_made c s.number u.body (inst.env ++ args_of (taken_by x)) inst.loc s.made))
        has.guard (has.reacts.counted (args_of (taken_by x)) args_long s.number inst.loc s.made) in
        counted.births_are

    pub sends_counted : (t : Tree) → length (outcome_of c t s p x).sends ≤ x.guard.sends
    sends_counted t =
        let left = with_queues s p.group x.group (without_fronts x.group.queues x.guard.chans) in
        let same : left ≡ taken_at p.group x.guard.chans s =
        ap (λ (o : Option Group). taken_in o p.group x.guard.chans s)
        (sym fires.covers.picks.group) in
        subst (λ (u : Site). length (run_here c t (ran_by c s x) u).sends ≤ x.guard.sends) same
        (sends_at_most c s p x kept fires.covers.picks some.program some.is_program some.of_program
        group t left (args_of (taken_by x)) received_all)

-- ---- the network after it

abbrev pub fires_bare : (c : CodeParts) (t : Tree) (s : Site) (p : Pick) (x : Picked)
    → Fires c t s p x → Fires c (bare t) s p x
fires_bare c t s p x h = record { covers = h.covers; live = h.live }

pub fires_full : (c : CodeParts) (t : Tree) (s : Site) (p : Pick) (x : Picked)
    → Fires c (bare t) s p x → Fires c t s p x
fires_full c t s p x h = record { covers = h.covers; live = h.live }

module _ (c : CodeParts) (kept : IsCode c) (old new : Parts) (some : RunsSome c (net_of c.seen old))
    (i : ℕ) (s : Site) (p : Pick) (x : Picked) (at : slice_get old.sites.items i ≡ Some s)
    (number : s.number ≡ i) (fires : Fires c old.tree s p x)
    (ev : Event) (e : Effects)
    (reacts : ReactsAt c old.tree i p s x old.sites.items new.sites.items ev e) where
  abbrev left : Site
  left = with_queues s p.group x.group (without_fronts x.group.queues x.guard.chans)

  abbrev ran : ℕ → Ran
  ran k = code_made c k x.guard.body (x.group.told.inst.env ++ args_of (taken_by x))
      x.group.told.inst.loc s.made

  answers :
      Answers (run_here c (bare old.tree) (ran i) left) (ran i).outs (ran i).births reacts.after e
  answers =
      let same : taken_at p.group x.guard.chans s ≡ left =
      ap (λ (o : Option Group). taken_in o p.group x.guard.chans s) fires.covers.picks.group in
      let full : Answers (run_here c old.tree (ran s.number) left)
      (ran s.number).outs (ran s.number).births reacts.after e =
      subst (λ (u : Site). Answers (run_here c old.tree (ran s.number) u)
      (ran s.number).outs (ran s.number).births reacts.after e) same reacts.reacts in
      subst (λ (k : ℕ).
      Answers (run_here c (bare old.tree) (ran k) left) (ran k).outs (ran k).births reacts.after e)
      number
      (subst (λ (o : Outcome). Answers o (ran s.number).outs (ran s.number).births reacts.after e)
      (sym (run_bare c old.tree (ran s.number) left)) full)

  pub reacts_net : new.version ≡ old.version
      → bare new.tree ≡ with_births (bare old.tree) i e.births
      → joined new.trace.items ≡ joined old.trace.items ++ e.outs
      → new.flights.items ≡ old.flights.items ++ e.sends
      → Reacts c (net_of c.seen old) i p.group p.guard ev (net_of c.seen new)
  reacts_net version tree trace flights = record {
    by = by_guard c kept (net_of c.seen old) some i s p x at (fires_bare c old.tree s p x fires);
    taken = taken_by x;
    left = without_fronts x.group.queues x.guard.chans;
    takes = takes c kept (net_of c.seen old) some i s p x at (fires_bare c old.tree s p x fires);
    event_is = reacts.event;
    new_is = outcome_net c.seen old new version i (bare old.tree)
        (run_here c (bare old.tree) (ran i) left) (ran i).outs (ran i).births reacts.after e
        reacts.sites answers
        (tree ∙ ap (with_births (bare old.tree) i) answers.births) trace flights;
  }

  -- the locations that it bears are new to the tree
  pub births_new : AreNew old.tree i e.births
  births_new =
      let net = net_of c.seen old in
      let full = fires_bare c old.tree s p x fires in
      let does : Reacts c net i p.group p.guard (event_of p x)
      (with_outcome net i (run_here c net.tree (ran i) left) (ran i).outs (ran i).births) = record {
        by = by_guard c kept net some i s p x at full;
        taken = taken_by x;
        left = without_fronts x.group.queues x.guard.chans;
        takes = takes c kept net some i s p x at full;
        event_is = refl;
        new_is = refl;
      } in
      new_full old.tree i e.births
      (subst (AreNew (bare old.tree) i) (sym answers.births)
      (reactions_bear_new some.program c some.is_program kept some.of_program net
      (with_outcome net i (run_here c net.tree (ran i) left) (ran i).outs (ran i).births)
      some.solution some.stands some.runs i p.group p.guard (event_of p x) does))

-- ---- what the sites keep

born_here : (i k n : ℕ) (ls : List Loc) → AreBorn i k n ls → Each (λ (l : Loc). l.site ≡ i) ls
born_here i k n [] h = tt
born_here i k n (l ∷ ls) h = (h.0.0, born_here i (l.k + 1) n ls h.1)

pub react_fit :
    (c : CodeParts) (t : Tree) (sites : List Site) (i : ℕ) (p : Pick) (s : Site) (x : Picked)
    (new : List Site) (ev : Event) (e : Effects) → AreNumbered sites → AllFit c t sites
    → s.number ≡ i → (reacts : ReactsAt c t i p s x sites new ev e)
    → AllStayFit c (with_births t i e.births) new
react_fit c t sites i p s x new ev e numbered fit number reacts =
    let a = ran_by c s x in
    let numbers =
    code_numbers c s.number x.guard.body (x.group.told.inst.env ++ args_of (taken_by x))
    x.group.told.inst.loc s.made in
    let born : Each (λ (l : Loc). l.site ≡ i) e.births =
    subst (λ (k : ℕ). Each (λ (l : Loc). l.site ≡ k) e.births) number
    (subst (Each (λ (l : Loc). l.site ≡ s.number)) (sym reacts.reacts.births)
    (born_here s.number s.made a.next a.births numbers.births)) in
    let fits : StaysFit c t i reacts.after e =
    subst (λ (k : ℕ). StaysFit c t k reacts.after e) number reacts.fit in
    subst (AllStayFit c (with_births t i e.births)) (sym reacts.sites)
    (others_stay c t (with_births t i e.births) sites i reacts.after numbered
    (λ u far. births_keep_others c t i e.births u born far) fit
    (record {
      all_there = fits.there;
      in_code = fits.coded;
      drawn = fits.drawn;
      fresh = fits.fresh;
    }))

-- the site's number is that of a root
pub root_below : (c : CodeParts) (net : Net) (i : ℕ) (s : Site) → RunsSome c net
    → slice_get net.sites i ≡ Some s → i < net.tree.roots
root_below c net i s some at =
    let n = some.solution in
    omega (
      arith,
      roots_are_sites net.tree n some.stands.sound some.stands.agrees.tree,
      ap length some.stands.agrees.counts,
      length_made net.sites,
      get_below net.sites i s at,
    )

pub are_numbered : (c : CodeParts) (net : Net) → RunsSome c net → AreNumbered net.sites
are_numbered c net some = λ j s e. (some.stands.hosts j s e).number
