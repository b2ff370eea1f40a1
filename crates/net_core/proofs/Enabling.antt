-- A choice is enabled by code exactly where one of the network is, and none is exactly where all is
-- quiet.
use Rattle.std.proofs.Common.{◌≡◌, ℕ, zero, suc, ◌+◌, ◌<◌, List, [], ◌∷◌, Some, Bool, true, false}
use Rattle.std.proofs.Common.{cond, refl, sym, ap, ◌∙◌, subst, arith, length, slice_get, ◌↔◌, inl}
use Rattle.std.proofs.Common.{inr}
use Rattle.std.specs.Prelude.{◌-◌}
use Rattle.std.proofs.lemmas.Bool.{and_parts}
use Rattle.chem_model.specs.declared.name.Ref.{Ref}
use Rattle.chem_model.specs.declared.name.Ref.TheVariants.{Known}
use Rattle.chem_model.specs.declared.name.Pat.{Pat}
use Rattle.chem_model.specs.declared.event.AtomId.{AtomId}
use Rattle.chem_model.specs.declared.numbered.NumberedRule.{NumberedRule}
use Rattle.chem_model.specs.declared.numbered.Numbered.{Numbered}
use Rattle.chem_model.specs.ProgramFacts.{ProgramTerms, IsProgram}
use Rattle.chem_model.specs.Bag.{one, bag}
use Rattle.chem_model.specs.Each.{Each}
use Rattle.chem_model.specs.Apply.{same_atom}
use Rattle.chem_model.specs.Numbered.{erase}
use Rattle.chem_model.specs.Reduction.{Quiet}
use Rattle.chem_laws.proofs.Bags.{one_self, one_is}
use Rattle.chem_laws.proofs.Lists.{above, true_both}
use Rattle.chem_laws.proofs.Tied.{stuck_is_quiet}
use Rattle.wire_packet.specs.GroupFacts.{GroupParts, RequestParts}
use Rattle.env_store.specs.declared.code.Level.{Level}
use Rattle.env_store.specs.CodeParts.{CodeParts}
use Rattle.env_store.specs.CodeFacts.{IsCode}
use Rattle.env_store.specs.Reading.{IsCodeOf}
use Rattle.env_store.specs.Laws.{rules_of_group}
use Rattle.env_store.proofs.RuleGuards.{reacting_is_pouring}
use Rattle.loc_tree.specs.Tree.{is_alive, is_dead}
use Rattle.net_laws.specs.Site.{Told, Group, Site, told_in, coded_rule, coded_atom, request_atoms}
use Rattle.net_laws.specs.Site.{request_atom}
use Rattle.net_laws.specs.Net.{Net, Stands}
use Rattle.net_laws.specs.Changes.{channel_of, AreChannels, IsGuard}
use Rattle.net_laws.specs.Holding.{request_with}
use Rattle.net_laws.specs.Enabled.{Enabled}
use Rattle.net_laws.specs.Enabled as choices
use Rattle.net_laws.specs.ByCode.{IsOfCode}
use Rattle.net_laws.specs.Opened.{RunsCode}
use Rattle.net_laws.proofs.ByCode.{rules_are_guards}
use Rattle.net_laws.proofs.Follows.{request_found}
use Rattle.net_laws.proofs.Holds.{each_get, laid_at}
use Rattle.net_laws.proofs.Quiet.{no_choice_is_quiet}
use Rattle.net_core.specs.Acting.{Asks}
use Rattle.net_core.specs.Enabled.{HasFront, IsEnabled, react, deliver, move, halt, detect}
use Rattle.net_core.specs.Enabled.{NoneEnabledIsQuiet}
use Rattle.net_core.proofs.Leading.{get_some}

found_rule : (rs : List NumberedRule) (r : NumberedRule) → 0 < bag coded_rule rs r
    → (i : ℕ) × (slice_get rs i ≡ Some r)
found_rule [] r h = absurd (omega arith)
found_rule (q ∷ rs) r h =
    elim (above (one coded_rule q r) (bag coded_rule rs r) h) [
      | inl u ↦ (0, ap (λ (x : NumberedRule). Some x) (one_is coded_rule q r u))
      | inr u ↦ let f = found_rule rs r u in (suc f.0, f.1)
    ]

-- a request that is found is held
pub held_request : (qs : List RequestParts) (a : AtomId) (q : RequestParts)
    → request_with a qs ≡ Some q → 0 < request_atoms qs (request_atom q)
held_request [] a q e = cc
held_request (x ∷ qs) a q e = go (same_atom x.id a) (held_request qs a q) e
  where
    go : (u : Bool) → (request_with a qs ≡ Some q → 0 < request_atoms qs (request_atom q))
        → cond u (Some x) (request_with a qs) ≡ Some q
        → 0 < one coded_atom (request_atom x) (request_atom q) + request_atoms qs (request_atom q)
    go true ih f =
        let same : x ≡ q = cc in
        let here : one coded_atom (request_atom x) (request_atom q) ≡ 1 =
        ap (λ (y : RequestParts). one coded_atom (request_atom y) (request_atom q)) same
        ∙ one_self coded_atom (request_atom q) in
        omega arith
    go false ih f = omega (arith, ih f)

-- patterns have one list of channels
same_channel : (i : GroupParts) (b c : ℕ) (r : Ref) → r ≡ Known (channel_of i b)
    → r ≡ Known (channel_of i c) → b ≡ c
same_channel i b c r e f =
    let same : Known (channel_of i b) ≡ Known (channel_of i c) = sym e ∙ f in
    let number : i.chans.k + b ≡ i.chans.k + c = cc in
    omega arith

one_list : (i : GroupParts) (counts : List ℕ) (ps : List Pat) (bs cs : List ℕ)
    → AreChannels i counts ps bs → AreChannels i counts ps cs → bs ≡ cs
one_list i counts [] [] [] h g = refl
one_list i counts [] (b ∷ bs) cs h g = absurd h
one_list i counts [] [] (c ∷ cs) h g = absurd g
one_list i counts (p ∷ ps) [] cs h g = absurd h
one_list i counts (p ∷ ps) (b ∷ bs) [] h g = absurd g
one_list i counts (p ∷ ps) (b ∷ bs) (c ∷ cs) h g =
    λ j. same_channel i b c p.on h.0.0 g.0.0 j ∷ one_list i counts ps bs cs h.1 g.1 j

module _ (p : ProgramTerms) (c : CodeParts) (ok : IsProgram p) (kept : IsCode c) (is : IsCodeOf p c)
    (net : Net) (n : Numbered) (stands : Stands (rules_of_group p) net n)
    (runs : RunsCode p c net) where
  abbrev rules_by : GroupParts → List NumberedRule
  rules_by = rules_of_group p

  of_code : (i j : ℕ) (s : Site) (g : Group) → slice_get net.sites i ≡ Some s
      → slice_get s.groups j ≡ Some g → IsOfCode p c g.told
  of_code i j s g here held =
      each_get (IsOfCode p c) (told_in s.groups) j g.told (laid_at s.groups j g held)
      (each_get (λ (u : Site). Each (IsOfCode p c) (told_in u.groups)) net.sites i s here
      runs.of_code)

  -- what the code says is enabled is
  to_choices : IsEnabled c net → Enabled rules_by net
  to_choices (react i j k by fronts) =
      let g = by.group in
      let of = of_code i j by.site g by.site_is by.group_is in
      let group = reacting_is_pouring p c ok kept is g.told.inst of.0 in
      let same_level : Some group.level ≡ Some by.level = sym group.level_is ∙ by.level_is in
      let levels_are : group.level ≡ by.level = cc in
      let from = by.from in
      let below = by.below in
      let many : length (rules_by g.told.inst) ≡ by.level.guards =
      group.guards ∙ ap (λ (v : Level). v.guards) levels_are in
      let q = k - by.level.first in
      let found = get_some (rules_by g.told.inst) q (omega arith) in
      let rule = group.rules q found.0 found.1 in
      let number : by.level.first + q ≡ k = omega arith in
      let guard_is : slice_get c.guards (by.level.first + q) ≡ Some by.guard =
      ap (slice_get c.guards) number ∙ by.guard_is in
      let is_guard =
      subst (λ (e : Told). IsGuard rules_by e found.0 by.guard.chans) of.1 (rules_are_guards p c ok
      kept is g.told.inst of.0 q found.0 found.1 by.level by.level_is by.guard guard_is) in
      choices.react i j by.site g found.0 by.guard.chans by.site_is by.group_is is_guard fronts
      (ap (is_alive net.tree) rule.loc ∙ by.alive)
  to_choices (deliver f q e) = choices.deliver f q e
  to_choices (move a go) =
      choices.move go.asks.number go.asks.site go.asks.request go.target go.cont go.asks.site_is
      (held_request go.asks.site.requests a go.asks.request go.asks.request_is) go.is go.can
  to_choices (halt a h) = choices.halt h.asks.number h.asks.site h.asks.request h.asks.site_is
      (held_request h.asks.site.requests a h.asks.request h.asks.request_is) h.is h.alive
  to_choices (detect a h) = choices.detect h.asks.number h.asks.site h.asks.request h.target h.cont
      h.asks.site_is (held_request h.asks.site.requests a h.asks.request h.asks.request_is) h.is
      (true_both (is_alive net.tree h.asks.request.loc) (is_dead net.tree h.target) h.alive h.dead)

  abbrev asks_of : (i : ℕ) (s : Site) (q : RequestParts) → slice_get net.sites i ≡ Some s
      → 0 < request_atoms s.requests (request_atom q) → Asks net q.id
  asks_of i s q here held = record {
    number = i;
    site = s;
    request = q;
    site_is = here;
    request_is = request_found rules_by net n stands i s q here held;
  }

  -- and what is enabled the code says
  to_code : Enabled rules_by net → IsEnabled c net
  to_code (choices.react i j s g r cs here held guard fronts lives) =
      let of = of_code i j s g here held in
      let group = reacting_is_pouring p c ok kept is g.told.inst of.0 in
      let found = found_rule (rules_by g.told.inst) r guard.stands in
      let q = found.0 in
      let rule = group.rules q r found.1 in
      let low = get_low (rules_by g.told.inst) q r found.1 in
      let k = group.level.first + q in
      let mine =
      subst (λ (e : Told). IsGuard rules_by e r rule.guard.chans) of.1 (rules_are_guards p c ok kept
      is g.told.inst of.0 q r found.1 group.level group.level_is rule.guard rule.guard_is) in
      let same : cs ≡ rule.guard.chans =
      one_list g.told.inst g.told.counts r.pats cs rule.guard.chans guard.channels mine.channels in
      react i j k (record {
        site = s;
        group = g;
        level = group.level;
        guard = rule.guard;
        site_is = here;
        group_is = held;
        level_is = group.level_is;
        guard_is = rule.guard_is;
        from = omega arith;
        below = omega (arith, low, group.guards);
        alive = ap (is_alive net.tree) (sym rule.loc) ∙ lives;
      }) (subst (Each (HasFront g.queues)) same fronts)
    where
      get_low : {X : Type 0} (xs : List X) (i : ℕ) (x : X) → slice_get xs i ≡ Some x → i < length xs
      get_low [] i x e = cc
      get_low (y ∷ ys) zero x e = omega arith
      get_low (y ∷ ys) (suc i) x e = omega (arith, get_low ys i x e)
  to_code (choices.deliver f q e) = deliver f q e
  to_code (choices.move i s q target cont here held ask can) = move q.id
      (record { asks = asks_of i s q here held; target = target; cont = cont; is = ask; can = can })
  to_code (choices.halt i s q here held ask lives) =
      halt q.id (record { asks = asks_of i s q here held; is = ask; alive = lives })
  to_code (choices.detect i s q target cont here held ask can) =
      let both = and_parts (is_alive net.tree q.loc) (is_dead net.tree target) can in
      detect q.id (record {
        asks = asks_of i s q here held;
        target = target;
        cont = cont;
        is = ask;
        alive = both.0;
        dead = both.1;
      })

  none_is_quiet : (IsEnabled c net → ⊥) ↔ ((net.packets ≡ []) × Quiet n.version n.seen (erase n))
  none_is_quiet =
      let none = no_choice_is_quiet rules_by net n stands runs.keeps.kept runs.keeps.coded in
      let quiet = stuck_is_quiet n stands.sound in (
        λ h. let both = none.0 (λ e. h (to_code e)) in (both.0, quiet.0 both.1),
        λ h e. none.1 (h.0, quiet.1 h.1) (to_choices e),
      )

pub none_enabled_is_quiet : NoneEnabledIsQuiet
none_enabled_is_quiet p c ok kept is net n stands runs =
    none_is_quiet p c ok kept is net n stands runs
