-- A reaction bears as many locations as its guard tells, where the site runs a program.
use Rattle.std.proofs.Common.{◌≡◌, List, [], ◌∷◌, ◌++◌, length, true, refl, ap, ◌∙◌, subst, inl}
use Rattle.std.proofs.Common.{inr}
use Rattle.chem_model.specs.Binders.{params_of}
use Rattle.chem_model.specs.ProgramFacts.{ProgramTerms}
use Rattle.env_store.specs.declared.code.Guard.{Guard}
use Rattle.env_store.specs.CodeParts.{CodeParts}
use Rattle.env_store.specs.CodeFacts.{IsCode, received}
use Rattle.env_store.specs.Laws.{IsGroupIn, AreOn, IsCounted}
use Rattle.env_store.specs.Running.{code_made}
use Rattle.loc_tree.specs.Tree.{Tree}
use Rattle.net_laws.specs.Site.{Told, told_in, Site}
use Rattle.net_laws.specs.Kept.{IsKept}
use Rattle.net_laws.specs.ByCode.{args_of}
use Rattle.net_laws.proofs.Holds.{each_get, laid_at}
use Rattle.site_solution.specs.InCode.{is_in_code}
use Rattle.site_solution.specs.declared.effects.Effects.{Effects}
use Rattle.reducer.specs.declared.pick.Pick.{Pick}
use Rattle.reducer.specs.Picks.{Picked, Covers}
use Rattle.reducer.specs.Fronts.{taken_by}
use Rattle.reducer.specs.Reacting.{RunsProgram, ran_by}
use Rattle.reducer.proofs.Counting.{HasRule, has_rule, received_is}
use Rattle.reducer.proofs.Levels.{level_at, told_as, queues_at}
use Rattle.reducer.proofs.Masks.{HaveFronts, held_fronts, fronts_args}
use Rattle.site_turn.specs.declared.turn.Turn.{Turn}
use Rattle.site_turn.specs.Next.{OpensNone}
use Rattle.site_turn.specs.After.{AfterPick, BearsNone}
use Rattle.site_turn.proofs.Acting.{pick_born}

module _ (q : ProgramTerms) (c : CodeParts) (t : Tree) (s : Site) (p : Pick) (x : Picked)
    (code : IsCode c) (kept : IsKept s) (coded : is_in_code c t s ≡ true) (covers : Covers c s p x)
    (runs : RunsProgram q c s) where
  fronts : HaveFronts x.group.queues x.guard.chans
  fronts =
      let is = code.guards p.guard x.guard covers.picks.guard in
      held_fronts (length is.level.counts)
      x.group.queues x.guard.chans x.guard.mask.words is.mask covers.held

  group : IsGroupIn q x.group.told.inst
  group = each_get (λ (d : Told). IsGroupIn q d.inst) (told_in s.groups)
      p.group x.group.told (laid_at s.groups p.group x.group covers.picks.group) runs.groups

  has : HasRule q c p x
  has = has_rule q c s p x runs.program code runs.code group covers.picks

  received_all : length (args_of (taken_by x)) ≡ received x.level.counts x.guard.chans
  received_all =
      let of = level_at c t s p.group x.group coded covers.picks.group in
      let counts = (told_as c s p x covers.picks of).counts in
      fronts_args x.group.told.inst x.group.told.counts x.group.queues x.guard.chans
      (queues_at s p.group x.group kept covers.picks.group) fronts
      ∙ ap (λ ns. received ns x.guard.chans) counts

  args_long : length (args_of (taken_by x)) ≡ length (params_of has.rule.pats)
  args_long =
      let inst = x.group.told.inst in
      let on : AreOn inst x.level.counts has.rule.pats x.guard.chans =
      subst (λ (u : Guard). AreOn inst x.level.counts has.rule.pats u.chans)
      has.guard has.reacts.chans in
      received_all ∙ received_is inst x.level.counts has.rule.pats x.guard.chans on

  pub births_counted : length (ran_by c s x).births ≡ x.guard.births
  births_counted =
      let inst = x.group.told.inst in
      let counted : IsCounted x.guard.births x.guard.sends (ran_by c s x) =
      subst (λ (u : Guard). IsCounted u.births u.sends
      (code_made c s.number u.body (inst.env ++ args_of (taken_by x)) inst.loc s.made))
      has.guard (has.reacts.counted (args_of (taken_by x)) args_long s.number inst.loc s.made) in
      counted.births_are

nothing_long : {X : Type 0} (xs : List X) → length xs ≡ 0 → xs ≡ []
nothing_long [] e = refl
nothing_long (x ∷ xs) e = cc

pub bears_none :
    (c : CodeParts) (t : Tree) (s : Site) (p : Pick) (x : Picked) (turn : Turn) (new : Site)
    (e : Effects) → IsCode c → IsKept s → is_in_code c t s ≡ true → Covers c s p x → OpensNone c s p
    → AfterPick c t s p turn new e → BearsNone c s e
bears_none c t s p x turn new e code kept coded covers none after q runs =
    elim (pick_born c t s p x covers.picks new e turn after) [
      | inl born ↦ born
          ∙ nothing_long (ran_by c s x).births
          (births_counted q c t s p x code kept coded covers runs ∙ none x covers.picks)
      | inr born ↦ born
    ]
