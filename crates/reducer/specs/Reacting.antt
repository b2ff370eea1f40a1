-- What a reaction leaves, and that it is one event, whatever stands beside the site.
use Rattle.std.specs.Prelude.{ℕ, ◌≡◌, ◌++◌, true, Some, List, slice_get, IsTrue}
use Rattle.chem_model.specs.Bag.{Bag}
use Rattle.chem_model.specs.Each.{Each}
use Rattle.chem_model.specs.Opening.{counts_of}
use Rattle.chem_model.specs.ProgramFacts.{ProgramTerms, IsProgram}
use Rattle.chem_model.specs.declared.numbered.NumberedRule.{NumberedRule}
use Rattle.chem_model.specs.declared.numbered.NumberedAtom.{NumberedAtom}
use Rattle.chem_model.specs.declared.numbered.Numbered.{Numbered}
use Rattle.env_store.specs.CodeParts.{CodeParts}
use Rattle.env_store.specs.CodeFacts.{IsCode}
use Rattle.env_store.specs.Reading.{IsCodeOf}
use Rattle.env_store.specs.Running.{Ran, code_made}
use Rattle.env_store.specs.Laws.{IsGroupIn, rules_of_group}
use Rattle.loc_tree.specs.Tree.{Tree, is_alive}
use Rattle.net_laws.specs.Site.{Told, Group, Site, told_in}
use Rattle.net_laws.specs.Net.{Effects, IsOnItsWay}
use Rattle.net_laws.specs.Changes.{IsGuard}
use Rattle.net_laws.specs.Enabled.{HasFront}
use Rattle.net_laws.specs.Parts.{IsPart, GoesOn}
use Rattle.net_laws.specs.Kept.{IsKept}
use Rattle.net_laws.specs.Posting.{Outcome}
use Rattle.net_laws.specs.Choices.{effects}
use Rattle.net_laws.specs.ByCode.{args_of, run_here}
use Rattle.site_solution.specs.Held.{taken_at}
use Rattle.site_solution.specs.InTree.{is_in_tree}
use Rattle.site_solution.specs.InCode.{is_in_code}
use Rattle.site_solution.specs.Draws.{CanDraw}
use Rattle.reducer.specs.declared.pick.Pick.{Pick}
use Rattle.reducer.specs.Picks.{Picked, Fires}
use Rattle.reducer.specs.Fronts.{taken_by, event_of}

-- ---- what a reaction leaves

-- the guard's body, run at the group's location under the group's environment followed by the names
-- that the fronts carry
abbrev pub ran_by : CodeParts → Site → Picked → Ran
ran_by c s x =
    let g = x.group.told.inst in
    code_made c s.number x.guard.body (g.env ++ args_of (taken_by x)) g.loc s.made

-- the site without these fronts, where that run is posted
abbrev pub outcome_of : CodeParts → Tree → Site → Pick → Picked → Outcome
outcome_of c t s p x = run_here c t (ran_by c s x) (taken_at p.group x.guard.chans s)

-- ---- it is one event

-- the code is that of the program, and each group of the site is one of the program's
pub record RunsProgram (q : ProgramTerms) (c : CodeParts) (s : Site) : Type 0 where
  pub program : IsProgram q
  pub code : IsCodeOf q c
  pub groups : Each (λ (d : Told). IsGroupIn q d.inst) (told_in s.groups)

-- the reaction of the pick is possible, and in what it leads to the new site stands beside the same
-- others and what it sends; it runs the same program, and sends messages on channels to sites
pub record MakesEvent (q : ProgramTerms) (c : CodeParts) (t : Tree) (s : Site) (p : Pick)
    (x : Picked) (new : Site) (e : Effects) (rules : Bag NumberedRule) (atoms : Bag NumberedAtom)
    (n : Numbered) : Type 0 where
  pub goes_on :
      GoesOn (rules_of_group q) (counts_of q.seen) t s.number new e rules atoms n (event_of p x)
  pub runs : RunsProgram q c new
  pub sent : Each (IsOnItsWay t.roots) e.sends

-- so for each program, and whatever else stands in a sound solution of which the site is a part
abbrev pub IsOneEvent : CodeParts → Tree → Site → Pick → Picked → Site → Effects → Type 0
IsOneEvent c t s p x new e =
    (q : ProgramTerms) → RunsProgram q c s
    → (rules : Bag NumberedRule) (atoms : Bag NumberedAtom) (n : Numbered)
    → IsPart (rules_of_group q) (counts_of q.seen) t s.number s rules atoms n
    → MakesEvent q c t s p x new e rules atoms n

-- the reaction of a pick that may fire is one event
abbrev pub ReactionIsOneEvent : Type 0
ReactionIsOneEvent =
    (c : CodeParts) (t : Tree) (s : Site) (p : Pick) (x : Picked)
    → IsCode c → IsKept s → IsTrue (is_in_tree t s) → IsTrue (is_in_code c t s) → CanDraw t s
    → Fires c t s p x
    → let a = ran_by c s x in
    let o = outcome_of c t s p x in
    IsOneEvent c t s p x o.site (effects o a.outs a.births)

-- ---- and where none is ready

-- no rule of a group of a live location has fronts to take, for each program
abbrev pub NoRuleReacts : CodeParts → Tree → Site → Type 0
NoRuleReacts c t s =
    (q : ProgramTerms) → RunsProgram q c s
    → (j : ℕ) (g : Group) (r : NumberedRule) (cs : List ℕ)
    → slice_get s.groups j ≡ Some g → IsGuard (rules_of_group q) g.told r cs
    → Each (HasFront (rules_of_group q) g.queues) cs → is_alive t r.loc ≡ true → ⊥
