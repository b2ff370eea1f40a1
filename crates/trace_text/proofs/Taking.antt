-- In a journal that replays each reaction takes an atom, since a rule of a sound solution has a
-- pattern.
use Rattle.std.proofs.Common.{◌≡◌, ◌<◌, List, [], ◌∷◌, Option, Some, None, Bool, true, false, cond}
use Rattle.std.proofs.Common.{length, refl, subst, arith}
use Rattle.chem_model.specs.declared.name.Loc.{Loc}
use Rattle.chem_model.specs.declared.name.Pat.{Pat}
use Rattle.chem_model.specs.declared.event.AtomId.{AtomId}
use Rattle.chem_model.specs.declared.event.RuleId.{RuleId}
use Rattle.chem_model.specs.declared.event.Event.{Event}
use Rattle.chem_model.specs.declared.event.Event.TheVariants as event
use Rattle.chem_model.specs.declared.numbered.Numbered.{Numbered}
use Rattle.chem_model.specs.declared.numbered.NumberedAtom.{NumberedAtom}
use Rattle.chem_model.specs.declared.numbered.NumberedRule.{NumberedRule}
use Rattle.chem_model.specs.Each.{Each}
use Rattle.chem_model.specs.Fill.{Naming}
use Rattle.chem_model.specs.ProgramFacts.{ProgramTerms, IsProgram}
use Rattle.chem_model.specs.Solution.{live}
use Rattle.chem_model.specs.Numbered.{standing}
use Rattle.chem_model.specs.Opening.{opening}
use Rattle.chem_model.specs.Apply.{same_rule, rule_at, received_all, react_received, react_rule}
use Rattle.chem_model.specs.Apply.{apply, replay_from, replay}
use Rattle.chem_model.specs.Sound.{IsRule, IsSound}
use Rattle.chem_model.specs.Laws.{OpeningIsAStart, EventIsAReduction}
use Rattle.trace_text.specs.inside.Bounds.{TakesSome}

-- each pattern receives from an atom
received_some :
    (atoms : List NumberedAtom) (l : Loc) (pats : List Pat) (took : List AtomId) (m : Naming)
    → 0 < length pats → received_all atoms l pats took ≡ Some m → 0 < length took
received_some atoms l pats (i ∷ took) m some e = omega arith
received_some atoms l [] [] m some e = omega (arith, some)
received_some atoms l (p ∷ pats) [] m some e = cc

-- what holds of each rule holds of the one with this number
rule_found : (P : NumberedRule → Type 0) (rs : List NumberedRule) (i : RuleId) (r : NumberedRule)
    → Each P rs → rule_at rs i ≡ Some r → P r
rule_found P [] i r each e = cc
rule_found P (x ∷ rs) i r each e = go (same_rule x.id i) (rule_found P rs i r each.1) e
  where
    go : (t : Bool) → (rule_at rs i ≡ Some r → P r) → cond t (Some x) (rule_at rs i) ≡ Some r → P r
    go true later c = let is : x ≡ r = cc in subst P is each.0
    go false later c = later c

reaction_takes : (n m : Numbered) (r : NumberedRule) (took : List AtomId) → IsRule n r
    → react_rule n took (Some r) ≡ Some m → 0 < length took
reaction_takes n m r took rule e =
    go (live (standing n.places) r.loc) (received_all n.atoms r.loc r.pats took) refl e
  where
    go : (t : Bool) (o : Option Naming) → received_all n.atoms r.loc r.pats took ≡ o
        → cond t (react_received n r took o) None ≡ Some m → 0 < length took
    go true (Some names) got c = received_some n.atoms r.loc r.pats took names rule.is.0.some got
    go true None got c = cc
    go false o got c = cc

event_takes : (n m : Numbered) (e : Event) → IsSound n → apply n e ≡ Some m → TakesSome e
event_takes n m (event.React i took) sound e = go (rule_at n.rules i) refl e
  where
    go : (o : Option NumberedRule) → rule_at n.rules i ≡ o → react_rule n took o ≡ Some m
        → 0 < length took
    go None found c = cc
    go (Some r) found c =
        reaction_takes n m r took (rule_found (IsRule n) n.rules i r sound.rules found) c
event_takes n m (event.Move i) sound e = tt
event_takes n m (event.Halt i) sound e = tt
event_takes n m (event.Detect i) sound e = tt

nothing_replayed : (journal : List Event) (n : Numbered) → replay_from None journal ≡ Some n → ⊥
nothing_replayed [] n e = cc
nothing_replayed (x ∷ journal) n e = nothing_replayed journal n e

module _ (event_is : EventIsAReduction) where
  events_take : (n last : Numbered) (journal : List Event) → IsSound n
      → replay_from (Some n) journal ≡ Some last → Each TakesSome journal
  events_take n last [] sound e = tt
  events_take n last (x ∷ journal) sound e =
      go (apply n x) refl (λ m is. events_take m last journal (event_is n m x sound is).sound) e
    where
      go : (o : Option Numbered) → apply n x ≡ o
          → ((m : Numbered) → apply n x ≡ Some m → replay_from (Some m) journal ≡ Some last
          → Each TakesSome journal) → replay_from o journal ≡ Some last
          → Each TakesSome (x ∷ journal)
      go None is later c = absurd (nothing_replayed journal last c)
      go (Some m) is later c = (event_takes n m x sound is, later m is c)

  pub journal_takes : OpeningIsAStart → (p : ProgramTerms) → IsProgram p
      → (journal : List Event) (n : Numbered) → replay p journal ≡ Some n → Each TakesSome journal
  journal_takes opening_is p program journal n e =
      events_take (opening p) n journal (opening_is p program).0 e
