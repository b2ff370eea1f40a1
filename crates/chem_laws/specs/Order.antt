-- Reactions under different roots: either may come first, and each looks at and changes only what
-- stands under its own root.
use Rattle.std.specs.Prelude.{◌≡◌, ◌≢◌, ℕ, ◌+◌, ◌<◌, ◌≤◌, List, [], ◌∷◌, ◌++◌, Some, true}
use Rattle.std.specs.Prelude.{length, slice_index, slice_set}
use Rattle.chem_model.specs.declared.name.Loc.{Loc}
use Rattle.chem_model.specs.declared.name.Name.{Name}
use Rattle.chem_model.specs.declared.event.AtomId.{AtomId}
use Rattle.chem_model.specs.declared.event.RuleId.{RuleId}
use Rattle.chem_model.specs.declared.event.Out.{Out}
use Rattle.chem_model.specs.declared.event.Event.{Event}
use Rattle.chem_model.specs.declared.event.Event.TheVariants.{React}
use Rattle.chem_model.specs.declared.numbered.NumberedRule.{NumberedRule}
use Rattle.chem_model.specs.declared.numbered.NumberedAtom.{NumberedAtom}
use Rattle.chem_model.specs.declared.numbered.Numbered.{Numbered}
use Rattle.chem_model.specs.declared.numbered.Made.{Made}
use Rattle.chem_model.specs.contracts.numbered.NumberedRule as rule
use Rattle.chem_model.specs.contracts.numbered.NumberedAtom as atom
use Rattle.chem_model.specs.Bag.{bag}
use Rattle.chem_model.specs.Solution.{is_there, root}
use Rattle.chem_model.specs.Numbered.{standing, binder_in}
use Rattle.chem_model.specs.Fill.{Naming}
use Rattle.chem_model.specs.Pour.{nothing_made, then_made, pour}
use Rattle.chem_model.specs.Apply.{apply, rule_at, atom_at, received_all, replay_from}
use Rattle.chem_model.specs.Sound.{IsSound}

-- the rules and the atoms of a list, as a multiset
abbrev pub rules_in : List NumberedRule → NumberedRule → ℕ
rules_in = bag rule.the_row.coded

abbrev pub atoms_in : List NumberedAtom → NumberedAtom → ℕ
atoms_in = bag atom.the_row.coded

-- the root above a location
abbrev pub root_above : Numbered → Loc → Loc
root_above n l = root (standing n.places) l

-- ---- the same solution, whatever the order in which its parts were made

-- the same version and counts, the same maps of locations and of binders, and the same multisets of
-- rules and atoms: all but the trace
pub record HasSameParts (n m : Numbered) : Type 0 where
  pub version : n.version ≡ m.version
  pub seen : n.seen ≡ m.seen
  pub counts : n.counts ≡ m.counts
  pub places : (l : Loc) → standing n.places l ≡ standing m.places l
  pub binders : (x : Name) → binder_in n.named x ≡ binder_in m.named x
  pub rules : (r : NumberedRule) → rules_in n.rules r ≡ rules_in m.rules r
  pub atoms : (a : NumberedAtom) → atoms_in n.atoms a ≡ atoms_in m.atoms a

-- what e and f append to the trace of n is the same, whichever comes first
pub record AppendInEitherOrder (n after_e after_f e_then_f f_then_e : Numbered) : Type 0 where
  pub e_outs : List Out
  pub f_outs : List Out
  pub e_alone : after_e.trace ≡ n.trace ++ e_outs
  pub f_alone : after_f.trace ≡ n.trace ++ f_outs
  pub e_first : e_then_f.trace ≡ (n.trace ++ e_outs) ++ f_outs
  pub f_first : f_then_e.trace ≡ (n.trace ++ f_outs) ++ e_outs

-- after e the event f is possible and after f the event e, and the two results are equal but for
-- the order of the observables that the two append
pub record InEitherOrder (n after_e after_f : Numbered) (e f : Event) : Type 0 where
  pub e_then_f : Numbered
  pub f_then_e : Numbered
  pub f_follows : apply after_e f ≡ Some e_then_f
  pub e_follows : apply after_f e ≡ Some f_then_e
  pub same : HasSameParts e_then_f f_then_e
  pub traces : AppendInEitherOrder n after_e after_f e_then_f f_then_e

-- in a sound solution two reactions of rules under different roots can be made in either order
abbrev pub ReactionsCommute : Type 0
ReactionsCommute =
    (n after_e after_f : Numbered) (i j : RuleId) (took taken : List AtomId) (r q : NumberedRule)
    → IsSound n → rule_at n.rules i ≡ Some r → rule_at n.rules j ≡ Some q
    → root_above n r.loc ≢ root_above n q.loc
    → apply n (React i took) ≡ Some after_e → apply n (React j taken) ≡ Some after_f
    → InEitherOrder n after_e after_f (React i took) (React j taken)

-- ---- what the reactions of one site look at

-- the root above the location is the one of site t
abbrev pub IsUnder : Numbered → ℕ → Loc → Type 0
IsUnder n t l = (root_above n l).site ≡ t

-- m has all that n has under the root of site t, and the same count of that site
pub record HasAll (t : ℕ) (n m : Numbered) : Type 0 where
  pub seen : m.seen ≡ n.seen
  pub count : slice_index m.counts t ≡ slice_index n.counts t
  pub places :
      (l : Loc) → is_there (standing n.places l) ≡ true → IsUnder n t l
      → standing m.places l ≡ standing n.places l
  pub rules :
      (i : RuleId) (r : NumberedRule) → rule_at n.rules i ≡ Some r → IsUnder n t r.loc
      → rule_at m.rules i ≡ Some r
  pub atoms :
      (i : AtomId) (a : NumberedAtom) → atom_at n.atoms i ≡ Some a → IsUnder n t a.loc
      → atom_at m.atoms i ≡ Some a

-- these are the atoms with these numbers, in order
abbrev pub AreFound : List NumberedAtom → List AtomId → List NumberedAtom → Type 0
AreFound atoms [] [] = Unit {0}
AreFound atoms [] (a ∷ gone) = ⊥
AreFound atoms (i ∷ took) [] = ⊥
AreFound atoms (i ∷ took) (a ∷ gone) = (atom_at atoms i ≡ Some a) × AreFound atoms took gone

-- what is made where the rule's body is poured at its location with these names
abbrev pub body_made : Numbered → NumberedRule → Naming → Made
body_made n r names =
    let h = root_above n r.loc in
    pour n.seen h.site h names r.loc (slice_index n.counts h.site) r.body

-- e is a reaction of a rule under the root of site t that leads from n to m: the atoms `gone` go,
-- and a is made
pub record Reacts
    (t : ℕ) (n : Numbered) (e : Event) (gone : List NumberedAtom) (a : Made) (m : Numbered)
    : Type 0 where
  pub id : RuleId
  pub took : List AtomId
  pub rule : NumberedRule
  pub names : Naming
  pub is : e ≡ React id took
  pub at_rule : rule_at n.rules id ≡ Some rule
  pub at_site : IsUnder n t rule.loc
  pub receives : received_all n.atoms rule.loc rule.pats took ≡ Some names
  pub found : AreFound n.atoms took gone
  pub makes : a ≡ body_made n rule names
  pub applies : apply n e ≡ Some m

-- each reaction that is possible takes atoms that stand in the solution, and makes what its rule's
-- body makes where it is poured
abbrev pub ReactionsTakeAndMake : Type 0
ReactionsTakeAndMake =
    (n m : Numbered) (i : RuleId) (took : List AtomId) (r : NumberedRule)
    → rule_at n.rules i ≡ Some r → apply n (React i took) ≡ Some m
    → (gone : List NumberedAtom) × (a : Made)
    × Reacts (root_above n r.loc).site n (React i took) gone a m

-- such reactions, one after another: what goes and what is made is added up
pub data ReactsAt (t : ℕ)
    : Numbered → List Event → List NumberedAtom → Made → Numbered → Type 0 where
  no_reaction : {n : Numbered} → ReactsAt t n [] [] (nothing_made (slice_index n.counts t)) n
  a_reaction :
      {n m last : Numbered} {e : Event} {journal : List Event}
      {gone more : List NumberedAtom} {a b : Made}
      → Reacts t n e gone a m → ReactsAt t m journal more b last
      → ReactsAt t n (e ∷ journal) (gone ++ more) (then_made a b) last

-- what the solution becomes: what was made stands behind what was there, what went is gone, and at
-- each other site all stays
pub record IsChanged
    (t : ℕ) (n : Numbered) (gone : List NumberedAtom) (a : Made) (m : Numbered)
    : Type 0 where
  pub seen : m.seen ≡ n.seen
  pub counts : m.counts ≡ slice_set n.counts t a.next
  pub places : m.places ≡ n.places ++ a.births
  pub named : m.named ≡ n.named ++ a.named
  pub rules : m.rules ≡ n.rules ++ a.rules
  pub trace : m.trace ≡ n.trace ++ a.outs
  pub atoms :
      (x : NumberedAtom)
      → atoms_in m.atoms x + atoms_in gone x ≡ atoms_in n.atoms x + atoms_in a.atoms x
  pub others : (u : ℕ) → u ≢ t → HasAll u n m

-- reactions of one site lead to a sound solution, and change what they take and make and nothing at
-- another site
abbrev pub ReactionsStayAtHome : Type 0
ReactionsStayAtHome =
    (t : ℕ) (n m : Numbered) (journal : List Event) (gone : List NumberedAtom) (a : Made)
    → IsSound n → t < length n.counts → ReactsAt t n journal gone a m
    → IsSound m × IsChanged t n gone a m

-- the reactions of the journal are possible from m, take and make the same there, and lead to a
-- solution that has all that `last` has under the root of site t
pub record SameReactions
    (t : ℕ) (m : Numbered) (journal : List Event) (gone : List NumberedAtom) (a : Made)
    (last : Numbered)
    : Type 0 where
  pub end : Numbered
  pub reacts : ReactsAt t m journal gone a end
  pub has_all : HasAll t last end

-- reactions of one site are possible, and the same, in each sound solution that has all that this
-- one has under the site's root
abbrev pub ReactionsAreLocal : Type 0
ReactionsAreLocal =
    (t : ℕ) (n m last : Numbered) (journal : List Event) (gone : List NumberedAtom) (a : Made)
    → IsSound n → IsSound m → HasAll t n m → ReactsAt t n journal gone a last
    → SameReactions t m journal gone a last

-- ---- sites at once

-- the journal of each site, from site i on, is made of its reactions from the same solution
abbrev pub EachReacts : Numbered → ℕ → List (List Event) → Type 0
EachReacts n i [] = Unit {0}
EachReacts n i (journal ∷ journals) =
    ((gone : List NumberedAtom) × (a : Made) × (last : Numbered) × ReactsAt i n journal gone a last)
    × EachReacts n (i + 1) journals

abbrev pub joined : List (List Event) → List Event
joined [] = []
joined (journal ∷ journals) = journal ++ joined journals

-- what sites do at once, each from the same solution, can be done site after site
abbrev pub SitesAtOnce : Type 0
SitesAtOnce =
    (n : Numbered) (journals : List (List Event))
    → IsSound n → length journals ≤ length n.counts → EachReacts n 0 journals
    → (end : Numbered) × (replay_from (Some n) (joined journals) ≡ Some end) × IsSound end
