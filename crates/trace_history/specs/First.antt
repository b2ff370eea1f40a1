-- The event that comes first: the site whose turn comes first, a reaction before a request, the
-- least rule, and for each of its patterns in order the matching message with the least number;
-- among requests the least number. Numbers are compared by site, then by number.
use Rattle.std.specs.Prelude.{◌≡◌, ℕ, ◌+◌, ◌-◌, ◌≤◌, List, [], ◌∷◌, Option, Some, None, is_some}
use Rattle.std.specs.Prelude.{Bool, true, false, nat_lt, ◌==◌, ◌&&◌, ◌||◌, cond, length}
use Rattle.chem_model.specs.declared.event.AtomId.{AtomId}
use Rattle.chem_model.specs.declared.event.RuleId.{RuleId}
use Rattle.chem_model.specs.declared.event.Event.{Event}
use Rattle.chem_model.specs.declared.event.Event.TheVariants.{React, Move, Halt, Detect}
use Rattle.chem_model.specs.declared.numbered.NumberedRule.{NumberedRule}
use Rattle.chem_model.specs.declared.numbered.NumberedAtom.{NumberedAtom}
use Rattle.chem_model.specs.declared.numbered.Numbered.{Numbered}
use Rattle.chem_model.specs.Solution.{root}
use Rattle.chem_model.specs.Numbered.{standing}
use Rattle.chem_model.specs.Apply.{apply, rule_at, atom_at}

abbrev pub less : ℕ → ℕ → ℕ → ℕ → Bool
less s k t j = nat_lt s t || ((s == t) && nat_lt k j)

abbrev pub atom_less : AtomId → AtomId → Bool
atom_less a b = less a.site a.k b.site b.k

abbrev pub rule_less : RuleId → RuleId → Bool
rule_less a b = less a.site a.k b.site b.k

-- the first atom in which they differ decides
abbrev pub atoms_less : List AtomId → List AtomId → Bool
atoms_less [] [] = false
atoms_less [] (b ∷ bs) = true
atoms_less (a ∷ others) [] = false
atoms_less (a ∷ others) (b ∷ bs) =
    atom_less a b || (cond (atom_less b a) false (atoms_less others bs))

-- the request of an event: a reaction has none
abbrev pub request_of : Event → Option AtomId
request_of (React i took) = None
request_of (Move i) = Some i
request_of (Halt i) = Some i
request_of (Detect i) = Some i

abbrev pub requests_less : Option AtomId → Option AtomId → Bool
requests_less None None = false
requests_less None (Some j) = true
requests_less (Some i) None = false
requests_less (Some i) (Some j) = atom_less i j

-- a reaction comes before a request; among reactions the rule decides and then what they take,
-- among requests the request
abbrev pub event_less : Event → Event → Bool
event_less (React i took) (React j taken) =
    rule_less i j || (cond (rule_less j i) false (atoms_less took taken))
event_less (React i took) (Move j) = true
event_less (React i took) (Halt j) = true
event_less (React i took) (Detect j) = true
event_less (Move i) e = requests_less (Some i) (request_of e)
event_less (Halt i) e = requests_less (Some i) (request_of e)
event_less (Detect i) e = requests_less (Some i) (request_of e)

-- ---- the site of an event: that of the root above its rule or its request

abbrev pub site_of_rule : Numbered → Option NumberedRule → Option ℕ
site_of_rule n None = None
site_of_rule n (Some r) = Some (root (standing n.places) r.loc).site

abbrev pub site_of_atom : Numbered → Option NumberedAtom → Option ℕ
site_of_atom n None = None
site_of_atom n (Some a) = Some (root (standing n.places) a.loc).site

abbrev pub site_of : Numbered → Event → Option ℕ
site_of n (React i took) = site_of_rule n (rule_at n.rules i)
site_of n (Move i) = site_of_atom n (atom_at n.atoms i)
site_of n (Halt i) = site_of_atom n (atom_at n.atoms i)
site_of n (Detect i) = site_of_atom n (atom_at n.atoms i)

-- how many turns after the site that is looked at first a site comes: upwards from it, and then
-- from 0
abbrev pub turns : ℕ → ℕ → ℕ → ℕ
turns sites from s = cond (nat_lt s from) (s + (sites - from)) (s - from)

-- the event that comes first, where the site `from` is looked at first: it is possible, its site is
-- this one, no possible event is at a site whose turn comes earlier, and none at this site comes
-- before it
pub record IsFirst (n : Numbered) (from site : ℕ) (e : Event) : Type 0 where
  pub possible : is_some (apply n e) ≡ true
  pub at_site : site_of n e ≡ Some site
  pub no_earlier_site : (f : Event) (s : ℕ) → is_some (apply n f) ≡ true → site_of n f ≡ Some s
      → turns (length n.counts) from site ≤ turns (length n.counts) from s
  pub no_lesser : (f : Event) → is_some (apply n f) ≡ true → site_of n f ≡ Some site
      → event_less f e ≡ false
