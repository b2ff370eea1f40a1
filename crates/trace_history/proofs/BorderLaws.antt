-- What is known of a solution is known of one in which each number finds the same.
use Rattle.std.proofs.Common.{◌≡◌, ℕ, List, Option, Some, None, false, refl, ap, sym, ◌∙◌, is_some}
use Rattle.chem_model.specs.declared.event.Event.{Event}
use Rattle.chem_model.specs.declared.event.Event.TheVariants as event
use Rattle.chem_model.specs.declared.numbered.NumberedAtom.{NumberedAtom}
use Rattle.chem_model.specs.declared.numbered.Numbered.{Numbered}
use Rattle.chem_model.specs.Apply.{apply}
use Rattle.trace_history.specs.First.{site_of, site_of_atom, IsFirst}
use Rattle.chem_commit.specs.inside.Differ.{AtomsDiffer}
use Rattle.book_store.specs.Alike.{AreAlike}
use Rattle.trace_history.proofs.Alike.{AreAlikeIf}
use Rattle.trace_history.proofs.ApplyAlike.{apply_alike}

both_some : (o q : Option Numbered) → AreAlikeIf o q → is_some o ≡ is_some q
both_some None None h = refl
both_some None (Some m) h = absurd h
both_some (Some n) None h = absurd h
both_some (Some n) (Some m) h = refl

-- ---- the border

module _ (n : Numbered) (ys : List NumberedAtom) (d : AtomsDiffer n.atoms) (e : AtomsDiffer ys)
    (h : AreAlike n.atoms ys) where
  pub possible_alike : (f : Event)
      → is_some (apply n f) ≡ is_some (apply (record n { atoms = ys }) f)
  possible_alike f =
      both_some (apply n f) (apply (record n { atoms = ys }) f) (apply_alike n ys d e h f)

  pub site_alike : (f : Event) → site_of n f ≡ site_of (record n { atoms = ys }) f
  site_alike (event.React i took) = refl
  site_alike (event.Move i) = ap (site_of_atom n) (h i)
  site_alike (event.Halt i) = ap (site_of_atom n) (h i)
  site_alike (event.Detect i) = ap (site_of_atom n) (h i)

  -- the event that comes first is the same
  pub first_alike : (from site : ℕ) (f : Event) → IsFirst (record n { atoms = ys }) from site f
      → IsFirst n from site f
  first_alike from site f first = record {
    possible = possible_alike f ∙ first.possible;
    at_site = site_alike f ∙ first.at_site;
    no_earlier_site = λ g s p at.
        first.no_earlier_site g s (sym (possible_alike g) ∙ p) (sym (site_alike g) ∙ at);
    no_lesser = λ g p at. first.no_lesser g (sym (possible_alike g) ∙ p) (sym (site_alike g) ∙ at);
  }

  -- and no event is possible in the one exactly where none is in the other
  pub stuck_alike : ((f : Event) → is_some (apply (record n { atoms = ys }) f) ≡ false)
      → (f : Event) → is_some (apply n f) ≡ false
  stuck_alike none f = possible_alike f ∙ none f
