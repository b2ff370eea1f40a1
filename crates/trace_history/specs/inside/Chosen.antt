-- Which candidate a key stands for: one at the key's site that is ready, or that can be met.
use Rattle.std.specs.Prelude.{◌≡◌, ℕ, ◌==◌, ◌&&◌, List, Option, Some, None, Bool, true, cond}
use Rattle.chem_model.specs.declared.numbered.NumberedRule.{NumberedRule}
use Rattle.chem_model.specs.declared.numbered.NumberedAtom.{NumberedAtom}
use Rattle.chem_model.specs.declared.numbered.Numbered.{Numbered}
use Rattle.chem_model.specs.Each.{IsIn}
use Rattle.chem_model.specs.Solution.{root}
use Rattle.chem_model.specs.Numbered.{standing}
use Rattle.chem_model.specs.Apply.{rule_at, atom_at}
use Rattle.chem_causes.specs.Ready.{is_ready, can_act}
use Rattle.trace_history.specs.inside.Search.{rule_before, request_before}
use Rattle.book_store.specs.Keys.{Key}
use Rattle.book_store.specs.Candidates.{IsCandidate}
use Rattle.trace_history.specs.inside.Passed.{Beaten, IsOne}
use Rattle.book_store.specs.Watched.{rule_pair}
use Rattle.book_store.specs.Asked.{atom_pair}
use Rattle.book_store.specs.declared.candidates.Candidates.{Candidates}

-- a member that is at this site and passes
abbrev pub kept_at : {X : Type 0} → (X → ℕ) → (X → Bool) → ℕ → Option X → Option X
kept_at site test s None = None
kept_at site test s (Some x) = cond ((site x == s) && test x) (Some x) None

abbrev pub rule_site : Numbered → NumberedRule → ℕ
rule_site n r = (root (standing n.places) r.loc).site

abbrev pub rule_for : Numbered → Key → Option NumberedRule
rule_for n key = kept_at (rule_site n) (is_ready n) key.0
    (rule_at n.rules (record { site = key.1.0; k = key.1.1 }))

abbrev pub atom_site : Numbered → NumberedAtom → ℕ
atom_site n a = (root (standing n.places) a.loc).site

-- among these atoms
abbrev pub request_for : Numbered → List NumberedAtom → Key → Option NumberedAtom
request_for n atoms key = kept_at (atom_site n) (can_act n) key.0
    (atom_at atoms (record { site = key.1.0; k = key.1.1 }))

-- what was found is a rule that is ready, or none, and no candidate that is ready comes before it
pub record IsFirstReady (n : Numbered) (from : ℕ) (c : Candidates) (found : Option NumberedRule) :
    Type 0 where
  pub one : IsOne (is_ready n) n.rules found
  pub all : (r : NumberedRule) → IsIn r n.rules
      → IsCandidate (standing n.places) c r.loc (rule_pair r.id) → is_ready n r ≡ true
      → Beaten (rule_before n from) r found

-- the same of the requests among these atoms
pub record IsFirstAsking (n : Numbered) (from : ℕ) (c : Candidates) (atoms : List NumberedAtom)
    (found : Option NumberedAtom) : Type 0 where
  pub one : IsOne (can_act n) atoms found
  pub all : (a : NumberedAtom) → IsIn a atoms
      → IsCandidate (standing n.places) c a.loc (atom_pair a.id) → can_act n a ≡ true
      → Beaten (request_before n from) a found
