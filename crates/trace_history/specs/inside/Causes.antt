-- What the tables tell by which causes are found.
use Rattle.std.specs.Prelude.{◌≡◌, ℕ, List, Option, Some, None, Bool, false, ◌&&◌, length}
use Rattle.std.specs.List.{list_any, list_all}
use Rattle.chem_model.specs.declared.name.Ref.{Ref}
use Rattle.chem_model.specs.declared.name.Pat.{Pat}
use Rattle.chem_model.specs.declared.event.AtomId.{AtomId}
use Rattle.chem_model.specs.declared.numbered.NumberedRule.{NumberedRule}
use Rattle.chem_model.specs.declared.numbered.NumberedAtom.{NumberedAtom}
use Rattle.chem_model.specs.declared.numbered.Numbered.{Numbered}
use Rattle.chem_model.specs.Each.{Each, IsIn}
use Rattle.chem_model.specs.Solution.{live}
use Rattle.chem_model.specs.Numbered.{standing}
use Rattle.chem_model.specs.Apply.{same_atom}
use Rattle.chem_causes.specs.declared.cause.Left.{Left}
use Rattle.chem_causes.specs.Cause.{IsChannel, has_pattern, waits_for}
use Rattle.chem_causes.specs.Ready.{is_taken_up}
use Rattle.chem_causes.specs.Channels.{Key, has}
use Rattle.chem_causes.specs.Lefts.{left_at}
use Rattle.trace_history.specs.Left.{IsLeft}

-- a rule stands at a live location, and the channel of each pattern is one of these
abbrev pub is_found : List Key → Numbered → NumberedRule → Bool
is_found met n r =
    live (standing n.places) r.loc
    && list_all (λ (p : Pat). has met p.on (length p.params)) r.pats

abbrev pub found_up : List Key → Numbered → Ref → ℕ → NumberedRule → Bool
found_up met n x c r = list_any (waits_for x c) r.pats && is_found met n r

-- the ones have what rules wait for, and the others that for which one of them is found so
pub record AreFound (met : List Key) (n : Numbered) (waited ready : List Key) : Type 0 where
  pub waits : (x : Ref) → IsChannel x → (c : ℕ) → has waited x c ≡ has_pattern n.rules x c
  pub takes : (x : Ref) → IsChannel x → (c : ℕ)
      → has ready x c ≡ list_any (found_up met n x c) n.rules

-- and that for which one of them is ready
pub record AreSorted (n : Numbered) (waited ready : List Key) : Type 0 where
  pub waits : (x : Ref) → IsChannel x → (c : ℕ) → has waited x c ≡ has_pattern n.rules x c
  pub takes : (x : Ref) → IsChannel x → (c : ℕ) → has ready x c ≡ is_taken_up n x c

-- of these atoms each is told by its number, and no other
abbrev pub CoveredAt : Numbered → List NumberedAtom → AtomId → Option Left → Type 0
CoveredAt n atoms i None = Each (λ (a : NumberedAtom). same_atom a.id i ≡ false) atoms
CoveredAt n atoms i (Some left) =
    (a : NumberedAtom) × IsIn a atoms × (a.id ≡ i) × IsLeft n a left

abbrev pub Covers : Numbered → List NumberedAtom → List Left → Type 0
Covers n atoms lefts = (i : AtomId) → CoveredAt n atoms i (left_at lefts i)
