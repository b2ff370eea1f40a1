-- What is wrong with the first line that has a fault, and what lines declare, computed one line
-- after another; `proofs/Judging` has that these are the first fault and the sorts.
use Rattle.std.specs.Prelude.{◌≡◌, ℕ, ◌+◌, ◌==◌, ◌||◌, Bool, true, false, not, List, [], ◌∷◌, ◌++◌}
use Rattle.std.specs.Prelude.{Option, Some, None, is_some, length, codes, Result, Ok, Err}
use Rattle.std.specs.List.{list_all}
use Rattle.std.specs.Str.{bytes_eq}
use Rattle.sort_laws.specs.declared.sorts.SortDecl.{SortDecl}
use Rattle.sort_laws.specs.declared.sorts.SortUse.{SortUse}
use Rattle.sort_laws.specs.declared.sorts.Sorts.{Sorts}
use Rattle.sort_lines.specs.declared.content.Content.{Content}
use Rattle.sort_lines.specs.declared.content.Content.TheVariants.{Declares, Uses}
use Rattle.sort_lines.specs.declared.read.SaidLine.{SaidLine}
use Rattle.sort_lines.specs.declared.read.SortEnd.{SortEnd}
use Rattle.sort_lines.specs.declared.read.SortEnd.TheVariants as sort_end
use Rattle.sort_lines.specs.Lines.{Line}
use Rattle.sort_lines.specs.Faults.{first_place, defined_in, decl_in, use_in}
use Rattle.sort_lines.specs.inside.Reading.{IsSaid}

-- This is what the line says, at its place.
abbrev pub IsSaidLine : Line → SaidLine → Type 0
IsSaidLine line said = (said.place ≡ line.place) × IsSaid line.text said.content

-- This is what each of the lines says.
abbrev pub AreSaid : List Line → List SaidLine → Type 0
AreSaid [] [] = Unit {0}
AreSaid [] (r ∷ rs) = ⊥
AreSaid (l ∷ ls) [] = ⊥
AreSaid (l ∷ ls) (r ∷ rs) = IsSaidLine l r × AreSaid ls rs

-- ---- what a line defines and uses

abbrev pub defined_by : Option Content → List (List ℕ)
defined_by None = []
defined_by (Some c) = defined_in c

abbrev pub used_in : Content → List (List ℕ)
used_in (Declares name args) = []
used_in (Uses spell name) = spell ∷ []

abbrev pub used_by : Option Content → List (List ℕ)
used_by None = []
used_by (Some c) = used_in c

abbrev pub names_in : List SaidLine → List (List ℕ)
names_in [] = []
names_in (r ∷ rs) = defined_by r.content ++ names_in rs

abbrev pub spells_in : List SaidLine → List (List ℕ)
spells_in [] = []
spells_in (r ∷ rs) = used_by r.content ++ spells_in rs

abbrev pub decl_by : List (List ℕ) → Option Content → List SortDecl
decl_by names None = []
decl_by names (Some c) = decl_in names c

abbrev pub use_by : List (List ℕ) → Option Content → List SortUse
use_by names None = []
use_by names (Some c) = use_in names c

abbrev pub decls_in : List (List ℕ) → List SaidLine → List SortDecl
decls_in names [] = []
decls_in names (r ∷ rs) = decl_by names r.content ++ decls_in names rs

abbrev pub uses_in : List (List ℕ) → List SaidLine → List SortUse
uses_in names [] = []
uses_in names (r ∷ rs) = use_by names r.content ++ uses_in names rs

-- ---- what is wrong with a line

abbrev pub is_built_in : List ℕ → Bool
is_built_in name = bytes_eq name (codes "place") || bytes_eq name (codes "num")

abbrev pub is_among : List ℕ → List (List ℕ) → Bool
is_among name names = is_some (first_place name names)

abbrev pub is_known : List (List ℕ) → List ℕ → Bool
is_known names name = is_built_in name || is_among name names

abbrev pub is_place : Option ℕ → ℕ → Bool
is_place None n = false
is_place (Some k) n = k == n

-- it is built in, or stands before this place too
abbrev pub is_repeated : List (List ℕ) → ℕ → List ℕ → Bool
is_repeated names n name = is_built_in name || not (is_place (first_place name names) n)

abbrev pub wrong_by : (repeated known : Bool) → Option ℕ
wrong_by true known = Some 2
wrong_by false true = None
wrong_by false false = Some 3

-- what is wrong with what a line says, where the lines before define so many sorts and use these
-- spellings
abbrev pub wrong_content : List (List ℕ) → ℕ → List (List ℕ) → Content → Option ℕ
wrong_content names n spells (Declares name args) =
    wrong_by (is_repeated names n name) (list_all (is_known names) args)
wrong_content names n spells (Uses spell name) =
    wrong_by (is_among spell spells) (is_among name names)

abbrev pub wrong_in : List (List ℕ) → ℕ → List (List ℕ) → Option Content → Option ℕ
wrong_in names n spells None = Some 1
wrong_in names n spells (Some c) = wrong_content names n spells c

-- ---- the first fault

abbrev pub or_later : Option ℕ → ℕ → Option (ℕ × ℕ) → Option (ℕ × ℕ)
or_later None place later = later
or_later (Some kind) place later = Some (kind, place)

-- the number and the place of the first fault of lines, behind such lines
abbrev pub first_wrong : List (List ℕ) → ℕ → List (List ℕ) → List SaidLine → Option (ℕ × ℕ)
first_wrong names n spells [] = None
first_wrong names n spells (r ∷ rs) =
    or_later (wrong_in names n spells r.content) r.place
    (first_wrong names (n + length (defined_by r.content)) (spells ++ used_by r.content) rs)

-- The error is this fault, or want of memory.
abbrev pub EndsIn : Option (ℕ × ℕ) → SortEnd → Type 0
EndsIn fault (sort_end.Fault kind place) = fault ≡ Some (kind, place)
EndsIn fault sort_end.Memory = Unit {0}

-- ---- one line taken

-- Sorts gained what a line declares, and the spellings what it uses.
pub record Gains (names : List (List ℕ)) (c : Option Content) (spells next : List (List ℕ))
    (old new : Sorts) : Type 0 where
  pub decls : new.decls ≡ old.decls ++ decl_by names c
  pub uses : new.uses ≡ old.uses ++ use_by names c
  pub used : next ≡ spells ++ used_by c

-- A line without a fault is taken, and else it is the first one that has a fault.
abbrev pub Takes : List (List ℕ) → SaidLine → (spells next : List (List ℕ)) → (old new : Sorts)
    → Result Unit SortEnd → Type 0
Takes names r spells next old new (Ok u) =
    (wrong_in names (length old.decls) spells r.content ≡ None)
    × Gains names r.content spells next old new
Takes names r spells next old new (Err e) =
    EndsIn (or_later (wrong_in names (length old.decls) spells r.content) r.place None) e

-- Lines without a fault declare these sorts.
abbrev pub Declare : List (List ℕ) → List SaidLine → Sorts → Type 0
Declare names rs sorts =
    (first_wrong names 0 [] rs ≡ None)
    × (sorts ≡ record { decls = decls_in names rs; uses = uses_in names rs })
