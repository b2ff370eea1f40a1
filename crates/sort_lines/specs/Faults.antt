-- The faults of sort lines, and the sorts that they declare.
use Rattle.std.specs.Prelude.{◌≡◌, ℕ, ◌<◌, ◌≤◌, ◌⊎◌, List, [], ◌∷◌, ◌++◌, map, Option, unwrap_or}
use Rattle.std.specs.Prelude.{codes, if◌then◌else◌}
use Rattle.std.specs.List.{position_from}
use Rattle.std.specs.Str.{bytes_eq}
use Rattle.chem_model.specs.Each.{IsIn}
use Rattle.sort_laws.specs.declared.sorts.SortArg.{SortArg}
use Rattle.sort_laws.specs.declared.sorts.SortArg.TheVariants as arg
use Rattle.sort_laws.specs.declared.sorts.SortDecl.{SortDecl}
use Rattle.sort_laws.specs.declared.sorts.SortUse.{SortUse}
use Rattle.sort_laws.specs.declared.sorts.Sorts.{Sorts}
use Rattle.sort_lines.specs.declared.content.Content.{Content}
use Rattle.sort_lines.specs.declared.content.Content.TheVariants.{Declares, Uses}
use Rattle.sort_lines.specs.Lines.{Line}
use Rattle.sort_lines.specs.Contents.{ReadsAs}

-- ---- faults

-- `place` and `num`
abbrev pub IsBuiltIn : List ℕ → Type 0
IsBuiltIn name = (name ≡ codes "place") ⊎ (name ≡ codes "num")

-- One of the lines defines a sort of this name.
pub record IsDefinedBy (lines : List Line) (name : List ℕ) : Type 0 where
  pub line : Line
  pub stands : IsIn line lines
  pub args : List (List ℕ)
  pub reads : ReadsAs line.text (Declares name args)

-- One of the lines uses the spelling.
pub record IsUsedBy (lines : List Line) (spell : List ℕ) : Type 0 where
  pub line : Line
  pub stands : IsIn line lines
  pub name : List ℕ
  pub reads : ReadsAs line.text (Uses spell name)

-- A sort is defined or a spelling used by an earlier line too, or `place` or `num` is defined.
abbrev pub IsRepeated : List Line → Content → Type 0
IsRepeated before (Declares name args) = IsBuiltIn name ⊎ IsDefinedBy before name
IsRepeated before (Uses spell name) = IsUsedBy before spell

-- It is neither `place` nor `num` nor a defined sort.
abbrev pub IsUnknown : List Line → List ℕ → Type 0
IsUnknown lines name = (IsBuiltIn name → ⊥) × (IsDefinedBy lines name → ⊥)

-- An argument is unknown, or no defined sort is used.
abbrev pub IsUndefined : List Line → Content → Type 0
IsUndefined lines (Declares name args) = (a : List ℕ) × IsIn a args × IsUnknown lines a
IsUndefined lines (Uses spell name) = IsDefinedBy lines name → ⊥

-- This is wrong with a line among all of them, behind those before: 1 where it has neither form, 2
-- where it is repeated, 3 where it is undefined.
abbrev pub IsWrongLine : (all before : List Line) → Line → ℕ → Type 0
IsWrongLine all before line kind =
    ((kind ≡ 1) × ((c : Content) → ReadsAs line.text c → ⊥))
    ⊎ ((kind ≡ 2) × ((c : Content) × ReadsAs line.text c × IsRepeated before c))
    ⊎ ((kind ≡ 3) × ((c : Content) × ReadsAs line.text c × IsUndefined all c))

-- The lines have this fault at this place.
pub record IsFault (lines : List Line) (kind place : ℕ) : Type 0 where
  pub before : List Line
  pub line : Line
  pub after : List Line
  pub all : lines ≡ before ++ line ∷ after
  pub here : place ≡ line.place
  pub wrong : IsWrongLine lines before line kind

-- The first fault has the least place, and at that place the least number.
abbrev pub IsSooner : (kind place other elsewhere : ℕ) → Type 0
IsSooner kind place other elsewhere =
    (place < elsewhere) ⊎ ((place ≡ elsewhere) × (kind ≤ other))

abbrev pub IsFirstFault : List Line → ℕ → ℕ → Type 0
IsFirstFault lines kind place =
    IsFault lines kind place
    × ((other elsewhere : ℕ) → IsFault lines other elsewhere → IsSooner kind place other elsewhere)

-- ---- sorts

-- Each line reads so.
abbrev pub ReadAs : List Line → List Content → Type 0
ReadAs [] [] = Unit {0}
ReadAs [] (c ∷ cs) = ⊥
ReadAs (l ∷ ls) [] = ⊥
ReadAs (l ∷ ls) (c ∷ cs) = ReadsAs l.text c × ReadAs ls cs

abbrev pub defined_in : Content → List (List ℕ)
defined_in (Declares name args) = name ∷ []
defined_in (Uses spell name) = []

-- the names of the defined sorts, in the order of the lines
abbrev pub defined : List Content → List (List ℕ)
defined [] = []
defined (c ∷ cs) = defined_in c ++ defined cs

-- where a name stands first, from 0
abbrev pub first_place : List ℕ → List (List ℕ) → Option ℕ
first_place name names = position_from (bytes_eq name) 0 names

abbrev pub place_in : List ℕ → List (List ℕ) → ℕ
place_in name names = unwrap_or (first_place name names) 0

abbrev pub sort_named : List (List ℕ) → List ℕ → SortArg
sort_named names name =
    if bytes_eq name (codes "place") then arg.Place
    else if bytes_eq name (codes "num") then arg.Num
    else arg.Named (place_in name names)

abbrev pub decl_in : List (List ℕ) → Content → List SortDecl
decl_in names (Declares name args) =
    record { name = name; args = map (sort_named names) args } ∷ []
decl_in names (Uses spell name) = []

abbrev pub use_in : List (List ℕ) → Content → List SortUse
use_in names (Declares name args) = []
use_in names (Uses spell name) = record { spell = spell; sort = place_in name names } ∷ []

-- one declaration for each line that defines a sort, and one use for each line that uses a spelling
abbrev pub decls_of : List (List ℕ) → List Content → List SortDecl
decls_of names [] = []
decls_of names (c ∷ cs) = decl_in names c ++ decls_of names cs

abbrev pub uses_of : List (List ℕ) → List Content → List SortUse
uses_of names [] = []
uses_of names (c ∷ cs) = use_in names c ++ uses_of names cs

-- A defined sort stands as its place among those that the lines define.
abbrev pub sorts_by : List Content → Sorts
sorts_by cs =
    record { decls = decls_of (defined cs) cs; uses = uses_of (defined cs) cs }

-- The lines have no fault, and declare these sorts.
pub record AreSortsOf (lines : List Line) (sorts : Sorts) : Type 0 where
  pub contents : List Content
  pub read : ReadAs lines contents
  pub are : sorts ≡ sorts_by contents
  pub none : (kind place : ℕ) → IsFault lines kind place → ⊥
