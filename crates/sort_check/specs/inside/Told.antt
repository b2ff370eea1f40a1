-- The sorts that spellings have by a map, and by the lines that were put into it.
use Rattle.std.specs.Prelude.{◌≡◌, ℕ, List, [], ◌∷◌, Option, Some, None, if◌then◌else◌}
use Rattle.std.specs.Str.{bytes_eq}
use denote.Ref.{Bor}
use Rattle.sort_laws.specs.declared.sorts.SortArg.{SortArg}
use Rattle.sort_laws.specs.declared.sorts.SortArg.TheVariants as arg
use Rattle.sort_laws.specs.declared.sorts.SortUse.{SortUse}
use Rattle.sort_laws.specs.Table.{used_as}

-- the map's entries, with the bytes of their keys
abbrev pub spelled : List (Bor (List ℕ) × ℕ) → List (List ℕ × ℕ)
spelled [] = []
spelled (e ∷ es) = (e.0.now, e.1) ∷ spelled es

abbrev pub in_map : List (List ℕ × ℕ) → List ℕ → Option SortArg
in_map [] text = None
in_map (e ∷ es) text = if bytes_eq text e.0 then Some (arg.Named e.1) else in_map es text

-- the line's spelling has the line's sort, and every other what it had
abbrev pub Overrides : List (List ℕ × ℕ) → SortUse → List (List ℕ × ℕ) → Type 0
Overrides old line new =
    (text : List ℕ)
    → in_map new text
    ≡ (if bytes_eq text line.spell then Some (arg.Named line.sort) else in_map old text)

-- each spelling has the sort that the lines give it
abbrev pub TellsAs : List SortUse → List (List ℕ × ℕ) → Type 0
TellsAs lines map = (text : List ℕ) → in_map map text ≡ used_as lines text
