-- The parts of a tree's text, and what prints them.
use Rattle.std.specs.Prelude.{◌≡◌, ℕ, Bool, true, false, List, [], ◌∷◌, ◌++◌}
use Rattle.join_lex.specs.declared.token.Key.TheVariants as key
use Rattle.join_lex.specs.declared.token.Sign.TheVariants as sign
use Rattle.join_parse.specs.Terminals.{Terminal, a_key, a_sign, named}
use Rattle.join_parse.specs.declared.word.SeenTree.{SeenTree}
use Rattle.join_parse.specs.declared.tree.PlaceTree.{PlaceTree}
use Rattle.join_parse.specs.Source.{processes, definitions}
use Rattle.join_parse.specs.Grammar.{nowhere, unplaced, of_processes, of_definitions}
use Rattle.join_parse.specs.Printed.{spelling}

-- the space before a word, where it isn't the first
abbrev pub gap : List ℕ → List ℕ
gap [] = []
gap (b ∷ bs) = 32 ∷ []

-- The text, with these terminals appended.
abbrev pub spaced : List ℕ → List Terminal → List ℕ
spaced text [] = text
spaced text (t ∷ ts) = spaced (text ++ gap text ++ spelling t) ts

-- One text becomes another by a part of a sentence.
abbrev pub Prints : List ℕ → List ℕ → (List Terminal → List Terminal) → Type 0
Prints old new part = (rest : List Terminal) → spaced old (part rest) ≡ spaced new rest

-- what stands between the members of a list
abbrev pub between : Bool → Terminal → List Terminal → List Terminal
between true t rest = rest
between false t rest = t ∷ rest

abbrev pub one_declaration : SeenTree → List Terminal → List Terminal
one_declaration d rest =
    a_key key.Observe ∷ named d.name ∷ a_sign sign.Slash
    ∷ unplaced nowhere d.count (a_sign sign.Semicolon ∷ rest)

-- a site or place behind its opener
abbrev pub of_place : PlaceTree → List Terminal → List Terminal
of_place s rest =
    named s.name ∷ a_sign sign.SquareLeft
    ∷ of_definitions nowhere (definitions s.defs)
    (a_sign sign.Colon ∷ of_processes nowhere (processes s.body) (a_sign sign.SquareRight ∷ rest))
