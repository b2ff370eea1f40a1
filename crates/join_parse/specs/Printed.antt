-- The text of a tree.
use Rattle.std.specs.Prelude.{ℕ, List, [], ◌∷◌, ◌++◌, decimal}
use Rattle.join_lex.specs.declared.token.Key.TheVariants as key
use Rattle.join_lex.specs.Spelling.{key_bytes, sign_bytes}
use Rattle.join_parse.specs.Terminals.{Terminal, a_name, a_number, a_site, a_key, a_sign}

-- how a terminal is spelled; numbers have no leading zeros
abbrev pub spelling : Terminal → List ℕ
spelling (a_name text place) = text
spelling (a_number n place) = decimal n
spelling (a_site place) = key_bytes key.Site
spelling (a_key k) = key_bytes k
spelling (a_sign s) = sign_bytes s

-- the terminals behind the first, each behind a space, and a line feed
abbrev pub printed_behind : List Terminal → List ℕ
printed_behind [] = 10 ∷ []
printed_behind (t ∷ ts) = 32 ∷ spelling t ++ printed_behind ts

-- the terminals in order, joined by single spaces and followed by a line feed
abbrev pub printed : List Terminal → List ℕ
printed [] = 10 ∷ []
printed (t ∷ ts) = spelling t ++ printed_behind ts
