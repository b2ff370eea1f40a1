-- Which version of the language a list of tokens is of.
use Rattle.std.specs.Prelude.{ℕ, ◌==◌, ◌&&◌, Bool, true, false, List, [], ◌∷◌, codes}
use Rattle.std.specs.Str.{bytes_eq}
use Rattle.join_lex.specs.declared.token.Sign.TheVariants as sign
use Rattle.join_lex.specs.declared.token.Kind2.{Kind2}
use Rattle.join_lex.specs.declared.token.Kind2.TheVariants as kind
use Rattle.join_lex.specs.declared.token.Token.{Token}
use Rattle.join_lex.specs.Spelling.{Version, version_at}

-- the identifier with which a text of the second version begins
abbrev pub version_word : List ℕ
version_word = codes "version"

abbrev pub is_version_word : Kind2 → Bool
is_version_word (kind.Ident name) = bytes_eq name version_word
is_version_word (kind.Number n) = false
is_version_word (kind.Key k) = false
is_version_word (kind.Sign s) = false

abbrev pub is_two : Kind2 → Bool
is_two (kind.Ident name) = false
is_two (kind.Number n) = n == 2
is_two (kind.Key k) = false
is_two (kind.Sign s) = false

abbrev pub is_semicolon : Kind2 → Bool
is_semicolon (kind.Ident name) = false
is_semicolon (kind.Number n) = false
is_semicolon (kind.Key k) = false
is_semicolon (kind.Sign sign.Semicolon) = true
is_semicolon (kind.Sign s) = false

-- The first three tokens are `version`, a number whose value is 2, and `;`.
abbrev pub says_second : List Token → Bool
says_second [] = false
says_second (a ∷ []) = false
says_second (a ∷ b ∷ []) = false
says_second (a ∷ b ∷ c ∷ more) = is_version_word a.kind && is_two b.kind && is_semicolon c.kind

-- the version of tokens: the second where they say so, and else the first
abbrev pub version_of : List Token → Version
version_of tokens = version_at (says_second tokens)
