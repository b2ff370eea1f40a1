-- What a tree keeps of a text's tokens.
use Rattle.std.specs.Prelude.{ℕ, List, map}
use Rattle.join_lex.specs.declared.token.Key.{Key}
use Rattle.join_lex.specs.declared.token.Key.TheVariants as key
use Rattle.join_lex.specs.declared.token.Sign.{Sign}
use Rattle.join_lex.specs.declared.token.Kind2.{Kind2}
use Rattle.join_lex.specs.declared.token.Kind2.TheVariants as kind
use Rattle.join_lex.specs.declared.token.Token.{Token}
use Rattle.join_parse.specs.declared.word.Word.{Word}
use Rattle.join_parse.specs.declared.word.Arg.{Arg}
use Rattle.join_parse.specs.declared.word.Arg.TheVariants as arg

-- an identifier and its place, a number by its value and its place, the keyword `site` and its
-- place, another keyword, or a sign
pub data Terminal : Type 0 where
  a_name : (text : List ℕ) (place : ℕ) → Terminal
  a_number : (value place : ℕ) → Terminal
  a_site : (place : ℕ) → Terminal
  a_key : Key → Terminal
  a_sign : Sign → Terminal

abbrev pub key_terminal : Key → ℕ → Terminal
key_terminal key.Site place = a_site place
key_terminal k place = a_key k

-- what is kept of a token of this kind at this place
abbrev pub terminal_of : Kind2 → ℕ → Terminal
terminal_of (kind.Ident text) place = a_name text place
terminal_of (kind.Number n) place = a_number n place
terminal_of (kind.Key k) place = key_terminal k place
terminal_of (kind.Sign s) place = a_sign s

abbrev pub terminals : List Token → List Terminal
terminals tokens = map (λ token. terminal_of token.kind token.span.from) tokens

abbrev pub named : Word → Terminal
named word = a_name word.text word.place

abbrev pub argument : Arg → Terminal
argument (arg.Word word) = named word
argument (arg.Num value place) = a_number value place

-- the kind of the token of which a terminal is kept
abbrev pub kind_of : Terminal → Kind2
kind_of (a_name text place) = kind.Ident text
kind_of (a_number n place) = kind.Number n
kind_of (a_site place) = kind.Key key.Site
kind_of (a_key k) = kind.Key k
kind_of (a_sign s) = kind.Sign s
