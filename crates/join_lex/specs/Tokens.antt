-- The tokens of a text as contracts see them, and the facts that their type keeps.
use Rattle.std.specs.Prelude.{ℕ, ◌≤◌, ◌<◌, List, length}
use Rattle.std.specs.List.{AllPairs}
use Rattle.join_lex.specs.declared.token.Token.{Token}
use Rattle.chem_model.specs.Each.{Each}
use Rattle.join_lex.specs.Spelling.{IsOfVersion}
use Rattle.join_lex.specs.Versions.{version_of}

-- the tokens in order, and how many bytes the text has
pub record TokensOfText : Type 0 where
  pub list : List Token
  pub length : ℕ

pub record AreTokens (t : TokensOfText) : Type 0 where
  pub few : length t.list ≤ 1048576
  -- the spans rise and end within the text
  pub spans : Each (λ token. token.span.from < token.span.upto) t.list
  pub rise : AllPairs (λ one later. one.span.upto ≤ later.span.from) t.list
  pub within : Each (λ token. token.span.upto ≤ t.length) t.list
  -- identifiers, keywords and numbers are those of the version
  pub words : Each (λ token. IsOfVersion (version_of t.list) token.kind) t.list
