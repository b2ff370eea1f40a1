-- How the logic stores the tokens of a text: as the pair of its parts.
use Rattle.std.specs.Prelude.{ℕ, List, refl}
use Rattle.std.specs.Coded.{Coded, code_by, coded×, coded_list, coded_ℕ}
use Rattle.join_lex.specs.declared.token.Token.{Token}
use Rattle.join_lex.specs.contracts.token.Token as token
use Rattle.join_lex.specs.Tokens.{TokensOfText}

abbrev pub tokens_code : Coded TokensOfText
tokens_code =
    code_by (List Token × ℕ) (coded× (coded_list token.the_row.coded) coded_ℕ)
    (λ t. (t.list, t.length)) (λ p. record { list = p.0; length = p.1 }) (λ _. refl)
