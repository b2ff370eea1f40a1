-- What the laws of the grammar say of tokens and trees.
use Rattle.std.specs.Prelude.{◌≡◌, ◌++◌, Bool, List, length, take}
use Rattle.join_lex.specs.declared.token.Token.{Token}
use Rattle.join_parse.specs.Terminals.{Terminal, terminals}
use Rattle.join_parse.specs.Grammar.{TreeOfText, Places, is_second, IsGrammatical, sentence}
use Rattle.join_parse.specs.Levels.{levels}
use Rattle.join_parse.specs.Begins.{Symbol, start, Leads, Begins, completion}

-- two sentences that go on from the same tokens have the same levels along them
abbrev pub HaveOneLevel : TreeOfText → TreeOfText → List Token → Type 0
HaveOneLevel one other tokens =
    (more elsewhere : List Terminal) (at at' : Places)
    → IsGrammatical one → IsGrammatical other
    → sentence at one ≡ terminals tokens ++ more
    → sentence at' other ≡ terminals tokens ++ elsewhere
    → take (length tokens) (levels one) ≡ take (length tokens) (levels other)

-- where the tokens lead to these symbols, some sentence is the tokens and the symbols' completion
abbrev pub IsCompleted : Bool → List Token → (after : List Symbol) → Type 0
IsCompleted second tokens after = Leads second (start second) (terminals tokens) after
    → (tree : TreeOfText) × (at : Places) × (is_second tree.version ≡ second) × IsGrammatical tree
    × (sentence at tree ≡ terminals tokens ++ completion after)

-- every prefix of the sentence begins
abbrev pub EachPrefixBegins : TreeOfText → Type 0
EachPrefixBegins tree =
    (tokens : List Token) (more : List Terminal) (at : Places)
    → IsGrammatical tree → sentence at tree ≡ terminals tokens ++ more
    → Begins (is_second tree.version) tokens
