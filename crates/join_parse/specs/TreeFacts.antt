-- The facts that the type of a whole text's tree keeps.
use Rattle.std.specs.Prelude.{◌≤◌, List, [], ◌∷◌, length}
use Rattle.join_lex.specs.Spelling.{Version, version_at, IsOfVersion}
use Rattle.join_parse.specs.Terminals.{Terminal, kind_of}
use Rattle.join_parse.specs.Grammar.{TreeOfText, is_second, nowhere, IsGrammatical, sentence}
use Rattle.join_parse.specs.Levels.{levels, most_levels, AreWithin}

-- each terminal is kept of a token of the version: names are identifiers, and numbers are within
-- its bound
abbrev pub AreOfVersion : Version → List Terminal → Type 0
AreOfVersion version [] = Unit {0}
AreOfVersion version (t ∷ ts) = IsOfVersion version (kind_of t) × AreOfVersion version ts

pub record IsTree (t : TreeOfText) : Type 0 where
  -- the version is 1 or 2, processes aren't empty, `def` stands only last, lists of words and of
  -- arguments and counts are bounded, numbers are arguments and operations stand in the second
  -- version alone, the definitions of a place other than a site are rules, there is a site, and
  -- each rule has a pattern
  pub grammatical : IsGrammatical t
  pub shallow : AreWithin (most_levels (is_second t.version)) (levels t)
  pub words : AreOfVersion (version_at (is_second t.version)) (sentence nowhere t)
  pub few : length (sentence nowhere t) ≤ 1048576
