-- A tree with its places put aside, and what it is for a text to read as a tree again.
use Rattle.std.specs.Prelude.{◌≡◌, ℕ, List, map}
use Rattle.join_lex.specs.Tokens.{TokensOfText}
use Rattle.join_lex.specs.Lexical.{AreTokensOf}
use Rattle.join_parse.specs.declared.word.Word.{Word}
use Rattle.join_parse.specs.declared.word.Arg.{Arg}
use Rattle.join_parse.specs.declared.word.Arg.TheVariants as arg
use Rattle.join_parse.specs.declared.word.PatTree.{PatTree}
use Rattle.join_parse.specs.declared.word.SeenTree.{SeenTree}
use Rattle.join_parse.specs.declared.tree.PlaceTree.{PlaceTree}
use Rattle.join_parse.specs.Source.{Process, Zero, Msg, Go, Fail, Halt, Add, Same}
use Rattle.join_parse.specs.Source.{Group, Def, Processes, none, one_more, Definition, Rule}
use Rattle.join_parse.specs.Source.{Place, Definitions, no_definition, and_also}
use Rattle.join_parse.specs.Grammar.{TreeOfText}
use Rattle.join_parse.specs.Faults.{IsTheTree}

abbrev pub bare_word : Word → Word
bare_word w = record { text = w.text; place = 0 }

abbrev pub bare_arg : Arg → Arg
bare_arg (arg.Word word) = arg.Word (bare_word word)
bare_arg (arg.Num value place) = arg.Num value 0

abbrev pub bare_pattern : PatTree → PatTree
bare_pattern p = record { on = bare_word p.on; params = map bare_word p.params }

abbrev pub bare_declaration : SeenTree → SeenTree
bare_declaration d = record { name = bare_word d.name; count = d.count }

abbrev mutual
  pub bare_process : Process → Process
  bare_process Zero = Zero
  bare_process (Msg on args) = Msg (bare_word on) (map bare_arg args)
  bare_process (Go target cont) = Go (bare_word target) (bare_word cont)
  bare_process (Fail target cont) = Fail (bare_word target) (bare_word cont)
  bare_process Halt = Halt
  bare_process (Add left right cont) = Add (bare_arg left) (bare_arg right) (bare_word cont)
  bare_process (Same left right alike apart) =
      Same (bare_arg left) (bare_arg right) (bare_word alike) (bare_word apart)
  bare_process (Group ps) = Group (bare_processes ps)
  bare_process (Def ds ps) = Def (bare_definitions ds) (bare_processes ps)

  pub bare_processes : Processes → Processes
  bare_processes none = none
  bare_processes (one_more p ps) = one_more (bare_process p) (bare_processes ps)

  pub bare_definition : Definition → Definition
  bare_definition (Rule pats ps) = Rule (map bare_pattern pats) (bare_processes ps)
  bare_definition (Place opener name ds ps) =
      Place 0 (bare_word name) (bare_definitions ds) (bare_processes ps)

  pub bare_definitions : Definitions → Definitions
  bare_definitions no_definition = no_definition
  bare_definitions (and_also d ds) = and_also (bare_definition d) (bare_definitions ds)

abbrev pub bare_place : PlaceTree → PlaceTree
bare_place s = record {
  opener = 0;
  name = bare_word s.name;
  defs = map bare_definition s.defs;
  body = map bare_process s.body;
}

abbrev pub bare : TreeOfText → TreeOfText
bare t = record {
  version = t.version;
  seen = map bare_declaration t.seen;
  sites = map bare_place t.sites;
}

-- The text has tokens, and these have a tree that is this one but for the places.
pub record ReadsAs (text : List ℕ) (tree : TreeOfText) : Type 0 where
  pub tokens : TokensOfText
  pub again : TreeOfText
  pub lexes : AreTokensOf tokens text
  pub parses : IsTheTree tokens.list again
  pub same : bare again ≡ bare tree
