-- The command that the kit's parser is given, and what is taken from its matches.
use Rattle.std.specs.Prelude.{◌≡◌, true, false, List, Option, Some, None, codes, option_map, Result}
use Rattle.std.specs.Prelude.{Err, Ok}
use Rattle.clap.specs.Words.{App, Rule, first_value, new_app, new_rule, one_text, with_rule}
use Rattle.clap.specs.declared.parser.matches.Found.{Found}
use Rattle.clap.specs.declared.builder.ArgAction.TheVariants.{SetTrue}
use Rattle.join_words.specs.Line.{Line, Plain, Text, line_of, none, one, two}
use Rattle.join_words.specs.Asks.{asked}
use Rattle.join_words.specs.declared.line.LineTexts.{LineTexts}
use Rattle.join_words.specs.declared.answer.WordEnd.{WordEnd}
use Rattle.join_words.specs.declared.answer.WordEnd.TheVariants.{Form, Memory}

-- a plain word
abbrev pub positional : Text → Rule
positional id = new_rule id

-- an option that takes a value
abbrev pub optional : Text → Rule
optional id = record (new_rule id) { long = Some id }

-- an option that takes none
abbrev pub flagged : Text → Rule
flagged id = record (new_rule id) { long = Some id; action = Some SetTrue }

-- a command without parts
abbrev pub bare : App
bare = record (new_app (codes "join")) {
  top = record (new_app (codes "join")).top { no_binary_name = true; disable_help_flag = true };
}

-- with the two plain words
abbrev pub plain_app : App
plain_app = with_rule (with_rule bare (positional (codes "mode"))) (positional (codes "ring"))

-- one with the options that take a value
abbrev pub options_app : App → App
options_app app = with_rule (with_rule (with_rule (with_rule app (optional (codes "budget")))
    (optional (codes "workers"))) (optional (codes "by"))) (optional (codes "loss"))

abbrev pub line_app : App
line_app = with_rule (options_app plain_app) (flagged (codes "log"))

abbrev pub plain_given : Option Text → Option Text → Plain
plain_given None ring = none
plain_given (Some mode) None = one mode
plain_given (Some mode) (Some size) = two mode size

-- these texts are the first values of their names, and the flag stands as it was read
pub record Shows (found : Found) (given : LineTexts) : Type 0 where
  pub mode : option_map (λ s. s.now) given.mode ≡ first_value found (codes "mode")
  pub ring : option_map (λ s. s.now) given.ring ≡ first_value found (codes "ring")
  pub budget : option_map (λ s. s.now) given.budget ≡ first_value found (codes "budget")
  pub workers : option_map (λ s. s.now) given.workers ≡ first_value found (codes "workers")
  pub by : option_map (λ s. s.now) given.by ≡ first_value found (codes "by")
  pub loss : option_map (λ s. s.now) given.loss ≡ first_value found (codes "loss")
  pub is_logged : one_text found (codes "log") ≡ Some (codes "true") → given.log ≡ true
  pub isnt_logged : one_text found (codes "log") ≡ Some (codes "false") → given.log ≡ false

-- the line that these texts are
abbrev pub line_given : LineTexts → Line
line_given given = record {
  budget = option_map (λ s. s.now) given.budget;
  workers = option_map (λ s. s.now) given.workers;
  by = option_map (λ s. s.now) given.by;
  loss = option_map (λ s. s.now) given.loss;
  log = given.log;
  plain = plain_given (option_map (λ s. s.now) given.mode) (option_map (λ s. s.now) given.ring);
}

-- the texts of the words' line, or `Form` where the words ask for nothing
abbrev pub Gives : List Text → Result LineTexts WordEnd → Type 0
Gives words (Ok given) = line_of words ≡ Some (line_given given)
Gives words (Err Form) = asked words ≡ None
Gives words (Err Memory) = Unit {0}
