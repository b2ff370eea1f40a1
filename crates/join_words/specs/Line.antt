-- The parts of a command line: its words are read in order, one rule a word.
use Rattle.std.specs.Prelude.{◌==◌, ◌&&◌, ℕ, Bool, true, false, not, List, [], ◌∷◌, Option}
use Rattle.std.specs.Prelude.{Some, None, is_some, if◌then◌else◌}
use Rattle.std.specs.Prelude.{codes, option_map, option_and_then}
use Rattle.std.specs.Str.{bytes_eq}

abbrev pub Text : Type 0
Text = List ℕ

-- the options that take a value: `--budget`, `--workers`, `--by` and `--loss`
pub data Field : Type 0 where
  budget : Field
  workers : Field
  by : Field
  loss : Field

-- the plain words: the first is the mode, and the second is the size of a ring
pub data Plain : Type 0 where
  none : Plain
  one : Text → Plain
  two : Text → Text → Plain

-- the text of each part that is given, and whether `--log` is
pub record Line : Type 0 where
  pub budget : Option Text
  pub workers : Option Text
  pub by : Option Text
  pub loss : Option Text
  pub log : Bool
  pub plain : Plain

-- a line in part: what was read, the option whose value the next word is, and whether `--` has come
pub record Reading : Type 0 where
  pub line : Line
  pub waits : Option Field
  pub ended : Bool

-- what stands before the first `=` (61) of a word
abbrev pub name_of : Text → Text
name_of [] = []
name_of (b ∷ bs) = if b == 61 then [] else b ∷ name_of bs

-- what stands after the first `=` of a word, where it has one
abbrev pub value_of : Text → Option Text
value_of [] = None
value_of (b ∷ bs) = if b == 61 then Some bs else value_of bs

-- what a name is the name of: an option that takes a value, the flag `--log`, or nothing
pub data Kind : Type 0 where
  valued : Field → Kind
  flag : Kind
  unknown : Kind

abbrev pub kind_of : Text → Kind
kind_of name = if bytes_eq (codes "--budget") name then valued budget
    else (if bytes_eq (codes "--workers") name then valued workers
    else (if bytes_eq (codes "--by") name then valued by
    else (if bytes_eq (codes "--loss") name then valued loss
    else (if bytes_eq (codes "--log") name then flag else unknown))))

-- an option comes at most once
abbrev pub given : Field → Text → Line → Option Line
given budget v l = if is_some l.budget then None else Some (record l { budget = Some v })
given workers v l = if is_some l.workers then None else Some (record l { workers = Some v })
given by v l = if is_some l.by then None else Some (record l { by = Some v })
given loss v l = if is_some l.loss then None else Some (record l { loss = Some v })

-- so does `--log`
abbrev pub logged : Line → Option Line
logged l = if l.log then None else Some (record l { log = true })

-- a third plain word is refused
abbrev pub with_plain : Plain → Text → Line → Option Line
with_plain none w l = Some (record l { plain = one w })
with_plain (one m) w l = Some (record l { plain = two m w })
with_plain (two m n) w l = None

-- the word begins with `-` (45), and isn't `-` alone
abbrev pub is_dashed : Text → Bool
is_dashed [] = false
is_dashed (b ∷ []) = false
is_dashed (b ∷ c ∷ rest) = b == 45

abbrev pub into : Reading → Option Line → Option Reading
into r = option_map (λ l. record r { line = l })

-- an option takes the text after its `=`, or else waits for the next word; `--log` takes no value;
-- any other name is refused
abbrev pub option_word : Kind → Option Text → Reading → Option Reading
option_word (valued f) None r = Some (record r { waits = Some f })
option_word (valued f) (Some v) r = into r (given f v r.line)
option_word flag None r = into r (logged r.line)
option_word flag (Some v) r = None
option_word unknown v r = None

-- the word `--` ends the options; any other word that begins with `-` is one, or is refused
abbrev pub dashed_word : Text → Reading → Option Reading
dashed_word w r = if bytes_eq w (codes "--") then Some (record r { ended = true })
    else option_word (kind_of (name_of w)) (value_of w) r

-- a word is the value that an option waits for, whatever it is; else, where `--` has not come, one
-- that begins with `-`; else a plain word
abbrev pub word_at : Option Field → Text → Reading → Option Reading
word_at (Some f) w r = option_map (λ l. record r { line = l; waits = None }) (given f w r.line)
word_at None w r = if is_dashed w && not r.ended then dashed_word w r
    else into r (with_plain r.line.plain w r.line)

-- one more word is read, or refused
abbrev pub read_word : Reading → Text → Option Reading
read_word r w = word_at r.waits w r

-- the words are read in order
unfoldable pub read_from : Reading → List Text → Option Reading
read_from r [] = Some r
read_from r (w ∷ ws) = option_and_then (λ q. read_from q ws) (read_word r w)

abbrev pub nothing_read : Reading
nothing_read = record {
  line = record {
    budget = None;
    workers = None;
    by = None;
    loss = None;
    log = false;
    plain = none;
  };
  waits = None;
  ended = false;
}

-- at the end no option waits for its value
abbrev pub finished : Reading → Option Line
finished r = if is_some r.waits then None else Some r.line

-- the line that the words write, or none
abbrev pub line_of : List Text → Option Line
line_of words = option_and_then finished (read_from nothing_read words)
