-- How the logic stores a tree: one to one as a tree of numbers.
use Rattle.std.proofs.Common.{◌≡◌, ◌≢◌, ℕ, List, refl, ap, arith}
use Rattle.std.specs.Coded.{Coded, coded_list}
use base.Stored.{Gv, gnil, gnum, gcons}
use Rattle.join_parse.specs.declared.word.Word.{Word}
use Rattle.join_parse.specs.declared.word.Arg.{Arg}
use Rattle.join_parse.specs.declared.word.PatTree.{PatTree}
use Rattle.join_parse.specs.contracts.word.Word as word
use Rattle.join_parse.specs.contracts.word.Arg as arg
use Rattle.join_parse.specs.contracts.word.PatTree as pat
use Rattle.join_parse.specs.Source.{Process, Zero, Msg, Go, Fail, Halt, Add, Same, Group, Def}
use Rattle.join_parse.specs.Source.{Processes, none, one_more, Definition, Rule}
use Rattle.join_parse.specs.Source.{Place, Definitions, no_definition, and_also}

abbrev head : Gv → Gv
head gnil = gnil
head (gnum n) = gnil
head (gcons a b) = a

abbrev tail : Gv → Gv
tail gnil = gnil
tail (gnum n) = gnil
tail (gcons a b) = b

abbrev pub word_code : Coded Word
word_code = word.the_row.coded

abbrev arg_code : Coded Arg
arg_code = arg.the_row.coded

abbrev args_code : Coded (List Arg)
args_code = coded_list arg_code

abbrev pats_code : Coded (List PatTree)
pats_code = coded_list pat.the_row.coded

apart : (m n : ℕ) {a b : Gv} → m ≢ n → gcons (gnum m) a ≡ gcons (gnum n) b → ⊥
apart m n other p = other (cc)

abbrev mutual
  pub process_code : Process → Gv
  process_code Zero = gcons (gnum 0) gnil
  process_code (Msg x vs) = gcons (gnum 1) (gcons (word_code.code x) (args_code.code vs))
  process_code (Go b k) = gcons (gnum 2) (gcons (word_code.code b) (word_code.code k))
  process_code (Fail b k) = gcons (gnum 3) (gcons (word_code.code b) (word_code.code k))
  process_code Halt = gcons (gnum 4) gnil
  process_code (Group ps) = gcons (gnum 5) (processes_code ps)
  process_code (Def ds p) = gcons (gnum 6) (gcons (definitions_code ds) (processes_code p))
  process_code (Add l r k) =
      gcons (gnum 7) (gcons (arg_code.code l) (gcons (arg_code.code r) (word_code.code k)))
  process_code (Same l r y n) =
      gcons (gnum 8)
      (gcons (gcons (arg_code.code l) (arg_code.code r))
      (gcons (word_code.code y) (word_code.code n)))

  pub processes_code : Processes → Gv
  processes_code none = gnil
  processes_code (one_more p ps) = gcons (process_code p) (processes_code ps)

  pub definition_code : Definition → Gv
  definition_code (Rule ps p) = gcons (gnum 0) (gcons (pats_code.code ps) (processes_code p))
  definition_code (Place o a ds p) =
      gcons (gnum 1)
      (gcons (gcons (gnum o) (word_code.code a)) (gcons (definitions_code ds) (processes_code p)))

  pub definitions_code : Definitions → Gv
  definitions_code no_definition = gnil
  definitions_code (and_also d ds) = gcons (definition_code d) (definitions_code ds)

mutual
  pub process_inj : (x y : Process) → process_code x ≡ process_code y → x ≡ y
  process_inj Zero Zero p = refl
  process_inj (Msg x vs) (Msg y ws) p =
      λ i. Msg (word_code.inj x y (ap (λ g. head (tail g)) p) i)
      (args_code.inj vs ws (ap (λ g. tail (tail g)) p) i)
  process_inj (Go x u) (Go y v) p =
      λ i. Go (word_code.inj x y (ap (λ g. head (tail g)) p) i)
      (word_code.inj u v (ap (λ g. tail (tail g)) p) i)
  process_inj (Fail x u) (Fail y v) p =
      λ i. Fail (word_code.inj x y (ap (λ g. head (tail g)) p) i)
      (word_code.inj u v (ap (λ g. tail (tail g)) p) i)
  process_inj Halt Halt p = refl
  process_inj (Add a b k) (Add c d l) p =
      λ i. Add (arg_code.inj a c (ap (λ g. head (tail g)) p) i)
      (arg_code.inj b d (ap (λ g. head (tail (tail g))) p) i)
      (word_code.inj k l (ap (λ g. tail (tail (tail g))) p) i)
  process_inj (Same a b y n) (Same c d u v) p =
      λ i. Same (arg_code.inj a c (ap (λ g. head (head (tail g))) p) i)
      (arg_code.inj b d (ap (λ g. tail (head (tail g))) p) i)
      (word_code.inj y u (ap (λ g. head (tail (tail g))) p) i)
      (word_code.inj n v (ap (λ g. tail (tail (tail g))) p) i)
  process_inj (Group ps) (Group qs) p = ap Group (processes_inj ps qs (ap tail p))
  process_inj (Def ds a) (Def es b) p =
      λ i. Def (definitions_inj ds es (ap (λ g. head (tail g)) p) i)
      (processes_inj a b (ap (λ g. tail (tail g)) p) i)
  process_inj _ _ p = absurd (apart _ _ (omega arith) p)

  pub processes_inj : (xs ys : Processes) → processes_code xs ≡ processes_code ys → xs ≡ ys
  processes_inj none none p = refl
  processes_inj (one_more x xs) (one_more y ys) p =
      λ i. one_more (process_inj x y (ap head p) i) (processes_inj xs ys (ap tail p) i)
  processes_inj _ _ p = cc

  pub definition_inj : (x y : Definition) → definition_code x ≡ definition_code y → x ≡ y
  definition_inj (Rule ps a) (Rule qs b) p =
      λ i. Rule (pats_code.inj ps qs (ap (λ g. head (tail g)) p) i)
      (processes_inj a b (ap (λ g. tail (tail g)) p) i)
  definition_inj (Place m x ds a) (Place n y es b) p =
      let o : m ≡ n = cc in
      λ i. Place (o i) (word_code.inj x y (ap (λ g. tail (head (tail g))) p) i)
      (definitions_inj ds es (ap (λ g. head (tail (tail g))) p) i)
      (processes_inj a b (ap (λ g. tail (tail (tail g))) p) i)
  definition_inj _ _ p = absurd (apart _ _ (omega arith) p)

  pub definitions_inj : (xs ys : Definitions) → definitions_code xs ≡ definitions_code ys → xs ≡ ys
  definitions_inj no_definition no_definition p = refl
  definitions_inj (and_also x xs) (and_also y ys) p =
      λ i. and_also (definition_inj x y (ap head p) i) (definitions_inj xs ys (ap tail p) i)
  definitions_inj _ _ p = cc

abbrev pub coded_process : Coded Process
coded_process = record { code = process_code; inj = process_inj }

abbrev pub coded_definition : Coded Definition
coded_definition = record { code = definition_code; inj = definition_inj }
