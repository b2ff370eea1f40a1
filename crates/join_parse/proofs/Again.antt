-- What a tree prints as reads as the tree again.
use Rattle.std.proofs.Common.{subst, ◌≡◌, inl, ℕ, ◌+◌, ◌≤◌, ◌<◌, ◌^◌, ◌&&◌, Bool, true, false, List}
use Rattle.std.proofs.Common.{[], ◌∷◌, ◌++◌, length, map, refl, sym, ap, ◌∙◌, arith, Option, Some}
use Rattle.std.proofs.Common.{None, Result, Ok, Err}
use Rattle.std.specs.Result.{IfOk}
use Rattle.chem_model.specs.declared.memory.Memory.{Memory}
use Rattle.std.proofs.lemmas.List.{length-map}
use Rattle.join_lex.specs.declared.token.Key.TheVariants as key
use Rattle.join_lex.specs.declared.token.Sign.TheVariants as sign
use Rattle.join_lex.specs.declared.token.Token.{Token}
use Rattle.join_lex.specs.declared.token.Kind2.{Kind2}
use Rattle.join_lex.specs.Spelling.{version_at, in_word, is_digit, IsOfVersion}
use Rattle.join_lex.specs.Versions.{says_second, is_version_word, is_two, is_semicolon}
use Rattle.join_lex.proofs.VersionLaws.{is-of}
use Rattle.join_lex.specs.Lexical.{Piece, Gap, Word as Token_piece, Stops, SpellsToken, IsSmall}
use Rattle.join_lex.specs.Lexical.{Splits, tokens_at}
use Rattle.join_parse.specs.declared.word.Word.{Word}
use Rattle.join_parse.specs.declared.word.Arg.{Arg}
use Rattle.join_parse.specs.declared.word.Arg.TheVariants as arg
use Rattle.join_parse.specs.declared.word.PatTree.{PatTree}
use Rattle.join_parse.specs.declared.word.SeenTree.{SeenTree}
use Rattle.join_parse.specs.declared.tree.PlaceTree.{PlaceTree}
use Rattle.join_parse.specs.Terminals.{Terminal, a_name, a_number, a_site, a_key, a_sign, kind_of}
use Rattle.join_parse.specs.Terminals.{terminal_of, terminals, named, argument}
use Rattle.join_parse.specs.Source.{Process, Zero, Msg, Go, Fail, Halt, Add, Same, Group, Def}
use Rattle.join_parse.specs.Source.{Processes, none, one_more, Definition, Rule, Place, Definitions}
use Rattle.join_parse.specs.Source.{no_definition, and_also, processes, definitions}
use Rattle.join_parse.specs.Grammar.{TreeOfText, Places, nowhere, is_second, opening, more_args}
use Rattle.join_parse.specs.Grammar.{arguments, AreArguments, more_names, names, more_patterns}
use Rattle.join_parse.specs.Grammar.{patterns, of_process, of_processes, more_processes}
use Rattle.join_parse.specs.Grammar.{of_definition, of_definitions, more_definitions}
use Rattle.join_parse.specs.Grammar.{of_declarations, of_sites, sentence, IsNotEmpty, AreShort}
use Rattle.join_parse.specs.Grammar.{IsSimple, IsProcess, AreProcesses, AreMore, IsDefinition}
use Rattle.join_parse.specs.Grammar.{AreDefinitions, AreDeclarations, AreSites, IsGrammatical}
use Rattle.join_parse.specs.Levels.{levels, most_levels, AreWithin}
use Rattle.join_parse.specs.Begins.{Symbol, start}
use Rattle.join_parse.specs.inside.Automaton.{advance, level}
use Rattle.join_parse.specs.TreeFacts.{AreOfVersion, IsTree}
use Rattle.join_parse.specs.Printed.{spelling, printed, printed_behind}
use Rattle.join_parse.specs.Bare.{bare_word, bare_arg, bare_pattern, bare_declaration, bare_process}
use Rattle.join_parse.specs.Bare.{bare_processes, bare_definition, bare_definitions, bare_place}
use Rattle.join_parse.specs.Bare.{bare, ReadsAs}
use Rattle.join_parse.proofs.Accepted.{followed, run, run-sentence}
use Rattle.join_parse.proofs.Firsts.{kind-of-terminal, accepted-sentence}
use Rattle.join_parse.proofs.Unique.{one-sentence}
use Rattle.join_parse.proofs.Digits.{digits-spell}

-- a terminal with its place put aside
abbrev pub bared : Terminal → Terminal
bared t = terminal_of (kind_of t) 0

abbrev pub all_bared : List Terminal → List Terminal
all_bared ts = map bared ts

-- the sentence of a bare tree
b-more_names : (ws : List Word) (rest : List Terminal)
    → more_names (map bare_word ws) (all_bared rest) ≡ all_bared (more_names ws rest)
b-more_names [] rest = refl
b-more_names (w ∷ ws) rest =
    ap (λ r. a_sign sign.Comma ∷ named (bare_word w) ∷ r) (b-more_names ws rest)

b-names : (ws : List Word) (rest : List Terminal)
    → names (map bare_word ws) (all_bared rest) ≡ all_bared (names ws rest)
b-names [] rest = refl
b-names (w ∷ ws) rest = ap (λ r. named (bare_word w) ∷ r) (b-more_names ws rest)

b-argument : (v : Arg) → argument (bare_arg v) ≡ bared (argument v)
b-argument (arg.Word w) = refl
b-argument (arg.Num n p) = refl

b-more_args : (vs : List Arg) (rest : List Terminal)
    → more_args (map bare_arg vs) (all_bared rest) ≡ all_bared (more_args vs rest)
b-more_args [] rest = refl
b-more_args (v ∷ vs) rest =
    ap (λ x. a_sign sign.Comma ∷ x ∷ more_args (map bare_arg vs) (all_bared rest)) (b-argument v)
    ∙ ap (λ r. a_sign sign.Comma ∷ bared (argument v) ∷ r) (b-more_args vs rest)

b-arguments : (vs : List Arg) (rest : List Terminal)
    → arguments (map bare_arg vs) (all_bared rest) ≡ all_bared (arguments vs rest)
b-arguments [] rest = refl
b-arguments (v ∷ vs) rest =
    ap (λ x. x ∷ more_args (map bare_arg vs) (all_bared rest)) (b-argument v)
    ∙ ap (λ r. bared (argument v) ∷ r) (b-more_args vs rest)

b-more_patterns : (ps : List PatTree) (rest : List Terminal)
    → more_patterns (map bare_pattern ps) (all_bared rest) ≡ all_bared (more_patterns ps rest)
b-more_patterns [] rest = refl
b-more_patterns (p ∷ ps) rest =
    ap (λ r. a_sign sign.Bar ∷ named (bare_word p.on) ∷ a_sign sign.ParenLeft ∷ r)
    (ap (names (map bare_word p.params)) (b-more_patterns ps rest)
    ∙ b-names p.params (more_patterns ps rest))

b-patterns : (ps : List PatTree) (rest : List Terminal)
    → patterns (map bare_pattern ps) (all_bared rest) ≡ all_bared (patterns ps rest)
b-patterns [] rest = refl
b-patterns (p ∷ ps) rest = ap (λ r. named (bare_word p.on) ∷ a_sign sign.ParenLeft ∷ r)
    (ap (names (map bare_word p.params)) (b-more_patterns ps rest)
    ∙ b-names p.params (more_patterns ps rest))

processes-map : (ps : List Process)
    → processes (map bare_process ps) ≡ bare_processes (processes ps)
processes-map [] = refl
processes-map (p ∷ ps) = ap (one_more (bare_process p)) (processes-map ps)

definitions-map : (ds : List Definition)
    → definitions (map bare_definition ds) ≡ bare_definitions (definitions ds)
definitions-map [] = refl
definitions-map (d ∷ ds) = ap (and_also (bare_definition d)) (definitions-map ds)

module _ (at : Places) where
  mutual
    b-process : (p : Process) (rest : List Terminal)
        → of_process nowhere (bare_process p) (all_bared rest) ≡ all_bared (of_process at p rest)
    b-process Zero rest = refl
    b-process (Msg on args) rest =
        ap (λ r. named (bare_word on) ∷ a_sign sign.ParenLeft ∷ r) (b-arguments args rest)
    b-process (Go target cont) rest = refl
    b-process (Fail target cont) rest = refl
    b-process Halt rest = refl
    b-process (Add (arg.Word a) (arg.Word b) k) rest = refl
    b-process (Add (arg.Word a) (arg.Num n q) k) rest = refl
    b-process (Add (arg.Num m p) (arg.Word b) k) rest = refl
    b-process (Add (arg.Num m p) (arg.Num n q) k) rest = refl
    b-process (Same (arg.Word a) (arg.Word b) y z) rest = refl
    b-process (Same (arg.Word a) (arg.Num n q) y z) rest = refl
    b-process (Same (arg.Num m p) (arg.Word b) y z) rest = refl
    b-process (Same (arg.Num m p) (arg.Num n q) y z) rest = refl
    b-process (Group ps) rest =
        ap (λ r. a_sign sign.ParenLeft ∷ r) (b-processes ps (a_sign sign.ParenRight ∷ rest))
    b-process (Def ds ps) rest = ap (λ r. a_key key.Def ∷ r)
        (ap (λ r. of_definitions nowhere (bare_definitions ds) (a_key key.Inside ∷ r))
        (b-processes ps rest) ∙ b-definitions ds (a_key key.Inside ∷ of_processes at ps rest))

    b-processes : (ps : Processes) (rest : List Terminal)
        → of_processes nowhere (bare_processes ps) (all_bared rest)
        ≡ all_bared (of_processes at ps rest)
    b-processes none rest = refl
    b-processes (one_more p ps) rest = ap (of_process nowhere (bare_process p)) (b-more ps rest)
        ∙ b-process p (more_processes at ps rest)

    b-more : (ps : Processes) (rest : List Terminal)
        → more_processes nowhere (bare_processes ps) (all_bared rest)
        ≡ all_bared (more_processes at ps rest)
    b-more none rest = refl
    b-more (one_more p ps) rest =
        ap (λ r. a_sign sign.Bar ∷ r) (ap (of_process nowhere (bare_process p)) (b-more ps rest)
        ∙ b-process p (more_processes at ps rest))

    b-definition : (d : Definition) (rest : List Terminal)
        → of_definition nowhere (bare_definition d) (all_bared rest)
        ≡ all_bared (of_definition at d rest)
    b-definition (Rule pats ps) rest = ap (patterns (map bare_pattern pats)) (b-processes ps rest)
        ∙ b-patterns pats (of_processes at ps rest)
    b-definition (Place o name ds ps) rest =
        ap (λ r. named (bare_word name) ∷ a_sign sign.SquareLeft ∷ r)
        (ap (λ r. of_definitions nowhere (bare_definitions ds) (a_sign sign.Colon ∷ r))
        (b-processes ps (a_sign sign.SquareRight ∷ rest))
        ∙ b-definitions ds
        (a_sign sign.Colon ∷ of_processes at ps (a_sign sign.SquareRight ∷ rest)))

    b-definitions : (ds : Definitions) (rest : List Terminal)
        → of_definitions nowhere (bare_definitions ds) (all_bared rest)
        ≡ all_bared (of_definitions at ds rest)
    b-definitions no_definition rest = refl
    b-definitions (and_also d ds) rest =
        ap (of_definition nowhere (bare_definition d)) (b-more_definitions ds rest)
        ∙ b-definition d (more_definitions at ds rest)

    b-more_definitions : (ds : Definitions) (rest : List Terminal)
        → more_definitions nowhere (bare_definitions ds) (all_bared rest)
        ≡ all_bared (more_definitions at ds rest)
    b-more_definitions no_definition rest = refl
    b-more_definitions (and_also d ds) rest = ap (λ r. a_key key.And ∷ r)
        (ap (of_definition nowhere (bare_definition d)) (b-more_definitions ds rest)
        ∙ b-definition d (more_definitions at ds rest))

  b-sites : (ss : List PlaceTree)
      → of_sites nowhere (map bare_place ss) [] ≡ all_bared (of_sites at ss [])
  b-sites [] = refl
  b-sites (s ∷ ss) =
      ap (λ r. a_site 0 ∷ named (bare_word s.name) ∷ a_sign sign.SquareLeft ∷ r)
      (ap (λ r. of_definitions nowhere (definitions (map bare_definition s.defs)) (a_sign sign.Colon
      ∷ of_processes nowhere (processes (map bare_process s.body)) (a_sign sign.SquareRight ∷ r)))
      (b-sites ss)
      ∙ ap (λ ds. of_definitions nowhere ds (a_sign sign.Colon
      ∷ of_processes nowhere (processes (map bare_process s.body))
      (a_sign sign.SquareRight ∷ all_bared (of_sites at ss [])))) (definitions-map s.defs)
      ∙ ap (λ ps. of_definitions nowhere (bare_definitions (definitions s.defs)) (a_sign sign.Colon
      ∷ of_processes nowhere ps (a_sign sign.SquareRight ∷ all_bared (of_sites at ss []))))
      (processes-map s.body)
      ∙ ap
      (λ r. of_definitions nowhere (bare_definitions (definitions s.defs)) (a_sign sign.Colon ∷ r))
      (b-processes (processes s.body) (a_sign sign.SquareRight ∷ of_sites at ss []))
      ∙ b-definitions (definitions s.defs) (a_sign sign.Colon
      ∷ of_processes at (processes s.body) (a_sign sign.SquareRight ∷ of_sites at ss [])))

  b-declarations : (ds : List SeenTree) (rest : List Terminal)
      → of_declarations nowhere (map bare_declaration ds) (all_bared rest)
      ≡ all_bared (of_declarations at ds rest)
  b-declarations [] rest = refl
  b-declarations (d ∷ ds) rest = ap (λ r. a_key key.Observe ∷ named (bare_word d.name)
      ∷ a_sign sign.Slash ∷ a_number d.count 0 ∷ a_sign sign.Semicolon ∷ r) (b-declarations ds rest)

  b-opening : (second : Bool) (rest : List Terminal)
      → opening nowhere second (all_bared rest) ≡ all_bared (opening at second rest)
  b-opening true rest = refl
  b-opening false rest = refl

  pub bare-sentence : (t : TreeOfText) → sentence nowhere (bare t) ≡ all_bared (sentence at t)
  bare-sentence t =
      ap (opening nowhere (is_second t.version))
      (ap (of_declarations nowhere (map bare_declaration t.seen)) (b-sites t.sites)
      ∙ b-declarations t.seen (of_sites at t.sites []))
      ∙ b-opening (is_second t.version) (of_declarations at t.seen (of_sites at t.sites []))

-- a bare tree is one of the grammar
short : (ws : List Word) → length ws ≤ 255 → length (map bare_word ws) ≤ 255
short ws l = omega (arith, length-map ws bare_word)

g-short : (ps : List PatTree) → AreShort ps → AreShort (map bare_pattern ps)
g-short [] a = tt
g-short (p ∷ ps) a = (short p.params a.0, g-short ps a.1)

g-some : {A B : Type 0} (f : A → B) (xs : List A) → IsNotEmpty xs → IsNotEmpty (map f xs)
g-some f [] s = s
g-some f (x ∷ xs) s = tt

short_args : (vs : List Arg) → length vs ≤ 255 → length (map bare_arg vs) ≤ 255
short_args vs l = omega (arith, length-map vs bare_arg)

module _ (second : Bool) where
  g-arguments : (vs : List Arg) → AreArguments second vs → AreArguments second (map bare_arg vs)
  g-arguments [] a = tt
  g-arguments (arg.Word w ∷ vs) a = (tt, g-arguments vs a.1)
  g-arguments (arg.Num n p ∷ vs) a = (a.0, g-arguments vs a.1)

  g-simple : (p : Process) → IsSimple p → IsSimple (bare_process p)
  g-simple Zero s = tt
  g-simple (Msg on args) s = tt
  g-simple (Go target cont) s = tt
  g-simple (Fail target cont) s = tt
  g-simple Halt s = tt
  g-simple (Add l r k) s = tt
  g-simple (Same l r y z) s = tt
  g-simple (Group ps) s = tt
  g-simple (Def ds ps) s = s

  mutual
    g-process : (p : Process) → IsProcess second p → IsProcess second (bare_process p)
    g-process Zero i = tt
    g-process (Msg on args) i = (short_args args i.0, g-arguments args i.1)
    g-process (Go target cont) i = tt
    g-process (Fail target cont) i = tt
    g-process Halt i = tt
    g-process (Add l r k) i = i
    g-process (Same l r y z) i = i
    g-process (Group ps) i = g-processes ps i
    g-process (Def ds ps) i = (g-definitions false ds i.0, g-processes ps i.1)

    g-processes : (ps : Processes) → AreProcesses second ps
        → AreProcesses second (bare_processes ps)
    g-processes none a = a
    g-processes (one_more p ps) a = (g-process p a.0, g-more p ps a.1)

    g-more : (p : Process) (ps : Processes) → AreMore second p ps
        → AreMore second (bare_process p) (bare_processes ps)
    g-more p none a = tt
    g-more p (one_more q qs) a = (g-simple p a.0, g-process q a.1, g-more q qs a.2)

    g-definition : (within : Bool) (d : Definition) → IsDefinition second within d
        → IsDefinition second within (bare_definition d)
    g-definition within (Rule pats ps) i =
        (g-some bare_pattern pats i.0, g-short pats i.1, g-processes ps i.2)
    g-definition true (Place o name ds ps) i = i
    g-definition false (Place o name ds ps) i =
        (refl, g-definitions true ds i.1, g-processes ps i.2)

    g-definitions : (within : Bool) (ds : Definitions) → AreDefinitions second within ds
        → AreDefinitions second within (bare_definitions ds)
    g-definitions within no_definition a = tt
    g-definitions within (and_also d ds) a =
        (g-definition within d a.0, g-definitions within ds a.1)

  g-sites : (ss : List PlaceTree) → AreSites second ss → AreSites second (map bare_place ss)
  g-sites [] a = tt
  g-sites (s ∷ ss) a = (
    subst (AreDefinitions second false) (sym (definitions-map s.defs))
        (g-definitions false (definitions s.defs) a.0),
    subst (AreProcesses second) (sym (processes-map s.body)) (g-processes (processes s.body) a.1),
    g-sites ss a.2,
  )

  g-declarations : (ds : List SeenTree) → AreDeclarations ds
      → AreDeclarations (map bare_declaration ds)
  g-declarations [] a = tt
  g-declarations (d ∷ ds) a = (a.0, g-declarations ds a.1)

bare-grammatical : (t : TreeOfText) → IsGrammatical t → IsGrammatical (bare t)
bare-grammatical t g = record {
  version = g.version;
  seen = g-declarations (is_second t.version) t.seen g.seen;
  some_site = g-some bare_place t.sites g.some_site;
  sites = g-sites (is_second t.version) t.sites g.sites;
}

-- Tokens of the same kinds are accepted alike.
followed-same : (go go' : List Symbol → List ℕ × Bool) → ((s : List Symbol) → go s ≡ go' s)
    → (o : Option (List Symbol)) → followed go o ≡ followed go' o
followed-same go go' same None = refl
followed-same go go' same (Some after) = ap (λ r. (level after ∷ r.0, r.1)) (same after)

run-same : (second : Bool) (ts : List Token) (us : List Terminal)
    → map (λ (t : Token). t.kind) ts ≡ map kind_of us → (stack : List Symbol)
    → run second (terminals ts) stack ≡ run second us stack
run-same second [] [] e stack = refl
run-same second [] (u ∷ us) e stack = cc
run-same second (t ∷ ts) [] e stack = cc
run-same second (t ∷ ts) (u ∷ us) e stack =
    let head : t.kind ≡ kind_of u = cc in
    let tail : map (λ (t : Token). t.kind) ts ≡ map kind_of us = cc in
    ap (λ k. followed (run second (terminals ts)) (advance second stack k))
    (kind-of-terminal t.kind t.span.from ∙ head)
    ∙ followed-same (run second (terminals ts)) (run second us) (run-same second ts us tail)
    (advance second stack (kind_of u))

bared-same : (ts : List Token) (us : List Terminal)
    → map (λ (t : Token). t.kind) ts ≡ map kind_of us → all_bared (terminals ts) ≡ all_bared us
bared-same [] [] e = refl
bared-same [] (u ∷ us) e = cc
bared-same (t ∷ ts) (u ∷ us) e =
    let head : t.kind ≡ kind_of u = cc in
    let tail : map (λ (t : Token). t.kind) ts ≡ map kind_of us = cc in
    let one : bared (terminal_of t.kind t.span.from) ≡ bared u =
    ap (λ k. terminal_of k 0) (kind-of-terminal t.kind t.span.from ∙ head) in
    let more = bared-same ts us tail in
    cc
bared-same (t ∷ ts) [] e = cc

-- the pieces of a printed text
abbrev pieces_behind : List Terminal → List Piece
pieces_behind [] = Gap (10 ∷ []) ∷ []
pieces_behind (t ∷ ts) = Gap (32 ∷ []) ∷ Token_piece (kind_of t) (spelling t) ∷ pieces_behind ts

abbrev pieces_of : List Terminal → List Piece
pieces_of [] = Gap (10 ∷ []) ∷ []
pieces_of (t ∷ ts) = Token_piece (kind_of t) (spelling t) ∷ pieces_behind ts

word-stops : (ts : List Terminal) → Stops in_word (printed_behind ts)
word-stops [] = refl
word-stops (t ∷ ts) = refl

digit-stops : (ts : List Terminal) → Stops is_digit (printed_behind ts)
digit-stops [] = refl
digit-stops (t ∷ ts) = refl

below : (second : Bool) (n : ℕ) → n ≤ (version_at second).largest → n < 2 ^ 64
below true n l = omega (arith, l)
below false n l = omega (arith, l)

spells : (second : Bool) (t : Terminal) (ts : List Terminal)
    → IsOfVersion (version_at second) (kind_of t)
    → SpellsToken (version_at second) (kind_of t) (spelling t) (printed_behind ts)
spells second (a_name text place) ts i = (refl, i, word-stops ts)
spells second (a_number n place) ts i =
    let d = digits-spell n (below second n i) in
    (sym d.0, d.1, digit-stops ts)
spells second (a_site place) ts i = (refl, i, word-stops ts)
spells second (a_key k) ts i = (refl, i, word-stops ts)
spells second (a_sign s) ts i = refl

small : (second : Bool) (t : Terminal) (word : List ℕ) → IsOfVersion (version_at second) (kind_of t)
    → IsSmall (version_at second) (Token_piece (kind_of t) word)
small second (a_name text place) word i = tt
small second (a_number n place) word i = i
small second (a_site place) word i = tt
small second (a_key k) word i = tt
small second (a_sign s) word i = tt

splits-behind : (second : Bool) (ts : List Terminal) → AreOfVersion (version_at second) ts
    → Splits (version_at second) (pieces_behind ts) (printed_behind ts) []
splits-behind second [] a = ([], record { whole = refl; fits = inl (10, refl, refl) }, tt, refl)
splits-behind second (t ∷ ts) a = (
  spelling t ++ printed_behind ts,
  record { whole = refl; fits = inl (32, refl, refl) },
  tt,
  (
    printed_behind ts,
    record { whole = refl; fits = spells second t ts a.0 },
    small second t (spelling t) a.0,
    splits-behind second ts a.1,
  ),
)

splits : (second : Bool) (ts : List Terminal) → AreOfVersion (version_at second) ts
    → Splits (version_at second) (pieces_of ts) (printed ts) []
splits second [] a = ([], record { whole = refl; fits = inl (10, refl, refl) }, tt, refl)
splits second (t ∷ ts) a = (
  printed_behind ts,
  record { whole = refl; fits = spells second t ts a.0 },
  small second t (spelling t) a.0,
  splits-behind second ts a.1,
)

kinds-behind : (place : ℕ) (ts : List Terminal)
    → map (λ (t : Token). t.kind) (tokens_at place (pieces_behind ts)) ≡ map kind_of ts
kinds-behind place [] = refl
kinds-behind place (t ∷ ts) =
    ap (λ ks. kind_of t ∷ ks) (kinds-behind (place + 1 + length (spelling t)) ts)

kinds : (ts : List Terminal)
    → map (λ (t : Token). t.kind) (tokens_at 0 (pieces_of ts)) ≡ map kind_of ts
kinds [] = refl
kinds (t ∷ ts) = ap (λ ks. kind_of t ∷ ks) (kinds-behind (0 + length (spelling t)) ts)

-- what a sentence says of its version
abbrev kinds_say : List Kind2 → Bool
kinds_say [] = false
kinds_say (a ∷ []) = false
kinds_say (a ∷ b ∷ []) = false
kinds_say (a ∷ b ∷ c ∷ more) = is_version_word a && is_two b && is_semicolon c

says-by-kinds : (ts : List Token) → says_second ts ≡ kinds_say (map (λ (t : Token). t.kind) ts)
says-by-kinds [] = refl
says-by-kinds (a ∷ []) = refl
says-by-kinds (a ∷ b ∷ []) = refl
says-by-kinds (a ∷ b ∷ c ∷ ts) = refl

says-kinds : (ts : List Token) (us : List Terminal)
    → map (λ (t : Token). t.kind) ts ≡ map kind_of us → says_second ts ≡ kinds_say (map kind_of us)
says-kinds ts us e = says-by-kinds ts ∙ ap kinds_say e

says-sentence : (tree : TreeOfText) → IsGrammatical tree
    → kinds_say (map kind_of (sentence nowhere tree)) ≡ is_second tree.version
says-sentence tree g = either (is_second tree.version) refl
  where
    first : (seen : List SeenTree) (sites : List PlaceTree) → IsNotEmpty sites
        → kinds_say (map kind_of (of_declarations nowhere seen (of_sites nowhere sites []))) ≡ false
    first [] [] i = absurd i
    first [] (s ∷ ss) i = refl
    first (d ∷ ds) ss i = refl

    either : (v : Bool) → is_second tree.version ≡ v
        → kinds_say (map kind_of (sentence nowhere tree)) ≡ is_second tree.version
    either true e = rw e refl
    either false e = rw e (first tree.seen tree.sites g.some_site)

pub reads-again : (tree : TreeOfText) → IsTree tree
    → length (printed (sentence nowhere tree)) ≤ 1048576
    → ReadsAs (printed (sentence nowhere tree)) tree
reads-again tree i l =
    let whole = sentence nowhere tree in
    let second = is_second tree.version in
    let list : List Token = tokens_at 0 (pieces_of whole) in
    let same : map (λ (t : Token). t.kind) list ≡ map kind_of whole = kinds whole in
    let ran : run second (terminals list) (start second) ≡ (levels tree, true) =
    run-same second list whole same (start second)
    ∙ run-sentence second nowhere tree refl i.grammatical in
    let s = accepted-sentence second list (levels tree) ran in
    let again : run second (terminals list) (start second) ≡ (levels s.0, true) =
    ap (λ x. run second x (start second)) s.2.spelled
    ∙ run-sentence second s.2.at s.0 s.1 s.2.grammatical in
    let deep : levels tree ≡ levels s.0 = ap (λ p. p.0) (sym ran ∙ again) in
    let bares : sentence nowhere (bare s.0) ≡ sentence nowhere (bare tree) =
    bare-sentence s.2.at s.0 ∙ ap all_bared (sym s.2.spelled) ∙ bared-same list whole same
    ∙ sym (bare-sentence nowhere tree) in
    let says : says_second list ≡ second =
    says-kinds list whole same ∙ says-sentence tree i.grammatical in
    let split : Splits (version_at second) (pieces_of whole) (printed whole) [] =
    splits second whole i.words in
    record {
      tokens = record { list = list; length = length (printed whole) };
      again = s.0;
      lexes = (
        version_at second,
        is-of second (pieces_of whole) (printed whole) split says,
        record {
          short = l;
          stand = record { pieces = pieces_of whole; split = split; tokens_are = refl };
          length_is = refl;
        },
      );
      parses = record {
        version = s.1 ∙ sym says;
        is = s.2;
        low = subst (λ v. AreWithin (most_levels v) (levels s.0)) (sym says)
            (subst (AreWithin (most_levels second)) deep i.shallow);
      };
      same = one-sentence nowhere nowhere (bare s.0) (bare tree)
          (bare-grammatical s.0 s.2.grammatical) (bare-grammatical tree i.grammatical) bares;
    }

pub prints-again : (tree : TreeOfText) (result : Result (List ℕ) Memory)
    → IfOk result (λ text. text ≡ printed (sentence nowhere tree)) → IfOk result (λ _. IsTree tree)
    → IfOk result (λ text. length text ≤ 1048576 → ReadsAs text tree)
prints-again tree (Ok text) e i =
    λ l. subst (λ x. length x ≤ 1048576 → ReadsAs x tree) (sym e) (reads-again tree i) l
prints-again tree (Err m) e i = tt
