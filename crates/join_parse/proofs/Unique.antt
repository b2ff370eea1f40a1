-- Terminals are the sentence of one tree at most.
use Rattle.std.proofs.Common.{subst, ℕ, ◌≡◌, ◌⊎◌, inl, inr, Bool, true, false, List, [], ◌∷◌, refl}
use Rattle.std.proofs.Common.{sym, ap, ◌∙◌}
use Rattle.join_lex.specs.declared.token.Key.TheVariants as key
use Rattle.join_lex.specs.declared.token.Sign.TheVariants as sign
use Rattle.join_parse.specs.declared.word.Word.{Word}
use Rattle.join_parse.specs.declared.word.Arg.{Arg}
use Rattle.join_parse.specs.declared.word.Arg.TheVariants as arg
use Rattle.join_parse.specs.inside.Automaton.{is_name}
use Rattle.join_parse.specs.declared.word.PatTree.{PatTree}
use Rattle.join_parse.specs.declared.word.SeenTree.{SeenTree}
use Rattle.join_parse.specs.declared.tree.PlaceTree.{PlaceTree}
use Rattle.join_parse.specs.Terminals.{Terminal, a_key, a_sign, named, argument, kind_of}
use Rattle.join_parse.specs.Source.{Process, Zero, Msg, Go, Fail, Halt, Add, Same, Group, Def}
use Rattle.join_parse.specs.Source.{Processes, none, one_more, Definition, Rule, Place, Definitions}
use Rattle.join_parse.specs.Source.{no_definition, and_also, processes, definitions}
use Rattle.join_parse.specs.Grammar.{TreeOfText, Places, is_second, opening, more_args, arguments}
use Rattle.join_parse.specs.Grammar.{IsNotEmpty, more_names, names, more_patterns, patterns}
use Rattle.join_parse.specs.Grammar.{of_process, of_processes, more_processes, of_definition}
use Rattle.join_parse.specs.Grammar.{of_definitions, more_definitions, of_declarations, of_sites}
use Rattle.join_parse.specs.Grammar.{sentence, IsSimple, IsProcess, AreProcesses, AreMore}
use Rattle.join_parse.specs.Grammar.{IsDefinition, AreDefinitions, AreSites, IsGrammatical}
use Rattle.join_parse.proofs.Accepted.{NoBar, NoAnd, simple-or-end, no-bar-definitions}

named-inj : (v w : Word) → named v ≡ named w → v ≡ w
named-inj v w e =
    let a : v.text ≡ w.text = cc in
    let b : v.place ≡ w.place = cc in
    λ i. record { text = a i; place = b i }

one-more_names : (vs ws : List Word) (r s : List Terminal) → more_names vs r ≡ more_names ws s
    → (vs ≡ ws) × (r ≡ s)
one-more_names [] [] r s e = (refl, cc)
one-more_names (v ∷ vs) (w ∷ ws) r s e =
    let head : named v ≡ named w = cc in
    let same : v ≡ w = named-inj v w head in
    let tail : more_names vs r ≡ more_names ws s = cc in
    let i = one-more_names vs ws r s tail in
    (cc, i.1)
one-more_names vs ws r s e = cc

one-names : (vs ws : List Word) (r s : List Terminal) → names vs r ≡ names ws s
    → (vs ≡ ws) × (r ≡ s)
one-names [] [] r s e = (refl, cc)
one-names (v ∷ vs) (w ∷ ws) r s e =
    let head : named v ≡ named w = cc in
    let same : v ≡ w = named-inj v w head in
    let tail : more_names vs r ≡ more_names ws s = cc in
    let i = one-more_names vs ws r s tail in
    (cc, i.1)
one-names vs ws r s e = cc

argument-inj : (v w : Arg) → argument v ≡ argument w → v ≡ w
argument-inj (arg.Word v) (arg.Word w) e = ap arg.Word (named-inj v w e)
argument-inj (arg.Num m p) (arg.Num n q) e =
    let a : m ≡ n = cc in
    let b : p ≡ q = cc in
    λ i. arg.Num (a i) (b i)
argument-inj (arg.Word v) (arg.Num n q) e = cc
argument-inj (arg.Num m p) (arg.Word w) e = cc

one-more_args : (vs ws : List Arg) (r s : List Terminal) → more_args vs r ≡ more_args ws s
    → (vs ≡ ws) × (r ≡ s)
one-more_args [] [] r s e = (refl, cc)
one-more_args (v ∷ vs) (w ∷ ws) r s e =
    let head : argument v ≡ argument w = cc in
    let same : v ≡ w = argument-inj v w head in
    let tail : more_args vs r ≡ more_args ws s = cc in
    let i = one-more_args vs ws r s tail in
    (cc, i.1)
one-more_args [] (w ∷ ws) r s e = cc
one-more_args (v ∷ vs) [] r s e = cc

one-arguments : (vs ws : List Arg) (r s : List Terminal) → arguments vs r ≡ arguments ws s
    → (vs ≡ ws) × (r ≡ s)
one-arguments [] [] r s e = (refl, cc)
one-arguments (v ∷ vs) (w ∷ ws) r s e =
    let head : argument v ≡ argument w = cc in
    let same : v ≡ w = argument-inj v w head in
    let tail : more_args vs r ≡ more_args ws s = cc in
    let i = one-more_args vs ws r s tail in
    (cc, i.1)
one-arguments [] (arg.Word w ∷ ws) r s e = cc
one-arguments [] (arg.Num n q ∷ ws) r s e = cc
one-arguments (arg.Word v ∷ vs) [] r s e = cc
one-arguments (arg.Num m p ∷ vs) [] r s e = cc

one-more_patterns : (ps qs : List PatTree) (r s : List Terminal)
    → more_patterns ps r ≡ more_patterns qs s → (ps ≡ qs) × (r ≡ s)
one-more_patterns [] [] r s e = (refl, cc)
one-more_patterns (p ∷ ps) (q ∷ qs) r s e =
    let head : named p.on ≡ named q.on = cc in
    let on : p.on ≡ q.on = named-inj p.on q.on head in
    let i = one-names p.params q.params (more_patterns ps r) (more_patterns qs s) cc in
    let j = one-more_patterns ps qs r s i.1 in
    let same : p ≡ q = same-pattern p q on i.0 in
    (cc, j.1)
  where
    same-pattern : (p q : PatTree) → p.on ≡ q.on → p.params ≡ q.params → p ≡ q
    same-pattern p q a b = λ i. record { on = a i; params = b i }
one-more_patterns ps qs r s e = cc

one-patterns : (p q : PatTree) (ps qs : List PatTree) (r s : List Terminal)
    → patterns (p ∷ ps) r ≡ patterns (q ∷ qs) s → ((p ∷ ps) ≡ (q ∷ qs)) × (r ≡ s)
one-patterns p q ps qs r s e =
    one-more_patterns (p ∷ ps) (q ∷ qs) r s (ap (λ ts. a_sign sign.Bar ∷ ts) e)

bar-first : (r more : List Terminal) → NoBar r → r ≡ a_sign sign.Bar ∷ more → ⊥
bar-first [] more n e = cc
bar-first (t ∷ ts) more n e =
    let h : t ≡ a_sign sign.Bar = cc in
    let no : true ≡ false = rw h at n in
    cc

and-first : (r more : List Terminal) → NoAnd r → r ≡ a_key key.And ∷ more → ⊥
and-first [] more n e = cc
and-first (t ∷ ts) more n e =
    let h : t ≡ a_key key.And = cc in
    let no : true ≡ false = rw h at n in
    cc

-- lists of members that are equal as parts of a tree
processes-inj : (ps qs : List Process) → processes ps ≡ processes qs → ps ≡ qs
processes-inj [] [] e = refl
processes-inj (p ∷ ps) (q ∷ qs) e =
    let tail : processes ps ≡ processes qs = cc in
    let i = processes-inj ps qs tail in
    cc
processes-inj ps qs e = cc

definitions-inj : (ds es : List Definition) → definitions ds ≡ definitions es → ds ≡ es
definitions-inj [] [] e = refl
definitions-inj (d ∷ ds) (f ∷ es) e =
    let tail : definitions ds ≡ definitions es = cc in
    let i = definitions-inj ds es tail in
    cc
definitions-inj ds es e = cc

same-place : (s t : PlaceTree) → s.opener ≡ t.opener → s.name ≡ t.name → s.defs ≡ t.defs
    → s.body ≡ t.body → s ≡ t
same-place s t a b c d = λ i. record { opener = a i; name = b i; defs = c i; body = d i }

module _ (second : Bool) (at at' : Places) where
  mutual
    one-process : (p q : Process) (r s : List Terminal) → IsProcess second p → IsProcess second q
        → IsSimple p ⊎ NoBar r → IsSimple q ⊎ NoBar s → of_process at p r ≡ of_process at' q s
        → (p ≡ q) × (r ≡ s)
    one-process Zero Zero r s i j u v e = (refl, cc)
    one-process (Msg on args) (Msg on' args') r s i j u v e =
        let head : named on ≡ named on' = cc in
        let same : on ≡ on' = named-inj on on' head in
        let o = one-arguments args args' r s cc in
        (cc, o.1)
    one-process (Go one other) (Go one' other') r s i j u v e =
        let head : named one ≡ named one' = cc in
        let head' : named other ≡ named other' = cc in
        let same : one ≡ one' = named-inj one one' head in
        let same' : other ≡ other' = named-inj other other' head' in
        let tail : r ≡ s = cc in
        (cc, tail)
    one-process (Fail one other) (Fail one' other') r s i j u v e =
        let head : named one ≡ named one' = cc in
        let head' : named other ≡ named other' = cc in
        let same : one ≡ one' = named-inj one one' head in
        let same' : other ≡ other' = named-inj other other' head' in
        let tail : r ≡ s = cc in
        (cc, tail)
    one-process Halt Halt r s i j u v e = (refl, cc)
    one-process (Add l m k) (Add l' m' k') r s i j u v e =
        let a : argument l ≡ argument l' = cc in
        let b : argument m ≡ argument m' = cc in
        let c : named k ≡ named k' = cc in
        let a' = argument-inj l l' a in
        let b' = argument-inj m m' b in
        let c' = named-inj k k' c in
        let tail : r ≡ s = cc in
        (cc, tail)
    one-process (Same l m y n) (Same l' m' y' n') r s i j u v e =
        let a : argument l ≡ argument l' = cc in
        let b : argument m ≡ argument m' = cc in
        let c : named y ≡ named y' = cc in
        let d : named n ≡ named n' = cc in
        let a' = argument-inj l l' a in
        let b' = argument-inj m m' b in
        let c' = named-inj y y' c in
        let d' = named-inj n n' d in
        let tail : r ≡ s = cc in
        (cc, tail)
    one-process (Group ps) (Group qs) r s i j u v e =
        let o = one-processes ps qs (a_sign sign.ParenRight ∷ r) (a_sign sign.ParenRight ∷ s) i j
        refl refl cc in
        let tail : r ≡ s = cc in
        (cc, tail)
    one-process (Def ds ps) (Def es qs) r s i j (inl u) v e = absurd u
    one-process (Def ds ps) (Def es qs) r s i j (inr u) (inl v) e = absurd v
    one-process (Def ds ps) (Def es qs) r s i j (inr u) (inr v) e =
        let o = one-definitions false ds es (a_key key.Inside ∷ of_processes at ps r)
        (a_key key.Inside ∷ of_processes at' qs s) i.0 j.0 (refl, refl) (refl, refl) cc in
        let tail : of_processes at ps r ≡ of_processes at' qs s = cc in
        let k = one-processes ps qs r s i.1 j.1 u v tail in
        (cc, k.1)
    one-process p q r s i j u v e = cc

    one-processes : (ps qs : Processes) (r s : List Terminal) → AreProcesses second ps
        → AreProcesses second qs → NoBar r → NoBar s → of_processes at ps r ≡ of_processes at' qs s
        → (ps ≡ qs) × (r ≡ s)
    one-processes none qs r s i j u v e = absurd i
    one-processes (one_more p ps) none r s i j u v e = absurd j
    one-processes (one_more p ps) (one_more q qs) r s i j u v e =
        let o = one-process p q (more_processes at ps r) (more_processes at' qs s)
        i.0 j.0 (simple-or-end second at p ps r i.1 u) (simple-or-end second at' q qs s j.1 v) e in
        let k = one-more p q ps qs r s i.1 j.1 u v o.1 in
        (cc, k.1)

    one-more : (p q : Process) (ps qs : Processes) (r s : List Terminal) → AreMore second p ps
        → AreMore second q qs → NoBar r → NoBar s → more_processes at ps r ≡ more_processes at' qs s
        → (ps ≡ qs) × (r ≡ s)
    one-more p q none none r s i j u v e = (refl, e)
    one-more p q none (one_more y qs) r s i j u v e = absurd (bar-first r _ u e)
    one-more p q (one_more x ps) none r s i j u v e = absurd (bar-first s _ v (sym e))
    one-more p q (one_more x ps) (one_more y qs) r s i j u v e =
        let o = one-process x y (more_processes at ps r) (more_processes at' qs s)
        i.1 j.1 (simple-or-end second at x ps r i.2 u) (simple-or-end second at' y qs s j.2 v) cc in
        let k = one-more x y ps qs r s i.2 j.2 u v o.1 in
        (cc, k.1)

    one-definition : (within : Bool) (d e : Definition) (r s : List Terminal)
        → IsDefinition second within d → IsDefinition second within e → NoBar r → NoBar s
        → of_definition at d r ≡ of_definition at' e s → (d ≡ e) × (r ≡ s)
    one-definition within (Rule [] b) e r s i j u v q = absurd i.0
    one-definition within (Rule (p ∷ ps) b) (Rule [] c) r s i j u v q = absurd j.0
    one-definition within (Rule (p ∷ ps) b) (Rule (p' ∷ qs) c) r s i j u v q =
        let o = one-patterns p p' ps qs (of_processes at b r) (of_processes at' c s) q in
        let k = one-processes b c r s i.2 j.2 u v o.1 in
        (cc, k.1)
    one-definition within (Rule (p ∷ ps) b) (Place o a ds c) r s i j u v q = cc
    one-definition within (Place o a ds b) (Rule [] c) r s i j u v q = absurd j.0
    one-definition within (Place o a ds b) (Rule (p ∷ ps) c) r s i j u v q = cc
    one-definition true (Place o a ds b) (Place o' a' es c) r s i j u v q = absurd i
    one-definition false (Place o a ds b) (Place o' a' es c) r s i j u v q =
        let head : named a ≡ named a' = cc in
        let same : a ≡ a' = named-inj a a' head in
        let k = one-definitions true ds es
        (a_sign sign.Colon ∷ of_processes at b (a_sign sign.SquareRight ∷ r))
        (a_sign sign.Colon ∷ of_processes at' c (a_sign sign.SquareRight ∷ s)) i.1 j.1 (refl, refl)
        (refl, refl) cc in
        let tail : of_processes at b (a_sign sign.SquareRight ∷ r)
        ≡ of_processes at' c (a_sign sign.SquareRight ∷ s) = cc in
        let l = one-processes b c (a_sign sign.SquareRight ∷ r) (a_sign sign.SquareRight ∷ s)
        i.2 j.2 refl refl tail in
        let end : r ≡ s = cc in
        let opener : o ≡ o' = i.0 ∙ ap (λ w. w.place) same ∙ sym j.0 in
        (cc, end)

    one-definitions : (within : Bool) (ds es : Definitions) (r s : List Terminal)
        → AreDefinitions second within ds → AreDefinitions second within es → NoBar r × NoAnd r
        → NoBar s × NoAnd s → of_definitions at ds r ≡ of_definitions at' es s → (ds ≡ es) × (r ≡ s)
    one-definitions within no_definition no_definition r s i j u v e = (refl, cc)
    one-definitions within no_definition (and_also (Rule [] b) es) r s i j u v e = absurd j.0.0
    one-definitions within no_definition (and_also (Rule (p ∷ ps) b) es) r s i j u v e = cc
    one-definitions within no_definition (and_also (Place o a ds b) es) r s i j u v e = cc
    one-definitions within (and_also (Rule [] b) ds) no_definition r s i j u v e = absurd i.0.0
    one-definitions within (and_also (Rule (p ∷ ps) b) ds) no_definition r s i j u v e = cc
    one-definitions within (and_also (Place o a es b) ds) no_definition r s i j u v e = cc
    one-definitions within (and_also d ds) (and_also e es) r s i j u v q =
        let k = one-definition within d e (more_definitions at ds r) (more_definitions at' es s) i.0
        j.0 (no-bar-definitions second at ds r u.0) (no-bar-definitions second at' es s v.0) q in
        let l = one-more_definitions within ds es r s i.1 j.1 u v k.1 in
        (cc, l.1)

    one-more_definitions : (within : Bool) (ds es : Definitions) (r s : List Terminal)
        → AreDefinitions second within ds → AreDefinitions second within es → NoBar r × NoAnd r
        → NoBar s × NoAnd s → more_definitions at ds r ≡ more_definitions at' es s
        → (ds ≡ es) × (r ≡ s)
    one-more_definitions within no_definition no_definition r s i j u v e = (refl, e)
    one-more_definitions within no_definition (and_also d es) r s i j u v e =
        absurd (and-first r _ u.1 e)
    one-more_definitions within (and_also d ds) no_definition r s i j u v e =
        absurd (and-first s _ v.1 (sym e))
    one-more_definitions within (and_also d ds) (and_also e es) r s i j u v q =
        let k = one-definition within d e (more_definitions at ds r) (more_definitions at' es s) i.0
        j.0 (no-bar-definitions second at ds r u.0) (no-bar-definitions second at' es s v.0) cc in
        let l = one-more_definitions within ds es r s i.1 j.1 u v k.1 in
        (cc, l.1)

  one-sites : (ss ts : List PlaceTree) → AreSites second ss → AreSites second ts
      → of_sites at ss [] ≡ of_sites at' ts [] → ss ≡ ts
  one-sites [] [] i j e = refl
  one-sites (s ∷ ss) (t ∷ ts) i j e =
      let opener : s.opener ≡ t.opener = cc in
      let head : named s.name ≡ named t.name = cc in
      let name : s.name ≡ t.name = named-inj s.name t.name head in
      let k = one-definitions false (definitions s.defs) (definitions t.defs) (a_sign sign.Colon
      ∷ of_processes at (processes s.body) (a_sign sign.SquareRight ∷ of_sites at ss []))
      (a_sign sign.Colon
      ∷ of_processes at' (processes t.body) (a_sign sign.SquareRight ∷ of_sites at' ts []))
      i.0 j.0 (refl, refl) (refl, refl) cc in
      let tail : of_processes at (processes s.body) (a_sign sign.SquareRight ∷ of_sites at ss [])
      ≡ of_processes at' (processes t.body) (a_sign sign.SquareRight ∷ of_sites at' ts []) = cc in
      let l = one-processes (processes s.body) (processes t.body)
      (a_sign sign.SquareRight ∷ of_sites at ss []) (a_sign sign.SquareRight ∷ of_sites at' ts [])
      i.1 j.1 refl refl tail in
      let end : of_sites at ss [] ≡ of_sites at' ts [] = cc in
      let more = one-sites ss ts i.2 j.2 end in
      let same : s ≡ t =
      same-place s t opener name (definitions-inj s.defs t.defs k.0)
      (processes-inj s.body t.body l.0) in
      cc
  one-sites ss ts i j e = cc

  one-program : (ds es : List SeenTree) (ss ts : List PlaceTree) → AreSites second ss
      → AreSites second ts
      → of_declarations at ds (of_sites at ss []) ≡ of_declarations at' es (of_sites at' ts [])
      → (ds ≡ es) × (ss ≡ ts)
  one-program [] [] ss ts i j e = (refl, one-sites ss ts i j e)
  one-program (d ∷ ds) (f ∷ es) ss ts i j e =
      let head : named d.name ≡ named f.name = cc in
      let name : d.name ≡ f.name = named-inj d.name f.name head in
      let count : d.count ≡ f.count = cc in
      let tail : of_declarations at ds (of_sites at ss [])
      ≡ of_declarations at' es (of_sites at' ts []) = cc in
      let k = one-program ds es ss ts i j tail in
      let same : d ≡ f = same-declaration d f name count in
      (cc, k.1)
    where
      same-declaration : (d e : SeenTree) → d.name ≡ e.name → d.count ≡ e.count → d ≡ e
      same-declaration d e a b = λ i. record { name = a i; count = b i }
  one-program [] (f ∷ es) [] ts i j e = cc
  one-program [] (f ∷ es) (s ∷ ss) ts i j e = cc
  one-program (d ∷ ds) [] ss [] i j e = cc
  one-program (d ∷ ds) [] ss (t ∷ ts) i j e = cc

-- the versions of two sentences
abbrev names_first : List Terminal → Bool
names_first [] = false
names_first (t ∷ ts) = is_name (kind_of t)

first-opening : (at : Places) (t : TreeOfText) → IsGrammatical t → (v : Bool)
    → is_second t.version ≡ v → names_first (sentence at t) ≡ v
first-opening at t g true e = rw e refl
first-opening at t g false e = rw e (by t.seen t.sites g.some_site)
  where
    by : (ds : List SeenTree) (ss : List PlaceTree) → IsNotEmpty ss
        → names_first (of_declarations at ds (of_sites at ss [])) ≡ false
    by [] [] i = absurd i
    by [] (s ∷ ss) i = refl
    by (d ∷ ds) ss i = refl

pub same-version : (at at' : Places) (t u : TreeOfText) → IsGrammatical t → IsGrammatical u
    → sentence at t ≡ sentence at' u → is_second t.version ≡ is_second u.version
same-version at at' t u g h e = sym (first-opening at t g (is_second t.version) refl)
    ∙ ap names_first e ∙ first-opening at' u h (is_second u.version) refl

-- two trees that begin with the same terminal have one version
pub same-start : (at at' : Places) (t u : TreeOfText) (x : Terminal) (r s : List Terminal)
    → IsGrammatical t → IsGrammatical u → sentence at t ≡ x ∷ r → sentence at' u ≡ x ∷ s
    → is_second t.version ≡ is_second u.version
same-start at at' t u x r s g h e f = sym (first-opening at t g (is_second t.version) refl)
    ∙ ap names_first e ∙ sym (ap names_first f) ∙ first-opening at' u h (is_second u.version) refl

version-of : (m n : ℕ) → (m ≡ 1) ⊎ (m ≡ 2) → (n ≡ 1) ⊎ (n ≡ 2) → is_second m ≡ is_second n → m ≡ n
version-of m n (inl a) (inl b) e = a ∙ sym b
version-of m n (inr a) (inr b) e = a ∙ sym b
version-of m n (inl a) (inr b) e =
    let no : false ≡ true = sym (ap is_second a) ∙ e ∙ ap is_second b in
    cc
version-of m n (inr a) (inl b) e =
    let no : true ≡ false = sym (ap is_second a) ∙ e ∙ ap is_second b in
    cc

one-opening : (second : Bool) (at at' : Places) (r s : List Terminal)
    → opening at second r ≡ opening at' second s → r ≡ s
one-opening true at at' r s e = cc
one-opening false at at' r s e = e

-- Terminals are the sentence of one tree at most.
pub one-sentence : (at at' : Places) (t u : TreeOfText) → IsGrammatical t → IsGrammatical u
    → sentence at t ≡ sentence at' u → t ≡ u
one-sentence at at' t u g h e =
    let same = same-version at at' t u g h e in
    let v : t.version ≡ u.version = version-of t.version u.version g.version h.version same in
    let second = is_second t.version in
    let rest : of_declarations at t.seen (of_sites at t.sites [])
    ≡ of_declarations at' u.seen (of_sites at' u.sites []) = one-opening second at at' _ _ (e
    ∙ ap (λ w. opening at' w (of_declarations at' u.seen (of_sites at' u.sites []))) (sym same)) in
    let p = one-program second at at' t.seen u.seen t.sites u.sites g.sites
    (subst (λ w. AreSites w u.sites) (sym same) h.sites) rest in
    λ i. record { version = v i; seen = p.0 i; sites = p.1 i }
