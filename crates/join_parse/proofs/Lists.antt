-- Lists that are read from the left.
use Rattle.std.proofs.Common.{subst, ◌≡◌, ℕ, ◌+◌, ◌≤◌, Bool, List, [], ◌∷◌, ◌++◌, length, refl, sym}
use Rattle.std.proofs.Common.{ap, ◌∙◌, append_assoc, append-nil, length-append}
use Rattle.join_lex.specs.declared.token.Key.TheVariants as key
use Rattle.join_lex.specs.declared.token.Sign.TheVariants as sign
use Rattle.join_lex.specs.declared.token.Token.{Token}
use Rattle.join_parse.specs.declared.word.Word.{Word}
use Rattle.join_parse.specs.declared.word.Arg.{Arg}
use Rattle.join_parse.specs.declared.word.PatTree.{PatTree}
use Rattle.join_parse.specs.declared.word.SeenTree.{SeenTree}
use Rattle.join_parse.specs.declared.tree.PlaceTree.{PlaceTree}
use Rattle.join_parse.specs.Terminals.{a_site, a_key, a_sign, named, argument}
use Rattle.join_parse.specs.Source.{Process, Processes, none, one_more, Definition, Definitions}
use Rattle.join_parse.specs.Source.{no_definition, and_also, processes, definitions}
use Rattle.join_parse.specs.Grammar.{unplaced, arguments, IsArgument, AreArguments, names, applied}
use Rattle.join_parse.specs.Grammar.{patterns, of_process, of_processes, of_definition}
use Rattle.join_parse.specs.Grammar.{of_definitions, of_declarations, of_sites, IsNotEmpty}
use Rattle.join_parse.specs.Grammar.{AreShort, IsSimple, AreProcesses, AreDefinitions}
use Rattle.join_parse.specs.Grammar.{AreDeclarations, AreSites}
use Rattle.join_parse.specs.inside.Parsed.{terms, places, SpellsProcess, SpellsProcesses}
use Rattle.join_parse.specs.inside.Parsed.{SpellsDefinition}
use Rattle.join_parse.specs.inside.Parsed.{SpellsDefinitions, SpellsSite}
use Rattle.join_parse.proofs.Listed.{joined, also, ListedArgs, ListedNames, ListedPatterns}
use Rattle.join_parse.proofs.Listed.{ListedProcesses}
use Rattle.join_parse.proofs.Listed.{ListedDefinitions, ListedDeclarations, ListedSites}

module _ (ts : List Token) where
  -- identifiers
  pub names-first : (at upto : ℕ) (w : Word) → terms ts at ≡ named w ∷ terms ts upto
      → ListedNames ts at upto (w ∷ [])
  names-first at upto w e = λ ws rest q. e ∙ ap (λ r. named w ∷ r) q

  pub names-more : (at end mid upto : ℕ) (list : List Word) (w : Word) → ListedNames ts at end list
      → terms ts end ≡ a_sign sign.Comma ∷ terms ts mid → terms ts mid ≡ named w ∷ terms ts upto
      → ListedNames ts at upto (list ++ w ∷ [])
  names-more at end mid upto list w l comma e = λ ws rest q.
      l (w ∷ ws) rest (comma ∙ ap (λ r. a_sign sign.Comma ∷ r) (e ∙ ap (λ r. named w ∷ r) q))
      ∙ ap (λ xs. names xs rest) (sym (append_assoc list (w ∷ []) ws))

  pub names-all : (at end upto : ℕ) (list : List Word) → ListedNames ts at end list
      → terms ts end ≡ a_sign sign.ParenRight ∷ terms ts upto
      → terms ts at ≡ names list (terms ts upto)
  names-all at end upto list l close =
      l [] (terms ts upto) close ∙ ap (λ xs. names xs (terms ts upto)) (append-nil list)

  pub patterns-first : (at upto : ℕ) (p : PatTree) → length p.params ≤ 255
      → terms ts at ≡ applied p.on p.params (terms ts upto) → ListedPatterns ts at upto (p ∷ [])
  patterns-first at upto p few e = λ ps rest a q. (tt, (few, a), e ∙ ap (applied p.on p.params) q)

  pub patterns-more : (at end mid upto : ℕ) (list : List PatTree) (p : PatTree)
      → ListedPatterns ts at end list → terms ts end ≡ a_sign sign.Bar ∷ terms ts mid
      → length p.params ≤ 255 → terms ts mid ≡ applied p.on p.params (terms ts upto)
      → ListedPatterns ts at upto (list ++ p ∷ [])
  patterns-more at end mid upto list p l bar few e = λ ps rest a q.
      let h = l (p ∷ ps) rest (few, a)
      (bar ∙ ap (λ r. a_sign sign.Bar ∷ r) (e ∙ ap (applied p.on p.params) q)) in
      let same : list ++ p ∷ ps ≡ (list ++ p ∷ []) ++ ps = sym (append_assoc list (p ∷ []) ps) in
      subst (λ xs. IsNotEmpty xs × AreShort xs × (terms ts at ≡ patterns xs rest)) same h

  pub patterns-all : (at end upto : ℕ) (list : List PatTree) → ListedPatterns ts at end list
      → terms ts end ≡ a_sign sign.Arrow ∷ terms ts upto
      → IsNotEmpty list × AreShort list × (terms ts at ≡ patterns list (terms ts upto))
  patterns-all at end upto list l arrow =
      subst (λ xs. IsNotEmpty xs × AreShort xs × (terms ts at ≡ patterns xs (terms ts upto)))
      (append-nil list) (l [] (terms ts upto) tt arrow)

  -- declarations
  pub declarations-more : (at end upto : ℕ) (list : List SeenTree) (d : SeenTree)
      → ListedDeclarations ts at end list → d.count ≤ 255
      → terms ts end
      ≡ a_key key.Observe ∷ named d.name ∷ a_sign sign.Slash
      ∷ unplaced (places ts) d.count (a_sign sign.Semicolon ∷ terms ts upto)
      → ListedDeclarations ts at upto (list ++ d ∷ [])
  declarations-more at end upto list d l small e = λ ds rest a q.
      let h = l (d ∷ ds) rest (small, a) (e
      ∙ ap (λ r. a_key key.Observe ∷ named d.name ∷ a_sign sign.Slash
      ∷ unplaced (places ts) d.count (a_sign sign.Semicolon ∷ r)) q) in
      subst (λ xs. AreDeclarations xs × (terms ts at ≡ of_declarations (places ts) xs rest))
      (sym (append_assoc list (d ∷ []) ds)) h

  pub declarations-all : (at end : ℕ) (list : List SeenTree) → ListedDeclarations ts at end list
      → AreDeclarations list × (terms ts at ≡ of_declarations (places ts) list (terms ts end))
  declarations-all at end list l = subst
      (λ xs. AreDeclarations xs × (terms ts at ≡ of_declarations (places ts) xs (terms ts end)))
      (append-nil list) (l [] (terms ts end) tt refl)

module _ (second : Bool) (ts : List Token) where
  -- arguments
  pub args-first : (at upto : ℕ) (v : Arg) → IsArgument second v
      → terms ts at ≡ argument v ∷ terms ts upto → ListedArgs second ts at upto (v ∷ [])
  args-first at upto v i e = λ vs rest a q. ((i, a), e ∙ ap (λ r. argument v ∷ r) q)

  pub args-more : (at end mid upto : ℕ) (list : List Arg) (v : Arg)
      → ListedArgs second ts at end list → terms ts end ≡ a_sign sign.Comma ∷ terms ts mid
      → IsArgument second v → terms ts mid ≡ argument v ∷ terms ts upto
      → ListedArgs second ts at upto (list ++ v ∷ [])
  args-more at end mid upto list v l comma i e = λ vs rest a q.
      let h = l (v ∷ vs) rest (i, a)
      (comma ∙ ap (λ r. a_sign sign.Comma ∷ r) (e ∙ ap (λ r. argument v ∷ r) q)) in
      subst (λ xs. AreArguments second xs × (terms ts at ≡ arguments xs rest))
      (sym (append_assoc list (v ∷ []) vs)) h

  pub args-all : (at end upto : ℕ) (list : List Arg) → ListedArgs second ts at end list
      → terms ts end ≡ a_sign sign.ParenRight ∷ terms ts upto
      → AreArguments second list × (terms ts at ≡ arguments list (terms ts upto))
  args-all at end upto list l close =
      subst (λ xs. AreArguments second xs × (terms ts at ≡ arguments xs (terms ts upto)))
      (append-nil list) (l [] (terms ts upto) tt close)

  -- sites
  pub sites-more : (at end upto : ℕ) (list : List PlaceTree) (s : PlaceTree)
      → ListedSites second ts at end list → SpellsSite second ts end s upto
      → ListedSites second ts at upto (list ++ s ∷ [])
  sites-more at end upto list s l e = λ ss rest a q.
      let h = l (s ∷ ss) rest (e.0, e.1, a) (e.2
      ∙ ap (λ r. a_site s.opener ∷ named s.name ∷ a_sign sign.SquareLeft
      ∷ of_definitions (places ts) (definitions s.defs) (a_sign sign.Colon
      ∷ of_processes (places ts) (processes s.body) (a_sign sign.SquareRight ∷ r))) q) in
      subst (λ xs. AreSites second xs × (terms ts at ≡ of_sites (places ts) xs rest))
      (sym (append_assoc list (s ∷ []) ss)) h

  pub sites-all : (at end : ℕ) (list : List PlaceTree) → ListedSites second ts at end list
      → AreSites second list × (terms ts at ≡ of_sites (places ts) list (terms ts end))
  sites-all at end list l =
      subst (λ xs. AreSites second xs × (terms ts at ≡ of_sites (places ts) xs (terms ts end)))
      (append-nil list) (l [] (terms ts end) tt refl)

  -- processes
  joined-push : (list : List Process) (q : Process) (ps : Processes)
      → joined (list ++ q ∷ []) ps ≡ joined list (one_more q ps)
  joined-push [] q ps = refl
  joined-push (p ∷ list) q ps = ap (one_more p) (joined-push list q ps)

  joined-none : (list : List Process) → joined list none ≡ processes list
  joined-none [] = refl
  joined-none (p ∷ list) = ap (one_more p) (joined-none list)

  pub processes-more : (at end mid upto : ℕ) (list : List Process) (q : Process)
      → ListedProcesses second ts at end list → IsSimple q → SpellsProcess second ts end q mid
      → terms ts mid ≡ a_sign sign.Bar ∷ terms ts upto
      → ListedProcesses second ts at upto (list ++ q ∷ [])
  processes-more at end mid upto list q l simple e bar none rest a r = absurd a
  processes-more at end mid upto list q l simple e bar (one_more p ps) rest a r =
      let h = l (one_more q (one_more p ps)) rest (e.0, (simple, a.0, a.1))
      (e.1 ∙ ap (of_process (places ts) q) (bar ∙ ap (λ x. a_sign sign.Bar ∷ x) r)) in
      subst (λ xs. AreProcesses second xs × (terms ts at ≡ of_processes (places ts) xs rest))
      (sym (joined-push list q (one_more p ps))) h

  pub processes-last : (at end upto : ℕ) (list : List Process) (q : Process)
      → ListedProcesses second ts at end list → SpellsProcess second ts end q upto
      → SpellsProcesses second ts at (list ++ q ∷ []) upto
  processes-last at end upto list q l e =
      let h = l (one_more q none) (terms ts upto) (e.0, tt) e.1 in
      let same : joined list (one_more q none) ≡ processes (list ++ q ∷ []) =
      sym (joined-push list q none) ∙ joined-none (list ++ q ∷ []) in
      subst
      (λ xs. AreProcesses second xs × (terms ts at ≡ of_processes (places ts) xs (terms ts upto)))
      same h

  -- definitions
  also-push : (list : List Definition) (e : Definition) (ds : Definitions)
      → also (list ++ e ∷ []) ds ≡ also list (and_also e ds)
  also-push [] e ds = refl
  also-push (d ∷ list) e ds = ap (and_also d) (also-push list e ds)

  also-none : (list : List Definition) → also list no_definition ≡ definitions list
  also-none [] = refl
  also-none (d ∷ list) = ap (and_also d) (also-none list)

  pub definitions-first : (at upto : ℕ) (within : Bool) (d : Definition)
      → SpellsDefinition second ts at within d upto
      → ListedDefinitions second ts at upto within (d ∷ [])
  definitions-first at upto within d e =
      λ ds rest a q. ((e.0, a), e.1 ∙ ap (of_definition (places ts) d) q)

  pub definitions-more :
      (at end mid upto : ℕ) (within : Bool) (list : List Definition) (d : Definition)
      → ListedDefinitions second ts at end within list → terms ts end ≡ a_key key.And ∷ terms ts mid
      → SpellsDefinition second ts mid within d upto
      → ListedDefinitions second ts at upto within (list ++ d ∷ [])
  definitions-more at end mid upto within list d l and_is e = λ ds rest a q.
      let h = l (and_also d ds) rest (e.0, a)
      (and_is ∙ ap (λ r. a_key key.And ∷ r) (e.1 ∙ ap (of_definition (places ts) d) q)) in
      subst
      (λ xs. AreDefinitions second within xs × (terms ts at ≡ of_definitions (places ts) xs rest))
      (sym (also-push list d ds)) h

  pub definitions-all : (at end : ℕ) (within : Bool) (list : List Definition)
      → ListedDefinitions second ts at end within list
      → SpellsDefinitions second ts at within list end
  definitions-all at end within list l = subst (λ xs. AreDefinitions second within xs
      × (terms ts at ≡ of_definitions (places ts) xs (terms ts end))) (also-none list)
      (l no_definition (terms ts end) tt refl)

pub length-push : {A : Type 0} (xs : List A) (x : A) → length (xs ++ x ∷ []) ≡ length xs + 1
length-push xs x = simp length-append refl

pub some-push : {A : Type 0} (xs : List A) (x : A) → IsNotEmpty (xs ++ x ∷ [])
some-push [] x = tt
some-push (y ∷ xs) x = tt
