-- Texts to which the parts of a sentence are appended.
use Rattle.std.proofs.Common.{◌≡◌, ℕ, suc, ◌+◌, ◌<◌, Bool, true, false, List, [], ◌∷◌, ◌++◌, length}
use Rattle.std.proofs.Common.{drop, get_or, refl, sym, ap, ◌∙◌, add-one, drop-cons, append_assoc}
use Rattle.join_lex.specs.declared.token.Key.TheVariants as key
use Rattle.join_lex.specs.declared.token.Sign.TheVariants as sign
use Rattle.join_parse.specs.declared.word.Word.{Word}
use Rattle.join_parse.specs.declared.word.Arg.{Arg}
use Rattle.join_parse.specs.declared.word.PatTree.{PatTree}
use Rattle.join_parse.specs.declared.word.SeenTree.{SeenTree}
use Rattle.join_parse.specs.declared.tree.PlaceTree.{PlaceTree}
use Rattle.join_parse.specs.Terminals.{Terminal, a_name, a_site, a_key, a_sign, named, argument}
use Rattle.join_parse.specs.Source.{Process, processes, Definition, definitions}
use Rattle.join_parse.specs.Grammar.{TreeOfText, nowhere, is_second, opening, IsNotEmpty}
use Rattle.join_parse.specs.Grammar.{IsGrammatical, sentence, applied, of_process, of_definition}
use Rattle.join_parse.specs.Grammar.{of_definitions, of_declarations, of_sites}
use Rattle.join_lex.specs.Versions.{version_word}
use Rattle.join_parse.specs.Printed.{spelling, printed, printed_behind}
use Rattle.join_parse.specs.inside.Printed.{spaced, Prints, between}
use Rattle.join_parse.proofs.LeftToPrint.{left_args, left_names, left_patterns, left_processes}
use Rattle.join_parse.proofs.LeftToPrint.{left_definitions}

-- one member further
module _ {A : Type 0} (left : Bool → List A → List Terminal → List Terminal)
    (one : A → List Terminal → List Terminal) (t : Terminal)
    (law : (first : Bool) (x : A) (xs : List A) (rest : List Terminal)
    → left first (x ∷ xs) rest ≡ between first t (one x (left false xs rest))) where
  pub member-prints :
      (whole : List Terminal → List Terminal) (old out mid new : List ℕ) (first : Bool)
      (xs : List A) (i : ℕ) (x : A)
      → i < length xs → x ≡ get_or xs i x
      → ((rest : List Terminal)
      → spaced old (whole rest) ≡ spaced out (left first (drop i xs) rest))
      → Prints out mid (between first t) → Prints mid new (one x)
      → (rest : List Terminal)
      → spaced old (whole rest) ≡ spaced new (left false (drop (i + 1) xs) rest)
  member-prints whole old out mid new first xs i x l e inv sep p rest =
      let d : drop i xs ≡ x ∷ drop (i + 1) xs =
      rw add-one (drop-cons xs i x l ∙ ap (λ y. y ∷ drop (suc i) xs) (sym e)) in
      inv rest ∙ ap (λ ys. spaced out (left first ys rest)) d
      ∙ ap (spaced out) (law first x (drop (i + 1) xs) rest)
      ∙ sep (one x (left false (drop (i + 1) xs) rest)) ∙ p (left false (drop (i + 1) xs) rest)

pub names-law : (first : Bool) (w : Word) (ws : List Word) (rest : List Terminal)
    → left_names first (w ∷ ws) rest
    ≡ between first (a_sign sign.Comma) (named w ∷ left_names false ws rest)
names-law true w ws rest = refl
names-law false w ws rest = refl

pub args-law : (first : Bool) (v : Arg) (vs : List Arg) (rest : List Terminal)
    → left_args first (v ∷ vs) rest
    ≡ between first (a_sign sign.Comma) (argument v ∷ left_args false vs rest)
args-law true v vs rest = refl
args-law false v vs rest = refl

pub patterns-law : (first : Bool) (p : PatTree) (ps : List PatTree) (rest : List Terminal)
    → left_patterns first (p ∷ ps) rest
    ≡ between first (a_sign sign.Bar) (applied p.on p.params (left_patterns false ps rest))
patterns-law true p ps rest = refl
patterns-law false p ps rest = refl

abbrev pub left_members : Bool → List Process → List Terminal → List Terminal
left_members first ps = left_processes first (processes ps)

pub members-law : (first : Bool) (p : Process) (ps : List Process) (rest : List Terminal)
    → left_members first (p ∷ ps) rest
    ≡ between first (a_sign sign.Bar) (of_process nowhere p (left_members false ps rest))
members-law true p ps rest = refl
members-law false p ps rest = refl

abbrev pub left_clauses : Bool → List Definition → List Terminal → List Terminal
left_clauses first ds = left_definitions first (definitions ds)

pub clauses-law : (first : Bool) (d : Definition) (ds : List Definition) (rest : List Terminal)
    → left_clauses first (d ∷ ds) rest
    ≡ between first (a_key key.And) (of_definition nowhere d (left_clauses false ds rest))
clauses-law true d [] rest = refl
clauses-law true d (e ∷ ds) rest = refl
clauses-law false d [] rest = refl
clauses-law false d (e ∷ ds) rest = refl

pub definitions-begin : (ds : List Definition) → (ds ≡ [] → ⊥)
    → (out : List ℕ) (rest : List Terminal)
    → spaced out (of_definitions nowhere (definitions ds) rest)
    ≡ spaced out (left_clauses true ds rest)
definitions-begin [] n out rest = absurd (n refl)
definitions-begin (d ∷ ds) n out rest = refl

-- The whole text, and a line feed.
behind : (text : List ℕ) (b : ℕ) (ts : List Terminal)
    → spaced (b ∷ text) ts ++ 10 ∷ [] ≡ (b ∷ text) ++ printed_behind ts
behind text b [] = refl
behind text b (t ∷ ts) =
    behind ((text ++ 32 ∷ []) ++ spelling t) b ts
    ∙ ap (λ x. b ∷ x) (append_assoc (text ++ 32 ∷ []) (spelling t) (printed_behind ts)
    ∙ append_assoc text (32 ∷ []) (spelling t ++ printed_behind ts))

nonempty : (text : List ℕ) → (text ≡ [] → ⊥) → (ts : List Terminal)
    → spaced text ts ++ 10 ∷ [] ≡ text ++ printed_behind ts
nonempty [] n ts = absurd (n refl)
nonempty (b ∷ text) n ts = behind text b ts

pub text-printed : (ts : List Terminal)
    → ((t : Terminal) (us : List Terminal) → ts ≡ t ∷ us → spelling t ≡ [] → ⊥)
    → spaced [] ts ++ 10 ∷ [] ≡ printed ts
text-printed [] n = refl
text-printed (t ∷ ts) n = nonempty (spelling t) (n t ts refl) ts

-- a sentence begins with a word
first-spelled : (t : TreeOfText) → IsGrammatical t → (x : Terminal) (us : List Terminal)
    → sentence nowhere t ≡ x ∷ us → spelling x ≡ [] → ⊥
first-spelled t g x us e s = either (is_second t.version) e
  where
    by : (seen : List SeenTree) (sites : List PlaceTree) → IsNotEmpty sites
        → of_declarations nowhere seen (of_sites nowhere sites []) ≡ x ∷ us → ⊥
    by [] [] i q = absurd i
    by [] (p ∷ ps) i q =
        let h : a_site p.opener ≡ x = cc in
        let r : spelling (a_site p.opener) ≡ [] = ap spelling h ∙ s in
        cc
    by (d ∷ ds) sites i q =
        let h : a_key key.Observe ≡ x = cc in
        let r : spelling (a_key key.Observe) ≡ [] = ap spelling h ∙ s in
        cc

    either : (v : Bool)
        → opening nowhere v (of_declarations nowhere t.seen (of_sites nowhere t.sites [])) ≡ x ∷ us
        → ⊥
    either true q =
        let h : a_name version_word 0 ≡ x = cc in
        let r : version_word ≡ [] = ap spelling h ∙ s in
        cc
    either false q = by t.seen t.sites g.some_site q

pub whole-text : (t : TreeOfText) → IsGrammatical t → (old zero one two new : List ℕ) → old ≡ []
    → Prints old zero (opening nowhere (is_second t.version))
    → Prints zero one (of_declarations nowhere t.seen) → Prints one two (of_sites nowhere t.sites)
    → new ≡ two ++ 10 ∷ [] → new ≡ printed (sentence nowhere t)
whole-text t g old zero one two new z o p q e =
    e
    ∙ ap (λ x. x ++ 10 ∷ []) (sym (o (of_declarations nowhere t.seen (of_sites nowhere t.sites []))
    ∙ p (of_sites nowhere t.sites []) ∙ q []))
    ∙ ap (λ x. spaced x (sentence nowhere t) ++ 10 ∷ []) z
    ∙ text-printed (sentence nowhere t) (first-spelled t g)
