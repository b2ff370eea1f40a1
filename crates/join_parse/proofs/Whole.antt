-- From the parts of the parser to its answer.
use Rattle.std.proofs.Common.{subst, ◌⊎◌, inl, inr, Bool, true, ◌≡◌, ℕ, ◌≤◌, ◌<◌, false, List, []}
use Rattle.std.proofs.Common.{◌∷◌, length, drop, refl, sym, ap, ◌∙◌, arith, length-drop, Result}
use Rattle.std.specs.Result.{IsErrAnd, IfErr}
use Rattle.std.proofs.lemmas.List.{length-map}
use Rattle.std.proofs.lemmas.Result.{err_from_is_err_and}
use Rattle.chem_model.specs.Each.{Each}
use Rattle.join_base.specs.declared.fault.Front.{Front}
use Rattle.join_base.specs.declared.fault.Front.TheVariants.{Refused, Memory}
use Rattle.join_base.specs.declared.fault.Kind.TheVariants.{Grammar1}
use Rattle.join_lex.specs.declared.token.Key.TheVariants as key
use Rattle.join_lex.specs.declared.token.Token.{Token}
use Rattle.join_lex.specs.Tokens.{TokensOfText, AreTokens}
use Rattle.join_lex.specs.Spelling.{Version, version_at, IsOfVersion}
use Rattle.join_lex.specs.Versions.{version_of, says_second}
use Rattle.join_parse.specs.declared.bounds.Bounds.{Bounds}
use Rattle.join_parse.specs.Terminals.{Terminal, kind_of, terminal_of, terminals}
use Rattle.join_parse.specs.declared.word.SeenTree.{SeenTree}
use Rattle.join_parse.specs.declared.tree.PlaceTree.{PlaceTree}
use Rattle.join_parse.specs.Grammar.{TreeOfText, nowhere, is_second, version_number, opening}
use Rattle.join_parse.specs.Grammar.{of_declarations, of_sites, IsNotEmpty, AreDeclarations}
use Rattle.join_parse.specs.Grammar.{AreSites, IsSentence, sentence}
use Rattle.join_parse.specs.Levels.{levels, most_levels, AreWithin}
use Rattle.join_parse.specs.Begins.{Symbol, AName, ASite, Body, Sites, Program, start}
use Rattle.join_parse.specs.inside.Automaton.{level, Stop, Whole, outcome}
use Rattle.join_parse.specs.Faults.{IsTreeOf, IsRefusedAs, IsTheTree, IsTheRefusal}
use Rattle.join_parse.specs.TreeFacts.{AreOfVersion, IsTree}
use Rattle.join_parse.specs.inside.Parsed.{terms, places, next_is_key, place_of, Runs, StopsSo}
use Rattle.join_parse.specs.inside.Parsed.{IsStop}
use Rattle.join_parse.proofs.Accepted.{run, run-sentence}
use Rattle.join_parse.proofs.Firsts.{kind-of-terminal, stop-fault, whole-low}
use Rattle.join_parse.proofs.Expansions.{program-site}
use Rattle.join_parse.proofs.Again.{bared, all_bared, bare-sentence}

-- the exit of a `?` of the whole
pub exit-stop : (b : Bounds) (ts : List Token) (at : ℕ)
    → outcome b ts (start b.second) ≡ outcome b (drop at ts) (Program ∷ []) → (P : ℕ → Type 0) → P 0
    → {T : Type 0} (r : Result T Front) (e : Front) → IsErrAnd r (λ y. y ≡ e)
    → StopsSo b P ts at (Program ∷ []) e → IfErr r (IsStop b ts)
exit-stop b ts at opened P zero r e q h =
    let p = err_from_is_err_and r q in
    rw (p.1, p.2) (stop e h)
  where
    stop : (e : Front) → StopsSo b P ts at (Program ∷ []) e → IsStop b ts e
    stop (Refused kind place) h = opened ∙ h [] zero
    stop Memory h = tt

-- the sites behind the declarations
pub program-runs : (b : Bounds) (ts : List Token) (at upto : ℕ)
    → Runs b (λ d. d ≤ b.levels) ts at (Program ∷ []) upto (Program ∷ [])
    → next_is_key key.Observe (drop upto ts) ≡ false → (stack : List Symbol) → level stack ≡ 0
    → outcome b (drop at ts) (Program ∷ stack)
    ≡ outcome b (drop upto ts) (ASite ∷ AName ∷ Body false ∷ Sites ∷ stack)
program-runs b ts at upto r e stack h =
    r stack (omega arith) ∙ program-site b (drop upto ts) stack e

nothing-left : (ts : List Token) (upto : ℕ) → length ts ≤ upto → drop upto ts ≡ []
nothing-left ts upto l = by (drop upto ts) refl
  where
    by : (us : List Token) → drop upto ts ≡ us → drop upto ts ≡ []
    by [] e = e
    by (u ∷ us) e = absurd (omega (arith, length-drop upto ts, ap length e))

-- a token behind the last site is refused
token-stop : (b : Bounds) (u : Token) (us : List Token)
    → outcome b (u ∷ us) [] ≡ Stop Grammar1 u.span.from
unfolding outcome
token-stop b u us = refl

pub behind-stop : (b : Bounds) (ts : List Token) (upto : ℕ) → upto < length ts
    → outcome b (drop upto ts) [] ≡ Stop Grammar1 (place_of b.end (drop upto ts))
behind-stop b ts upto l = by (drop upto ts) refl
  where
    by : (us : List Token) → drop upto ts ≡ us
        → outcome b (drop upto ts) [] ≡ Stop Grammar1 (place_of b.end (drop upto ts))
    by [] e = absurd (omega (arith, length-drop upto ts, ap length e))
    by (u ∷ us) e = rw e (token-stop b u us)

pub end-whole : (b : Bounds) (ts : List Token) (upto : ℕ) → length ts ≤ upto
    → outcome b (drop upto ts) [] ≡ Whole
unfolding outcome
end-whole b ts upto l = rw (nothing-left ts upto l) refl

-- what the whole reads is a tree within the limit
pub whole-tree : (b : Bounds) (ts : List Token) (t : TreeOfText)
    → outcome b ts (start b.second) ≡ Whole → is_second t.version ≡ b.second → IsSentence ts t
    → IsTreeOf b.second b.levels ts t
whole-tree b ts t e v s = record {
  version = v;
  is = s;
  low = whole-low b ts (start b.second) (levels t) e
      (ap (λ x. run b.second x (start b.second)) s.spelled
      ∙ run-sentence b.second s.at t v s.grammatical);
}

-- where the whole stops, the tokens are refused so
pub stop-refusal : (b : Bounds) (ts : List Token) (e : Front) → IsStop b ts e
    → IsRefusedAs b.second b.levels b.end ts e
stop-refusal b ts (Refused kind place) h = stop-fault b ts kind place h
stop-refusal b ts Memory h = tt

-- terminals of tokens are of their version
of-version : (version : Version) (ts : List Token)
    → Each (λ token. IsOfVersion version token.kind) ts → AreOfVersion version (terminals ts)
of-version version [] a = tt
of-version version (t ∷ ts) a = (
  subst (IsOfVersion version) (sym (kind-of-terminal t.kind t.span.from)) a.0,
  of-version version ts a.1,
)

-- places tell nothing of that
bared-version : (version : Version) (ts us : List Terminal) → all_bared ts ≡ all_bared us
    → AreOfVersion version ts → AreOfVersion version us
bared-version version [] [] e a = tt
bared-version version [] (u ∷ us) e a = cc
bared-version version (t ∷ ts) [] e a = cc
bared-version version (t ∷ ts) (u ∷ us) e a =
    let head : bared t ≡ bared u = cc in
    let tail : all_bared ts ≡ all_bared us = cc in
    let same : kind_of t ≡ kind_of u =
    sym (kind-of-terminal (kind_of t) 0) ∙ ap kind_of head ∙ kind-of-terminal (kind_of u) 0 in
    (subst (IsOfVersion version) same a.0, bared-version version ts us tail a.1)

pub version-number : (second : Bool) → is_second (version_number second) ≡ second
version-number true = refl
version-number false = refl

pub tree-kept : (tokens : TokensOfText) (t : TreeOfText) → AreTokens tokens
    → IsTheTree tokens.list t → IsTree t
tree-kept tokens t a i =
    let same : all_bared (terminals tokens.list) ≡ all_bared (sentence nowhere t) =
    ap all_bared i.is.spelled ∙ sym (bare-sentence i.is.at t) ∙ bare-sentence nowhere t in
    let words = of-version (version_of tokens.list) tokens.list a.words in
    record {
      grammatical = i.is.grammatical;
      shallow = subst (λ v. AreWithin (most_levels v) (levels t)) (sym i.version) i.low;
      words = subst (λ v. AreOfVersion (version_at v) (sentence nowhere t)) (sym i.version)
          (bared-version (version_of tokens.list) (terminals tokens.list) (sentence nowhere t) same
          words);
      few =
          let n : length (all_bared (terminals tokens.list))
          ≡ length (all_bared (sentence nowhere t)) = ap length same in
          omega (
            arith,
            a.few,
            length-map tokens.list (λ token. terminal_of token.kind token.span.from),
            length-map (terminals tokens.list) bared,
            length-map (sentence nowhere t) bared,
          );
    }

-- the whole is a sentence
pub whole-sentence :
    (ts : List Token) (second : Bool) (begin mid upto : ℕ) (seen : List SeenTree)
    (sites : List PlaceTree) → terms ts 0 ≡ opening (places ts) second (terms ts begin)
    → terms ts begin ≡ of_declarations (places ts) seen (terms ts mid)
    → terms ts mid ≡ of_sites (places ts) sites (terms ts upto) → length ts ≤ upto
    → AreDeclarations seen → IsNotEmpty sites → AreSites second sites
    → IsSentence ts (record { version = version_number second; seen = seen; sites = sites })
whole-sentence ts second begin mid upto seen sites o d s l a n b = record {
  grammatical = record {
    version = one-or-two second;
    seen = a;
    some_site = n;
    sites = subst (λ v. AreSites v sites) (sym (version-number second)) b;
  };
  at = places ts;
  spelled =
      o
      ∙ ap (opening (places ts) second) (d
      ∙ ap (of_declarations (places ts) seen)
      (s ∙ ap (of_sites (places ts) sites) (ap terminals (nothing-left ts upto l))))
      ∙ ap (λ v.
      opening (places ts) v (of_declarations (places ts) seen (of_sites (places ts) sites [])))
      (sym (version-number second));
}
  where
    one-or-two : (second : Bool) → (version_number second ≡ 1) ⊎ (version_number second ≡ 2)
    one-or-two true = inr refl
    one-or-two false = inl refl

-- the same in the version of the tokens
pub the-refusal : (b : Bounds) (t : TokensOfText) (e : Front) → b.second ≡ says_second t.list
    → b.levels ≡ most_levels b.second → b.end ≡ t.length → IsStop b t.list e → IsTheRefusal t e
the-refusal b t e s l n h =
    subst (λ v. IsRefusedAs v (most_levels v) t.length t.list e) s
    (subst (λ m. IsRefusedAs b.second (most_levels b.second) m t.list e) n
    (subst (λ m. IsRefusedAs b.second m b.end t.list e) l (stop-refusal b t.list e h)))

pub the-tree : (b : Bounds) (ts : List Token) (tree : TreeOfText) → b.second ≡ says_second ts
    → b.levels ≡ most_levels b.second → outcome b ts (start b.second) ≡ Whole
    → is_second tree.version ≡ b.second → IsSentence ts tree → IsTheTree ts tree
the-tree b ts tree s l e v i =
    subst (λ v. IsTreeOf v (most_levels v) ts tree) s
    (subst (λ m. IsTreeOf b.second m ts tree) l (whole-tree b ts tree e v i))
