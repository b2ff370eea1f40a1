-- The laws of the grammar: one outcome, completion of what begins, and prefixes of sentences.
use Rattle.std.proofs.Common.{Bool, ◌≡◌, ◌⊎◌, inl, inr, Result, Ok, Err, ℕ, suc, Option, Some, None}
use Rattle.std.proofs.Common.{List, [], ◌∷◌, ◌++◌, length, take, refl, sym, ap, ◌∙◌}
use Rattle.std.specs.Result.{IfOk, IfErr}
use Rattle.join_lex.specs.Lexical.{IsOrMemory}
use Rattle.join_base.specs.declared.fault.Kind.{Kind}
use Rattle.join_base.specs.declared.fault.Front.{Front}
use Rattle.join_base.specs.declared.fault.Front.TheVariants.{Refused, Memory}
use Rattle.join_lex.specs.declared.token.Token.{Token}
use Rattle.join_parse.specs.declared.bounds.Bounds.{Bounds}
use Rattle.join_parse.specs.Terminals.{Terminal, kind_of, terminal_of, terminals}
use Rattle.join_parse.specs.Grammar.{TreeOfText, Places, is_second, IsGrammatical, sentence}
use Rattle.join_parse.specs.Begins.{Symbol, start, Leads, Begins, completion}
use Rattle.join_parse.specs.inside.Automaton.{Outcome, Whole, Stop, advance, level, outcome}
use Rattle.join_parse.specs.Levels.{levels}
use Rattle.join_parse.proofs.Accepted.{followed, run, run-sentence}
use Rattle.join_parse.specs.Faults.{IsTreeOf, IsRefusedAs, HasOneOutcome}
use Rattle.join_parse.proofs.Firsts.{tree-outcome, fault-stop, stop-fault, whole-tree}
use Rattle.join_parse.proofs.Firsts.{prefix-begins}
use Rattle.join_parse.proofs.Completions.{leads-sentence}
use Rattle.join_parse.proofs.Unique.{one-sentence, same-start}

pub one_outcome : (second : Bool) (limit end : ℕ) (tokens : List Token)
    → HasOneOutcome second limit end tokens
one_outcome second limit end tokens = record {
  some = by (outcome b tokens (start second)) refl;
  one_tree =
      λ t u i j. one-sentence i.at j.at t u i.grammatical j.grammatical (sym i.spelled ∙ j.spelled);
  tree_or_fault = λ t kind place i f.
      let h : Whole ≡ Stop kind place =
      sym (tree-outcome b tokens t i) ∙ fault-stop b tokens kind place f in
      absurd (apart kind place h);
  one_fault = λ kind kind' place place' f g.
      let h : Stop kind place ≡ Stop kind' place' =
      sym (fault-stop b tokens kind place f) ∙ fault-stop b tokens kind' place' g in
      (cc, cc);
}
  where
    b : Bounds
    b = record { second = second; levels = limit; end = end }

    by : (o : Outcome) → outcome b tokens (start second) ≡ o
        → ((t : TreeOfText) × IsTreeOf second limit tokens t)
        ⊎ ((kind : Kind) × (place : ℕ) × IsRefusedAs second limit end tokens (Refused kind place))
    by Whole e = inl (whole-tree b tokens e)
    by (Stop kind place) e = inr (kind, place, stop-fault b tokens kind place e)

    apart : (kind : Kind) (place : ℕ) → Whole ≡ Stop kind place → ⊥
    apart kind place e = cc

pub completed : (second : Bool) (tokens : List Token) (after : List Symbol)
    → Leads second (start second) (terminals tokens) after
    → (tree : TreeOfText) × (at : Places) × (is_second tree.version ≡ second) × IsGrammatical tree
    × (sentence at tree ≡ terminals tokens ++ completion after)
completed second tokens after l = leads-sentence second (terminals tokens) after l

pub prefixes : (tree : TreeOfText) (tokens : List Token) (more : List Terminal) (at : Places)
    → IsGrammatical tree → sentence at tree ≡ terminals tokens ++ more
    → Begins (is_second tree.version) tokens
prefixes tree tokens more at g e =
    prefix-begins (is_second tree.version) at tree tokens more refl g e

-- where the answer is sound, it is exact but for want of memory
pub reads : (second : Bool) (limit end : ℕ) (tokens : List Token) (result : Result TreeOfText Front)
    → IfOk result (λ t. IsTreeOf second limit tokens t)
    → IfErr result (IsRefusedAs second limit end tokens) → (t : TreeOfText)
    → IsTreeOf second limit tokens t → IsOrMemory (Ok t) result
reads second limit end tokens (Ok u) i f t j =
    inl (ap Ok ((one_outcome second limit end tokens).one_tree u t i.is j.is))
reads second limit end tokens (Err (Refused kind place)) i f t j =
    absurd ((one_outcome second limit end tokens).tree_or_fault t kind place j f)
reads second limit end tokens (Err Memory) i f t j = inr refl

pub refuses :
    (second : Bool) (limit end : ℕ) (tokens : List Token) (result : Result TreeOfText Front)
    → IfOk result (λ t. IsTreeOf second limit tokens t)
    → IfErr result (IsRefusedAs second limit end tokens) → (kind : Kind) (place : ℕ)
    → IsRefusedAs second limit end tokens (Refused kind place)
    → IsOrMemory (Err (Refused kind place)) result
refuses second limit end tokens (Ok u) i f kind place g =
    absurd ((one_outcome second limit end tokens).tree_or_fault u kind place i g)
refuses second limit end tokens (Err (Refused k p)) i f kind place g =
    let same = (one_outcome second limit end tokens).one_fault k kind p place f g in
    inl (λ j. Err (Refused (same.0 j) (same.1 j)))
refuses second limit end tokens (Err Memory) i f kind place g = inr refl

-- along tokens the levels are those of the automaton, whatever comes behind them
same-along :
    (second : Bool) (tokens : List Token) (more elsewhere : List Terminal) (stack : List Symbol)
    → take (length tokens) (run second (terminals tokens ++ more) stack).0
    ≡ take (length tokens) (run second (terminals tokens ++ elsewhere) stack).0
same-along second [] more elsewhere stack = refl
same-along second (t ∷ tokens) more elsewhere stack =
    by (λ after. same-along second tokens more elsewhere after)
    (advance second stack (kind_of (terminal_of t.kind t.span.from)))
  where
    by :
        ((after : List Symbol)
        → take (length tokens) (run second (terminals tokens ++ more) after).0
        ≡ take (length tokens) (run second (terminals tokens ++ elsewhere) after).0)
        → (o : Option (List Symbol))
        → take (suc (length tokens)) (followed (run second (terminals tokens ++ more)) o).0
        ≡ take (suc (length tokens)) (followed (run second (terminals tokens ++ elsewhere)) o).0
    by later None = refl
    by later (Some after) = ap (λ ls. level after ∷ ls) (later after)

along :
    (one other : TreeOfText) (tokens : List Token) (more elsewhere : List Terminal)
    (at at' : Places) → is_second other.version ≡ is_second one.version → IsGrammatical one
    → IsGrammatical other → sentence at one ≡ terminals tokens ++ more
    → sentence at' other ≡ terminals tokens ++ elsewhere
    → take (length tokens) (levels one) ≡ take (length tokens) (levels other)
along one other tokens more elsewhere at at' v g h e f =
    let second = is_second one.version in
    let a : levels one ≡ (run second (terminals tokens ++ more) (start second)).0 =
    ap (λ r. r.0)
    (sym (run-sentence second at one refl g) ∙ ap (λ x. run second x (start second)) e) in
    let b : levels other ≡ (run second (terminals tokens ++ elsewhere) (start second)).0 =
    ap (λ r. r.0)
    (sym (run-sentence second at' other v h) ∙ ap (λ x. run second x (start second)) f) in
    ap (take (length tokens)) a ∙ same-along second tokens more elsewhere (start second)
    ∙ sym (ap (take (length tokens)) b)

pub one_level :
    (one other : TreeOfText) (tokens : List Token) (more elsewhere : List Terminal)
    (at at' : Places) → IsGrammatical one → IsGrammatical other
    → sentence at one ≡ terminals tokens ++ more
    → sentence at' other ≡ terminals tokens ++ elsewhere
    → take (length tokens) (levels one) ≡ take (length tokens) (levels other)
one_level one other [] more elsewhere at at' g h e f = refl
one_level one other (t ∷ tokens) more elsewhere at at' g h e f =
    along one other (t ∷ tokens) more elsewhere at at'
    (sym (same-start at at' one other _ _ _ g h e f)) g h e f
