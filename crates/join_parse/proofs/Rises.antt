-- A token opens one level at most.
use Rattle.std.proofs.Common.{subst, ◌≡◌, ℕ, ◌+◌, ◌≤◌, Bool, true, false, cond, List, [], ◌∷◌, ◌++◌}
use Rattle.std.proofs.Common.{arith, Some, refl, ltb, ◌&&◌, not}
use Rattle.join_lex.specs.declared.token.Key.TheVariants as key
use Rattle.join_lex.specs.declared.token.Sign.TheVariants as sign
use Rattle.join_lex.specs.declared.token.Kind2.{Kind2}
use Rattle.join_lex.specs.Versions.{is_version_word, is_two}
use Rattle.join_parse.specs.Begins.{Symbol, AName, AVersion, ATwo, ANumber, AnArg, Args, MoreArgs}
use Rattle.join_parse.specs.Begins.{AZero, ACount, ASite, AKey, ASign, CloseGroup, CloseSquare}
use Rattle.join_parse.specs.Begins.{EndDef, Program, Sites, Body, Defs, MoreDefs, DefRest}
use Rattle.join_parse.specs.Begins.{MorePatterns, Names, MoreNames, AProc, MoreProcs}
use Rattle.join_parse.specs.inside.Automaton.{is_key, is_sign, is_name, is_zero, is_count}
use Rattle.join_parse.specs.inside.Automaton.{is_number, Move}
use Rattle.join_parse.specs.inside.Automaton.{Push, Pass, No, step, moved, advance, opened, level}

pick : (P : List Symbol → Type 0) (b : Bool) (X : List Symbol) (rest : Move) (more : List Symbol)
    → P X → (rest ≡ Push more → P more) → cond b (Push X) rest ≡ Push more → P more
pick P true X rest more hit miss e = let same : X ≡ more = cc in subst P same hit
pick P false X rest more hit miss e = miss e

no-push : (more : List Symbol) (P : List Symbol → Type 0) → No ≡ Push more → P more
no-push more P e = cc

pass-push : (more : List Symbol) (P : List Symbol → Type 0) → Pass ≡ Push more → P more
pass-push more P e = cc

step-rises : (second : Bool) (s : Symbol) (k : Kind2) (more stack : List Symbol)
    → step second s k ≡ Push more → level (more ++ stack) ≤ level (s ∷ stack) + 1
step-rises second AName k more stack =
    let P : List Symbol → Type 0 = λ more. level (more ++ stack) ≤ level (AName ∷ stack) + 1 in
    pick P (is_name k) [] No more (omega arith) (no-push more P)
step-rises second AVersion k more stack =
    let P : List Symbol → Type 0 = λ more. level (more ++ stack) ≤ level (AVersion ∷ stack) + 1 in
    pick P (is_version_word k) [] No more (omega arith) (no-push more P)
step-rises second ATwo k more stack =
    let P : List Symbol → Type 0 = λ more. level (more ++ stack) ≤ level (ATwo ∷ stack) + 1 in
    pick P (is_two k) [] No more (omega arith) (no-push more P)
step-rises second ANumber k more stack =
    let P : List Symbol → Type 0 = λ more. level (more ++ stack) ≤ level (ANumber ∷ stack) + 1 in
    pick P (is_number k) [] No more (omega arith) (no-push more P)
step-rises second AnArg k more stack =
    let P : List Symbol → Type 0 = λ more. level (more ++ stack) ≤ level (AnArg ∷ stack) + 1 in
    pick P (is_name k) [] _ more (omega arith)
    (pick P (second && is_number k) [] No more (omega arith) (no-push more P))
step-rises second Args k more stack =
    let P : List Symbol → Type 0 = λ more. level (more ++ stack) ≤ level (Args ∷ stack) + 1 in
    pick P (is_sign sign.ParenRight k) [] _ more (omega arith) (pick P (is_name k) _ _ more
    (omega arith) (pick P (second && is_number k) _ No more (omega arith) (no-push more P)))
step-rises second (MoreArgs n) k more stack =
    let P : List Symbol → Type 0 =
    λ more. level (more ++ stack) ≤ level ((MoreArgs n) ∷ stack) + 1 in
    pick P (is_sign sign.ParenRight k) [] _ more (omega arith)
    (pick P (is_sign sign.Comma k && ltb n 255) _ No more (omega arith) (no-push more P))
step-rises second (AKey key.Add) k more stack =
    let P : List Symbol → Type 0 =
    λ more. level (more ++ stack) ≤ level ((AKey key.Add) ∷ stack) + 1 in
    pick P (is_key key.Add k) [] No more (omega arith) (no-push more P)
step-rises second (AKey key.Same) k more stack =
    let P : List Symbol → Type 0 =
    λ more. level (more ++ stack) ≤ level ((AKey key.Same) ∷ stack) + 1 in
    pick P (is_key key.Same k) [] No more (omega arith) (no-push more P)
step-rises second AZero k more stack =
    let P : List Symbol → Type 0 = λ more. level (more ++ stack) ≤ level (AZero ∷ stack) + 1 in
    pick P (is_zero k) [] No more (omega arith) (no-push more P)
step-rises second ACount k more stack =
    let P : List Symbol → Type 0 = λ more. level (more ++ stack) ≤ level (ACount ∷ stack) + 1 in
    pick P (is_count k) [] No more (omega arith) (no-push more P)
step-rises second ASite k more stack =
    let P : List Symbol → Type 0 = λ more. level (more ++ stack) ≤ level (ASite ∷ stack) + 1 in
    pick P (is_key key.Site k) [] No more (omega arith) (no-push more P)
step-rises second (AKey key.Observe) k more stack =
    let P : List Symbol → Type 0 =
    λ more. level (more ++ stack) ≤ level ((AKey key.Observe) ∷ stack) + 1 in
    pick P (is_key key.Observe k) [] No more (omega arith) (no-push more P)
step-rises second (AKey key.Site) k more stack =
    let P : List Symbol → Type 0 =
    λ more. level (more ++ stack) ≤ level ((AKey key.Site) ∷ stack) + 1 in
    no-push more P
step-rises second (AKey key.Def) k more stack =
    let P : List Symbol → Type 0 =
    λ more. level (more ++ stack) ≤ level ((AKey key.Def) ∷ stack) + 1 in
    pick P (is_key key.Def k) [] No more (omega arith) (no-push more P)
step-rises second (AKey key.Inside) k more stack =
    let P : List Symbol → Type 0 =
    λ more. level (more ++ stack) ≤ level ((AKey key.Inside) ∷ stack) + 1 in
    pick P (is_key key.Inside k) [] No more (omega arith) (no-push more P)
step-rises second (AKey key.And) k more stack =
    let P : List Symbol → Type 0 =
    λ more. level (more ++ stack) ≤ level ((AKey key.And) ∷ stack) + 1 in
    pick P (is_key key.And k) [] No more (omega arith) (no-push more P)
step-rises second (AKey key.Go) k more stack =
    let P : List Symbol → Type 0 =
    λ more. level (more ++ stack) ≤ level ((AKey key.Go) ∷ stack) + 1 in
    pick P (is_key key.Go k) [] No more (omega arith) (no-push more P)
step-rises second (AKey key.Fail) k more stack =
    let P : List Symbol → Type 0 =
    λ more. level (more ++ stack) ≤ level ((AKey key.Fail) ∷ stack) + 1 in
    pick P (is_key key.Fail k) [] No more (omega arith) (no-push more P)
step-rises second (AKey key.Halt) k more stack =
    let P : List Symbol → Type 0 =
    λ more. level (more ++ stack) ≤ level ((AKey key.Halt) ∷ stack) + 1 in
    pick P (is_key key.Halt k) [] No more (omega arith) (no-push more P)
step-rises second (AKey key.Void) k more stack =
    let P : List Symbol → Type 0 =
    λ more. level (more ++ stack) ≤ level ((AKey key.Void) ∷ stack) + 1 in
    pick P (is_key key.Void k) [] No more (omega arith) (no-push more P)
step-rises second (ASign x) k more stack =
    let P : List Symbol → Type 0 = λ more. level (more ++ stack) ≤ level ((ASign x) ∷ stack) + 1 in
    pick P (is_sign x k) [] No more (omega arith) (no-push more P)
step-rises second CloseGroup k more stack =
    let P : List Symbol → Type 0 = λ more. level (more ++ stack) ≤ level (CloseGroup ∷ stack) + 1 in
    pick P (is_sign sign.ParenRight k) [] No more (omega arith) (no-push more P)
step-rises second CloseSquare k more stack =
    let P : List Symbol → Type 0 =
    λ more. level (more ++ stack) ≤ level (CloseSquare ∷ stack) + 1 in
    pick P (is_sign sign.SquareRight k) [] No more (omega arith) (no-push more P)
step-rises second EndDef k more stack =
    let P : List Symbol → Type 0 = λ more. level (more ++ stack) ≤ level (EndDef ∷ stack) + 1 in
    pass-push more P
step-rises second Program k more stack =
    let P : List Symbol → Type 0 = λ more. level (more ++ stack) ≤ level (Program ∷ stack) + 1 in
    pick P (is_key key.Observe k) _ _ more (omega arith)
    (pick P (is_key key.Site k) _ No more (omega arith) (no-push more P))
step-rises second Sites k more stack =
    let P : List Symbol → Type 0 = λ more. level (more ++ stack) ≤ level (Sites ∷ stack) + 1 in
    pick P (is_key key.Site k) _ Pass more (omega arith) (pass-push more P)
step-rises second (Body within) k more stack =
    let P : List Symbol → Type 0 =
    λ more. level (more ++ stack) ≤ level ((Body within) ∷ stack) + 1 in
    pick P (is_sign sign.SquareLeft k) _ No more (omega arith) (no-push more P)
step-rises second (Defs within) k more stack =
    let P : List Symbol → Type 0 =
    λ more. level (more ++ stack) ≤ level ((Defs within) ∷ stack) + 1 in
    pick P (is_key key.Void k) [] _ more (omega arith)
    (pick P (is_name k) _ No more (omega arith) (no-push more P))
step-rises second (MoreDefs within) k more stack =
    let P : List Symbol → Type 0 =
    λ more. level (more ++ stack) ≤ level ((MoreDefs within) ∷ stack) + 1 in
    pick P (is_key key.And k) _ Pass more (omega arith) (pass-push more P)
step-rises second (DefRest within) k more stack =
    let P : List Symbol → Type 0 =
    λ more. level (more ++ stack) ≤ level ((DefRest within) ∷ stack) + 1 in
    pick P (is_sign sign.ParenLeft k) _ _ more (omega arith)
    (pick P (not within && is_sign sign.SquareLeft k) _ No more (omega arith) (no-push more P))
step-rises second MorePatterns k more stack =
    let P : List Symbol → Type 0 =
    λ more. level (more ++ stack) ≤ level (MorePatterns ∷ stack) + 1 in
    pick P (is_sign sign.Arrow k) [] _ more (omega arith)
    (pick P (is_sign sign.Bar k) _ No more (omega arith) (no-push more P))
step-rises second Names k more stack =
    let P : List Symbol → Type 0 = λ more. level (more ++ stack) ≤ level (Names ∷ stack) + 1 in
    pick P (is_sign sign.ParenRight k) [] _ more (omega arith)
    (pick P (is_name k) _ No more (omega arith) (no-push more P))
step-rises second (MoreNames n) k more stack =
    let P : List Symbol → Type 0 =
    λ more. level (more ++ stack) ≤ level ((MoreNames n) ∷ stack) + 1 in
    pick P (is_sign sign.ParenRight k) [] _ more (omega arith)
    (pick P (is_sign sign.Comma k && ltb n 255) _ No more (omega arith) (no-push more P))
step-rises second AProc k more stack =
    let P : List Symbol → Type 0 = λ more. level (more ++ stack) ≤ level stack + 1 in
    pick P (is_zero k) _ _ more (omega arith)
    (pick P (is_name k) _ _ more (omega arith) (pick P (is_sign sign.ParenLeft k) _ _ more
    (omega arith) (pick P (is_key key.Halt k) _ _ more (omega arith)
    (pick P (is_key key.Go k) _ _ more (omega arith)
    (pick P (is_key key.Fail k) _ _ more (omega arith) (pick P (second && is_key key.Add k) _ _ more
    (omega arith) (pick P (second && is_key key.Same k) _ _ more (omega arith)
    (pick P (is_key key.Def k) _ No more (omega arith) (no-push more P)))))))))
step-rises second MoreProcs k more stack =
    let P : List Symbol → Type 0 = λ more. level (more ++ stack) ≤ level (MoreProcs ∷ stack) + 1 in
    pick P (is_sign sign.Bar k) _ Pass more (omega arith) (pass-push more P)

opened-up : (s : Symbol) (d : ℕ) → d ≤ opened s d
opened-up CloseGroup d = omega arith
opened-up CloseSquare d = omega arith
opened-up EndDef d = omega arith
opened-up s d = omega arith

pub advance-rises : (second : Bool) (stack after : List Symbol) (k : Kind2)
    → advance second stack k ≡ Some after → level after ≤ level stack + 1
advance-rises second [] after k e = cc
advance-rises second (s ∷ stack) after k e =
    by (λ q. advance-rises second stack after k q) (step second s k) refl e
  where
    by : (advance second stack k ≡ Some after → level after ≤ level stack + 1) → (m : Move)
        → step second s k ≡ m → moved m stack (advance second stack k) ≡ Some after
        → level after ≤ level (s ∷ stack) + 1
    by below (Push more) q e =
        let same : more ++ stack ≡ after = cc in
        subst (λ x. level x ≤ level (s ∷ stack) + 1) same (step-rises second s k more stack q)
    by below Pass q e = let h = below e in let u = opened-up s (level stack) in omega arith
    by below No q e = cc
