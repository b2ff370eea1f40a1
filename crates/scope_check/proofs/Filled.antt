-- A place that was kept is filled.
use Rattle.std.proofs.Common.{◌≡◌, ℕ, zero, suc, ◌<◌, List, [], ◌∷◌, ◌++◌, length, get_or, take}
use Rattle.std.proofs.Common.{set, refl, sym, ap, ◌∙◌, arith, length-append, append_assoc}
use Rattle.std.specs.List.{swap}
use Rattle.join_parse.specs.Source.{Process, Def, Definitions, Processes}
use Rattle.scope_check.specs.inside.Twin.{Table}
use Rattle.scope_check.specs.inside.Naming.{walk, walk_all, walk_level}
use Rattle.std.proofs.lemmas.List.Edits.{swap_is}

keep : {X : Type 0} (xs : List X) (s v : X)
    → take (length xs) (set (xs ++ s ∷ []) (length xs) v) ≡ xs
keep [] s v = refl
keep (x ∷ xs) s v = ap (λ l. x ∷ l) (keep xs s v)

set-keep : {X : Type 0} (xs : List X) (i : ℕ) (s v : X) → i < length xs
    → take (length xs) (set (set (xs ++ s ∷ []) i s) (length xs) v) ≡ set xs i s
set-keep [] i s v h = absurd (omega arith)
set-keep (x ∷ xs) zero s v h = ap (λ l. s ∷ l) (keep xs s v)
set-keep (x ∷ xs) (suc i) s v h = ap (λ l. x ∷ l) (set-keep xs i s v (omega arith))

last-is : {X : Type 0} (xs : List X) (s d : X) → get_or (xs ++ s ∷ []) (length xs) d ≡ s
last-is [] s d = refl
last-is (x ∷ xs) s d = last-is xs s d

pub filled : {X : Type 0} (xs : List X) (i j n : ℕ) (s : X) (ys zs : List X) → i < length xs
    → j ≡ length xs → n ≡ length xs
    → ys ≡ swap (xs ++ s ∷ []) i j → zs ≡ take n ys → zs ≡ set xs i s
filled xs i j n s ys zs h e f y z =
    z ∙ (λ k. take (f k) (y k))
    ∙ ap (λ m. take (length xs) (swap (xs ++ s ∷ []) i m)) e
    ∙ ap (λ l. take (length xs) l) (sym (swap_is (xs ++ s ∷ []) i (length xs) s
    (omega (arith, length-append xs (s ∷ []))) (omega (arith, length-append xs (s ∷ [])))))
    ∙ ap
    (λ x. take (length xs) (set (set (xs ++ s ∷ []) i x) (length xs) (get_or (xs ++ s ∷ []) i s)))
    (last-is xs s s)
    ∙ set-keep xs i s (get_or (xs ++ s ∷ []) i s) h

set-middle : {X : Type 0} (front : List X) (x y : X) (back : List X)
    → set (front ++ x ∷ back) (length front) y ≡ front ++ y ∷ back
set-middle [] x y back = refl
set-middle (f ∷ front) x y back = ap (λ l. f ∷ l) (set-middle front x y back)

-- the tables after a block: those before, its own, those within, and those of its process
pub block-tables : {X : Type 0} (before inner more : List X) (slot : ℕ) (kept own : X)
    (a b c d : List X)
    → slot ≡ length before → a ≡ before ++ kept ∷ [] → b ≡ a ++ inner → c ≡ set b slot own
    → d ≡ c ++ more
    → d ≡ before ++ (own ∷ (inner ++ more))
block-tables before inner more slot kept own a b c d e p q r s =
    s
    ∙ ap (λ l. l ++ more)
    (r ∙ (λ i. set (q i) (e i) own) ∙ ap (λ l. set (l ++ inner) (length before) own) p
    ∙ ap (λ l. set l (length before) own) (append_assoc before (kept ∷ []) inner)
    ∙ set-middle before kept own inner)
    ∙ append_assoc before (own ∷ inner) more

pub def-tables :
    (next : List (List ℕ)) (slot : ℕ) (nl : List (List ℕ)) (p : Process) (ds : Definitions)
    (ps : Processes) (kept own0 own : Table) (before a b c d : List Table)
    → Def ds ps ≡ p → slot ≡ length before → a ≡ before ++ kept ∷ [] → own0 ≡ []
    → b ≡ a ++ (walk_level 0 1 next own0 ds).tables
    → own ≡ (walk_level 0 1 next own0 ds).own → c ≡ set b slot own
    → nl ≡ (walk_level 0 1 next own0 ds).spell → d ≡ c ++ (walk_all nl ps).tables
    → d ≡ before ++ (walk next p).tables
def-tables next slot nl p ds ps kept own0 own before a b c d is e pa new pb po pc pn pd =
    let l = walk_level 0 1 next [] ds in
    block-tables before l.tables (walk_all l.spell ps).tables slot kept l.own a b c d e pa
    (pb ∙ ap (λ o. a ++ (walk_level 0 1 next o ds).tables) new)
    (pc ∙ ap (λ o. set b slot o) (po ∙ ap (λ o. (walk_level 0 1 next o ds).own) new))
    (pd
    ∙ ap (λ n. c ++ (walk_all n ps).tables) (pn ∙ ap (λ o. (walk_level 0 1 next o ds).spell) new))
    ∙ ap (λ q. before ++ (walk next q).tables) is

-- and the spellings then
pub def-spell :
    (next nl out : List (List ℕ)) (p : Process) (ds : Definitions) (ps : Processes) (own0 : Table)
    → Def ds ps ≡ p → own0 ≡ [] → nl ≡ (walk_level 0 1 next own0 ds).spell
    → out ≡ (walk_all nl ps).spell → out ≡ (walk next p).spell
def-spell next nl out p ds ps own0 is new pn po =
    po ∙ ap (λ n. (walk_all n ps).spell) (pn ∙ ap (λ o. (walk_level 0 1 next o ds).spell) new)
    ∙ ap (λ q. (walk next q).spell) is
