-- What the code answers of a line.
use Rattle.std.proofs.Common.{◌≡◌, ℕ, zero, suc, ◌-◌, take, ◌≤◌, ◌<◌, ◌&&◌, Bool, true, false, cond}
use Rattle.std.proofs.Common.{List, [], ◌∷◌, Option, Some, None, Result, Ok, Err, length, drop}
use Rattle.std.proofs.Common.{get_or, refl, sym, ap, ◌∙◌, subst, arith, codes, inl, inr, ◌==◌}
use Rattle.std.proofs.Common.{eqb-true, append-nil, IfOk}
use Rattle.std.specs.Str.{bytes_eq}
use Rattle.join_base.specs.declared.fault.Front.{Front}
use Rattle.join_base.specs.declared.fault.Front.TheVariants as front
use Rattle.join_lex.specs.declared.token.Kind2.{Kind2}
use Rattle.join_lex.specs.declared.token.Kind2.TheVariants as kind
use Rattle.join_lex.specs.declared.token.Token.{Token}
use Rattle.join_lex.specs.Tokens.{TokensOfText}
use Rattle.join_lex.specs.Lexical.{AreTokensOf, AnswersTokens}
use Rattle.sort_lines.specs.declared.content.Content.{Content}
use Rattle.sort_lines.specs.Contents.{kinds}
use Rattle.sort_lines.specs.inside.Reading.{text_of, is_left, no_more, args_in, declares_by}
use Rattle.sort_lines.specs.inside.Reading.{uses_by, content_by, content_in, is_named, HasRead}
use Rattle.sort_lines.specs.inside.Reading.{uses_of, uses_in, declares_of, if_none, three_in}
use Rattle.sort_lines.specs.inside.Reading.{IsSaid}
use Rattle.sort_lines.proofs.Reading.{content_is_read, are_tokens}

pub not_read : (old new : List (List ℕ)) (o : Option (List (List ℕ))) → HasRead old o false new
    → o ≡ None
not_read old new None h = refl
not_read old new (Some ns) h = let clash = h.0 in cc

pub all_read : (new : List (List ℕ)) (o : Option (List (List ℕ))) → HasRead [] o true new
    → o ≡ Some new
all_read new None h = cc
all_read new (Some ns) h = ap Some (sym h.1)

uses_same : (o : Option (List ℕ)) (b : List ℕ) (ks : List Kind2)
    → if_none ks (uses_of (Some b) o) ≡ uses_by b o ks
uses_same None b [] = refl
uses_same None b (k ∷ ks) = refl
uses_same (Some n) b [] = refl
uses_same (Some n) b (k ∷ ks) = refl

nothing_used : (o : Option (List ℕ)) (ks : List Kind2) → if_none ks (uses_of None o) ≡ None
nothing_used o [] = refl
nothing_used o (k ∷ ks) = refl

three_by : (w : List ℕ) (o : Option (List ℕ)) (c : Kind2) (ks : List Kind2) (u v l : Bool)
    → bytes_eq w (codes "use") ≡ u → bytes_eq w (codes "sort") ≡ v → is_left c ≡ l
    → cond u (if_none ks (uses_of o (text_of c)))
    (cond v (cond l (declares_of o (args_in ks)) None) None) ≡ content_by (Some w) o c ks
three_by w None c ks true v l e f g = nothing_used (text_of c) ks
three_by w None c ks false true true e f g = refl
three_by w None c ks false true false e f g = refl
three_by w None c ks false false l e f g = refl
three_by w (Some b) c ks true v l e f g = uses_same (text_of c) b ks
    ∙ ap (λ u. cond u (uses_by b (text_of c) ks)
    (cond (bytes_eq w (codes "sort") && is_left c) (declares_by b (args_in ks)) None)) (sym e)
three_by w (Some b) c ks false true true e f g = (λ i. cond (sym e i) (uses_by b (text_of c) ks)
    (cond (sym f i && sym g i) (declares_by b (args_in ks)) None))
three_by w (Some b) c ks false true false e f g = (λ i. cond (sym e i) (uses_by b (text_of c) ks)
    (cond (sym f i && sym g i) (declares_by b (args_in ks)) None))
three_by w (Some b) c ks false false l e f g = (λ i. cond (sym e i) (uses_by b (text_of c) ks)
    (cond (sym f i && is_left c) (declares_by b (args_in ks)) None))

pub three_are : (a b c : Kind2) (ks : List Kind2) → three_in a b c ks ≡ content_in (a ∷ b ∷ c ∷ ks)
three_are (kind.Ident w) b c ks = three_by w (text_of b) c ks (bytes_eq w (codes "use"))
    (bytes_eq w (codes "sort")) (is_left c) refl refl refl
three_are (kind.Number n) b c ks = refl
three_are (kind.Key k) b c ks = refl
three_are (kind.Sign s) b c ks = refl

-- tokens of which there are three or more
pub few_say : (ts : List Token) → length ts < 3 → None ≡ content_in (kinds ts)
few_say [] h = refl
few_say (a ∷ []) h = refl
few_say (a ∷ b ∷ []) h = refl
few_say (a ∷ b ∷ c ∷ ts) h = absurd (omega arith)

pub three_say : (ts : List Token) (a b c : Token) → 3 ≤ length ts → a ≡ get_or ts 0 a
    → b ≡ get_or ts 1 b → c ≡ get_or ts 2 c
    → three_in a.kind b.kind c.kind (kinds (drop 3 ts)) ≡ content_in (kinds ts)
three_say [] a b c h e f g = absurd (omega arith)
three_say (x ∷ []) a b c h e f g = absurd (omega arith)
three_say (x ∷ y ∷ []) a b c h e f g = absurd (omega arith)
three_say (x ∷ y ∷ z ∷ ts) a b c h e f g =
    (λ i. three_in (e i).kind (f i).kind (g i).kind (kinds ts))
    ∙ three_are x.kind y.kind z.kind (kinds ts)

-- ---- a line

pub said_of : (text : List ℕ) (t : TokensOfText) (o : Option Content) → AreTokensOf t text
    → o ≡ content_in (kinds t.list) → IsSaid text o
said_of text t None are q =
    λ c r. (let clash : None ≡ Some c = q ∙ (content_is_read text t are c).0 r in cc)
said_of text t (Some c) are q = (
  (content_is_read text t are c).1 (sym q),
  λ d r. (let both : Some c ≡ Some d = q ∙ (content_is_read text t are d).0 r in
      let is : c ≡ d = cc in sym is),
)

pub nothing_said : (text : List ℕ) (e : Front) → length text ≤ 1048576 → (e ≡ front.Memory → ⊥)
    → AnswersTokens text (Err e) → IsSaid text None
nothing_said text e short other answers = λ c r. (
    elim (answers (record { list = r.tokens; length = length text }) (are_tokens text c short r)) [
      | inl q ↦ absurd (let clash = q in cc)
      | inr q ↦ other (let is : e ≡ front.Memory = cc in is)
    ]
    )

-- ---- whether tokens are left

not_zero : (t : Token) (ts : List Token) → length (t ∷ ts) == 0 ≡ false
not_zero t ts = go (length (t ∷ ts) == 0) refl
  where
    go : (u : Bool) → length (t ∷ ts) == 0 ≡ u → length (t ∷ ts) == 0 ≡ false
    go true c =
        let none : length (t ∷ ts) ≡ 0 = eqb-true (length (t ∷ ts)) 0 c in
        absurd (omega (arith, none))
    go false c = c

pub listed_right :
    (old : List (List ℕ)) (ts : List Token) (r : Bool) (o : Option (List (List ℕ))) (b : Bool)
    → r ≡ true → b ≡ (length ts == 0) → HasRead old (cond r (no_more (kinds ts)) o) b old
listed_right old ts r o b e f =
    subst (λ u. HasRead old (cond u (no_more (kinds ts)) o) b old) (sym e) (go ts f)
  where
    go : (us : List Token) → b ≡ (length us == 0) → HasRead old (no_more (kinds us)) b old
    go [] g = (g, sym (append-nil old))
    go (u ∷ us) g = g ∙ not_zero u us

pub three_none : (a b c : Kind2) (ts : List Token) → is_named a (codes "use") ≡ true
    → false ≡ (length ts == 0) → None ≡ three_in a b c (kinds ts)
three_none a b c ts e f =
    sym (ap (λ u. cond u (if_none (kinds ts) (uses_in b c)) (cond (is_named a (codes "sort"))
    (cond (is_left c) (declares_of (text_of b) (args_in (kinds ts))) None) None)) e ∙ go ts f)
  where
    go : (us : List Token) → false ≡ (length us == 0) → if_none (kinds us) (uses_in b c) ≡ None
    go [] g = let clash : false ≡ true = g in cc
    go (u ∷ us) g = refl

pub if_ok : {X Y : Type 0} (P Q : X → Type 0) (r : Result X Y) → ((x : X) → P x → Q x) → IfOk r P
    → IfOk r Q
if_ok P Q (Ok x) f h = f x h
if_ok P Q (Err y) f h = h

take_all : (xs : List Token) (k : ℕ) → length xs ≤ k → take k xs ≡ xs
take_all [] zero h = refl
take_all [] (suc k) h = refl
take_all (x ∷ xs) zero h = absurd (omega arith)
take_all (x ∷ xs) (suc k) h = ap (λ l. x ∷ l) (take_all xs k (omega arith))

pub three_rest : (ts : List Token) (a b c : Token) → 3 ≤ length ts → a ≡ get_or ts 0 a
    → b ≡ get_or ts 1 b → c ≡ get_or ts 2 c
    → three_in a.kind b.kind c.kind (kinds (take (length ts - 3) (drop 3 ts)))
    ≡ content_in (kinds ts)
three_rest ts a b c h e f g = ap (λ us. three_in a.kind b.kind c.kind (kinds us))
    (take_all (drop 3 ts) (length ts - 3) (short ts)) ∙ three_say ts a b c h e f g
  where
    short : (us : List Token) → length (drop 3 us) ≤ length us - 3
    short [] = omega arith
    short (x ∷ []) = omega arith
    short (x ∷ y ∷ []) = omega arith
    short (x ∷ y ∷ z ∷ us) = omega arith
