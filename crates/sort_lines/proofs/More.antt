-- Reading the names of a list, two tokens at a step.
use Rattle.std.proofs.Common.{◌≡◌, ℕ, suc, ◌+◌, ◌≤◌, ◌<◌, Bool, true, false, cond, List, [], ◌∷◌}
use Rattle.std.proofs.Common.{◌++◌, Option, Some, None, length, drop, get_or, refl, sym, ap, ◌∙◌}
use Rattle.std.proofs.Common.{subst, arith, append_assoc, append-nil}
use Rattle.join_lex.specs.declared.token.Kind2.{Kind2}
use Rattle.join_lex.specs.declared.token.Token.{Token}
use Rattle.sort_lines.specs.Contents.{kinds}
use Rattle.sort_lines.specs.inside.Reading.{text_of, is_right, is_comma, with_name, more_in}
use Rattle.sort_lines.specs.inside.Reading.{pair_in, HasRead}
use Rattle.sort_lines.proofs.Drops.{drop_at, drop_all}

two : (ts : List Token) (at : ℕ) (k n : Token) → at + 1 < length ts → k ≡ get_or ts at k
    → n ≡ get_or ts (at + 1) n → drop at ts ≡ k ∷ n ∷ drop (at + 2) ts
two ts at k n h e f =
    let next : suc at ≡ at + 1 = omega arith in
    let last : suc (at + 1) ≡ at + 2 = omega arith in
    drop_at ts at k (omega (arith, h)) e
    ∙ ap (λ l. k ∷ l) (subst (λ j. drop j ts ≡ n ∷ drop (at + 2) ts) (sym next)
    (subst (λ j. drop (at + 1) ts ≡ n ∷ drop j ts) last (drop_at ts (at + 1) n h f)))

more_two : (k n : Kind2) (ks : List Kind2)
    → more_in (k ∷ n ∷ ks) ≡ with_name (pair_in k n) (more_in ks)
more_two k n ks = go (is_comma k)
  where
    go : (u : Bool)
        → cond u (with_name (text_of n) (more_in ks)) None
        ≡ with_name (cond u (text_of n) None) (more_in ks)
    go true = refl
    go false = refl

-- what is left to read decides what is read
abbrev pub Leads : List Token → (start now : List (List ℕ)) → ℕ → Type 0
Leads ts start now at = (b : Bool) (new : List (List ℕ))
    → HasRead now (more_in (kinds (drop at ts))) b new → HasRead start (more_in (kinds ts)) b new

pub leads_on :
    (ts : List Token) (start now then : List (List ℕ)) (at : ℕ) (k n : Token) (m : List ℕ)
    → at + 1 < length ts → k ≡ get_or ts at k → n ≡ get_or ts (at + 1) n
    → Some m ≡ pair_in k.kind n.kind → then ≡ now ++ m ∷ [] → Leads ts start now at
    → Leads ts start then (at + 2)
leads_on ts start now then at k n m h e f p made leads b new r =
    let ks = kinds (drop (at + 2) ts) in
    let here : more_in (kinds (drop at ts)) ≡ with_name (Some m) (more_in ks) =
    ap (λ l. more_in (kinds l)) (two ts at k n h e f) ∙ more_two k.kind n.kind ks
    ∙ ap (λ o. with_name o (more_in ks)) (sym p) in
    leads b new (subst (λ o. HasRead now o b new) (sym here) (go (more_in ks) r))
  where
    go : (o : Option (List (List ℕ))) → HasRead then o b new
        → HasRead now (with_name (Some m) o) b new
    go None q = q
    go (Some ns) q = (q.0, q.1 ∙ ap (λ l. l ++ ns) made ∙ append_assoc now (m ∷ []) ns)

pub leads_nowhere : (ts : List Token) (start now new : List (List ℕ)) (at : ℕ) (k n : Token)
    → at + 1 < length ts → k ≡ get_or ts at k → n ≡ get_or ts (at + 1) n
    → None ≡ pair_in k.kind n.kind → Leads ts start now at
    → HasRead start (more_in (kinds ts)) false new
leads_nowhere ts start now new at k n h e f p leads =
    let ks = kinds (drop (at + 2) ts) in
    let here : more_in (kinds (drop at ts)) ≡ None =
    ap (λ l. more_in (kinds l)) (two ts at k n h e f) ∙ more_two k.kind n.kind ks
    ∙ ap (λ o. with_name o (more_in ks)) (sym p) in
    leads false new (subst (λ o. HasRead now o false new) (sym here) refl)

pub leads_end : (ts : List Token) (start now : List (List ℕ)) (at : ℕ) (k : Token) (b : Bool)
    → at < length ts → length ts ≤ at + 1 → k ≡ get_or ts at k → b ≡ is_right k.kind
    → Leads ts start now at → HasRead start (more_in (kinds ts)) b now
leads_end ts start now at k b h g e r leads =
    let last : drop at ts ≡ k ∷ [] =
    drop_at ts at k h e ∙ ap (λ l. k ∷ l) (drop_all ts (suc at) (omega (arith, g))) in
    leads b now (subst (λ o. HasRead now o b now) (sym (ap (λ l. more_in (kinds l)) last))
    (go (is_right k.kind) r))
  where
    go : (u : Bool) → b ≡ u → HasRead now (cond u (Some []) None) b now
    go true q = (q, sym (append-nil now))
    go false q = q

pub leads_past : (ts : List Token) (start now : List (List ℕ)) (at : ℕ) → length ts ≤ at
    → Leads ts start now at → HasRead start (more_in (kinds ts)) false now
leads_past ts start now at h leads = leads false now (subst (λ o. HasRead now o false now)
    (sym (ap (λ l. more_in (kinds l)) (drop_all ts at h))) refl)

pub leads_start : (ts : List Token) (start : List (List ℕ)) → Leads ts start start 0
leads_start ts start b new r = r
