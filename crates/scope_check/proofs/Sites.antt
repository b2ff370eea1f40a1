-- One site after the other.
use Rattle.std.proofs.Common.{◌≡◌, ℕ, zero, suc, ◌+◌, ◌<◌, List, [], ◌∷◌, ◌++◌, Option, ◌≤◌, length}
use Rattle.std.proofs.Common.{get_or, drop, refl, sym, ap, ◌∙◌, subst, arith, append_assoc}
use Rattle.std.proofs.Common.{append-nil}
use Rattle.join_parse.specs.declared.tree.PlaceTree.{PlaceTree}
use Rattle.join_parse.specs.Source as s
use Rattle.chem_model.specs.Process as t
use Rattle.scope_check.specs.declared.fault.Fault.{Fault}
use Rattle.scope_check.specs.inside.Order.{first_of}
use Rattle.scope_check.specs.Blocks.{place_of, places_of, sites_of, scopes_in, scopes_in_all}
use Rattle.scope_check.specs.Stands.{together}
use Rattle.scope_check.specs.inside.Twin.{Table, members_in, all_uses_in}
use Rattle.scope_check.specs.inside.Naming.{walk_one, walk_level}

drop-suc : {A : Type 0} (xs : List A) (i : ℕ) (x : A) → i < length xs → x ≡ get_or xs i x
    → drop i xs ≡ x ∷ drop (suc i) xs
drop-suc [] i x h e = absurd (omega arith)
drop-suc (y ∷ ys) zero x h e = ap (λ z. z ∷ ys) (sym e)
drop-suc (y ∷ ys) (suc i) x h e = drop-suc ys i x (omega arith) e

pub drop-next : {A : Type 0} (xs : List A) (i : ℕ) (x : A) → i < length xs → x ≡ get_or xs i x
    → drop i xs ≡ x ∷ drop (i + 1) xs
drop-next xs i x h e =
    let same : suc i ≡ i + 1 = omega arith in
    subst (λ n. drop i xs ≡ x ∷ drop n xs) same (drop-suc xs i x h e)

pub own-step :
    (end end' : ℕ) (spell spell' : List (List ℕ)) (own own' : Table) (x : PlaceTree)
    (d rest : List PlaceTree) → d ≡ x ∷ rest
    → own' ≡ (walk_one 0 end spell own (place_of x)).own
    → spell' ≡ (walk_one 0 end spell own (place_of x)).spell → end' ≡ end + places_of (place_of x)
    → (walk_level 0 end' spell' own' (sites_of rest)).own
    ≡ (walk_level 0 end spell own (sites_of d)).own
own-step end end' spell spell' own own' x d rest e o s n =
    (λ i. (walk_level 0 (n i) (s i) (o i) (sites_of rest)).own)
    ∙ ap (λ l. (walk_level 0 end spell own (sites_of l)).own) (sym e)

pub spell-step :
    (end end' : ℕ) (spell spell' : List (List ℕ)) (own own' : Table) (x : PlaceTree)
    (d rest : List PlaceTree) → d ≡ x ∷ rest
    → own' ≡ (walk_one 0 end spell own (place_of x)).own
    → spell' ≡ (walk_one 0 end spell own (place_of x)).spell → end' ≡ end + places_of (place_of x)
    → (walk_level 0 end' spell' own' (sites_of rest)).spell
    ≡ (walk_level 0 end spell own (sites_of d)).spell
spell-step end end' spell spell' own own' x d rest e o s n =
    (λ i. (walk_level 0 (n i) (s i) (o i) (sites_of rest)).spell)
    ∙ ap (λ l. (walk_level 0 end spell own (sites_of l)).spell) (sym e)

pub tables-step :
    (end end' : ℕ) (spell spell' : List (List ℕ)) (own own' : Table) (x : PlaceTree)
    (d rest : List PlaceTree) (scopes scopes' : List Table) → d ≡ x ∷ rest
    → own' ≡ (walk_one 0 end spell own (place_of x)).own
    → spell' ≡ (walk_one 0 end spell own (place_of x)).spell → end' ≡ end + places_of (place_of x)
    → scopes' ≡ scopes ++ (walk_one 0 end spell own (place_of x)).tables
    → scopes' ++ (walk_level 0 end' spell' own' (sites_of rest)).tables
    ≡ scopes ++ (walk_level 0 end spell own (sites_of d)).tables
tables-step end end' spell spell' own own' x d rest scopes scopes' e o s n q =
    let a = walk_one 0 end spell own (place_of x) in
    (λ i. q i ++ (walk_level 0 (n i) (s i) (o i) (sites_of rest)).tables)
    ∙ append_assoc scopes
    a.tables (walk_level 0 (end + places_of (place_of x)) a.spell a.own (sites_of rest)).tables
    ∙ ap (λ l. scopes ++ (walk_level 0 end spell own (sites_of l)).tables) (sym e)

-- the same of one definition after the other
pub level-tables :
    (at end end' : ℕ) (spell spell' : List (List ℕ)) (own own' : Table) (d : s.Definition)
    (ds : s.Definitions) (scopes scopes' : List Table)
    → own' ≡ (walk_one at end spell own d).own → spell' ≡ (walk_one at end spell own d).spell
    → end' ≡ end + places_of d
    → scopes' ≡ scopes ++ (walk_one at end spell own d).tables
    → scopes' ++ (walk_level at end' spell' own' ds).tables
    ≡ scopes ++ (walk_level at end spell own (s.and_also d ds)).tables
level-tables at end end' spell spell' own own' d ds scopes scopes' o s n q =
    let a = walk_one at end spell own d in
    (λ i. q i ++ (walk_level at (n i) (s i) (o i) ds).tables)
    ∙ append_assoc scopes a.tables (walk_level at (end + places_of d) a.spell a.own ds).tables

-- a list that isn't of one process
pub par-is : (ps : List t.Process) → (length ps ≡ 1 → ⊥) → t.Par (t.processes ps) ≡ together ps
par-is [] h = refl
par-is (p ∷ []) h = absurd (h refl)
par-is (p ∷ q ∷ ps) h = refl

pub drop-past : {A : Type 0} (xs : List A) (i : ℕ) → length xs ≤ i → drop i xs ≡ []
drop-past [] zero h = refl
drop-past [] (suc i) h = refl
drop-past (x ∷ xs) zero h = absurd (omega arith)
drop-past (x ∷ xs) (suc i) h = drop-past xs i (omega arith)

length-members : (tables : List Table) (ps : List s.Process) (env : List Table) (at : ℕ)
    → length (members_in tables env at (s.processes ps)) ≡ length ps
length-members tables [] env at = refl
length-members tables (p ∷ ps) env at =
    omega (arith, length-members tables ps env (at + scopes_in p))

-- what a loop over a list of processes made
pub record Joined (tables env : List Table) (at end : ℕ) (ps : List s.Process)
    (members : List t.Process) (old new : Option Fault) : Type 0 where
  pub value : t.Par (t.processes members) ≡ together (members_in tables env at (s.processes ps))
  pub upto : end ≡ at + scopes_in_all (s.processes ps)
  pub least : new ≡ first_of old (all_uses_in tables env at (s.processes ps))

pub joined :
    (tables env : List Table) (at end i : ℕ) (items ps : List s.Process) (members : List t.Process)
    (old new : Option Fault)
    → items ≡ ps → length items ≤ i → (length ps ≡ 1 → ⊥)
    → end + scopes_in_all (s.processes (drop i items)) ≡ at + scopes_in_all (s.processes items)
    → members ++ members_in tables env end (s.processes (drop i items))
    ≡ members_in tables env at (s.processes items)
    → first_of new (all_uses_in tables env end (s.processes (drop i items)))
    ≡ first_of old (all_uses_in tables env at (s.processes items))
    → Joined tables env at end ps members old new
joined tables env at end i items ps members old new same past other e v l =
    let none = drop-past items i past in
    let all : members ≡ members_in tables env at (s.processes ps) =
    sym (append-nil members)
    ∙ ap (λ d. members ++ members_in tables env end (s.processes d)) (sym none) ∙ v
    ∙ ap (λ d. members_in tables env at (s.processes d)) same in
    let end_is : end + scopes_in_all (s.processes (drop i items)) ≡ end =
    ap (λ d. end + scopes_in_all (s.processes d)) none ∙ omega arith in
    record {
      value = ap (λ m. t.Par (t.processes m)) all
          ∙ par-is (members_in tables env at (s.processes ps))
          (λ one. other (sym (length-members tables ps env at) ∙ one));
      upto = sym end_is ∙ e ∙ ap (λ d. at + scopes_in_all (s.processes d)) same;
      least = ap (λ d. first_of new (all_uses_in tables env end (s.processes d))) (sym none) ∙ l
          ∙ ap (λ d. first_of old (all_uses_in tables env at (s.processes d))) same;
    }
