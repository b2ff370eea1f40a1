-- The opening of a program gives each channel to a rule.
use Rattle.std.proofs.Common.{◌≡◌, ℕ, ◌+◌, ◌≤◌, List, [], ◌∷◌, ◌++◌, None, cond, refl, ap, ◌∙◌}
use Rattle.std.proofs.Common.{arith, ◌⊎◌, inl, inr}
use Rattle.std.specs.Prelude.{slice_index}
use Rattle.chem_model.specs.declared.program.SiteTerm.{SiteTerm}
use Rattle.chem_model.specs.declared.numbered.Named.{Named}
use Rattle.chem_model.specs.declared.numbered.NumberedRule.{NumberedRule}
use Rattle.chem_model.specs.declared.numbered.Numbered.{Numbered}
use Rattle.chem_model.specs.Process.{definitions}
use Rattle.chem_model.specs.ProgramFacts.{ProgramTerms, IsProgram, places}
use Rattle.chem_model.specs.Binders.{block, once, bound_in_definitions}
use Rattle.chem_model.specs.Each.{Each, IsIn}
use Rattle.chem_model.specs.Fill.{Naming}
use Rattle.chem_model.specs.Solution.{root}
use Rattle.chem_model.specs.Numbered.{standing}
use Rattle.chem_model.specs.Pour.{lay_rules, rules_made, lay_places, pour, lay, pour_at, lay_at}
use Rattle.chem_model.specs.Opening.{counts_of, root_of, root_names, level_names, site_names}
use Rattle.chem_model.specs.Opening.{named_sites, open_sites, opening}
use Rattle.chem_laws.proofs.Lists.{Each-append, Each-weaker}
use Rattle.chem_laws.proofs.Terms.{among_left, among_right}
use Rattle.chem_laws.proofs.Parts.{is_named, Agree}
use Rattle.chem_laws.proofs.Naming.{naming_is}
use Rattle.chem_laws.proofs.OpeningBlocks.{IsBlockAt, of_block, other_block}
use Rattle.chem_laws.proofs.OpeningNames.{HasLevel, rest_names, rest_found, own_naming, here, later}
use Rattle.chem_model.specs.Process.{Place}
use Rattle.chem_model.specs.declared.name.Ref.TheVariants.{Binder}
use Rattle.sort_laws.specs.Owned.{Owns, OwnAll, IsOwned}
use Rattle.sort_laws.proofs.Terms.{each_in, all_in}
use Rattle.sort_laws.proofs.Owned.{own_left, own_right, naming_fine, level_owned, places_own}
use Rattle.sort_laws.proofs.Owned.{pour_owns}

-- each site's names are those of its own naming
abbrev SitesAgree : Naming → ℕ → List SiteTerm → Type 0
SitesAgree m i [] = Unit {0}
SitesAgree m i (t ∷ ts) =
    Agree (block (definitions t.defs)) m (own_naming i t).names × SitesAgree m (i + 1) ts

sites_agree : (ts : List SiteTerm) (i : ℕ) (m : Naming) → IsBlockAt None (places ts)
    → Each HasLevel ts → Agree (block (places ts)) m (rest_names i ts) → SitesAgree m i ts
sites_agree [] i m h g same = tt
sites_agree (t ∷ ts) i m h g same =
    let es = definitions t.defs in
    let others = other_block None (Place (Binder t.name) es t.body) (places ts) h in (
      λ b e. same b (among_right (t.name ∷ []) (block es ++ block (places ts)) b
          (among_left (block es) (block (places ts)) b e)) ∙ here naming_is i t ts h g.0 b e,
      sites_agree ts (i + 1) m others
          g.1 (λ b e. same b (among_right (t.name ∷ block es) (block (places ts)) b e)
          ∙ later naming_is i t ts h g.0 b e),
    )

-- owned already, or named by a site that is still to come
abbrev Comes : List NumberedRule → ℕ → List SiteTerm → Named → Type 0
Comes rules i ts x = Owns rules x ⊎ IsIn x (level_names i ts)

in_either : (x : Named) (xs ys : Naming) → IsIn x (xs ++ ys) → IsIn x xs ⊎ IsIn x ys
in_either x [] ys h = inr h
in_either x (z ∷ xs) ys (inl e) = inl (inl e)
in_either x (z ∷ xs) ys (inr h) = elim (in_either x xs ys h) [ inl u ↦ inl (inr u) | inr v ↦ inr v ]

owns_left : (xs ys : List NumberedRule) (x : Named) → Owns xs x → Owns (xs ++ ys) x
owns_left xs ys x h = (own_left xs ys (x ∷ []) (h, tt)).0

owns_right : (xs ys : List NumberedRule) (x : Named) → Owns ys x → Owns (xs ++ ys) x
owns_right xs ys x h = (own_right xs ys (x ∷ []) (h, tt)).0

open_owned : (m : Naming) (ts : List SiteTerm) (i : ℕ) (n : Numbered) → SitesAgree m i ts
    → ((b : ℕ) → is_named m b + bound_in_definitions (places ts) b ≤ 1)
    → Each (Comes n.rules i ts) n.named → IsOwned (open_sites m i ts n)
open_owned m [] i n agree o h = Each-weaker (Comes n.rules i []) (Owns n.rules)
    (λ x c. elim c [ inl u ↦ u | inr v ↦ absurd v ]) n.named h
open_owned m (t ∷ ts) i n agree o h =
    let l = root_of i in
    let D = definitions t.defs in
    let r = root (standing n.places) l in
    let k = slice_index n.counts r.site in
    let a = lay n.seen r.site r m l k D in
    let first = rules_made (lay_rules r.site m l k D) in
    let behind = lay_places n.seen r.site r m l first.next D in
    let A = lay_at n m l D in
    let r' = root (standing A.places) l in
    let b = pour A.seen r'.site r' m l (slice_index A.counts r'.site) t.body in
    let own = own_naming i t in
    let laid : OwnAll (first.rules ++ behind.rules) own.names = level_owned r.site m n.seen r l k
    first.next D own.names own.names (naming_fine i l D 1) agree.0 in
    let placed : OwnAll behind.rules behind.named =
    places_own n.seen r.site r D m l first.next (λ c. let all = o c in omega arith) in
    let body : OwnAll b.rules b.named = pour_owns A.seen r'.site r' t.body m l
    (slice_index A.counts r'.site) (λ c. let all = o c in omega arith) in
    let old : (x : Named) → Comes n.rules i (t ∷ ts) x
    → Comes ((n.rules ++ a.rules) ++ b.rules) (i + 1) ts x = λ x c. elim c [
      | inl u ↦ inl (owns_left (n.rules ++ a.rules) b.rules x (owns_left n.rules a.rules x u))
      | inr v ↦ elim (in_either x own.names (level_names (i + 1) ts) v) [
        | inl w ↦ inl (owns_left (n.rules ++ a.rules) b.rules x (owns_right n.rules a.rules x
            (each_in (Owns (first.rules ++ behind.rules)) x own.names laid w)))
        | inr w ↦ inr w
      ]
    ] in
    let given : (x : Named) → Owns behind.rules x
    → Comes ((n.rules ++ a.rules) ++ b.rules) (i + 1) ts x =
    λ x c. inl (owns_left (n.rules ++ a.rules) b.rules x
    (owns_right n.rules a.rules x (owns_right first.rules behind.rules x c))) in
    let new : (x : Named) → Owns b.rules x → Comes ((n.rules ++ a.rules) ++ b.rules) (i + 1) ts x =
    λ x c. inl (owns_right (n.rules ++ a.rules) b.rules x c) in
    let P = Comes ((n.rules ++ a.rules) ++ b.rules) (i + 1) ts in
    open_owned m ts (i + 1) (pour_at A m l t.body) agree.1 (λ c. let all = o c in omega arith)
    (Each-append P (n.named ++ a.named) b.named
    (Each-append P n.named a.named (Each-weaker (Comes n.rules i (t ∷ ts)) P old n.named h)
    (Each-weaker (Owns behind.rules) P given behind.named placed))
    (Each-weaker (Owns b.rules) P new b.named body))

roots_come : (ts : List SiteTerm) (i j : ℕ) (us : List SiteTerm)
    → Each (Comes [] j us) (root_names i ts)
roots_come [] i j us = tt
roots_come (t ∷ ts) i j us = (inl (λ c. absurd c), roots_come ts (i + 1) j us)

pub opening_owned : (p : ProgramTerms) → IsProgram p → IsOwned (opening p)
opening_owned p program =
    let ts = p.sites in
    let m = site_names ts in
    let whole = of_block (places ts) program.one_block in
    let domain = rest_found naming_is ts 0 whole program.levels in
    let named : (b : ℕ) → is_named m b ≡ once (block (places ts)) b =
    λ b. ap (λ u. cond u 1 0) (domain b) in
    open_owned m ts 0 (named_sites p.version (counts_of p.seen) ts)
    (sites_agree ts 0 m whole program.levels (λ b e. refl))
    (λ b. omega (arith, named b, program.bound_once b))
    (Each-append (Comes [] 0 ts) (root_names 0 ts) (level_names 0 ts) (roots_come ts 0 0 ts)
    (all_in (Comes [] 0 ts) (level_names 0 ts) (λ x i. inr i)))
