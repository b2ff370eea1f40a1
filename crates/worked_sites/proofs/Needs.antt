-- What calls need, from what is tested before them.
use Rattle.std.proofs.Common.{◌≡◌, ℕ, zero, suc, ◌+◌, ◌≤◌, Bool, true, false, List, []}
use Rattle.std.proofs.Common.{◌∷◌, length, Option, Some, None, refl, sym, ap, subst, ◌∙◌}
use Rattle.std.proofs.Common.{arith}
use Rattle.std.specs.Prelude.{◌&&◌, ◌||◌, slice_get, slice_index, IsSome, is_some}
use Rattle.std.proofs.lemmas.Bool.{and_parts, and_from}
use Rattle.chem_model.specs.declared.name.Loc.{Loc}
use Rattle.chem_model.specs.declared.name.Name.{Name}
use Rattle.chem_model.specs.declared.name.Name.TheVariants as name
use Rattle.chem_model.specs.Each.{Each}
use Rattle.wire_packet.specs.Operations.{IsPlain, HasCount}
use Rattle.env_store.specs.declared.code.Guard.{Guard}
use Rattle.env_store.specs.declared.code.Level.{Level}
use Rattle.env_store.specs.CodeParts.{CodeParts}
use Rattle.env_store.specs.CodeFacts.{IsCode, IsBodyAt, received}
use Rattle.loc_tree.specs.Tree.{Tree, spot}
use Rattle.net_laws.specs.Site.{Site}
use Rattle.net_laws.specs.Net.{among}
use Rattle.site_solution.specs.Draws.{CanDraw}
use Rattle.site_solution.specs.InCode.{is_in_code}
use Rattle.site_solution.specs.InTree.{name_stands, is_in_tree}
use Rattle.site_solution.specs.inside.InTree.{names_stand}
use Rattle.site_solution.specs.Named.{name_in, names_in, in_tree, in_reach}
use Rattle.site_solution.specs.Pours.{CanEmit, CanPour}
use Rattle.reducer.specs.declared.pick.Pick.{Pick}
use Rattle.reducer.specs.Picks.{Picked, Picks, IsToldAs}
use Rattle.reducer.proofs.Fitting.{all_in_less}
use Rattle.reducer.proofs.Levels.{level_at, told_as}

-- ---- what is ready

pub is_told : (c : CodeParts) (t : Tree) (s : Site) (p : Pick) → is_in_code c t s ≡ true
    → (x : Picked) → Picks c s p x → IsToldAs x
is_told c t s p coded x picks =
    told_as c s p x picks (level_at c t s p.group x.group coded picks.group)

-- ---- what is there is in reach

name_reach : (t : Tree) (ls : List Loc) (n : Name) → name_stands t n ≡ true
    → name_in (in_reach t ls) n ≡ true
name_reach t ls (name.Seen i) h = refl
name_reach t ls (name.Place a) h = ap (λ (b : Bool). b || among ls a) h
name_reach t ls (name.Chan s k home) h = ap (λ (b : Bool). b || among ls home) h
name_reach t ls (name.Num i) h = refl
name_reach t ls (name.Op i) h = refl

names_reach : (t : Tree) (ls : List Loc) (ns : List Name) → names_stand t ns ≡ true
    → names_in (in_reach t ls) ns ≡ true
names_reach t ls [] h = refl
names_reach t ls (n ∷ ns) h =
    let both = and_parts (name_stands t n) (names_stand t ns) h in
    and_from (name_in (in_reach t ls) n) (names_in (in_reach t ls) ns) (name_reach t ls n both.0)
    (names_reach t ls ns both.1)

pub can_emit : (t : Tree) (s : Site) (on : Name) (args : List Name) → is_in_tree t s ≡ true
    → CanDraw t s → name_stands t on && names_stand t args ≡ true → length args ≤ 255
    → Each IsPlain args → HasCount on (length args) → CanEmit t on args s
can_emit t s on args there draws stands few plain count =
    let both = and_parts (name_stands t on) (names_stand t args) stands in
    record {
      all_there = there;
      can_draw = draws;
      on_named = name_reach t s.locs on both.0;
      args_named = names_reach t s.locs args both.1;
      few = few;
      plain = plain;
      count = count;
    }

all_there : (a b : Bool) → a && b ≡ true → b ≡ true
all_there true b h = h
all_there false b h = cc

pub can_pour : (c : CodeParts) (t : Tree) (s : Site) (l : Loc) → is_in_tree t s ≡ true
    → is_in_code c t s ≡ true → CanDraw t s → IsSome (spot t l) → CanPour c t (name.Place l ∷ []) s
can_pour c t s l there coded draws held = record {
  in_code = coded;
  can_draw = draws;
  env_named = names_reach t s.locs (name.Place l ∷ []) (is_there (spot t l) held);
  env_plain = (tt, tt);
  all_named = all_in_less (in_tree t) (in_reach t s.locs)
      (λ a e. ap (λ (b : Bool). b || among s.locs a) e) s (all_there _ _ there);
}
  where
    is_there : {X : Type 0} (o : Option X) → IsSome o → is_some o && true ≡ true
    is_there None h = cc
    is_there (Some x) h = refl

-- ---- the body of a guard of one channel

pub body_is : (c : CodeParts) (j : ℕ) (g : Guard) (v : Level) (i n : ℕ) → IsCode c
    → slice_get c.guards j ≡ Some g → slice_get c.levels g.level ≡ Some v → length g.chans ≡ 1
    → slice_get g.chans 0 ≡ Some i → slice_get v.counts i ≡ Some n
    → IsBodyAt c (v.depth + n) g.body
body_is c j g v i n code at level one chan count =
    let guard = code.guards j g at in
    let same : guard.level ≡ v =
    some_is (slice_get c.levels g.level) guard.level v guard.is_there level in
    let takes : received guard.level.counts g.chans ≡ n =
    ap (λ (w : Level). received w.counts g.chans) same ∙ only v.counts g.chans i n one chan count in
    subst (λ k. IsBodyAt c k g.body)
    (depths guard.level v (received guard.level.counts g.chans) n same takes) guard.body
  where
    some_is : {X : Type 0} (o : Option X) (x y : X) → o ≡ Some x → o ≡ Some y → x ≡ y
    some_is o x y a b = let both : Some x ≡ Some y = sym a ∙ b in cc

    at_is : (ns : List ℕ) (k m : ℕ) → slice_get ns k ≡ Some m → slice_index ns k ≡ m
    at_is [] k m e = cc
    at_is (x ∷ xs) zero m e = cc
    at_is (x ∷ xs) (suc k) m e = at_is xs k m e

    only : (ns is : List ℕ) (k m : ℕ) → length is ≡ 1 → slice_get is 0 ≡ Some k
        → slice_get ns k ≡ Some m → received ns is ≡ m
    only ns [] k m l e f = cc
    only ns (x ∷ []) k m l e f =
        let same : x ≡ k = cc in
        let at : slice_index ns x ≡ m = ap (slice_index ns) same ∙ at_is ns k m f in
        omega arith
    only ns (x ∷ y ∷ ys) k m l e f = absurd (omega arith)

    depths : (w u : Level) (a b : ℕ) → w ≡ u → a ≡ b → w.depth + a ≡ u.depth + b
    depths w u a b e f = let d : w.depth ≡ u.depth = ap (λ (x : Level). x.depth) e in omega arith
