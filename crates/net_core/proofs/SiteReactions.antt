-- A pick of a site may fire exactly where the site may react by it in the network.
use Rattle.std.proofs.Common.{◌≡◌, ℕ, zero, suc, ◌+◌, ◌<◌, ◌≤◌, List, [], ◌∷◌, ◌++◌, length, get_or}
use Rattle.std.proofs.Common.{take, Option, Some, None, Bool, true, false, refl, sym, ap, ◌∙◌}
use Rattle.std.proofs.Common.{subst, arith, ◌⊎◌, inl, inr}
use Rattle.std.specs.Prelude.{slice_get, slice_index_or, nat_lt, ◌↔◌, IsTrue, not, ◌&&◌, ◌||◌, ◌==◌}
use Rattle.std.proofs.lemmas.Bool.Decides.{nat_tests}
use Rattle.std.proofs.lemmas.Option.{slice_get_within, slice_get_read}
use Rattle.chem_model.specs.Each.{Each}
use Rattle.wire_packet.specs.MessageFacts.{MessageParts}
use Rattle.env_store.specs.CodeParts.{CodeParts}
use Rattle.env_store.specs.CodeFacts.{IsCode}
use Rattle.chem_model.specs.declared.name.Loc.{Loc}
use Rattle.loc_tree.specs.declared.tree.Spot.{Spot}
use Rattle.loc_tree.specs.Tree.{Tree, spot, is_root, is_alive_in, is_alive, is_dead_in, is_dead}
use Rattle.loc_tree.specs.Tree.{can_move, can_fall, bare}
use Rattle.net_laws.specs.Site.{Site}
use Rattle.net_laws.specs.Net.{Net}
use Rattle.net_laws.specs.Moves.{may_go}
use Rattle.net_laws.proofs.Holds.{each_get}
use Rattle.reducer.specs.declared.pick.Pick.{Pick}
use Rattle.reducer.specs.Picks.{Picked, Fires, MayFire}
use Rattle.reducer.specs.Ready.{NoneFires, IsReady}
use Rattle.reducer.proofs.Masks.{HaveFronts, held_fronts, fronts_held}
use Rattle.net_core.specs.Enabled.{HasFront}
use Rattle.net_core.specs.Choosing.{MayReact, NoneReacts, IsFirstReaction}
use Rattle.net_core.specs.inside.Searched.{HasSites}
use Rattle.net_core.proofs.NoneFound.{NoneReady}

-- ---- members of a list

pub below_or : (i n : ℕ) → n < i + 1 → (n < i) ⊎ (n ≡ i)
below_or i n h = go (nat_lt n i) refl
  where
    go : (b : Bool) → nat_lt n i ≡ b → (n < i) ⊎ (n ≡ i)
    go true e = inl (grind (arith, nat_tests))
    go false e = inr (grind (arith, nat_tests))

pub member_at : {X : Type 0} (xs : List X) (i : ℕ) (x : X) → i < length xs → x ≡ get_or xs i x
    → slice_get xs i ≡ Some x
member_at xs i x below is = slice_get_read xs (length xs) i x refl below is

pub holds_at : {X : Type 0} (P : X → Type 0) (xs : List X) (i : ℕ) (x : X) → Each P xs
    → i < length xs → x ≡ get_or xs i x → P x
holds_at P xs i x all below is = each_get P xs i x (member_at xs i x below is) all

pub one_member : {X : Type 0} (o : Option X) (x y : X) → o ≡ Some x → o ≡ Some y → x ≡ y
one_member o x y e f = let both : Some x ≡ Some y = sym e ∙ f in cc

take_suc : {X : Type 0} (xs : List X) (n : ℕ) (x : X) → slice_get xs n ≡ Some x
    → take (suc n) xs ≡ take n xs ++ x ∷ []
take_suc [] n x e = cc
take_suc (y ∷ xs) zero x e = let same : y ≡ x = cc in ap (λ z. z ∷ []) same
take_suc (y ∷ xs) (suc n) x e = ap (λ zs. y ∷ zs) (take_suc xs n x e)

pub take_next : {X : Type 0} (xs : List X) (n : ℕ) (x : X) → slice_get xs n ≡ Some x
    → take (n + 1) xs ≡ take n xs ++ x ∷ []
take_next xs n x e =
    let one : n + 1 ≡ suc n = omega arith in
    ap (λ k. take k xs) one ∙ take_suc xs n x e

-- ---- queues with fronts

has_front : (qs : List (List MessageParts)) (c : ℕ) → 0 < length (slice_index_or qs c [])
    → HasFront qs c
has_front [] c h = absurd (omega arith)
has_front ([] ∷ qs) zero h = absurd (omega arith)
has_front ((m ∷ ms) ∷ qs) zero h = (m, ms, refl)
has_front (q ∷ qs) (suc c) h = has_front qs c h

is_long : (qs : List (List MessageParts)) (c : ℕ) (m : MessageParts) (rest : List MessageParts)
    → slice_get qs c ≡ Some (m ∷ rest) → 0 < length (slice_index_or qs c [])
is_long [] c m rest e = cc
is_long (q ∷ qs) zero m rest e =
    let same : q ≡ m ∷ rest = cc in
    subst (λ us. 0 < length us) (sym same) (omega arith)
is_long (q ∷ qs) (suc c) m rest e = is_long qs c m rest e

to_fronts : (qs : List (List MessageParts)) (cs : List ℕ) → HaveFronts qs cs → Each (HasFront qs) cs
to_fronts qs [] h = tt
to_fronts qs (c ∷ cs) h = (has_front qs c h.0, to_fronts qs cs h.1)

from_fronts : (qs : List (List MessageParts)) (cs : List ℕ) → Each (HasFront qs) cs
    → HaveFronts qs cs
from_fronts qs [] h = tt
from_fronts qs (c ∷ cs) h = (is_long qs c h.0.0 h.0.1 h.0.2, from_fronts qs cs h.1)

-- ---- the tree's room is read by none

alive_in : (t : Tree) (o : Option Spot) → is_alive_in (bare t) o ≡ is_alive_in t o
alive_in t None = refl
alive_in t (Some s) = refl

pub alive_bare : (t : Tree) (l : Loc) → is_alive (bare t) l ≡ is_alive t l
alive_bare t l = alive_in t (spot t l)

dead_in : (t : Tree) (o : Option Spot) → is_dead_in (bare t) o ≡ is_dead_in t o
dead_in t None = refl
dead_in t (Some s) = refl

pub dead_bare : (t : Tree) (l : Loc) → is_dead (bare t) l ≡ is_dead t l
dead_bare t l = dead_in t (spot t l)

goes_bare : (t : Tree) (l target : Loc) → can_move (bare t) l target ≡ can_move t l target
goes_bare t l target =
    ap (λ b. (b && not (is_root t l)) && (is_alive (bare t) target && is_root t target))
    (alive_bare t l)
    ∙ ap (λ b. (is_alive t l && not (is_root t l)) && (b && is_root t target)) (alive_bare t target)

falls_bare : (t : Tree) (l target : Loc) → can_fall (bare t) l target ≡ can_fall t l target
falls_bare t l target =
    ap (λ b. (b && not (is_root t l)) && (is_dead (bare t) target && is_root t target))
    (alive_bare t l)
    ∙ ap (λ b. (is_alive t l && not (is_root t l)) && (b && is_root t target)) (dead_bare t target)

pub move_bare : (version : ℕ) (t : Tree) (l target : Loc)
    → may_go version (bare t) l target ≡ may_go version t l target
move_bare version t l target =
    ap (λ b. b || ((version == 2) && can_fall (bare t) l target)) (goes_bare t l target)
    ∙ ap (λ b. can_move t l target || ((version == 2) && b)) (falls_bare t l target)

module _ (c : CodeParts) (t : Tree) (s : Site) where
  pub to_bare : (p : Pick) (x : Picked) → Fires c t s p x → Fires c (bare t) s p x
  to_bare p x f = record { covers = f.covers; live = alive_bare t x.group.told.inst.loc ∙ f.live }

  pub from_bare : (p : Pick) (x : Picked) → Fires c (bare t) s p x → Fires c t s p x
  from_bare p x f =
      record { covers = f.covers; live = sym (alive_bare t x.group.told.inst.loc) ∙ f.live }

  pub ready_bare : (p : Pick) → IsReady c t s p → IsReady c (bare t) s p
  ready_bare p r = record {
    pick = r.pick;
    fires = to_bare p r.pick r.fires;
    least = λ q y f. r.least q y (from_bare q y f);
    first = λ q y f same. r.first q y (from_bare q y f) same;
  }

-- ---- a pick in a network

module _ (c : CodeParts) (net : Net) (code : IsCode c) where
  pub fires_reacts : (i : ℕ) (s : Site) (p : Pick) (x : Picked) → slice_get net.sites i ≡ Some s
      → Fires c net.tree s p x → MayReact c net i p
  fires_reacts i s p x here fires =
      let picks = fires.covers.picks in
      let at = code.guards p.guard x.guard picks.guard in
      record {
        by = record {
          site = s;
          group = x.group;
          level = x.level;
          guard = x.guard;
          site_is = here;
          group_is = picks.group;
          level_is = picks.level;
          guard_is = picks.guard;
          from = picks.from;
          below = picks.below;
          alive = fires.live;
        };
        fronts = to_fronts x.group.queues x.guard.chans (held_fronts (length at.level.counts)
            x.group.queues x.guard.chans x.guard.mask.words at.mask fires.covers.held);
      }

  pub reacts_fires : (i : ℕ) (p : Pick) (m : MayReact c net i p) → MayFire c net.tree m.by.site p
  reacts_fires i p m =
      let by = m.by in
      let at = code.guards p.guard by.guard by.guard_is in (
        record { group = by.group; level = by.level; guard = by.guard },
        record {
          covers = record {
            picks = record {
              group = by.group_is;
              level = by.level_is;
              guard = by.guard_is;
              from = by.from;
              below = by.below;
            };
            held = fronts_held (length at.level.counts) by.group.queues by.guard.chans
                by.guard.mask.words at.mask (from_fronts by.group.queues by.guard.chans m.fronts);
          };
          live = by.alive;
        },
      )

  pub reacts_fires_at : (i : ℕ) (s : Site) (p : Pick) → slice_get net.sites i ≡ Some s
      → MayReact c net i p → MayFire c net.tree s p
  reacts_fires_at i s p here m =
      let same : m.by.site ≡ s = one_member (slice_get net.sites i) m.by.site s m.by.site_is here in
      subst (λ (u : Site). MayFire c net.tree u p) same (reacts_fires i p m)

-- ---- what the code answers, by the parts of the network

module _ (c : CodeParts) (sites : List Site) (t : Tree) (code : IsCode c) where
  module _ (net : Net) (parts : HasSites sites t net) where
    at_net : (i : ℕ) (s : Site) → slice_get sites i ≡ Some s → slice_get net.sites i ≡ Some s
    at_net i s e = ap (λ ss. slice_get ss i) parts.sites_are ∙ e

    pub may_fire_reacts : (i : ℕ) (s : Site) (p : Pick) (r : Bool) → slice_get sites i ≡ Some s
        → (IsTrue r ↔ MayFire c t s p) → IsTrue r ↔ MayReact c net i p
    may_fire_reacts i s p r e tells = (to, back)
      where
        here : slice_get net.sites i ≡ Some s
        here = at_net i s e

        to : IsTrue r → MayReact c net i p
        to e =
            let fires = tells.0 e in
            fires_reacts c net code i s p fires.0 here (subst (λ (u : Tree). Fires c u s p fires.0)
            (sym parts.tree_is) (to_bare c t s p fires.0 fires.1))

        back : MayReact c net i p → IsTrue r
        back may =
            let fires = subst (λ (u : Tree). MayFire c u s p)
            parts.tree_is (reacts_fires_at c net code i s p here may) in
            tells.1 (fires.0, from_bare c t s p fires.0 fires.1)

    no_fires : (i : ℕ) (p : Pick) → (m : MayReact c net i p) → NoneFires c t m.by.site → ⊥
    no_fires i p m none =
        let fires = subst (λ (u : Tree). MayFire c u m.by.site p)
        parts.tree_is (reacts_fires c net code i p m) in
        none p fires.0 (from_bare c t m.by.site p fires.0 fires.1)

  pub none_first : NoneReady c sites t 0
  none_first i s below e = absurd (omega arith)

  pub none_next : (n : ℕ) (s : Site) → slice_get sites n ≡ Some s → NoneReady c sites t n
      → NoneFires c t s → NoneReady c sites t (n + 1)
  none_next n s here none last i u below e =
      elim (below_or n i below) [
        | inl lower ↦ none i u lower e
        | inr same ↦
            let at : slice_get sites n ≡ Some u = ap (slice_get sites) (sym same) ∙ e in
            subst (λ (v : Site). NoneFires c t v) (one_member (slice_get sites n) s u here at) last
      ]

  pub none_reacts : (n : ℕ) → length sites ≤ n → NoneReady c sites t n → (net : Net)
      → HasSites sites t net → NoneReacts c net
  none_reacts n all none net parts i p m =
      let own : slice_get sites i ≡ Some m.by.site =
      ap (λ ss. slice_get ss i) (sym parts.sites_are) ∙ m.by.site_is in
      let within = slice_get_within sites i m.by.site own in
      no_fires net parts i p m (none i m.by.site (omega arith) own)

  pub first_reacts : (n : ℕ) (s : Site) (p : Pick) → slice_get sites n ≡ Some s
      → NoneReady c sites t n → IsReady c t s p → (net : Net) → HasSites sites t net
      → IsFirstReaction c net n p
  first_reacts n s p here none ready net parts = record {
    site = s;
    site_is = at_net net parts n s here;
    ready = subst (λ (u : Tree). IsReady c u s p) (sym parts.tree_is) (ready_bare c t s p ready);
    first = λ j q below m.
        let own : slice_get sites j ≡ Some m.by.site =
        ap (λ ss. slice_get ss j) (sym parts.sites_are) ∙ m.by.site_is in
        no_fires net parts j q m (none j m.by.site below own);
  }
