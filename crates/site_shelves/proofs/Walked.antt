-- What a walk over groups has come to.
use Rattle.std.proofs.Common.{◌≡◌, ℕ, zero, suc, ◌+◌, ◌<◌, ◌≤◌, Bool, List, [], ◌∷◌, length, drop}
use Rattle.std.proofs.Common.{Some, refl, sym, ap, ◌∙◌, arith}
use Rattle.std.specs.Prelude.{slice_get, ◌&&◌, ◌||◌}
use Rattle.std.specs.List.{list_any, list_all}
use Rattle.chem_model.specs.declared.name.Name.{Name}
use Rattle.wire_packet.specs.MessageFacts.{MessageParts}
use Rattle.queue_cells.specs.Grouped.{Queued}
use Rattle.loc_tree.specs.Tree.{Tree}
use Rattle.net_laws.specs.Site.{Told, Group}
use Rattle.site_shelves.specs.inside.Index.{Rows, groups_of}
use Rattle.site_shelves.specs.inside.InTree.{names_stand, queues_stand, group_stands}
use Rattle.site_shelves.specs.Draws.{told_drawn, queues_drawn, group_drawn}
use Rattle.site_shelves.proofs.Queueing.{group-at}

pub there : {X : Type 0} (xs : List X) (i : ℕ) → i < length xs → (x : X) × (slice_get xs i ≡ Some x)
there [] i less = absurd (omega arith)
there (x ∷ xs) zero less = (x, refl)
there (x ∷ xs) (suc i) less = there xs i (omega arith)

pub any-more : {X : Type 0} (p : X → Bool) (xs : List X) (i : ℕ) (x : X) → slice_get xs i ≡ Some x
    → list_any p (drop i xs) ≡ p x || list_any p (drop (i + 1) xs)
any-more p [] i x is = absurd (cc)
any-more p (y ∷ xs) zero x is = let same : y ≡ x = cc in ap (λ z. p z || list_any p xs) same
any-more p (y ∷ xs) (suc i) x is =
    let e : suc i + 1 ≡ suc (i + 1) = omega arith in
    rw e (any-more p xs i x is)

pub all-more : {X : Type 0} (p : X → Bool) (xs : List X) (i : ℕ) (x : X) → slice_get xs i ≡ Some x
    → list_all p (drop i xs) ≡ p x && list_all p (drop (i + 1) xs)
all-more p [] i x is = absurd (cc)
all-more p (y ∷ xs) zero x is = let same : y ≡ x = cc in ap (λ z. p z && list_all p xs) same
all-more p (y ∷ xs) (suc i) x is =
    let e : suc i + 1 ≡ suc (i + 1) = omega arith in
    rw e (all-more p xs i x is)

pub drop-past : {X : Type 0} (xs : List X) (i : ℕ) → length xs ≤ i → drop i xs ≡ []
drop-past [] zero past = refl
drop-past [] (suc i) past = refl
drop-past (x ∷ xs) zero past = absurd (omega arith)
drop-past (x ∷ xs) (suc i) past = drop-past xs i (omega arith)

-- what the code reads of a group is the group's
pub group-is : (qs : Rows) (j : ℕ) (q : Queued Told MessageParts) (g : Group)
    → slice_get qs j ≡ Some q → slice_get (groups_of qs) j ≡ Some g
    → record { told = q.told; queues = q.lists } ≡ g
group-is qs j q g is at = let same = sym (group-at qs j q is) ∙ at in cc

pub group-read :
    (t : Tree) (qs : Rows) (j : ℕ) (q : Queued Told MessageParts) (env : List Name) (a b r : Bool)
    (g : Group) → slice_get qs j ≡ Some q → slice_get (groups_of qs) j ≡ Some g
    → env ≡ q.told.inst.env → a ≡ names_stand t env → b ≡ queues_stand t q.lists → r ≡ a && b
    → r ≡ group_stands t g
group-read t qs j q env a b r g is at env_is names queues both =
    both ∙ ap (λ x. x && b) (names ∙ ap (names_stand t) env_is)
    ∙ ap (λ x. names_stand t q.told.inst.env && x) queues
    ∙ ap (group_stands t) (group-is qs j q g is at)

pub group-drawn :
    (number made : ℕ) (qs : Rows) (j : ℕ) (q : Queued Told MessageParts) (a b r : Bool) (g : Group)
    → slice_get qs j ≡ Some q → slice_get (groups_of qs) j ≡ Some g
    → a ≡ told_drawn number made q.told → b ≡ queues_drawn number made q.lists → r ≡ a && b
    → r ≡ group_drawn number made g
group-drawn number made qs j q a b r g is at told queues both =
    both ∙ ap (λ x. x && b) told ∙ ap (λ x. told_drawn number made q.told && x) queues
    ∙ ap (group_drawn number made) (group-is qs j q g is at)
