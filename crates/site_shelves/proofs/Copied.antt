-- What a walk that copies what stands at a location has come to.
use Rattle.std.proofs.Common.{◌≡◌, ℕ, zero, suc, ◌+◌, Bool, true, false, cond, List, [], ◌∷◌, ◌++◌}
use Rattle.std.proofs.Common.{drop, Some, refl, sym, ap, ◌∙◌, arith, append_assoc, append-nil}
use Rattle.std.specs.Prelude.{slice_get}
use Rattle.chem_model.specs.declared.name.Loc.{Loc}
use Rattle.chem_model.specs.Solution.{same_loc}
use Rattle.chem_laws.proofs.Within.{same_loc_is}
use Rattle.wire_packet.specs.declared.packet.Waiting.{Waiting}
use Rattle.net_laws.specs.Site.{Group, told_in}
use Rattle.net_laws.specs.Parcels.{groups_at, insts_in, in_queues, in_all_queues}

-- one part more was appended
pub stepped : {X : Type 0} (old new part rest whole done : List X) → new ≡ old ++ part
    → whole ≡ part ++ rest → old ++ whole ≡ done → new ++ rest ≡ done
stepped old new part rest whole done more split was =
    ap (λ xs. xs ++ rest) more ∙ append_assoc old part rest ∙ ap (λ xs. old ++ xs) (sym split) ∙ was

-- nothing is left
pub ended : {X : Type 0} (old rest done : List X) → rest ≡ [] → old ++ rest ≡ done → old ≡ done
ended old rest done none is = sym (append-nil old) ∙ ap (λ xs. old ++ xs) (sym none) ∙ is

pub insts-next : (l : Loc) (gs : List Group) (i : ℕ) (g : Group) → slice_get gs i ≡ Some g
    → insts_in (told_in (groups_at l (drop i gs)))
    ≡ cond (same_loc l g.told.inst.loc) (g.told.inst ∷ []) []
    ++ insts_in (told_in (groups_at l (drop (i + 1) gs)))
insts-next l [] i g is = absurd (cc)
insts-next l (h ∷ gs) zero g is =
    let same : h ≡ g = cc in
    by_test (same_loc l h.told.inst.loc)
    ∙ ap (λ (x : Group).
    cond (same_loc l x.told.inst.loc) (x.told.inst ∷ []) [] ++ insts_in (told_in (groups_at l gs)))
    same
  where
    by_test : (b : Bool)
        → insts_in (told_in (cond b (h ∷ groups_at l gs) (groups_at l gs)))
        ≡ cond b (h.told.inst ∷ []) [] ++ insts_in (told_in (groups_at l gs))
    by_test true = refl
    by_test false = refl
insts-next l (h ∷ gs) (suc i) g is =
    let e : suc i + 1 ≡ suc (i + 1) = omega arith in
    rw e (insts-next l gs i g is)

pub queued-next : (l : Loc) (gs : List Group) (i : ℕ) (g : Group) → slice_get gs i ≡ Some g
    → in_all_queues (groups_at l (drop i gs))
    ≡ cond (same_loc l g.told.inst.loc) (in_queues g.told.inst.loc g.queues) []
    ++ in_all_queues (groups_at l (drop (i + 1) gs))
queued-next l [] i g is = absurd (cc)
queued-next l (h ∷ gs) zero g is =
    let same : h ≡ g = cc in
    by_test (same_loc l h.told.inst.loc)
    ∙ ap (λ (x : Group). cond (same_loc l x.told.inst.loc) (in_queues x.told.inst.loc x.queues) []
    ++ in_all_queues (groups_at l gs)) same
  where
    by_test : (b : Bool)
        → in_all_queues (cond b (h ∷ groups_at l gs) (groups_at l gs))
        ≡ cond b (in_queues h.told.inst.loc h.queues) [] ++ in_all_queues (groups_at l gs)
    by_test true = refl
    by_test false = refl
queued-next l (h ∷ gs) (suc i) g is =
    let e : suc i + 1 ≡ suc (i + 1) = omega arith in
    rw e (queued-next l gs i g is)

-- a group at the location, and one that isn't
pub queued-in : (l : Loc) (gs : List Group) (i : ℕ) (g : Group) (old new done : List Waiting)
    → slice_get gs i ≡ Some g → same_loc l g.told.inst.loc ≡ true
    → new ≡ old ++ in_queues l g.queues → old ++ in_all_queues (groups_at l (drop i gs)) ≡ done
    → new ++ in_all_queues (groups_at l (drop (i + 1) gs)) ≡ done
queued-in l gs i g old new done is here more was =
    let rest = in_all_queues (groups_at l (drop (i + 1) gs)) in
    stepped old new (in_queues l g.queues) rest (in_all_queues (groups_at l (drop i gs))) done more
    (queued-next l gs i g is ∙ ap (λ b. cond b (in_queues g.told.inst.loc g.queues) [] ++ rest) here
    ∙ ap (λ k. in_queues k g.queues ++ rest) (sym (same_loc_is l g.told.inst.loc here))) was

pub queued-out : (l : Loc) (gs : List Group) (i : ℕ) (g : Group) (old done : List Waiting)
    → slice_get gs i ≡ Some g → same_loc l g.told.inst.loc ≡ false
    → old ++ in_all_queues (groups_at l (drop i gs)) ≡ done
    → old ++ in_all_queues (groups_at l (drop (i + 1) gs)) ≡ done
queued-out l gs i g old done is other was =
    let rest = in_all_queues (groups_at l (drop (i + 1) gs)) in
    ap (λ xs. old ++ xs) (sym (queued-next l gs i g is
    ∙ ap (λ b. cond b (in_queues g.told.inst.loc g.queues) [] ++ rest) other)) ∙ was
