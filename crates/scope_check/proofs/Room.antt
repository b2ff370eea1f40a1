-- A member's scopes are among those of the rest of its list.
use Rattle.std.proofs.Common.{◌≡◌, ℕ, zero, suc, ◌<◌, ◌≤◌, List, [], ◌∷◌, length, get_or, drop}
use Rattle.std.proofs.Common.{arith, ap}
use Rattle.join_parse.specs.Source.{Process, Definition, processes, definitions}
use Rattle.join_parse.specs.declared.tree.PlaceTree.{PlaceTree}
use Rattle.scope_check.specs.Blocks.{place_of, sites_of, scopes_in, scopes_in_all, scopes_in_def}
use Rattle.scope_check.specs.Blocks.{scopes_in_defs}

room-get_or : (ps : List Process) (i : ℕ) (d : Process) → i < length ps
    → scopes_in (get_or ps i d) ≤ scopes_in_all (processes (drop i ps))
room-get_or [] i d h = absurd (omega arith)
room-get_or (p ∷ ps) zero d h = omega arith
room-get_or (p ∷ ps) (suc i) d h = room-get_or ps i d (omega arith)

pub room-member : (ps : List Process) (i : ℕ) (p : Process) → i < length ps → p ≡ get_or ps i p
    → scopes_in p ≤ scopes_in_all (processes (drop i ps))
room-member ps i p h e = omega (arith, room-get_or ps i p h, ap scopes_in e)

room-get_or-defs : (ds : List Definition) (i : ℕ) (d : Definition) → i < length ds
    → scopes_in_def (get_or ds i d) ≤ scopes_in_defs (definitions (drop i ds))
room-get_or-defs [] i d h = absurd (omega arith)
room-get_or-defs (p ∷ ds) zero d h = omega arith
room-get_or-defs (p ∷ ds) (suc i) d h = room-get_or-defs ds i d (omega arith)

pub room-defs-member : (ds : List Definition) (i : ℕ) (d : Definition) → i < length ds
    → d ≡ get_or ds i d → scopes_in_def d ≤ scopes_in_defs (definitions (drop i ds))
room-defs-member ds i d h e = omega (arith, room-get_or-defs ds i d h, ap scopes_in_def e)

room-get_or-sites : (ss : List PlaceTree) (i : ℕ) (d : PlaceTree) → i < length ss
    → scopes_in_def (place_of (get_or ss i d)) ≤ scopes_in_defs (sites_of (drop i ss))
room-get_or-sites [] i d h = absurd (omega arith)
room-get_or-sites (p ∷ ss) zero d h = omega arith
room-get_or-sites (p ∷ ss) (suc i) d h = room-get_or-sites ss i d (omega arith)

pub room-site : (ss : List PlaceTree) (i : ℕ) (d : PlaceTree) → i < length ss → d ≡ get_or ss i d
    → scopes_in_def (place_of d) ≤ scopes_in_defs (sites_of (drop i ss))
room-site ss i d h e =
    omega (arith, room-get_or-sites ss i d h, ap (λ x. scopes_in_def (place_of x)) e)
