-- The places of a level become locations, one after another.
use Rattle.std.proofs.Common.{◌≡◌, Option, Some, None, Bool, true, false, cond, refl, sym, ap, ◌∙◌}
use Rattle.std.proofs.Common.{subst, arith}
use Rattle.chem_model.specs.declared.name.Loc.{Loc}
use Rattle.chem_model.specs.declared.name.Name.TheVariants as name
use Rattle.chem_model.specs.declared.name.Ref.{Ref}
use Rattle.chem_model.specs.declared.name.Ref.TheVariants.{Known}
use Rattle.chem_model.specs.Process.{Rule, Place, no_definition, and_also, clauses}
use Rattle.chem_model.specs.Bag.{one, bag, ◌⊕◌}
use Rattle.chem_model.specs.Fill.{fill_pats, fill, fill_definitions}
use Rattle.chem_model.specs.Solution.{Places, coded_located_process, coded_located_definition, live}
use Rattle.chem_model.specs.Solution.{is_there, root, same_loc, born, at}
use Rattle.chem_model.specs.Heating.{Heats, place}
use Rattle.chem_model.specs.Reduction.{IsReached, heats}
use Rattle.chem_model.specs.Pour.{births_of, loc_or}
use Rattle.chem_laws.proofs.Within.{same_loc_is}
use Rattle.chem_laws.proofs.Places.{live_parts, live_kept}
use Rattle.chem_laws.proofs.Parts.{born_all, rules_left, bodies_left, PlacesReached}
use Rattle.chem_laws.proofs.Reached.{chain_trans, state, reached_again, regroup}

-- ---- a new location leaves the others as they are

pub born_other : (pl : Places) (a : Loc) (h : Option Loc) (l : Loc) → pl a ≡ None
    → is_there (pl l) ≡ true → born pl a h l ≡ pl l
born_other pl a h l new there = go (same_loc a l) refl
  where
    go : (t : Bool) → same_loc a l ≡ t
        → cond t (Some (record { host = h; marked = false })) (pl l) ≡ pl l
    go true e =
        let absent : is_there (pl l) ≡ false =
        ap (λ q. is_there (pl q)) (sym (same_loc_is a l e)) ∙ ap is_there new in
        cc
    go false e = refl

-- a live location stays live, and keeps its root
pub live_born : (pl : Places) (a : Loc) (h : Option Loc) (l : Loc) → pl a ≡ None
    → is_there (pl (root pl l)) ≡ true → live pl l ≡ true
    → (live (born pl a h) l ≡ true) × (root (born pl a h) l ≡ root pl l)
live_born pl a h l new root_there is_live =
    live_kept pl (born pl a h) l (born_other pl a h l new (live_parts pl l is_live).0)
    (born_other pl a h (root pl l) new root_there) is_live

pub places_reached : PlacesReached
places_reached seen no_definition pl l r m d q tr is_live at_r there fresh =
    reached_again seen pl _ _ _ _ tr (λ x. refl) (λ x. omega arith)
places_reached seen (and_also (Rule ps p) ds) pl l r m d q tr is_live at_r there fresh =
    let rule = one coded_located_definition (l, Rule (fill_pats m ps) (fill m p)) in
    chain_trans (reached_again seen pl _
    (bag coded_located_definition (at l (clauses (fill_definitions m ds))) ⊕ (rule ⊕ d)) q q tr
    (λ x. omega arith) (λ x. refl))
    (chain_trans (places_reached seen ds pl l r m (rule ⊕ d) q tr is_live at_r there fresh)
    (reached_again seen _ _ _ _ _ tr (λ x. omega arith) (λ x. refl)))
places_reached seen (and_also (Place x es p) ds) pl l r m d q tr is_live at_r there fresh =
    let a = fresh.0 in
    let new = fresh.2 in
    let fs = fill_definitions m es in
    let body = fill m p in
    let others = bag coded_located_definition (at l (clauses (fill_definitions m ds))) in
    let level = bag coded_located_definition (at a (clauses fs)) in
    let root_there = subst (λ (z : Loc). is_there (pl z) ≡ true) (sym at_r) there in
    let kept_live = live_born pl a (Some r) l new root_there is_live in
    let whole = one coded_located_definition (l, Place (Known (name.Place a)) fs body) in
    let opened = one coded_located_process (a, body) in
    let step : Heats (state pl ((whole ⊕ others) ⊕ d) q tr)
    (state (born pl a (Some r)) (level ⊕ (others ⊕ d)) (opened ⊕ q) tr) =
    place l a fs body (others ⊕ d) is_live new (λ i z. regroup (whole z) (others z) (d z) i)
    (λ i. state (born pl a (Some (sym at_r i))) (level ⊕ (others ⊕ d)) (opened ⊕ q) tr) in
    let later =
    places_reached seen ds (born pl a (Some r)) l r m (level ⊕ d) (opened ⊕ q) tr kept_live.0
    (kept_live.1 ∙ at_r) (ap is_there (born_other pl a (Some r) r new there) ∙ there) fresh.3 in
    let whole_chain = heats step (chain_trans (reached_again seen (born pl a (Some r)) _
    (others ⊕ (level ⊕ d)) _ (opened ⊕ q) tr (λ z. omega arith) (λ z. refl))
    (chain_trans later (reached_again seen _ _ _ _ _ tr (λ z. omega arith) (λ z. omega arith)))) in
    subst (λ (y : Ref). IsReached seen
    (state (born_all (born pl (loc_or r y) (Some r)) (births_of r m ds))
    ((bag coded_located_definition (at (loc_or l y) (clauses fs)) ⊕ rules_left l m ds) ⊕ d)
    ((one coded_located_process (loc_or l y, body) ⊕ bodies_left l m ds) ⊕ q) tr)
    (state pl ((one coded_located_definition (l, Place y fs body) ⊕ others) ⊕ d) q tr))
    (sym fresh.1) whole_chain
