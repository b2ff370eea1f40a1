-- The map of a list of locations, after each change.
use Rattle.std.proofs.Common.{◌≡◌, ℕ, Bool, true, false, cond, List, [], ◌∷◌, ◌++◌, Some, None}
use Rattle.std.proofs.Common.{refl, sym, ap, ◌∙◌}
use Rattle.chem_model.specs.declared.name.Loc.{Loc}
use Rattle.chem_model.specs.declared.numbered.Placed.{Placed}
use Rattle.chem_model.specs.Solution.{same_loc, with_host, with_mark, rehosted, marked}
use Rattle.chem_model.specs.Numbered.{standing}
use Rattle.chem_model.specs.Opening.{root_of}
use Rattle.chem_model.specs.Apply.{with_hosts, with_marks}
use Rattle.loc_tree.specs.Laws.{born_under}
use Rattle.loc_tree.proofs.Spots.{same_loc_is, same_loc_refl}

apart_from : (p a l : Loc) → same_loc p a ≡ false → p ≡ l → (t : Bool) → same_loc a l ≡ t
    → t ≡ false
apart_from p a l e h true c =
    let same : same_loc p a ≡ true =
    ap (λ q. same_loc q a) (h ∙ sym (same_loc_is a l c)) ∙ same_loc_refl a in
    cc
apart_from p a l e h false c = refl

pub standing_hosts : (ps : List Placed) (a h l : Loc)
    → standing (with_hosts a h ps) l ≡ rehosted (standing ps) a h l
standing_hosts [] a h l = go (same_loc a l)
  where
    go : (t : Bool) → None ≡ cond t (with_host h None) None
    go true = refl
    go false = refl
standing_hosts (p ∷ ps) a h l =
    go (same_loc p.loc a) refl (same_loc p.loc l) refl (standing_hosts ps a h l)
  where
    go : (t : Bool) → same_loc p.loc a ≡ t → (u : Bool) → same_loc p.loc l ≡ u
        → standing (with_hosts a h ps) l ≡ rehosted (standing ps) a h l
        → cond (same_loc (cond t (record p { host = Some h }) p).loc l) (Some (record {
          host = (cond t (record p { host = Some h }) p).host;
          marked = (cond t (record p { host = Some h }) p).marked;
        })) (standing (with_hosts a h ps) l)
        ≡ cond (same_loc a l) (with_host h (cond (same_loc p.loc l)
        (Some (record { host = p.host; marked = p.marked })) (standing ps l)))
        (cond (same_loc p.loc l) (Some (record { host = p.host; marked = p.marked }))
        (standing ps l))
    go true c true d ih =
        let at_l : same_loc a l ≡ true = ap (λ q. same_loc q l) (sym (same_loc_is p.loc a c)) ∙ d in
        rw (d, at_l) refl
    go true c false d ih = rw d ih
    go false c true d ih =
        let other : same_loc a l ≡ false =
        apart_from p.loc a l c (same_loc_is p.loc l d) (same_loc a l) refl in
        rw (d, other) refl
    go false c false d ih = rw d ih

pub standing_marks : (ps : List Placed) (a l : Loc)
    → standing (with_marks a ps) l ≡ marked (standing ps) a l
standing_marks [] a l = go (same_loc a l)
  where
    go : (t : Bool) → None ≡ cond t (with_mark None) None
    go true = refl
    go false = refl
standing_marks (p ∷ ps) a l =
    go (same_loc p.loc a) refl (same_loc p.loc l) refl (standing_marks ps a l)
  where
    go : (t : Bool) → same_loc p.loc a ≡ t → (u : Bool) → same_loc p.loc l ≡ u
        → standing (with_marks a ps) l ≡ marked (standing ps) a l
        → cond (same_loc (cond t (record p { marked = true }) p).loc l) (Some (record {
          host = (cond t (record p { marked = true }) p).host;
          marked = (cond t (record p { marked = true }) p).marked;
        })) (standing (with_marks a ps) l)
        ≡ cond (same_loc a l) (with_mark (cond (same_loc p.loc l)
        (Some (record { host = p.host; marked = p.marked })) (standing ps l)))
        (cond (same_loc p.loc l) (Some (record { host = p.host; marked = p.marked }))
        (standing ps l))
    go true c true d ih =
        let at_l : same_loc a l ≡ true = ap (λ q. same_loc q l) (sym (same_loc_is p.loc a c)) ∙ d in
        rw (d, at_l) refl
    go true c false d ih = rw d ih
    go false c true d ih =
        let other : same_loc a l ≡ false =
        apart_from p.loc a l c (same_loc_is p.loc l d) (same_loc a l) refl in
        rw (d, other) refl
    go false c false d ih = rw d ih

pub standing_birth : (ps : List Placed) (a l : Loc) (i : ℕ) → standing ps a ≡ None
    → standing (ps ++ born_under i a ∷ []) l
    ≡ cond (same_loc a l) (Some (record { host = Some (root_of i); marked = false }))
    (standing ps l)
standing_birth [] a l i gone = refl
standing_birth (p ∷ ps) a l i gone =
    go (same_loc p.loc a) refl gone (same_loc p.loc l) refl (standing_birth ps a l i)
  where
    go : (t : Bool) → same_loc p.loc a ≡ t
        → cond t (Some (record { host = p.host; marked = p.marked })) (standing ps a) ≡ None
        → (u : Bool) → same_loc p.loc l ≡ u
        → (standing ps a ≡ None → standing (ps ++ born_under i a ∷ []) l ≡ cond (same_loc a l)
        (Some (record { host = Some (root_of i); marked = false })) (standing ps l))
        → cond u (Some (record { host = p.host; marked = p.marked }))
        (standing (ps ++ born_under i a ∷ []) l)
        ≡ cond (same_loc a l) (Some (record { host = Some (root_of i); marked = false }))
        (cond u (Some (record { host = p.host; marked = p.marked })) (standing ps l))
    go true c g u d rest = cc
    go false c g true d rest =
        let other : same_loc a l ≡ false =
        apart_from p.loc a l c (same_loc_is p.loc l d) (same_loc a l) refl in
        rw other refl
    go false c g false d rest = rest g
