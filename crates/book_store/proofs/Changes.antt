-- What births, a move and a mark change of the roots of locations, and of which of them are dead.
use Rattle.std.proofs.Common.{◌≡◌, Option, Some, None, Bool, true, false, cond, refl, ap, sym, ◌∙◌}
use Rattle.std.proofs.Common.{◌||◌, inl, inr, is_some}
use Rattle.std.proofs.lemmas.Bool.{or_left, or_right, or_parts}
use Rattle.chem_model.specs.declared.name.Loc.{Loc}
use Rattle.chem_model.specs.Solution.{Standing, Places, same_loc, is_there, is_marked, host_of}
use Rattle.chem_model.specs.Solution.{or_itself, root, within, dead, live, with_host, with_mark}
use Rattle.chem_model.specs.Solution.{rehosted, marked}
use Rattle.chem_laws.proofs.Lists.{either_true}
use Rattle.chem_laws.proofs.Within.{same_loc_is, same_loc_refl}
use Rattle.chem_laws.proofs.Places.{live_parts}
use Rattle.chem_laws.proofs.Requests.{host_there, host_marked, new_host, mark_there, mark_host}
use Rattle.book_store.specs.Asked.{has_host}

pub false_true : {X : Type 0} (t : Bool) → t ≡ false → t ≡ true → X
false_true t e f = let wrong : false ≡ true = sym e ∙ f in cc

-- ---- maps that agree at a location, and at its root

pub root_at : (pl new : Places) (l : Loc) → new l ≡ pl l → root new l ≡ root pl l
root_at pl new l e = ap (λ (o : Option Standing). or_itself (host_of o) l) e

pub host_at : (pl new : Places) (l : Loc) → new l ≡ pl l → has_host new l ≡ has_host pl l
host_at pl new l e = ap (λ (o : Option Standing). is_some (host_of o)) e

dead_by : (pl new : Places) (l : Loc) → is_marked (new l) ≡ is_marked (pl l)
    → root new l ≡ root pl l → is_marked (new (root pl l)) ≡ is_marked (pl (root pl l))
    → dead new l ≡ dead pl l
dead_by pl new l here same above =
    ap (λ (t : Bool). t || is_marked (new (root new l))) here
    ∙ ap (λ (t : Bool). is_marked (pl l) || t) (ap (λ (q : Loc). is_marked (new q)) same ∙ above)

pub dead_at : (pl new : Places) (l : Loc) → new l ≡ pl l → new (root pl l) ≡ pl (root pl l)
    → dead new l ≡ dead pl l
dead_at pl new l here above =
    dead_by pl new l (ap is_marked here) (root_at pl new l here) (ap is_marked above)

-- what is dead stays so where its root stays, and marks do
dead_kept : (pl new : Places) (l : Loc)
    → ((q : Loc) → is_marked (pl q) ≡ true → is_marked (new q) ≡ true) → root new l ≡ root pl l
    → dead pl l ≡ true → dead new l ≡ true
dead_kept pl new l marks same d =
    elim (either_true (is_marked (pl l)) (is_marked (pl (root pl l))) d) [
      | inl here ↦ or_left (is_marked (new l)) (is_marked (new (root new l))) (marks l here)
      | inr above ↦ or_right (is_marked (new l)) (is_marked (new (root new l)))
          (ap (λ (q : Loc). is_marked (new q)) same ∙ marks (root pl l) above)
    ]

marked_there : (o : Option Standing) → is_marked o ≡ true → is_there o ≡ true
marked_there None h = cc
marked_there (Some s) h = refl

hosted_there : (o : Option Standing) → is_some (host_of o) ≡ true → is_there o ≡ true
hosted_there None h = cc
hosted_there (Some s) h = refl

-- what is dead is there
dead_there : (pl : Places) (l : Loc) → dead pl l ≡ true → is_there (pl l) ≡ true
dead_there pl l d = go (pl l) refl
  where
    go : (o : Option Standing) → pl l ≡ o → is_there o ≡ true
    go (Some s) e = refl
    go None e =
        let same : root pl l ≡ l = ap (λ (o : Option Standing). or_itself (host_of o) l) e in
        let unmarked : is_marked (pl l) ≡ false = ap is_marked e in
        elim (either_true (is_marked (pl l)) (is_marked (pl (root pl l))) d) [
          | inl here ↦ false_true (is_marked (pl l)) unmarked here
          | inr above ↦ false_true (is_marked (pl l)) unmarked
              (sym (ap (λ (q : Loc). is_marked (pl q)) same) ∙ above)
        ]

-- what can't be met stays so: what is dead stays dead, what has a host keeps one, and what is there
-- without one stays so
pub record Follows (pl new : Places) : Type 0 where
  pub dies : (l : Loc) → dead pl l ≡ true → dead new l ≡ true
  pub hosted : (l : Loc) → has_host pl l ≡ true → has_host new l ≡ true
  pub free : (l : Loc) → is_there (pl l) ≡ true → has_host pl l ≡ false
      → (is_there (new l) ≡ true) × (has_host new l ≡ false)

-- ---- births

-- each location that is there stays as it is
abbrev pub Grows : Places → Places → Type 0
Grows pl new = (l : Loc) → is_there (pl l) ≡ true → new l ≡ pl l

-- and so is the root of each
abbrev pub RootsAreThere : Places → Type 0
RootsAreThere pl = (l : Loc) → is_there (pl l) ≡ true → is_there (pl (root pl l)) ≡ true

module _ (pl new : Places) (roots : RootsAreThere pl) (grows : Grows pl new) where
  pub grown_root : (l : Loc) → is_there (pl l) ≡ true → root new l ≡ root pl l
  grown_root l there = root_at pl new l (grows l there)

  pub grown_dead : (l : Loc) → is_there (pl l) ≡ true → dead new l ≡ dead pl l
  grown_dead l there = dead_at pl new l (grows l there) (grows (root pl l) (roots l there))

  pub grown_follows : Follows pl new
  grown_follows = record {
    dies = λ l d. grown_dead l (dead_there pl l d) ∙ d;
    hosted = λ l h. host_at pl new l (grows l (hosted_there (pl l) h)) ∙ h;
    free = λ l there h.
        (ap is_there (grows l there) ∙ there, host_at pl new l (grows l there) ∙ h);
  }

-- ---- a move: one location gets another host

host_kept : (o : Option Standing) (b : Loc) (t : Bool) → is_some (host_of o) ≡ true
    → is_some (host_of (cond t (with_host b o) o)) ≡ true
host_kept None b t h = cc
host_kept (Some s) b true h = refl
host_kept (Some s) b false h = h

pub moved_there : (pl : Places) (l b q : Loc)
    → is_there (rehosted pl l b q) ≡ is_there (pl q)
moved_there pl l b q = host_there (pl q) b (same_loc l q)

moved_mark : (pl : Places) (l b q : Loc) → is_marked (rehosted pl l b q) ≡ is_marked (pl q)
moved_mark pl l b q = host_marked (pl q) b (same_loc l q)

moved_same : (pl : Places) (l b q : Loc) → same_loc l q ≡ false → rehosted pl l b q ≡ pl q
moved_same pl l b q e = ap (λ (t : Bool). cond t (with_host b (pl q)) (pl q)) e

-- it stands at its new host
pub moved_root : (pl : Places) (l b q : Loc) → same_loc l q ≡ true → is_there (pl q) ≡ true
    → root (rehosted pl l b) q ≡ b
moved_root pl l b q e there =
    ap (λ (o : Option Loc). or_itself o q) (new_host (pl q) b (same_loc l q) e there)

-- and all others where they stood
pub other_root : (pl : Places) (l b q : Loc) → same_loc l q ≡ false
    → root (rehosted pl l b) q ≡ root pl q
other_root pl l b q e = root_at pl (rehosted pl l b) q (moved_same pl l b q e)

pub other_dead : (pl : Places) (l b q : Loc) → same_loc l q ≡ false
    → dead (rehosted pl l b) q ≡ dead pl q
other_dead pl l b q e = dead_by pl (rehosted pl l b) q (moved_mark pl l b q) (other_root pl l b q e)
    (moved_mark pl l b (root pl q))

pub moved_roots : (pl : Places) (l b : Loc) → is_there (pl b) ≡ true → RootsAreThere pl
    → RootsAreThere (rehosted pl l b)
moved_roots pl l b target roots q there = go (same_loc l q) refl
  where
    here : is_there (pl q) ≡ true
    here = sym (moved_there pl l b q) ∙ there

    go : (t : Bool) → same_loc l q ≡ t
        → is_there (rehosted pl l b (root (rehosted pl l b) q)) ≡ true
    go true e = ap (λ (x : Loc). is_there (rehosted pl l b x)) (moved_root pl l b q e here)
        ∙ moved_there pl l b b ∙ target
    go false e = ap (λ (x : Loc). is_there (rehosted pl l b x)) (other_root pl l b q e)
        ∙ moved_there pl l b (root pl q) ∙ roots q here

module _ (pl : Places) (l b : Loc) (alive : live pl l ≡ true) (has : has_host pl l ≡ true) where
  moved_dies : (q : Loc) → dead pl q ≡ true → dead (rehosted pl l b) q ≡ true
  moved_dies q d = go (same_loc l q) refl
    where
      go : (t : Bool) → same_loc l q ≡ t → dead (rehosted pl l b) q ≡ true
      go true e = false_true (dead pl l) (live_parts pl l alive).1
          (ap (dead pl) (same_loc_is l q e) ∙ d)
      go false e = other_dead pl l b q e ∙ d

  moved_free : (q : Loc) → is_there (pl q) ≡ true → has_host pl q ≡ false
      → (is_there (rehosted pl l b q) ≡ true) × (has_host (rehosted pl l b) q ≡ false)
  moved_free q there h = go (same_loc l q) refl
    where
      go : (t : Bool) → same_loc l q ≡ t
          → (is_there (rehosted pl l b q) ≡ true) × (has_host (rehosted pl l b) q ≡ false)
      go true e = false_true (has_host pl l) (ap (has_host pl) (same_loc_is l q e) ∙ h) has
      go false e = (
        moved_there pl l b q ∙ there,
        host_at pl (rehosted pl l b) q (moved_same pl l b q e) ∙ h,
      )

  pub moved_follows : Follows pl (rehosted pl l b)
  moved_follows = record {
    dies = moved_dies;
    hosted = λ q h. host_kept (pl q) b (same_loc l q) h;
    free = moved_free;
  }

-- ---- a mark

mark_kept : (o : Option Standing) (t : Bool) → is_marked o ≡ true
    → is_marked (cond t (with_mark o) o) ≡ true
mark_kept None t h = cc
mark_kept (Some s) true h = refl
mark_kept (Some s) false h = h

pub marked_root : (pl : Places) (l q : Loc) → root (marked pl l) q ≡ root pl q
marked_root pl l q = ap (λ (o : Option Loc). or_itself o q) (mark_host (pl q) (same_loc l q))

marked_host : (pl : Places) (l q : Loc) → has_host (marked pl l) q ≡ has_host pl q
marked_host pl l q = ap is_some (mark_host (pl q) (same_loc l q))

pub marked_follows : (pl : Places) (l : Loc) → Follows pl (marked pl l)
marked_follows pl l = record {
  dies = λ q d. dead_kept pl (marked pl l) q (λ x h. mark_kept (pl x) (same_loc l x) h)
      (marked_root pl l q) d;
  hosted = λ q h. marked_host pl l q ∙ h;
  free = λ q there h.
      (mark_there (pl q) (same_loc l q) ∙ there, marked_host pl l q ∙ h);
}

apart : (a b : Loc) → same_loc a b ≡ false → same_loc b a ≡ false
apart a b h = go (same_loc b a) refl
  where
    go : (t : Bool) → same_loc b a ≡ t → t ≡ false
    go true e = false_true (same_loc a b) h
        (ap (same_loc a) (same_loc_is b a e) ∙ same_loc_refl a)
    go false e = refl

other_mark : (pl : Places) (l q : Loc) → same_loc q l ≡ false
    → is_marked (marked pl l q) ≡ is_marked (pl q)
other_mark pl l q h = ap (λ (t : Bool). is_marked (cond t (with_mark (pl q)) (pl q))) (apart q l h)

-- what isn't within the marked location is as dead as before
pub outside_dead : (pl : Places) (l q : Loc) → within pl q l ≡ false
    → dead (marked pl l) q ≡ dead pl q
outside_dead pl l q h =
    let out = or_parts (same_loc q l) (same_loc (root pl q) l) h in
    dead_by pl (marked pl l) q (other_mark pl l q out.0) (marked_root pl l q)
    (other_mark pl l (root pl q) out.1)
