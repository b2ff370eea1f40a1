-- What a parcel brings may come to a site, and is taken in.
use Rattle.std.proofs.Common.{◌≡◌, ℕ, Bool, true, false, List, [], ◌∷◌, ◌++◌, refl, sym, ap, ◌∙◌}
use Rattle.std.proofs.Common.{subst, arith}
use Rattle.std.specs.Prelude.{◌||◌}
use Rattle.chem_model.specs.declared.name.Loc.{Loc}
use Rattle.chem_model.specs.declared.name.Name.{Name}
use Rattle.chem_model.specs.declared.name.Name.TheVariants as name
use Rattle.chem_model.specs.Each.{Each}
use Rattle.chem_model.specs.Solution.{same_loc}
use Rattle.chem_laws.proofs.Within.{same_loc_refl}
use Rattle.wire_packet.specs.GroupFacts.{GroupParts, RequestParts}
use Rattle.wire_packet.specs.declared.packet.Waiting.{Waiting}
use Rattle.wire_packet.specs.ParcelFacts.{ParcelParts, IsAtHome, IsParcel}
use Rattle.env_store.specs.CodeParts.{CodeParts}
use Rattle.net_laws.specs.Site.{Told, Site, told_in}
use Rattle.net_laws.specs.Net.{among, home_or}
use Rattle.net_laws.specs.Kept.{AreApart}
use Rattle.net_laws.specs.ByCode.{told_by}
use Rattle.net_laws.specs.Parcels.{all_told, load_of, take_in}
use Rattle.site_solution.specs.declared.coming.Coming.{Coming}
use Rattle.site_shelves.specs.CanLay.{HasNumbers}
use Rattle.site_shelves.specs.Held.{taken_at}
use Rattle.site_shelves.specs.Counted.{over_stuck, id_of, over_requests}
use Rattle.site_shelves.specs.inside.New.{told_of_new}
use Rattle.site_solution.specs.inside.Split.{with_more}
use Rattle.site_solution.specs.inside.Coming.{CanAdd, IsAt, added}
use Rattle.site_solution.specs.Parcels.{CanTakeIn}
use Rattle.site_solution.specs.inside.Carried.{IsCarried}
use Rattle.site_shelves.proofs.Fronts.{taken-nothing}

pub among-last : (xs : List Loc) (l : Loc) → among (xs ++ l ∷ []) l ≡ true
among-last [] l = ap (λ b. b || false) (same_loc_refl l)
among-last (x ∷ xs) l = by_test (same_loc x l) (among-last xs l)
  where
    by_test : (b : Bool) → among (xs ++ l ∷ []) l ≡ true → b || among (xs ++ l ∷ []) l ≡ true
    by_test true rest = refl
    by_test false rest = rest

among-at : (xs : List Loc) (l a : Loc) → a ≡ l → among (xs ++ l ∷ []) a ≡ true
among-at xs l a is = ap (among (xs ++ l ∷ [])) is ∙ among-last xs l

home-at : (l : Loc) (n : Name) → IsAtHome l n → home_or l n ≡ l
home-at l (name.Seen i) home = refl
home-at l (name.Place a) home = refl
home-at l (name.Chan s k h) home = home
home-at l (name.Num n) home = refl
home-at l (name.Op i) home = refl

told-here : (c : CodeParts) (xs : List Loc) (l : Loc) (gs : List GroupParts)
    → Each (λ (g : GroupParts). g.loc ≡ l) gs
    → Each (λ (d : Told). among (xs ++ l ∷ []) d.inst.loc ≡ true) (all_told (told_by c) gs)
told-here c xs l [] here = tt
told-here c xs l (g ∷ gs) here = (among-at xs l g.loc here.0, told-here c xs l gs here.1)

waiting-here : (xs : List Loc) (l : Loc) (ws : List Waiting) → Each (λ (w : Waiting). w.loc ≡ l) ws
    → Each (λ (w : Waiting). IsAtHome l w.msg.on) ws → Each (IsAt (xs ++ l ∷ [])) ws
waiting-here xs l [] here home = tt
waiting-here xs l (w ∷ ws) here home = (
  (
    among-at xs l w.loc here.0,
    subst (λ (a : Loc). home_or a w.msg.on ≡ a) (sym here.0) (home-at l w.msg.on home.0),
  ),
  waiting-here xs l ws here.1 home.1,
)

requests-here : (xs : List Loc) (l : Loc) (qs : List RequestParts)
    → Each (λ (q : RequestParts). q.loc ≡ l) qs
    → Each (λ (q : RequestParts). among (xs ++ l ∷ []) q.loc ≡ true) qs
requests-here xs l [] here = tt
requests-here xs l (q ∷ qs) here = (among-at xs l q.loc here.0, requests-here xs l qs here.1)

pub carried-can : (c : CodeParts) (p : ParcelParts) (next : ℕ) (m : Coming) (s : Site) → IsParcel p
    → CanTakeIn (load_of (told_by c) p) s → IsCarried c p next m → CanAdd (p.loc ∷ []) m s
carried-can c p next m s parcel can is = record {
  locs = (can.new, tt);
  groups = is.new;
  laid_here = subst
      (λ (ds : List Told). Each (λ (d : Told). among (s.locs ++ p.loc ∷ []) d.inst.loc ≡ true) ds)
      (sym is.told) (told-here c s.locs p.loc p.groups parcel.groups_here);
  apart = subst (λ (ds : List Told). AreApart (told_in s.groups ++ ds)) (sym is.told) can.apart;
  numbers = subst (λ (ds : List Told). Each HasNumbers ds) (sym is.told) can.numbers;
  waiting =
      subst (λ (ws : List Waiting). Each (IsAt (s.locs ++ p.loc ∷ [])) ws) (sym is.waiting_are)
      (waiting-here s.locs p.loc p.waiting parcel.waiting_here parcel.waiting_at_home);
  requests = subst (λ (qs : List RequestParts).
      Each (λ (q : RequestParts). among (s.locs ++ p.loc ∷ []) q.loc ≡ true) qs)
      (sym is.requests_are) (requests-here s.locs p.loc p.requests parcel.requests_here);
  once = λ i.
      let o = can.once i in
      omega (arith, ap (over_stuck (id_of i)) is.waiting_are, ap (over_requests i) is.requests_are);
}

pub carried-in : (c : CodeParts) (p : ParcelParts) (m : Coming) (s : Site) → IsCarried c p s.made m
    → added (p.loc ∷ []) m (taken_at 0 [] s) ≡ take_in (load_of (told_by c) p) s
carried-in c p m s is =
    ap (added (p.loc ∷ []) m) (taken-nothing 0 s)
    ∙ ap (λ (n : ℕ).
    with_more n (p.loc ∷ []) (told_of_new m.groups.items) m.waiting.items m.requests.items s)
    is.next_is
    ∙ ap (λ ds. with_more s.made (p.loc ∷ []) ds m.waiting.items m.requests.items s) is.told
    ∙ ap (λ ws. with_more s.made (p.loc ∷ []) (all_told (told_by c) p.groups) ws m.requests.items s)
    is.waiting_are
    ∙ ap (λ qs. with_more s.made (p.loc ∷ []) (all_told (told_by c) p.groups) p.waiting qs s)
    is.requests_are
