-- Groups laid one after another are what they are where all are added first, and what is stuck is
-- put once.
use Rattle.std.proofs.Common.{◌≡◌, List, [], ◌∷◌, ◌++◌, true, refl, sym, ap, ◌∙◌, subst, append-nil}
use Rattle.chem_model.specs.declared.name.Loc.{Loc}
use Rattle.chem_model.specs.Each.{Each}
use Rattle.chem_laws.proofs.Lists.{Each-left}
use Rattle.wire_packet.specs.MessageFacts.{MessageParts}
use Rattle.wire_packet.specs.declared.packet.Waiting.{Waiting}
use Rattle.net_laws.specs.Site.{Told, Group, Site, told_in}
use Rattle.net_laws.specs.Net.{among, home_or}
use Rattle.net_laws.specs.Kept.{AreDisjoint, AreApart, IsKept}
use Rattle.net_laws.specs.Holding.{put, put_all, new_group, lay, lay_all}
use Rattle.net_laws.proofs.Holding.{MayWait, put_is, lay_is}
use Rattle.net_laws.proofs.Interleaved.{lay_put}
use Rattle.site_shelves.specs.inside.Index.{new_groups}

pub append-one : {X : Type 0} (xs : List X) (y : X) (ys : List X)
    → (xs ++ y ∷ []) ++ ys ≡ xs ++ y ∷ ys
append-one [] y ys = refl
append-one (x ∷ xs) y ys = ap (λ zs. x ∷ zs) (append-one xs y ys)

pub apart-left : (ds es : List Told) → AreApart (ds ++ es) → AreApart ds
apart-left [] es h = tt
apart-left (d ∷ ds) es h = (Each-left (AreDisjoint d) ds es h.0, apart-left ds es h.1)

pub apart-first : (ds : List Told) (d : Told) (es : List Told) → AreApart (ds ++ d ∷ es)
    → AreApart (ds ++ d ∷ [])
apart-first ds d es h = apart-left (ds ++ d ∷ []) es (subst AreApart (sym (append-one ds d es)) h)

pub apart-next : (ds : List Told) (d : Told) (es : List Told) → AreApart (ds ++ d ∷ es)
    → AreApart ((ds ++ d ∷ []) ++ es)
apart-next ds d es h = subst AreApart (sym (append-one ds d es)) h

-- they may be laid
pub record MayLay (ds : List Told) (s : Site) : Type 0 where
  pub kept : IsKept s
  pub here : Each (λ (d : Told). among s.locs d.inst.loc ≡ true) ds
  pub apart : AreApart (told_in s.groups ++ ds)

-- the first may be laid, and then the others may
first-apart : (d : Told) (ds : List Told) (s : Site) → MayLay (d ∷ ds) s
    → AreApart (told_in s.groups ++ d ∷ [])
first-apart d ds s may = apart-left (told_in s.groups ++ d ∷ []) ds
    (subst AreApart (sym (append-one (told_in s.groups) d ds)) may.apart)

pub others-may : (d : Told) (ds : List Told) (s : Site) → MayLay (d ∷ ds) s → MayLay ds (lay d s)
others-may d ds s may =
    let first = lay_is d s may.kept may.here.0 (first-apart d ds s may) in
    record {
      kept = first.kept;
      here = subst (λ (ls : List Loc). Each (λ (e : Told). among ls e.inst.loc ≡ true) ds)
          (sym first.locs) may.here.1;
      apart = subst (λ (es : List Told). AreApart (es ++ ds)) (sym first.told)
          (subst AreApart (sym (append-one (told_in s.groups) d ds)) may.apart);
    }

put-may : (ds : List Told) (l : Loc) (m : MessageParts) (s : Site) → MayLay ds s
    → MayWait s.locs (record { loc = l; msg = m }) → MayLay ds (put l m s)
put-may ds l m s may wait =
    let put = put_is l m s may.kept wait.0 wait.1 in
    record {
      kept = put.kept;
      here = subst (λ (ls : List Loc). Each (λ (e : Told). among ls e.inst.loc ≡ true) ds)
          (sym put.locs) may.here;
      apart = subst (λ (es : List Told). AreApart (es ++ ds)) (sym put.told) may.apart;
    }

-- ---- laying and putting

lay_all-put : (ds : List Told) (l : Loc) (m : MessageParts) (s : Site) → MayLay ds s
    → lay_all ds (put l m s) ≡ put l m (lay_all ds s)
lay_all-put [] l m s may = refl
lay_all-put (d ∷ ds) l m s may = ap (lay_all ds) (lay_put d l m s may.kept)
    ∙ lay_all-put ds l m (lay d s) (others-may d ds s may)

lay_all-put_all : (ws : List Waiting) (ds : List Told) (s : Site) → MayLay ds s
    → Each (MayWait s.locs) ws → lay_all ds (put_all ws s) ≡ put_all ws (lay_all ds s)
lay_all-put_all [] ds s may waits = refl
lay_all-put_all (w ∷ ws) ds s may waits =
    let is = put_is w.loc w.msg s may.kept waits.0.0 waits.0.1 in
    lay_all-put_all ws ds (put w.loc w.msg s) (put-may ds w.loc w.msg s may waits.0)
    (subst (λ (ls : List Loc). Each (MayWait ls) ws) (sym is.locs) waits.1)
    ∙ ap (put_all ws) (lay_all-put ds w.loc w.msg s may)

-- where nothing is stuck, the groups are added
bare-laid : (ds : List Told) (s : Site) → s.stuck ≡ []
    → lay_all ds s ≡ record s { groups = s.groups ++ new_groups ds }
bare-laid [] s none = ap (λ (gs : List Group). record s { groups = gs }) (sym (append-nil s.groups))
bare-laid (d ∷ ds) s none =
    let first : lay d s ≡ record s { groups = s.groups ++ new_group d ∷ []; stuck = [] } =
    ap (λ ws. put_all ws (record s { groups = s.groups ++ new_group d ∷ []; stuck = [] })) none in
    ap (lay_all ds) first
    ∙ bare-laid ds (record s { groups = s.groups ++ new_group d ∷ []; stuck = [] }) refl
    ∙ ap (λ (gs : List Group). record s { groups = gs; stuck = [] })
    (append-one s.groups (new_group d) (new_groups ds))
    ∙ ap (λ (ws : List Waiting).
    record s { groups = s.groups ++ new_group d ∷ new_groups ds; stuck = ws }) (sym none)

both-wait : (locs : List Loc) (ws : List Waiting)
    → Each (λ (w : Waiting). among locs w.loc ≡ true) ws
    → Each (λ (w : Waiting). home_or w.loc w.msg.on ≡ w.loc) ws → Each (MayWait locs) ws
both-wait locs [] here home = tt
both-wait locs (w ∷ ws) here home = ((here.0, home.0), both-wait locs ws here.1 home.1)

without-stuck : (s : Site) → IsKept s → IsKept (record s { stuck = [] })
without-stuck s kept = record {
  queues = kept.queues;
  stuck = tt;
  apart = kept.apart;
  groups_here = kept.groups_here;
  stuck_here = tt;
  stuck_home = tt;
  requests_here = kept.requests_here;
}

-- one group or more
pub laid-all : (d : Told) (ds : List Told) (s : Site) → MayLay (d ∷ ds) s
    → lay_all (d ∷ ds) s
    ≡ put_all s.stuck (record s { groups = s.groups ++ new_groups (d ∷ ds); stuck = [] })
laid-all d ds s may =
    let empty : MayLay (d ∷ ds) (record s { stuck = [] }) =
    record { kept = without-stuck s may.kept; here = may.here; apart = may.apart } in
    let bare : Site = record s { groups = s.groups ++ new_group d ∷ []; stuck = [] } in
    lay_all-put_all s.stuck ds bare (others-may d ds (record s { stuck = [] }) empty)
    (both-wait s.locs s.stuck may.kept.stuck_here may.kept.stuck_home)
    ∙ ap (put_all s.stuck) (bare-laid ds bare refl
    ∙ ap (λ (gs : List Group). record s { groups = gs; stuck = [] })
    (append-one s.groups (new_group d) (new_groups ds)))
