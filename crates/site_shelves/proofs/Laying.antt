-- Groups to come, one more.
use Rattle.std.proofs.Common.{◌≡◌, ℕ, ◌+◌, List, [], ◌∷◌, ◌++◌, length, refl, sym, ap, ◌∙◌, subst}
use Rattle.std.proofs.Common.{arith}
use Rattle.net_laws.specs.Site.{Told, Group, told_in}
use Rattle.net_laws.specs.Kept.{AreApart}
use Rattle.net_laws.specs.Holding.{new_group}
use Rattle.site_shelves.specs.declared.told.NewGroup.{NewGroup}
use Rattle.site_shelves.specs.declared.told.Spots.{Spots}
use Rattle.site_shelves.specs.inside.Index.{Rows, groups_of, told_of, new_groups, HasRoom}
use Rattle.site_shelves.specs.inside.New.{told_of_new, widths}
use Rattle.site_shelves.proofs.Putting.{told-more}
use Rattle.site_shelves.proofs.LaidAll.{append-one, apart-next}

pub told-new-more : (rs : List NewGroup) (r : NewGroup)
    → told_of_new (rs ++ r ∷ []) ≡ told_of_new rs ++ r.idle.told ∷ []
told-new-more [] r = refl
told-new-more (x ∷ rs) r = ap (λ ds. x.idle.told ∷ ds) (told-new-more rs r)

pub groups-next : (qs new : Rows) (d : Told) (ds : List Told) (whole : List Group)
    → groups_of new ≡ groups_of qs ++ new_group d ∷ [] → groups_of qs ++ new_groups (d ∷ ds) ≡ whole
    → groups_of new ++ new_groups ds ≡ whole
groups-next qs new d ds whole is done = ap (λ gs. gs ++ new_groups ds) is
    ∙ append-one (groups_of qs) (new_group d) (new_groups ds) ∙ done

pub told-next : (qs new : Rows) (d : Told) → groups_of new ≡ groups_of qs ++ new_group d ∷ []
    → told_of new ≡ told_of qs ++ d ∷ []
told-next qs new d is = ap told_in is ∙ told-more (groups_of qs) (new_group d)

pub apart-of-next : (qs new : Rows) (d : Told) (ds : List Told)
    → groups_of new ≡ groups_of qs ++ new_group d ∷ [] → AreApart (told_of qs ++ d ∷ ds)
    → AreApart (told_of new ++ ds)
apart-of-next qs new d ds is apart = subst (λ (es : List Told). AreApart (es ++ ds))
    (sym (told-next qs new d is)) (apart-next (told_of qs) d ds apart)

pub room-next : (spots : Spots) (r : NewGroup) (rs : List NewGroup)
    → HasRoom spots (length (r ∷ rs)) (widths (r ∷ rs))
    → HasRoom spots (length rs + 1) (widths rs + r.width)
room-next spots r rs room =
    let groups : length (r ∷ rs) ≡ length rs + 1 = omega arith in
    let channels : widths (r ∷ rs) ≡ widths rs + r.width = omega arith in
    subst (λ (n : ℕ). HasRoom spots n (widths rs + r.width)) groups
    (subst (λ (n : ℕ). HasRoom spots (length (r ∷ rs)) n) channels room)
