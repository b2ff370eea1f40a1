use Rattle.std.proofs.Common.{◌∷◌, [], sym, subst, ◌∙◌, ap}
use Rattle.wire_packet.specs.ParcelFacts.{ParcelParts}
use Rattle.net_laws.specs.Site.{Site}
use Rattle.site_shelves.specs.Held.{taken_at}
use Rattle.site_solution.specs.inside.Coming.{CanAdd, added}
use Rattle.site_solution.specs.inside.Carried.{IsCarried}
use Rattle.site_solution.proofs.Keeping.{on-failure}
use Rattle.site_solution.proofs.Keeping.{on-success}
use Rattle.site_solution.proofs.Carrying.{carried-can, carried-in}
use Rattle.site_solution.proofs.Arriving.{on_ok, taken_fits}
use Rattle.site_solution.proofs.site.Site.take_in.Goals as goal

pub add_all-requires : goal.add_all-requires
add_all-requires c =
    let loc = ap (λ (p : ParcelParts). p.loc) c.parcel.view_is in
    let is = subst (λ n. IsCarried c.args.code.now c.args.parcel.now n c.in_ok-coming.coming)
    c.made.ensures c.in_ok-coming.ensures.carried in
    subst (CanAdd (c.parcel.inside.loc ∷ []) c.in_ok-coming.coming) (sym c.expect_all.ensures)
    (subst (λ l. CanAdd (l ∷ []) c.in_ok-coming.coming c.args.self.now) (sym loc)
    (carried-can c.args.code.now c.args.parcel.now c.args.self.now.made c.in_ok-coming.coming
    c.args.self.now c.in_ok-coming.ensures.kept c.requires is))

pub returns-clause-ok : goal.returns-clause-ok
returns-clause-ok c =
    let loc = ap (λ (p : ParcelParts). p.loc) c.parcel.view_is in
    let is = subst (λ n. IsCarried c.args.code.now c.args.parcel.now n c.in_ok-coming.coming)
    c.made.ensures c.in_ok-coming.ensures.carried in
    on-success (λ s. s) _ c.add_all.result _ c.add_all.new.self c.add_all.ensures.ok
    (ap (λ (s : Site). added (c.parcel.inside.loc ∷ []) c.in_ok-coming.coming (taken_at 0 [] s))
    c.expect_all.ensures
    ∙ ap (λ l. added (l ∷ []) c.in_ok-coming.coming (taken_at 0 [] c.args.self.now)) loc
    ∙ carried-in c.args.code.now c.args.parcel.now c.in_ok-coming.coming c.args.self.now is)

pub returns-clause-keeps : goal.returns-clause-keeps
returns-clause-keeps c =
    let loc = ap (λ (p : ParcelParts). p.loc) c.parcel.view_is in
    let is = subst (λ n. IsCarried c.args.code.now c.args.parcel.now n c.in_ok-coming.coming)
    c.made.ensures c.in_ok-coming.ensures.carried in
    let can =
    carried-can c.args.code.now c.args.parcel.now c.args.self.now.made c.in_ok-coming.coming
    c.args.self.now c.in_ok-coming.ensures.kept c.requires is in
    on_ok _ c.add_all.result c.add_all.new.self _
    c.add_all.ensures.ok (λ was. taken_fits c.args.code.now c.args.parcel.now c.in_ok-coming.coming
    c.args.self.now c.add_all.new.self can c.site_is_kept.ensures.kept is
    (was
    ∙ ap (λ (s : Site). added (c.parcel.inside.loc ∷ []) c.in_ok-coming.coming (taken_at 0 [] s))
    c.expect_all.ensures
    ∙ ap (λ l. added (l ∷ []) c.in_ok-coming.coming (taken_at 0 [] c.args.self.now)) loc))

pub returns-clause-err : goal.returns-clause-err
returns-clause-err c =
    on-failure c.add_all.result c.args.self.now c.expect_all.new.self c.add_all.new.self
    c.add_all.ensures.err c.expect_all.ensures
