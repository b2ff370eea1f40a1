use Rattle.std.proofs.Common.{◌∷◌, ◌++◌, [], refl, sym, subst, ap, ◌∙◌}
use Rattle.chem_model.specs.declared.name.Loc.{Loc}
use Rattle.code_run.specs.Posts.{all_posted}
use Rattle.wire_packet.specs.ParcelFacts.{ParcelParts}
use Rattle.net_laws.specs.Site.{Site}
use Rattle.site_shelves.specs.Held.{taken_at}
use Rattle.site_solution.specs.inside.Leave.{IsSorted}
use Rattle.site_solution.specs.inside.Coming.{CanAdd, added}
use Rattle.site_solution.proofs.Leaving.{resort}
use Rattle.site_solution.proofs.Receiving.{received-can, arrive-sorted}
use Rattle.site_solution.proofs.site.Site.take_in_beside.Goals as goal

pub sort_with_births-requires : goal.sort_with_births-requires
sort_with_births-requires c = (refl, tt)

pub add_all-requires : goal.add_all-requires
add_all-requires c =
    let loc = ap (λ (p : ParcelParts). p.loc) c.parcel.view_is in
    let ls = c.args.self.now.locs ++ c.args.parcel.now.loc ∷ [] in
    let ps = all_posted c.args.run.posts in
    let sorted : IsSorted c.args.tree.now ls ps c.in_ok-waiting.field-0 =
    resort c.args.tree.now _ _ _ _ _ _ c.in_ok-waiting.field-0 c.places.ensures
    (ap (λ (l : Loc). l ∷ []) loc) refl c.in_ok-waiting.ensures in
    let arrive =
    arrive-sorted c.args.tree.now c.args.code.now c.args.parcel.now c.args.run.next ls ps
    c.in_ok-waiting.field-0 c.in_ok-coming.coming sorted c.in_ok-coming.ensures.more in
    subst (CanAdd (c.parcel.inside.loc ∷ []) c.in_ok-coming.coming) (sym c.expect_all.ensures)
    (subst (λ l. CanAdd (l ∷ []) c.in_ok-coming.coming c.args.self.now) (sym loc)
    (received-can c.args.code.now c.args.parcel.now c.args.run.next ps
    arrive.before c.in_ok-coming.coming c.args.self.now c.carried_beside.ensures.kept c.requires.can
    c.requires.posts arrive.carried arrive.beside))

pub returns-clause-ok : goal.returns-clause-ok
returns-clause-ok c =
    let loc = ap (λ (p : ParcelParts). p.loc) c.parcel.view_is in
    let ls = c.args.self.now.locs ++ c.args.parcel.now.loc ∷ [] in
    let ps = all_posted c.args.run.posts in
    let sorted : IsSorted c.args.tree.now ls ps c.in_ok-waiting.field-0 =
    resort c.args.tree.now _ _ _ _ _ _ c.in_ok-waiting.field-0 c.places.ensures
    (ap (λ (l : Loc). l ∷ []) loc) refl c.in_ok-waiting.ensures in
    let arrive =
    arrive-sorted c.args.tree.now c.args.code.now c.args.parcel.now c.args.run.next ls ps
    c.in_ok-waiting.field-0 c.in_ok-coming.coming sorted c.in_ok-coming.ensures.more in
    record {
      more = c.in_ok-coming.coming;
      arrive = arrive;
      can = received-can c.args.code.now c.args.parcel.now c.args.run.next ps
          arrive.before c.in_ok-coming.coming c.args.self.now c.carried_beside.ensures.kept
          c.requires.can c.requires.posts arrive.carried arrive.beside;
      is = c.in_ok-add_all.ensures.ok
          ∙ ap (λ (s : Site).
          added (c.parcel.inside.loc ∷ []) c.in_ok-coming.coming (taken_at 0 [] s))
          c.expect_all.ensures
          ∙ ap (λ l. added (l ∷ []) c.in_ok-coming.coming (taken_at 0 [] c.args.self.now)) loc;
      sends = sorted.flights_are;
    }
