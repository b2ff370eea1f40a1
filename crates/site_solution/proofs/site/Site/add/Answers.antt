use Rattle.std.proofs.Common.{◌≡◌, ◌≤◌, List, [], ◌∷◌, ◌++◌, subst, sym, ap, ◌∙◌}
use Rattle.chem_model.specs.declared.event.AtomId.{AtomId}
use Rattle.net_laws.specs.Site.{Site}
use Rattle.net_laws.specs.Holding.{lay}
use Rattle.site_shelves.specs.Counted.{times}
use Rattle.site_solution.specs.declared.coming.Coming.{Coming}
use Rattle.site_shelves.specs.declared.told.NewGroup.{NewGroup}
use Rattle.site_shelves.specs.Held.{taken_at}
use Rattle.site_solution.specs.inside.Coming.{CanAdd, added}
use Rattle.site_solution.proofs.Keeping.{on-success, on-failure}
use Rattle.site_solution.proofs.Adding.{lay-can, lay-added}
use Rattle.site_solution.proofs.site.Site.add.Goals as goal

pub add_all-requires : goal.add_all-requires
add_all-requires c =
    let m : Coming = record {
      next = c.self.inside.made;
      groups = c.push.new.self;
      waiting = c.new.result;
      requests = c.new-2.result;
    } in
    let items : c.push.new.self.items ≡ c.in_ok-new_group.field-0 ∷ [] =
    c.in_ok-push.ensures.items
    ∙ ap (λ (xs : List NewGroup). xs ++ c.in_ok-new_group.field-0 ∷ [])
    c.in_ok-groups.ensures.items in
    let once =
    subst (λ (s : Site). (i : AtomId) → times i s ≤ 1)
    c.self.view_is c.self.invariant.stored.once in
    subst (CanAdd [] m) (sym c.expect_all.ensures)
    (lay-can c.args.told m c.in_ok-new_group.field-0 c.args.self.now c.requires once items
    c.in_ok-new_group.ensures.told c.in_ok-new_group.ensures.is c.new.ensures.items
    c.new-2.ensures.items)

pub returns-clause-ok : goal.returns-clause-ok
returns-clause-ok c =
    let m : Coming = record {
      next = c.self.inside.made;
      groups = c.push.new.self;
      waiting = c.new.result;
      requests = c.new-2.result;
    } in
    let items : c.push.new.self.items ≡ c.in_ok-new_group.field-0 ∷ [] =
    c.in_ok-push.ensures.items
    ∙ ap (λ (xs : List NewGroup). xs ++ c.in_ok-new_group.field-0 ∷ [])
    c.in_ok-groups.ensures.items in
    on-success (λ (s : Site). s) (lay c.args.told c.args.self.now) c.add_all.result _
    c.add_all.new.self c.add_all.ensures.ok
    (ap (λ (s : Site). added [] m (taken_at 0 [] s)) c.expect_all.ensures ∙ lay-added c.args.told m
    c.in_ok-new_group.field-0 c.args.self.now (ap (λ (s : Site). s.made) c.self.view_is) items
    c.in_ok-new_group.ensures.told c.new.ensures.items c.new-2.ensures.items)

pub returns-clause-err : goal.returns-clause-err
returns-clause-err c =
    on-failure c.add_all.result c.args.self.now c.expect_all.new.self c.add_all.new.self
    c.add_all.ensures.err c.expect_all.ensures
