use Rattle.std.proofs.Common.{◌∙◌, ℕ, length, sym, ap, subst}
use Rattle.std.specs.Prelude.{Vec}
use Rattle.std.specs.declared.alloc.Global.{Global}
use Rattle.site_shelves.specs.inside.Index.{groups_of, told_of, IsIndex}
use Rattle.site_shelves.specs.inside.Forgotten.{serials_but}
use Rattle.site_shelves.proofs.Queueing.{groups-many}
use Rattle.site_shelves.proofs.Left.{groups-left, index-left}
use Rattle.site_shelves.proofs.Noting.{serials-known, left-covering}
use Rattle.site_shelves.proofs.forgetting.drop_groups.Goals as goal

pub close_up-requires : goal.close_up-requires
close_up-requires c = ap (λ (v : Vec ℕ Global). length v.items) c.forget_groups.ensures.serials
    ∙ c.requires.index.many ∙ groups-many c.args.groups.now.groups

pub returns-clause-groups : goal.returns-clause-groups
returns-clause-groups c =
    ap groups_of c.remove_where.ensures.groups ∙ groups-left c.args.loc c.args.groups.now.groups

pub returns-clause-index : goal.returns-clause-index
returns-clause-index c =
    let is =
    ap groups_of c.remove_where.ensures.groups ∙ groups-left c.args.loc c.args.groups.now.groups in
    let serials = c.close_up.ensures
    ∙ ap (λ (v : Vec ℕ Global). serials_but c.args.loc v.items (told_of c.args.groups.now.groups))
    c.forget_groups.ensures.serials in
    subst (λ gs. IsIndex (record {
      marks = c.forget_groups.new.spots.marks;
      serials = c.close_up.new.serials;
      next = c.forget_groups.new.spots.next;
    }) gs) (sym is)
    (index-left c.args.loc c.args.spots.now (record {
      marks = c.forget_groups.new.spots.marks;
      serials = c.close_up.new.serials;
      next = c.forget_groups.new.spots.next;
    }) (groups_of c.args.groups.now.groups) c.requires.index c.forget_groups.ensures.named serials
    c.forget_groups.ensures.next)

pub forget_keys-requires-clause-serials : goal.forget_keys-requires-clause-serials
forget_keys-requires-clause-serials c =
    serials-known c.args.spots.now c.args.groups.now.groups c.requires.index

pub returns-clause-covering : goal.returns-clause-covering
returns-clause-covering c =
    let is =
    ap groups_of c.remove_where.ensures.groups ∙ groups-left c.args.loc c.args.groups.now.groups in
    let serials = c.close_up.ensures
    ∙ ap (λ (v : Vec ℕ Global). serials_but c.args.loc v.items (told_of c.args.groups.now.groups))
    c.forget_groups.ensures.serials in
    left-covering c.forget_keys.new.covering c.args.spots.now.serials.items
    c.close_up.new.serials.items (groups_of c.args.groups.now.groups)
    (groups_of c.remove_where.new.self.groups) c.args.loc serials is c.forget_keys.ensures
