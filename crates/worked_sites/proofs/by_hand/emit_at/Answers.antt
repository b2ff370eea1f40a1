use Rattle.std.proofs.Common.{◌≡◌, ◌≤◌, true, length, rules}
use Rattle.std.specs.Prelude.{◌&&◌, IsTrue}
use Rattle.site_solution.specs.Draws.{CanDraw}
use Rattle.site_solution.specs.InTree.{name_stands, is_in_tree}
use Rattle.site_solution.specs.inside.InTree.{names_stand}
use Rattle.worked_sites.proofs.Needs.{can_emit}
use Rattle.worked_sites.proofs.by_hand.emit_at.Goals as goal

pub emit-requires-clause-can : goal.emit-requires-clause-can
emit-requires-clause-can c =
    let there : is_in_tree c.args.tree.now c.args.site.now ≡ true = search rules in
    let drawn : CanDraw c.args.tree.now c.args.site.now = search rules in
    let stands : name_stands c.args.tree.now c.args.on && names_stand c.args.tree.now c.args.args
    ≡ true = search rules in
    let few : length c.args.args ≤ 255 = search rules in
    let plain : IsTrue c.is_plain.result = search rules in
    can_emit c.args.tree.now c.args.site.now c.args.on c.args.args there drawn stands few
    c.requires (c.is_plain.ensures.count plain (length c.args.args))
