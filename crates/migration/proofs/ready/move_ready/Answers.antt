use Rattle.std.proofs.Common.{◌≡◌, Bool, sym, ap, subst, ◌∙◌}
use Rattle.site_solution.specs.inside.InTree.{request_stands}
use Rattle.site_solution.proofs.Together.{in_tree_parts, asked_there, request_passes}
use Rattle.migration.specs.Moves.{is_ready, can_go, ForetellsMove}
use Rattle.migration.proofs.Goes.{move_foretold}
use Rattle.migration.proofs.ready.move_ready.Goals as goal

pub is_ready-requires-clause-loc : goal.is_ready-requires-clause-loc
is_ready-requires-clause-loc c =
    asked_there c.args.tree.now c.args.site.now c.args.atom.now c.in-Some.request.now
    c.site_is_kept.ensures.kept (in_tree_parts c.args.tree.now c.args.site.now c.requires)
    (sym c.in-Some.ensures)

pub is_ready-requires-clause-names : goal.is_ready-requires-clause-names
is_ready-requires-clause-names c =
    let parts = in_tree_parts c.args.tree.now c.args.site.now c.requires in
    request_passes (request_stands c.args.tree.now) c.args.site.now.requests c.args.atom.now
    c.in-Some.request.now parts.requests (sym c.in-Some.ensures)

pub returns-in-Some-clause-possible : goal.returns-in-Some-clause-possible
returns-in-Some-clause-possible c = λ rules_of.
    let exact : can_go c.args.version c.args.tree.now c.args.atom.now c.args.site.now
    ≡ c.is_ready.result =
    ap (is_ready c.args.version c.args.tree.now) (sym c.in-Some.ensures) ∙ sym c.is_ready.ensures in
    subst (λ (b : Bool).
    ForetellsMove rules_of c.args.version c.args.tree.now c.args.site.now c.args.atom.now b) exact
    (move_foretold rules_of c.args.tree.now c.args.site.now c.args.atom.now c.args.version)
