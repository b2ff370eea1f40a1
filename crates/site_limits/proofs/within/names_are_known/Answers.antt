use Rattle.std.proofs.Common.{refl, sym, ap, ◌∙◌}
use Rattle.std.specs.List.{list_all}
use Rattle.site_shelves.specs.Named.{in_tree}
use Rattle.site_limits.proofs.Hosting.{held-there}
use Rattle.site_limits.proofs.Tested.{all-known}
use Rattle.site_limits.proofs.within.names_are_known.Goals as goal

pub returns-clause-all : goal.returns-clause-all
returns-clause-all c = λ e l h.
    all-known c.args.known.now (in_tree c.args.tree.now) (c.if-not-roots_are_there.ensures refl)
    (sym (ap (list_all (in_tree c.args.tree.now)) c.as_slice.ensures)
    ∙ sym (held-there c.args.tree.now c.as_slice.result.now) ∙ sym c.holds_all.ensures ∙ e) l h
