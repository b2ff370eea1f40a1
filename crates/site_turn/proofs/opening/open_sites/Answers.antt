use Rattle.std.proofs.Common.{subst}
use Rattle.env_store.specs.CodeFacts.{IsCode}
use Rattle.net_laws.proofs.Opened.{tops_are_of_sites}
use Rattle.site_turn.proofs.Openings.{none_opened}
use Rattle.site_turn.proofs.opening.open_sites.Goals as goal

pub first_tree-requires : goal.first_tree-requires
first_tree-requires c = tops_are_of_sites c.requires.0 c.args.code.now c.requires.1 c.requires.2

pub open_each-requires-clause-none : goal.open_each-requires-clause-none
open_each-requires-clause-none c =
    none_opened c.requires.0 c.args.code.now c.requires.1
    (subst IsCode c.code.view_is c.code.invariant) c.requires.2
    (record { sites = c.new.result; tree = c.in_ok-tree.tree; handed = c.new-2.result })
    c.in_ok-tree.ensures c.new.ensures.items c.new-2.ensures.items
