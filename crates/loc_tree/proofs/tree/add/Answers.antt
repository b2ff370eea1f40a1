use Rattle.std.proofs.Common.{◌∙◌}
use Rattle.indexmap.proofs.CallerLemmas.{insert_entry-new}
use Rattle.loc_tree.specs.Tree.{same_pair}
use Rattle.loc_tree.proofs.Spots.{from_ok}
use Rattle.loc_tree.proofs.tree.add.Goals as goal

pub returns-clause-entries : goal.returns-clause-entries
returns-clause-entries c =
    from_ok c.insert.result _ (c.insert.ensures.succeeds c.requires.room) c.insert.ensures.entries
    ∙ insert_entry-new same_pair c.args.spots.now (c.args.loc.site, c.args.loc.k) _ c.requires.new
