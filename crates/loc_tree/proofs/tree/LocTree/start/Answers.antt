use Rattle.std.proofs.Common.{◌≡◌, ◌∙◌, false, ap, arith, rules}
use Rattle.std.specs.Prelude.{replicate}
use Rattle.indexmap.specs.IndexMap.{insert_entry}
use Rattle.loc_tree.specs.Tree.{same_pair, roots_from}
use Rattle.loc_tree.proofs.Spots.{insert_root}
use Rattle.loc_tree.proofs.Follows.{roots_are_opened}
use Rattle.loc_tree.proofs.Keeps.{start_stored}
use Rattle.loc_tree.proofs.tree.LocTree.start.Goals as goal

pub loop-site-preserved : goal.loop-site-preserved
loop-site-preserved c =
    c.in_ok-insert.ensures.entries
    ∙ ap (λ es. insert_entry same_pair es (c.loop-site.site, 0)
    (record { number = c.loop-site.site; marked = false })) c.loop-site.invariant
    ∙ insert_root c.loop-site.site

pub invariant_of-result : goal.invariant_of-result
invariant_of-result c =
    let all : c.loop-site.site ≡ c.args.roots = omega arith in
    let entries : c.loop-site.spots.entries ≡ roots_from 0 c.args.roots =
    c.loop-site.invariant ∙ ap (roots_from 0) all in
    let zeros : c.in_ok-newest.newest.items ≡ replicate c.args.roots 0 = search rules in
    rw (entries, zeros) (start_stored c.args.roots _)

pub returns-clause-placed : goal.returns-clause-placed
returns-clause-placed c =
    let all : c.loop-site.site ≡ c.args.roots = omega arith in
    let entries : c.loop-site.spots.entries ≡ roots_from 0 c.args.roots =
    c.loop-site.invariant ∙ ap (roots_from 0) all in
    rw entries (λ sites count. rw (← count) (roots_are_opened sites))
