use Rattle.std.proofs.Common.{List, ap, sym, subst, ◌∙◌}
use Rattle.code_run.specs.Posts.{all_posted}
use Rattle.net_laws.specs.Site.{Told, Site}
use Rattle.net_laws.specs.ByCode.{told_by}
use Rattle.net_laws.specs.Parcels.{all_told}
use Rattle.net_laws.specs.Posting.{pour_here}
use Rattle.site_solution.specs.Answers.{Answers}
use Rattle.site_solution.specs.Commit.{CanLeave}
use Rattle.site_shelves.specs.Held.{taken_at}
use Rattle.site_shelves.specs.inside.New.{told_of_new}
use Rattle.site_solution.proofs.Answering.{ok-more}
use Rattle.site_solution.proofs.Keeping.{on-failure}
use Rattle.site_solution.proofs.site.Site.commit.Goals as goal

pub leave-requires-clause-can : goal.leave-requires-clause-can
leave-requires-clause-can c =
    let told = c.in_ok-groups.ensures.told
    ∙ ap (all_told (told_by c.args.code.now)) c.as_slice.ensures.members in
    subst (λ (s : Site). CanLeave c.args.run.births (told_of_new c.in_ok-groups.groups.items)
    (all_posted c.args.run.posts) s) (sym c.expect_all.ensures)
    (subst (λ (ds : List Told).
    CanLeave c.args.run.births ds (all_posted c.args.run.posts) c.args.self.now) (sym told)
    c.requires)

pub returns-clause-ok : goal.returns-clause-ok
returns-clause-ok c =
    let r = c.args.run in
    let told = c.in_ok-groups.ensures.told
    ∙ ap (all_told (told_by c.args.code.now)) c.as_slice.ensures.members in
    ok-more c.leave.result _ _ (λ e left. subst
    (λ (ds : List Told). Answers (pour_here c.args.tree.now r.next r.births ds (all_posted r.posts)
    (taken_at c.args.fronts.now.group c.args.fronts.now.chans.now c.args.self.now)) r.outs r.births
    c.leave.new.self e) told (subst
    (λ (s : Site). Answers (pour_here c.args.tree.now r.next r.births
    (told_of_new c.in_ok-groups.groups.items) (all_posted r.posts)
    (taken_at c.args.fronts.now.group c.args.fronts.now.chans.now s)) r.outs r.births
    c.leave.new.self e) c.expect_all.ensures left)) c.leave.ensures.ok

pub returns-clause-err : goal.returns-clause-err
returns-clause-err c =
    on-failure c.leave.result c.args.self.now c.expect_all.new.self c.leave.new.self
    c.leave.ensures.err c.expect_all.ensures
