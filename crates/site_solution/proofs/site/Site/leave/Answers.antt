use Rattle.std.proofs.Common.{List, [], ◌++◌, refl, sym, subst, ap, ◌∙◌}
use Rattle.chem_model.specs.declared.name.Loc.{Loc}
use Rattle.code_run.specs.Posts.{all_posted}
use Rattle.site_solution.specs.Commit.{AreNew}
use Rattle.site_shelves.specs.Held.{taken_at}
use Rattle.site_solution.specs.inside.Leave.{IsSorted}
use Rattle.site_solution.specs.inside.Coming.{CanAdd, added}
use Rattle.site_solution.specs.declared.coming.Coming.{Coming}
use Rattle.site_solution.proofs.Answering.{left-answers}
use Rattle.site_solution.proofs.Leaving.{new-alone, resort, can-add, left-is}
use Rattle.site_solution.proofs.site.Site.leave.Goals as goal

pub sort_with_births-requires : goal.sort_with_births-requires
sort_with_births-requires c = subst (AreNew []) (sym c.as_slice.ensures.members)
    (new-alone c.args.self.now.locs c.args.run.births c.requires.can.births_new)

pub add_all-requires : goal.add_all-requires
add_all-requires c =
    let m : Coming = record {
      next = c.args.run.next;
      groups = c.args.groups;
      waiting = c.in_ok-waiting.field-0.waiting;
      requests = c.in_ok-waiting.field-0.requests;
    } in
    let sorted : IsSorted c.args.tree.now (c.args.self.now.locs ++ c.args.run.births)
    (all_posted c.args.run.posts) c.in_ok-waiting.field-0 =
    resort c.args.tree.now _ _ _ _ _ _ c.in_ok-waiting.field-0 c.places.ensures
    c.as_slice.ensures.members refl c.in_ok-waiting.ensures in
    subst (λ (ls : List Loc). CanAdd ls m c.args.self.now) (sym c.as_slice-2.ensures.members)
    (can-add c.args.run.births (all_posted c.args.run.posts) m
    c.args.self.now c.requires.new c.requires.can sorted.waiting_are sorted.requests_are)

pub returns-clause-ok : goal.returns-clause-ok
returns-clause-ok c =
    let m : Coming = record {
      next = c.args.run.next;
      groups = c.args.groups;
      waiting = c.in_ok-waiting.field-0.waiting;
      requests = c.in_ok-waiting.field-0.requests;
    } in
    let sorted : IsSorted c.args.tree.now (c.args.self.now.locs ++ c.args.run.births)
    (all_posted c.args.run.posts) c.in_ok-waiting.field-0 =
    resort c.args.tree.now _ _ _ _ _ _ c.in_ok-waiting.field-0 c.places.ensures
    c.as_slice.ensures.members refl c.in_ok-waiting.ensures in
    let is = c.in_ok-add_all.ensures.ok
    ∙ ap (λ ls.
    added ls m (taken_at c.args.fronts.now.group c.args.fronts.now.chans.now c.args.self.now))
    c.as_slice-2.ensures.members in
    let left = left-is c.args.tree.now c.args.run.births (all_posted c.args.run.posts) m
    c.args.fronts.now.group c.args.fronts.now.chans.now c.args.self.now c.add_all.new.self
    c.in_ok-waiting.field-0.flights
    sorted.waiting_are sorted.requests_are sorted.flights_are is in
    left-answers _
    c.add_all.new.self c.in_ok-waiting.field-0.flights c.args.run.outs c.args.run.births left
