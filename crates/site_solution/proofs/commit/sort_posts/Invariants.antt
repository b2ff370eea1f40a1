use Rattle.std.proofs.Common.{◌++◌}
use Rattle.std.specs.Vec.Iter.{into_iter_items}
use Rattle.code_run.specs.Posts.{all_posted}
use Rattle.site_solution.specs.inside.Leave.{Sorting}
use Rattle.site_solution.proofs.commit.sort_posts.Given as goal

abbrev pub invariant-loop-post : goal.invariant-loop-post
invariant-loop-post l =
    Sorting l.tree (l.here.locs ++ l.born.locs) (all_posted (into_iter_items l.post-iterator))
    (all_posted l.fn.posts) l.sorted.waiting.items l.sorted.requests.items l.sorted.flights
