use Rattle.std.proofs.Common.{◌≡◌, List, ◌∷◌, ◌++◌, length, subst, ap, ◌∙◌, rules, arith}
use Rattle.std.proofs.lemmas.List.{nil_from_length}
use Rattle.std.specs.Vec.Iter.{into_iter_items}
use Rattle.code_run.specs.declared.made.Post.{Post}
use Rattle.code_run.specs.Posts.{all_posted}
use Rattle.site_solution.specs.inside.Leave.{Sorting}
use Rattle.site_solution.proofs.Sorting.{sort-begin, sort-end}
use Rattle.site_solution.proofs.commit.sort_posts.Goals as goal

pub loop-post-init : goal.loop-post-init
loop-post-init c =
    let all = ap all_posted
    (c.into_iter-post-iterator.ensures.into_iter_gives.0 ∙ c.into_vec-post-items.ensures.members) in
    sort-begin c.args.tree.now (c.args.here.now.locs ++ c.args.born.now.locs)
    (all_posted c.args.posts) (all_posted (into_iter_items c.into_iter-post-iterator.result))
    c.new.result.items c.new-2.result.items c.new-3.result all
    c.new.ensures.items c.new-2.ensures.items c.new-3.ensures

pub loop-post-preserved : goal.loop-post-preserved
loop-post-preserved c =
    let items : into_iter_items c.loop-post.post-iterator
    ≡ c.in-Some.post ∷ into_iter_items c.next.new.self = search rules in
    let now = subst
    (λ (ps : List Post). Sorting c.args.tree.now (c.args.here.now.locs ++ c.args.born.now.locs)
    (all_posted ps) (all_posted c.args.posts)
    c.loop-post.sorted.waiting.items c.loop-post.sorted.requests.items c.loop-post.sorted.flights)
    items c.loop-post.invariant in
    c.in_ok-sort_post.ensures (all_posted (into_iter_items c.next.new.self))
    (all_posted c.args.posts) now

pub returns : goal.returns
returns c =
    let end : length (into_iter_items c.loop-post.post-iterator) ≡ 0 =
    omega (arith, c.loop-post.post-iterator.rest.ok, c.in-None.ensures.steps.0) in
    let none = ap all_posted (nil_from_length (into_iter_items c.loop-post.post-iterator) end) in
    let e = sort-end c.args.tree.now (c.args.here.now.locs ++ c.args.born.now.locs)
    (all_posted c.args.posts) (all_posted (into_iter_items c.loop-post.post-iterator))
    c.loop-post.sorted.waiting.items c.loop-post.sorted.requests.items c.loop-post.sorted.flights
    none c.loop-post.invariant in
    record { waiting_are = e.0; requests_are = e.1; flights_are = e.2 }
