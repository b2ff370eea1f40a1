use Rattle.std.proofs.Common.{◌≡◌, Some, true, false, rules}
use Rattle.std.specs.Ordering.{nat_cmp}
use Rattle.std.specs.Cmp.Lexicographic.{slice_cmp}
use Rattle.std.specs.BTreeMap.{UpdatesBy}
use Rattle.sort_lines.specs.inside.Places.{texts}
use Rattle.sort_lines.specs.inside.Judging.{is_among}
use Rattle.sort_lines.proofs.PlaceLaws.{pushed, places_kept, place_added}
use Rattle.sort_lines.proofs.names.Names.push.Goals as goal

pub invariant_of-self-then-is_known : goal.invariant_of-self-then-is_known
invariant_of-self-then-is_known c =
    let known : is_among c.args.name.now (texts c.self.inside.list) ≡ true = search rules in
    places_kept c.self.inside.first_places c.self.inside.list c.push.new.self c.args.name
    c.self.invariant known c.in_ok-push.ensures.ok

pub invariant_of-self-else-is_err : goal.invariant_of-self-else-is_err
invariant_of-self-else-is_err c =
    let fresh : is_among c.args.name.now (texts c.self.inside.list) ≡ false = search rules in
    let updates : UpdatesBy (λ x y. slice_cmp nat_cmp x.now y.now)
    (λ k. slice_cmp nat_cmp c.args.name.now k.now)
    c.self.inside.first_places c.insert.new.self (Some c.len-place.result) = search rules in
    place_added c.self.inside.first_places c.insert.new.self c.self.inside.list c.push.new.self
    c.args.name c.len-place.result c.self.invariant fresh
    c.in_ok-push.ensures.ok c.len-place.ensures.count updates

pub returns-then-is_known : goal.returns-then-is_known
returns-then-is_known c = pushed c.self.inside.list c.push.new.self c.args.name c.args.self.now
    c.self.view_is c.in_ok-push.ensures.ok

pub returns : goal.returns
returns c = pushed c.self.inside.list c.push.new.self c.args.name c.args.self.now c.self.view_is
    c.in_ok-push.ensures.ok
