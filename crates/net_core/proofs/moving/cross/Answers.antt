use Rattle.std.proofs.Common.{◌<◌, ◌++◌, arith, length}
use Rattle.std.specs.Prelude.{slice_set, slice_index_or}
use Rattle.net_core.proofs.Crossing.{before, behind, may_up, may_down, both_set, both_set_back}
use Rattle.net_core.proofs.Crossing.{cross_ok, cross_fit, cross_err}
use Rattle.net_core.proofs.moving.cross.Goals as goal

pub returns-then-from-into-clause-ok : goal.returns-then-from-into-clause-ok
returns-then-from-into-clause-ok c =
    let sites = c.args.sites.now in
    let front = c.split_at_mut-front.result.0.now in
    let back = c.split_at_mut-front.result.1.now in
    let i = c.args.ends.0 in
    let j = c.args.ends.1 in
    let may = c.requires.may in
    let less : i < length front = omega arith in
    let x_is = before sites front back i
    c.split_at_mut-front.ensures.value may.from c.index-front-from.result less may.from_is in
    let y_is = behind sites front back j c.split_at_mut-front.ensures.value may.into
    c.index-back-0.result c.split_at_mut-front.ensures.front_len may.into_is in
    let new_is = both_set sites front back i c.split_at_mut-front.ensures.value j
    c.move_between.new.from c.move_between.new.into less c.split_at_mut-front.ensures.front_len in
    let new =
    slice_set front i c.move_between.new.from ++ slice_set back 0 c.move_between.new.into in
    cross_ok c.args.tree.now c.move_between.new.tree sites i j c.args.atom.now may
    (slice_index_or front i c.index-front-from.result) (slice_index_or back 0 c.index-back-0.result)
    c.move_between.new.from c.move_between.new.into x_is y_is new new_is
    c.move_between.result c.args.code.now.seen c.move_between.ensures.ok

pub returns-then-from-into-clause-fit : goal.returns-then-from-into-clause-fit
returns-then-from-into-clause-fit c =
    let sites = c.args.sites.now in
    let front = c.split_at_mut-front.result.0.now in
    let back = c.split_at_mut-front.result.1.now in
    let i = c.args.ends.0 in
    let j = c.args.ends.1 in
    let may = c.requires.may in
    let less : i < length front = omega arith in
    let x_is = before sites front back i
    c.split_at_mut-front.ensures.value may.from c.index-front-from.result less may.from_is in
    let y_is = behind sites front back j c.split_at_mut-front.ensures.value may.into
    c.index-back-0.result c.split_at_mut-front.ensures.front_len may.into_is in
    let new_is = both_set sites front back i c.split_at_mut-front.ensures.value j
    c.move_between.new.from c.move_between.new.into less c.split_at_mut-front.ensures.front_len in
    let new =
    slice_set front i c.move_between.new.from ++ slice_set back 0 c.move_between.new.into in
    cross_fit c.args.tree.now c.move_between.new.tree sites i j c.args.atom.now may
    (slice_index_or front i c.index-front-from.result) (slice_index_or back 0 c.index-back-0.result)
    c.move_between.new.from c.move_between.new.into x_is y_is new new_is c.move_between.result
    c.args.code.now c.requires.fit c.requires.numbered c.move_between.ensures.fit

pub returns-then-from-into-clause-err : goal.returns-then-from-into-clause-err
returns-then-from-into-clause-err c =
    let sites = c.args.sites.now in
    let front = c.split_at_mut-front.result.0.now in
    let back = c.split_at_mut-front.result.1.now in
    let i = c.args.ends.0 in
    let j = c.args.ends.1 in
    let may = c.requires.may in
    let less : i < length front = omega arith in
    let x_is = before sites front back i
    c.split_at_mut-front.ensures.value may.from c.index-front-from.result less may.from_is in
    let y_is = behind sites front back j c.split_at_mut-front.ensures.value may.into
    c.index-back-0.result c.split_at_mut-front.ensures.front_len may.into_is in
    let new_is = both_set sites front back i c.split_at_mut-front.ensures.value j
    c.move_between.new.from c.move_between.new.into less c.split_at_mut-front.ensures.front_len in
    let new =
    slice_set front i c.move_between.new.from ++ slice_set back 0 c.move_between.new.into in
    cross_err c.args.tree.now c.move_between.new.tree sites i j c.args.atom.now may
    (slice_index_or front i c.index-front-from.result) (slice_index_or back 0 c.index-back-0.result)
    c.move_between.new.from c.move_between.new.into x_is y_is new new_is
    c.move_between.result c.move_between.ensures.err_from c.move_between.ensures.err_into

pub returns-else-from-into-clause-ok : goal.returns-else-from-into-clause-ok
returns-else-from-into-clause-ok c =
    let sites = c.args.sites.now in
    let front = c.split_at_mut-front-else-from-into.result.0.now in
    let back = c.split_at_mut-front-else-from-into.result.1.now in
    let i = c.args.ends.0 in
    let j = c.args.ends.1 in
    let may = c.requires.may in
    let far = may.away in
    let less : j < length front = omega arith in
    let x_is = behind sites front back i
    c.split_at_mut-front-else-from-into.ensures.value may.from c.index-back-0-else-from-into.result
    c.split_at_mut-front-else-from-into.ensures.front_len may.from_is in
    let y_is = before sites front back j c.split_at_mut-front-else-from-into.ensures.value may.into
    c.index-front-into.result less may.into_is in
    let new_is =
    both_set_back sites front back i j c.split_at_mut-front-else-from-into.ensures.value
    c.move_between-else-from-into.new.from c.move_between-else-from-into.new.into far less
    c.split_at_mut-front-else-from-into.ensures.front_len in
    let new = slice_set front j c.move_between-else-from-into.new.into
    ++ slice_set back 0 c.move_between-else-from-into.new.from in
    cross_ok c.args.tree.now c.move_between-else-from-into.new.tree sites i j c.args.atom.now may
    (slice_index_or back 0 c.index-back-0-else-from-into.result)
    (slice_index_or front j c.index-front-into.result) c.move_between-else-from-into.new.from
    c.move_between-else-from-into.new.into x_is y_is new new_is c.move_between-else-from-into.result
    c.args.code.now.seen c.move_between-else-from-into.ensures.ok

pub returns-else-from-into-clause-fit : goal.returns-else-from-into-clause-fit
returns-else-from-into-clause-fit c =
    let sites = c.args.sites.now in
    let front = c.split_at_mut-front-else-from-into.result.0.now in
    let back = c.split_at_mut-front-else-from-into.result.1.now in
    let i = c.args.ends.0 in
    let j = c.args.ends.1 in
    let may = c.requires.may in
    let far = may.away in
    let less : j < length front = omega arith in
    let x_is = behind sites front back i
    c.split_at_mut-front-else-from-into.ensures.value may.from c.index-back-0-else-from-into.result
    c.split_at_mut-front-else-from-into.ensures.front_len may.from_is in
    let y_is = before sites front back j c.split_at_mut-front-else-from-into.ensures.value may.into
    c.index-front-into.result less may.into_is in
    let new_is =
    both_set_back sites front back i j c.split_at_mut-front-else-from-into.ensures.value
    c.move_between-else-from-into.new.from c.move_between-else-from-into.new.into far less
    c.split_at_mut-front-else-from-into.ensures.front_len in
    let new = slice_set front j c.move_between-else-from-into.new.into
    ++ slice_set back 0 c.move_between-else-from-into.new.from in
    cross_fit c.args.tree.now c.move_between-else-from-into.new.tree sites i j c.args.atom.now may
    (slice_index_or back 0 c.index-back-0-else-from-into.result)
    (slice_index_or front j c.index-front-into.result)
    c.move_between-else-from-into.new.from c.move_between-else-from-into.new.into x_is y_is new
    new_is c.move_between-else-from-into.result c.args.code.now c.requires.fit c.requires.numbered
    c.move_between-else-from-into.ensures.fit

pub returns-else-from-into-clause-err : goal.returns-else-from-into-clause-err
returns-else-from-into-clause-err c =
    let sites = c.args.sites.now in
    let front = c.split_at_mut-front-else-from-into.result.0.now in
    let back = c.split_at_mut-front-else-from-into.result.1.now in
    let i = c.args.ends.0 in
    let j = c.args.ends.1 in
    let may = c.requires.may in
    let far = may.away in
    let less : j < length front = omega arith in
    let x_is = behind sites front back i
    c.split_at_mut-front-else-from-into.ensures.value may.from c.index-back-0-else-from-into.result
    c.split_at_mut-front-else-from-into.ensures.front_len may.from_is in
    let y_is = before sites front back j c.split_at_mut-front-else-from-into.ensures.value may.into
    c.index-front-into.result less may.into_is in
    let new_is =
    both_set_back sites front back i j c.split_at_mut-front-else-from-into.ensures.value
    c.move_between-else-from-into.new.from c.move_between-else-from-into.new.into far less
    c.split_at_mut-front-else-from-into.ensures.front_len in
    let new = slice_set front j c.move_between-else-from-into.new.into
    ++ slice_set back 0 c.move_between-else-from-into.new.from in
    cross_err c.args.tree.now c.move_between-else-from-into.new.tree sites i j c.args.atom.now may
    (slice_index_or back 0 c.index-back-0-else-from-into.result)
    (slice_index_or front j c.index-front-into.result) c.move_between-else-from-into.new.from
    c.move_between-else-from-into.new.into x_is y_is new new_is c.move_between-else-from-into.result
    c.move_between-else-from-into.ensures.err_from c.move_between-else-from-into.ensures.err_into

pub move_between-requires : goal.move_between-requires
move_between-requires c =
    let front = c.split_at_mut-front.result.0.now in
    let less : c.args.ends.0 < length front = omega arith in
    may_up c.args.code.now c.args.tree.now c.args.sites.now c.args.ends.0 c.args.ends.1
    c.args.atom.now c.requires.may c.requires.fit front c.split_at_mut-front.result.1.now
    c.split_at_mut-front.ensures.value c.index-front-from.result c.index-back-0.result less
    c.split_at_mut-front.ensures.front_len

pub move_between-requires-else-from-into : goal.move_between-requires-else-from-into
move_between-requires-else-from-into c =
    let front = c.split_at_mut-front-else-from-into.result.0.now in
    let less : c.args.ends.1 < length front = let far = c.requires.may.away in omega arith in
    may_down c.args.code.now c.args.tree.now c.args.sites.now c.args.ends.0 c.args.ends.1
    c.args.atom.now c.requires.may c.requires.fit front
    c.split_at_mut-front-else-from-into.result.1.now
    c.split_at_mut-front-else-from-into.ensures.value c.index-back-0-else-from-into.result
    c.index-front-into.result less c.split_at_mut-front-else-from-into.ensures.front_len

pub returns-then-from-into-clause-err_tree : goal.returns-then-from-into-clause-err_tree
returns-then-from-into-clause-err_tree c = c.move_between.ensures.err_tree

pub returns-else-from-into-clause-err_tree : goal.returns-else-from-into-clause-err_tree
returns-else-from-into-clause-err_tree c = c.move_between-else-from-into.ensures.err_tree
