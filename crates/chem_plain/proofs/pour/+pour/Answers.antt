-- A member of a list is less deep than the list.
use Rattle.std.proofs.Common.{rules}
use Rattle.chem_model.specs.Members.{procs_depth-member, defs_depth-member}
use Rattle.chem_plain.proofs.pour.+pour.Goals as goal

pub pour_all-pour-requires : goal.pour_all-pour-requires
pour_all-pour-requires t c =
    let falls = rw c.as_slice-member-items.ensures.members at
    (procs_depth-member c.as_slice-member-items.result.now c.loop-member.member-index
    c.member-item.result c.loop-member-test.true c.member-item.is) in
    (search (rules, falls), tt)

pub lay_places-lay_place-requires : goal.lay_places-lay_place-requires
lay_places-lay_place-requires t c =
    let falls = rw c.as_slice-definition-items.ensures.members at
    (defs_depth-member c.as_slice-definition-items.result.now c.loop-definition.definition-index
    c.definition-item.result c.loop-definition-test.true c.definition-item.is) in
    (search (rules, falls), tt)
