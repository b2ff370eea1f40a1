-- A member of a list is less deep than the list, and a list is filled member by member.
use Rattle.std.proofs.Common.{rules, arith}
use Rattle.std.proofs.lemmas.Grind.{common_steps}
use Rattle.chem_model.specs.Members.{procs_depth-member, defs_depth-member}
use Rattle.chem_plain.proofs.Fills.{fill_all_is, fill_definitions_is}
use Rattle.chem_plain.proofs.pour.+fill.Goals as goal

pub fill_all-fill-requires : goal.fill_all-fill-requires
fill_all-fill-requires t c =
    let falls = rw c.as_slice-member-items.ensures.members at
    (procs_depth-member c.as_slice-member-items.result.now c.loop-member.member-index
    c.member-item.result c.loop-member-test.true c.member-item.is) in
    (search (rules, falls), tt)

pub fill_definitions-fill_definition-requires : goal.fill_definitions-fill_definition-requires
fill_definitions-fill_definition-requires t c =
    let falls = rw c.as_slice-definition-items.ensures.members at
    (defs_depth-member c.as_slice-definition-items.result.now c.loop-definition.definition-index
    c.definition-item.result c.loop-definition-test.true c.definition-item.is) in
    (search (rules, falls), tt)

pub fill-returns-in_ok-members-in-Par : goal.fill-returns-in_ok-members-in-Par
fill-returns-in_ok-members-in-Par t c =
    grind (arith, common_steps, fill_all_is, fill_definitions_is)

pub fill-returns-in_ok-body-in-Def : goal.fill-returns-in_ok-body-in-Def
fill-returns-in_ok-body-in-Def t c = grind (arith, common_steps, fill_all_is, fill_definitions_is)

pub fill_definition-returns-in_ok-body-in-Place : goal.fill_definition-returns-in_ok-body-in-Place
fill_definition-returns-in_ok-body-in-Place t c =
    grind (arith, common_steps, fill_all_is, fill_definitions_is)
