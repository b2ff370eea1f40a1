-- The entry has the location.
use Rattle.std.proofs.Common.{◌≡◌, ◌<◌, ◌-◌, length, get_or, true, false, rules, arith}
use Rattle.std.specs.Prelude.{None}
use Rattle.chem_model.specs.declared.numbered.Placed.{Placed}
use Rattle.chem_model.specs.Solution.{same_loc}
use Rattle.chem_commit.proofs.Founds.{found_at}
use Rattle.chem_commit.proofs.guesses.newest.Goals as goal

pub returns-then-same_loc : goal.returns-then-same_loc
returns-then-same_loc c =
    let entries = c.as_slice-entries.result.now in
    let index = c.loop-left.left - 1 in
    let none : Placed = record { loc = record { site = 0; k = 0 }; host = None; marked = false } in
    let same : same_loc (get_or entries index none).loc c.args.at ≡ true = search rules in
    let within : index < length entries =
    omega (arith, c.loop-left.invariant.0, c.loop-left-test.true) in
    found_at c.args.places.now entries c.as_slice-entries.ensures.members c.requires index none
    c.args.at within same
