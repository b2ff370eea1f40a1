use Rattle.std.proofs.Common.{◌≡◌, ◌++◌, drop}
use Rattle.chem_model.specs.Each.{Each}
use Rattle.env_store.specs.Running.{place_names, numbered_levels}
use Rattle.code_run.specs.inside.Steps.{IsThere}
use Rattle.code_run.proofs.naming.name_places.Given as goal

abbrev pub invariant-loop-place : goal.invariant-loop-place
invariant-loop-place l =
    (l.names ++ place_names l.site l.k (numbered_levels l.code.levels (drop l.place-index l.places))
    ≡ l.initial.names ++ place_names l.site l.from (numbered_levels l.code.levels l.places))
    × Each (IsThere l.code) (drop l.place-index l.places)
