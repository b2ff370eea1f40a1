use Rattle.std.proofs.Common.{◌≡◌, ◌++◌, drop}
use Rattle.chem_model.specs.Each.{Each}
use Rattle.env_store.specs.Running.{place_births, numbered_levels}
use Rattle.code_run.specs.inside.Steps.{IsThere}
use Rattle.code_run.proofs.naming.bear_places.Given as goal

abbrev pub invariant-loop-place : goal.invariant-loop-place
invariant-loop-place l =
    (l.births
    ++ place_births l.site l.k (numbered_levels l.code.levels (drop l.place-index l.places))
    ≡ l.initial.births ++ place_births l.site l.from (numbered_levels l.code.levels l.places))
    × Each (IsThere l.code) (drop l.place-index l.places)
