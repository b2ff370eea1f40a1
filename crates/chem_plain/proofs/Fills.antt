-- The members of a list of terms are filled one by one.
use Rattle.std.proofs.Common.{◌≡◌, List, [], ◌∷◌, map, refl, ap}
use Rattle.chem_model.specs.Process.{Process, Definition, processes, definitions, one_more}
use Rattle.chem_model.specs.Process.{and_also}
use Rattle.chem_model.specs.Fill.{Naming, fill, fill_all, fill_definition, fill_definitions}

pub fill_all_is : (m : Naming) (ps : List Process)
    → fill_all m (processes ps) ≡ processes (map (fill m) ps)
fill_all_is m [] = refl
fill_all_is m (p ∷ ps) = ap (one_more (fill m p)) (fill_all_is m ps)

pub fill_definitions_is : (m : Naming) (ds : List Definition)
    → fill_definitions m (definitions ds) ≡ definitions (map (fill_definition m) ds)
fill_definitions_is m [] = refl
fill_definitions_is m (d ∷ ds) = ap (and_also (fill_definition m d)) (fill_definitions_is m ds)
