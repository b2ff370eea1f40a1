-- How the logic stores the tree of a text: as its parts.
use Rattle.std.specs.Prelude.{ℕ, List, refl}
use Rattle.std.specs.Coded.{Coded, code_by, coded×, coded_list, coded_ℕ}
use Rattle.join_parse.specs.declared.word.SeenTree.{SeenTree}
use Rattle.join_parse.specs.declared.tree.PlaceTree.{PlaceTree}
use Rattle.join_parse.specs.contracts.word.SeenTree as seen
use Rattle.join_parse.specs.contracts.tree.PlaceTree as place
use Rattle.join_parse.specs.Grammar.{TreeOfText}

abbrev pub tree_code : Coded TreeOfText
tree_code =
    code_by (ℕ × (List SeenTree × List PlaceTree))
    (coded× coded_ℕ
    (coded× (coded_list seen.the_row.coded) (coded_list place.the_row.coded)))
    (λ t. (t.version, (t.seen, t.sites)))
    (λ p. record { version = p.0; seen = p.1.0; sites = p.1.1 }) (λ _. refl)
