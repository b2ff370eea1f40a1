use Rattle.std.proofs.Common.{◌≡◌, ℕ, drop}
use Rattle.std.specs.Ordering.{nat_cmp}
use Rattle.std.specs.BTreeMap.{get}
use Rattle.chem_model.specs.Fill.{name_at}
use Rattle.chem_plain.specs.inside.Names.{walked, or_name}
use Rattle.chem_plain.proofs.names.index_of.Given as goal

abbrev pub invariant-loop-at : goal.invariant-loop-at
invariant-loop-at l = (q : ℕ)
    → or_name (get nat_cmp l.index q) (name_at (drop l.at l.items) q)
    ≡ name_at (drop walked l.items) q
