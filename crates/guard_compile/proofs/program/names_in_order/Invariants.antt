use Rattle.std.proofs.Common.{◌≡◌, length}
use Rattle.chem_model.specs.Fill.{name_at}
use Rattle.chem_model.specs.Opening.{site_names}
use Rattle.guard_compile.proofs.TopNames.{Follows}
use Rattle.guard_compile.proofs.program.names_in_order.Given as goal

abbrev pub invariant-loop-binder : goal.invariant-loop-binder
invariant-loop-binder l = record {
  count : length l.names ≡ l.binder;
  follows : Follows (name_at (site_names l.program.sites)) l.names;
}
