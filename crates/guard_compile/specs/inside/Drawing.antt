-- The names given so far, as the definitions see them.
use Rattle.chem_model.specs.Pour.{Drawn}
use Rattle.guard_compile.specs.declared.names.Drawing.{Drawing}

abbrev pub drawn : Drawing → Drawn
drawn d = record { next = d.next; names = d.names }
