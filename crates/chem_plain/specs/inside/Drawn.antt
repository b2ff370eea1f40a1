-- A level that is being named, as the definitions see it.
use Rattle.chem_model.specs.Pour.{Drawn}
use Rattle.chem_plain.specs.declared.pour.Level.{Level}

-- its site's next number, and its names so far
abbrev pub drawn : Level → Drawn
drawn a = record { next = a.next; names = a.names }
