-- What pouring a term makes, as one value.
use Rattle.std.specs.Prelude.{◌+◌}
use Rattle.chem_model.specs.Process.{Process, Processes, Definition, Definitions}
use Rattle.env_store.specs.Layout.{births_in, births_in_all, births_in_def, births_in_defs}
use Rattle.env_store.specs.Layout.{sends_in, sends_in_all, sends_in_def, sends_in_defs}
use Rattle.guard_compile.specs.declared.count.Counts.{Counts}

abbrev pub both_poured : Counts → Counts → Counts
both_poured a b = record { births = a.births + b.births; sends = a.sends + b.sends }

abbrev pub poured_in : Process → Counts
poured_in p = record { births = births_in p; sends = sends_in p }

abbrev pub poured_in_all : Processes → Counts
poured_in_all ps = record { births = births_in_all ps; sends = sends_in_all ps }

abbrev pub poured_in_def : Definition → Counts
poured_in_def d = record { births = births_in_def d; sends = sends_in_def d }

abbrev pub poured_in_defs : Definitions → Counts
poured_in_defs ds = record { births = births_in_defs ds; sends = sends_in_defs ds }
