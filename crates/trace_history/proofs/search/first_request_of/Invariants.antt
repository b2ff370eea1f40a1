use Rattle.std.proofs.Common.{◌≡◌, drop}
use Rattle.std.specs.Prelude.{None}
use Rattle.std.specs.Option.{option_copied}
use Rattle.trace_history.specs.inside.Search.{first_of, request_before}
use Rattle.chem_causes.specs.Ready.{can_act}
use Rattle.trace_history.proofs.search.first_request_of.Given as goal

abbrev pub invariant-loop-atom : goal.invariant-loop-atom
invariant-loop-atom l = first_of (can_act l.numbered) (request_before l.numbered l.from)
    (option_copied l.first) (drop l.atom-index l.atoms)
    ≡ first_of (can_act l.numbered) (request_before l.numbered l.from) None l.atoms
