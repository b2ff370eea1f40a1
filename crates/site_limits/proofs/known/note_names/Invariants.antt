use Rattle.chem_model.specs.declared.name.Name.{Name}
use Rattle.site_shelves.specs.Named.{name_in}
use Rattle.site_limits.specs.Limits.{Limits}
use Rattle.site_limits.specs.Knows.{Noted}
use Rattle.site_limits.proofs.Learned.{Left}
use Rattle.site_limits.proofs.known.note_names.Given as goal

abbrev pub invariant-loop-name : goal.invariant-loop-name
invariant-loop-name l = Noted l.fn.known l.known
    (Left (λ (d : Limits) (n : Name). name_in d.known n) l.names 0 l.name-index)
