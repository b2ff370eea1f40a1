use Rattle.chem_model.specs.declared.name.Name.{Name}
use Rattle.site_shelves.specs.Named.{name_in}
use Rattle.site_limits.specs.Limits.{Limits}
use Rattle.site_limits.proofs.Learned.{left-first, left-next, left-none, member-at}
use Rattle.site_limits.proofs.Stays.{name-stays}
use Rattle.site_limits.proofs.known.note_names.Goals as goal

pub loop-name-init : goal.loop-name-init
loop-name-init c =
    left-first (λ (d : Limits) (n : Name). name_in d.known n) c.args.names.now 0 c.args.known.now

pub loop-name-preserved : goal.loop-name-preserved
loop-name-preserved c =
    left-next (λ (d : Limits) (n : Name). name_in d.known n) c.args.names.now 0
    c.loop-name.name-index _ c.args.known.now c.loop-name.known c.note_name-near.new.known
    (name-stays _) (member-at c.args.names.now c.loop-name.name-index _ c.loop-name-test.true)
    c.loop-name.invariant c.note_name-near.ensures

pub returns : goal.returns
returns c =
    left-none (λ (d : Limits) (n : Name). name_in d.known n) c.args.names.now 0
    c.loop-name.name-index c.args.known.now c.loop-name.known c.loop-name-test.false
    c.loop-name.invariant
