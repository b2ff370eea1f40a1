use Rattle.std.specs.Prelude.{◌&&◌}
use Rattle.site_shelves.specs.Named.{name_in}
use Rattle.site_limits.specs.Limits.{is_before}
use Rattle.site_limits.proofs.Learned.{noted-both}
use Rattle.site_limits.proofs.Stays.{before-stays, name-stays}
use Rattle.site_limits.proofs.known.note_asking.Goals as goal

pub returns : goal.returns
returns c =
    noted-both c.args.known.now c.note_atom.new.known c.note_name-2.new.known
    (λ d. is_before d c.args.id)
    (λ d. name_in d.known c.args.target && name_in d.known c.args.cont) (before-stays c.args.id)
    c.note_atom.ensures
    (noted-both c.note_atom.new.known c.note_name.new.known c.note_name-2.new.known
    (λ d. name_in d.known c.args.target) (λ d. name_in d.known c.args.cont)
    (name-stays c.args.target) c.note_name.ensures c.note_name-2.ensures)
