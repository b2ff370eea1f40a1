use Rattle.std.proofs.Common.{◌≡◌, true, List, subst}
use Rattle.chem_model.specs.declared.name.Name.{Name}
use Rattle.site_shelves.specs.Named.{name_in, names_in}
use Rattle.std.specs.Prelude.{◌&&◌}
use Rattle.site_limits.specs.Limits.{Limits, is_before}
use Rattle.site_limits.specs.Knows.{Noted}
use Rattle.site_limits.proofs.Learned.{noted-both}
use Rattle.site_limits.proofs.Stays.{before-stays, name-stays}
use Rattle.site_limits.proofs.known.note_msg.Goals as goal

pub returns : goal.returns
returns c =
    let m = c.msg.inside in
    let names = subst (λ (ns : List Name). Noted c.note_name.new.known c.note_names.new.known
    (λ (d : Limits). names_in d.known ns ≡ true)) c.as_slice.ensures.members c.note_names.ensures in
    rw (← c.msg.view_is) (noted-both c.args.known.now c.note_atom.new.known c.note_names.new.known
    (λ d. is_before d m.id) (λ d. name_in d.known m.on && names_in d.known m.args)
    (before-stays m.id) c.note_atom.ensures
    (noted-both c.note_atom.new.known c.note_name.new.known c.note_names.new.known
    (λ d. name_in d.known m.on) (λ d. names_in d.known m.args) (name-stays m.on)
    c.note_name.ensures names))
