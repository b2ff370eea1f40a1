use Rattle.std.proofs.Common.{◌≡◌, true, List, subst, ap, ◌∙◌}
use Rattle.chem_model.specs.declared.name.Name.{Name}
use Rattle.net_laws.specs.Site.{Told}
use Rattle.site_shelves.specs.declared.told.Told.TheInside.{Inside}
use Rattle.site_shelves.specs.Named.{names_in}
use Rattle.site_limits.specs.Limits.{Limits}
use Rattle.site_limits.specs.Knows.{Noted}
use Rattle.site_limits.proofs.Repeated.{noted-told}
use Rattle.site_limits.proofs.known.note_told.Goals as goal

pub returns : goal.returns
returns c = λ noted.
    let env = c.as_slice.ensures.members ∙ ap (λ (e : Inside). e.inst.env) c.told-inside.view_is
    ∙ ap (λ (e : Told). e.inst.env) c.told.view_is in
    let names = subst (λ (ns : List Name). Noted c.args.known.now c.note_env.new.known
    (λ (b : Limits). names_in b.known ns ≡ true)) env (c.note_env.ensures noted) in
    noted-told c.args.number c.args.told.now c.args.known.now c.note_env.new.known
    c.note_numbers.new.known c.note_shape.new.known names c.note_numbers.ensures
    c.note_shape.ensures
