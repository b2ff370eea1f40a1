use Rattle.std.proofs.Common.{◌≡◌, Some, sym, ap, ◌∙◌, arith}
use Rattle.scope_names.specs.Frames.{in_frame, spelled}
use Rattle.scope_names.specs.inside.Places.{place_of}
use Rattle.scope_names.proofs.Spelled.{place_low, entry_there, none_there}
use Rattle.scope_names.proofs.scope.Scope.find.Goals as goal

pub index-requires : goal.index-requires
index-requires c =
    let es = c.self.inside.entries in
    let at : place_of c.args.name.now (spelled es.items) ≡ Some c.in-Some.place =
    ap (place_of c.args.name.now) c.self.view_is ∙ sym c.place.ensures ∙ c.in-Some.is in
    omega (arith, place_low c.args.name.now es.items c.in-Some.place at, es.ok.0)

pub returns-in-Some : goal.returns-in-Some
returns-in-Some c =
    let es = c.self.inside.entries in
    let at : place_of c.args.name.now (spelled es.items) ≡ Some c.in-Some.place =
    ap (place_of c.args.name.now) c.self.view_is ∙ sym c.place.ensures ∙ c.in-Some.is in
    ap (λ e. Some e.1) c.index.ensures
    ∙ entry_there c.args.name.now es.items c.in-Some.place c.index.result.now at
    ∙ ap (in_frame c.args.name.now) c.self.view_is

pub returns-in-None : goal.returns-in-None
returns-in-None c = none_there c.args.name.now c.args.self.now (sym c.place.ensures ∙ c.in-None.is)
