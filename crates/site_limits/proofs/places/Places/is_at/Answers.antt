use Rattle.std.proofs.Common.{◌∙◌, sym, eq-eqb}
use Rattle.std.specs.Prelude.{nat_eq}
use Rattle.std.proofs.lemmas.Bool.{and_from}
use Rattle.site_limits.proofs.Hosting.{pairs-among, place-among}
use Rattle.site_limits.proofs.places.Places.is_at.Goals as goal

pub returns-then-loc-pair : goal.returns-then-loc-pair
returns-then-loc-pair c = λ e.
    let places = c.self.inside.pairs.keys in
    let l = c.args.loc.now in
    let p = c.in-Some.pair.now in
    rw (← c.self.view_is)
    (sym (pairs-among places l) ∙ place-among places l c.args.place p (sym c.in-Some.ensures.key)
    (and_from (nat_eq l.site p.0) (nat_eq l.k p.1) (eq-eqb l.site p.0 c.if-loc-pair.true) e))
