use Rattle.std.proofs.Common.{◌≡◌, [], ◌∷◌, ◌++◌, subst}
use Rattle.router.specs.declared.routing.Delivery.{Delivery}
use Rattle.router.specs.declared.routing.Delivery.TheVariants.{Forward}
use Rattle.router.specs.Delivering.{IsDelivery}
use Rattle.site_turn.specs.Bringing.{Brings}
use Rattle.site_turn.proofs.Bringing.{brought_on, still_acts}
use Rattle.site_turn.proofs.Results.{on_ok}
use Rattle.site_turn.proofs.arriving.bring.Goals as goal

pub returns-in-Ok-Forward-clause-ok : goal.returns-in-Ok-Forward-clause-ok
returns-in-Ok-Forward-clause-ok c =
    let t = c.args.tree.now in
    let s = c.args.site.now in
    let m = c.args.msg in
    let bytes = c.args.bytes.now in
    let on = c.args.on.now in
    let new = c.deliver.new.site in
    let target = c.in-Ok-Forward.target in
    let msg = c.in-Ok-Forward.field-0-1 in
    let delivers : IsDelivery t s m (Forward target msg) new =
    subst (λ (d : Delivery). IsDelivery t s m d new) c.in-Ok-Forward.field-0-is
    c.in-Ok-Forward.ensures.ok in
    on_ok (c.add_flight.new.on ≡ on ++ record { target = target; bytes = bytes } ∷ [])
    (Brings t s m bytes on new c.add_flight.new.on) c.add_flight.result
    (brought_on t s m bytes on new target msg c.add_flight.new.on delivers) c.add_flight.ensures

pub returns-in-Ok-Delivered-clause-fit : goal.returns-in-Ok-Delivered-clause-fit
returns-in-Ok-Delivered-clause-fit c = λ code.
    still_acts code c.args.tree.now c.args.tree.now c.args.site.now c.deliver.new.site
    (c.deliver.ensures.fits code)
