use Rattle.std.proofs.Common.{◌≡◌, ◌∙◌, true, sym, ap, subst}
use Rattle.chem_model.specs.declared.name.Loc.{Loc}
use Rattle.chem_model.specs.Opening.{root_of}
use Rattle.wire_packet.specs.MessageFacts.{MessageParts}
use Rattle.net_laws.specs.Site.{Site}
use Rattle.net_laws.specs.Net.{among, home_or}
use Rattle.net_laws.specs.Holding.{put}
use Rattle.loc_tree.specs.Tree.{Tree, spot}
use Rattle.std.specs.Prelude.{is_some}
use Rattle.std.proofs.lemmas.Bool.{and_parts}
use Rattle.site_solution.specs.InTree.{name_stands}
use Rattle.site_solution.specs.inside.InTree.{names_stand}
use Rattle.router.specs.Delivering.{home_at, IsDelivery}
use Rattle.router.specs.declared.routing.Delivery.TheVariants.{Delivered}
use Rattle.router.proofs.Deliveries.{may_deliver, home_there, no_event, delivery_in_tree}
use Rattle.router.proofs.Deliveries.{delivery_in_code, delivery_draws}
use Rattle.router.proofs.routing.deliver.Goals as goal

-- a message that was put at its home
there : (t : Tree) (s : Site) (m : MessageParts) (home : Loc) (new : Site)
    → ((l : Loc) → home_or l m.on ≡ home) → among s.locs home ≡ true → new ≡ put home m s
    → IsDelivery t s m Delivered new
there t s m home new is here done =
    let at : home_at s m ≡ home = is (root_of s.number) in
    (ap (among s.locs) at ∙ here, done ∙ ap (λ (l : Loc). put l m s) (sym at))

pub address-requires : goal.address-requires
address-requires c =
    let may = may_deliver c.args.tree.now c.args.site.now c.args.msg c.requires in
    let home : home_at c.args.site.now c.args.msg ≡ c.home_of-home.result =
    subst
    (λ (m : MessageParts). home_or (root_of c.args.site.now.number) m.on ≡ c.home_of-home.result)
    c.msg.view_is (c.home_of-home.ensures (root_of c.args.site.now.number)) in
    ap (λ (l : Loc). is_some (spot c.args.tree.now l)) (sym home)
    ∙ home_there c.args.tree.now c.args.msg.on (root_of c.args.site.now.number)
    may.channel (and_parts (name_stands c.args.tree.now c.args.msg.on)
    (names_stand c.args.tree.now c.args.msg.args) may.stands).0

pub returns-in-Ok-clause-no_event : goal.returns-in-Ok-clause-no_event
returns-in-Ok-clause-no_event c = λ rules_of.
    no_event rules_of c.args.tree.now c.args.site.now c.args.msg Delivered
    c.put.new.self c.site_is_kept.ensures.kept c.requires
    (there c.args.tree.now c.args.site.now c.args.msg c.home_of-home.result c.put.new.self
    (subst (λ (m : MessageParts). (l : Loc) → home_or l m.on ≡ c.home_of-home.result)
    c.msg.view_is c.home_of-home.ensures) (sym c.has.ensures ∙ c.if-not-has.false)
    c.in-Ok.ensures.ok)

pub returns-in-Ok-clause-fits : goal.returns-in-Ok-clause-fits
returns-in-Ok-clause-fits c = λ code.
    let kept = c.site_is_kept.ensures.kept in
    let is = there c.args.tree.now c.args.site.now c.args.msg c.home_of-home.result c.put.new.self
    (subst (λ (m : MessageParts). (l : Loc) → home_or l m.on ≡ c.home_of-home.result)
    c.msg.view_is c.home_of-home.ensures) (sym c.has.ensures ∙ c.if-not-has.false)
    c.in-Ok.ensures.ok in
    record {
      in_tree = delivery_in_tree c.args.tree.now c.args.site.now c.args.msg kept c.requires Delivered
          c.put.new.self is;
      in_code = delivery_in_code c.args.tree.now c.args.site.now c.args.msg kept c.requires code
          Delivered c.put.new.self is;
      draws = delivery_draws c.args.tree.now c.args.site.now c.args.msg kept c.requires Delivered
          c.put.new.self is;
    }
