use Rattle.std.proofs.Common.{◌≡◌, ◌<◌, ◌^◌, ◌∙◌, ◌++◌, List, length, sym, ap, subst}
use Rattle.wire_packet.specs.GroupFacts.{GroupParts}
use Rattle.wire_packet.specs.declared.packet.Waiting.{Waiting}
use Rattle.wire_packet.specs.ParcelFacts.{IsParcel}
use Rattle.net_laws.specs.Site.{Group, Site, told_in}
use Rattle.net_laws.specs.Parcels.{insts_in}
use Rattle.net_laws.specs.Parcels.{groups_at, stuck_at, requests_at, in_all_queues, pack, parcel_of}
use Rattle.site_shelves.specs.inside.Packed.{HasFewNames}
use Rattle.site_solution.specs.inside.Stored.{seen}
use Rattle.chem_model.specs.Each.{Each}
use Rattle.site_solution.proofs.Packed.{packed-parcel}
use Rattle.site_solution.proofs.site.Site.pack.Goals as goal

pub invariant_of-result : goal.invariant_of-result
invariant_of-result c =
    let s : Site = seen c.self.inside in
    let l = c.args.loc.now in
    let groups = c.in_ok-groups.ensures.is
    ∙ ap (λ (gs : List Group). insts_in (told_in (groups_at l gs))) c.rows-rows.ensures.groups in
    let waiting = c.in_ok-waiting.ensures
    ∙ ap (λ (gs : List Group). in_all_queues (groups_at l gs) ++ stuck_at l c.stuck.result.now)
    c.rows-rows.ensures.groups
    ∙ ap (λ ws. in_all_queues (groups_at l s.groups) ++ stuck_at l ws) c.stuck.ensures in
    let requests = c.in_ok-requests.ensures ∙ ap (requests_at l) c.as_slice.ensures.members in
    let few_groups : length c.in_ok-groups.groups < 2 ^ 32 =
    subst (λ (gs : List GroupParts). length gs < 2 ^ 32) c.groups.view_is c.groups.invariant in
    let few_waiting : length c.in_ok-waiting.waiting < 2 ^ 32 =
    subst (λ (ws : List Waiting). length ws < 2 ^ 32) c.waiting.view_is c.waiting.invariant in
    let is : record {
      loc = l;
      groups = c.in_ok-groups.groups;
      waiting = c.in_ok-waiting.waiting;
      requests = c.in_ok-requests.requests;
    } ≡ parcel_of (pack l s) =
    ap (λ gs. record {
      loc = l;
      groups = gs;
      waiting = c.in_ok-waiting.waiting;
      requests = c.in_ok-requests.requests;
    }) groups
    ∙ ap
    (λ ws. record (parcel_of (pack l s)) { waiting = ws; requests = c.in_ok-requests.requests })
    waiting
    ∙ ap (λ qs. record (parcel_of (pack l s)) { requests = qs }) requests in
    subst IsParcel (sym is) (packed-parcel l s
    c.self.invariant.stored.kept c.as_slice.ensures.asked c.self.invariant.stored.once (record {
      groups = subst (λ (gs : List GroupParts). length gs < 2 ^ 32) groups few_groups;
      waiting = subst (λ (ws : List Waiting). length ws < 2 ^ 32) waiting few_waiting;
      names =
          subst (λ (gs : List GroupParts). Each HasFewNames gs) groups c.in_ok-groups.ensures.names;
    }))
