use Rattle.std.proofs.Common.{◌≡◌, ◌∙◌, None, sym}
use Rattle.net_laws.specs.Site.{Site}
use Rattle.net_laws.specs.Holding.{put}
use Rattle.site_shelves.proofs.Queueing.{taken, not_taken}
use Rattle.site_shelves.proofs.Putting.{put-queued, put-stuck}
use Rattle.site_shelves.proofs.Shelving.{either, on-each, AreIndexed, as-indexed, same-indexed}
use Rattle.site_shelves.specs.inside.Index.{Rows, told_of, spot_of, holding}
use Rattle.site_shelves.proofs.Noting.{serials-known}
use Rattle.site_shelves.proofs.shelves.Shelves.put.Goals as goal

pub push_back-requires-clause-group : goal.push_back-requires-clause-group
push_back-requires-clause-group c = (taken c.self.inside.spots c.self.inside.groups.groups
    c.args.msg c.in-Some.spot c.self.invariant.index (sym c.find.ensures ∙ c.in-Some.is)).group

pub push_back-requires-clause-chan : goal.push_back-requires-clause-chan
push_back-requires-clause-chan c = (taken c.self.inside.spots c.self.inside.groups.groups c.args.msg
    c.in-Some.spot c.self.invariant.index (sym c.find.ensures ∙ c.in-Some.is)).chan

pub push_back-requires-clause-serials : goal.push_back-requires-clause-serials
push_back-requires-clause-serials c =
    serials-known c.self.inside.spots c.self.inside.groups.groups c.self.invariant.index

pub invariant_of-self : goal.invariant_of-self
invariant_of-self c =
    let it = taken c.self.inside.spots c.self.inside.groups.groups c.args.msg c.in-Some.spot
    c.self.invariant.index (sym c.find.ensures ∙ c.in-Some.is) in
    let before = as-indexed c.self.inside c.self.invariant in
    let all = either (λ (qs : Rows). AreIndexed c.self.inside.spots c.self.inside.firsts.keys qs)
    c.push_back.result
    c.self.inside.groups.groups _ c.push_back.new.groups.groups c.push_back.ensures.ok
    c.push_back.ensures.err before (same-indexed c.self.inside.spots
    c.self.inside.firsts.keys c.self.inside.groups.groups _ before it.index it.same) in
    record {
      index = all.index;
      numbers = all.numbers;
      few = all.few;
      covering = c.push_back.ensures.covering;
      begun = all.begun;
    }

pub returns-in-Some-clause-ok : goal.returns-in-Some-clause-ok
returns-in-Some-clause-ok c =
    let it = taken c.self.inside.spots c.self.inside.groups.groups c.args.msg c.in-Some.spot
    c.self.invariant.index (sym c.find.ensures ∙ c.in-Some.is) in
    rw (← c.self.view_is)
    (on-each (λ (s : Site) (qs : Rows). holding s qs c.self.inside.stuck.items)
    (λ (s : Site). put c.args.loc c.args.msg
    (holding s c.self.inside.groups.groups c.self.inside.stuck.items))
    c.push_back.result _ c.push_back.new.groups.groups c.push_back.ensures.ok
    (λ s. put-queued s c.self.inside.groups.groups _
    c.self.inside.stuck.items c.args.loc c.args.msg it.is))

pub returns-in-None-clause-ok : goal.returns-in-None-clause-ok
returns-in-None-clause-ok c =
    let none : spot_of (told_of c.self.inside.groups.groups) c.args.msg ≡ None =
    sym c.find.ensures ∙ c.in-None.is in
    let it = not_taken c.self.inside.spots c.self.inside.groups.groups c.args.msg
    c.self.invariant.index none in
    rw (← c.self.view_is)
    (on-each (λ (s : Site) ws. holding s c.self.inside.groups.groups ws)
    (λ (s : Site). put c.args.loc c.args.msg
    (holding s c.self.inside.groups.groups c.self.inside.stuck.items))
    c.keep.result _ c.keep.new.stuck.items c.keep.ensures.ok
    (λ s. put-stuck s c.self.inside.groups.groups c.self.inside.stuck.items c.args.loc
    c.args.msg it))
