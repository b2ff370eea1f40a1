use Rattle.std.proofs.Common.{sym, refl, ◌∙◌, subst}
use Rattle.std.specs.Prelude.{IfNone, IfSome}
use Rattle.net_core.specs.declared.choice.Choice.{Choice}
use Rattle.net_core.specs.Choosing.{Allows, IsNext}
use Rattle.net_core.specs.Parts.{net_of}
use Rattle.net_core.specs.Resting.{IsNoneWhereQuiet}
use Rattle.net_core.specs.inside.Searched.{HasSites}
use Rattle.net_core.specs.Whole.{NetParts}
use Rattle.net_core.proofs.Carrying.{carried_length}
use Rattle.net_core.proofs.NextChoices.{none_of, some_of, none_where_quiet}
use Rattle.net_core.proofs.net.Net.next.Goals as goal

pub returns : goal.returns
returns c =
    let p = c.self.inside.parts in
    let code = c.self.inside.code in
    let net = net_of code.seen p in
    let count =
    carried_length p.flights.items ∙ sym c.self.invariant.net.whole.flying.counted in
    let parts : HasSites c.as_slice.result.now p.tree net =
    record { sites_are = sym c.as_slice.ensures.value; tree_is = refl } in
    let none = none_of p.version c.as_slice.result.now p.tree code p.under_way net parts refl count
    c.next_choice.result c.next_choice.ensures.none in
    let some = some_of p.version c.as_slice.result.now p.tree code p.under_way net parts refl count
    c.next_choice.result c.next_choice.ensures.some in
    let quiet =
    none_where_quiet code net c.self.invariant.net.whole.running.code c.next_choice.result none some in
    record {
      none = subst
          (λ (v : NetParts). IfNone c.next_choice.result ((x : Choice) → Allows v.code v.net x → ⊥))
          c.self.view_is none;
      some = subst (λ (v : NetParts). IfSome c.next_choice.result (IsNext v.code v.net))
          c.self.view_is some;
      quiet = subst (λ (v : NetParts). IsNoneWhereQuiet v.code v.net c.next_choice.result)
          c.self.view_is quiet;
    }
