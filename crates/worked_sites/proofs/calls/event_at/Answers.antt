use Rattle.std.proofs.Common.{◌≡◌, true, rules}
use Rattle.site_solution.specs.InCode.{is_in_code}
use Rattle.worked_sites.proofs.Needs.{is_told}
use Rattle.worked_sites.proofs.calls.event_at.Goals as goal

pub event_of-requires-clause-told : goal.event_of-requires-clause-told
event_of-requires-clause-told c =
    let coded : is_in_code c.args.code.now c.args.tree.now c.args.site.now ≡ true = search rules in
    is_told c.args.code.now c.args.tree.now c.args.site.now c.in-Some.pick coded
