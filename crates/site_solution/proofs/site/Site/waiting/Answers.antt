use Rattle.std.proofs.Common.{◌≡◌, ◌+◌, ◌∙◌, length, ap, arith}
use Rattle.site_shelves.specs.Counted.{waiting_in}
use Rattle.site_solution.specs.inside.Stored.{seen}
use Rattle.site_shelves.proofs.Amounts.{stuck-many}
use Rattle.site_solution.proofs.site.Site.waiting.Goals as goal

pub overflow_add-result : goal.overflow_add-result
overflow_add-result c =
    let is : c.messages.result + length c.stuck.result.now ≡ waiting_in (seen c.self.inside) =
    omega (
      arith,
      c.messages.ensures,
      c.rows.ensures.messages,
      ap length c.stuck.ensures,
      stuck-many c.self.inside.shelves.stuck,
    ) in
    omega (arith, is, c.self.invariant.stored.few_waiting)

pub returns-clause-count : goal.returns-clause-count
returns-clause-count c =
    let is : c.messages.result + length c.stuck.result.now ≡ waiting_in (seen c.self.inside) =
    omega (
      arith,
      c.messages.ensures,
      c.rows.ensures.messages,
      ap length c.stuck.ensures,
      stuck-many c.self.inside.shelves.stuck,
    ) in
    is ∙ ap waiting_in c.self.view_is

pub returns-clause-few : goal.returns-clause-few
returns-clause-few c =
    let is : c.messages.result + length c.stuck.result.now ≡ waiting_in (seen c.self.inside) =
    omega (
      arith,
      c.messages.ensures,
      c.rows.ensures.messages,
      ap length c.stuck.ensures,
      stuck-many c.self.inside.shelves.stuck,
    ) in
    omega (arith, is, c.self.invariant.stored.few_waiting)
