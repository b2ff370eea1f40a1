use Rattle.std.proofs.Common.{rules, ◌≡◌, ◌∙◌, false, ap, length}
use Rattle.std.specs.Prelude.{replicate}
use Rattle.std.proofs.lemmas.List.{length-replicate}
use Rattle.queue_cells.specs.inside.Rows.{no_ends}
use Rattle.queue_cells.proofs.rows.Idle.new.Goals as goal

pub returns-clause-width : goal.returns-clause-width
returns-clause-width g c = ap length c.in_ok-status.ensures ∙ length-replicate c.args.width false

pub invariant_of-result : goal.invariant_of-result
invariant_of-result g c =
    let size : length c.in_ok-status.status ≡ c.args.width =
    ap length c.in_ok-status.ensures ∙ length-replicate c.args.width false in
    let ends : c.in_ok-ends.ends.items ≡ replicate c.args.width no_ends = search rules in
    record { ends = rw size ends; status = rw size c.in_ok-status.ensures }
