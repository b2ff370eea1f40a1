-- One entry more is put in, from the last to the first.
use Rattle.std.proofs.Common.{◌≡◌, ◌-◌, suc, arith}
use Rattle.chem_model.specs.declared.name.Name.TheVariants.{Seen}
use Rattle.chem_model.specs.declared.numbered.Named.{Named}
use Rattle.trace_text.proofs.Keys.{one_earlier}
use Rattle.trace_text.proofs.tables.put_all.Goals as goal

pub loop-left-preserved : goal.loop-left-preserved
loop-left-preserved c =
    let next : c.loop-left.left ≡ suc (c.loop-left.left - 1) = omega arith in
    let none : Named = record { binder = 0; name = Seen 0 } in (
      omega arith,
      λ x. one_earlier x c.args.entries.now c.loop-left.left (c.loop-left.left - 1) none _ _ next
          (omega (arith, c.loop-left.invariant.0)) (c.loop-left.invariant.1 x)
          (c.in_ok-put.ensures x),
    )
