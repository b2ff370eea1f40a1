-- One after another goes to the newest ones.
use Rattle.std.proofs.Common.{get_or}
use Rattle.std.proofs.lemmas.List.{get_or_default}
use Rattle.chem_model.specs.declared.event.AtomId.{AtomId}
use Rattle.book_store.proofs.StoreLaws.{sound_moved, moves_on, gone_more}
use Rattle.book_store.proofs.store.bring_all.Goals as goal

pub bring_one-requires-clause-sound : goal.bring_one-requires-clause-sound
bring_one-requires-clause-sound c = sound_moved c.args.solution.now c.loop-id.solution
    c.args.store.now c.loop-id.store c.loop-id.invariant.1 c.requires.sound

pub loop-id-preserved : goal.loop-id-preserved
loop-id-preserved c =
    let items = c.as_slice-id-items.result.now in
    let j = c.loop-id.id-index in
    let zero : AtomId = record { site = 0; k = 0 } in
    let i : AtomId = get_or items j zero in (
      c.in_ok-bring_one.ensures.stored,
      moves_on c.args.solution.now c.loop-id.solution c.bring_one.new.solution c.args.store.now
          c.loop-id.store c.bring_one.new.store c.loop-id.invariant.1
          c.in_ok-bring_one.ensures.moves,
      gone_more c.loop-id.store.older.table c.bring_one.new.store.older.table items j i
          c.loop-id-test.true (get_or_default items j zero i c.loop-id-test.true)
          c.in_ok-bring_one.ensures.fewer c.loop-id.invariant.2 c.in_ok-bring_one.ensures.gone,
    )
