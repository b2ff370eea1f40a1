-- One more is picked, or isn't there.
use Rattle.std.proofs.Common.{[], ◌∷◌, ◌++◌, ◌+◌, take, ap, sym, ◌∙◌, subst}
use Rattle.chem_model.specs.declared.numbered.NumberedAtom.{NumberedAtom}
use Rattle.chem_commit.specs.inside.Differ.{ArePicked}
use Rattle.std.proofs.lemmas.List.{get_or_default}
use Rattle.chem_commit.proofs.Picking.{picked_next, none_next}
use Rattle.chem_commit.proofs.near.picked.Goals as goal
use Rattle.chem_commit.proofs.near.picked.Goals.{in-Some+in_ok-copy-in-Some+in_ok-push-in-Some}
use Rattle.chem_commit.proofs.near.picked.Goals.{in-None}

pub loop-id-preserved : goal.loop-id-preserved
loop-id-preserved c =
    let atoms = c.args.solution.now.atoms in
    let ids = c.as_slice-id-items.result.now in
    let few = c.loop-id.few in
    elim c.match-atom_of.branch [
      | in-Some+in_ok-copy-in-Some+in_ok-push-in-Some w ↦ picked_next atoms ids few
          c.match-atom_of.few c.loop-id.id-index _ w.in-Some.atom.now c.loop-id-test.true
          (get_or_default ids c.loop-id.id-index _ _ c.loop-id-test.true) (sym w.in-Some.ensures)
          (w.few-is
          ∙ (w.in_ok-push-in-Some.ensures.ok
          ∙ ap (λ (a : NumberedAtom). few ++ a ∷ []) w.in_ok-copy-in-Some.ensures))
          c.loop-id.invariant
      | in-None w ↦ subst (ArePicked atoms (take (c.loop-id.id-index + 1) ids)) (sym w.few-is)
          (none_next atoms ids few c.loop-id.id-index _
          c.loop-id-test.true (get_or_default ids c.loop-id.id-index _ _ c.loop-id-test.true)
          (sym w.in-None.ensures) c.loop-id.invariant)
    ]
