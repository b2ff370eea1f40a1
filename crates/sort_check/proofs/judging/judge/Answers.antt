use Rattle.std.proofs.Common.{rules, ◌≡◌, ℕ, None, ◌++◌, sym, ap, subst, ◌∙◌}
use Rattle.chem_model.specs.ProgramFacts.{IsProgram}
use Rattle.sort_laws.specs.Table.{used_as, binder_sort, sorting}
use Rattle.sort_check.specs.Asked.{asked_of_seen}
use Rattle.sort_check.specs.Judged.{IsJudged, MeansNoWrongAtom}
use Rattle.sort_check.specs.inside.First.{first_of}
use Rattle.sort_check.specs.inside.Pairs.{sort_at, by_lists, pair_sites}
use Rattle.sort_check.specs.inside.Gathered.{seen_sorts}
use Rattle.sort_check.specs.inside.Told.{in_map, TellsAs}
use Rattle.sort_check.proofs.Gathered.{kept_are, said_as}
use Rattle.sort_check.proofs.Answer.{answered, no_wrong}
use Rattle.sort_check.proofs.judging.judge.Goals as goal

pub returns-clause-judged : goal.returns-clause-judged
returns-clause-judged c =
    let sorts = c.args.sorts.now in
    let p = c.args.program.now in
    let tree = c.args.tree.now in
    let told : TellsAs sorts.uses c.in_ok-uses.uses = search rules in
    let made : c.in_ok-seen.seen ≡ seen_sorts (in_map c.in_ok-uses.uses) p.seen = search rules in
    let obs : c.in_ok-seen.seen ≡ seen_sorts (used_as sorts.uses) p.seen =
    made ∙ ap (λ f. seen_sorts f p.seen) (said_as sorts.uses c.in_ok-uses.uses told) in
    let found : (b : ℕ) → sort_at c.in_ok-binders.binders b ≡ binder_sort sorts p b =
    search rules in
    let r = by_lists sorts.decls c.in_ok-binders.binders c.in_ok-seen.seen in
    let same : r ≡ sorting sorts p =
    kept_are sorts p c.in_ok-binders.binders c.in_ok-seen.seen found obs in
    let first : c.first_fault.result
    ≡ first_of r.args None (asked_of_seen r 0 tree.seen ++ pair_sites r tree.sites p.sites) =
    search rules in
    subst (IsJudged tree p sorts) (sym c.answer.ensures)
    (answered tree p sorts r c.first_fault.result c.requires.program same first)

pub returns-clause-keeps : goal.returns-clause-keeps
returns-clause-keeps c =
    let p = c.args.program.now in
    let program : IsProgram p = search rules in
    subst (MeansNoWrongAtom p) (sym c.answer.ensures)
    (no_wrong c.args.tree.now p c.args.sorts.now c.first_fault.result c.requires.program program
    (subst (IsJudged c.args.tree.now p c.args.sorts.now)
    c.answer.ensures (returns-clause-judged c)))
