use Rattle.std.proofs.Common.{[], IfOk, IfErr, ap, ◌∙◌, subst}
use Rattle.sort_lines.specs.inside.Told.{told}
use Rattle.sort_lines.specs.inside.Judging.{AreSaid, names_in, first_wrong, EndsIn, Declare}
use Rattle.sort_lines.proofs.Declared.{read_sorts_are, read_fault_is}
use Rattle.sort_lines.proofs.read.sorts_read.Goals as goal

pub returns-clause-sorts : goal.returns-clause-sorts
returns-clause-sorts c =
    let all = c.in_ok-all.all.items in
    read_sorts_are c.args.bytes.now c.in_ok-lines.lines.items all
    c.in_ok-names.names c.sorts_of.result c.in_ok-lines.ensures.lines
    (subst (λ ls. AreSaid (told ls) all) c.as_slice.ensures.value c.in_ok-all.ensures)
    (c.in_ok-names.ensures ∙ ap names_in c.as_slice-2.ensures.value)
    (subst (λ rs. IfOk c.sorts_of.result (Declare c.in_ok-names.names rs))
    c.as_slice-3.ensures.value c.sorts_of.ensures.sorts)

pub returns-clause-fault : goal.returns-clause-fault
returns-clause-fault c =
    let all = c.in_ok-all.all.items in
    read_fault_is c.args.bytes.now c.in_ok-lines.lines.items all
    c.in_ok-names.names c.sorts_of.result c.in_ok-lines.ensures.lines
    (subst (λ ls. AreSaid (told ls) all) c.as_slice.ensures.value c.in_ok-all.ensures)
    (c.in_ok-names.ensures ∙ ap names_in c.as_slice-2.ensures.value)
    (subst (λ rs. IfErr c.sorts_of.result (EndsIn (first_wrong c.in_ok-names.names 0 [] rs)))
    c.as_slice-3.ensures.value c.sorts_of.ensures.fault)
