use Rattle.std.proofs.Common.{ap, ◌∙◌}
use Rattle.join_parse.specs.Grammar.{TreeOfText}
use Rattle.scope_check.proofs.Answer.{names-are, reads, refuses}
use Rattle.scope_check.proofs.checks.check.Goals as goal

pub program_with-requires : goal.program_with-requires
program_with-requires c =
    let trees = c.as_slice-2.ensures.members ∙ ap (λ (x : TreeOfText). x.sites) c.tree.view_is in
    let seen = c.as_slice.ensures.members ∙ ap (λ (x : TreeOfText). x.seen) c.tree.view_is in
    c.as_slice-3.ensures.value
    ∙ names-are c.args.tree.now c.as_slice-2.result.now c.as_slice.result.now
    c.in_ok-names.names.items trees seen c.in_ok-names.ensures

pub returns-clause-reads : goal.returns-clause-reads
returns-clause-reads c =
    reads c.args.tree.now _ c.program_with.ensures.program c.program_with.ensures.fault

pub returns-clause-refuses : goal.returns-clause-refuses
returns-clause-refuses c =
    refuses c.args.tree.now _ c.program_with.ensures.program c.program_with.ensures.fault
