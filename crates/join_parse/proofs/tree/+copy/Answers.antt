-- A member of a list is less deep than the list.
use Rattle.std.proofs.Common.{rules, take, ◌++◌, ◌∷◌, [], ◌∙◌, ap, sym}
use Rattle.std.proofs.lemmas.List.{take_more}
use Rattle.join_parse.specs.Members.{procs_depth-member, defs_depth-member}
use Rattle.join_parse.proofs.tree.+copy.Goals as goal

pub copy_definitions-copy-requires : goal.copy_definitions-copy-requires
copy_definitions-copy-requires t c =
    let falls = rw c.as_slice-member-items.ensures.members at
    (defs_depth-member c.as_slice-member-items.result.now c.loop-member.member-index
    c.member-item.result c.loop-member-test.true c.member-item.is) in
    (search (rules, falls), tt)

pub copy_processes-copy-requires : goal.copy_processes-copy-requires
copy_processes-copy-requires t c =
    let falls = rw c.as_slice-member-items.ensures.members at
    (procs_depth-member c.as_slice-member-items.result.now c.loop-member.member-index
    c.member-item.result c.loop-member-test.true c.member-item.is) in
    (search (rules, falls), tt)

pub copy_definitions-loop-member-preserved : goal.copy_definitions-loop-member-preserved
copy_definitions-loop-member-preserved t c =
    let items = c.as_slice-member-items.result.now in
    let i = c.loop-member.member-index in
    let same = c.in_ok-copy.ensures ∙ c.member-item.is in
    c.in_ok-push.ensures.ok ∙ ap (λ l. l ++ c.in_ok-copy.copy ∷ []) c.loop-member.invariant
    ∙ ap (λ m. take i items ++ m ∷ []) same
    ∙ sym (take_more items i c.member-item.result c.loop-member-test.true)

pub copy_processes-loop-member-preserved : goal.copy_processes-loop-member-preserved
copy_processes-loop-member-preserved t c =
    let items = c.as_slice-member-items.result.now in
    let i = c.loop-member.member-index in
    let same = c.in_ok-copy.ensures ∙ c.member-item.is in
    c.in_ok-push.ensures.ok ∙ ap (λ l. l ++ c.in_ok-copy.copy ∷ []) c.loop-member.invariant
    ∙ ap (λ m. take i items ++ m ∷ []) same
    ∙ sym (take_more items i c.member-item.result c.loop-member-test.true)
