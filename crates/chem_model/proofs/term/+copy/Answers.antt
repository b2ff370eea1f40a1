-- A member of a list is less deep than the list.
use Rattle.std.proofs.Common.{rules, take, ◌++◌, ◌∷◌, [], ◌∙◌, ap, sym}
use Rattle.std.proofs.lemmas.List.{take_more}
use Rattle.chem_model.specs.Members.{procs_depth-member, defs_depth-member}
use Rattle.chem_model.proofs.term.+copy.Goals as goal

pub Items+Defn::copy-copy-requires : goal.Items+Defn::copy-copy-requires
Items+Defn::copy-copy-requires t c =
    let falls = rw c.as_slice-member-items.ensures.members at
    (defs_depth-member c.as_slice-member-items.result.now c.loop-member.member-index
    c.member-item.result c.loop-member-test.true c.member-item.is) in
    (search (rules, falls), tt)

pub Items+Proc::copy-copy-requires : goal.Items+Proc::copy-copy-requires
Items+Proc::copy-copy-requires t c =
    let falls = rw c.as_slice-member-items.ensures.members at
    (procs_depth-member c.as_slice-member-items.result.now c.loop-member.member-index
    c.member-item.result c.loop-member-test.true c.member-item.is) in
    (search (rules, falls), tt)

pub Items+Defn::copy-loop-member-preserved : goal.Items+Defn::copy-loop-member-preserved
Items+Defn::copy-loop-member-preserved t c =
    let items = c.as_slice-member-items.result.now in
    let i = c.loop-member.member-index in
    let same = c.in_ok-copy.ensures ∙ c.member-item.is in
    c.in_ok-push.ensures.ok ∙ ap (λ l. l ++ c.in_ok-copy.copy ∷ []) c.loop-member.invariant
    ∙ ap (λ m. take i items ++ m ∷ []) same
    ∙ sym (take_more items i c.member-item.result c.loop-member-test.true)

pub Items+Proc::copy-loop-member-preserved : goal.Items+Proc::copy-loop-member-preserved
Items+Proc::copy-loop-member-preserved t c =
    let items = c.as_slice-member-items.result.now in
    let i = c.loop-member.member-index in
    let same = c.in_ok-copy.ensures ∙ c.member-item.is in
    c.in_ok-push.ensures.ok ∙ ap (λ l. l ++ c.in_ok-copy.copy ∷ []) c.loop-member.invariant
    ∙ ap (λ m. take i items ++ m ∷ []) same
    ∙ sym (take_more items i c.member-item.result c.loop-member-test.true)
