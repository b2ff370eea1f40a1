use Rattle.std.proofs.Common.{◌≡◌, ◌<◌, ◌∷◌, ◌++◌, [], length, sym, ap, subst, ◌∙◌, arith}
use Rattle.std.specs.Prelude.{slice_index_or, slice_set}
use Rattle.std.proofs.lemmas.List.{get_or_default}
use Rattle.chem_model.specs.Binders.{is_among}
use Rattle.site_shelves.specs.inside.Waits.{KeepsWaits}
use Rattle.site_shelves.proofs.WaitLemmas.{waits-here, waits-kept, waits-same}
use Rattle.site_shelves.proofs.level_masks.wait_on.Goals as goal

pub returns-in_err-push-clause-kept : goal.returns-in_err-push-clause-kept
returns-in_err-push-clause-kept c =
    let waits = c.args.waits.now.items in
    let held = c.args.waits.now.ok in
    let within : c.args.chan < length waits =
    omega (arith, held, c.len.ensures, c.if-chan-len.false) in
    let read : c.index_mut-list.result.now ≡ slice_index_or waits c.args.chan [] =
    c.index_mut-list.ensures.value
    ∙ get_or_default waits c.args.chan c.index_mut-list.result.now [] within in
    let same = ap (slice_set waits c.args.chan) (c.in_err-push.ensures.err ∙ read)
    ∙ waits-same waits c.args.chan within in
    subst (KeepsWaits waits) (sym same) (λ d i e. e)

pub returns-clause-here : goal.returns-clause-here
returns-clause-here c =
    let waits = c.args.waits.now.items in
    let held = c.args.waits.now.ok in
    let within : c.args.chan < length waits =
    omega (arith, held, c.len.ensures, c.if-chan-len.false) in
    let read : c.index_mut-list.result.now ≡ slice_index_or waits c.args.chan [] =
    c.index_mut-list.ensures.value
    ∙ get_or_default waits c.args.chan c.index_mut-list.result.now [] within in
    let new = c.in_ok-push.ensures.ok ∙ ap (λ ns. ns ++ c.args.place ∷ []) read in
    ap (λ ns. is_among (slice_index_or (slice_set waits c.args.chan ns) c.args.chan [])
    c.args.place) new ∙ waits-here waits c.args.chan c.args.place within

pub returns-clause-kept : goal.returns-clause-kept
returns-clause-kept c =
    let waits = c.args.waits.now.items in
    let held = c.args.waits.now.ok in
    let within : c.args.chan < length waits =
    omega (arith, held, c.len.ensures, c.if-chan-len.false) in
    let read : c.index_mut-list.result.now ≡ slice_index_or waits c.args.chan [] =
    c.index_mut-list.ensures.value
    ∙ get_or_default waits c.args.chan c.index_mut-list.result.now [] within in
    let new = c.in_ok-push.ensures.ok ∙ ap (λ ns. ns ++ c.args.place ∷ []) read in
    subst (λ ns. KeepsWaits waits (slice_set waits c.args.chan ns)) (sym new)
    (waits-kept waits c.args.chan c.args.place within)
