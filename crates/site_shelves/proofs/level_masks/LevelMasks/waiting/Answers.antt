use Rattle.std.proofs.Common.{◌≡◌, ◌<◌, [], length, ap, sym, ◌∙◌, arith}
use Rattle.std.specs.Prelude.{slice_index_or}
use Rattle.std.proofs.lemmas.List.{get_or_past, get_or_default}
use Rattle.chem_model.specs.Binders.{is_among}
use Rattle.site_shelves.proofs.level_masks.LevelMasks.waiting.Goals as goal

pub returns-then-chan-len : goal.returns-then-chan-len
returns-then-chan-len c = rw (← c.self.view_is) (λ i m at has.
    let waits = c.self.inside.waits.items in
    let held = c.self.inside.waits.ok in
    let past : slice_index_or waits c.args.chan [] ≡ [] =
    get_or_past waits c.args.chan [] (omega (arith, held, c.len.ensures, c.if-chan-len.true)) in
    ap (λ ns. is_among ns i) (sym past) ∙ c.self.invariant i m c.args.chan at has)

pub returns : goal.returns
returns c = rw (← c.self.view_is) (λ i m at has.
    let waits = c.self.inside.waits.items in
    let held = c.self.inside.waits.ok in
    let within : c.args.chan < length waits =
    omega (arith, held, c.len.ensures, c.if-chan-len.false) in
    let read : c.index.result.now ≡ slice_index_or waits c.args.chan [] =
    c.index.ensures ∙ get_or_default waits c.args.chan c.index.result.now [] within in
    ap (λ ns. is_among ns i) (c.as_slice.ensures.members ∙ read)
    ∙ c.self.invariant i m c.args.chan at has)
