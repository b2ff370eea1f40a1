use Rattle.std.proofs.Common.{◌<◌, sym, ap, ◌∙◌, arith, length}
use Rattle.std.proofs.lemmas.List.{length-map}
use Rattle.queue_cells.specs.inside.Walk.{messages}
use Rattle.status_words.specs.Words.{number_of_words}
use Rattle.queue_cells.specs.inside.Rows.{queued, is_held}
use Rattle.queue_cells.proofs.RowLemmas.{IsRow-at, lists-at, covers-held}
use Rattle.queue_cells.proofs.groups.Groups.covers_bits.Goals as goal

pub covers_bits-requires : goal.covers_bits-requires
covers_bits-requires g c =
    let group_in = rw (← c.self.view_is) at c.requires.group in
    let words = rw (← c.self.view_is) at c.requires.words in
    let group : c.args.group < length c.self.inside.rows.items = omega (
      arith,
      length-map c.self.inside.rows.items (queued {G = g.row.G.Denot} c.self.inside.cells.slots),
    ) in
    let lists = lists-at c.self.inside.cells.slots c.self.inside.rows.items c.args.group
    c.index-row.result.now group (sym c.index-row.ensures) in
    let row = IsRow-at c.self.inside.cells.slots c.self.inside.rows.items c.args.group
    c.index-row.result.now group (sym c.index-row.ensures) c.self.invariant.each in
    let width = ap length row.status ∙ length-map c.index-row.result.now.ends.items is_held
    ∙ sym (length-map c.index-row.result.now.ends.items (messages c.self.inside.cells.slots))
    ∙ sym (ap length lists) in
    words ∙ ap number_of_words (sym width)

pub returns : goal.returns
returns g c =
    let group_in = rw (← c.self.view_is) at c.requires.group in
    let group : c.args.group < length c.self.inside.rows.items = omega (
      arith,
      length-map c.self.inside.rows.items (queued {G = g.row.G.Denot} c.self.inside.cells.slots),
    ) in
    let lists = lists-at c.self.inside.cells.slots c.self.inside.rows.items c.args.group
    c.index-row.result.now group (sym c.index-row.ensures) in
    let row = IsRow-at c.self.inside.cells.slots c.self.inside.rows.items c.args.group
    c.index-row.result.now group (sym c.index-row.ensures) c.self.invariant.each in
    let both = covers-held c.self.inside.cells.slots c.index-row.result.now c.args.mask.now row in
    rw (← c.self.view_is, lists)
    (λ yes. both.0 (c.covers_bits.ensures.0 yes), λ all. c.covers_bits.ensures.1 (both.1 all))
