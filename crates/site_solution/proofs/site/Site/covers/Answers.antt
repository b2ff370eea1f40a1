use Rattle.std.proofs.Common.{◌∙◌, length, sym, ap, subst, arith}
use Rattle.queue_cells.specs.Grouped.{AllHeld}
use Rattle.std.specs.Prelude.{◌↔◌, IsTrue}
use Rattle.status_words.specs.Words.{number_of_words}
use Rattle.site_solution.proofs.site.Site.covers.Goals as goal

pub covers_bits-requires-clause-group : goal.covers_bits-requires-clause-group
covers_bits-requires-clause-group c =
    let inside = rw (← c.self.view_is) at c.requires.group in
    omega (arith, inside, c.rows.ensures.many)

pub covers_bits-requires-clause-words : goal.covers_bits-requires-clause-words
covers_bits-requires-clause-words c =
    let inside = rw (← c.self.view_is) at c.requires.words in
    inside ∙ ap (λ qs. number_of_words (length qs)) (sym (c.rows.ensures.queues c.args.group))

pub returns : goal.returns
returns c = rw (← c.self.view_is) (subst (λ qs. IsTrue c.covers_bits.result ↔ AllHeld qs c.args.mask.now)
    (c.rows.ensures.queues c.args.group) c.covers_bits.ensures)
