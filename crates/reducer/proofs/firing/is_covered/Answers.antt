use Rattle.std.proofs.Common.{◌≡◌, ◌∙◌, length, subst, sym, ap}
use Rattle.std.specs.Prelude.{◌↔◌, IsTrue}
use Rattle.queue_cells.specs.Grouped.{AllHeld}
use Rattle.env_store.specs.declared.code.Guard.{Guard}
use Rattle.site_solution.specs.Held.{queues_of}
use Rattle.reducer.proofs.Levels.{told_as, guard_same}
use Rattle.reducer.proofs.Guards.{mask_words, queues_are}
use Rattle.reducer.proofs.Fires.{covered_by}
use Rattle.reducer.proofs.firing.is_covered.Goals as goal

pub covers-requires-clause-words : goal.covers-requires-clause-words
covers-requires-clause-words c =
    let x = c.requires.pick.0 in
    let picks = c.requires.pick.1 in
    let p = c.args.pick.now in
    let same : x.guard ≡ c.guard_at-guard.result.now =
    guard_same c.args.code.now c.args.site.now p x c.guard_at-guard.result.now picks
    c.guard_at-guard.ensures.at in
    ap length (ap (λ (u : Guard). u.mask.words) (sym same))
    ∙ mask_words c.args.code.now c.args.site.now p x
    c.guard_at-guard.ensures.is c.site_is_kept.ensures.kept picks
    (told_as c.args.code.now c.args.site.now p x picks (c.requires.level x.group picks.group))

pub returns : goal.returns
returns c =
    let x = c.requires.pick.0 in
    let picks = c.requires.pick.1 in
    let p = c.args.pick.now in
    let same : x.guard ≡ c.guard_at-guard.result.now =
    guard_same c.args.code.now c.args.site.now p x c.guard_at-guard.result.now picks
    c.guard_at-guard.ensures.at in
    let words : c.guard_at-guard.result.now.mask.words ≡ x.guard.mask.words =
    ap (λ (u : Guard). u.mask.words) (sym same) in
    let queues = queues_are c.args.site.now.groups p.group x.group picks.group in
    let tells = subst (λ qs. IsTrue c.covers.result ↔ AllHeld qs x.guard.mask.words) queues
    (subst (λ ws. IsTrue c.covers.result ↔ AllHeld (queues_of c.args.site.now.groups p.group) ws)
    words c.covers.ensures) in
    covered_by c.args.code.now c.args.site.now p x picks c.covers.result tells
