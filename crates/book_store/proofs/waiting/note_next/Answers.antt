-- The rule is watched, and so are those before it.
use Rattle.std.proofs.Common.{refl}
use Rattle.chem_model.specs.Numbered.{standing}
use Rattle.book_store.specs.Watched.{no_number}
use Rattle.book_store.proofs.Watching.{all_still, one_noted}
use Rattle.book_store.proofs.waiting.note_next.Goals as goal

pub returns-in_err-watch-in-Some : goal.returns-in_err-watch-in-Some
returns-in_err-watch-in-Some c = all_still no_number (standing c.args.numbered.now.places)
    c.args.older.now.keys.keys c.args.waiting.now c.watch.new.waiting c.args.numbered.now.rules
    c.in_err-watch-in-Some.ensures.kept c.requires.watched

pub returns-in_ok-watch-in-Some : goal.returns-in_ok-watch-in-Some
returns-in_ok-watch-in-Some c = one_noted no_number (standing c.args.numbered.now.places)
    c.args.older.now.keys.keys c.args.waiting.now c.watch.new.waiting _ c.args.numbered.now.rules
    c.as_slice.result.now c.in-Some.rule.now c.as_slice.ensures.members
    c.in_ok-watch-in-Some.ensures.kept refl (λ k at. at)
    (record { sites = λ k at. at; places = λ k at. at })
    c.in-Some.ensures.lookup.3.0 c.in-Some.ensures.lookup.1 c.in_ok-watch-in-Some.ensures.watched
    c.requires.watched
