-- It is filed, so the others keep what they have.
use Rattle.std.proofs.Common.{refl, inl}
use Rattle.chem_model.specs.Numbered.{standing}
use Rattle.chem_commit.proofs.Founds.{rules_differ}
use Rattle.book_store.specs.Watched.{no_number}
use Rattle.book_store.proofs.Watching.{all_still, but_one}
use Rattle.book_store.proofs.waiting.file_again.Goals as goal

pub returns-in-Ok : goal.returns-in-Ok
returns-in-Ok c = but_one (standing c.args.numbered.now.places) c.args.older.now.keys.keys
    c.args.numbered.now.rules (rules_differ c.args.numbered.now c.requires.sound)
    c.args.waiting.now _ c.args.rule.now c.requires.there
    (record {
      noted = refl;
      filed = c.add_key.ensures.kept;
      sites = c.drop_candidate.ensures.sites;
      places = c.drop_candidate.ensures.places;
    })
    (inl
    (record { channel = c.in-Some.number; is = c.in-Some.ensures; at = c.in-Ok.ensures.there }))
    c.requires.watched

pub returns-in-Err : goal.returns-in-Err
returns-in-Err c = all_still no_number (standing c.args.numbered.now.places)
    c.args.older.now.keys.keys c.args.waiting.now _ c.args.numbered.now.rules
    (record {
      noted = refl;
      filed = c.add_key.ensures.kept;
      ready = record { sites = λ k at. at; places = λ k at. at };
    })
    c.requires.watched
