-- A rule at a dead location needs no key.
use Rattle.std.proofs.Common.{refl, sym, ◌∙◌, inr}
use Rattle.std.proofs.lemmas.Bool.{and_parts}
use Rattle.chem_model.specs.Numbered.{standing}
use Rattle.chem_model.specs.Solution.{is_there, dead}
use Rattle.chem_commit.proofs.Founds.{rules_differ}
use Rattle.book_store.proofs.Watching.{but_one}
use Rattle.book_store.proofs.waiting.judge_again.Goals as goal

pub returns-then-is_dead : goal.returns-then-is_dead
returns-then-is_dead c =
    let pl = standing c.args.numbered.now.places in
    let at = c.args.rule.now.loc in
    let both = and_parts (is_there (pl at)) (dead pl at)
    (sym c.is_dead.ensures ∙ c.if-is_dead.true) in
    but_one pl c.args.older.now.keys.keys c.args.numbered.now.rules
    (rules_differ c.args.numbered.now c.requires.sound) c.args.waiting.now _ c.args.rule.now
    c.requires.there
    (record {
      noted = refl;
      filed = λ k there. there;
      sites = c.drop_candidate.ensures.sites;
      places = c.drop_candidate.ensures.places;
    })
    (inr (inr both.1)) c.requires.watched
