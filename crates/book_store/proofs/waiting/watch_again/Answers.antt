use Rattle.std.proofs.Common.{◌≡◌, ◌∙◌, Some, None, subst}
use Rattle.std.proofs.lemmas.Option.{same_Some}
use Rattle.std.proofs.lemmas.Result.{on_ok_weaker}
use Rattle.chem_model.specs.Numbered.{standing}
use Rattle.chem_model.specs.declared.numbered.NumberedRule.{NumberedRule}
use Rattle.book_store.specs.Watched.{IsWatched}
use Rattle.book_store.proofs.Watching.{keeps_all}
use Rattle.book_store.proofs.waiting.watch_again.Goals as goal

pub returns-in-Some-clause-watched : goal.returns-in-Some-clause-watched
returns-in-Some-clause-watched c = on_ok_weaker c.watch.result (λ h r found.
    subst (λ (x : NumberedRule). IsWatched c.args.but (standing c.args.numbered.now.places)
    c.args.older.now.keys.keys c.watch.new.waiting x)
    (same_Some c.in-Some.rule.now r (c.in-Some.ensures ∙ found)) h) c.watch.ensures.watched

pub returns-in-None-clause-watched : goal.returns-in-None-clause-watched
returns-in-None-clause-watched c = λ r found.
    let clash : None ≡ Some r = c.in-None.ensures ∙ found in
    cc

pub returns-in-None-clause-kept : goal.returns-in-None-clause-kept
returns-in-None-clause-kept c = keeps_all c.args.waiting.now
