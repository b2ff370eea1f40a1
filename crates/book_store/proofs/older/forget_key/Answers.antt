-- The key of a message goes.
use Rattle.book_store.proofs.AskLaws.{keeps_but}
use Rattle.book_store.proofs.older.forget_key.Goals as goal

pub returns-in-Some-clause-kept : goal.returns-in-Some-clause-kept
returns-in-Some-clause-kept c = keeps_but c.args.atom.now.id c.in-Some.channel
    c.args.keys.now.keys c.drop_key.new.keys.keys c.drop_key.ensures.kept
