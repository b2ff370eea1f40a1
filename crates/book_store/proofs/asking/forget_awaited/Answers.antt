-- One key goes, of this request.
use Rattle.book_store.proofs.AskLaws.{keeps_but}
use Rattle.book_store.proofs.asking.forget_awaited.Goals as goal

pub returns-in-Some : goal.returns-in-Some
returns-in-Some c = keeps_but c.args.atom.now.id c.place_number.result c.args.awaits.now.keys
    c.drop_key.new.keys.keys c.drop_key.ensures.kept
