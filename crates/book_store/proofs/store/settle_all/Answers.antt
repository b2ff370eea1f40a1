-- Notes change nothing but where rules wait.
use Rattle.book_store.proofs.SoundLaws.{sound_rest}
use Rattle.book_store.proofs.store.settle_all.Goals as goal

pub note_rules-requires-clause-sound : goal.note_rules-requires-clause-sound
note_rules-requires-clause-sound c =
    sound_rest c.args.store.now.older.table c.args.solution.now c.requires.sound
