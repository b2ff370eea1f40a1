-- The message or request goes from the newest to the older ones.
use Rattle.std.proofs.Common.{refl}
use Rattle.book_store.proofs.Apart.{listed}
use Rattle.book_store.proofs.SoundLaws.{sound_rest}
use Rattle.book_store.proofs.StoreLaws.{stays, stored_still, settle_moves}
use Rattle.book_store.proofs.store.settle_one.Goals as goal

pub settle_atom-requires-clause-base : goal.settle_atom-requires-clause-base
settle_atom-requires-clause-base c =
    sound_rest c.args.store.now.older.table c.args.solution.now c.requires.sound

pub settle_atom-requires-clause-there : goal.settle_atom-requires-clause-there
settle_atom-requires-clause-there c = listed c.args.solution.now.atoms c.as_slice.result.now
    c.in-Some.atom.now c.args.index c.as_slice.ensures.members c.in-Some.ensures.lookup.3.0
    c.in-Some.ensures.lookup.1

pub returns-in_err-settle_atom-in-Some-clause-moves :
    goal.returns-in_err-settle_atom-in-Some-clause-moves
returns-in_err-settle_atom-in-Some-clause-moves c = stays c.args.solution.now c.args.store.now
    c.settle_atom.new.store c.requires.sound c.in_err-settle_atom-in-Some.ensures.err

pub returns-in_ok-settle_atom-in-Some-clause-stored :
    goal.returns-in_ok-settle_atom-in-Some-clause-stored
returns-in_ok-settle_atom-in-Some-clause-stored c = stored_still c.args.solution.now
    c.remove.new.self c.settle_atom.new.store c.in_ok-settle_atom-in-Some.ensures.stored

pub returns-in_ok-settle_atom-in-Some-clause-moves :
    goal.returns-in_ok-settle_atom-in-Some-clause-moves
returns-in_ok-settle_atom-in-Some-clause-moves c = settle_moves c.args.solution.now
    c.args.store.now c.settle_atom.new.store c.as_slice.result.now c.remove.new.self
    c.in-Some.atom.now c.args.index c.requires.sound c.as_slice.ensures.members
    c.in-Some.ensures.lookup.3.0 c.in-Some.ensures.lookup.1
    c.in_ok-settle_atom-in-Some.ensures.ok c.remove.ensures

pub returns-in-None-clause-moves : goal.returns-in-None-clause-moves
returns-in-None-clause-moves c =
    stays c.args.solution.now c.args.store.now c.args.store.now c.requires.sound refl
