-- The message or request goes from the older to the newest ones.
use Rattle.std.proofs.Common.{◌≡◌, Some, refl, sym, ◌∙◌, ap}
use Rattle.chem_model.specs.Apply.{atom_at}
use Rattle.book_store.proofs.ByNumber.{atom_has}
use Rattle.book_store.proofs.SoundLaws.{sound_rest}
use Rattle.book_store.proofs.StoreLaws.{brought_moves, brought_gone, brought_fewer, brought_stored}
use Rattle.book_store.proofs.StoreLaws.{asking_but_here}
use Rattle.book_store.proofs.store.bring_one.Goals as goal

pub root_of-site-requires : goal.root_of-site-requires
root_of-site-requires c =
    sound_rest c.args.store.now.older.table c.args.solution.now c.requires.sound

pub returns-in-Some-remove-clause-stored : goal.returns-in-Some-remove-clause-stored
returns-in-Some-remove-clause-stored c =
    let s = c.args.store.now in
    let i = c.args.id in
    let out = c.in-Some-remove.atom in
    let has : out.id ≡ i = atom_has s.older.table i out (sym c.in-Some-remove.ensures.found) in
    brought_stored c.args.solution.now s _ i c.requires.sound c.remove.ensures.left
    c.push.new.self refl c.remove.ensures.fewer
    (asking_but_here i out.id s.asking c.forget_one.new.asking has c.forget_one.ensures)
    c.requires.stored

pub returns-in-Some-remove-clause-moves : goal.returns-in-Some-remove-clause-moves
returns-in-Some-remove-clause-moves c =
    let s = c.args.store.now in
    let copy = c.in_ok-copy-in-Some.copy in
    let found : atom_at s.older.table c.args.id ≡ Some copy =
    sym c.in-Some.ensures ∙ ap Some (sym c.in_ok-copy-in-Some.ensures) in
    brought_moves c.args.solution.now s _ c.args.id c.requires.sound c.remove.ensures.left copy
    c.push.new.self found c.in_ok-push-in-Some.ensures.ok

pub returns-in-Some-remove-clause-gone : goal.returns-in-Some-remove-clause-gone
returns-in-Some-remove-clause-gone c = brought_gone c.args.solution.now c.args.store.now
    (record c.args.store.now { older = c.remove.new.self }) c.args.id c.requires.sound
    c.remove.ensures.left

pub returns-in-Some-remove-clause-fewer : goal.returns-in-Some-remove-clause-fewer
returns-in-Some-remove-clause-fewer c = brought_fewer c.args.solution.now c.args.store.now
    (record c.args.store.now { older = c.remove.new.self }) c.args.id c.requires.sound
    c.remove.ensures.left
