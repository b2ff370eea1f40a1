-- The request goes to the older ones, where it is asked.
use Rattle.std.proofs.Common.{◌≡◌, refl, ap, sym, ◌∙◌, subst}
use Rattle.std.proofs.lemmas.Result.{on_ok_weaker}
use Rattle.chem_model.specs.declared.numbered.NumberedAtom.{NumberedAtom}
use Rattle.chem_model.specs.Each.{IsIn}
use Rattle.chem_model.specs.Numbered.{standing}
use Rattle.chem_model.specs.Sound.{IsAtom}
use Rattle.book_store.specs.Keys.{channel_of}
use Rattle.book_store.specs.inside.Table.{Adds}
use Rattle.book_store.specs.Asked.{IsAsked}
use Rattle.book_store.proofs.AskLaws.{member_of, are_asked_kept}
use Rattle.book_store.proofs.StoreLaws.{isnt_older, request_settled}
use Rattle.book_store.proofs.store.settle_request.Goals as goal

pub ask-requires-clause-there : goal.ask-requires-clause-there
ask-requires-clause-there c = member_of (IsAtom c.args.solution.now) c.args.solution.now.atoms
    c.args.atom.now c.requires.there c.requires.base.atoms

pub returns-in_err-ask-clause-stored : goal.returns-in_err-ask-clause-stored
returns-in_err-ask-clause-stored c = record {
  watched = c.requires.stored.watched;
  asked = are_asked_kept c.args.solution.now.version (standing c.args.solution.now.places)
      c.args.store.now.asking c.ask.new.asking c.in_err-ask.ensures.kept
      c.args.store.now.older.table c.requires.stored.asked;
}

pub add_request-requires-clause-absent : goal.add_request-requires-clause-absent
add_request-requires-clause-absent c =
    let old = c.args.store.now.older.table in
    isnt_older c.args.solution.now old old c.in_ok-copy.copy c.requires.sound
    (subst (λ (x : NumberedAtom). IsIn x c.args.solution.now.atoms) (sym c.in_ok-copy.ensures)
    c.requires.there)

pub add_request-requires-clause-channel : goal.add_request-requires-clause-channel
add_request-requires-clause-channel c =
    ap (λ (x : NumberedAtom). channel_of x.term) c.in_ok-copy.ensures ∙ c.requires.channel

pub returns-clause-stored : goal.returns-clause-stored
returns-clause-stored c =
    let n = c.args.solution.now in
    let copy = c.in_ok-copy.copy in
    let same : copy ≡ c.args.atom.now = c.in_ok-copy.ensures in
    let asks = c.in_ok-ask.ensures in
    let added = c.add_request.ensures in
    request_settled n c.args.store.now _ copy c.add_request.result c.requires.sound
    (subst (λ (x : NumberedAtom). IsIn x n.atoms) (sym same) c.requires.there) added.keys refl
    asks.kept
    (subst (λ (x : NumberedAtom). IsAsked n.version (standing n.places) c.ask.new.asking x)
    (sym same) asks.asked) c.requires.stored added.ok added.err

pub returns-clause-ok : goal.returns-clause-ok
returns-clause-ok c = on_ok_weaker c.add_request.result
    (subst (λ (x : NumberedAtom). Adds x c.args.store.now.older.table c.add_request.new.self.table)
    c.in_ok-copy.ensures) c.add_request.ensures.ok
