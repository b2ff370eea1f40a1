-- The message goes to the older ones, with its key, where no rule is filed at its channel.
use Rattle.std.proofs.Common.{◌≡◌, refl, ap, sym, ◌∙◌, subst}
use Rattle.std.proofs.lemmas.Result.{on_ok_weaker}
use Rattle.chem_model.specs.declared.numbered.NumberedAtom.{NumberedAtom}
use Rattle.chem_model.specs.Each.{IsIn}
use Rattle.book_store.specs.Keys.{channel_of}
use Rattle.book_store.specs.inside.Table.{Adds}
use Rattle.book_store.proofs.StoreLaws.{isnt_older, message_settled}
use Rattle.book_store.proofs.store.settle_message.Goals as goal

pub returns-in_err-free_channel-clause-stored : goal.returns-in_err-free_channel-clause-stored
returns-in_err-free_channel-clause-stored c = record {
  watched = c.in_err-free_channel.ensures.watched;
  asked = c.requires.stored.asked;
}

pub add_message-requires-clause-absent : goal.add_message-requires-clause-absent
add_message-requires-clause-absent c =
    let old = c.args.store.now.older.table in
    isnt_older c.args.solution.now old old c.in_ok-copy.copy c.requires.sound
    (subst (λ (x : NumberedAtom). IsIn x c.args.solution.now.atoms) (sym c.in_ok-copy.ensures)
    c.requires.there)

pub add_message-requires-clause-channel : goal.add_message-requires-clause-channel
add_message-requires-clause-channel c =
    ap (λ (x : NumberedAtom). channel_of x.term) c.in_ok-copy.ensures ∙ c.requires.channel

pub returns-clause-stored : goal.returns-clause-stored
returns-clause-stored c =
    let n = c.args.solution.now in
    let copy = c.in_ok-copy.copy in
    let same : copy ≡ c.args.atom.now = c.in_ok-copy.ensures in
    let added = c.add_message.ensures in
    message_settled n c.args.store.now _ copy c.args.channel c.add_message.result c.requires.sound
    (subst (λ (x : NumberedAtom). IsIn x n.atoms) (sym same) c.requires.there)
    (ap (λ (x : NumberedAtom). channel_of x.term) same ∙ c.requires.channel) added.only
    c.in_ok-free_channel.ensures.free refl c.requires.stored added.ok added.err

pub returns-clause-ok : goal.returns-clause-ok
returns-clause-ok c = on_ok_weaker c.add_message.result
    (subst (λ (x : NumberedAtom). Adds x c.args.store.now.older.table c.add_message.new.self.table)
    c.in_ok-copy.ensures) c.add_message.ensures.ok
