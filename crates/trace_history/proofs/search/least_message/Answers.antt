-- The least of the older messages, and of the newest ones.
use Rattle.std.proofs.Common.{List, ◌++◌, subst}
use Rattle.std.specs.Option.{option_copied}
use Rattle.chem_model.specs.declared.numbered.NumberedAtom.{NumberedAtom}
use Rattle.book_store.specs.Walk.{IsFirstOf}
use Rattle.chem_causes.specs.Ready.{receives}
use Rattle.book_store.specs.Older.{atom_before}
use Rattle.trace_history.proofs.Founds.{messages_order}
use Rattle.trace_history.proofs.Joined.{first_joined}
use Rattle.trace_history.proofs.search.least_message.Goals as goal

pub returns : goal.returns
returns c =
    let old = c.args.older.now.table in
    let test = receives c.args.at c.args.pat.now in
    let o = option_copied c.least_of.result in
    subst (λ (l : List NumberedAtom). IsFirstOf test atom_before (old ++ l) o)
    c.as_slice.ensures.members
    (first_joined test atom_before messages_order old c.as_slice.result.now
    (option_copied c.first_older-kept.result) o c.first_older-kept.ensures c.least_of.ensures)
