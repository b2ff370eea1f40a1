-- A message that is received is among the newest ones or the older ones.
use Rattle.std.proofs.Common.{◌≡◌, List, false, ap, sym, ◌∙◌}
use Rattle.chem_model.specs.declared.numbered.NumberedAtom.{NumberedAtom}
use Rattle.chem_causes.specs.Ready.{is_met}
use Rattle.book_store.specs.Older.{atom_before}
use Rattle.book_store.proofs.Joined.{met_older, met_none}
use Rattle.book_store.proofs.possible.is_met.Goals as goal

pub returns-in-Some : goal.returns-in-Some
returns-in-Some c = met_older atom_before c.args.older.now.table c.args.numbered.now.atoms c.args.at
    c.args.pat.now c.in-Some.field-0.now c.in-Some.ensures

pub returns-in-None : goal.returns-in-None
returns-in-None c =
    let none : is_met c.args.numbered.now.atoms c.args.at c.args.pat.now ≡ false =
    ap (λ (l : List NumberedAtom). is_met l c.args.at c.args.pat.now)
    (sym c.as_slice.ensures.members) ∙ sym c.is_met_by.ensures ∙ c.if-is_met_by.false in
    met_none atom_before
    c.args.older.now.table c.args.numbered.now.atoms c.args.at c.args.pat.now c.in-None.ensures none
