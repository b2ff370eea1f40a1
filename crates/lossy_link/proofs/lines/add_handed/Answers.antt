use Rattle.std.proofs.Common.{◌≡◌, rules, sym}
use Rattle.std.proofs.lemmas.Result.{on_ok_weaker, on_err_weaker}
use Rattle.std.specs.Map.{set_value}
use Rattle.lossy_link.specs.declared.line.Line.{Line}
use Rattle.lossy_link.specs.Lines.{handed_more}
use Rattle.lossy_link.specs.inside.Table.{same_pair}
use Rattle.lossy_link.proofs.Filing.{some_found, written, unwritten}
use Rattle.lossy_link.proofs.lines.add_handed.Goals as goal

pub returns-clause-ok : goal.returns-clause-ok
returns-clause-ok c =
    let es = c.args.table.now.entries in
    let new = c.get_mut.follows.lender c.note_handed.new.line in
    let put : new.entries ≡ set_value (same_pair (c.args.from, c.args.into)) es
    c.note_handed.new.line = search rules in
    on_ok_weaker c.note_handed.result (λ made. written c.args.from c.args.into es new.entries
    c.in-Some.line.now c.note_handed.new.line c.in-Some.ensures.value put
    (λ (l : Line). handed_more l c.args.bytes) c.requires.filed made) c.note_handed.ensures.ok

pub returns-clause-err : goal.returns-clause-err
returns-clause-err c =
    let es = c.args.table.now.entries in
    let new = c.get_mut.follows.lender c.note_handed.new.line in
    let put : new.entries ≡ set_value (same_pair (c.args.from, c.args.into)) es
    c.note_handed.new.line = search rules in
    on_err_weaker c.note_handed.result (λ same. unwritten c.args.from c.args.into es new.entries
    c.in-Some.line.now c.note_handed.new.line c.in-Some.ensures.value put same)
    c.note_handed.ensures.err

pub unreachable-requires : goal.unreachable-requires
unreachable-requires c = some_found c.args.from c.args.into c.args.table.now.entries
    c.requires.filed c.requires.there (sym c.in-None.ensures.value)
