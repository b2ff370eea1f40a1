use Rattle.std.proofs.Common.{◌≡◌, rules}
use Rattle.std.proofs.lemmas.Result.{on_ok_weaker, on_err_weaker}
use Rattle.std.specs.Map.{set_value}
use Rattle.lossy_link.specs.declared.line.Line.{Line}
use Rattle.lossy_link.specs.Lines.{sent_more}
use Rattle.lossy_link.specs.inside.Table.{same_pair}
use Rattle.lossy_link.proofs.Filing.{written, unwritten}
use Rattle.lossy_link.proofs.lines.push_sent.Goals as goal

pub returns-clause-ok : goal.returns-clause-ok
returns-clause-ok c =
    let es = c.args.table.now.entries in
    let new = c.get_mut.follows.lender c.note_sent.new.line in
    let put : new.entries ≡ set_value (same_pair (c.args.from, c.args.into)) es
    c.note_sent.new.line = search rules in
    on_ok_weaker c.note_sent.result (λ made. written c.args.from c.args.into es new.entries
    c.in-Some.line.now c.note_sent.new.line c.in-Some.ensures.value put
    (λ (l : Line). sent_more l c.args.bytes) c.requires.filed made) c.note_sent.ensures.ok

pub returns-clause-err : goal.returns-clause-err
returns-clause-err c =
    let es = c.args.table.now.entries in
    let new = c.get_mut.follows.lender c.note_sent.new.line in
    let put : new.entries ≡ set_value (same_pair (c.args.from, c.args.into)) es
    c.note_sent.new.line = search rules in
    on_err_weaker c.note_sent.result (λ same. unwritten c.args.from c.args.into es new.entries
    c.in-Some.line.now c.note_sent.new.line c.in-Some.ensures.value put same)
    c.note_sent.ensures.err
