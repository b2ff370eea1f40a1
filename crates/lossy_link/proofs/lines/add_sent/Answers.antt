use Rattle.std.proofs.Common.{sym, ◌∙◌}
use Rattle.lossy_link.proofs.Filing.{first_written}
use Rattle.lossy_link.proofs.lines.add_sent.Goals as goal

pub returns-clause-ok : goal.returns-clause-ok
returns-clause-ok c =
    c.in_ok-insert.ensures.entries
    ∙ first_written c.args.from c.args.into c.args.bytes c.args.table.now.entries c.in_ok-line.line
    c.requires (sym c.contains_key.ensures ∙ c.if-contains_key.false) c.in_ok-line.ensures
