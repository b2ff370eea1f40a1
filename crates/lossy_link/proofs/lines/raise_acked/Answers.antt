use Rattle.std.proofs.Common.{◌≡◌, rules, sym, ap, ◌∙◌}
use Rattle.std.specs.Map.{set_value}
use Rattle.lossy_link.specs.declared.line.Line.{Line}
use Rattle.lossy_link.specs.Lines.{acked_more}
use Rattle.lossy_link.specs.inside.Table.{same_pair, has_open}
use Rattle.lossy_link.proofs.Filing.{found_line, some_found, written}
use Rattle.lossy_link.proofs.lines.raise_acked.Goals as goal

pub unreachable-requires : goal.unreachable-requires
unreachable-requires c = some_found c.args.from c.args.into c.args.table.now.entries
    c.requires.filed c.requires.there (sym c.in-None.ensures.value)

pub returns-clause-is : goal.returns-clause-is
returns-clause-is c =
    let es = c.args.table.now.entries in
    let new = c.get_mut.follows.lender c.note_acked.new.line in
    let put : new.entries ≡ set_value (same_pair (c.args.from, c.args.into)) es
    c.note_acked.new.line = search rules in
    written c.args.from c.args.into es new.entries c.in-Some.line.now c.note_acked.new.line
    c.in-Some.ensures.value put (λ (l : Line). acked_more l c.args.number) c.requires.filed
    c.note_acked.ensures.is

pub returns-clause-more : goal.returns-clause-more
returns-clause-more c =
    let same = found_line c.args.from c.args.into c.args.table.now.entries c.in-Some.line.now
    c.requires.filed (sym c.in-Some.ensures.value) in
    c.note_acked.ensures.more
    ∙ ap has_open (c.note_acked.ensures.is
    ∙ ap (λ (l : Line). acked_more l c.args.number) (sym same))
