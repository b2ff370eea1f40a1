use Rattle.std.proofs.Common.{rules, ◌≡◌, true, false, length, codes, ◌==◌}
use Rattle.sort_lines.specs.inside.Reading.{is_named}
use Rattle.sort_lines.proofs.Decided.{three_none}
use Rattle.sort_lines.proofs.content.three.Goals as goal

pub returns-then-is_word : goal.returns-then-is_word
returns-then-is_word c =
    let used : is_named c.args.first.now.kind (codes "use") ≡ true = search rules in
    let some : false ≡ (length c.args.tokens.now == 0) = search rules in
    three_none c.args.first.now.kind c.args.second.now.kind c.args.third.now.kind c.args.tokens.now
    used some
