use Rattle.std.proofs.Common.{rules, ◌≡◌, true, subst, sym}
use Rattle.std.specs.Prelude.{slice_index}
use Rattle.join_lex.specs.Spelling.{version_at, is_lower, is_digit}
use Rattle.join_lex.specs.inside.Scan.{IsPieceAt}
use Rattle.join_lex.proofs.ScanLaws.{scan-lower, scan-digit}
use Rattle.join_lex.proofs.scan.scan.Goals as goal

pub returns-in-97-to-122-clause-scanned : goal.returns-in-97-to-122-clause-scanned
returns-in-97-to-122-clause-scanned c =
    let lower : is_lower (slice_index c.args.text.now 0) ≡ true = search rules in
    subst (λ p. IsPieceAt p c.args.place c.args.text.now c.word_at.result)
    (sym (scan-lower (version_at c.args.second) c.args.text.now lower))
    (c.word_at.ensures.scanned c.args.place)

pub returns-in-48-to-57-clause-scanned : goal.returns-in-48-to-57-clause-scanned
returns-in-48-to-57-clause-scanned c =
    let digit : is_digit (slice_index c.args.text.now 0) ≡ true = search rules in
    subst (λ p. IsPieceAt p c.args.place c.args.text.now c.number_at.result)
    (sym (scan-digit (version_at c.args.second) c.args.text.now digit)) c.number_at.ensures.scanned
