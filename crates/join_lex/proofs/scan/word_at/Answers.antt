use Rattle.std.proofs.Common.{rules, ◌≡◌, ◌∙◌, take, ap, Some, None}
use Rattle.join_lex.specs.Spelling.{version_at}
use Rattle.join_lex.specs.inside.Scan.{key_at}
use Rattle.join_lex.proofs.Keys.{key_at-none, key_at-key}
use Rattle.join_lex.proofs.scan.word_at.Goals as goal

pub returns-in-Some-clause-scanned : goal.returns-in-Some-clause-scanned
returns-in-Some-clause-scanned c =
    let keys = (version_at c.args.second).keywords in
    let key : key_at keys (take c.word_len-len.result c.args.text.now) ≡ Some c.in-Some.key =
    ap (key_at keys) c.in-Some.ensures.found.0
    ∙ key_at-key keys c.in-Some.key c.in-Some.ensures.found.1 in
    search (rules, key)

pub returns-in_ok-from_slice-in-None-clause-scanned :
    goal.returns-in_ok-from_slice-in-None-clause-scanned
returns-in_ok-from_slice-in-None-clause-scanned c =
    let keys = (version_at c.args.second).keywords in
    let other : key_at keys (take c.word_len-len.result c.args.text.now) ≡ None =
    key_at-none keys _ (λ k m. c.in-None.ensures.none k m) in
    search (rules, other)
