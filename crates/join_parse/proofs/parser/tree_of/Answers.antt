use Rattle.std.proofs.Common.{◌≡◌, ◌∙◌, ap, sym, subst, refl}
use Rattle.std.proofs.lemmas.Result.{err_from_is_err_and}
use Rattle.join_lex.specs.Versions.{says_second}
use Rattle.join_parse.specs.declared.bounds.Bounds.{Bounds}
use Rattle.join_parse.specs.Grammar.{TreeOfText, version_number}
use Rattle.join_parse.specs.Faults.{IsTheTree}
use Rattle.join_parse.specs.TreeFacts.{IsTree}
use Rattle.join_parse.proofs.Whole.{the-refusal, the-tree, tree-kept, version-number}
use Rattle.join_parse.proofs.parser.tree_of.Goals as goal

pub returns-in_err-seen-clause-fault : goal.returns-in_err-seen-clause-fault
returns-in_err-seen-clause-fault c =
    let b : Bounds = record {
      second = c.says_second-second.result;
      levels = c.levels_of-levels.result;
      end = c.tokens.inside.length;
    } in
    let p = err_from_is_err_and c.from_residual.result c.from_residual.ensures.1 in
    let stops = rw c.as_slice-list.ensures.members at c.in_err-seen.ensures.stops in
    let says : c.says_second-second.result ≡ says_second c.tokens.inside.list =
    c.says_second-second.ensures ∙ ap says_second c.as_slice-list.ensures.members in
    rw (← c.tokens.view_is, p.1, p.2)
    (the-refusal b (record { list = c.tokens.inside.list; length = c.tokens.inside.length })
    c.in_err-seen.field-0.0 says c.levels_of-levels.ensures refl stops)

pub invariant_of-result : goal.invariant_of-result
invariant_of-result c =
    let b : Bounds = record {
      second = c.says_second-second.result;
      levels = c.levels_of-levels.result;
      end = c.tokens.inside.length;
    } in
    let t : TreeOfText = record {
      version = version_number c.says_second-second.result;
      seen = c.in_ok-seen.seen;
      sites = c.in_ok-seen.sites;
    } in
    let whole = rw c.as_slice-list.ensures.members at c.in_ok-seen.ensures.whole in
    let sentence = rw c.as_slice-list.ensures.members at c.in_ok-seen.ensures.sentence in
    let says : c.says_second-second.result ≡ says_second c.tokens.inside.list =
    c.says_second-second.ensures ∙ ap says_second c.as_slice-list.ensures.members in
    subst
    (λ v. IsTree (record { version = v; seen = c.in_ok-seen.seen; sites = c.in_ok-seen.sites }))
    (sym c.version_of-version.ensures)
    (tree-kept (record { list = c.tokens.inside.list; length = c.tokens.inside.length }) t
    c.tokens.invariant (the-tree b c.tokens.inside.list t says c.levels_of-levels.ensures whole
    (version-number c.says_second-second.result) sentence))

pub returns-clause-tree : goal.returns-clause-tree
returns-clause-tree c =
    let b : Bounds = record {
      second = c.says_second-second.result;
      levels = c.levels_of-levels.result;
      end = c.tokens.inside.length;
    } in
    let t : TreeOfText = record {
      version = version_number c.says_second-second.result;
      seen = c.in_ok-seen.seen;
      sites = c.in_ok-seen.sites;
    } in
    let whole = rw c.as_slice-list.ensures.members at c.in_ok-seen.ensures.whole in
    let sentence = rw c.as_slice-list.ensures.members at c.in_ok-seen.ensures.sentence in
    let says : c.says_second-second.result ≡ says_second c.tokens.inside.list =
    c.says_second-second.ensures ∙ ap says_second c.as_slice-list.ensures.members in
    rw (← c.tokens.view_is)
    (subst (λ v. IsTheTree c.tokens.inside.list
    (record { version = v; seen = c.in_ok-seen.seen; sites = c.in_ok-seen.sites }))
    (sym c.version_of-version.ensures)
    (the-tree b c.tokens.inside.list t says c.levels_of-levels.ensures whole
    (version-number c.says_second-second.result) sentence))
