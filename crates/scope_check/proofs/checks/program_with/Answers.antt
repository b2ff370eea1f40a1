use Rattle.std.proofs.Common.{rules, refl, ap, ◌∙◌, ◌≡◌, Some, None, subst}
use Rattle.join_parse.specs.Grammar.{TreeOfText}
use Rattle.join_parse.specs.TreeFacts.{IsTree}
use Rattle.scope_check.specs.Stands.{seen_decls}
use Rattle.scope_check.proofs.Answer.{tables-are, noted-by, sites-made, tops-made, spell-made}
use Rattle.scope_check.proofs.Answer.{room-for, answers, refused}
use Rattle.scope_check.proofs.checks.program_with.Goals as goal

pub terms-requires : goal.terms-requires
terms-requires c =
    let t = c.args.tree.now in
    let trees =
    c.as_slice-trees.ensures.members ∙ ap (λ (x : TreeOfText). x.sites) c.tree.view_is in
    room-for t c.as_slice-trees.result.now c.as_slice.result.now trees
    (c.as_slice.ensures.value
    ∙ tables-are t c.as_slice-trees.result.now c.args.names.now c.in_ok-tables.tables.scopes.items
    trees c.requires c.in_ok-tables.ensures.scopes)

pub returns-in-Some-clause-fault : goal.returns-in-Some-clause-fault
returns-in-Some-clause-fault c =
    let t = c.args.tree.now in
    let trees =
    c.as_slice-trees.ensures.members ∙ ap (λ (x : TreeOfText). x.sites) c.tree.view_is in
    let tables = c.as_slice.ensures.value
    ∙ tables-are t c.as_slice-trees.result.now c.args.names.now c.in_ok-tables.tables.scopes.items
    trees c.requires c.in_ok-tables.ensures.scopes in
    let noted = noted-by t _ c.as_slice-trees.result.now c.args.names.now c.as_slice.result.now _ _
    c.in_ok-least.least c.terms.new.least (ap (λ (x : TreeOfText). x.version) c.tree.view_is) trees
    c.requires tables
    refl refl c.in_ok-least.ensures c.in_ok-sites.ensures.faults in
    let some : c.terms.new.least ≡ Some c.in-Some.fault = search rules in
    refused t c.terms.new.least c.in-Some.fault noted some

pub invariant_of-result : goal.invariant_of-result
invariant_of-result c =
    let t = c.args.tree.now in
    let trees =
    c.as_slice-trees.ensures.members ∙ ap (λ (x : TreeOfText). x.sites) c.tree.view_is in
    let tables = c.as_slice.ensures.value
    ∙ tables-are t c.as_slice-trees.result.now c.args.names.now c.in_ok-tables.tables.scopes.items
    trees c.requires c.in_ok-tables.ensures.scopes in
    let noted = noted-by t _ c.as_slice-trees.result.now c.args.names.now c.as_slice.result.now _ _
    c.in_ok-least.least c.terms.new.least (ap (λ (x : TreeOfText). x.version) c.tree.view_is) trees
    c.requires tables
    refl refl c.in_ok-least.ensures c.in_ok-sites.ensures.faults in
    let none : c.terms.new.least ≡ None = search rules in
    (answers t (subst IsTree c.tree.view_is c.tree.invariant) c.terms.new.least noted none _
    c.in_ok-seen.seen c.in_ok-sites.sites c.in_ok-tables.tops c.in_ok-tables.tables.spell
    (ap (λ (x : TreeOfText). x.version) c.tree.view_is)
    (c.in_ok-seen.ensures
    ∙ ap seen_decls (c.as_slice-2.ensures.members ∙ ap (λ (x : TreeOfText). x.seen) c.tree.view_is))
    (sites-made t c.as_slice-trees.result.now c.as_slice.result.now c.in_ok-sites.sites trees tables
    c.in_ok-sites.ensures.value)
    (tops-made t c.args.names.now c.in_ok-tables.tops c.requires c.in_ok-tables.ensures.tops)
    (spell-made t c.as_slice-trees.result.now c.args.names.now c.in_ok-tables.tables.spell trees
    c.requires c.in_ok-tables.ensures.spell)).kept

pub returns-clause-program : goal.returns-clause-program
returns-clause-program c =
    let t = c.args.tree.now in
    let trees =
    c.as_slice-trees.ensures.members ∙ ap (λ (x : TreeOfText). x.sites) c.tree.view_is in
    let tables = c.as_slice.ensures.value
    ∙ tables-are t c.as_slice-trees.result.now c.args.names.now c.in_ok-tables.tables.scopes.items
    trees c.requires c.in_ok-tables.ensures.scopes in
    let noted = noted-by t _ c.as_slice-trees.result.now c.args.names.now c.as_slice.result.now _ _
    c.in_ok-least.least c.terms.new.least (ap (λ (x : TreeOfText). x.version) c.tree.view_is) trees
    c.requires tables
    refl refl c.in_ok-least.ensures c.in_ok-sites.ensures.faults in
    let none : c.terms.new.least ≡ None = search rules in
    (answers t (subst IsTree c.tree.view_is c.tree.invariant) c.terms.new.least noted none _
    c.in_ok-seen.seen c.in_ok-sites.sites c.in_ok-tables.tops c.in_ok-tables.tables.spell
    (ap (λ (x : TreeOfText). x.version) c.tree.view_is)
    (c.in_ok-seen.ensures
    ∙ ap seen_decls (c.as_slice-2.ensures.members ∙ ap (λ (x : TreeOfText). x.seen) c.tree.view_is))
    (sites-made t c.as_slice-trees.result.now c.as_slice.result.now c.in_ok-sites.sites trees tables
    c.in_ok-sites.ensures.value)
    (tops-made t c.args.names.now c.in_ok-tables.tops c.requires c.in_ok-tables.ensures.tops)
    (spell-made t c.as_slice-trees.result.now c.args.names.now c.in_ok-tables.tables.spell trees
    c.requires c.in_ok-tables.ensures.spell)).is
