use Rattle.join_parse.proofs.Prints.{whole-text}
use Rattle.join_parse.proofs.print.text_of.Goals as goal

pub returns-clause-text : goal.returns-clause-text
returns-clause-text c =
    rw (← c.tree.view_is)
    (whole-text (record {
      version = c.tree.inside.version;
      seen = c.tree.inside.seen;
      sites = c.tree.inside.sites;
    }) c.tree.invariant.grammatical c.new-text.result c.put_opening.new.out
    c.put_declarations.new.out c.put_sites.new.out c.push.new.self
    c.new-text.ensures c.in_ok-put_opening.ensures c.in_ok-put_declarations.ensures
    c.in_ok-put_sites.ensures c.in_ok-push.ensures.ok)

pub returns-clause-kept : goal.returns-clause-kept
returns-clause-kept c = rw (← c.tree.view_is) c.tree.invariant
