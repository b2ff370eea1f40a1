-- A key that stands for no rule at its site isn't needed.
use Rattle.std.proofs.Common.{refl, sym}
use Rattle.chem_model.specs.Numbered.{standing}
use Rattle.chem_commit.proofs.Founds.{rules_differ}
use Rattle.book_store.proofs.Watching.{id_of, rule_in, key_dropped, none_with, none_at}
use Rattle.book_store.proofs.waiting.look_again.Goals as goal

pub judge_again-requires-clause-there : goal.judge_again-requires-clause-there
judge_again-requires-clause-there c = rule_in c.args.numbered.now.rules (id_of c.args.key)
    c.in-Some.rule.now (sym c.in-Some.ensures)

pub returns-else-site-key : goal.returns-else-site-key
returns-else-site-key c =
    let n = c.args.numbered.now in
    key_dropped (standing n.places) c.args.older.now.keys.keys n.rules c.args.waiting.now _
    c.args.key refl (λ k at. at) c.drop_key.ensures.kept (λ k at. at)
    (none_at (standing n.places) n.rules (rules_differ n c.requires.sound) c.args.key
    c.in-Some.rule.now c.in-Some.ensures c.root_of-site.result c.root_of-site.ensures
    c.if-site-key.false)
    c.requires.watched

pub returns-in-None : goal.returns-in-None
returns-in-None c =
    let n = c.args.numbered.now in
    key_dropped (standing n.places) c.args.older.now.keys.keys n.rules c.args.waiting.now _
    c.args.key refl (λ k at. at) c.drop_key-in-None.ensures.kept (λ k at. at)
    (none_with (standing n.places) n.rules (rules_differ n c.requires.sound) c.args.key
    c.in-None.ensures) c.requires.watched
