use Rattle.reducer.proofs.Reactions.{if_ok}
use Rattle.site_turn.specs.declared.turn.Made.{Made}
use Rattle.site_turn.specs.After.{BearsNone}
use Rattle.site_turn.proofs.Births.{bears_none}
use Rattle.shared_net.proofs.here.make_here.Goals as goal

pub returns-clause-born : goal.returns-clause-born
returns-clause-born g c =
    let ready = c.requires.chosen.1 in
    if_ok _ (λ (m : Made). BearsNone c.args.code.now c.args.site.now m.effects)
    c.propose_pick.result
    (λ m h. bears_none c.args.code.now c.args.tree.now c.args.site.now c.args.pick.now ready.pick
    m.turn c.propose_pick.new.site m.effects c.code_is_kept.ensures c.site_is_kept.ensures.kept
    c.requires.chosen.0.in_code ready.fires.covers c.requires.none_born h.site)
    c.propose_pick.ensures.made
