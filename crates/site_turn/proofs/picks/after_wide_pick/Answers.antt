use Rattle.std.proofs.Common.{ℕ, List, length, sym, ap, ◌∙◌, subst, arith}
use Rattle.chem_model.specs.declared.name.Loc.{Loc}
use Rattle.net_laws.specs.Net.{with_births}
use Rattle.net_laws.specs.Opened.{AreNew}
use Rattle.site_turn.proofs.Acting.{pick_new, pick_few}
use Rattle.site_turn.proofs.Bearing.{number_below}
use Rattle.site_turn.proofs.picks.after_wide_pick.Goals as goal

pub add_births-requires-clause-new : goal.add_births-requires-clause-new
add_births-requires-clause-new c =
    let t = c.args.tree.now in
    let s = c.args.site.now in
    let x = c.requires.fires.0 in
    let new = pick_new c.args.code.now t s c.args.pick.now x
    c.requires.fires.1.covers.picks c.after_pick.new.site c.in_ok-effects.effects c.args.turn
    c.requires.act.draws c.in_ok-effects.ensures.after in
    subst (λ (n : ℕ). AreNew t n c.as_slice.result.now) (sym c.number-number.ensures)
    (subst (λ (ls : List Loc). AreNew t s.number ls) (sym c.as_slice.ensures.members) new)

pub add_births-requires-clause-room : goal.add_births-requires-clause-room
add_births-requires-clause-room c =
    let t = c.args.tree.now in
    let x = c.requires.fires.0 in
    let picks = c.requires.fires.1.covers.picks in
    let few = pick_few c.args.code.now t c.args.site.now c.args.pick.now x picks
    c.after_pick.new.site c.in_ok-effects.effects c.args.turn t.spare (c.requires.room x picks)
    c.in_ok-effects.ensures.after in
    omega (arith, few, ap length c.as_slice.ensures.members)

pub add_births-requires-clause-site : goal.add_births-requires-clause-site
add_births-requires-clause-site c =
    let low =
    number_below c.args.tree.now c.args.site.now c.tree_is_kept.ensures c.requires.act.in_tree in
    omega (arith, low, c.number-number.ensures)

pub returns-clause-born : goal.returns-clause-born
returns-clause-born c =
    c.add_births.ensures
    ∙ ap (λ (n : ℕ). with_births c.args.tree.now n c.as_slice.result.now) c.number-number.ensures
    ∙ ap (λ (ls : List Loc). with_births c.args.tree.now c.args.site.now.number ls)
    c.as_slice.ensures.members
