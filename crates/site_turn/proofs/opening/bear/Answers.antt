use Rattle.std.proofs.Common.{List, ℕ, length, sym, ap, ◌∙◌, subst}
use Rattle.chem_model.specs.declared.name.Loc.{Loc}
use Rattle.loc_tree.specs.Tree.{Tree, with_room}
use Rattle.net_laws.specs.Net.{with_births}
use Rattle.net_laws.specs.Opened.{AreNew}
use Rattle.site_turn.proofs.opening.bear.Goals as goal

pub add_births-requires-clause-new : goal.add_births-requires-clause-new
add_births-requires-clause-new c =
    let n = c.args.number in
    let bs = c.args.births.now in
    subst (λ (t : Tree). AreNew t n c.as_slice.result.now) (sym c.in_ok-reserve.ensures.ok)
    (subst (λ (k : ℕ). AreNew (with_room c.args.tree.now k) n c.as_slice.result.now)
    (sym c.len.ensures.count)
    (subst (λ (ls : List Loc). AreNew (with_room c.args.tree.now (length bs)) n ls)
    (sym c.as_slice.ensures.members) c.requires.new))

pub returns : goal.returns
returns c =
    let n = c.args.number in
    let old = c.args.tree.now in
    c.add_births.ensures
    ∙ ap (λ (t : Tree). with_births t n c.as_slice.result.now) c.in_ok-reserve.ensures.ok
    ∙ ap (λ (k : ℕ). with_births (with_room old k) n c.as_slice.result.now) c.len.ensures.count
    ∙ ap (λ (ls : List Loc). with_births (with_room old (length c.args.births.now)) n ls)
    c.as_slice.ensures.members
