use Rattle.std.proofs.Common.{rules, ◌≡◌, ◌∙◌, ap}
use Rattle.chem_model.specs.ProgramFacts.{IsProgram}
use Rattle.sort_check.specs.inside.Pairs.{by_lists}
use Rattle.sort_check.specs.inside.Gathered.{sorts_of, seen_sorts, entries_of_sites}
use Rattle.sort_laws.specs.Table.{used_as}
use Rattle.sort_check.specs.inside.Filled.{FilledBy}
use Rattle.sort_check.specs.inside.Told.{in_map}
use Rattle.sort_check.proofs.Gathered.{binders_are, said_as}
use Rattle.sort_check.proofs.judging.binder_sorts.Goals as goal

pub returns : goal.returns
returns c =
    let sorts = c.args.sorts.now in
    let p = c.args.program.now in
    let program : IsProgram p = search rules in
    let said : in_map c.args.uses.now ≡ used_as sorts.uses =
    said_as sorts.uses c.args.uses.now c.requires.told in
    let chan : c.in_ok-list.list ≡ sorts_of (in_map c.args.uses.now) p.spell = search rules in
    let obs : c.args.seen.now ≡ seen_sorts (in_map c.args.uses.now) p.seen = search rules in
    let chan_used : c.in_ok-list.list ≡ sorts_of (used_as sorts.uses) p.spell =
    chan ∙ ap (λ f. sorts_of f p.spell) said in
    let obs_used : c.args.seen.now ≡ seen_sorts (used_as sorts.uses) p.seen =
    obs ∙ ap (λ f. seen_sorts f p.seen) said in
    let all : c.in_ok-entries.entries
    ≡ entries_of_sites (by_lists sorts.decls c.in_ok-list.list c.args.seen.now) p.sites =
    search rules in
    let filled : FilledBy c.in_ok-list.list c.in_ok-entries.entries c.fill.new.list =
    search rules in
    record {
      sorts = binders_are sorts p program c.in_ok-list.list c.args.seen.now c.fill.new.list
          c.in_ok-entries.entries chan_used obs_used all filled;
    }
