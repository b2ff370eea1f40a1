use Rattle.std.proofs.Common.{◌≡◌, ◌∙◌, refl, ap, subst, sym, List}
use Rattle.chem_model.specs.declared.name.Loc.{Loc}
use Rattle.net_laws.specs.Net.{with_births}
use Rattle.net_laws.specs.Opened.{not_in}
use Rattle.reducer.specs.Opens.{IsOpenedFit}
use Rattle.reducer.proofs.Openings.{opening_leaves, as_opens}
use Rattle.reducer.proofs.OpeningFit.{root_top, opened_fit, fit_of}
use Rattle.reducer.proofs.OpeningFresh.{tops_low}
use Rattle.reducer.proofs.opened.open_in.Goals as goal

pub commit-requires : goal.commit-requires
commit-requires c = opening_leaves c.args.code.now c.args.number c.args.site.now c.in_ok-run.run'
    c.requires.empty c.in_ok-run.ensures.facts

pub returns-clause-ok : goal.returns-clause-ok
returns-clause-ok c = λ site at.
    as_opens c.args.code.now c.args.tree.now c.args.number site
    c.in_ok-run.run' c.args.site.now c.commit.new.self c.in_ok-made.made
    (record {
      sends = c.in_ok-made.made.sends;
      outs = c.in_ok-made.made.outs;
      births = c.in_ok-births.births;
    })
    c.requires.empty (c.in_ok-run.ensures.run site at) c.in_ok-made.ensures.ok refl refl
    (c.in_ok-births.ensures ∙ ap (not_in c.args.tree.now) c.as_slice.ensures.members)

pub returns-clause-fit : goal.returns-clause-fit
returns-clause-fit c = λ program tops.
    fit_of c.args.code.now c.args.tree.now c.args.number c.in_ok-run.run' c.args.site.now
    c.commit.new.self c.in_ok-made.made c.in_ok-births.births tops
    (root_top program.0 c.args.code.now c.args.number program.2 c.requires.number)
    (tops_low program.0 c.args.code.now c.args.number program.1 c.code_is_kept.ensures program.2
    c.requires.number c.in_ok-run.run' c.in_ok-run.ensures.run)
    c.requires.empty c.in_ok-run.ensures.facts c.in_ok-made.ensures.ok
    (c.in_ok-births.ensures ∙ ap (not_in c.args.tree.now) c.as_slice.ensures.members)
