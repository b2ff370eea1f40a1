use Rattle.std.proofs.Common.{◌≡◌, ℕ, true, List, subst, sym, ap, ◌∙◌, arith}
use Rattle.chem_model.specs.declared.name.Loc.{Loc}
use Rattle.env_store.specs.Running.{code_made}
use Rattle.net_laws.specs.Net.{with_births}
use Rattle.code_run.specs.RunFacts.{HasRunFacts}
use Rattle.code_run.specs.Posts.{run_of}
use Rattle.site_shelves.specs.Held.{taken_at}
use Rattle.site_shelves.specs.InTree.{is_in_tree}
use Rattle.site_solution.specs.Pours.{HasPoured}
use Rattle.site_solution.proofs.Leaves.{run-leaves}
use Rattle.site_solution.proofs.Poured.{poured-keeps, poured-there}
use Rattle.site_solution.proofs.Answering.{ok-more, run-answers}
use Rattle.site_solution.proofs.site.Site.pour_taking.Goals as goal

pub commit-requires : goal.commit-requires
commit-requires c =
    let s = c.args.self.now in
    let r = c.in_ok-made.made in
    let facts : HasRunFacts c.args.code.now s.number c.args.poured.now.loc.now
    c.args.poured.now.env.now s.made r =
    subst (λ (i : ℕ).
    HasRunFacts c.args.code.now i c.args.poured.now.loc.now c.args.poured.now.env.now s.made r)
    c.number-number.ensures (subst
    (λ (k : ℕ). HasRunFacts c.args.code.now c.number-number.result c.args.poured.now.loc.now
    c.args.poured.now.env.now k r)
    c.made.ensures c.in_ok-made.ensures.facts) in
    run-leaves c.args.code.now s c.args.poured.now.loc.now c.args.poured.now.env.now r facts
    c.requires.here c.site_is_kept.ensures.kept c.site_is_kept.ensures.once
    c.requires.can.can_draw.drawn (omega (arith, facts.below, c.requires.can.can_draw.few))

pub returns-clause-ok : goal.returns-clause-ok
returns-clause-ok c =
    let s = c.args.self.now in
    let r = c.in_ok-made.made in
    let is : r
    ≡ run_of (code_made c.args.code.now s.number c.args.poured.now.body c.args.poured.now.env.now
    c.args.poured.now.loc.now s.made) =
    c.in_ok-made.ensures.run
    ∙ ap (λ i.
    run_of (code_made c.args.code.now i
    c.args.poured.now.body c.args.poured.now.env.now c.args.poured.now.loc.now c.made.result))
    c.number-number.ensures
    ∙ ap
    (λ k. run_of (code_made c.args.code.now s.number c.args.poured.now.body
    c.args.poured.now.env.now c.args.poured.now.loc.now k))
    c.made.ensures in
    ok-more c.commit.result _ _
    (λ e h. run-answers c.args.code.now c.args.tree.now
    (taken_at c.args.fronts.now.group c.args.fronts.now.chans.now s)
    c.commit.new.self
    (code_made c.args.code.now s.number c.args.poured.now.body c.args.poured.now.env.now
    c.args.poured.now.loc.now s.made) r e is h)
    c.commit.ensures.ok

pub returns-clause-keeps : goal.returns-clause-keeps
returns-clause-keeps c =
    let s = c.args.self.now in
    let r = c.in_ok-made.made in
    let facts : HasRunFacts c.args.code.now s.number c.args.poured.now.loc.now
    c.args.poured.now.env.now s.made r =
    subst (λ (i : ℕ).
    HasRunFacts c.args.code.now i c.args.poured.now.loc.now c.args.poured.now.env.now s.made r)
    c.number-number.ensures (subst
    (λ (k : ℕ). HasRunFacts c.args.code.now c.number-number.result c.args.poured.now.loc.now
    c.args.poured.now.env.now k r)
    c.made.ensures c.in_ok-made.ensures.facts) in
    ok-more c.commit.result _ _ (λ e h. subst (λ (bs : List Loc).
    HasPoured c.args.code.now (with_births c.args.tree.now s.number bs) c.commit.new.self)
    (sym h.births) (poured-keeps c.args.code.now c.args.tree.now s
    c.commit.new.self c.args.poured.now.loc.now c.args.poured.now.env.now r
    c.args.fronts.now.group c.args.fronts.now.chans.now facts
    c.requires.here c.site_is_kept.ensures.kept c.site_is_kept.ensures.once c.requires.can h.site))
    c.commit.ensures.ok

pub returns-clause-in_tree : goal.returns-clause-in_tree
returns-clause-in_tree c =
    let s = c.args.self.now in
    let r = c.in_ok-made.made in
    let facts : HasRunFacts c.args.code.now s.number c.args.poured.now.loc.now
    c.args.poured.now.env.now s.made r =
    subst (λ (i : ℕ).
    HasRunFacts c.args.code.now i c.args.poured.now.loc.now c.args.poured.now.env.now s.made r)
    c.number-number.ensures (subst
    (λ (k : ℕ). HasRunFacts c.args.code.now c.number-number.result c.args.poured.now.loc.now
    c.args.poured.now.env.now k r)
    c.made.ensures c.in_ok-made.ensures.facts) in
    ok-more c.commit.result _ _ (λ e h old. subst (λ (bs : List Loc).
    is_in_tree (with_births c.args.tree.now s.number bs) c.commit.new.self ≡ true) (sym h.births)
    (poured-there c.args.code.now c.args.tree.now s
    c.commit.new.self c.args.poured.now.loc.now c.args.poured.now.env.now
    r c.args.fronts.now.group c.args.fronts.now.chans.now facts
    c.requires.here c.site_is_kept.ensures.kept
    c.site_is_kept.ensures.once c.requires.can h.site old)) c.commit.ensures.ok
