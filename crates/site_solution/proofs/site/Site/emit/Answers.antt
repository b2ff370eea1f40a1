use Rattle.std.proofs.Common.{◌≡◌, ℕ, List, [], ◌∷◌, subst, sym, ap, ◌∙◌, arith}
use Rattle.chem_model.specs.declared.name.Ref.TheVariants.{Known}
use Rattle.chem_model.specs.declared.numbered.Made.{Made}
use Rattle.chem_model.specs.Process.{Msg}
use Rattle.chem_model.specs.Reduction.{all_known}
use Rattle.chem_model.specs.Opening.{root_of}
use Rattle.chem_model.specs.Pour.{pour}
use Rattle.chem_model.specs.Each.{Each}
use Rattle.env_store.specs.CodeParts.{CodeParts}
use Rattle.env_store.specs.Running.{atom_ran}
use Rattle.net_laws.specs.Site.{Told}
use Rattle.net_laws.specs.Parcels.{all_told}
use Rattle.net_laws.specs.ByCode.{told_by}
use Rattle.net_laws.specs.Posting.{pour_here}
use Rattle.code_run.specs.declared.made.Run.{Run}
use Rattle.code_run.specs.RunFacts.{HasRunFacts}
use Rattle.code_run.specs.Posts.{run_of, all_posted}
use Rattle.site_solution.specs.Answers.{Answers}
use Rattle.site_solution.specs.Commit.{CanLeave}
use Rattle.site_shelves.specs.Held.{taken_at}
use Rattle.site_shelves.specs.inside.New.{told_of_new, IsNewGroup}
use Rattle.site_solution.proofs.Leaves.{run-leaves}
use Rattle.site_solution.proofs.Poured.{no_code, emitted-keeps}
use Rattle.site_solution.proofs.Answering.{ok-more, sent-answers}
use Rattle.site_solution.proofs.site.Site.emit.Goals as goal

pub leave-requires-clause-new : goal.leave-requires-clause-new
leave-requires-clause-new c = subst (Each IsNewGroup) (sym c.new.ensures.items) tt

pub leave-requires-clause-can : goal.leave-requires-clause-can
leave-requires-clause-can c =
    let s = c.args.self.now in
    let r = c.in_ok-made.made in
    let facts : HasRunFacts no_code s.number c.args.loc.now (c.args.on ∷ c.args.args) s.made r =
    subst (λ (i : ℕ). HasRunFacts no_code i c.args.loc.now (c.args.on ∷ c.args.args) s.made r)
    c.number.ensures (subst
    (λ (k : ℕ). HasRunFacts no_code c.number.result c.args.loc.now (c.args.on ∷ c.args.args) k r)
    c.made.ensures (c.in_ok-made.ensures.facts no_code)) in
    let can = run-leaves no_code s c.args.loc.now (c.args.on ∷ c.args.args) r facts
    c.requires.here c.site_is_kept.ensures.kept c.site_is_kept.ensures.once
    c.requires.can.can_draw.drawn (omega (arith, facts.below, c.requires.can.can_draw.few)) in
    let empty : r.groups ≡ [] = ap (λ (x : Run). x.groups) c.in_ok-made.ensures.run in
    let told : all_told (told_by no_code) r.groups ≡ told_of_new c.new.result.items =
    ap (all_told (told_by no_code)) empty ∙ sym (ap told_of_new c.new.ensures.items) in
    subst (λ (ds : List Told). CanLeave r.births ds (all_posted r.posts) s) told can

pub returns-clause-ok : goal.returns-clause-ok
returns-clause-ok c =
    let s = c.args.self.now in
    let r = c.in_ok-made.made in
    let a : Made = pour c.args.counts.now s.number (root_of s.number) []
    c.args.loc.now s.made (Msg (Known c.args.on) (all_known c.args.args)) in
    let is : r ≡ run_of (atom_ran a) =
    c.in_ok-made.ensures.run
    ∙ ap (λ (i : ℕ). run_of (atom_ran (pour c.args.counts.now i (root_of i) []
    c.args.loc.now c.made.result (Msg (Known c.args.on) (all_known c.args.args))))) c.number.ensures
    ∙ ap (λ (k : ℕ). run_of (atom_ran (pour c.args.counts.now s.number (root_of s.number) []
    c.args.loc.now k (Msg (Known c.args.on) (all_known c.args.args))))) c.made.ensures in
    ok-more c.leave.result _ _
    (λ e left. sent-answers c.args.tree.now s c.leave.new.self a r e is (subst (λ (ds : List Told).
    Answers (pour_here c.args.tree.now r.next r.births ds (all_posted r.posts) (taken_at 0 [] s))
    r.outs r.births c.leave.new.self e) (ap told_of_new c.new.ensures.items) left))
    c.leave.ensures.ok

pub returns-clause-keeps : goal.returns-clause-keeps
returns-clause-keeps c =
    let s = c.args.self.now in
    let r = c.in_ok-made.made in
    let facts : (d : CodeParts)
    → HasRunFacts d s.number c.args.loc.now (c.args.on ∷ c.args.args) s.made r =
    λ d. subst (λ (i : ℕ). HasRunFacts d i c.args.loc.now (c.args.on ∷ c.args.args) s.made r)
    c.number.ensures
    (subst (λ (k : ℕ). HasRunFacts d c.number.result c.args.loc.now (c.args.on ∷ c.args.args) k r)
    c.made.ensures (c.in_ok-made.ensures.facts d)) in
    ok-more c.leave.result _ _
    (λ e left. emitted-keeps c.args.tree.now s c.leave.new.self c.args.loc.now c.args.on c.args.args
    r facts (ap (λ (x : Run). x.births) c.in_ok-made.ensures.run)
    (ap (λ (x : Run). x.groups) c.in_ok-made.ensures.run)
    c.requires.here c.site_is_kept.ensures.kept c.site_is_kept.ensures.once c.requires.can
    (subst (λ (ds : List Told).
    Answers (pour_here c.args.tree.now r.next r.births ds (all_posted r.posts) (taken_at 0 [] s))
    r.outs r.births c.leave.new.self e) (ap told_of_new c.new.ensures.items) left).site)
    c.leave.ensures.ok
