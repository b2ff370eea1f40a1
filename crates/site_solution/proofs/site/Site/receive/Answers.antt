use Rattle.std.proofs.Common.{◌≡◌, ℕ, true, List, ◌∷◌, ◌++◌, [], sym, subst, ◌∙◌, ap}
use Rattle.chem_model.specs.declared.name.Loc.{Loc}
use Rattle.chem_model.specs.declared.numbered.Made.{Made}
use Rattle.wire_packet.specs.ParcelFacts.{ParcelParts}
use Rattle.env_store.specs.CodeParts.{CodeParts}
use Rattle.code_run.specs.declared.made.Run.{Run}
use Rattle.loc_tree.specs.Tree.{Tree}
use Rattle.net_laws.specs.Site.{Site}
use Rattle.net_laws.specs.ByCode.{told_by}
use Rattle.net_laws.specs.Parcels.{Load, load_of, take_in}
use Rattle.net_laws.specs.Meeting.{sent_here}
use Rattle.net_laws.specs.Moves.{continuation_made}
use Rattle.site_shelves.specs.Held.{taken_at}
use Rattle.site_shelves.specs.Draws.{CanDraw}
use Rattle.site_shelves.specs.InCode.{is_in_code}
use Rattle.site_shelves.specs.InTree.{name_stands, is_in_tree}
use Rattle.site_solution.specs.Answers.{Answers}
use Rattle.site_solution.specs.Arriving.{FitsInto}
use Rattle.site_solution.specs.Staying.{AgreeBut, HasReceived}
use Rattle.site_solution.specs.inside.Coming.{CanAdd, added}
use Rattle.site_solution.specs.inside.Carried.{IsContinued}
use Rattle.site_solution.proofs.Answering.{ok-more, ok-both}
use Rattle.site_solution.proofs.Receiving.{received-is, continued, run-posted, taken-run}
use Rattle.site_solution.proofs.Arriving.{received_fits}
use Rattle.site_solution.proofs.site.Site.receive.Goals as goal

pub take_in_beside-requires-clause-posts : goal.take_in_beside-requires-clause-posts
take_in_beside-requires-clause-posts c =
    let a : Made = continuation_made c.code.inside.seen c.args.self.now.number c.parcel.inside.loc
    c.args.self.now.made c.args.cont in
    subst (IsContinued c.args.self.now.number c.args.self.now.made)
    (sym (run-posted a c.in_ok-made.made c.in_ok-made.ensures)) (continued c.code.inside.seen
    c.args.self.now.number c.parcel.inside.loc c.args.self.now.made c.args.cont)

pub returns-clause-ok : goal.returns-clause-ok
returns-clause-ok c =
    let s : Site = c.args.self.now in
    let t : Tree = c.args.tree.now in
    let load : Load = load_of (told_by c.args.code.now) c.args.parcel.now in
    let a : Made = continuation_made c.code.inside.seen s.number c.parcel.inside.loc s.made
    c.args.cont in
    let run = c.in_ok-made.ensures in
    ok-both c.take_in_beside.result _ _ _ (λ e is rest.
    let taken = taken-run t c.args.code.now c.args.parcel.now a c.in_ok-made.made
    s c.take_in_beside.new.self e.sends run is in
    let left = received-is t c.args.code.now c.args.parcel.now a
    taken.arrive.before taken.more s c.take_in_beside.new.self e.sends
    taken.arrive.carried taken.arrive.beside taken.is taken.sends in
    let done : Answers (sent_here t a (take_in load s)) a.outs [] c.take_in_beside.new.self e =
    record {
      site = left.site;
      sends = left.sends;
      outs = rest.0 ∙ ap (λ (r : Run). r.outs) run;
      births = rest.1 ∙ ap (λ (r : Run). r.births) run;
    } in
    let here = subst (λ (l : Loc).
    let b = continuation_made c.code.inside.seen s.number l s.made c.args.cont in
    Answers (sent_here t b (take_in load s)) b.outs [] c.take_in_beside.new.self e)
    (ap (λ (p : ParcelParts). p.loc) c.parcel.view_is) done in
    subst (λ (ns : List ℕ).
    let b = continuation_made ns s.number load.loc s.made c.args.cont in
    Answers (sent_here t b (take_in load s)) b.outs [] c.take_in_beside.new.self e)
    (ap (λ (v : CodeParts). v.seen) c.code.view_is) here)
    c.take_in_beside.ensures.ok c.take_in_beside.ensures.rest

pub returns-clause-keeps : goal.returns-clause-keeps
returns-clause-keeps c =
    let s : Site = c.args.self.now in
    let loc : c.args.parcel.now.loc ≡ c.parcel.inside.loc =
    sym (ap (λ (p : ParcelParts). p.loc) c.parcel.view_is) in
    let a : Made = continuation_made c.code.inside.seen s.number c.parcel.inside.loc s.made
    c.args.cont in
    ok-more c.take_in_beside.result _ _ (λ e is.
    let taken = taken-run c.args.tree.now c.args.code.now c.args.parcel.now a
    c.in_ok-made.made s c.take_in_beside.new.self e.sends c.in_ok-made.ensures is in
    let can = subst (λ l. CanAdd (l ∷ []) taken.more s) loc taken.can in
    let was = taken.is ∙ ap (λ l. added (l ∷ []) taken.more (taken_at 0 [] s)) loc in
    subst (λ (l : Loc). (t u : Tree) → AgreeBut l t u
    → FitsInto c.args.code.now u (load_of (told_by c.args.code.now) c.args.parcel.now) s
    → name_stands u c.args.cont ≡ true → is_in_tree t s ≡ true
    → is_in_code c.args.code.now t s ≡ true → CanDraw t s
    → HasReceived c.args.code.now u c.take_in_beside.new.self) (sym loc)
    (received_fits c.args.code.now c.args.parcel.now c.parcel.inside.loc c.code.inside.seen
    c.args.cont taken.arrive.before taken.more s c.take_in_beside.new.self
    (s.locs ++ c.args.parcel.now.loc ∷ []) loc can
    c.site_is_kept.ensures.kept was taken.arrive.carried taken.arrive.beside))
    c.take_in_beside.ensures.ok
