use Rattle.std.proofs.Common.{◌≡◌, ℕ, true, List, [], ap, subst}
use Rattle.std.specs.Prelude.{IfOk}
use Rattle.std.proofs.lemmas.Result.{IfOk-weaker}
use Rattle.chem_model.specs.declared.name.Loc.{Loc}
use Rattle.wire_packet.specs.ParcelFacts.{ParcelParts}
use Rattle.env_store.specs.CodeParts.{CodeParts}
use Rattle.loc_tree.specs.Tree.{Tree}
use Rattle.net_laws.specs.Site.{Site}
use Rattle.net_laws.specs.ByCode.{told_by}
use Rattle.net_laws.specs.Parcels.{Load, load_of, take_in}
use Rattle.net_laws.specs.Moves.{continuation_made, moved_made}
use Rattle.net_laws.specs.Meeting.{sent_here}
use Rattle.site_solution.specs.Answers.{Answers}
use Rattle.site_solution.specs.Arriving.{FitsInto}
use Rattle.site_solution.specs.Draws.{CanDraw}
use Rattle.site_solution.specs.InCode.{is_in_code}
use Rattle.site_solution.specs.InTree.{name_stands, is_in_tree}
use Rattle.site_solution.specs.Staying.{AgreeBut, HasReceived}
use Rattle.site_solution.specs.declared.effects.Effects.{Effects}
use Rattle.migration.proofs.Arrivals.{goes_in, falls_in, fits_received}
use Rattle.migration.proofs.carrying.arrive.Goals as goal

pub returns-then-lives-clause-ok : goal.returns-then-lives-clause-ok
returns-then-lives-clause-ok c =
    let t : Tree = c.args.tree.now in
    let into : Site = c.args.into.now in
    let load : Load = load_of (told_by c.args.code.now) c.args.parcel.now in
    IfOk-weaker c.receive.result
    (λ (e : Effects).
    let a = continuation_made c.args.code.now.seen into.number load.loc into.made c.args.cont in
    Answers (sent_here t a (take_in load into)) a.outs [] c.receive.new.self e)
    (λ (e : Effects). let a =
    moved_made c.args.lives c.args.code.now.seen into.number load.loc into.made c.args.cont in
    Answers (sent_here t a (take_in load into)) a.outs [] c.receive.new.self e)
    (λ e h. goes_in t c.args.lives c.args.code.now.seen c.args.cont load into c.receive.new.self e
    c.if-lives.true h) c.receive.ensures.ok

pub returns-in_ok-take_in-clause-ok : goal.returns-in_ok-take_in-clause-ok
returns-in_ok-take_in-clause-ok c =
    falls_in c.args.tree.now c.args.lives c.args.code.now.seen c.args.cont
    (load_of (told_by c.args.code.now) c.args.parcel.now) c.args.into.now c.take_in.new.self
    c.no_effects.result c.if-lives.false c.in_ok-take_in.ensures.ok c.no_effects.ensures

pub returns-in_ok-take_in-clause-keeps : goal.returns-in_ok-take_in-clause-keeps
returns-in_ok-take_in-clause-keeps c = λ t u agree fits named there coded draws.
    fits_received c.args.code.now t u c.args.into.now c.take_in.new.self
    (c.in_ok-take_in.ensures.keeps t u agree fits) there coded draws
