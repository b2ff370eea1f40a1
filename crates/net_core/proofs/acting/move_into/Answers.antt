use Rattle.std.proofs.Common.{◌≡◌, ◌∙◌, ◌+◌, ◌<◌, ◌^◌, ℕ, sym, ap, subst}
use Rattle.env_store.specs.CodeParts.{CodeParts}
use Rattle.loc_tree.specs.Tree.{bare}
use Rattle.net_core.specs.Whole.{IsWhole}
use Rattle.net_core.specs.inside.AtSites.{MayGoAt, MayCrossAt}
use Rattle.net_core.specs.Parts.{net_of}
use Rattle.net_core.proofs.Doing.{goes_here, goes_over}
use Rattle.net_core.proofs.Fitting.{on_ok}
use Rattle.net_core.proofs.acting.move_into.Goals as goal

pub move_here-requires-clause-may : goal.move_here-requires-clause-may
move_here-requires-clause-may c =
    let old = c.args.parts.now in
    let code = c.args.code.now in
    let running = c.requires.whole.1.running in
    let may : MayGoAt old.version (bare old.tree) old.sites.items c.args.number c.args.atom.now =
    record {
      site = c.requires.may.site;
      site_is = c.requires.may.site_is;
      can = c.requires.may.can;
    } in
    let here =
    goes_here code running.code (net_of code.seen old) running.some c.args.number c.args.atom.now
    may c.requires.goal.0 c.requires.goal.1 (c.requires.goal.2 ∙ c.if-into-number.true) in
    record { site = here.site; site_is = here.site_is; can = here.can; hosted = here.hosted }

pub move_over-requires-clause-may : goal.move_over-requires-clause-may
move_over-requires-clause-may c =
    let old = c.args.parts.now in
    let code = c.args.code.now in
    let running = c.requires.whole.1.running in
    let may : MayGoAt old.version (bare old.tree) old.sites.items c.args.number c.args.atom.now =
    record {
      site = c.requires.may.site;
      site_is = c.requires.may.site_is;
      can = c.requires.may.can;
    } in
    let over = goes_over code running.code (net_of code.seen old)
    running.some c.args.number c.args.atom.now may c.requires.goal.0 c.requires.goal.1
    (λ own. c.if-into-number.false (sym c.requires.goal.2 ∙ own)) in
    let all = subst (λ (j : ℕ).
    MayCrossAt old.version (bare old.tree) old.sites.items c.args.number j c.args.atom.now)
    c.requires.goal.2 over in
    record {
      from = all.from;
      into = all.into;
      from_is = all.from_is;
      into_is = all.into_is;
      away = all.away;
      can = all.can;
      hosted = all.hosted;
      joins = all.joins;
    }

pub returns-then-into-number-clause-whole : goal.returns-then-into-number-clause-whole
returns-then-into-number-clause-whole c =
    let code = c.args.code.now in
    let seen : c.code.inside.seen ≡ code.seen = ap (λ (k : CodeParts). k.seen) c.code.view_is in
    on_ok ((k : CodeParts) (events : ℕ) → k.seen ≡ c.code.inside.seen → events < 2 ^ 32
    → IsWhole k c.args.parts.now events → IsWhole k c.move_here.new.parts (events + 1))
    ((events : ℕ) → events < 2 ^ 32 → IsWhole code c.args.parts.now events
    → IsWhole code c.move_here.new.parts (events + 1)) c.move_here.result
    (λ f events few whole. f code events (sym seen) few whole) c.move_here.ensures.whole
