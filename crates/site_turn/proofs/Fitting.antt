-- A site that fits goes on to fit, once the event of a reaction that bore nothing was made.
use Rattle.std.proofs.Common.{◌≡◌, ℕ, List, [], subst}
use Rattle.chem_model.specs.declared.name.Loc.{Loc}
use Rattle.env_store.specs.CodeParts.{CodeParts}
use Rattle.loc_tree.specs.Tree.{Tree}
use Rattle.net_laws.specs.Site.{Site}
use Rattle.net_laws.specs.Net.{with_births}
use Rattle.site_solution.specs.Draws.{CanDraw}
use Rattle.site_solution.specs.Staying.{CanAct}
use Rattle.site_solution.specs.declared.effects.Effects.{Effects}
use Rattle.reducer.specs.Reacted.{IsFit}
use Rattle.site_turn.specs.declared.turn.Turn.{Turn}
use Rattle.site_turn.specs.declared.turn.Turn.TheVariants.{Did}
use Rattle.site_turn.specs.After.{StaysFitAt}

pub goes_on :
    (c : CodeParts) (t : Tree) (i place : ℕ) (turn : Turn) (new : Site) (e : Effects)
    → turn ≡ Did place → e.births ≡ [] → CanDraw t new → StaysFitAt c t i turn new e
    → CanAct c t new
goes_on c t i place turn new e is none draws stays =
    let after : IsFit c (with_births t i e.births) new =
    subst (λ (x : Turn). StaysFitAt c t i x new e) is stays in
    let fit : IsFit c t new =
    subst (λ (ls : List Loc). IsFit c (with_births t i ls) new) none after in
    record { in_tree = fit.there; in_code = fit.coded; draws = draws }
