-- What is known of a site by the tree that it has.
use Rattle.std.proofs.Common.{◌≡◌, Option, Some, sym, subst}
use Rattle.std.specs.Prelude.{IsTrue}
use Rattle.env_store.specs.CodeParts.{CodeParts}
use Rattle.loc_tree.specs.Tree.{Tree}
use Rattle.site_solution.specs.Staying.{CanAct}
use Rattle.site_turn.specs.declared.fitted.Fitted.{Fitted}
use Rattle.site_turn.specs.Kept.{Knows}

pub acts_by_own :
    (held : Fitted) (tree : Option Tree) (code c : CodeParts) (own t : Tree)
    → Knows held tree code → tree ≡ Some own → c ≡ code → t ≡ own → IsTrue held.fits
    → CanAct c t held.site
acts_by_own held tree code c own t knows has same_code same_tree fits =
    subst (λ (x : CodeParts). CanAct x t held.site) (sym same_code)
    (subst (λ (x : Tree). CanAct code x held.site) (sym same_tree) (knows.by own has fits))
