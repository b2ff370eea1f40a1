-- The test of requests to go says exactly when a move is possible.
use Rattle.std.proofs.Common.{◌≡◌, ℕ, List, Bool, true, false, cond, Some, None, ◌&&◌, ◌||◌, ◌==◌}
use Rattle.std.proofs.Common.{refl, sym, ap, ◌∙◌}
use Rattle.std.specs.Prelude.{is_some}
use Rattle.chem_model.specs.declared.name.Name.{Name}
use Rattle.chem_model.specs.declared.name.Name.TheVariants as name
use Rattle.chem_model.specs.declared.name.Ref.TheVariants.{Known}
use Rattle.chem_model.specs.declared.event.AtomId.{AtomId}
use Rattle.chem_model.specs.declared.numbered.NumberedRule.{NumberedRule}
use Rattle.chem_model.specs.Apply.{can_go as solution_goes, falls, move_to, move_atom, with_atom}
use Rattle.chem_model.specs.Apply.{at_location}
use Rattle.wire_packet.specs.declared.packet.Ask.{Ask}
use Rattle.wire_packet.specs.declared.packet.Ask.TheVariants as request
use Rattle.wire_packet.specs.GroupFacts.{GroupParts}
use Rattle.loc_tree.specs.Tree.{Tree, can_move, can_fall}
use Rattle.loc_tree.proofs.Alive.{moves_as_go_needs, falls_as_fall_needs}
use Rattle.net_laws.specs.Site.{Site, ask_term}
use Rattle.site_solution.proofs.Possible.{request_found}
use Rattle.migration.specs.Moves.{may_go, goes, is_ready, can_go, ForetellsMove}

some_either : {A : Type 0} (u v : Bool) (a b : A)
    → u || v ≡ is_some (cond u (Some a) (cond v (Some b) None))
some_either true v a b = refl
some_either false true a b = refl
some_either false false a b = refl

module _ (rules_of : GroupParts → List NumberedRule) (t : Tree) (s : Site) (i : AtomId) where
  pub move_foretold : (version : ℕ) → ForetellsMove rules_of version t s i (can_go version t i s)
  move_foretold version seen number q rules atoms n part there same =
      ap (is_ready version t) there ∙ told q.ask
      ∙ sym (ap (λ o. is_some (with_atom o (move_atom n i)))
      (request_found rules_of seen t number s rules atoms n i q part there))
    where
      to : (b k : Name)
          → may_go version t q.loc b ≡ is_some (at_location (Known b) (move_to n i q.loc (Known k)))
      to (name.Seen j) k = refl
      to (name.Place b) k =
          ap (λ (w : ℕ). can_move t q.loc b || ((w == 2) && can_fall t q.loc b)) (sym same)
          ∙ ap (λ u. u || ((n.version == 2) && can_fall t q.loc b))
          (moves_as_go_needs t n part.tree q.loc b)
          ∙ ap (λ u. solution_goes n q.loc b || ((n.version == 2) && u))
          (falls_as_fall_needs t n part.tree q.loc b)
          ∙ some_either (solution_goes n q.loc b) (falls n q.loc b) _ _
      to (name.Chan j m h) k = refl
      to (name.Num j) k = refl
      to (name.Op j) k = refl

      told : (w : Ask) → goes version t q.loc w ≡ is_some (move_atom n i q.loc (ask_term w))
      told (request.Go b k) = to b k
      told (request.Fail a k) = refl
      told request.Halt = refl
