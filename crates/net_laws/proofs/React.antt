-- A React of a numbered solution, from what stands in the bags of its rules and atoms.
use Rattle.std.proofs.Common.{◌≡◌, ◌+◌, ◌<◌, ◌≤◌, List, [], ◌∷◌, Some, None, true, cond, refl, sym}
use Rattle.std.proofs.Common.{ap, ◌∙◌, arith, length, ◌==◌, eq-eqb}
use Rattle.chem_model.specs.declared.name.Loc.{Loc}
use Rattle.chem_model.specs.declared.name.Name.{Name}
use Rattle.chem_model.specs.declared.name.Ref.TheVariants.{Known}
use Rattle.chem_model.specs.declared.name.Pat.{Pat}
use Rattle.chem_model.specs.declared.numbered.NumberedRule.{NumberedRule}
use Rattle.chem_model.specs.declared.numbered.NumberedAtom.{NumberedAtom}
use Rattle.chem_model.specs.declared.numbered.Numbered.{Numbered}
use Rattle.chem_model.specs.Bag.{one, bag}
use Rattle.chem_model.specs.Solution.{live}
use Rattle.chem_model.specs.NewNames.{Pair, coded_pair}
use Rattle.chem_model.specs.Reduction.{all_known, given}
use Rattle.chem_model.specs.Numbered.{standing, atom_pairs, rule_pairs}
use Rattle.chem_model.specs.Pour.{known, pour_at}
use Rattle.chem_model.specs.Apply.{without, without_all, received, received_at, both_received}
use Rattle.chem_model.specs.Apply.{received_all, same_ref, react_received, react_rule, apply}
use Rattle.chem_model.specs.Sound.{IsSound}
use Rattle.chem_laws.proofs.Lists.{true_both}
use Rattle.chem_laws.proofs.Bags.{one_self}
use Rattle.chem_laws.proofs.Terms.{length_all_known}
use Rattle.chem_laws.proofs.Within.{same_loc_refl}
use Rattle.chem_laws.proofs.Taking.{same_name_refl, pairs-without}
use Rattle.wire_packet.specs.MessageFacts.{MessageParts}
use Rattle.net_laws.specs.Site.{coded_atom, coded_rule, message_atom, messages_at}
use Rattle.net_laws.specs.Changes.{given_all, ids}
use Rattle.net_laws.proofs.Received.{IsFor, AreFor}
use Rattle.net_laws.proofs.Found.{atom_in, rule_in, bag_without}
use Rattle.chem_model.specs.declared.event.Event.TheVariants as event

known_all : (ns : List Name) → known (all_known ns) ≡ ns
known_all [] = refl
known_all (n ∷ ns) = ap (λ xs. n ∷ xs) (known_all ns)

pub message_received : (l : Loc) (p : Pat) (m : MessageParts) → IsFor p m
    → received_at l p (Some (message_atom l m)) ≡ Some (given p.params m.args)
message_received l p m h =
    let on : same_ref p.on (Known m.on) ≡ true =
    ap (λ x. same_ref x (Known m.on)) h.0 ∙ same_name_refl m.on in
    let count : (length p.params == length (all_known m.args)) ≡ true =
    eq-eqb _ _ (h.1 ∙ sym (length_all_known m.args)) in
    ap (λ t. cond t (received p (message_atom l m).term) None) (same_loc_refl l)
    ∙ ap (λ t. cond t (Some (given p.params (known (all_known m.args)))) None)
    (true_both (same_ref p.on (Known m.on)) _ on count)
    ∙ ap (λ ns. Some (given p.params ns)) (known_all m.args)

-- messages that stand in the solution, one for each pattern, are received
pub messages_received :
    (atoms : List NumberedAtom) (l : Loc) (ps : List Pat) (ms : List MessageParts)
    → ((p : Pair) → bag coded_pair (atom_pairs atoms) p ≤ 1) → AreFor ps ms
    → ((x : NumberedAtom) → messages_at l ms x ≤ bag coded_atom atoms x)
    → received_all atoms l ps (ids ms) ≡ Some (given_all ps ms)
messages_received atoms l [] [] d f h = refl
messages_received atoms l [] (m ∷ ms) d f h = absurd f
messages_received atoms l (p ∷ ps) [] d f h = absurd f
messages_received atoms l (p ∷ ps) (m ∷ ms) d f h =
    let found = atom_in atoms (message_atom l m) d
    (omega (arith, h (message_atom l m), one_self coded_atom (message_atom l m))) in
    let later = messages_received atoms l ps ms d f.1 (λ x. omega (arith, h x)) in
    ap (λ o. both_received (received_at l p o) (received_all atoms l ps (ids ms))) found
    ∙ ap (λ o. both_received o (received_all atoms l ps (ids ms))) (message_received l p m f.0)
    ∙ ap (λ o. both_received (Some (given p.params m.args)) o) later

-- once they are taken, the rest is left
pub bag_without_all : (atoms : List NumberedAtom) (l : Loc) (ms : List MessageParts)
    → ((p : Pair) → bag coded_pair (atom_pairs atoms) p ≤ 1)
    → ((x : NumberedAtom) → messages_at l ms x ≤ bag coded_atom atoms x)
    → (x : NumberedAtom)
    → bag coded_atom atoms x ≡ messages_at l ms x + bag coded_atom (without_all (ids ms) atoms) x
bag_without_all atoms l [] d h x = omega arith
bag_without_all atoms l (m ∷ ms) d h x =
    let found = atom_in atoms (message_atom l m) d
    (omega (arith, h (message_atom l m), one_self coded_atom (message_atom l m))) in
    let split : (y : NumberedAtom)
    → bag coded_atom atoms y
    ≡ one coded_atom (message_atom l m) y + bag coded_atom (without m.id atoms) y =
    λ y. bag_without atoms m.id (message_atom l m) y found in
    let later = bag_without_all (without m.id atoms) l ms
    (λ p. omega (arith, d p, pairs-without m.id atoms p)) (λ y. omega (arith, h y, split y)) x in
    omega (arith, split x)

module _ (n : Numbered) (sound : IsSound n) where
  pub atoms_differ : (p : Pair) → bag coded_pair (atom_pairs n.atoms) p ≤ 1
  atoms_differ p = omega (arith, sound.different p)

  pub rules_differ : (p : Pair) → bag coded_pair (rule_pairs n.rules) p ≤ 1
  rules_differ p = omega (arith, sound.different p)

  -- a rule of a live location that stands in the solution, and one message for each of its patterns
  pub react_applies : (r : NumberedRule) (ms : List MessageParts) → 0 < bag coded_rule n.rules r
      → live (standing n.places) r.loc ≡ true → AreFor r.pats ms
      → ((x : NumberedAtom) → messages_at r.loc ms x ≤ bag coded_atom n.atoms x)
      → apply n (event.React r.id (ids ms))
      ≡ Some (pour_at (record n { atoms = without_all (ids ms) n.atoms }) (given_all r.pats ms)
      r.loc r.body)
  react_applies r ms here lives f h =
      ap (react_rule n (ids ms)) (rule_in n.rules r rules_differ here)
      ∙ ap
      (λ t. cond t (react_received n r (ids ms) (received_all n.atoms r.loc r.pats (ids ms))) None)
      lives
      ∙ ap (react_received n r (ids ms))
      (messages_received n.atoms r.loc r.pats ms atoms_differ f h)

  pub atoms_left : (l : Loc) (ms : List MessageParts)
      → ((x : NumberedAtom) → messages_at l ms x ≤ bag coded_atom n.atoms x)
      → (x : NumberedAtom)
      → bag coded_atom n.atoms x
      ≡ messages_at l ms x + bag coded_atom (without_all (ids ms) n.atoms) x
  atoms_left l ms h x = bag_without_all n.atoms l ms atoms_differ h x
