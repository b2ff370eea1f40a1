-- An event keeps that each channel is on a pattern of a rule.
use Rattle.std.proofs.Common.{◌≡◌, ℕ, ◌≤◌, List, [], Option, Some, None, Bool, true, false, cond}
use Rattle.std.proofs.Common.{refl, sym, subst, arith}
use Rattle.chem_model.specs.declared.name.Loc.{Loc}
use Rattle.chem_model.specs.declared.name.Name.TheVariants as name
use Rattle.chem_model.specs.declared.name.Ref.{Ref}
use Rattle.chem_model.specs.declared.name.Ref.TheVariants.{Binder, Known}
use Rattle.chem_model.specs.declared.event.AtomId.{AtomId}
use Rattle.chem_model.specs.declared.event.RuleId.{RuleId}
use Rattle.chem_model.specs.declared.event.Event.{Event}
use Rattle.chem_model.specs.declared.event.Event.TheVariants as event
use Rattle.chem_model.specs.declared.numbered.NumberedRule.{NumberedRule}
use Rattle.chem_model.specs.declared.numbered.NumberedAtom.{NumberedAtom}
use Rattle.chem_model.specs.declared.numbered.Numbered.{Numbered}
use Rattle.chem_model.specs.Process.{Process, Msg, Par, Def, Go, Fail, Halt}
use Rattle.chem_model.specs.Binders.{times, params_of}
use Rattle.chem_model.specs.Fill.{Naming}
use Rattle.chem_model.specs.Solution.{live}
use Rattle.chem_model.specs.Reduction.{continuation}
use Rattle.chem_model.specs.Numbered.{standing}
use Rattle.chem_model.specs.Pour.{pour_at}
use Rattle.chem_model.specs.Apply.{rule_at, atom_at, without, without_all, received_all}
use Rattle.chem_model.specs.Apply.{react_received, react_rule, with_marks, can_go, falls}
use Rattle.chem_model.specs.Apply.{can_detect, at_location, moved, move_to, move_atom, halt_atom}
use Rattle.chem_model.specs.Apply.{detect_of, detect_atom, with_atom, apply}
use Rattle.chem_model.specs.Sound.{IsSound, IsNameOf, IsSettled, IsAtom, IsRule}
use Rattle.chem_laws.proofs.Lists.{Each-weaker}
use Rattle.chem_laws.proofs.Parts.{is_named}
use Rattle.chem_laws.proofs.Taking.{rule_found, named_once, all_received, received_names}
use Rattle.sort_laws.specs.Owned.{IsOwned}
use Rattle.sort_laws.proofs.Owned.{poured_owned}

module _ (n : Numbered) (sound : IsSound n) (owned : IsOwned n) where
  reacted : (i : RuleId) (r : NumberedRule) (took : List AtomId) (m : Naming)
      → rule_at n.rules i ≡ Some r → received_all n.atoms r.loc r.pats took ≡ Some m
      → IsOwned (pour_at (record n { atoms = without_all took n.atoms }) m r.loc r.body)
  reacted i r took m at_rule receives =
      let settled =
      Each-weaker (IsAtom n) (λ (a : NumberedAtom). IsSettled n.seen (IsNameOf n) a.loc a.term)
      (λ a h. h.1) n.atoms sound.atoms in
      let got = all_received (IsNameOf n) n.seen n.atoms r.loc r.pats took m settled receives in
      let rule = rule_found (IsRule n) n.rules i r at_rule sound.rules in
      let names = received_names (IsNameOf n) r.pats took m got in
      let counted : (b : ℕ) → is_named m b ≤ times (params_of r.pats) b =
      λ b. subst (λ t. cond t 1 0 ≤ times (params_of r.pats) b) (sym (names.1 b))
      (named_once (params_of r.pats) b) in
      poured_owned (record n { atoms = without_all took n.atoms }) m
      r.loc r.body (λ b. omega (arith, counted b, rule.bound_once b)) owned

  react_step : (i : RuleId) (took : List AtomId) (m : Numbered)
      → apply n (event.React i took) ≡ Some m → IsOwned m
  react_step i took m e = at_rule (rule_at n.rules i) refl e
    where
      receives : (r : NumberedRule) → rule_at n.rules i ≡ Some r → (u : Option Naming)
          → received_all n.atoms r.loc r.pats took ≡ u → react_received n r took u ≡ Some m
          → IsOwned m
      receives r c None d e' = cc
      receives r c (Some u) d e' =
          let same : pour_at (record n { atoms = without_all took n.atoms }) u r.loc r.body ≡ m =
          cc in
          subst IsOwned same (reacted i r took u c d)

      lives : (r : NumberedRule) → rule_at n.rules i ≡ Some r → (b : Bool)
          → cond b (react_received n r took (received_all n.atoms r.loc r.pats took)) None ≡ Some m
          → IsOwned m
      lives r c true e' = receives r c (received_all n.atoms r.loc r.pats took) refl e'
      lives r c false e' = cc

      at_rule : (o : Option NumberedRule) → rule_at n.rules i ≡ o → react_rule n took o ≡ Some m
          → IsOwned m
      at_rule None c e' = cc
      at_rule (Some r) c e' = lives r c (live (standing n.places) r.loc) e'

  -- a request removes an atom, changes a location, and pours a message at most
  goes_on : (new : Numbered) → IsOwned new → (l : Loc) (k : Ref)
      → IsOwned (pour_at new [] l (continuation k))
  goes_on new h l k = poured_owned new [] l (continuation k) (λ b. omega arith) h

  move_step : (i : AtomId) (m : Numbered) → apply n (event.Move i) ≡ Some m → IsOwned m
  move_step i m e = at_atom (atom_at n.atoms i) e
    where
      falls_in : (a : NumberedAtom) (b : Loc) (u : Bool)
          → cond u (Some (moved n i a.loc b)) None ≡ Some m → IsOwned m
      falls_in a b true e' = let same : moved n i a.loc b ≡ m = cc in subst IsOwned same owned
      falls_in a b false e' = cc

      goes : (a : NumberedAtom) (b : Loc) (k : Ref) → (u : Bool)
          → cond u (Some (pour_at (moved n i a.loc b) [] a.loc (continuation k)))
          (cond (falls n a.loc b) (Some (moved n i a.loc b)) None) ≡ Some m → IsOwned m
      goes a b k true e' =
          let new : Numbered = moved n i a.loc b in
          let same : pour_at new [] a.loc (continuation k) ≡ m = cc in
          subst IsOwned same (goes_on new owned a.loc k)
      goes a b k false e' = falls_in a b (falls n a.loc b) e'

      at_target : (a : NumberedAtom) (b k : Ref) → at_location b (move_to n i a.loc k) ≡ Some m
          → IsOwned m
      at_target a (Binder b) k e' = cc
      at_target a (Known (name.Seen b)) k e' = cc
      at_target a (Known (name.Place b)) k e' = goes a b k (can_go n a.loc b) e'
      at_target a (Known (name.Chan s j g)) k e' = cc
      at_target a (Known (name.Num j)) k e' = cc
      at_target a (Known (name.Op j)) k e' = cc

      at_term : (a : NumberedAtom) (p : Process) → move_atom n i a.loc p ≡ Some m → IsOwned m
      at_term a (Go b k) e' = at_target a b k e'
      at_term a (Msg x vs) e' = cc
      at_term a (Par ps) e' = cc
      at_term a (Def ds p) e' = cc
      at_term a (Fail b k) e' = cc
      at_term a Halt e' = cc

      at_atom : (o : Option NumberedAtom) → with_atom o (move_atom n i) ≡ Some m → IsOwned m
      at_atom None e' = cc
      at_atom (Some a) e' = at_term a a.term e'

  halt_step : (i : AtomId) (m : Numbered) → apply n (event.Halt i) ≡ Some m → IsOwned m
  halt_step i m e = at_atom (atom_at n.atoms i) e
    where
      halts : (a : NumberedAtom) (u : Bool)
          → cond u
          (Some (record n { places = with_marks a.loc n.places; atoms = without i n.atoms })) None
          ≡ Some m → IsOwned m
      halts a true e' =
          let same : record n { places = with_marks a.loc n.places; atoms = without i n.atoms }
          ≡ m = cc in
          subst IsOwned same owned
      halts a false e' = cc

      at_term : (a : NumberedAtom) (p : Process) → halt_atom n i a.loc p ≡ Some m → IsOwned m
      at_term a Halt e' = halts a (live (standing n.places) a.loc) e'
      at_term a (Msg x vs) e' = cc
      at_term a (Par ps) e' = cc
      at_term a (Def ds p) e' = cc
      at_term a (Go b k) e' = cc
      at_term a (Fail b k) e' = cc

      at_atom : (o : Option NumberedAtom) → with_atom o (halt_atom n i) ≡ Some m → IsOwned m
      at_atom None e' = cc
      at_atom (Some a) e' = at_term a a.term e'

  detect_step : (i : AtomId) (m : Numbered) → apply n (event.Detect i) ≡ Some m → IsOwned m
  detect_step i m e = at_atom (atom_at n.atoms i) e
    where
      detects : (a : NumberedAtom) (k : Ref) (u : Bool)
          → cond u
          (Some (pour_at (record n { atoms = without i n.atoms }) [] a.loc (continuation k))) None
          ≡ Some m → IsOwned m
      detects a k true e' =
          let new : Numbered = record n { atoms = without i n.atoms } in
          let same : pour_at new [] a.loc (continuation k) ≡ m = cc in
          subst IsOwned same (goes_on new owned a.loc k)
      detects a k false e' = cc

      at_target : (a : NumberedAtom) (b k : Ref) → at_location b (detect_of n i a.loc k) ≡ Some m
          → IsOwned m
      at_target a (Binder b) k e' = cc
      at_target a (Known (name.Seen b)) k e' = cc
      at_target a (Known (name.Place b)) k e' = detects a k (can_detect n a.loc b) e'
      at_target a (Known (name.Chan s j g)) k e' = cc
      at_target a (Known (name.Num j)) k e' = cc
      at_target a (Known (name.Op j)) k e' = cc

      at_term : (a : NumberedAtom) (p : Process) → detect_atom n i a.loc p ≡ Some m → IsOwned m
      at_term a (Fail b k) e' = at_target a b k e'
      at_term a (Msg x vs) e' = cc
      at_term a (Par ps) e' = cc
      at_term a (Def ds p) e' = cc
      at_term a (Go b k) e' = cc
      at_term a Halt e' = cc

      at_atom : (o : Option NumberedAtom) → with_atom o (detect_atom n i) ≡ Some m → IsOwned m
      at_atom None e' = cc
      at_atom (Some a) e' = at_term a a.term e'

  pub event_owned : (m : Numbered) (e : Event) → apply n e ≡ Some m → IsOwned m
  event_owned m (event.React i took) a = react_step i took m a
  event_owned m (event.Move i) a = move_step i m a
  event_owned m (event.Halt i) a = halt_step i m a
  event_owned m (event.Detect i) a = detect_step i m a
