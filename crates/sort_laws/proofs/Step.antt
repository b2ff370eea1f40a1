-- An event keeps the sorts of names.
use Rattle.std.proofs.Common.{◌≡◌, ℕ, List, [], ◌∷◌, Option, Some, None, Bool, true, false, cond}
use Rattle.std.proofs.Common.{refl, sym, ◌∙◌, subst}
use Rattle.chem_model.specs.declared.name.Loc.{Loc}
use Rattle.chem_model.specs.declared.name.Name.{Name}
use Rattle.chem_model.specs.declared.name.Name.TheVariants as name
use Rattle.chem_model.specs.declared.name.Ref.{Ref}
use Rattle.chem_model.specs.declared.name.Ref.TheVariants.{Binder, Known}
use Rattle.chem_model.specs.declared.name.Pat.{Pat}
use Rattle.chem_model.specs.declared.event.AtomId.{AtomId}
use Rattle.chem_model.specs.declared.event.RuleId.{RuleId}
use Rattle.chem_model.specs.declared.event.Event.{Event}
use Rattle.chem_model.specs.declared.event.Event.TheVariants as event
use Rattle.chem_model.specs.declared.numbered.NumberedRule.{NumberedRule}
use Rattle.chem_model.specs.declared.numbered.NumberedAtom.{NumberedAtom}
use Rattle.chem_model.specs.declared.numbered.Numbered.{Numbered}
use Rattle.chem_model.specs.Process.{Process, Msg, Par, Def, Go, Fail, Halt}
use Rattle.chem_model.specs.Each.{Each}
use Rattle.chem_model.specs.Fill.{Naming}
use Rattle.chem_model.specs.Solution.{live}
use Rattle.chem_model.specs.Reduction.{all_known, given, continuation}
use Rattle.chem_model.specs.Numbered.{standing}
use Rattle.chem_model.specs.Pour.{pour_at}
use Rattle.chem_model.specs.Apply.{rule_at, atom_at, without, without_all, received_all}
use Rattle.chem_model.specs.Apply.{react_received, react_rule, with_marks, can_go, falls}
use Rattle.chem_model.specs.Apply.{can_detect, at_location, moved, move_to, move_atom, halt_atom}
use Rattle.chem_model.specs.Apply.{detect_of, detect_atom, with_atom, apply}
use Rattle.chem_model.specs.Sound.{IsSound, IsNameOf, IsSettled, IsAtom}
use Rattle.chem_laws.proofs.Lists.{Each-weaker, Each-append}
use Rattle.chem_laws.proofs.Taking.{atom_found, rule_found, Each-without, Each-without_all}
use Rattle.chem_laws.proofs.Taking.{Received, AllReceived, none_received, one_received}
use Rattle.chem_laws.proofs.Taking.{all_received}
use Rattle.sort_laws.specs.declared.sorts.SortArg.{SortArg}
use Rattle.sort_laws.specs.Sorted.{Sorting, RefHas, Takes, Receives, IsChannel, KeepsArguments}
use Rattle.sort_laws.specs.Sorted.{KeepsPattern, Keeps, KeepsRule, IsWellSorted}
use Rattle.sort_laws.proofs.Terms.{Fits, AllFit, arguments_keep, channel_takes}
use Rattle.sort_laws.proofs.Unique.{one_channel}
use Rattle.sort_laws.proofs.Poured.{poured_keeps}

module _ (t : Sorting) (n : Numbered) (sound : IsSound n) (keeps : IsWellSorted t n) where
  -- ---- what is received has the sorts of the parameters

  given_fit : (bs : List ℕ) (xs : List Name) (ss : List SortArg) → Receives t bs ss
      → Takes t n.named (all_known xs) ss → AllFit t n.named (given bs xs)
  given_fit [] xs ss r k = tt
  given_fit (b ∷ bs) [] ss r k = tt
  given_fit (b ∷ bs) (x ∷ xs) [] r k = absurd r
  given_fit (b ∷ bs) (x ∷ xs) (s ∷ ss) r k = (
    λ u e. let is : s ≡ u = (let both : Some s ≡ Some u = sym r.0 ∙ e in cc) in
        subst (RefHas t n.named (Known x)) is k.0,
    given_fit bs xs ss r.1 k.1,
  )

  abbrev Q : Name → Type 0
  Q = IsNameOf n

  one_fits : (l : Loc) (p : Pat) (i : AtomId) (m : Naming) → KeepsPattern t n.named p
      → Received Q n.atoms l p i m → AllFit t n.named m
  one_fits l p i m h r =
      let stands : Keeps t n.named (Msg p.on (all_known r.meets.args)) =
      subst (Keeps t n.named) r.meets.is (atom_found (λ (a : NumberedAtom). Keeps t n.named a.term)
      n.atoms i r.atom r.found keeps.0) in
      let message : KeepsArguments t n.named p.on (all_known r.meets.args) =
      channel_takes t n.named p.on h.sorts (all_known r.meets.args) h.channel stands in
      let same : message.sorts ≡ h.sorts =
      one_channel t n sound p.on message.sorts h.sorts message.channel h.channel in
      subst (AllFit t n.named) (sym r.meets.names) (given_fit p.params r.meets.args h.sorts
      h.receives (subst (Takes t n.named (all_known r.meets.args)) same message.takes))

  all_fit : {l : Loc} (ps : List Pat) (took : List AtomId) (m : Naming)
      → Each (KeepsPattern t n.named) ps → AllReceived Q n.atoms l ps took m → AllFit t n.named m
  all_fit ps took m h none_received = tt
  all_fit {l} ps took m h (one_received {p} {i} {m = a} {ps = us} {took = js} {ms} r more) =
      Each-append (Fits t n.named) a ms (one_fits l p i a h.0 r) (all_fit us js ms h.1 more)

  -- ---- React

  reacted : (i : RuleId) (r : NumberedRule) (took : List AtomId) (m : Naming)
      → rule_at n.rules i ≡ Some r → received_all n.atoms r.loc r.pats took ≡ Some m
      → IsWellSorted t (pour_at (record n { atoms = without_all took n.atoms }) m r.loc r.body)
  reacted i r took m at_rule receives =
      let settled = Each-weaker (IsAtom n) (λ (a : NumberedAtom). IsSettled n.seen Q a.loc a.term)
      (λ a h. h.1) n.atoms sound.atoms in
      let got = all_received Q n.seen n.atoms r.loc r.pats took m settled receives in
      let rule = rule_found (KeepsRule t n.named) n.rules i r at_rule keeps.1 in
      let fits = all_fit r.pats took m rule.0 got in
      poured_keeps t (record n { atoms = without_all took n.atoms }) m r.loc r.body (
        Each-without_all (λ (a : NumberedAtom). Keeps t n.named a.term) took n.atoms keeps.0,
        keeps.1,
        keeps.2,
      ) fits rule.1

  react_step : (i : RuleId) (took : List AtomId) (m : Numbered)
      → apply n (event.React i took) ≡ Some m → IsWellSorted t m
  react_step i took m e = at_rule (rule_at n.rules i) refl e
    where
      receives : (r : NumberedRule) → rule_at n.rules i ≡ Some r → (u : Option Naming)
          → received_all n.atoms r.loc r.pats took ≡ u → react_received n r took u ≡ Some m
          → IsWellSorted t m
      receives r c None d e' = cc
      receives r c (Some u) d e' =
          let same : pour_at (record n { atoms = without_all took n.atoms }) u r.loc r.body ≡ m =
          cc in
          subst (IsWellSorted t) same (reacted i r took u c d)

      lives : (r : NumberedRule) → rule_at n.rules i ≡ Some r → (b : Bool)
          → cond b (react_received n r took (received_all n.atoms r.loc r.pats took)) None ≡ Some m
          → IsWellSorted t m
      lives r c true e' = receives r c (received_all n.atoms r.loc r.pats took) refl e'
      lives r c false e' = cc

      at_rule : (o : Option NumberedRule) → rule_at n.rules i ≡ o → react_rule n took o ≡ Some m
          → IsWellSorted t m
      at_rule None c e' = cc
      at_rule (Some r) c e' = lives r c (live (standing n.places) r.loc) e'

  -- ---- requests

  left_keeps : (i : AtomId) (a : NumberedAtom) (p : Process) → atom_at n.atoms i ≡ Some a
      → a.term ≡ p → Keeps t n.named p
  left_keeps i a p c term = subst (Keeps t n.named) term
      (atom_found (λ (b : NumberedAtom). Keeps t n.named b.term) n.atoms i a c keeps.0)

  goes_on : (k : Ref) → IsChannel t n.named k [] → Keeps t n.named (continuation k)
  goes_on k h = arguments_keep t n.named k [] (record { sorts = []; channel = h; takes = tt })

  without_keeps : (i : AtomId)
      → Each (λ (a : NumberedAtom). Keeps t n.named a.term) (without i n.atoms)
  without_keeps i = Each-without (λ (a : NumberedAtom). Keeps t n.named a.term) i n.atoms keeps.0

  move_step : (i : AtomId) (m : Numbered) → apply n (event.Move i) ≡ Some m → IsWellSorted t m
  move_step i m e = at_atom (atom_at n.atoms i) refl e
    where
      falls_in : (a : NumberedAtom) (b : Loc) (u : Bool)
          → cond u (Some (moved n i a.loc b)) None ≡ Some m → IsWellSorted t m
      falls_in a b true e' =
          let same : moved n i a.loc b ≡ m = cc in
          subst (IsWellSorted t) same (without_keeps i, keeps.1, keeps.2)
      falls_in a b false e' = cc

      goes : (a : NumberedAtom) (b : Loc) (k : Ref) → IsChannel t n.named k [] → (u : Bool)
          → cond u (Some (pour_at (moved n i a.loc b) [] a.loc (continuation k)))
          (cond (falls n a.loc b) (Some (moved n i a.loc b)) None) ≡ Some m → IsWellSorted t m
      goes a b k h true e' =
          let new : Numbered = moved n i a.loc b in
          let same : pour_at new [] a.loc (continuation k) ≡ m = cc in
          subst (IsWellSorted t) same (poured_keeps t new [] a.loc (continuation k)
          (without_keeps i, keeps.1, keeps.2) tt (goes_on k h))
      goes a b k h false e' = falls_in a b (falls n a.loc b) e'

      at_target : (a : NumberedAtom) (b k : Ref) → IsChannel t n.named k []
          → at_location b (move_to n i a.loc k) ≡ Some m → IsWellSorted t m
      at_target a (Binder b) k h e' = cc
      at_target a (Known (name.Seen b)) k h e' = cc
      at_target a (Known (name.Place b)) k h e' = goes a b k h (can_go n a.loc b) e'
      at_target a (Known (name.Chan s j g)) k h e' = cc
      at_target a (Known (name.Num j)) k h e' = cc
      at_target a (Known (name.Op j)) k h e' = cc

      at_term : (a : NumberedAtom) (p : Process) → atom_at n.atoms i ≡ Some a → a.term ≡ p
          → move_atom n i a.loc p ≡ Some m → IsWellSorted t m
      at_term a (Go b k) c d e' = at_target a b k (left_keeps i a (Go b k) c d).1 e'
      at_term a (Msg x vs) c d e' = cc
      at_term a (Par ps) c d e' = cc
      at_term a (Def ds p) c d e' = cc
      at_term a (Fail b k) c d e' = cc
      at_term a Halt c d e' = cc

      at_atom : (o : Option NumberedAtom) → atom_at n.atoms i ≡ o
          → with_atom o (move_atom n i) ≡ Some m → IsWellSorted t m
      at_atom None c e' = cc
      at_atom (Some a) c e' = at_term a a.term c refl e'

  halt_step : (i : AtomId) (m : Numbered) → apply n (event.Halt i) ≡ Some m → IsWellSorted t m
  halt_step i m e = at_atom (atom_at n.atoms i) e
    where
      halts : (a : NumberedAtom) (u : Bool)
          → cond u
          (Some (record n { places = with_marks a.loc n.places; atoms = without i n.atoms })) None
          ≡ Some m → IsWellSorted t m
      halts a true e' =
          let same : record n { places = with_marks a.loc n.places; atoms = without i n.atoms }
          ≡ m = cc in
          subst (IsWellSorted t) same (without_keeps i, keeps.1, keeps.2)
      halts a false e' = cc

      at_term : (a : NumberedAtom) (p : Process) → halt_atom n i a.loc p ≡ Some m → IsWellSorted t m
      at_term a Halt e' = halts a (live (standing n.places) a.loc) e'
      at_term a (Msg x vs) e' = cc
      at_term a (Par ps) e' = cc
      at_term a (Def ds p) e' = cc
      at_term a (Go b k) e' = cc
      at_term a (Fail b k) e' = cc

      at_atom : (o : Option NumberedAtom) → with_atom o (halt_atom n i) ≡ Some m → IsWellSorted t m
      at_atom None e' = cc
      at_atom (Some a) e' = at_term a a.term e'

  detect_step : (i : AtomId) (m : Numbered) → apply n (event.Detect i) ≡ Some m → IsWellSorted t m
  detect_step i m e = at_atom (atom_at n.atoms i) refl e
    where
      detects : (a : NumberedAtom) (k : Ref) → IsChannel t n.named k [] → (u : Bool)
          → cond u
          (Some (pour_at (record n { atoms = without i n.atoms }) [] a.loc (continuation k))) None
          ≡ Some m → IsWellSorted t m
      detects a k h true e' =
          let new : Numbered = record n { atoms = without i n.atoms } in
          let same : pour_at new [] a.loc (continuation k) ≡ m = cc in
          subst (IsWellSorted t) same (poured_keeps t new [] a.loc (continuation k)
          (without_keeps i, keeps.1, keeps.2) tt (goes_on k h))
      detects a k h false e' = cc

      at_target : (a : NumberedAtom) (b k : Ref) → IsChannel t n.named k []
          → at_location b (detect_of n i a.loc k) ≡ Some m → IsWellSorted t m
      at_target a (Binder b) k h e' = cc
      at_target a (Known (name.Seen b)) k h e' = cc
      at_target a (Known (name.Place b)) k h e' = detects a k h (can_detect n a.loc b) e'
      at_target a (Known (name.Chan s j g)) k h e' = cc
      at_target a (Known (name.Num j)) k h e' = cc
      at_target a (Known (name.Op j)) k h e' = cc

      at_term : (a : NumberedAtom) (p : Process) → atom_at n.atoms i ≡ Some a → a.term ≡ p
          → detect_atom n i a.loc p ≡ Some m → IsWellSorted t m
      at_term a (Fail b k) c d e' = at_target a b k (left_keeps i a (Fail b k) c d).1 e'
      at_term a (Msg x vs) c d e' = cc
      at_term a (Par ps) c d e' = cc
      at_term a (Def ds p) c d e' = cc
      at_term a (Go b k) c d e' = cc
      at_term a Halt c d e' = cc

      at_atom : (o : Option NumberedAtom) → atom_at n.atoms i ≡ o
          → with_atom o (detect_atom n i) ≡ Some m → IsWellSorted t m
      at_atom None c e' = cc
      at_atom (Some a) c e' = at_term a a.term c refl e'

  pub event_keeps : (m : Numbered) (e : Event) → apply n e ≡ Some m → IsWellSorted t m
  event_keeps m (event.React i took) a = react_step i took m a
  event_keeps m (event.Move i) a = move_step i m a
  event_keeps m (event.Halt i) a = halt_step i m a
  event_keeps m (event.Detect i) a = detect_step i m a
