-- What the search answers is the event that comes first, and its site is one of the solution.
use Rattle.std.proofs.Common.{◌≡◌, ℕ, ◌<◌, ◌≤◌, Option, Some, None, true, false, refl, sym, subst}
use Rattle.std.proofs.Common.{is_some, length}
use Rattle.std.proofs.lemmas.Bool.{and_parts}
use Rattle.std.specs.List.{list_all}
use Rattle.std.specs.Prelude.{Result, Ok, Err, OnErr}
use Rattle.chem_model.specs.declared.event.Event.{Event}
use Rattle.chem_model.specs.declared.event.Event.TheVariants as event
use Rattle.chem_model.specs.declared.numbered.NumberedRule.{NumberedRule}
use Rattle.chem_model.specs.declared.numbered.NumberedAtom.{NumberedAtom}
use Rattle.chem_model.specs.declared.numbered.Numbered.{Numbered}
use Rattle.chem_model.specs.Solution.{live, root, is_there}
use Rattle.chem_model.specs.Numbered.{standing}
use Rattle.chem_model.specs.Sound.{IsSound, IsAtom}
use Rattle.chem_laws.proofs.Places.{live_parts, root_is}
use Rattle.chem_laws.proofs.Taking.{atom_found}
use Rattle.trace_history.specs.declared.book.Found.{Found}
use Rattle.trace_history.specs.First.{IsFirst}
use Rattle.book_store.specs.Walk.{IsFirstOf}
use Rattle.chem_causes.specs.Ready.{is_met, is_ready, can_act}
use Rattle.trace_history.specs.inside.Search.{turn, rule_before, request_before, IsReaction}
use Rattle.trace_history.specs.inside.Search.{IsMeeting, IsFound}
use Rattle.book_store.proofs.ByNumber.{member_found}
use Rattle.chem_model.specs.Apply.{apply}
use Rattle.trace_history.proofs.Founds.{has_event, atoms_differ, react_first, request_first}
use Rattle.trace_history.proofs.Founds.{rule_possible, request_possible}

module _ (n : Numbered) (sound : IsSound n) (from : ℕ) where
  pub reaction_found : (r : NumberedRule) (q : Option NumberedAtom)
      → IsFirstOf (is_ready n) (rule_before n from) n.rules (Some r)
      → IsFirstOf (can_act n) (request_before n from) n.atoms q
      → ((a : NumberedAtom) → q ≡ Some a → turn n from r.loc ≤ turn n from a.loc) → (f : Found)
      → IsReaction n r f → IsFound n from (Some f)
  reaction_found r q g h before f is =
      let site = (root (standing n.places) r.loc).site in
      let first : IsFirst n from site (event.React r.id is.0) =
      react_first n sound from r is.0 q g h is.3 before in
      let lives =
      (and_parts (live (standing n.places) r.loc) (list_all (is_met n.atoms r.loc) r.pats) g.1).0 in
      let low : site < length n.counts =
      (root_is n sound r.loc (live_parts (standing n.places) r.loc lives).0).0.1 in (
        subst (λ (s : ℕ). IsFirst n from s f.event) (sym is.2)
            (subst (λ (e : Event). IsFirst n from site e) (sym is.1) first),
        subst (λ (s : ℕ). s < length n.counts) (sym is.2) low,
      )

  pub meeting_found : (a : NumberedAtom) (o : Option NumberedRule)
      → IsFirstOf (is_ready n) (rule_before n from) n.rules o
      → IsFirstOf (can_act n) (request_before n from) n.atoms (Some a)
      → ((r : NumberedRule) → o ≡ Some r → turn n from a.loc < turn n from r.loc)
      → (f : Option Found) → IsMeeting n a f → IsFound n from f
  meeting_found a o g h before None is =
      let not = has_event n a.id a.loc a.term is in
      let does = h.1 in
      cc
  meeting_found a o g h before (Some f) is =
      let site = (root (standing n.places) a.loc).site in
      let first : IsFirst n from site f.event =
      request_first n sound from a f.event o is.0 g h before in
      let there : is_there (standing n.places a.loc) ≡ true =
      (atom_found (IsAtom n) n.atoms a.id a (member_found n.atoms (atoms_differ n sound from) a h.0)
      sound.atoms).0 in
      let low : site < length n.counts = (root_is n sound a.loc there).0.1 in (
        subst (λ (s : ℕ). IsFirst n from s f.event) (sym is.1) first,
        subst (λ (s : ℕ). s < length n.counts) (sym is.1) low,
      )

-- ---- what is known of the other one

pub none_is : {X : Type 0} (x : X) (P : Type 0) → None ≡ Some x → P
none_is x P e = cc

pub turn_rule : (n : Numbered) (from t : ℕ) (r : NumberedRule) → t < turn n from r.loc
    → (s : NumberedRule) → Some r ≡ Some s → t < turn n from s.loc
turn_rule n from t r h s e =
    let same : r ≡ s = cc in
    subst (λ (x : NumberedRule). t < turn n from x.loc) same h

pub turn_atom : (n : Numbered) (from t : ℕ) (a : NumberedAtom) → t ≤ turn n from a.loc
    → (b : NumberedAtom) → Some a ≡ Some b → t ≤ turn n from b.loc
turn_atom n from t a h b e =
    let same : a ≡ b = cc in
    subst (λ (x : NumberedAtom). t ≤ turn n from x.loc) same h

-- ---- a truth value that says that no event is possible

stuck_is : (n : Numbered) (e : Event) → is_some (apply n e) ≡ true
    → (false ≡ true → (f : Event) → is_some (apply n f) ≡ false)
    × (((f : Event) → is_some (apply n f) ≡ false) → false ≡ true)
stuck_is n e h = (λ t f. cc, λ g. let not = g e in cc)

pub rule_not_stuck : (n : Numbered) → IsSound n → (from : ℕ) (r : NumberedRule)
    → IsFirstOf (is_ready n) (rule_before n from) n.rules (Some r)
    → (false ≡ true → (f : Event) → is_some (apply n f) ≡ false)
    × (((f : Event) → is_some (apply n f) ≡ false) → false ≡ true)
rule_not_stuck n sound from r g = let e = rule_possible n sound from r g in stuck_is n e.0 e.1

-- want of memory where a rule is ready: then an event is possible
pub ready_on_err : {X Y : Type 0} (o : Result X Y) (n : Numbered) → IsSound n
    → (from : ℕ) (r : NumberedRule) → IsFirstOf (is_ready n) (rule_before n from) n.rules (Some r)
    → OnErr o (((f : Event) → is_some (apply n f) ≡ false) → ⊥)
ready_on_err (Ok x) n sound from r g = tt
ready_on_err (Err y) n sound from r g = λ stuck.
    let e = rule_possible n sound from r g in
    let not = stuck e.0 in
    let is = e.1 in
    cc

pub request_not_stuck : (n : Numbered) → IsSound n → (from : ℕ) (a : NumberedAtom)
    → IsFirstOf (can_act n) (request_before n from) n.atoms (Some a)
    → (false ≡ true → (f : Event) → is_some (apply n f) ≡ false)
    × (((f : Event) → is_some (apply n f) ≡ false) → false ≡ true)
request_not_stuck n sound from a h = let e = request_possible n sound from a h in stuck_is n e.0 e.1

pub is_stuck_then : (n : Numbered) → ((f : Event) → is_some (apply n f) ≡ false)
    → (true ≡ true → (f : Event) → is_some (apply n f) ≡ false)
    × (((f : Event) → is_some (apply n f) ≡ false) → true ≡ true)
is_stuck_then n h = (λ t. h, λ g. refl)
