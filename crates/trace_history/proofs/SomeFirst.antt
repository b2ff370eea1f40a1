-- In a sound solution an event comes first, or none is possible.
use Rattle.std.proofs.Common.{◌≡◌, ℕ, ◌<◌, ◌≤◌, List, [], ◌∷◌, Option, Some, None, true, refl, ◌⊎◌}
use Rattle.std.proofs.Common.{inl, inr}
use Rattle.std.specs.List.{list_all}
use Rattle.std.proofs.lemmas.Bool.{cases_lt, and_parts}
use Rattle.chem_model.specs.declared.name.Loc.{Loc}
use Rattle.chem_model.specs.declared.name.Pat.{Pat}
use Rattle.chem_model.specs.declared.event.AtomId.{AtomId}
use Rattle.chem_model.specs.declared.event.Event.{Event}
use Rattle.chem_model.specs.declared.event.Event.TheVariants as event
use Rattle.chem_model.specs.declared.numbered.NumberedRule.{NumberedRule}
use Rattle.chem_model.specs.declared.numbered.NumberedAtom.{NumberedAtom}
use Rattle.chem_model.specs.declared.numbered.Numbered.{Numbered}
use Rattle.chem_model.specs.Solution.{live, root}
use Rattle.chem_model.specs.Numbered.{standing}
use Rattle.chem_model.specs.Sound.{IsSound}
use Rattle.trace_history.specs.declared.book.Found.{Found}
use Rattle.trace_history.specs.inside.Search.{first_of, IsLeast, AreLeast, turn, rule_before}
use Rattle.trace_history.specs.inside.Search.{request_before, event_of, IsFound}
use Rattle.book_store.specs.Walk.{IsFirstOf}
use Rattle.chem_causes.specs.Ready.{receives, is_met, is_ready, can_act}
use Rattle.book_store.specs.Older.{atom_before}
use Rattle.trace_history.proofs.FirstOf.{finds_first}
use Rattle.trace_history.proofs.Least.{not_met}
use Rattle.trace_history.proofs.Founds.{messages_order, rules_order, requests_order, has_event}
use Rattle.trace_history.proofs.Founds.{none_possible}
use Rattle.trace_history.proofs.Answered.{reaction_found, meeting_found, none_is, turn_rule}
use Rattle.trace_history.proofs.Answered.{turn_atom}

-- ---- a pattern that is met has a least message

least_of : (atoms : List NumberedAtom) (l : Loc) (p : Pat) → is_met atoms l p ≡ true
    → (o : Option NumberedAtom) → IsFirstOf (receives l p) atom_before atoms o
    → (i : AtomId) × IsLeast atoms l p i
least_of atoms l p met None f = let not = not_met atoms l p f in cc
least_of atoms l p met (Some a) f = (a.id, (a, refl, f))

least_of_each : (atoms : List NumberedAtom) (l : Loc) (ps : List Pat)
    → list_all (is_met atoms l) ps ≡ true → (took : List AtomId) × AreLeast atoms l ps took
least_of_each atoms l [] h = ([], tt)
least_of_each atoms l (p ∷ ps) h =
    let met = and_parts (is_met atoms l p) (list_all (is_met atoms l) ps) h in
    let found = first_of (receives l p) atom_before None atoms in
    let least = least_of atoms l p met.0 found
    (finds_first (receives l p) atom_before messages_order atoms found refl) in
    let rest = least_of_each atoms l ps met.1 in
    (least.0 ∷ rest.0, (least.1, rest.1))

-- ---- the first rule or the first request has its event

module _ (n : Numbered) (sound : IsSound n) (from : ℕ) where
  abbrev FirstRule : Option NumberedRule → Type 0
  FirstRule o = IsFirstOf (is_ready n) (rule_before n from) n.rules o

  abbrev FirstRequest : Option NumberedAtom → Type 0
  FirstRequest o = IsFirstOf (can_act n) (request_before n from) n.atoms o

  by_rule : (r : NumberedRule) (q : Option NumberedAtom) → FirstRule (Some r) → FirstRequest q
      → ((a : NumberedAtom) → q ≡ Some a → turn n from r.loc ≤ turn n from a.loc)
      → (o : Option Found) × IsFound n from o
  by_rule r q g h before =
      let stands =
      and_parts (live (standing n.places) r.loc) (list_all (is_met n.atoms r.loc) r.pats) g.1 in
      let took = least_of_each n.atoms r.loc r.pats stands.1 in
      let found : Found =
      record { site = (root (standing n.places) r.loc).site; event = event.React r.id took.0 } in
      (Some found, reaction_found n sound from r q g h before found (took.0, refl, refl, took.1))

  by_request : (a : NumberedAtom) (o : Option NumberedRule) → FirstRule o → FirstRequest (Some a)
      → ((r : NumberedRule) → o ≡ Some r → turn n from a.loc < turn n from r.loc)
      → (o : Option Found) × IsFound n from o
  by_request a o g h before = go (event_of a.id a.term) refl
    where
      go : (e : Option Event) → event_of a.id a.term ≡ e → (o : Option Found) × IsFound n from o
      go None is = let not = has_event n a.id a.loc a.term is in let acts = h.1 in cc
      go (Some e) is =
          let found : Found = record { site = (root (standing n.places) a.loc).site; event = e } in
          (Some found, meeting_found n sound from a o g h before (Some found) (is, refl))

  by_either : (o : Option NumberedRule) (q : Option NumberedAtom) → FirstRule o → FirstRequest q
      → (f : Option Found) × IsFound n from f
  by_either None None g h = (None, none_possible n sound from g h)
  by_either None (Some a) g h =
      by_request a None g h (λ r e. none_is r (turn n from a.loc < turn n from r.loc) e)
  by_either (Some r) None g h =
      by_rule r None g h (λ a e. none_is a (turn n from r.loc ≤ turn n from a.loc) e)
  by_either (Some r) (Some a) g h = go (cases_lt (turn n from a.loc) (turn n from r.loc))
    where
      go : (turn n from a.loc < turn n from r.loc) ⊎ (turn n from r.loc ≤ turn n from a.loc)
          → (f : Option Found) × IsFound n from f
      go (inl low) = by_request a (Some r) g h (turn_rule n from (turn n from a.loc) r low)
      go (inr low) = by_rule r (Some a) g h (turn_atom n from (turn n from r.loc) a low)

  pub some_first : (o : Option Found) × IsFound n from o
  some_first =
      let rule = first_of (is_ready n) (rule_before n from) None n.rules in
      let request = first_of (can_act n) (request_before n from) None n.atoms in
      by_either rule request
      (finds_first (is_ready n) (rule_before n from) (rules_order n from) n.rules rule refl)
      (finds_first (can_act n) (request_before n from) (requests_order n from) n.atoms request refl)
