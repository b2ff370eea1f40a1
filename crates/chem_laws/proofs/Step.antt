-- An event is one reduction, the one that it names, followed by heating, Comm, Out, Add and Same
-- alone.
use Rattle.std.proofs.Common.{◌≡◌, ℕ, ◌+◌, ◌<◌, ◌≤◌, List, [], ◌++◌, Option, Some, None, Bool, true}
use Rattle.std.proofs.Common.{false, cond, refl, sym, ap, ◌∙◌, subst, arith, length, ◌&&◌, is_some}
use Rattle.std.proofs.Common.{not, inl, inr, eqb-true, ◌==◌}
use Rattle.std.proofs.lemmas.Bool.{and_parts}
use Rattle.chem_model.specs.declared.name.Loc.{Loc}
use Rattle.chem_model.specs.declared.name.Name.{Name}
use Rattle.chem_model.specs.declared.name.Name.TheVariants as name
use Rattle.chem_model.specs.declared.name.Ref.{Ref}
use Rattle.chem_model.specs.declared.name.Ref.TheVariants.{Binder, Known}
use Rattle.chem_model.specs.declared.event.AtomId.{AtomId}
use Rattle.chem_model.specs.declared.event.RuleId.{RuleId}
use Rattle.chem_model.specs.declared.event.Event.{Event}
use Rattle.chem_model.specs.declared.event.Event.TheVariants as event
use Rattle.chem_model.specs.Process.{Process, Definition, Msg, Par, Def, Go, Fail, Halt}
use Rattle.chem_model.specs.Binders.{is_among, times, params_of}
use Rattle.chem_model.specs.Scope.{Position, names_message, IsInScope}
use Rattle.chem_model.specs.Bag.{one, bag, ◌⊕◌, nothing}
use Rattle.chem_model.specs.Each.{Each}
use Rattle.chem_model.specs.Fill.{Naming, fill_ref, fill}
use Rattle.chem_model.specs.Solution.{Solution, Places, coded_located_process, same_loc, is_there}
use Rattle.chem_model.specs.Solution.{host_of, or_itself, dead, live, with_host, rehosted, marked}
use Rattle.chem_model.specs.NewNames.{Pair, coded_pair}
use Rattle.chem_model.specs.Reduction.{IsReached, stays, continuation}
use Rattle.chem_model.specs.declared.numbered.NumberedRule.{NumberedRule}
use Rattle.chem_model.specs.declared.numbered.NumberedAtom.{NumberedAtom}
use Rattle.chem_model.specs.declared.numbered.Numbered.{Numbered}
use Rattle.chem_model.specs.Numbered.{standing, erase, procs_of, atom_pairs}
use Rattle.chem_model.specs.Pour.{pour_at}
use Rattle.chem_model.specs.Opening.{root_of}
use Rattle.chem_model.specs.Apply.{rule_at, atom_at, without, without_all, received_all}
use Rattle.chem_model.specs.Apply.{react_received, react_rule, with_hosts, with_marks, can_go}
use Rattle.chem_model.specs.Apply.{can_fall, falls, can_detect, at_location, move_to, move_atom}
use Rattle.chem_model.specs.Apply.{halt_atom, detect_of, detect_atom, with_atom, apply}
use Rattle.chem_model.specs.Sound.{IsSound, IsNameOf, MayStand, IsKnown, IsSettled, IsAtom, IsRule}
use Rattle.chem_model.specs.Sound.{IsRoot}
use Rattle.chem_model.specs.Laws.{IsReduction, EventIsAReduction}
use Rattle.chem_laws.proofs.Lists.{Each-weaker, append_nil, has_some}
use Rattle.chem_laws.proofs.Within.{same_loc_is}
use Rattle.chem_laws.proofs.Stand.{may_stand}
use Rattle.chem_laws.proofs.Parts.{is_named, IsPourable, PourSound, PourReached, beside}
use Rattle.chem_laws.proofs.Places.{live_parts, root_is, known_weaker, place_pair_found}
use Rattle.chem_laws.proofs.Taking.{atom_found, rule_found, rule_stands, bag-without, Each-without}
use Rattle.chem_laws.proofs.Taking.{pairs-without, Each-without_all, pairs-without_all, named_once}
use Rattle.chem_laws.proofs.Taking.{apart, all_received, received_names, ids_differ, gathered}
use Rattle.chem_laws.proofs.Requests.{standing_hosts, standing_marks, host_there, mark_there}
use Rattle.chem_laws.proofs.Requests.{mark_host, moved_live, pairs_hosts, pairs_marks, hosted_hosts}
use Rattle.chem_laws.proofs.Requests.{hosted_marks, name_left, left_sound}

-- a solution with one more process
abbrev pub one_process : Numbered → Loc → Process → Solution
one_process n l p = record (erase n) { procs = one coded_located_process (l, p) ⊕ (erase n).procs }

zero_plus : (k : ℕ) → 0 + k ≡ k
zero_plus k = omega arith

beside_nothing : (n : Numbered) → beside n nothing nothing ≡ erase n
beside_nothing n =
    let same_defs = λ (x : Loc × Definition). zero_plus ((erase n).defs x) in
    let same_procs = λ (x : Loc × Process). zero_plus ((erase n).procs x) in
    λ i. record {
      places = standing n.places;
      defs = λ x. same_defs x i;
      procs = λ x. same_procs x i;
      trace = n.trace;
    }

beside_one : (n : Numbered) (l : Loc) (p : Process)
    → beside n nothing (one coded_located_process (l, p) ⊕ nothing) ≡ one_process n l p
beside_one n l p =
    let same_defs = λ (x : Loc × Definition). zero_plus ((erase n).defs x) in
    let same_procs =
    λ (x : Loc × Process). plus_zero (one coded_located_process (l, p) x) ((erase n).procs x) in
    λ i. record {
      places = standing n.places;
      defs = λ x. same_defs x i;
      procs = λ x. same_procs x i;
      trace = n.trace;
    }
  where
    plus_zero : (j k : ℕ) → (j + 0) + k ≡ j + k
    plus_zero j k = omega arith

fill_none : (r : Ref) → fill_ref [] r ≡ r
fill_none (Binder b) = refl
fill_none (Known x) = refl

-- ---- what can be poured, poured beside nothing else

module _ (pour_sound : PourSound) (pour_reached : PourReached) where
  poured : (n : Numbered) (m : Naming) (l : Loc) (p : Process) → IsSound n → IsPourable n m l p
      → IsReached n.seen (erase (pour_at n m l p)) (one_process n l (fill m p))
  poured n m l p sound pourable =
      let reached = pour_reached n m l p nothing nothing sound pourable (record {
        places = λ a h. sound.below (a.site, a.k) (omega (arith, place_pair_found n.places a h));
        defs = λ x h. absurd (omega arith);
        procs = λ x h. absurd (omega arith);
        trace = tt;
      }) in
      subst (λ (t : Solution). IsReached n.seen t (one_process n l (fill m p)))
      (beside_nothing (pour_at n m l p))
      (subst (IsReached n.seen (beside (pour_at n m l p) nothing nothing))
      (beside_one n l (fill m p)) reached)

  known_in_scope : (Q : Name → Type 0) → ((i : ℕ) → Q (name.Op i) → ⊥) → (p : Position) (k : Ref)
      → IsKnown Q k → IsInScope (MayStand Q p) [] k
  known_in_scope Q apart p (Binder b) h = absurd h
  known_in_scope Q apart p (Known x) h = may_stand Q apart p x h

  -- a continuation can be poured at a live location
  continues : (n : Numbered) (l : Loc) (k : Ref) → live (standing n.places) l ≡ true
      → IsKnown (IsNameOf n) k → IsPourable n [] l (continuation k)
  continues n l k lives h = record {
    scope = [];
    is_live = lives;
    term = (known_in_scope (IsNameOf n) (λ i v. v) (names_message 0) k h, tt, omega arith);
    closes = record { covers = λ b e. cc; names = tt };
    once = λ b. omega arith;
  }

  module _ (n : Numbered) (sound : IsSound n) where
    abbrev pl : Places
    pl = standing n.places

    -- one reduction that leads to m, with the same declared counts and version
    abbrev pub Stepped : Event → Numbered → Type 0
    Stepped e m = IsReduction e n m × (m.seen ≡ n.seen) × (m.version ≡ n.version)

    -- the same locations, and fewer atoms
    fewer_sound : (atoms : List NumberedAtom) → Each (IsAtom n) atoms
        → ((p : Pair) → bag coded_pair (atom_pairs atoms) p ≤ bag coded_pair (atom_pairs n.atoms) p)
        → IsSound (record n { atoms = atoms })
    fewer_sound atoms settled fewer = left_sound n sound n.places atoms (λ l. refl) refl
        (λ i h. (sound.roots i h).1) sound.hosted settled fewer

    -- ---- React

    reacted : (i : RuleId) (r : NumberedRule) (took : List AtomId) (m : Naming)
        → rule_at n.rules i ≡ Some r → live pl r.loc ≡ true
        → received_all n.atoms r.loc r.pats took ≡ Some m
        → Stepped (event.React i took)
        (pour_at (record n { atoms = without_all took n.atoms }) m r.loc r.body)
    reacted i r took m at_rule lives receives =
        let new : Numbered = record n { atoms = without_all took n.atoms } in
        let settled =
        Each-weaker (IsAtom n) (λ (a : NumberedAtom). IsSettled n.seen (IsNameOf n) a.loc a.term)
        (λ a h. h.1) n.atoms sound.atoms in
        let got = all_received (IsNameOf n) n.seen n.atoms r.loc r.pats took m settled receives in
        let new_sound : IsSound new = fewer_sound (without_all took n.atoms)
        (Each-without_all (IsAtom n) took n.atoms sound.atoms) (pairs-without_all took n.atoms) in
        let rule = rule_found (IsRule new) n.rules i r at_rule new_sound.rules in
        let taken = gathered (IsNameOf n) n.atoms r.loc r.pats took m got
        (ids_differ (IsNameOf n) r.pats took m got (apart r.pats rule.is.0.channels)) in
        let names = received_names (IsNameOf n) r.pats took m got in
        let counted : (b : ℕ) → is_named m b ≤ times (params_of r.pats) b =
        λ b. subst (λ t. cond t 1 0 ≤ times (params_of r.pats) b) (sym (names.1 b))
        (named_once (params_of r.pats) b) in
        let pourable : IsPourable new m r.loc r.body = record {
          scope = params_of r.pats ++ [];
          is_live = lives;
          term = rule.is.1;
          closes = record {
            covers = λ b h.
                names.1 b ∙ ap (λ bs. is_among bs b) (sym (append_nil (params_of r.pats))) ∙ h;
            names = names.0;
          };
          once = λ b. omega (arith, counted b, rule.bound_once b);
        } in (
          record {
            sound = pour_sound new m r.loc r.body new_sound pourable;
            middle = one_process new r.loc (fill m r.body);
            acts = record {
              loc = r.loc;
              pats = r.pats;
              body = r.body;
              messages = taken.messages;
              names = m;
              rest = bag coded_located_process (procs_of (without_all took n.atoms));
              is_live = lives;
              rule = rule_stands n.rules i r at_rule;
              meet = taken.meet;
              there = λ j x. taken.split x j;
              after = refl;
            };
            reached = poured new m r.loc r.body new_sound pourable;
          },
          refl,
          refl,
        )

    react_step : (i : RuleId) (took : List AtomId) (m : Numbered)
        → apply n (event.React i took) ≡ Some m → Stepped (event.React i took) m
    react_step i took m e = at_rule (rule_at n.rules i) refl e
      where
        receives : (r : NumberedRule) → rule_at n.rules i ≡ Some r → live pl r.loc ≡ true
            → (t : Option Naming) → received_all n.atoms r.loc r.pats took ≡ t
            → react_received n r took t ≡ Some m → Stepped (event.React i took) m
        receives r c l None d e' = cc
        receives r c l (Some t) d e' =
            let same_m : pour_at (record n { atoms = without_all took n.atoms }) t r.loc r.body
            ≡ m = cc in
            subst (Stepped (event.React i took)) same_m (reacted i r took t c l d)

        lives : (r : NumberedRule) → rule_at n.rules i ≡ Some r → (b : Bool) → live pl r.loc ≡ b
            → cond b (react_received n r took (received_all n.atoms r.loc r.pats took)) None
            ≡ Some m → Stepped (event.React i took) m
        lives r c true l e' = receives r c l (received_all n.atoms r.loc r.pats took) refl e'
        lives r c false l e' = cc

        at_rule : (o : Option NumberedRule) → rule_at n.rules i ≡ o → react_rule n took o ≡ Some m
            → Stepped (event.React i took) m
        at_rule None c e' = cc
        at_rule (Some r) c e' = lives r c (live pl r.loc) refl e'

    -- ---- requests

    -- the request is among the processes, and is settled
    request_there : (i : AtomId) (a : NumberedAtom) (p : Process) → atom_at n.atoms i ≡ Some a
        → a.term ≡ p → (erase n).procs ≡ one coded_located_process (a.loc, p)
        ⊕ bag coded_located_process (procs_of (without i n.atoms))
    request_there i a p c term = λ j x. (bag-without n.atoms i a x c
        ∙ ap (λ (q : Process). one coded_located_process (a.loc, q) x
        + bag coded_located_process (procs_of (without i n.atoms)) x) term) j

    request_settled : (i : AtomId) (a : NumberedAtom) (p : Process) → atom_at n.atoms i ≡ Some a
        → a.term ≡ p → IsSettled n.seen (IsNameOf n) a.loc p
    request_settled i a p c term = subst (IsSettled n.seen (IsNameOf n) a.loc) term
        (atom_found (IsAtom n) n.atoms i a c sound.atoms).1

    none_is : (o : Option Loc) → not (is_some o) ≡ true → o ≡ None
    none_is None e = refl
    none_is (Some h) e = cc

    -- ---- Go and Fall

    -- a location that has a host is no root
    roots_stay : (l b h : Loc) → host_of (pl l) ≡ Some h → (j : ℕ) → j < length n.counts
        → (t : Bool) → same_loc l (root_of j) ≡ t
        → host_of (cond t (with_host b (pl (root_of j))) (pl (root_of j))) ≡ None
    roots_stay l b h e j g true d =
        let hosted : host_of (pl (root_of j)) ≡ Some h =
        ap (λ q. host_of (pl q)) (sym (same_loc_is l (root_of j) d)) ∙ e in
        let free = (sound.roots j g).1 in cc
    roots_stay l b h e j g false d = (sound.roots j g).1

    moved : (i : AtomId) (a : NumberedAtom) (b : Loc) (k : Ref) → atom_at n.atoms i ≡ Some a
        → a.term ≡ Go (Known (name.Place b)) k → can_go n a.loc b ≡ true
        → Stepped (event.Move i)
        (pour_at (record n { places = with_hosts a.loc b n.places; atoms = without i n.atoms }) []
        a.loc (continuation k))
    moved i a b k c term can =
        let l = a.loc in
        let new : Numbered =
        record n { places = with_hosts l b n.places; atoms = without i n.atoms } in
        let sides = and_parts (live pl l && is_some (host_of (pl l)))
        (live pl b && not (is_some (host_of (pl b)))) can in
        let from = and_parts (live pl l) (is_some (host_of (pl l))) sides.0 in
        let to = and_parts (live pl b) (not (is_some (host_of (pl b)))) sides.1 in
        let host = has_some (host_of (pl l)) from.1 in
        let no_host = none_is (host_of (pl b)) to.1 in
        let settled = request_settled i a (Go (Known (name.Place b)) k) c term in
        let map_is : standing new.places ≡ rehosted pl l b =
        λ j x. standing_hosts n.places l b x j in
        let there : (x : Loc) → is_there (standing new.places x) ≡ is_there (pl x) =
        λ x. ap is_there (standing_hosts n.places l b x) ∙ host_there (pl x) b (same_loc l x) in
        let root_b : IsRoot n b = subst (λ o. IsRoot n (or_itself o b)) no_host
        (root_is n sound b (live_parts pl b to.0).0).0 in
        let new_sound : IsSound new = left_sound n sound new.places new.atoms there
        (pairs_hosts n.places l b) (λ j h. ap host_of (standing_hosts n.places l b (root_of j))
        ∙ roots_stay l b host.0 host.1 j h (same_loc l (root_of j)) refl)
        (hosted_hosts n n.places l b root_b sound.hosted)
        (Each-without (IsAtom n) i n.atoms sound.atoms) (pairs-without i n.atoms) in
        let lives : live (standing new.places) l ≡ true =
        subst (λ (f : Places). live f l ≡ true) (sym map_is) (moved_live pl l b from.0 to.0) in
        let pourable = continues new l k lives (known_weaker (IsNameOf n) (IsNameOf new)
        (name_left n sound new.places new.atoms there) k settled.1) in (
          record {
            sound = pour_sound new [] l (continuation k) new_sound pourable;
            middle = one_process new l (fill [] (continuation k));
            acts = inl (record {
              loc = l;
              host = host.0;
              target = b;
              cont = k;
              rest = bag coded_located_process (procs_of new.atoms);
              is_live = from.0;
              hosted = host.1;
              target_live = to.0;
              target_root = no_host;
              there = request_there i a (Go (Known (name.Place b)) k) c term;
              after = λ j. record {
                places = map_is j;
                defs = (erase n).defs;
                procs = one coded_located_process (l, Msg (fill_none k j) [])
                    ⊕ bag coded_located_process (procs_of new.atoms);
                trace = n.trace;
              };
            });
            reached = poured new [] l (continuation k) new_sound pourable;
          },
          refl,
          refl,
        )

    -- what a request to go to a dead root does
    abbrev fell_to : AtomId → Loc → Loc → Numbered
    fell_to i l b = record n { places = with_hosts l b n.places; atoms = without i n.atoms }

    fell : (i : AtomId) (a : NumberedAtom) (b : Loc) (k : Ref) → atom_at n.atoms i ≡ Some a
        → a.term ≡ Go (Known (name.Place b)) k → falls n a.loc b ≡ true
        → Stepped (event.Move i) (fell_to i a.loc b)
    fell i a b k c term can =
        let l = a.loc in
        let new = fell_to i l b in
        let both = and_parts (n.version == 2) (can_fall n l b) can in
        let sides = and_parts (live pl l && is_some (host_of (pl l)))
        ((is_there (pl b) && dead pl b) && not (is_some (host_of (pl b)))) both.1 in
        let from = and_parts (live pl l) (is_some (host_of (pl l))) sides.0 in
        let to =
        and_parts (is_there (pl b) && dead pl b) (not (is_some (host_of (pl b)))) sides.1 in
        let target = and_parts (is_there (pl b)) (dead pl b) to.0 in
        let host = has_some (host_of (pl l)) from.1 in
        let no_host = none_is (host_of (pl b)) to.1 in
        let map_is : standing new.places ≡ rehosted pl l b =
        λ j x. standing_hosts n.places l b x j in
        let there : (x : Loc) → is_there (standing new.places x) ≡ is_there (pl x) =
        λ x. ap is_there (standing_hosts n.places l b x) ∙ host_there (pl x) b (same_loc l x) in
        let root_b : IsRoot n b =
        subst (λ o. IsRoot n (or_itself o b)) no_host (root_is n sound b target.0).0 in (
          record {
            sound = left_sound n sound new.places new.atoms there (pairs_hosts n.places l b)
                (λ j h. ap host_of (standing_hosts n.places l b (root_of j))
                ∙ roots_stay l b host.0 host.1 j h (same_loc l (root_of j)) refl)
                (hosted_hosts n n.places l b root_b sound.hosted)
                (Each-without (IsAtom n) i n.atoms sound.atoms) (pairs-without i n.atoms);
            middle = erase new;
            acts = inr (record {
              second = eqb-true n.version 2 both.0;
              loc = l;
              host = host.0;
              target = b;
              cont = k;
              rest = bag coded_located_process (procs_of new.atoms);
              is_live = from.0;
              hosted = host.1;
              target_there = target.0;
              target_dead = target.1;
              target_root = no_host;
              there = request_there i a (Go (Known (name.Place b)) k) c term;
              after = λ j. record {
                places = map_is j;
                defs = (erase n).defs;
                procs = bag coded_located_process (procs_of new.atoms);
                trace = n.trace;
              };
            });
            reached = stays;
          },
          refl,
          refl,
        )

    move_step : (i : AtomId) (m : Numbered) → apply n (event.Move i) ≡ Some m
        → Stepped (event.Move i) m
    move_step i m e = at_atom (atom_at n.atoms i) refl e
      where
        sinks : (a : NumberedAtom) (b : Loc) (k : Ref) → atom_at n.atoms i ≡ Some a
            → a.term ≡ Go (Known (name.Place b)) k → (t : Bool) → falls n a.loc b ≡ t
            → cond t (Some (fell_to i a.loc b)) None ≡ Some m → Stepped (event.Move i) m
        sinks a b k c d true can e' =
            let same_m : fell_to i a.loc b ≡ m = cc in
            subst (Stepped (event.Move i)) same_m (fell i a b k c d can)
        sinks a b k c d false can e' = cc

        goes : (a : NumberedAtom) (b : Loc) (k : Ref) → atom_at n.atoms i ≡ Some a
            → a.term ≡ Go (Known (name.Place b)) k → (t : Bool) → can_go n a.loc b ≡ t
            → cond t (Some (pour_at (fell_to i a.loc b) [] a.loc (continuation k)))
            (cond (falls n a.loc b) (Some (fell_to i a.loc b)) None) ≡ Some m
            → Stepped (event.Move i) m
        goes a b k c d true can e' =
            let same_m : pour_at (fell_to i a.loc b) [] a.loc (continuation k) ≡ m = cc in
            subst (Stepped (event.Move i)) same_m (moved i a b k c d can)
        goes a b k c d false can e' = sinks a b k c d (falls n a.loc b) refl e'

        at_target : (a : NumberedAtom) (b k : Ref) → atom_at n.atoms i ≡ Some a → a.term ≡ Go b k
            → at_location b (move_to n i a.loc k) ≡ Some m → Stepped (event.Move i) m
        at_target a (Binder b) k c d e' = cc
        at_target a (Known (name.Seen b)) k c d e' = cc
        at_target a (Known (name.Place b)) k c d e' = goes a b k c d (can_go n a.loc b) refl e'
        at_target a (Known (name.Chan s j h)) k c d e' = cc
        at_target a (Known (name.Num j)) k c d e' = cc
        at_target a (Known (name.Op j)) k c d e' = cc

        at_term : (a : NumberedAtom) (p : Process) → atom_at n.atoms i ≡ Some a → a.term ≡ p
            → move_atom n i a.loc p ≡ Some m → Stepped (event.Move i) m
        at_term a (Go b k) c d e' = at_target a b k c d e'
        at_term a (Msg x vs) c d e' = cc
        at_term a (Par ps) c d e' = cc
        at_term a (Def ds p) c d e' = cc
        at_term a (Fail b k) c d e' = cc
        at_term a Halt c d e' = cc

        at_atom : (o : Option NumberedAtom) → atom_at n.atoms i ≡ o
            → with_atom o (move_atom n i) ≡ Some m → Stepped (event.Move i) m
        at_atom None c e' = cc
        at_atom (Some a) c e' = at_term a a.term c refl e'

    -- ---- Halt

    halted : (i : AtomId) (a : NumberedAtom) → atom_at n.atoms i ≡ Some a → a.term ≡ Halt
        → live pl a.loc ≡ true
        → Stepped (event.Halt i)
        (record n { places = with_marks a.loc n.places; atoms = without i n.atoms })
    halted i a c term lives =
        let l = a.loc in
        let new : Numbered =
        record n { places = with_marks l n.places; atoms = without i n.atoms } in
        let map_is : standing new.places ≡ marked pl l = λ j x. standing_marks n.places l x j in
        let there : (x : Loc) → is_there (standing new.places x) ≡ is_there (pl x) =
        λ x. ap is_there (standing_marks n.places l x) ∙ mark_there (pl x) (same_loc l x) in (
          record {
            sound = left_sound n sound new.places new.atoms there (pairs_marks n.places l)
                (λ j h. ap host_of (standing_marks n.places l (root_of j))
                ∙ mark_host (pl (root_of j)) (same_loc l (root_of j)) ∙ (sound.roots j h).1)
                (hosted_marks n n.places l sound.hosted)
                (Each-without (IsAtom n) i n.atoms sound.atoms) (pairs-without i n.atoms);
            middle = erase new;
            acts = record {
              loc = l;
              rest = bag coded_located_process (procs_of new.atoms);
              is_live = lives;
              there = request_there i a Halt c term;
              after = λ j. record {
                places = map_is j;
                defs = (erase n).defs;
                procs = bag coded_located_process (procs_of new.atoms);
                trace = n.trace;
              };
            };
            reached = stays;
          },
          refl,
          refl,
        )

    halt_step : (i : AtomId) (m : Numbered) → apply n (event.Halt i) ≡ Some m
        → Stepped (event.Halt i) m
    halt_step i m e = at_atom (atom_at n.atoms i) refl e
      where
        halts : (a : NumberedAtom) → atom_at n.atoms i ≡ Some a → a.term ≡ Halt → (t : Bool)
            → live pl a.loc ≡ t
            → cond t
            (Some (record n { places = with_marks a.loc n.places; atoms = without i n.atoms })) None
            ≡ Some m → Stepped (event.Halt i) m
        halts a c d true lives e' =
            let same_m : record n { places = with_marks a.loc n.places; atoms = without i n.atoms }
            ≡ m = cc in
            subst (Stepped (event.Halt i)) same_m (halted i a c d lives)
        halts a c d false lives e' = cc

        at_term : (a : NumberedAtom) (p : Process) → atom_at n.atoms i ≡ Some a → a.term ≡ p
            → halt_atom n i a.loc p ≡ Some m → Stepped (event.Halt i) m
        at_term a Halt c d e' = halts a c d (live pl a.loc) refl e'
        at_term a (Msg x vs) c d e' = cc
        at_term a (Par ps) c d e' = cc
        at_term a (Def ds p) c d e' = cc
        at_term a (Go b k) c d e' = cc
        at_term a (Fail b k) c d e' = cc

        at_atom : (o : Option NumberedAtom) → atom_at n.atoms i ≡ o
            → with_atom o (halt_atom n i) ≡ Some m → Stepped (event.Halt i) m
        at_atom None c e' = cc
        at_atom (Some a) c e' = at_term a a.term c refl e'

    -- ---- Detect

    detected : (i : AtomId) (a : NumberedAtom) (b : Loc) (k : Ref) → atom_at n.atoms i ≡ Some a
        → a.term ≡ Fail (Known (name.Place b)) k → can_detect n a.loc b ≡ true
        → Stepped (event.Detect i)
        (pour_at (record n { atoms = without i n.atoms }) [] a.loc (continuation k))
    detected i a b k c term can =
        let l = a.loc in
        let new : Numbered = record n { atoms = without i n.atoms } in
        let sides = and_parts (live pl l) (is_there (pl b) && dead pl b) can in
        let target = and_parts (is_there (pl b)) (dead pl b) sides.1 in
        let settled = request_settled i a (Fail (Known (name.Place b)) k) c term in
        let new_sound : IsSound new = fewer_sound (without i n.atoms)
        (Each-without (IsAtom n) i n.atoms sound.atoms) (pairs-without i n.atoms) in
        let pourable = continues new l k sides.0 settled.1 in (
          record {
            sound = pour_sound new [] l (continuation k) new_sound pourable;
            middle = one_process new l (fill [] (continuation k));
            acts = record {
              loc = l;
              target = b;
              cont = k;
              rest = bag coded_located_process (procs_of new.atoms);
              is_live = sides.0;
              target_there = target.0;
              target_dead = target.1;
              there = request_there i a (Fail (Known (name.Place b)) k) c term;
              after = λ j. record {
                places = pl;
                defs = (erase n).defs;
                procs = one coded_located_process (l, Msg (fill_none k j) [])
                    ⊕ bag coded_located_process (procs_of new.atoms);
                trace = n.trace;
              };
            };
            reached = poured new [] l (continuation k) new_sound pourable;
          },
          refl,
          refl,
        )

    detect_step : (i : AtomId) (m : Numbered) → apply n (event.Detect i) ≡ Some m
        → Stepped (event.Detect i) m
    detect_step i m e = at_atom (atom_at n.atoms i) refl e
      where
        detects : (a : NumberedAtom) (b : Loc) (k : Ref) → atom_at n.atoms i ≡ Some a
            → a.term ≡ Fail (Known (name.Place b)) k → (t : Bool) → can_detect n a.loc b ≡ t
            → cond t
            (Some (pour_at (record n { atoms = without i n.atoms }) [] a.loc (continuation k))) None
            ≡ Some m → Stepped (event.Detect i) m
        detects a b k c d true can e' =
            let same_m : pour_at (record n { atoms = without i n.atoms }) [] a.loc (continuation k)
            ≡ m = cc in
            subst (Stepped (event.Detect i)) same_m (detected i a b k c d can)
        detects a b k c d false can e' = cc

        at_target : (a : NumberedAtom) (b k : Ref) → atom_at n.atoms i ≡ Some a → a.term ≡ Fail b k
            → at_location b (detect_of n i a.loc k) ≡ Some m → Stepped (event.Detect i) m
        at_target a (Binder b) k c d e' = cc
        at_target a (Known (name.Seen b)) k c d e' = cc
        at_target a (Known (name.Place b)) k c d e' =
            detects a b k c d (can_detect n a.loc b) refl e'
        at_target a (Known (name.Chan s j h)) k c d e' = cc
        at_target a (Known (name.Num j)) k c d e' = cc
        at_target a (Known (name.Op j)) k c d e' = cc

        at_term : (a : NumberedAtom) (p : Process) → atom_at n.atoms i ≡ Some a → a.term ≡ p
            → detect_atom n i a.loc p ≡ Some m → Stepped (event.Detect i) m
        at_term a (Fail b k) c d e' = at_target a b k c d e'
        at_term a (Msg x vs) c d e' = cc
        at_term a (Par ps) c d e' = cc
        at_term a (Def ds p) c d e' = cc
        at_term a (Go b k) c d e' = cc
        at_term a Halt c d e' = cc

        at_atom : (o : Option NumberedAtom) → atom_at n.atoms i ≡ o
            → with_atom o (detect_atom n i) ≡ Some m → Stepped (event.Detect i) m
        at_atom None c e' = cc
        at_atom (Some a) c e' = at_term a a.term c refl e'

  -- ---- each event

  pub event_step : (n m : Numbered) (e : Event) → IsSound n → apply n e ≡ Some m
      → IsReduction e n m × (m.seen ≡ n.seen) × (m.version ≡ n.version)
  event_step n m (event.React i took) sound e = react_step n sound i took m e
  event_step n m (event.Move i) sound e = move_step n sound i m e
  event_step n m (event.Halt i) sound e = halt_step n sound i m e
  event_step n m (event.Detect i) sound e = detect_step n sound i m e

  pub event_is_a_reduction : EventIsAReduction
  event_is_a_reduction n m e sound applies = (event_step n m e sound applies).0
