-- What a book's store keeps stays right where an event is made.
use Rattle.std.proofs.Common.{◌≡◌, ℕ, ◌⊎◌, List, [], ◌∷◌, ◌++◌, Some, None, true, false, sym, ◌∙◌}
use Rattle.std.proofs.Common.{subst, inl, inr, not, ◌&&◌, ◌==◌, arith, zero, suc}
use Rattle.std.proofs.lemmas.Bool.{and_parts}
use Rattle.std.specs.Prelude.{slice_index}
use Rattle.chem_model.specs.declared.name.Loc.{Loc}
use Rattle.chem_model.specs.declared.name.Name.TheVariants as name
use Rattle.chem_model.specs.declared.name.Ref.{Ref}
use Rattle.chem_model.specs.declared.name.Ref.TheVariants.{Binder, Known}
use Rattle.chem_model.specs.declared.event.AtomId.{AtomId}
use Rattle.chem_model.specs.declared.event.RuleId.{RuleId}
use Rattle.chem_model.specs.declared.event.Event.TheVariants as event
use Rattle.chem_model.specs.declared.numbered.NumberedRule.{NumberedRule}
use Rattle.chem_model.specs.declared.numbered.NumberedAtom.{NumberedAtom}
use Rattle.chem_model.specs.declared.numbered.Numbered.{Numbered}
use Rattle.chem_model.specs.Process.{Process, Msg, Par, Def, Go, Fail, Halt}
use Rattle.chem_model.specs.Each.{Each, IsIn}
use Rattle.chem_model.specs.Fill.{Naming}
use Rattle.chem_model.specs.Solution.{Places, is_there, root, dead, live, rehosted, marked}
use Rattle.chem_model.specs.Reduction.{continuation}
use Rattle.chem_model.specs.Numbered.{standing}
use Rattle.chem_model.specs.Pour.{pour, pour_at}
use Rattle.chem_model.specs.Apply.{atom_at, with_hosts, with_marks, can_go, can_fall, falls, moved}
use Rattle.chem_model.specs.Sound.{IsSound, IsNameOf, IsAtom, IsRule, IsSettled}
use Rattle.chem_laws.proofs.Lists.{Each-left}
use Rattle.chem_laws.proofs.Places.{standing_left, live_parts, root_is}
use Rattle.chem_laws.proofs.Requests.{standing_hosts, standing_marks, moved_live}
use Rattle.chem_laws.proofs.FramedKept.{rule_there}
use Rattle.book_store.specs.Older.{whole}
use Rattle.book_store.specs.Watched.{IsAt, AreWatched, no_number}
use Rattle.book_store.specs.Candidates.{AreAtSite}
use Rattle.book_store.specs.Asked.{goal, awaited, has_host, AreAsked, AreCalled}
use Rattle.book_store.specs.Stored.{IsStored, IsStoredAfter, IsSent, move_of, halt_of}
use Rattle.book_store.specs.declared.store.Store.{Store}
use Rattle.book_store.proofs.Changes.{RootsAreThere, Grows, moved_there, moved_roots}
use Rattle.book_store.proofs.Lasting.{grown_watched, moved_watched, marked_watched, grown_asked}
use Rattle.book_store.proofs.Lasting.{moved_asked, marked_asked}
use Rattle.book_store.proofs.AppliesLaws.{halted, react_case, detect_case, move_case, halt_case}
use Rattle.book_store.proofs.AppliesLaws.{no_move, no_mover, no_halter}

-- ---- what a store keeps of locations and rules, and that they are there

record Keeping (version : ℕ) (pl : Places) (laid : List NumberedRule) (s : Store) : Type 0 where
  watched : AreWatched no_number pl s.older.keys.keys s.waiting laid
  asked : AreAsked version pl s.asking s.older.table

record AllThere (pl : Places) (laid : List NumberedRule) (old : List NumberedAtom) : Type 0 where
  roots : RootsAreThere pl
  of_rules : (j : ℕ) (r : NumberedRule) → IsAt laid j r → is_there (pl r.loc) ≡ true
  of_atoms : (a : NumberedAtom) → IsIn a old → is_there (pl a.loc) ≡ true
  of_targets : (a : NumberedAtom) (t : Loc) → IsIn a old → awaited a.term ≡ Some t
      → is_there (pl t) ≡ true

-- ---- soundness tells that they are there

each_in : {X : Type 0} (P : X → Type 0) (x : X) (xs : List X) → Each P xs → IsIn x xs → P x
each_in P x [] h at = absurd at
each_in P x (y ∷ xs) h (inl e) = subst P (sym e) h.0
each_in P x (y ∷ xs) h (inr at) = each_in P x xs h.1 at

each_at : {X : Type 0} (P : X → Type 0) (xs : List X) (j : ℕ) (x : X) → Each P xs → IsAt xs j x
    → P x
each_at P [] j x h at = absurd (omega (arith, at.0))
each_at P (y ∷ xs) zero x h at = subst P (sym at.1) h.0
each_at P (y ∷ xs) (suc j) x h at = each_at P xs j x h.1 (omega (arith, at.0), at.1)

-- the location whose failure a settled request waits for is there
target_there : (n : Numbered) (l t : Loc) (q : Process) → IsSettled n.seen (IsNameOf n) l q
    → awaited q ≡ Some t → is_there (standing n.places t) ≡ true
target_there n l t (Fail (Known (name.Place a)) k) h e =
    let same : a ≡ t = cc in
    subst (λ (x : Loc). is_there (standing n.places x) ≡ true) same h.0
target_there n l t (Fail (Binder b) k) h e = cc
target_there n l t (Fail (Known (name.Seen i)) k) h e = cc
target_there n l t (Fail (Known (name.Chan s j g)) k) h e = cc
target_there n l t (Fail (Known (name.Num i)) k) h e = cc
target_there n l t (Fail (Known (name.Op i)) k) h e = cc
target_there n l t (Msg x vs) h e = cc
target_there n l t (Par ps) h e = cc
target_there n l t (Def ds p) h e = cc
target_there n l t (Go b k) h e = cc
target_there n l t Halt h e = cc

there_by : (n : Numbered) (old : List NumberedAtom) → IsSound (whole old n)
    → AllThere (standing n.places) n.rules old
there_by n old sound = record {
  roots = λ l there. (root_is all sound l there).1;
  of_rules = λ j r at. rule_there all r (each_at (IsRule all) n.rules j r sound.rules at);
  of_atoms = λ a at. (each_in (IsAtom all) a old atoms at).0;
  of_targets = λ a t at e.
      target_there all a.loc t a.term (each_in (IsAtom all) a old atoms at).1 e;
}
  where
    all : Numbered
    all = whole old n

    atoms : Each (IsAtom all) old
    atoms = Each-left (IsAtom all) old n.atoms sound.atoms

-- ---- where something is poured

poured : (left : Numbered) (s : Store) (m : Naming) (l : Loc) (p : Process)
    → AllThere (standing left.places) left.rules s.older.table
    → Keeping left.version (standing left.places) left.rules s → IsStored (pour_at left m l p) s
poured left s m l p there h =
    let r = root (standing left.places) l in
    let made = pour left.seen r.site r m l (slice_index left.counts r.site) p in
    let pl = standing left.places in
    let new = standing (left.places ++ made.births) in
    let grows : Grows pl new = λ q is. standing_left left.places made.births q is in
    record {
      watched = grown_watched no_number pl new s.older.keys.keys s.waiting left.rules made.rules
          there.roots grows there.of_rules h.watched;
      asked = grown_asked left.version pl new s.asking s.older.table there.roots grows
          there.of_atoms there.of_targets h.asked;
    }

keeping : (n : Numbered) (s : Store) → IsStored n s
    → Keeping n.version (standing n.places) n.rules s
keeping n s h = record { watched = h.watched; asked = h.asked }

-- ---- reactions and detections

module _ (n : Numbered) (s : Store) (sound : IsSound (whole s.older.table n)) where
  pours : IsStored n s → (atoms : List NumberedAtom) (k : Naming) (l : Loc) (p : Process)
      → IsStored (pour_at (record n { atoms = atoms }) k l p) s
  pours h atoms k l p =
      poured (record n { atoms = atoms }) s k l p (there_by n s.older.table sound) (keeping n s h)

  pub after_react : (i : RuleId) (took : List AtomId) → IsStored n s
      → IsStoredAfter n (event.React i took) s
  after_react i took h = λ m e. react_case n m (λ (x : Numbered). IsStored x s) i took (pours h) e

  pub after_detect : (i : AtomId) → IsStored n s → IsStoredAfter n (event.Detect i) s
  after_detect i h = λ m e. detect_case n m (λ (x : Numbered). IsStored x s) i (pours h) e

  -- ---- moves

  moved_keeping : (l b : Loc) → live (standing n.places) l ≡ true
      → has_host (standing n.places) l ≡ true → AreAtSite s.waiting.ready l b.site
      → AreAtSite s.asking.ready l b.site
      → (dead (rehosted (standing n.places) l b) l ≡ false)
      ⊎ AreCalled n.version (standing n.places) s.asking l s.older.table
      → IsStored n s → Keeping n.version (rehosted (standing n.places) l b) n.rules s
  moved_keeping l b alive has rules_sent sent falling h = record {
    watched = moved_watched no_number (standing n.places) l b s.older.keys.keys s.waiting n.rules
        alive has rules_sent h.watched;
    asked = moved_asked n.version (standing n.places) l b s.asking s.older.table alive has sent
        falling h.asked;
  }

  moved_standing : (l b : Loc) → is_there (standing n.places b) ≡ true
      → AllThere (rehosted (standing n.places) l b) n.rules s.older.table
  moved_standing l b target =
      let pl = standing n.places in
      let there = there_by n s.older.table sound in
      record {
        roots = moved_roots pl l b target there.roots;
        of_rules = λ j r at. moved_there pl l b r.loc ∙ there.of_rules j r at;
        of_atoms = λ a at. moved_there pl l b a.loc ∙ there.of_atoms a at;
        of_targets = λ a t at e. moved_there pl l b t ∙ there.of_targets a t at e;
      }

  map_of : (l b : Loc) → standing (with_hosts l b n.places) ≡ rehosted (standing n.places) l b
  map_of l b = λ j x. standing_hosts n.places l b x j

  -- to a live root, where the continuation is poured
  gone_to : (i : AtomId) (l b : Loc) (k : Ref) → IsSent n s l b → IsStored n s → can_go n l b ≡ true
      → IsStored (pour_at (moved n i l b) [] l (continuation k)) s
  gone_to i l b k sent h can =
      let pl = standing n.places in
      let sides = and_parts (live pl l && has_host pl l) (live pl b && not (has_host pl b)) can in
      let from = and_parts (live pl l) (has_host pl l) sides.0 in
      let to = and_parts (live pl b) (not (has_host pl b)) sides.1 in
      let lives = (live_parts (rehosted pl l b) l (moved_live pl l b from.0 to.0)).1 in
      let back = sym (map_of l b) in
      poured (moved n i l b) s [] l (continuation k)
      (subst (λ (x : Places). AllThere x n.rules s.older.table) back
      (moved_standing l b (live_parts pl b to.0).0))
      (subst (λ (x : Places). Keeping n.version x n.rules s) back
      (moved_keeping l b from.0 from.1 sent.rules sent.requests (inl lives) h))

  -- to a dead one
  fallen : (i : AtomId) (l b : Loc) → IsSent n s l b → IsStored n s → falls n l b ≡ true
      → IsStored (moved n i l b) s
  fallen i l b sent h can =
      let pl = standing n.places in
      let both = and_parts (n.version == 2) (can_fall n l b) can in
      let sides = and_parts (live pl l && has_host pl l)
      ((is_there (pl b) && dead pl b) && not (has_host pl b)) both.1 in
      let from = and_parts (live pl l) (has_host pl l) sides.0 in
      let kept = subst (λ (x : Places). Keeping n.version x n.rules s) (sym (map_of l b))
      (moved_keeping l b from.0 from.1 sent.rules sent.requests (inr (sent.called can)) h) in
      record { watched = kept.watched; asked = kept.asked }

  pub after_move : (i : AtomId) (a : NumberedAtom) (b : Loc) → atom_at n.atoms i ≡ Some a
      → goal a.term ≡ Some b → IsSent n s a.loc b → IsStored n s → IsStoredAfter n (move_of i) s
  after_move i a b found leads sent h = λ m e.
      move_case n m (λ (x : Numbered). IsStored x s) i a b found leads (record {
        goes = λ k can. gone_to i a.loc b k sent h can;
        sinks = λ can. fallen i a.loc b sent h can;
      }) e

  pub after_no_goal : (i : AtomId) (a : NumberedAtom) → atom_at n.atoms i ≡ Some a
      → goal a.term ≡ None → IsStoredAfter n (move_of i) s
  after_no_goal i a found leads = λ m e. absurd (no_move n m i a found leads e)

  pub after_no_mover : (i : AtomId) → atom_at n.atoms i ≡ None → IsStoredAfter n (move_of i) s
  after_no_mover i gone = λ m e. absurd (no_mover n m i gone e)

  -- ---- halts

  map_with : (l : Loc) → standing (with_marks l n.places) ≡ marked (standing n.places) l
  map_with l = λ j x. standing_marks n.places l x j

  stopped : (i : AtomId) (l : Loc)
      → AreCalled n.version (standing n.places) s.asking l s.older.table → IsStored n s
      → IsStored (halted n i l) s
  stopped i l called h =
      let pl = standing n.places in
      let back = sym (map_with l) in
      record {
        watched = subst
            (λ (x : Places). AreWatched no_number x s.older.keys.keys s.waiting n.rules) back
            (marked_watched no_number pl l s.older.keys.keys s.waiting n.rules h.watched);
        asked = subst (λ (x : Places). AreAsked n.version x s.asking s.older.table) back
            (marked_asked n.version pl l s.asking s.older.table called);
      }

  pub after_halt : (i : AtomId) (a : NumberedAtom) → atom_at n.atoms i ≡ Some a
      → AreCalled n.version (standing n.places) s.asking a.loc s.older.table → IsStored n s
      → IsStoredAfter n (halt_of i) s
  after_halt i a found called h = λ m e.
      halt_case n m (λ (x : Numbered). IsStored x s) i a found (stopped i a.loc called h) e

  pub after_no_halter : (i : AtomId) → atom_at n.atoms i ≡ None → IsStoredAfter n (halt_of i) s
  after_no_halter i gone = λ m e. absurd (no_halter n m i gone e)
