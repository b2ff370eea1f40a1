-- The tables by which causes are found, filled step by step.
use Rattle.std.proofs.Common.{◌≡◌, ℕ, zero, suc, ◌+◌, ◌<◌, List, [], ◌∷◌, ◌++◌, Option, Some, None}
use Rattle.std.proofs.Common.{Bool, true, false, cond, refl, ap, sym, ◌∙◌, subst, arith, ◌&&◌, ◌||◌}
use Rattle.std.proofs.Common.{inl, inr, length, take, get_or, add-one}
use Rattle.std.proofs.lemmas.Bool.{false≢true, and_parts}
use Rattle.std.proofs.Math.Seq.{take-suc}
use Rattle.std.specs.List.{list_any, list_all}
use Rattle.chem_model.specs.declared.name.Name.TheVariants as name
use Rattle.chem_model.specs.declared.name.Ref.{Ref}
use Rattle.chem_model.specs.declared.name.Ref.TheVariants.{Binder, Known}
use Rattle.chem_model.specs.declared.name.Loc.{Loc}
use Rattle.chem_model.specs.declared.name.Pat.{Pat}
use Rattle.chem_model.specs.declared.event.AtomId.{AtomId}
use Rattle.chem_model.specs.declared.numbered.NumberedRule.{NumberedRule}
use Rattle.chem_model.specs.declared.numbered.NumberedAtom.{NumberedAtom}
use Rattle.chem_model.specs.declared.numbered.Numbered.{Numbered}
use Rattle.chem_model.specs.Each.{Each, IsIn}
use Rattle.chem_model.specs.Solution.{live}
use Rattle.chem_model.specs.Numbered.{standing}
use Rattle.chem_model.specs.Apply.{same_atom, atom_at, same_ref}
use Rattle.chem_model.specs.Sound.{IsSound, IsRule, IsKnown, IsHomedAt, IsNameOf}
use Rattle.chem_laws.proofs.Taking.{same_atom_is, same_ref_is}
use Rattle.chem_causes.specs.declared.cause.Left.{Left}
use Rattle.chem_causes.specs.Cause.{IsChannel, has_pattern, waits_for}
use Rattle.chem_causes.specs.Ready.{is_ready, takes_up, is_taken_up}
use Rattle.chem_causes.specs.Channels.{Key, has, key_of}
use Rattle.chem_causes.specs.Decided.{HasMessages, ChannelsTellWhatIsMet}
use Rattle.chem_causes.specs.Lefts.{left_at, Files, IsRising}
use Rattle.chem_causes.proofs.KeyLaws.{has_none}
use Rattle.std.specs.Prelude.{Result, Ok, Err, IfOk}
use Rattle.std.proofs.lemmas.List.{append_assoc}
use Rattle.chem_model.specs.declared.memory.Memory.{Memory}
use Rattle.chem_model.specs.declared.numbered.Placed.{Placed}
use Rattle.chem_causes.proofs.Readiness.{some_one}
use Rattle.book_store.specs.Older.{whole}
use Rattle.trace_history.specs.inside.Causes.{found_up, AreFound, AreSorted, CoveredAt, Covers}
use Rattle.trace_history.specs.Left.{IsLeft, IsLeftAt, AreLeft}
use Rattle.chem_commit.specs.inside.Differ.{AtomsDiffer}
use Rattle.book_store.proofs.ByNumber.{member_found}

-- ---- rules

any_same : {X : Type 0} (t u : X → Bool) (xs : List X) → ((x : X) → IsIn x xs → t x ≡ u x)
    → list_any t xs ≡ list_any u xs
any_same t u [] h = refl
any_same t u (x ∷ xs) h = ap (λ b. b || list_any t xs) (h x (inl refl))
    ∙ ap (λ b. u x || b) (any_same t u xs (λ y at. h y (inr at)))

-- where the channels are those that have a message, what is found is what is ready
pub sorted_by : ChannelsTellWhatIsMet → (n : Numbered) → IsSound n → (met : List Key)
    → HasMessages n.atoms met → (waited ready : List Key) → AreFound met n waited ready
    → AreSorted n waited ready
sorted_by law n sound met all waited ready f = record {
  waits = f.waits;
  takes = λ x ch c. f.takes x ch c
      ∙ any_same (found_up met n x c) (takes_up n x c) n.rules
      (λ r at. ap (λ t. list_any (waits_for x c) r.pats && (live (standing n.places) r.loc && t))
      (law n sound met all r at));
}

-- ---- another name than a channel

each_in : {X : Type 0} (P : X → Type 0) (xs : List X) (x : X) → IsIn x xs → Each P xs → P x
each_in P [] x at h = absurd at
each_in P (y ∷ xs) x (inl e) h = subst P (sym e) h.0
each_in P (y ∷ xs) x (inr at) h = each_in P xs x at h.1

homed : (l : Loc) (x : Ref) → IsKnown (IsHomedAt l) x → IsChannel x
homed l (Binder b) h = h
homed l (Known (name.Seen i)) h = h
homed l (Known (name.Place a)) h = h
homed l (Known (name.Chan s k e)) h = tt
homed l (Known (name.Num i)) h = h
homed l (Known (name.Op i)) h = h

pub no_pattern : (n : Numbered) → IsSound n → (x : Ref) → (IsChannel x → ⊥) → (c : ℕ)
    → has_pattern n.rules x c ≡ false
no_pattern n sound x none c = go (has_pattern n.rules x c) refl
  where
    go : (t : Bool) → has_pattern n.rules x c ≡ t → has_pattern n.rules x c ≡ false
    go false e = e
    go true e =
        let one = some_one (λ (r : NumberedRule). list_any (waits_for x c) r.pats) n.rules e in
        let two = some_one (waits_for x c) one.0.pats one.2 in
        let on : two.0.on ≡ x =
        same_ref_is two.0.on x (and_parts (same_ref two.0.on x) _ two.2).0 in
        let rule : IsRule n one.0 = each_in (IsRule n) n.rules one.0 one.1 sound.rules in
        let home =
        (each_in (λ (p : Pat). IsKnown (IsNameOf n) p.on × IsKnown (IsHomedAt one.0.loc) p.on)
        one.0.pats two.0 two.1 rule.channels).1 in
        absurd (none (subst IsChannel on (homed one.0.loc two.0.on home)))

either : (a b t u : Bool) → (a && b) || t ≡ true → (t ≡ true → u ≡ true) → a || u ≡ true
either true b t u h k = refl
either false b t u h k = k h

pub none_takes : (n : Numbered) (x : Ref) (c : ℕ) → has_pattern n.rules x c ≡ false
    → is_taken_up n x c ≡ false
none_takes n x c none = go (is_taken_up n x c) refl
  where
    later : (rules : List NumberedRule) → list_any (takes_up n x c) rules ≡ true
        → has_pattern rules x c ≡ true
    later [] h = h
    later (r ∷ rules) h = either (list_any (waits_for x c) r.pats) (is_ready n r)
        (list_any (takes_up n x c) rules) (has_pattern rules x c) h (later rules)

    go : (t : Bool) → is_taken_up n x c ≡ t → is_taken_up n x c ≡ false
    go false e = e
    go true e = absurd (false≢true (sym none ∙ later n.rules e))

-- ---- what is filed

-- one more is filed
pub covers_more :
    (n : Numbered) (atoms : List NumberedAtom) (a : NumberedAtom) (l : Left) (old new : List Left)
    → Covers n atoms old → IsLeft n a l → Files l old new → Covers n (atoms ++ a ∷ []) new
covers_more n atoms a l old new covers left files i = subst (CoveredAt n (atoms ++ a ∷ []) i)
    (sym (files i)) (go (same_atom l.atom i) refl (left_at old i) (covers i))
  where
    in_front : (xs : List NumberedAtom) (b : NumberedAtom) → IsIn b xs → IsIn b (xs ++ a ∷ [])
    in_front [] b at = absurd at
    in_front (x ∷ xs) b (inl e) = inl e
    in_front (x ∷ xs) b (inr at) = inr (in_front xs b at)

    at_end : (xs : List NumberedAtom) → IsIn a (xs ++ a ∷ [])
    at_end [] = inl refl
    at_end (x ∷ xs) = inr (at_end xs)

    each_more : (xs : List NumberedAtom) → Each (λ (b : NumberedAtom). same_atom b.id i ≡ false) xs
        → same_atom a.id i ≡ false
        → Each (λ (b : NumberedAtom). same_atom b.id i ≡ false) (xs ++ a ∷ [])
    each_more [] h isnt = (isnt, tt)
    each_more (x ∷ xs) h isnt = (h.0, each_more xs h.1 isnt)

    go : (t : Bool) → same_atom l.atom i ≡ t → (o : Option Left) → CoveredAt n atoms i o
        → CoveredAt n (atoms ++ a ∷ []) i (cond t (Some l) o)
    go true e o h = (a, at_end atoms, sym left.atom ∙ same_atom_is l.atom i e, left)
    go false e None h = each_more atoms h (ap (λ (j : AtomId). same_atom j i) (sym left.atom) ∙ e)
    go false e (Some m) h = (h.0, in_front atoms h.0 h.1, h.2, h.3)

-- those that are covered are all that stand there
pub all_are_left : (n : Numbered) → AtomsDiffer n.atoms → (lefts : List Left)
    → Covers n n.atoms lefts → IsRising lefts → AreLeft n lefts
all_are_left n differ lefts covers rising =
    record { rising = rising; all = λ i. at i (left_at lefts i) (covers i) }
  where
    not_there : (atoms : List NumberedAtom) (i : AtomId)
        → Each (λ (a : NumberedAtom). same_atom a.id i ≡ false) atoms → atom_at atoms i ≡ None
    not_there [] i h = refl
    not_there (a ∷ atoms) i h =
        ap (λ t. cond t (Some a) (atom_at atoms i)) h.0 ∙ not_there atoms i h.1

    at : (i : AtomId) (o : Option Left) → CoveredAt n n.atoms i o → IsLeftAt n i o
    at i None h = not_there n.atoms i h
    at i (Some l) h =
        (h.0, ap (atom_at n.atoms) (sym h.2) ∙ member_found n.atoms differ h.0 h.1, h.3)

-- ---- the parts put together

-- the tables tell of every name
pub sorted_has : (n : Numbered) → IsSound n → (waited ready : List Key) → AreSorted n waited ready
    → (x : Ref) (c : ℕ)
    → (has ready x c ≡ is_taken_up n x c) × (has waited x c ≡ has_pattern n.rules x c)
sorted_has n sound waited ready s x c = go x
  where
    other : (y : Ref) → (IsChannel y → ⊥) → None ≡ key_of y c
        → (has ready y c ≡ is_taken_up n y c) × (has waited y c ≡ has_pattern n.rules y c)
    other y none k =
        let no = no_pattern n sound y none c in (
          sym (has_none y c ready k) ∙ sym (none_takes n y c no),
          sym (has_none y c waited k) ∙ sym no,
        )

    go : (y : Ref)
        → (has ready y c ≡ is_taken_up n y c) × (has waited y c ≡ has_pattern n.rules y c)
    go (Binder b) = other (Binder b) (λ h. h) refl
    go (Known (name.Seen i)) = other (Known (name.Seen i)) (λ h. h) refl
    go (Known (name.Place a)) = other (Known (name.Place a)) (λ h. h) refl
    go (Known (name.Num i)) = other (Known (name.Num i)) (λ h. h) refl
    go (Known (name.Op i)) = other (Known (name.Op i)) (λ h. h) refl
    go (Known (name.Chan t k h)) =
        (s.takes (Known (name.Chan t k h)) tt c, s.waits (Known (name.Chan t k h)) tt c)

in_first : {X : Type 0} (xs ys : List X) (x : X) → IsIn x xs → IsIn x (xs ++ ys)
in_first [] ys x at = absurd at
in_first (y ∷ xs) ys x (inl e) = inl e
in_first (y ∷ xs) ys x (inr at) = inr (in_first xs ys x at)

in_last : {X : Type 0} (xs ys : List X) (x : X) → IsIn x ys → IsIn x (xs ++ ys)
in_last [] ys x at = at
in_last (y ∷ xs) ys x at = inr (in_last xs ys x at)

pub there_older : (done it rest table atoms : List NumberedAtom) (a : NumberedAtom)
    → done ++ it ≡ table → it ≡ a ∷ rest → IsIn a (table ++ atoms)
there_older done it rest table atoms a whole is =
    let here : IsIn a it = subst (λ (xs : List NumberedAtom). IsIn a xs) (sym is) (inl refl) in
    in_first table atoms a
    (subst (λ (xs : List NumberedAtom). IsIn a xs) whole (in_last done it a here))

pub done_more : (done it rest table : List NumberedAtom) (a : NumberedAtom) → done ++ it ≡ table
    → it ≡ a ∷ rest → (done ++ a ∷ []) ++ rest ≡ table
done_more done it rest table a whole is =
    append_assoc done (a ∷ []) rest ∙ ap (λ (xs : List NumberedAtom). done ++ xs) (sym is) ∙ whole

got_in : (xs : List NumberedAtom) (i : ℕ) (a : NumberedAtom) → i < length xs → a ≡ get_or xs i a
    → IsIn a xs
got_in [] i a lt is = absurd (omega arith)
got_in (x ∷ xs) zero a lt is = inl is
got_in (x ∷ xs) (suc i) a lt is = inr (got_in xs i a (omega arith) is)

pub there_newest : (table items atoms : List NumberedAtom) (i : ℕ) (a : NumberedAtom)
    → items ≡ atoms → i < length items → a ≡ get_or items i a → IsIn a (table ++ atoms)
there_newest table items atoms i a same lt is = in_last table atoms a
    (subst (λ (xs : List NumberedAtom). IsIn a xs) same (got_in items i a lt is))

pub newest_more :
    (n : Numbered) (table items : List NumberedAtom) (i : ℕ) (a : NumberedAtom) (l : Left)
    (old new : List Left) → i < length items → a ≡ get_or items i a
    → Covers n (table ++ take i items) old → IsLeft n a l → Files l old new
    → Covers n (table ++ take (i + 1) items) new
newest_more n table items i a l old new lt is covers left files =
    let longer : take (i + 1) items ≡ take i items ++ a ∷ [] =
    rw add-one (take-suc items i a lt ∙ ap (λ y. take i items ++ y ∷ []) (sym is)) in
    let all : (table ++ take i items) ++ a ∷ [] ≡ table ++ take (i + 1) items =
    append_assoc table (take i items) (a ∷ [])
    ∙ ap (λ (xs : List NumberedAtom). table ++ xs) (sym longer) in
    subst (λ (xs : List NumberedAtom). Covers n xs new) all
    (covers_more n (table ++ take i items) a l old new covers left files)

pub left_all : (n : Numbered) → IsSound n → (r : Result (List Left) Memory) (table : List Left)
    → IfOk r (λ lefts. lefts ≡ table) → IfOk r IsRising → Covers n n.atoms table
    → IfOk r (AreLeft n)
left_all n sound (Ok lefts) table same rising covers =
    all_are_left n (λ p. omega (arith, sound.different p)) lefts
    (subst (λ (ls : List Left). Covers n n.atoms ls) (sym same) covers) rising
left_all n sound (Err e) table same rising covers = tt

pub sorted_of : ChannelsTellWhatIsMet → (n m : Numbered) → IsSound n → n.places ≡ m.places
    → n.rules ≡ m.rules → (met : List Key) → HasMessages n.atoms met → (waited ready : List Key)
    → AreFound met m waited ready → AreSorted n waited ready
sorted_of law n m sound places rules met all waited ready f =
    sorted_by law n sound met all waited ready (record {
      waits = λ x ch c.
          f.waits x ch c ∙ ap (λ (rs : List NumberedRule). has_pattern rs x c) (sym rules);
      takes = λ x ch c. f.takes x ch c
          ∙ ap (λ (rs : List NumberedRule). list_any (found_up met m x c) rs) (sym rules)
          ∙ any_same (found_up met m x c) (found_up met n x c)
          n.rules (λ r at. ap (λ (ps : List Placed). list_any (waits_for x c) r.pats
          && (live (standing ps) r.loc
          && list_all (λ (p : Pat). has met p.on (length p.params)) r.pats)) (sym places));
    })
