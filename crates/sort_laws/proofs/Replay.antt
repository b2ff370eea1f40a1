-- Where a program keeps the sorts of its names, no solution of a replay of it holds a wrong atom.
use Rattle.std.proofs.Common.{◌≡◌, ℕ, ◌<◌, zero, suc, List, [], ◌∷◌, Option, Some, None, Bool, true}
use Rattle.std.proofs.Common.{false, refl, sym, ap, ◌∙◌, subst, length, arith, ◌==◌, eq-eqb, ◌⊎◌}
use Rattle.std.proofs.Common.{inl, inr}
use Rattle.std.specs.Prelude.{slice_get}
use Rattle.chem_model.specs.declared.name.Loc.{Loc}
use Rattle.chem_model.specs.declared.name.Name.{Name}
use Rattle.chem_model.specs.declared.name.Name.TheVariants as name
use Rattle.chem_model.specs.declared.name.Ref.{Ref}
use Rattle.chem_model.specs.declared.name.Ref.TheVariants.{Binder, Known}
use Rattle.chem_model.specs.declared.name.Pat.{Pat}
use Rattle.chem_model.specs.declared.event.Event.{Event}
use Rattle.chem_model.specs.declared.program.SeenDecl.{SeenDecl}
use Rattle.chem_model.specs.declared.numbered.NumberedRule.{NumberedRule}
use Rattle.chem_model.specs.declared.numbered.NumberedAtom.{NumberedAtom}
use Rattle.chem_model.specs.declared.numbered.Numbered.{Numbered}
use Rattle.chem_model.specs.Process.{Process, Msg, Par, Def, Go, Fail, Halt}
use Rattle.chem_model.specs.ProgramFacts.{ProgramTerms}
use Rattle.chem_model.specs.Each.{Each, IsIn}
use Rattle.chem_model.specs.declared.numbered.Named.{Named}
use Rattle.chem_model.specs.Fill.{Naming}
use Rattle.chem_model.specs.Operations.{add, same}
use Rattle.chem_model.specs.Pour.{is_count}
use Rattle.chem_model.specs.Opening.{counts_of, opening}
use Rattle.chem_model.specs.Apply.{apply, replay_from}
use Rattle.chem_model.specs.Sound.{IsSound, IsNameOf, IsKnown, IsSettled, IsAtom}
use Rattle.chem_laws.proofs.Tied.{opening_is_a_start, event_is_a_reduction, declared_counts_stay}
use Rattle.chem_laws.proofs.Replay.{nothing_replayed}
use Rattle.sort_laws.specs.declared.sorts.SortArg.{SortArg}
use Rattle.sort_laws.specs.declared.sorts.SortArg.TheVariants as arg
use Rattle.sort_laws.specs.Sorted.{Sorting, IsGivenAs, HasSort, RefHas, Takes, Receives, IsChannel}
use Rattle.sort_laws.specs.Sorted.{KeepsAdd, KeepsSame, KeepsAs, KeepsMessage, KeepsPattern, Keeps}
use Rattle.sort_laws.specs.Sorted.{IsDefined, IsSorted, KeepsRule, MayBeGiven, IsWellSorted}
use Rattle.sort_laws.specs.Owned.{IsChannelName, IsOn, Owns, IsOwned}
use Rattle.sort_laws.specs.Wrong.{HasOtherCount, HasPattern, HasTwoNumbers, IsWrongMessage}
use Rattle.sort_laws.specs.Wrong.{IsNoLocation, IsWrong}
use Rattle.sort_laws.specs.Laws.{NoneWrong, NoAtomIsWrong, ChannelsAreOwned}
use Rattle.sort_laws.proofs.Terms.{each_in, all_in}
use Rattle.sort_laws.proofs.Unique.{one_channel}
use Rattle.sort_laws.proofs.Step.{event_keeps}
use Rattle.sort_laws.proofs.Opening.{opening_keeps}
use Rattle.sort_laws.proofs.OwnedStep.{event_owned}
use Rattle.sort_laws.proofs.OwnedOpening.{opening_owned}

-- ---- every solution of a replay keeps the sorts

module _ (t : Sorting) where
  replayed : (n : Numbered) (journal : List Event) (last : Numbered) → IsSound n → IsWellSorted t n
      → IsOwned n → replay_from (Some n) journal ≡ Some last
      → IsSound last × IsWellSorted t last × IsOwned last
  replayed n [] last sound keeps owned e =
      let is : n ≡ last = cc in
      (subst IsSound is sound, subst (IsWellSorted t) is keeps, subst IsOwned is owned)
  replayed n (x ∷ journal) last sound keeps owned e =
      go (apply n x) refl (λ m c. replayed m journal last (event_is_a_reduction n m x sound c).sound
      (event_keeps t n sound keeps m x c) (event_owned n sound owned m x c)) e
    where
      go : (o : Option Numbered) → apply n x ≡ o
          → ((m : Numbered) → apply n x ≡ Some m → replay_from (Some m) journal ≡ Some last
          → IsSound last × IsWellSorted t last × IsOwned last) → replay_from o journal ≡ Some last
          → IsSound last × IsWellSorted t last × IsOwned last
      go None c ih e' = absurd (nothing_replayed journal last e')
      go (Some m) c ih e' = ih m c e'

-- ---- what keeps the sorts isn't wrong

taken_count : (t : Sorting) (N : Naming) (rs : List Ref) (ss : List SortArg) → Takes t N rs ss
    → length rs ≡ length ss
taken_count t N [] [] h = refl
taken_count t N [] (s ∷ ss) h = absurd h
taken_count t N (r ∷ rs) [] h = absurd h
taken_count t N (r ∷ rs) (s ∷ ss) h = ap suc (taken_count t N rs ss h.1)

received_count : (t : Sorting) (bs : List ℕ) (ss : List SortArg) → Receives t bs ss
    → length bs ≡ length ss
received_count t [] [] h = refl
received_count t [] (s ∷ ss) h = absurd h
received_count t (b ∷ bs) [] h = absurd h
received_count t (b ∷ bs) (s ∷ ss) h = ap suc (received_count t bs ss h.1)

-- the declaration of an observed name that is declared
found_count : (ds : List SeenDecl) (i : ℕ) → i < length (counts_of ds)
    → (d : SeenDecl) × (slice_get ds i ≡ Some d) × (slice_get (counts_of ds) i ≡ Some d.count)
found_count [] i h = absurd (omega arith)
found_count (d ∷ ds) zero h = (d, refl, refl)
found_count (d ∷ ds) (suc i) h = found_count ds i (omega arith)

module _ (t : Sorting) (p : ProgramTerms) (sorted : IsSorted t p) (n : Numbered) (sound : IsSound n)
    (seen : n.seen ≡ counts_of p.seen) (keeps : IsWellSorted t n) (owned : IsOwned n) where
  -- a message on an observed name has the declared count, so it stands nowhere
  no_observed : (i count : ℕ) → i < length n.seen → (ss : List SortArg)
      → IsChannel t n.named (Known (name.Seen i)) ss → count ≡ length ss
      → is_count (slice_get n.seen i) count ≡ false → ⊥
  no_observed i count h ss channel c wrong =
      let d = found_count p.seen i (subst (λ (xs : List ℕ). i < length xs) seen h) in
      let is : slice_get n.seen i ≡ Some d.0.count =
      ap (λ (xs : List ℕ). slice_get xs i) seen ∙ d.2 in
      let same : d.0.count ≡ count =
      sorted.counts i channel.sort d.0 d.1 channel.has ∙ ap length channel.args ∙ sym c in
      let right : is_count (slice_get n.seen i) count ≡ true =
      ap (λ o. is_count o count) is ∙ eq-eqb d.0.count count same in
      let clash : true ≡ false = sym right ∙ wrong in cc

  -- each pattern of the channel has the count of its sort
  pattern_count : (c : Name) (ss : List SortArg) → IsChannel t n.named (Known c) ss
      → (rule : NumberedRule) → IsIn rule n.rules → (q : Pat) → IsIn q rule.pats → q.on ≡ Known c
      → length q.params ≡ length ss
  pattern_count c ss channel rule stands q of_rule on =
      let kept = each_in (KeepsRule t n.named) rule n.rules keeps.1 stands in
      let pat = each_in (KeepsPattern t n.named) q rule.pats kept.0 of_rule in
      let its : IsChannel t n.named (Known c) pat.sorts =
      subst (λ (r : Ref). IsChannel t n.named r pat.sorts) on pat.channel in
      let same : pat.sorts ≡ ss = one_channel t n sound (Known c) pat.sorts ss its channel in
      received_count t q.params pat.sorts pat.receives ∙ ap length same

  -- and there is one
  has_pattern : (s k : ℕ) (h : Loc) (count : ℕ) (ss : List SortArg)
      → IsChannel t n.named (Known (name.Chan s k h)) ss → count ≡ length ss
      → HasPattern n (name.Chan s k h) count
  has_pattern s k h count ss channel e =
      let given = channel.has in
      let on : IsOn n.rules (name.Chan s k h) =
      subst (λ (x : Name). IsChannelName x → IsOn n.rules x)
      given.name (each_in (Owns n.rules) given.entry n.named owned given.given) tt in
      record {
        rule = on.rule;
        stands = on.stands;
        pat = on.pat;
        of_rule = on.of_rule;
        on = on.on;
        same = pattern_count (name.Chan s k h) ss channel on.rule on.stands on.pat on.of_rule on.on
            ∙ sym e;
      }

  right_count : (s k : ℕ) (h : Loc) (count : ℕ) (ss : List SortArg)
      → IsChannel t n.named (Known (name.Chan s k h)) ss → count ≡ length ss
      → HasOtherCount n (name.Chan s k h) count ⊎ (HasPattern n (name.Chan s k h) count → ⊥) → ⊥
  right_count s k h count ss channel e (inl w) = w.other
      (pattern_count (name.Chan s k h) ss channel w.rule w.stands w.pat w.of_rule w.on ∙ sym e)
  right_count s k h count ss channel e (inr none) = none (has_pattern s k h count ss channel e)

  -- ---- what a name's sort says of it

  channel_defined : (s : SortArg) (c : Name) (j k : ℕ) (h : Loc) → c ≡ name.Chan j k h
      → HasSort t n.named c s → IsDefined s
  channel_defined s c j k h e g =
      let given : IsGivenAs t n.named (name.Chan j k h) s =
      subst (λ (x : Name). HasSort t n.named x s) e g in
      let fine = each_in (λ (x : Named). MayBeGiven t x.binder x.name)
      given.entry n.named keeps.2 given.given in
      let named : MayBeGiven t given.entry.binder (name.Chan j k h) =
      subst (MayBeGiven t given.entry.binder) given.name fine in
      let same : Some s ≡ Some (arg.Named named.0) = sym given.sort ∙ named.1 in
      let is : s ≡ arg.Named named.0 = cc in
      subst IsDefined (sym is) tt

  -- a name of the sort of locations is a location, and one of the sort of numbers a number
  location_right : (r : Ref) → RefHas t n.named r arg.Place → IsKnown (IsNameOf n) r
      → IsNoLocation r → ⊥
  location_right (Binder b) h k w = k
  location_right (Known (name.Seen i)) h k w = sorted.observed i arg.Place h
  location_right (Known (name.Place a)) h k w = w
  location_right (Known (name.Chan s j g)) h k w =
      channel_defined arg.Place (name.Chan s j g) s j g refl h
  location_right (Known (name.Num j)) h k w = cc
  location_right (Known (name.Op i)) h k w = h

  is_number : (r : Ref) → RefHas t n.named r arg.Num → IsKnown (IsNameOf n) r
      → (j : ℕ) × (r ≡ Known (name.Num j))
  is_number (Binder b) h k = absurd k
  is_number (Known (name.Seen i)) h k = absurd (sorted.observed i arg.Num h)
  is_number (Known (name.Place a)) h k = cc
  is_number (Known (name.Chan s j g)) h k =
      absurd (channel_defined arg.Num (name.Chan s j g) s j g refl h)
  is_number (Known (name.Num j)) h k = (j, refl)
  is_number (Known (name.Op i)) h k = absurd h

  two_numbers : (u v : Ref) (vs : List Ref) → RefHas t n.named u arg.Num
      → RefHas t n.named v arg.Num → IsKnown (IsNameOf n) u → IsKnown (IsNameOf n) v
      → HasTwoNumbers (u ∷ v ∷ vs)
  two_numbers u v vs h g k l =
      let first = is_number u h k in
      let second = is_number v g l in
      subst (λ (x : Ref). HasTwoNumbers (x ∷ v ∷ vs)) (sym first.1)
      (subst (λ (x : Ref). HasTwoNumbers (Known (name.Num first.0) ∷ x ∷ vs)) (sym second.1) tt)

  add_right : (vs : List Ref) → KeepsAdd t n.named vs → Each (IsKnown (IsNameOf n)) vs
      → HasTwoNumbers vs
  add_right (u ∷ v ∷ k ∷ []) h g = two_numbers u v (k ∷ []) h.0 h.1 g.0 g.1.0
  add_right [] h g = absurd h
  add_right (u ∷ []) h g = absurd h
  add_right (u ∷ v ∷ []) h g = absurd h
  add_right (u ∷ v ∷ k ∷ x ∷ xs) h g = absurd h

  same_right : (vs : List Ref) → KeepsSame t n.named vs → Each (IsKnown (IsNameOf n)) vs
      → HasTwoNumbers vs
  same_right (u ∷ v ∷ k ∷ m ∷ []) h g = two_numbers u v (k ∷ m ∷ []) h.0 h.1 g.0 g.1.0
  same_right [] h g = absurd h
  same_right (u ∷ []) h g = absurd h
  same_right (u ∷ v ∷ []) h g = absurd h
  same_right (u ∷ v ∷ k ∷ []) h g = absurd h
  same_right (u ∷ v ∷ k ∷ m ∷ x ∷ xs) h g = absurd h

  operation_right : (is_add is_same : Bool) (vs : List Ref) → KeepsAs is_add is_same t n.named vs
      → Each (IsKnown (IsNameOf n)) vs → HasTwoNumbers vs
  operation_right true c vs h g = add_right vs h g
  operation_right false true vs h g = same_right vs h g
  operation_right false false vs h g = absurd h

  -- ---- messages and requests

  message_right : (l : Loc) (x : Ref) (vs : List Ref) → IsSettled n.seen (IsNameOf n) l (Msg x vs)
      → KeepsMessage t n.named x vs → IsWrongMessage n x vs → ⊥
  message_right l (Binder b) vs h k w = h.0
  message_right l (Known (name.Seen i)) vs h k w =
      no_observed i (length vs) h.0 k.sorts k.channel (taken_count t n.named vs k.sorts k.takes) h.3
  message_right l (Known (name.Place a)) vs h k w =
      let clash : arg.Named k.channel.sort ≡ arg.Place = k.channel.has in
      cc
  message_right l (Known (name.Chan s j g)) vs h k w =
      right_count s j g (length vs) k.sorts k.channel (taken_count t n.named vs k.sorts k.takes) w
  message_right l (Known (name.Num j)) vs h k w =
      let clash : arg.Named k.channel.sort ≡ arg.Num = k.channel.has in
      cc
  message_right l (Known (name.Op i)) vs h k w = w (operation_right (i == add) (i == same) vs k h.1)

  atom_right : (l : Loc) (q : Process) → IsSettled n.seen (IsNameOf n) l q → Keeps t n.named q
      → IsWrong n q → ⊥
  atom_right l (Msg x vs) h k w = message_right l x vs h k w
  atom_right l (Par ps) h k w = h
  atom_right l (Def ds q) h k w = h
  atom_right l (Go b c) h k w = location_right b k.0 h.0 w
  atom_right l (Fail b c) h k w = location_right b k.0 h.0 w
  atom_right l Halt h k w = w

  none_wrong : NoneWrong n
  none_wrong = all_in (λ (a : NumberedAtom). IsWrong n a.term → ⊥)
      n.atoms (λ a i. atom_right a.loc a.term (each_in (IsAtom n) a n.atoms sound.atoms i).1
      (each_in (λ (x : NumberedAtom). Keeps t n.named x.term) a n.atoms keeps.0 i))

pub no_atom_is_wrong : NoAtomIsWrong
no_atom_is_wrong t p program sorted journal n e =
    let end = replayed t (opening p) journal n
    (opening_is_a_start p program).0 (opening_keeps t p sorted) (opening_owned p program) e in
    none_wrong t p sorted n end.0 (declared_counts_stay p program journal n e) end.1 end.2

-- each channel that was made is on a pattern of a rule
owned_from : (n : Numbered) (journal : List Event) (last : Numbered) → IsSound n → IsOwned n
    → replay_from (Some n) journal ≡ Some last → IsOwned last
owned_from n [] last sound owned e = let is : n ≡ last = cc in subst IsOwned is owned
owned_from n (x ∷ journal) last sound owned e = go (apply n x) refl (λ m c. owned_from m journal
    last (event_is_a_reduction n m x sound c).sound (event_owned n sound owned m x c)) e
  where
    go : (o : Option Numbered) → apply n x ≡ o
        → ((m : Numbered) → apply n x ≡ Some m → replay_from (Some m) journal ≡ Some last
        → IsOwned last) → replay_from o journal ≡ Some last → IsOwned last
    go None c ih e' = absurd (nothing_replayed journal last e')
    go (Some m) c ih e' = ih m c e'

pub channels_are_owned : ChannelsAreOwned
channels_are_owned p program journal n e =
    owned_from (opening p) journal n (opening_is_a_start p program).0 (opening_owned p program) e
