-- Where nothing is wrong by the sorts that are declared, the program keeps them.
use Rattle.std.proofs.Common.{◌≡◌, ◌≢◌, ℕ, zero, suc, ◌+◌, ◌<◌, ◌≤◌, List, [], ◌∷◌, ◌++◌, Option}
use Rattle.std.proofs.Common.{Some, None, Bool, true, false, cond, refl, sym, ap, ◌∙◌, subst, arith}
use Rattle.std.proofs.Common.{length, ◌==◌, ◌||◌, inl, inr, eq-eqb, eqb-true}
use Rattle.std.specs.Prelude.{slice_get}
use Rattle.std.specs.Str.{bytes_eq}
use Rattle.chem_model.specs.declared.name.Name.{Name}
use Rattle.chem_model.specs.declared.name.Name.TheVariants as name
use Rattle.chem_model.specs.declared.name.Ref.{Ref}
use Rattle.chem_model.specs.declared.name.Ref.TheVariants.{Binder, Known}
use Rattle.chem_model.specs.declared.name.Pat.{Pat}
use Rattle.chem_model.specs.declared.program.SeenDecl.{SeenDecl}
use Rattle.chem_model.specs.Process.{Process, Msg, Par, Def, Go, Fail, Halt, Processes, none}
use Rattle.chem_model.specs.Process.{one_more, Definition, Rule, Place, Definitions, no_definition}
use Rattle.chem_model.specs.Process.{and_also}
use Rattle.chem_model.specs.Binders.{binder_of, channels_of, params_of, block, is_among, once}
use Rattle.chem_model.specs.Scope.{Position, names_message, is_argument, in_request, IsOperation}
use Rattle.chem_model.specs.Scope.{IsBinder, AreNamed, IsNamed, IsInScope, IsTerm, AreTerms}
use Rattle.chem_model.specs.Scope.{IsDefinition, AreDefinitions}
use Rattle.chem_model.specs.Operations.{add, same, op_count}
use Rattle.chem_model.specs.ProgramFacts.{IsDeclared, places}
use Rattle.chem_model.specs.Each.{Each}
use Rattle.chem_laws.proofs.Lists.{Each-left, Each-right}
use Rattle.chem_laws.proofs.Terms.{among_left, among_right}
use Rattle.chem_laws.proofs.OpeningLists.{among_either}
use Rattle.sort_laws.specs.declared.sorts.Entry.{Entry}
use Rattle.sort_laws.specs.declared.sorts.SortArg.{SortArg}
use Rattle.sort_laws.specs.declared.sorts.SortArg.TheVariants as arg
use Rattle.sort_laws.specs.declared.sorts.SortUse.{SortUse}
use Rattle.sort_laws.specs.Sorted.{Sorting, RefHas, Takes, Receives, IsChannel, KeepsArguments}
use Rattle.sort_laws.specs.Sorted.{KeepsAdd, KeepsSame, KeepsAs, KeepsOperation, KeepsMessage}
use Rattle.sort_laws.specs.Sorted.{KeepsPattern, Keeps, KeepsAll, KeepsDefinition, KeepsDefinitions}
use Rattle.sort_laws.specs.Sorted.{IsDefined as IsADefined}
use Rattle.sort_laws.specs.Table.{entries_for, place_entry, asked_by, pattern_sort, pattern_entries}
use Rattle.sort_laws.specs.Table.{entries, entries_of_all, entries_of_definition}
use Rattle.sort_laws.specs.Table.{entries_of_definitions, args_of, used_as, declared_as}
use Rattle.sort_laws.specs.Table.{channel_sort, seen_sort, program_entries, binder_sort, sorting}
use Rattle.sort_laws.specs.Asks.{ask, defines, calls, sends, continues, IsRight, ref_sort}
use Rattle.sort_laws.specs.Asks.{add_demands, same_demands, operation_demands, demand_asks}
use Rattle.sort_laws.specs.Asks.{channel_asks, message_asks, argument_asks, pattern_asks}
use Rattle.sort_laws.specs.Asks.{request_asks, asks, asks_of_all, asks_of_definition}
use Rattle.sort_laws.specs.Asks.{asks_of_definitions, declaration_asks}
use Rattle.sort_laws.specs.Laws.{WhatPassesIsSorted}
use Rattle.sort_laws.proofs.Terms.{all_in}
use Rattle.sort_laws.proofs.Counts.{keyed, found_entry, no_entry, own_channels, inner, inner_all}
use Rattle.sort_laws.proofs.Counts.{inner_definition, inner_definitions, whole_counted}

-- ---- equality of sorts can be decided

stable_ℕ : (m n : ℕ) → (m ≢ n → ⊥) → m ≡ n
stable_ℕ m n h = go (m == n) refl
  where
    go : (u : Bool) → m == n ≡ u → m ≡ n
    go true c = eqb-true m n c
    go false c = absurd (h (λ e. let clash : true ≡ false = sym (eq-eqb m n e) ∙ c in cc))

stable_sort : (a b : SortArg) → (a ≢ b → ⊥) → a ≡ b
stable_sort arg.Place arg.Place h = refl
stable_sort arg.Num arg.Num h = refl
stable_sort (arg.Named i) (arg.Named j) h =
    ap arg.Named (stable_ℕ i j (λ f. h (λ e. f (let is : i ≡ j = cc in is))))
stable_sort arg.Place arg.Num h = absurd (h (λ e. cc))
stable_sort arg.Place (arg.Named j) h = absurd (h (λ e. cc))
stable_sort arg.Num arg.Place h = absurd (h (λ e. cc))
stable_sort arg.Num (arg.Named j) h = absurd (h (λ e. cc))
stable_sort (arg.Named i) arg.Place h = absurd (h (λ e. cc))
stable_sort (arg.Named i) arg.Num h = absurd (h (λ e. cc))

stable_sorts : (xs ys : List SortArg) → (xs ≢ ys → ⊥) → xs ≡ ys
stable_sorts [] [] h = refl
stable_sorts [] (y ∷ ys) h = absurd (h (λ e. cc))
stable_sorts (x ∷ xs) [] h = absurd (h (λ e. cc))
stable_sorts (x ∷ xs) (y ∷ ys) h =
    let first : x ≡ y = stable_sort x y (λ f. h (λ e. f (let is : x ≡ y = cc in is))) in
    let rest : xs ≡ ys = stable_sorts xs ys (λ f. h (λ e. f (let is : xs ≡ ys = cc in is))) in
    λ i. first i ∷ rest i

abbrev HasSome : Option SortArg → Type 0
HasSome o = (s : SortArg) × (o ≡ Some s)

-- ---- where what is asked is right

-- a defined sort, and what holds of its arguments
abbrev IsDefined : Sorting → Option SortArg → (List SortArg → Type 0) → Type 0
IsDefined t o P = (i : ℕ) × (o ≡ Some (arg.Named i)) × P (t.args i)

abbrev HasCount : ℕ → List SortArg → Type 0
HasCount count ss = length ss ≡ count

module _ (t : Sorting) where
  right_defining : (o : Option SortArg) (count : ℕ) → IsRight t (ask (defines count) o)
      → IsDefined t o (HasCount count)
  right_defining None count r = absurd (r 4 refl)
  right_defining (Some arg.Place) count r = absurd (r 4 refl)
  right_defining (Some arg.Num) count r = absurd (r 4 refl)
  right_defining (Some (arg.Named i)) count r =
      (i, refl, stable_ℕ (length (t.args i)) count (λ f. r 5 (refl, f)))

  right_call : (o : Option SortArg) (count : ℕ) → IsRight t (ask (calls count) o) → HasSome o
      → IsDefined t o (HasCount count)
  right_call None count r h = let clash = h.1 in cc
  right_call (Some arg.Place) count r h = absurd (r 6 refl)
  right_call (Some arg.Num) count r h = absurd (r 6 refl)
  right_call (Some (arg.Named i)) count r h =
      (i, refl, stable_ℕ (length (t.args i)) count (λ f. r 7 (refl, f)))

  right_argument : (o : Option SortArg) (s : SortArg) → IsRight t (ask (sends s) o) → HasSome o
      → o ≡ Some s
  right_argument None s r h = let clash = h.1 in cc
  right_argument (Some u) s r h = ap Some (stable_sort u s (λ f. r 8 (refl, f)))

  right_continuation : (ss : List SortArg) (o : Option SortArg) → IsRight t (ask (continues ss) o)
      → HasSome o → IsDefined t o (λ xs. xs ≡ ss)
  right_continuation ss None r h = let clash = h.1 in cc
  right_continuation ss (Some arg.Place) r h = absurd (r 8 refl)
  right_continuation ss (Some arg.Num) r h = absurd (r 8 refl)
  right_continuation ss (Some (arg.Named i)) r h =
      (i, refl, stable_sorts (t.args i) ss (λ f. r 8 (refl, f)))

  ref_has : (r : Ref) (s : SortArg) → ref_sort t r ≡ Some s → RefHas t [] r s
  ref_has (Binder b) s e = e
  ref_has (Known (name.Seen i)) s e = e
  ref_has (Known (name.Place a)) s e = let is : s ≡ arg.Place = cc in is
  ref_has (Known (name.Chan j k h)) s e = cc
  ref_has (Known (name.Num n)) s e = let is : s ≡ arg.Num = cc in is
  ref_has (Known (name.Op i)) s e = cc

-- ---- the channels of one definition, and of those behind it

own_first : (d : Definition) (ds : Definitions) (b : ℕ)
    → is_among (own_channels (and_also d no_definition)) b ≡ true
    → is_among (own_channels (and_also d ds)) b ≡ true
own_first (Rule ps p) ds b e = among_left (channels_of ps) (own_channels ds) b
    (elim (among_either (channels_of ps) [] b e) [ inl u ↦ u | inr u ↦ cc ])
own_first (Place a es p) ds b e = among_left (own_channels es) (own_channels ds) b
    (elim (among_either (own_channels es) [] b e) [ inl u ↦ u | inr u ↦ cc ])

own_rest : (d : Definition) (ds : Definitions) (b : ℕ) → is_among (own_channels ds) b ≡ true
    → is_among (own_channels (and_also d ds)) b ≡ true
own_rest (Rule ps p) ds b e = among_right (channels_of ps) (own_channels ds) b e
own_rest (Place a es p) ds b e = among_right (own_channels es) (own_channels ds) b e

-- ---- a term

-- Where these are the sorts, those of channels, the version, and how many observed names are
-- declared.
module _ (args : ℕ → List SortArg) (channel seen binder : ℕ → Option SortArg) (version count : ℕ)
    (declared : (i : ℕ) → i < count → HasSome (seen i)) where
  abbrev t : Sorting
  t = record { args = args; binder = binder; seen = seen }

  -- the table answers what the entry says, and of a channel what its spelling says
  abbrev IsEntry : Entry → Type 0
  IsEntry e = binder e.binder ≡ e.sort

  abbrev AreChannels : List ℕ → Type 0
  AreChannels bs = (b : ℕ) → is_among bs b ≡ true → binder b ≡ channel b

  -- each binder in scope has a sort
  abbrev HaveSorts : List ℕ → Type 0
  HaveSorts bs = (b : ℕ) → is_among bs b ≡ true → HasSome (binder b)

  have_both : (bs cs : List ℕ) → HaveSorts bs → HaveSorts cs → HaveSorts (bs ++ cs)
  have_both bs cs f g b e = elim (among_either bs cs b e) [ inl u ↦ f b u | inr u ↦ g b u ]

  abbrev known : Position → Name → Type 0
  known = IsDeclared version count

  -- where no operation may stand, each name has a sort
  ref_some : (p : Position) → ((i : ℕ) → IsOperation p i → ⊥) → (scope : List ℕ) → HaveSorts scope
      → (r : Ref) → IsInScope (known p) scope r → HasSome (ref_sort t r)
  ref_some p none_here scope f (Binder b) h = f b h
  ref_some p none_here scope f (Known (name.Seen i)) h = declared i h
  ref_some p none_here scope f (Known (name.Place a)) h = absurd h
  ref_some p none_here scope f (Known (name.Chan j k l)) h = absurd h
  ref_some p none_here scope f (Known (name.Num n)) h = (arg.Num, refl)
  ref_some p none_here scope f (Known (name.Op i)) h = absurd (none_here i h.1)

  argument_some : (scope : List ℕ) → HaveSorts scope → (r : Ref)
      → IsInScope (known is_argument) scope r → HasSome (ref_sort t r)
  argument_some = ref_some is_argument (λ i h. h)

  request_some : (scope : List ℕ) → HaveSorts scope → (r : Ref)
      → IsInScope (known in_request) scope r → HasSome (ref_sort t r)
  request_some = ref_some in_request (λ i h. h)

  -- ---- messages and requests

  arguments_keep : (scope : List ℕ) → HaveSorts scope → (rs : List Ref) (ss : List SortArg)
      → length ss ≡ length rs → Each (IsInScope (known is_argument) scope) rs
      → Each (IsRight t) (argument_asks t ss rs) → Takes t [] rs ss
  arguments_keep scope f [] [] e h r = tt
  arguments_keep scope f [] (s ∷ ss) e h r = absurd (omega arith)
  arguments_keep scope f (x ∷ rs) [] e h r = absurd (omega arith)
  arguments_keep scope f (x ∷ rs) (s ∷ ss) e h r = (
    ref_has t x s (right_argument t (ref_sort t x) s r.0 (argument_some scope f x h.0)),
    arguments_keep scope f rs ss (omega arith) h.1 r.1,
  )

  channel_keeps : (scope : List ℕ) → HaveSorts scope → (x : Ref) (vs : List Ref)
      → HasSome (ref_sort t x) → Each (IsInScope (known is_argument) scope) vs
      → Each (IsRight t) (channel_asks t x vs) → KeepsArguments t [] x vs
  channel_keeps scope f x vs h g r =
      let d = right_call t (ref_sort t x) (length vs) r.0 h in
      let same : asked_by args (ref_sort t x) ≡ args d.0 = ap (asked_by args) d.1 in
      record {
        sorts = args d.0;
        channel = record { sort = d.0; has = ref_has t x (arg.Named d.0) d.1; args = refl };
        takes = arguments_keep scope f vs (args d.0) d.2 g
            (subst (λ (ss : List SortArg). Each (IsRight t) (argument_asks t ss vs)) same r.1);
      }

  number_has : (scope : List ℕ) → HaveSorts scope → (x : Ref)
      → IsInScope (known is_argument) scope x → IsRight t (ask (sends arg.Num) (ref_sort t x))
      → RefHas t [] x arg.Num
  number_has scope f x h r =
      ref_has t x arg.Num (right_argument t (ref_sort t x) arg.Num r (argument_some scope f x h))

  continuation_is : (ss : List SortArg) (x : Ref) → HasSome (ref_sort t x)
      → IsRight t (ask (continues ss) (ref_sort t x)) → IsChannel t [] x ss
  continuation_is ss x h r =
      let d = right_continuation t ss (ref_sort t x) r h in
      record { sort = d.0; has = ref_has t x (arg.Named d.0) d.1; args = d.2 }

  add_keeps : (scope : List ℕ) → HaveSorts scope → (vs : List Ref) → 3 ≡ length vs
      → Each (IsInScope (known is_argument) scope) vs
      → Each (IsRight t) (demand_asks t add_demands vs) → KeepsAdd t [] vs
  add_keeps scope f (u ∷ v ∷ k ∷ []) e h r = (
    number_has scope f u h.0 r.0,
    number_has scope f v h.1.0 r.1.0,
    continuation_is (arg.Num ∷ []) k (argument_some scope f k h.1.1.0) r.1.1.0,
  )
  add_keeps scope f [] e h r = absurd (omega arith)
  add_keeps scope f (u ∷ []) e h r = absurd (omega arith)
  add_keeps scope f (u ∷ v ∷ []) e h r = absurd (omega arith)
  add_keeps scope f (u ∷ v ∷ k ∷ x ∷ xs) e h r = absurd (omega arith)

  same_keeps : (scope : List ℕ) → HaveSorts scope → (vs : List Ref) → 4 ≡ length vs
      → Each (IsInScope (known is_argument) scope) vs
      → Each (IsRight t) (demand_asks t same_demands vs) → KeepsSame t [] vs
  same_keeps scope f (u ∷ v ∷ k ∷ m ∷ []) e h r = (
    number_has scope f u h.0 r.0,
    number_has scope f v h.1.0 r.1.0,
    continuation_is [] k (argument_some scope f k h.1.1.0) r.1.1.0,
    continuation_is [] m (argument_some scope f m h.1.1.1.0) r.1.1.1.0,
  )
  same_keeps scope f [] e h r = absurd (omega arith)
  same_keeps scope f (u ∷ []) e h r = absurd (omega arith)
  same_keeps scope f (u ∷ v ∷ []) e h r = absurd (omega arith)
  same_keeps scope f (u ∷ v ∷ k ∷ []) e h r = absurd (omega arith)
  same_keeps scope f (u ∷ v ∷ k ∷ m ∷ x ∷ xs) e h r = absurd (omega arith)

  operation_keeps : (scope : List ℕ) → HaveSorts scope → (op : ℕ) (vs : List Ref)
      → op_count op ≡ Some (length vs) → Each (IsInScope (known is_argument) scope) vs
      → Each (IsRight t) (demand_asks t (operation_demands op) vs) → KeepsOperation t [] op vs
  operation_keeps scope f op vs e h r = go (op == add) (op == same) e r
    where
      go : (is_add is_same : Bool)
          → cond is_add (Some 3) (cond is_same (Some 4) None) ≡ Some (length vs)
          → Each (IsRight t)
          (demand_asks t (cond is_add add_demands (cond is_same same_demands [])) vs)
          → KeepsAs is_add is_same t [] vs
      go true c d g = add_keeps scope f vs (let is : 3 ≡ length vs = cc in is) h g
      go false true d g = same_keeps scope f vs (let is : 4 ≡ length vs = cc in is) h g
      go false false d g = cc

  message_keeps : (scope : List ℕ) → HaveSorts scope → (x : Ref) (vs : List Ref)
      → IsInScope (known (names_message (length vs))) scope x
      → Each (IsInScope (known is_argument) scope) vs → Each (IsRight t) (message_asks t x vs)
      → KeepsMessage t [] x vs
  message_keeps scope f (Binder b) vs h g r = channel_keeps scope f (Binder b) vs (f b h) g r
  message_keeps scope f (Known (name.Seen i)) vs h g r =
      channel_keeps scope f (Known (name.Seen i)) vs (declared i h) g r
  message_keeps scope f (Known (name.Place a)) vs h g r = absurd h
  message_keeps scope f (Known (name.Chan j k l)) vs h g r = absurd h
  message_keeps scope f (Known (name.Num n)) vs h g r = absurd h.1
  message_keeps scope f (Known (name.Op i)) vs h g r = operation_keeps scope f i vs h.1 g r

  request_keeps : (scope : List ℕ) → HaveSorts scope → (x k : Ref)
      → IsInScope (known in_request) scope x → IsInScope (known in_request) scope k
      → Each (IsRight t) (request_asks t x k) → RefHas t [] x arg.Place × IsChannel t [] k []
  request_keeps scope f x k h g r = (
    ref_has t x
        arg.Place (right_argument t (ref_sort t x) arg.Place r.0 (request_some scope f x h)),
    continuation_is [] k (request_some scope f k g) r.1.0,
  )

  -- ---- patterns

  receives : (ss : List SortArg) (bs : List ℕ) → length ss ≡ length bs
      → Each IsEntry (entries_for ss bs) → Receives t bs ss
  receives [] [] e h = tt
  receives (s ∷ ss) [] e h = absurd (omega arith)
  receives [] (b ∷ bs) e h = absurd (omega arith)
  receives (s ∷ ss) (b ∷ bs) e h = (h.0, receives ss bs (omega arith) h.1)

  received_some : (bs : List ℕ) (ss : List SortArg) → Receives t bs ss → HaveSorts bs
  received_some [] ss h b e = cc
  received_some (c ∷ bs) [] h b e = absurd h
  received_some (c ∷ bs) (s ∷ ss) h b e = go (c == b) refl e (received_some bs ss h.1 b)
    where
      go : (u : Bool) → c == b ≡ u → u || is_among bs b ≡ true
          → (is_among bs b ≡ true → HasSome (binder b)) → HasSome (binder b)
      go true w f ih = (s, ap binder (sym (eqb-true c b w)) ∙ h.0)
      go false w f ih = ih f

  -- the sort of a pattern's channel is what its spelling says
  own_sort : (r : Ref) → AreChannels (binder_of r) → pattern_sort args channel seen r ≡ ref_sort t r
  own_sort (Binder b) f = sym (f b (among_self b))
    where
      among_self : (c : ℕ) → is_among (c ∷ []) c ≡ true
      among_self c = ap (λ u. u || false) (eq-eqb c c refl)
  own_sort (Known (name.Seen i)) f = refl
  own_sort (Known (name.Place a)) f = refl
  own_sort (Known (name.Chan j k l)) f = refl
  own_sort (Known (name.Num n)) f = refl
  own_sort (Known (name.Op i)) f = refl

  pattern_keeps : (p : Pat) → AreChannels (binder_of p.on)
      → Each IsEntry (entries_for (asked_by args (pattern_sort args channel seen p.on)) p.params)
      → IsRight t (ask (defines (length p.params)) (ref_sort t p.on)) → KeepsPattern t [] p
  pattern_keeps p f h r =
      let d = right_defining t (ref_sort t p.on) (length p.params) r in
      let same : asked_by args (pattern_sort args channel seen p.on) ≡ args d.0 =
      ap (asked_by args) (own_sort p.on f ∙ d.1) in
      record {
        sorts = args d.0;
        channel = record { sort = d.0; has = ref_has t p.on (arg.Named d.0) d.1; args = refl };
        receives = receives (args d.0) p.params d.2
            (subst (λ (ss : List SortArg). Each IsEntry (entries_for ss p.params)) same h);
      }

  patterns_keep : (ps : List Pat) → AreChannels (channels_of ps)
      → Each IsEntry (pattern_entries args channel seen ps) → Each (IsRight t) (pattern_asks t ps)
      → Each (KeepsPattern t []) ps × HaveSorts (params_of ps)
  patterns_keep [] f h r = (tt, λ b e. cc)
  patterns_keep (p ∷ ps) f h r =
      let es = entries_for (asked_by args (pattern_sort args channel seen p.on)) p.params in
      let first = pattern_keeps p (λ b e. f b (among_left (binder_of p.on) (channels_of ps) b e))
      (Each-left IsEntry es (pattern_entries args channel seen ps) h) r.0 in
      let rest = patterns_keep ps (λ b e. f b (among_right (binder_of p.on) (channels_of ps) b e))
      (Each-right IsEntry es (pattern_entries args channel seen ps) h) r.1 in (
        (first, rest.0),
        have_both p.params (params_of ps) (received_some p.params first.sorts first.receives)
            rest.1,
      )

  -- ---- each name of a block has a sort

  channels_some : (ps : List Pat) → Each (IsRight t) (pattern_asks t ps)
      → HaveSorts (channels_of ps)
  channels_some [] r b e = cc
  channels_some (p ∷ ps) r b e = elim (among_either (binder_of p.on) (channels_of ps) b e) [
    | inl u ↦ here p.on (right_defining t (ref_sort t p.on) (length p.params) r.0) u
    | inr u ↦ channels_some ps r.1 b u
  ]
    where
      here : (x : Ref) → IsDefined t (ref_sort t x) (HasCount (length p.params))
          → is_among (binder_of x) b ≡ true → HasSome (binder b)
      here (Binder c) d u = go (c == b) refl u
        where
          go : (v : Bool) → c == b ≡ v → v || false ≡ true → HasSome (binder b)
          go true w f = (arg.Named d.0, ap binder (sym (eqb-true c b w)) ∙ d.1)
          go false w f = cc
      here (Known n) d u = cc

  place_some : (r : Ref) → Each IsEntry (place_entry r) → HaveSorts (binder_of r)
  place_some (Binder c) h b e = go (c == b) refl e
    where
      go : (v : Bool) → c == b ≡ v → v || false ≡ true → HasSome (binder b)
      go true w f = (arg.Place, ap binder (sym (eqb-true c b w)) ∙ h.0)
      go false w f = cc
  place_some (Known n) h b e = cc

  block_some : (ds : Definitions) → Each IsEntry (entries_of_definitions args channel seen ds)
      → Each (IsRight t) (asks_of_definitions t ds) → HaveSorts (block ds)
  block_some no_definition h r = λ b e. cc
  block_some (and_also (Rule ps p) ds) h r =
      let own = entries_of_definition args channel seen (Rule ps p) in
      let rest = entries_of_definitions args channel seen ds in
      let asked = asks_of_definition t (Rule ps p) in
      let more = asks_of_definitions t ds in
      have_both (channels_of ps) (block ds)
      (channels_some ps
      (Each-left (IsRight t) (pattern_asks t ps) (asks t p) (Each-left (IsRight t) asked more r)))
      (block_some ds (Each-right IsEntry own rest h) (Each-right (IsRight t) asked more r))
  block_some (and_also (Place a es p) ds) h r =
      let own = entries_of_definition args channel seen (Place a es p) in
      let rest = entries_of_definitions args channel seen ds in
      let asked = asks_of_definition t (Place a es p) in
      let more = asks_of_definitions t ds in
      let levels = entries_of_definitions args channel seen es in
      let body = entries args channel seen p in
      let mine = Each-left IsEntry own rest h in
      have_both (binder_of a ++ block es) (block ds)
      (have_both (binder_of a) (block es)
      (place_some a (Each-left IsEntry (place_entry a) (levels ++ body) mine))
      (block_some es
      (Each-left IsEntry levels body (Each-right IsEntry (place_entry a) (levels ++ body) mine))
      (Each-left (IsRight t) (asks_of_definitions t es) (asks t p)
      (Each-left (IsRight t) asked more r))))
      (block_some ds (Each-right IsEntry own rest h) (Each-right (IsRight t) asked more r))

  place_has : (r : Ref) → IsBinder r → Each IsEntry (place_entry r) → RefHas t [] r arg.Place
  place_has (Binder b) n h = h.0
  place_has (Known x) n h = absurd n

  -- ---- terms

  mutual
    keeps : (scope : List ℕ) (p : Process) → IsTerm known scope p → HaveSorts scope
        → Each IsEntry (entries args channel seen p) → AreChannels (inner p)
        → Each (IsRight t) (asks t p) → Keeps t [] p
    keeps scope (Msg x vs) h f e c r = message_keeps scope f x vs h.0 h.1 r
    keeps scope (Par ps) h f e c r = all_keep scope ps h f e c r
    keeps scope (Def ds p) h f e c r =
        let levels = entries_of_definitions args channel seen ds in
        let body = entries args channel seen p in
        let asked = asks_of_definitions t ds in
        let e_ds = Each-left IsEntry levels body e in
        let r_ds = Each-left (IsRight t) asked (asks t p) r in
        let f_in = have_both (block ds) scope (block_some ds e_ds r_ds) f in (
          definitions_keep (block ds ++ scope) ds h.2 h.0.places f_in e_ds
              (λ b u. c b (among_left (own_channels ds) (inner_definitions ds ++ inner p) b u))
              (λ b u. c b (among_right (own_channels ds) (inner_definitions ds ++ inner p) b
              (among_left (inner_definitions ds) (inner p) b u))) r_ds,
          keeps (block ds ++ scope) p h.3 f_in (Each-right IsEntry levels body e)
              (λ b u. c b (among_right (own_channels ds) (inner_definitions ds ++ inner p) b
              (among_right (inner_definitions ds) (inner p) b u)))
              (Each-right (IsRight t) asked (asks t p) r),
        )
    keeps scope (Go x k) h f e c r = request_keeps scope f x k h.0 h.1 r
    keeps scope (Fail x k) h f e c r = request_keeps scope f x k h.0 h.1 r
    keeps scope Halt h f e c r = tt

    all_keep : (scope : List ℕ) (ps : Processes) → AreTerms known scope ps → HaveSorts scope
        → Each IsEntry (entries_of_all args channel seen ps) → AreChannels (inner_all ps)
        → Each (IsRight t) (asks_of_all t ps) → KeepsAll t [] ps
    all_keep scope none h f e c r = tt
    all_keep scope (one_more p ps) h f e c r = (
      keeps scope p h.0 f
          (Each-left IsEntry (entries args channel seen p) (entries_of_all args channel seen ps) e)
          (λ b u. c b (among_left (inner p) (inner_all ps) b u))
          (Each-left (IsRight t) (asks t p) (asks_of_all t ps) r),
      all_keep scope ps h.1 f
          (Each-right IsEntry (entries args channel seen p) (entries_of_all args channel seen ps) e)
          (λ b u. c b (among_right (inner p) (inner_all ps) b u))
          (Each-right (IsRight t) (asks t p) (asks_of_all t ps) r),
    )

    definition_keeps : (scope : List ℕ) (d : Definition) → IsDefinition known scope d → IsNamed d
        → HaveSorts scope → Each IsEntry (entries_of_definition args channel seen d)
        → AreChannels (own_channels (and_also d no_definition)) → AreChannels (inner_definition d)
        → Each (IsRight t) (asks_of_definition t d) → KeepsDefinition t [] d
    definition_keeps scope (Rule ps p) h n f e o c r =
        let own = pattern_entries args channel seen ps in
        let body = entries args channel seen p in
        let pats = patterns_keep ps (λ b u. o b (among_left (channels_of ps) [] b u))
        (Each-left IsEntry own body e) (Each-left (IsRight t) (pattern_asks t ps) (asks t p) r) in (
          pats.0,
          keeps (params_of ps ++ scope) p h.1 (have_both (params_of ps) scope pats.1 f)
              (Each-right IsEntry own body e) c
              (Each-right (IsRight t) (pattern_asks t ps) (asks t p) r),
        )
    definition_keeps scope (Place a ds p) h n f e o c r =
        let levels = entries_of_definitions args channel seen ds in
        let body = entries args channel seen p in
        let e_in = Each-right IsEntry (place_entry a) (levels ++ body) e in (
          place_has a n.0 (Each-left IsEntry (place_entry a) (levels ++ body) e),
          definitions_keep scope ds h.0 n.1 f (Each-left IsEntry levels body e_in)
              (λ b u. o b (among_left (own_channels ds) [] b u))
              (λ b u. c b (among_left (inner_definitions ds) (inner p) b u))
              (Each-left (IsRight t) (asks_of_definitions t ds) (asks t p) r),
          keeps scope p h.1 f (Each-right IsEntry levels body e_in)
              (λ b u. c b (among_right (inner_definitions ds) (inner p) b u))
              (Each-right (IsRight t) (asks_of_definitions t ds) (asks t p) r),
        )

    definitions_keep : (scope : List ℕ) (ds : Definitions) → AreDefinitions known scope ds
        → AreNamed ds → HaveSorts scope → Each IsEntry (entries_of_definitions args channel seen ds)
        → AreChannels (own_channels ds) → AreChannels (inner_definitions ds)
        → Each (IsRight t) (asks_of_definitions t ds) → KeepsDefinitions t [] ds
    definitions_keep scope no_definition h n f e o c r = tt
    definitions_keep scope (and_also d ds) h n f e o c r =
        let own = entries_of_definition args channel seen d in
        let rest = entries_of_definitions args channel seen ds in (
          definition_keeps scope d h.0 n.0 f (Each-left IsEntry own rest e)
              (λ b u. o b (own_first d ds b u))
              (λ b u. c b (among_left (inner_definition d) (inner_definitions ds) b u))
              (Each-left (IsRight t) (asks_of_definition t d) (asks_of_definitions t ds) r),
          definitions_keep scope ds h.1 n.1 f (Each-right IsEntry own rest e)
              (λ b u. o b (own_rest d ds b u))
              (λ b u. c b (among_right (inner_definition d) (inner_definitions ds) b u))
              (Each-right (IsRight t) (asks_of_definition t d) (asks_of_definitions t ds) r),
        )

-- ---- observed names

used_named : (uses : List SortUse) (text : List ℕ) (s : SortArg) → used_as uses text ≡ Some s
    → IsADefined s
used_named [] text s e = cc
used_named (u ∷ uses) text s e = go (bytes_eq text u.spell) e (used_named uses text s)
  where
    go : (v : Bool) → cond v (Some (arg.Named u.sort)) (used_as uses text) ≡ Some s
        → (used_as uses text ≡ Some s → IsADefined s) → IsADefined s
    go true f ih = let is : arg.Named u.sort ≡ s = cc in subst IsADefined is tt
    go false f ih = ih f

declared_named : (uses : List SortUse) (o : Option SeenDecl) (s : SortArg)
    → declared_as uses o ≡ Some s → IsADefined s
declared_named uses None s e = cc
declared_named uses (Some d) s e = used_named uses d.spell s e

-- what is asked of declarations, by number
module _ (t : Sorting) where
  asked_at : (k : ℕ) (ds : List SeenDecl) → Each (IsRight t) (declaration_asks t k ds)
      → (i : ℕ) (d : SeenDecl) → slice_get ds i ≡ Some d
      → IsRight t (ask (defines d.count) (t.seen (k + i)))
  asked_at k [] r i d e = cc
  asked_at k (x ∷ ds) r zero d e =
      let is : x ≡ d = cc in
      subst (λ (i : ℕ). IsRight t (ask (defines d.count) (t.seen i))) (omega arith)
      (subst (λ (y : SeenDecl). IsRight t (ask (defines y.count) (t.seen k))) is r.0)
  asked_at k (x ∷ ds) r (suc i) d e =
      subst (λ (j : ℕ). IsRight t (ask (defines d.count) (t.seen j))) (omega arith)
      (asked_at (k + 1) ds r.1 i d e)

there : (ds : List SeenDecl) (i : ℕ) → i < length ds → (d : SeenDecl) × (slice_get ds i ≡ Some d)
there [] i h = absurd (omega arith)
there (d ∷ ds) zero h = (d, refl)
there (d ∷ ds) (suc i) h = there ds i (omega arith)

-- ---- a program

pub what_passes_is_sorted : WhatPassesIsSorted
what_passes_is_sorted sorts p program passes =
    let t = sorting sorts p in
    let args = args_of sorts.decls in
    let channel = channel_sort sorts.uses p.spell in
    let seen = seen_sort sorts.uses p.seen in
    let D = places p.sites in
    let es = program_entries sorts p in
    let seen_right =
    Each-left (IsRight t) (declaration_asks t 0 p.seen) (asks_of_definitions t D) passes in
    let terms_right =
    Each-right (IsRight t) (declaration_asks t 0 p.seen) (asks_of_definitions t D) passes in
    let declared : (i : ℕ) → i < length p.seen → HasSome (seen i) =
    λ i h. (let d = there p.seen i h in let r = right_defining t (seen i)
    d.0.count (subst (λ (j : ℕ). IsRight t (ask (defines d.0.count) (seen j))) (omega arith)
    (asked_at t 0 p.seen seen_right i d.0 d.1)) in (arg.Named r.0, r.1)) in
    let few : (b : ℕ) → keyed es b + once (own_channels D ++ inner_definitions D) b ≤ 1 =
    λ b. omega (
      arith,
      whole_counted args channel seen (IsDeclared p.version (length p.seen)) (block D) D
          program.one_block program.terms b,
      program.bound_once b,
    ) in
    let entered : Each (λ (e : Entry). binder_sort sorts p e.binder ≡ e.sort) es =
    all_in (λ (e : Entry). binder_sort sorts p e.binder ≡ e.sort) es
    (λ e i. found_entry channel es e i (omega (arith, few e.binder))) in
    let channels : (b : ℕ) → is_among (own_channels D ++ inner_definitions D) b ≡ true
    → binder_sort sorts p b ≡ channel b =
    λ b u. (let one : once (own_channels D ++ inner_definitions D) b ≡ 1 = ap (λ v. cond v 1 0) u in
    no_entry channel es b (omega (arith, few b))) in
    record {
      observed = λ i s e. declared_named sorts.uses (slice_get p.seen i) s e;
      counts = λ i j d e s. (let r = right_defining t (seen i)
          d.count (subst (λ (k : ℕ). IsRight t (ask (defines d.count) (seen k))) (omega arith)
          (asked_at t 0 p.seen seen_right i d e)) in let same : r.0 ≡ j =
          (let both : Some (arg.Named r.0) ≡ Some (arg.Named j) = sym r.1 ∙ s in cc) in
          sym r.2 ∙ ap (λ k. length (args k)) same);
      terms = definitions_keep args channel seen (binder_sort sorts p) p.version (length p.seen)
          declared (block D) D program.terms program.one_block.places
          (block_some args channel seen (binder_sort sorts p) p.version (length p.seen) declared D
          entered terms_right) entered
          (λ b u. channels b (among_left (own_channels D) (inner_definitions D) b u))
          (λ b u. channels b (among_right (own_channels D) (inner_definitions D) b u)) terms_right;
    }
