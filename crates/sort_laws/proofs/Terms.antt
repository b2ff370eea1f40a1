-- Terms that keep the sorts of their names keep them where more names are given, and where they are
-- filled.
use Rattle.std.proofs.Common.{◌≡◌, ℕ, List, [], ◌∷◌, ◌++◌, Some, Bool, true, false, cond, refl, sym}
use Rattle.std.proofs.Common.{ap, ◌∙◌, subst, ◌==◌, eqb-true, inl, inr}
use Rattle.chem_model.specs.declared.name.Name.{Name}
use Rattle.chem_model.specs.declared.name.Name.TheVariants as name
use Rattle.chem_model.specs.declared.name.Ref.{Ref}
use Rattle.chem_model.specs.declared.name.Ref.TheVariants.{Binder, Known}
use Rattle.chem_model.specs.declared.name.Pat.{Pat}
use Rattle.chem_model.specs.declared.numbered.Named.{Named}
use Rattle.chem_model.specs.declared.numbered.NumberedRule.{NumberedRule}
use Rattle.chem_model.specs.Process.{Process, Msg, Par, Def, Go, Fail, Halt, Processes, none}
use Rattle.chem_model.specs.Process.{one_more, Definition, Rule, Place, Definitions, no_definition}
use Rattle.chem_model.specs.Process.{and_also}
use Rattle.chem_model.specs.Each.{Each, IsIn}
use Rattle.chem_model.specs.Fill.{Naming, name_at, or_binder, fill_ref, fill_refs, fill_pats, fill}
use Rattle.chem_model.specs.Fill.{fill_all, fill_definition, fill_definitions}
use Rattle.chem_model.specs.Operations.{add, same}
use Rattle.sort_laws.specs.declared.sorts.SortArg.{SortArg}
use Rattle.sort_laws.specs.Sorted.{Sorting, HasSort, RefHas, Takes, IsChannel, KeepsArguments}
use Rattle.sort_laws.specs.Sorted.{KeepsAdd, KeepsSame, KeepsAs, KeepsMessage, KeepsPattern, Keeps}
use Rattle.sort_laws.specs.Sorted.{KeepsAll, KeepsDefinition, KeepsDefinitions, KeepsRule}

-- ---- members of lists

pub in_left : {X : Type 0} (x : X) (xs ys : List X) → IsIn x xs → IsIn x (xs ++ ys)
in_left x [] ys h = absurd h
in_left x (z ∷ xs) ys (inl e) = inl e
in_left x (z ∷ xs) ys (inr h) = inr (in_left x xs ys h)

pub in_right : {X : Type 0} (x : X) (xs ys : List X) → IsIn x ys → IsIn x (xs ++ ys)
in_right x [] ys h = h
in_right x (z ∷ xs) ys h = inr (in_right x xs ys h)

-- each member of the first list is one of the second
abbrev pub Within : Naming → Naming → Type 0
Within xs ys = Each (λ (e : Named). IsIn e ys) xs

pub each_in : {X : Type 0} (P : X → Type 0) (x : X) (xs : List X) → Each P xs → IsIn x xs → P x
each_in P x [] h i = absurd i
each_in P x (z ∷ xs) h (inl e) = subst P (sym e) h.0
each_in P x (z ∷ xs) h (inr i) = each_in P x xs h.1 i

pub all_in : {X : Type 0} (P : X → Type 0) (xs : List X) → ((x : X) → IsIn x xs → P x) → Each P xs
all_in P [] f = tt
all_in P (x ∷ xs) f = (f x (inl refl), all_in P xs (λ z i. f z (inr i)))

pub all_within : (xs : Naming) → Within xs xs
all_within xs = all_in (λ (e : Named). IsIn e xs) xs (λ e i. i)

-- ---- more names

module _ (t : Sorting) (N M : Naming) (more : (e : Named) → IsIn e N → IsIn e M) where
  pub has_more : (n : Name) (s : SortArg) → HasSort t N n s → HasSort t M n s
  has_more (name.Seen i) s h = h
  has_more (name.Place a) s h = h
  has_more (name.Chan site k l) s h =
      record { entry = h.entry; given = more h.entry h.given; name = h.name; sort = h.sort }
  has_more (name.Num n) s h = h
  has_more (name.Op i) s h = h

  pub ref_more : (r : Ref) (s : SortArg) → RefHas t N r s → RefHas t M r s
  ref_more (Binder b) s h = h
  ref_more (Known n) s h = has_more n s h

  pub channel_more : (r : Ref) (ss : List SortArg) → IsChannel t N r ss → IsChannel t M r ss
  channel_more r ss h = record { sort = h.sort; has = ref_more r _ h.has; args = h.args }

  pub takes_more : (rs : List Ref) (ss : List SortArg) → Takes t N rs ss → Takes t M rs ss
  takes_more [] [] h = tt
  takes_more [] (s ∷ ss) h = absurd h
  takes_more (r ∷ rs) [] h = absurd h
  takes_more (r ∷ rs) (s ∷ ss) h = (ref_more r s h.0, takes_more rs ss h.1)

  arguments_more : (x : Ref) (vs : List Ref) → KeepsArguments t N x vs → KeepsArguments t M x vs
  arguments_more x vs h = record {
    sorts = h.sorts;
    channel = channel_more x h.sorts h.channel;
    takes = takes_more vs h.sorts h.takes;
  }

  add_more : (vs : List Ref) → KeepsAdd t N vs → KeepsAdd t M vs
  add_more (u ∷ v ∷ k ∷ []) h = (ref_more u _ h.0, ref_more v _ h.1, channel_more k _ h.2)
  add_more [] h = absurd h
  add_more (u ∷ []) h = absurd h
  add_more (u ∷ v ∷ []) h = absurd h
  add_more (u ∷ v ∷ k ∷ x ∷ xs) h = absurd h

  same_more : (vs : List Ref) → KeepsSame t N vs → KeepsSame t M vs
  same_more (u ∷ v ∷ k ∷ m ∷ []) h =
      (ref_more u _ h.0, ref_more v _ h.1, channel_more k [] h.2, channel_more m [] h.3)
  same_more [] h = absurd h
  same_more (u ∷ []) h = absurd h
  same_more (u ∷ v ∷ []) h = absurd h
  same_more (u ∷ v ∷ k ∷ []) h = absurd h
  same_more (u ∷ v ∷ k ∷ m ∷ x ∷ xs) h = absurd h

  operation_more : (is_add is_same : Bool) (vs : List Ref) → KeepsAs is_add is_same t N vs
      → KeepsAs is_add is_same t M vs
  operation_more true c vs h = add_more vs h
  operation_more false true vs h = same_more vs h
  operation_more false false vs h = h

  message_more : (x : Ref) (vs : List Ref) → KeepsMessage t N x vs → KeepsMessage t M x vs
  message_more (Binder b) vs h = arguments_more (Binder b) vs h
  message_more (Known (name.Seen i)) vs h = arguments_more (Known (name.Seen i)) vs h
  message_more (Known (name.Place a)) vs h = arguments_more (Known (name.Place a)) vs h
  message_more (Known (name.Chan j k l)) vs h = arguments_more (Known (name.Chan j k l)) vs h
  message_more (Known (name.Num n)) vs h = arguments_more (Known (name.Num n)) vs h
  message_more (Known (name.Op i)) vs h = operation_more (i == add) (i == same) vs h

  pub pats_more : (ps : List Pat) → Each (KeepsPattern t N) ps → Each (KeepsPattern t M) ps
  pats_more [] h = tt
  pats_more (p ∷ ps) h = (
    record {
      sorts = h.0.sorts;
      channel = channel_more p.on h.0.sorts h.0.channel;
      receives = h.0.receives;
    },
    pats_more ps h.1,
  )

  mutual
    pub keeps_more : (p : Process) → Keeps t N p → Keeps t M p
    keeps_more (Msg x vs) h = message_more x vs h
    keeps_more (Par ps) h = all_more ps h
    keeps_more (Def ds p) h = (definitions_more ds h.0, keeps_more p h.1)
    keeps_more (Go b k) h = (ref_more b _ h.0, channel_more k [] h.1)
    keeps_more (Fail b k) h = (ref_more b _ h.0, channel_more k [] h.1)
    keeps_more Halt h = tt

    pub all_more : (ps : Processes) → KeepsAll t N ps → KeepsAll t M ps
    all_more none h = tt
    all_more (one_more p ps) h = (keeps_more p h.0, all_more ps h.1)

    pub definition_more : (d : Definition) → KeepsDefinition t N d → KeepsDefinition t M d
    definition_more (Rule ps p) h = (pats_more ps h.0, keeps_more p h.1)
    definition_more (Place a ds p) h = (ref_more a _ h.0, definitions_more ds h.1, keeps_more p h.2)

    pub definitions_more : (ds : Definitions) → KeepsDefinitions t N ds → KeepsDefinitions t M ds
    definitions_more no_definition h = tt
    definitions_more (and_also d ds) h = (definition_more d h.0, definitions_more ds h.1)

  pub rule_more : (r : NumberedRule) → KeepsRule t N r → KeepsRule t M r
  rule_more r h = (pats_more r.pats h.0, keeps_more r.body h.1)

-- ---- a message on a channel

module _ (t : Sorting) (N : Naming) where
  pub arguments_keep : (x : Ref) (vs : List Ref) → KeepsArguments t N x vs → KeepsMessage t N x vs
  arguments_keep (Binder b) vs h = h
  arguments_keep (Known (name.Seen i)) vs h = h
  arguments_keep (Known (name.Place a)) vs h = h
  arguments_keep (Known (name.Chan j k l)) vs h = h
  arguments_keep (Known (name.Num n)) vs h = h
  arguments_keep (Known (name.Op i)) vs h = absurd h.channel.has

  pub channel_takes : (x : Ref) (ss : List SortArg) (vs : List Ref) → IsChannel t N x ss
      → KeepsMessage t N x vs → KeepsArguments t N x vs
  channel_takes (Binder b) ss vs c h = h
  channel_takes (Known (name.Seen i)) ss vs c h = h
  channel_takes (Known (name.Place a)) ss vs c h = h
  channel_takes (Known (name.Chan j k l)) ss vs c h = h
  channel_takes (Known (name.Num n)) ss vs c h = h
  channel_takes (Known (name.Op i)) ss vs c h = absurd c.has

-- ---- filling

-- the name that is put in has the sort of its binder
abbrev pub Fits : Sorting → Naming → Named → Type 0
Fits t N e = (s : SortArg) → t.binder e.binder ≡ Some s → HasSort t N e.name s

abbrev pub AllFit : Sorting → Naming → Naming → Type 0
AllFit t N m = Each (Fits t N) m

pub fits_more : (t : Sorting) (N M : Naming) → ((e : Named) → IsIn e N → IsIn e M) → (m : Naming)
    → AllFit t N m → AllFit t M m
fits_more t N M more [] h = tt
fits_more t N M more (e ∷ m) h =
    (λ s i. has_more t N M more e.name s (h.0 s i), fits_more t N M more m h.1)

module _ (t : Sorting) (N m : Naming) (fit : AllFit t N m) where
  found : (es : Naming) → AllFit t N es → (b : ℕ) (s : SortArg) → t.binder b ≡ Some s
      → RefHas t N (or_binder b (name_at es b)) s
  found [] g b s h = h
  found (e ∷ es) g b s h = go (e.binder == b) refl (found es g.1 b s h)
    where
      go : (x : Bool) → e.binder == b ≡ x → RefHas t N (or_binder b (name_at es b)) s
          → RefHas t N (or_binder b (cond x (Some e.name) (name_at es b))) s
      go true c ih = g.0 s (ap (λ i. t.binder i) (eqb-true e.binder b c) ∙ h)
      go false c ih = ih

  pub ref_filled : (r : Ref) (s : SortArg) → RefHas t N r s → RefHas t N (fill_ref m r) s
  ref_filled (Binder b) s h = found m fit b s h
  ref_filled (Known n) s h = h

  pub channel_filled : (r : Ref) (ss : List SortArg) → IsChannel t N r ss
      → IsChannel t N (fill_ref m r) ss
  channel_filled r ss h = record { sort = h.sort; has = ref_filled r _ h.has; args = h.args }

  pub takes_filled : (rs : List Ref) (ss : List SortArg) → Takes t N rs ss
      → Takes t N (fill_refs m rs) ss
  takes_filled [] [] h = tt
  takes_filled [] (s ∷ ss) h = absurd h
  takes_filled (r ∷ rs) [] h = absurd h
  takes_filled (r ∷ rs) (s ∷ ss) h = (ref_filled r s h.0, takes_filled rs ss h.1)

  arguments_filled : (x : Ref) (vs : List Ref) → KeepsArguments t N x vs
      → KeepsMessage t N (fill_ref m x) (fill_refs m vs)
  arguments_filled x vs h = arguments_keep t N (fill_ref m x) (fill_refs m vs) (record {
    sorts = h.sorts;
    channel = channel_filled x h.sorts h.channel;
    takes = takes_filled vs h.sorts h.takes;
  })

  add_filled : (vs : List Ref) → KeepsAdd t N vs → KeepsAdd t N (fill_refs m vs)
  add_filled (u ∷ v ∷ k ∷ []) h = (ref_filled u _ h.0, ref_filled v _ h.1, channel_filled k _ h.2)
  add_filled [] h = absurd h
  add_filled (u ∷ []) h = absurd h
  add_filled (u ∷ v ∷ []) h = absurd h
  add_filled (u ∷ v ∷ k ∷ x ∷ xs) h = absurd h

  same_filled : (vs : List Ref) → KeepsSame t N vs → KeepsSame t N (fill_refs m vs)
  same_filled (u ∷ v ∷ k ∷ x ∷ []) h =
      (ref_filled u _ h.0, ref_filled v _ h.1, channel_filled k [] h.2, channel_filled x [] h.3)
  same_filled [] h = absurd h
  same_filled (u ∷ []) h = absurd h
  same_filled (u ∷ v ∷ []) h = absurd h
  same_filled (u ∷ v ∷ k ∷ []) h = absurd h
  same_filled (u ∷ v ∷ k ∷ x ∷ y ∷ ys) h = absurd h

  operation_filled : (is_add is_same : Bool) (vs : List Ref) → KeepsAs is_add is_same t N vs
      → KeepsAs is_add is_same t N (fill_refs m vs)
  operation_filled true c vs h = add_filled vs h
  operation_filled false true vs h = same_filled vs h
  operation_filled false false vs h = h

  pub message_filled : (x : Ref) (vs : List Ref) → KeepsMessage t N x vs
      → KeepsMessage t N (fill_ref m x) (fill_refs m vs)
  message_filled (Binder b) vs h = arguments_filled (Binder b) vs h
  message_filled (Known (name.Seen i)) vs h = arguments_filled (Known (name.Seen i)) vs h
  message_filled (Known (name.Place a)) vs h = arguments_filled (Known (name.Place a)) vs h
  message_filled (Known (name.Chan j k l)) vs h = arguments_filled (Known (name.Chan j k l)) vs h
  message_filled (Known (name.Num n)) vs h = arguments_filled (Known (name.Num n)) vs h
  message_filled (Known (name.Op i)) vs h = operation_filled (i == add) (i == same) vs h

  pub pats_filled : (ps : List Pat) → Each (KeepsPattern t N) ps
      → Each (KeepsPattern t N) (fill_pats m ps)
  pats_filled [] h = tt
  pats_filled (p ∷ ps) h = (
    record {
      sorts = h.0.sorts;
      channel = channel_filled p.on h.0.sorts h.0.channel;
      receives = h.0.receives;
    },
    pats_filled ps h.1,
  )

  mutual
    pub process_filled : (p : Process) → Keeps t N p → Keeps t N (fill m p)
    process_filled (Msg x vs) h = message_filled x vs h
    process_filled (Par ps) h = processes_filled ps h
    process_filled (Def ds p) h = (definitions_filled ds h.0, process_filled p h.1)
    process_filled (Go b k) h = (ref_filled b _ h.0, channel_filled k [] h.1)
    process_filled (Fail b k) h = (ref_filled b _ h.0, channel_filled k [] h.1)
    process_filled Halt h = tt

    pub processes_filled : (ps : Processes) → KeepsAll t N ps → KeepsAll t N (fill_all m ps)
    processes_filled none h = tt
    processes_filled (one_more p ps) h = (process_filled p h.0, processes_filled ps h.1)

    pub definition_filled : (d : Definition) → KeepsDefinition t N d
        → KeepsDefinition t N (fill_definition m d)
    definition_filled (Rule ps p) h = (pats_filled ps h.0, process_filled p h.1)
    definition_filled (Place a ds p) h =
        (ref_filled a _ h.0, definitions_filled ds h.1, process_filled p h.2)

    pub definitions_filled : (ds : Definitions) → KeepsDefinitions t N ds
        → KeepsDefinitions t N (fill_definitions m ds)
    definitions_filled no_definition h = tt
    definitions_filled (and_also d ds) h = (definition_filled d h.0, definitions_filled ds h.1)
