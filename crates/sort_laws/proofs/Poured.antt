-- What is poured keeps the sorts of its names.
use Rattle.std.proofs.Common.{◌≡◌, ℕ, ◌+◌, List, [], ◌∷◌, ◌++◌, Option, Some, None, Bool, true}
use Rattle.std.proofs.Common.{false, cond, refl, subst, length, ◌==◌}
use Rattle.std.specs.Prelude.{slice_get, slice_index, nat_le}
use Rattle.chem_model.specs.declared.name.Loc.{Loc}
use Rattle.chem_model.specs.declared.name.Name.{Name}
use Rattle.chem_model.specs.declared.name.Name.TheVariants as name
use Rattle.chem_model.specs.declared.name.Ref.{Ref}
use Rattle.chem_model.specs.declared.name.Ref.TheVariants.{Binder, Known}
use Rattle.chem_model.specs.declared.name.Pat.{Pat}
use Rattle.chem_model.specs.declared.numbered.Named.{Named}
use Rattle.chem_model.specs.declared.numbered.NumberedRule.{NumberedRule}
use Rattle.chem_model.specs.declared.numbered.NumberedAtom.{NumberedAtom}
use Rattle.chem_model.specs.declared.numbered.Numbered.{Numbered}
use Rattle.chem_model.specs.declared.numbered.Made.{Made}
use Rattle.chem_model.specs.Process.{Process, Msg, Par, Def, Go, Fail, Halt, Processes, none}
use Rattle.chem_model.specs.Process.{one_more, Rule, Place, Definitions, no_definition, and_also}
use Rattle.chem_model.specs.Each.{Each, IsIn}
use Rattle.chem_model.specs.Fill.{Naming, name_at, fill_ref, fill_refs}
use Rattle.chem_model.specs.Solution.{root}
use Rattle.chem_model.specs.Reduction.{all_known}
use Rattle.chem_model.specs.declared.operation.Became.{Became}
use Rattle.chem_model.specs.Operations.{add, same, largest, number_of, sum_to, choice_of, added}
use Rattle.chem_model.specs.Operations.{compared, operated, number_in, became_args}
use Rattle.chem_model.specs.Numbered.{standing}
use Rattle.chem_model.specs.Pour.{Drawn, name_channel, name_ref, name_pats, name_channels}
use Rattle.chem_model.specs.Pour.{name_place, name_places, naming, births_of, names_made, is_count}
use Rattle.chem_model.specs.Pour.{known, out_made, atom_made, said_made, operated_made}
use Rattle.chem_model.specs.Pour.{message_made, loc_or, lay_rules, rules_made, then_made, pour}
use Rattle.chem_model.specs.Pour.{pour_all, lay_places, lay, add_made, pour_at, lay_at}
use Rattle.chem_laws.proofs.Lists.{Each-append, Each-left, Each-right, Each-weaker}
use Rattle.sort_laws.specs.declared.sorts.SortArg.TheVariants as arg
use Rattle.sort_laws.specs.Sorted.{Sorting, HasSort, RefHas, IsChannel, KeepsAdd, KeepsSame}
use Rattle.sort_laws.specs.Sorted.{KeepsAs, KeepsOperation, KeepsMessage, KeepsPattern, Keeps}
use Rattle.sort_laws.specs.Sorted.{KeepsAll, KeepsDefinitions, KeepsRule, MayBeGiven, IsWellSorted}
use Rattle.sort_laws.proofs.Terms.{in_left, in_right, Within, all_in, rule_more, keeps_more}
use Rattle.sort_laws.proofs.Terms.{definitions_more, Fits, AllFit, fits_more, arguments_keep}
use Rattle.sort_laws.proofs.Terms.{ref_filled, channel_filled, message_filled, pats_filled}
use Rattle.sort_laws.proofs.Terms.{process_filled}

-- ---- naming: a location is given to a binder of the sort of locations, and a channel to one of a
-- defined sort

abbrev pub AreFine : Sorting → Naming → Type 0
AreFine t = Each (λ (e : Named). MayBeGiven t e.binder e.name)

module _ (t : Sorting) (s : ℕ) (N : Naming) where
  channel_fine : (o : Option Name) (l : Loc) (b j : ℕ) (a : Drawn) → t.binder b ≡ Some (arg.Named j)
      → AreFine t a.names → AreFine t (name_channel o s l b a).names
  channel_fine None l b j a k h = Each-append (λ (e : Named). MayBeGiven t e.binder e.name)
      a.names (record { binder = b; name = name.Chan s a.next l } ∷ []) h ((j, k), tt)
  channel_fine (Some n) l b j a k h = h

  ref_fine : (l : Loc) (r : Ref) (j : ℕ) (a : Drawn) → RefHas t N r (arg.Named j)
      → AreFine t a.names → AreFine t (name_ref s l r a).names
  ref_fine l (Binder b) j a k h = channel_fine (name_at a.names b) l b j a k h
  ref_fine l (Known n) j a k h = h

  pats_fine : (l : Loc) (ps : List Pat) (a : Drawn) → Each (KeepsPattern t N) ps → AreFine t a.names
      → AreFine t (name_pats s l ps a).names
  pats_fine l [] a k h = h
  pats_fine l (p ∷ ps) a k h = pats_fine l ps (name_ref s l p.on a)
      k.1 (ref_fine l p.on k.0.channel.sort a k.0.channel.has h)

  channels_fine : (l : Loc) (ds : Definitions) (a : Drawn) → KeepsDefinitions t N ds
      → AreFine t a.names → AreFine t (name_channels s l ds a).names
  channels_fine l no_definition a k h = h
  channels_fine l (and_also (Rule ps p) ds) a k h =
      channels_fine l ds (name_pats s l ps a) k.1 (pats_fine l ps a k.0.0 h)
  channels_fine l (and_also (Place x es p) ds) a k h = channels_fine l ds a k.1 h

  place_fine : (r : Ref) (a : Drawn) → RefHas t N r arg.Place → AreFine t a.names
      → AreFine t (name_place s r a).names
  place_fine (Binder b) a k h = Each-append (λ (e : Named). MayBeGiven t e.binder e.name) a.names
      (record { binder = b; name = name.Place (record { site = s; k = a.next }) } ∷ []) h (k, tt)
  place_fine (Known n) a k h = h

  places_fine : (ds : Definitions) (a : Drawn) → KeepsDefinitions t N ds → AreFine t a.names
      → AreFine t (name_places s ds a).names
  places_fine no_definition a k h = h
  places_fine (and_also (Rule ps p) ds) a k h = places_fine ds a k.1 h
  places_fine (and_also (Place x es p) ds) a k h =
      let l : Loc = record { site = s; k = a.next } in
      places_fine ds (name_channels s l es (name_place s x a))
      k.1 (channels_fine l es (name_place s x a) k.0.1 (place_fine x a k.0.0 h))

  pub naming_fine : (l : Loc) (ds : Definitions) (k : ℕ) → KeepsDefinitions t N ds
      → AreFine t (naming s l ds k).names
  naming_fine l ds k h = places_fine ds (name_channels s l ds (record { next = k; names = [] })) h
      (channels_fine l ds (record { next = k; names = [] }) h tt)

module _ (t : Sorting) (N : Naming) where
  fine_fits : (e : Named) → MayBeGiven t e.binder e.name → IsIn e N → Fits t N e
  fine_fits e f i s h = go e.name refl f
    where
      go : (n : Name) → e.name ≡ n → MayBeGiven t e.binder n → HasSort t N n s
      go (name.Seen j) c g = absurd g
      go (name.Place a) c g = let is : s ≡ arg.Place = cc in is
      go (name.Chan j k l) c g = record { entry = e; given = i; name = c; sort = h }
      go (name.Num j) c g = absurd g
      go (name.Op j) c g = absurd g

  pub fine_fit : (m : Naming) → AreFine t m → Within m N → AllFit t N m
  fine_fit [] f w = tt
  fine_fit (e ∷ m) f w = (fine_fits e f.0 w.0, fine_fit m f.1 w.1)

-- ---- what is made

module _ (t : Sorting) (N : Naming) where
  abbrev pub AtomsKeep : List NumberedAtom → Type 0
  AtomsKeep = Each (λ (a : NumberedAtom). Keeps t N a.term)

  abbrev pub RulesKeep : List NumberedRule → Type 0
  RulesKeep = Each (KeepsRule t N)

  abbrev pub MadeKeeps : Made → Type 0
  MadeKeeps a = AtomsKeep a.atoms × RulesKeep a.rules × AreFine t a.named

  abbrev pub IsGiven : Made → Type 0
  IsGiven a = Within a.named N

  then_keeps : (a b : Made) → MadeKeeps a → MadeKeeps b → MadeKeeps (then_made a b)
  then_keeps a b h g = (
    Each-append (λ (x : NumberedAtom). Keeps t N x.term) a.atoms b.atoms h.0 g.0,
    Each-append (KeepsRule t N) a.rules b.rules h.1 g.1,
    Each-append (λ (e : Named). MayBeGiven t e.binder e.name) a.named b.named h.2 g.2,
  )

  given_left : (a b : Made) → IsGiven (then_made a b) → IsGiven a
  given_left a b = Each-left (λ (e : Named). IsIn e N) a.named b.named

  given_right : (a b : Made) → IsGiven (then_made a b) → IsGiven b
  given_right a b = Each-right (λ (e : Named). IsIn e N) a.named b.named

  -- ---- what an operation becomes

  -- the message to which a sum goes, and the one that a comparison sends
  sum_sent : (n : ℕ) (k : Name) → IsChannel t N (Known k) (arg.Num ∷ [])
      → KeepsMessage t N (Known k) (all_known (number_in (Some n)))
  sum_sent n k h = arguments_keep t N (Known k) (Known (name.Num n) ∷ [])
      (record { sorts = arg.Num ∷ []; channel = h; takes = (refl, tt) })

  choice_sent : (k : Name) → IsChannel t N (Known k) []
      → KeepsMessage t N (Known k) (all_known (number_in None))
  choice_sent k h = arguments_keep t N (Known k) [] (record { sorts = []; channel = h; takes = tt })

  abbrev BecameKeeps : Became → Type 0
  BecameKeeps b = KeepsMessage t N (Known b.on) (all_known (became_args b))

  sum_keeps : (u v : Option ℕ) (k : Name) (b : Became) → IsChannel t N (Known k) (arg.Num ∷ [])
      → sum_to u v k ≡ Some b → BecameKeeps b
  sum_keeps None v k b h e = cc
  sum_keeps (Some u) None k b h e = cc
  sum_keeps (Some u) (Some v) k b h e = go (nat_le (u + v) largest) e
    where
      go : (fits : Bool) → cond fits (Some (record { on = k; sum = Some (u + v) })) None ≡ Some b
          → BecameKeeps b
      go true f =
          let made : Became = record { on = k; sum = Some (u + v) } in
          let is : made ≡ b = cc in
          subst BecameKeeps is (sum_sent (u + v) k h)
      go false f = cc

  choice_keeps : (u v : Option ℕ) (k m : Name) (b : Became) → IsChannel t N (Known k) []
      → IsChannel t N (Known m) [] → choice_of u v k m ≡ Some b → BecameKeeps b
  choice_keeps None v k m b h g e = cc
  choice_keeps (Some u) None k m b h g e = cc
  choice_keeps (Some u) (Some v) k m b h g e = go (u == v) e
    where
      go : (equal : Bool)
          → ◌≡◌ {A = Option Became} (Some (record { on = cond equal k m; sum = None })) (Some b)
          → BecameKeeps b
      go true f =
          let made : Became = record { on = k; sum = None } in
          let is : made ≡ b = cc in
          subst BecameKeeps is (choice_sent k h)
      go false f =
          let made : Became = record { on = m; sum = None } in
          let is : made ≡ b = cc in
          subst BecameKeeps is (choice_sent m g)

  added_keeps_sorts : (vs : List Ref) (b : Became) → KeepsAdd t N vs → added (known vs) ≡ Some b
      → BecameKeeps b
  added_keeps_sorts (Known u ∷ Known v ∷ Known k ∷ []) b h e =
      sum_keeps (number_of u) (number_of v) k b h.2 e
  added_keeps_sorts (Known u ∷ Known v ∷ Binder k ∷ []) b h e = cc
  added_keeps_sorts (Known u ∷ Binder v ∷ Known k ∷ []) b h e = cc
  added_keeps_sorts (Known u ∷ Binder v ∷ Binder k ∷ []) b h e = cc
  added_keeps_sorts (Binder u ∷ Known v ∷ Known k ∷ []) b h e = cc
  added_keeps_sorts (Binder u ∷ Known v ∷ Binder k ∷ []) b h e = cc
  added_keeps_sorts (Binder u ∷ Binder v ∷ Known k ∷ []) b h e = cc
  added_keeps_sorts (Binder u ∷ Binder v ∷ Binder k ∷ []) b h e = cc
  added_keeps_sorts [] b h e = absurd h
  added_keeps_sorts (u ∷ []) b h e = absurd h
  added_keeps_sorts (u ∷ v ∷ []) b h e = absurd h
  added_keeps_sorts (u ∷ v ∷ k ∷ x ∷ xs) b h e = absurd h

  compared_keeps_sorts : (vs : List Ref) (b : Became) → KeepsSame t N vs
      → compared (known vs) ≡ Some b → BecameKeeps b
  compared_keeps_sorts (u ∷ v ∷ k ∷ m ∷ []) b h e = go u v k m h e
    where
      go : (u v k m : Ref) → KeepsSame t N (u ∷ v ∷ k ∷ m ∷ [])
          → compared (known (u ∷ v ∷ k ∷ m ∷ [])) ≡ Some b → BecameKeeps b
      go (Known u) (Known v) (Known k) (Known m) h e =
          choice_keeps (number_of u) (number_of v) k m b h.2 h.3 e
      go (Known u) (Known v) (Known k) (Binder m) h e = cc
      go (Known u) (Known v) (Binder k) (Known m) h e = cc
      go (Known u) (Known v) (Binder k) (Binder m) h e = cc
      go (Known u) (Binder v) (Known k) (Known m) h e = cc
      go (Known u) (Binder v) (Known k) (Binder m) h e = cc
      go (Known u) (Binder v) (Binder k) (Known m) h e = cc
      go (Known u) (Binder v) (Binder k) (Binder m) h e = cc
      go (Binder u) (Known v) (Known k) (Known m) h e = cc
      go (Binder u) (Known v) (Known k) (Binder m) h e = cc
      go (Binder u) (Known v) (Binder k) (Known m) h e = cc
      go (Binder u) (Known v) (Binder k) (Binder m) h e = cc
      go (Binder u) (Binder v) (Known k) (Known m) h e = cc
      go (Binder u) (Binder v) (Known k) (Binder m) h e = cc
      go (Binder u) (Binder v) (Binder k) (Known m) h e = cc
      go (Binder u) (Binder v) (Binder k) (Binder m) h e = cc
  compared_keeps_sorts [] b h e = absurd h
  compared_keeps_sorts (u ∷ []) b h e = absurd h
  compared_keeps_sorts (u ∷ v ∷ []) b h e = absurd h
  compared_keeps_sorts (u ∷ v ∷ k ∷ []) b h e = absurd h
  compared_keeps_sorts (u ∷ v ∷ k ∷ m ∷ x ∷ xs) b h e = absurd h

  operated_keeps : (op : ℕ) (vs : List Ref) (b : Became) → KeepsOperation t N op vs
      → operated op (known vs) ≡ Some b → BecameKeeps b
  operated_keeps op vs b h e = go (op == add) (op == same) h e
    where
      go : (is_add is_same : Bool) → KeepsAs is_add is_same t N vs
          → cond is_add (added (known vs)) (cond is_same (compared (known vs)) None) ≡ Some b
          → BecameKeeps b
      go true c g f = added_keeps_sorts vs b g f
      go false true g f = compared_keeps_sorts vs b g f
      go false false g f = absurd g

  module _ (seen : List ℕ) (s : ℕ) (r : Loc) where
    said_keeps : (l : Loc) (k : ℕ) (x : Ref) (vs : List Ref) → KeepsMessage t N x vs
        → MadeKeeps (said_made seen s l k x vs)
    said_keeps l k (Binder b) vs h = ((h, tt), tt, tt)
    said_keeps l k (Known (name.Seen i)) vs h = go (is_count (slice_get seen i) (length vs))
      where
        go : (b : Bool)
            → MadeKeeps
            (cond b (out_made k i (known vs)) (atom_made s l k (Msg (Known (name.Seen i)) vs)))
        go true = (tt, tt, tt)
        go false = ((h, tt), tt, tt)
    said_keeps l k (Known (name.Place a)) vs h = ((h, tt), tt, tt)
    said_keeps l k (Known (name.Chan j i g)) vs h = ((h, tt), tt, tt)
    said_keeps l k (Known (name.Num n)) vs h = ((h, tt), tt, tt)
    said_keeps l k (Known (name.Op i)) vs h = ((h, tt), tt, tt)

    message_keeps : (l : Loc) (k : ℕ) (x : Ref) (vs : List Ref) → KeepsMessage t N x vs
        → MadeKeeps (message_made seen s l k x vs)
    message_keeps l k (Binder b) vs h = said_keeps l k (Binder b) vs h
    message_keeps l k (Known (name.Seen i)) vs h = said_keeps l k (Known (name.Seen i)) vs h
    message_keeps l k (Known (name.Place a)) vs h = said_keeps l k (Known (name.Place a)) vs h
    message_keeps l k (Known (name.Chan j i g)) vs h = said_keeps l k (Known (name.Chan j i g)) vs h
    message_keeps l k (Known (name.Num n)) vs h = said_keeps l k (Known (name.Num n)) vs h
    message_keeps l k (Known (name.Op i)) vs h = go (operated i (known vs)) refl
      where
        go : (o : Option Became) → operated i (known vs) ≡ o
            → MadeKeeps (operated_made seen s l k i vs o)
        go None e = said_keeps l k (Known (name.Op i)) vs h
        go (Some b) e =
            said_keeps l k (Known b.on) (all_known (became_args b)) (operated_keeps i vs b h e)

    laid_keep : (m : Naming) (l : Loc) (k : ℕ) (ds : Definitions) → AllFit t N m
        → KeepsDefinitions t N ds → RulesKeep (lay_rules s m l k ds).rules
    laid_keep m l k no_definition f h = tt
    laid_keep m l k (and_also (Rule ps p) ds) f h = (
      (pats_filled t N m f ps h.0.0, process_filled t N m f p h.0.1),
      laid_keep m l (k + 1) ds f h.1,
    )
    laid_keep m l k (and_also (Place x es p) ds) f h = laid_keep m l k ds f h.1

    rules_keep : (m : Naming) (l : Loc) (k : ℕ) (ds : Definitions) → AllFit t N m
        → KeepsDefinitions t N ds → MadeKeeps (rules_made (lay_rules s m l k ds))
    rules_keep m l k ds f h = (tt, laid_keep m l k ds f h, tt)

    mutual
      pub pour_keeps : (p : Process) (m : Naming) (l : Loc) (k : ℕ) → AllFit t N m → Keeps t N p
          → IsGiven (pour seen s r m l k p) → MadeKeeps (pour seen s r m l k p)
      pour_keeps (Msg x vs) m l k f h g =
          message_keeps l k (fill_ref m x) (fill_refs m vs) (message_filled t N m f x vs h)
      pour_keeps (Par ps) m l k f h g = pour_all_keeps ps m l k f h g
      pour_keeps (Def ds p) m l k f h g =
          let n = naming s l ds k in
          let e = m ++ n.names in
          let births = births_of r e ds in
          let a = rules_made (lay_rules s e l n.next ds) in
          let q = lay_places seen s r e l a.next ds in
          let b = then_made a q in
          let z = pour seen s r e l b.next p in
          let first : Within n.names N = given_left (names_made n births) (then_made b z) g in
          let rest : IsGiven (then_made b z) =
          given_right (names_made n births) (then_made b z) g in
          let fine = naming_fine t s N l ds k h.0 in
          let fits : AllFit t N e =
          Each-append (Fits t N) m n.names f (fine_fit t N n.names fine first) in
          then_keeps (names_made n births) (then_made b z) (tt, tt, fine)
          (then_keeps b z
          (then_keeps a q (rules_keep e l n.next ds fits h.0)
          (places_keep ds e l a.next fits h.0 (given_right a q (given_left b z rest))))
          (pour_keeps p e l b.next fits h.1 (given_right b z rest)))
      pour_keeps (Go x y) m l k f h g =
          (((ref_filled t N m f x _ h.0, channel_filled t N m f y [] h.1), tt), tt, tt)
      pour_keeps (Fail x y) m l k f h g =
          (((ref_filled t N m f x _ h.0, channel_filled t N m f y [] h.1), tt), tt, tt)
      pour_keeps Halt m l k f h g = ((tt, tt), tt, tt)

      pub pour_all_keeps : (ps : Processes) (m : Naming) (l : Loc) (k : ℕ) → AllFit t N m
          → KeepsAll t N ps → IsGiven (pour_all seen s r m l k ps)
          → MadeKeeps (pour_all seen s r m l k ps)
      pour_all_keeps none m l k f h g = (tt, tt, tt)
      pour_all_keeps (one_more p ps) m l k f h g =
          let a = pour seen s r m l k p in
          let b = pour_all seen s r m l a.next ps in
          then_keeps a b (pour_keeps p m l k f h.0 (given_left a b g))
          (pour_all_keeps ps m l a.next f h.1 (given_right a b g))

      pub places_keep : (ds : Definitions) (m : Naming) (l : Loc) (k : ℕ) → AllFit t N m
          → KeepsDefinitions t N ds → IsGiven (lay_places seen s r m l k ds)
          → MadeKeeps (lay_places seen s r m l k ds)
      places_keep no_definition m l k f h g = (tt, tt, tt)
      places_keep (and_also (Rule ps p) ds) m l k f h g = places_keep ds m l k f h.1 g
      places_keep (and_also (Place x es p) ds) m l k f h g =
          let q = loc_or l (fill_ref m x) in
          let a = rules_made (lay_rules s m q k es) in
          let z = pour seen s r m q a.next p in
          let b = lay_places seen s r m l z.next ds in
          then_keeps (then_made a z) b
          (then_keeps a z (rules_keep m q k es f h.0.1)
          (pour_keeps p m q a.next f h.0.2 (given_right a z (given_left (then_made a z) b g))))
          (places_keep ds m l z.next f h.1 (given_right (then_made a z) b g))

    pub lay_keeps : (ds : Definitions) (m : Naming) (l : Loc) (k : ℕ) → AllFit t N m
        → KeepsDefinitions t N ds → IsGiven (lay seen s r m l k ds)
        → MadeKeeps (lay seen s r m l k ds)
    lay_keeps ds m l k f h g =
        let a = rules_made (lay_rules s m l k ds) in
        let q = lay_places seen s r m l a.next ds in
        then_keeps a q (rules_keep m l k ds f h) (places_keep ds m l a.next f h (given_right a q g))

-- ---- a solution to which is added

module _ (t : Sorting) (n : Numbered) where
  added_keeps : (s : ℕ) (a : Made) → IsWellSorted t n → MadeKeeps t (n.named ++ a.named) a
      → IsWellSorted t (add_made n s a)
  added_keeps s a h g =
      let more : (e : Named) → IsIn e n.named → IsIn e (n.named ++ a.named) =
      λ e i. in_left e n.named a.named i in (
        Each-append (λ (x : NumberedAtom). Keeps t (n.named ++ a.named) x.term) n.atoms a.atoms
            (Each-weaker (λ (x : NumberedAtom). Keeps t n.named x.term)
            (λ (x : NumberedAtom). Keeps t (n.named ++ a.named) x.term)
            (λ x. keeps_more t n.named (n.named ++ a.named) more x.term) n.atoms h.0) g.0,
        Each-append (KeepsRule t (n.named ++ a.named)) n.rules a.rules
            (Each-weaker (KeepsRule t n.named) (KeepsRule t (n.named ++ a.named))
            (rule_more t n.named (n.named ++ a.named) more) n.rules h.1) g.1,
        Each-append (λ (e : Named). MayBeGiven t e.binder e.name) n.named a.named h.2 g.2,
      )

  given_of : (ms : Naming) → Within ms (n.named ++ ms)
  given_of ms = all_in (λ (e : Named). IsIn e (n.named ++ ms)) ms (λ e i. in_right e n.named ms i)

  pub poured_keeps : (m : Naming) (l : Loc) (p : Process) → IsWellSorted t n → AllFit t n.named m
      → Keeps t n.named p → IsWellSorted t (pour_at n m l p)
  poured_keeps m l p h f g =
      let r = root (standing n.places) l in
      let a = pour n.seen r.site r m l (slice_index n.counts r.site) p in
      let N = n.named ++ a.named in
      let more : (e : Named) → IsIn e n.named → IsIn e N = λ e i. in_left e n.named a.named i in
      added_keeps r.site a h (pour_keeps t N n.seen r.site r p m l (slice_index n.counts r.site)
      (fits_more t n.named N more m f) (keeps_more t n.named N more p g) (given_of a.named))

  pub level_keeps : (m : Naming) (l : Loc) (ds : Definitions) → IsWellSorted t n
      → AllFit t n.named m → KeepsDefinitions t n.named ds → IsWellSorted t (lay_at n m l ds)
  level_keeps m l ds h f g =
      let r = root (standing n.places) l in
      let a = lay n.seen r.site r m l (slice_index n.counts r.site) ds in
      let N = n.named ++ a.named in
      let more : (e : Named) → IsIn e n.named → IsIn e N = λ e i. in_left e n.named a.named i in
      added_keeps r.site a h (lay_keeps t N n.seen r.site r ds m l (slice_index n.counts r.site)
      (fits_more t n.named N more m f) (definitions_more t n.named N more ds g) (given_of a.named))
