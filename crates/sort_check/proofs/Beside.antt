-- One step of the walk over a tree beside its program.
use Rattle.std.proofs.Common.{◌≡◌, ◌≢◌, ℕ, zero, suc, ◌+◌, ◌<◌, ◌≤◌, List, [], ◌∷◌, ◌++◌, Option}
use Rattle.std.proofs.Common.{Some, None, drop, get_or, refl, sym, ap, ◌∙◌, subst, arith, length}
use Rattle.std.proofs.Common.{Bool, true, false, ltb, ltb-true, ltb-false}
use Rattle.std.specs.Prelude.{slice_get}
use Rattle.join_parse.specs.declared.word.Arg.{Arg}
use Rattle.join_parse.specs.declared.word.PatTree.{PatTree}
use Rattle.join_parse.specs.declared.tree.PlaceTree.{PlaceTree}
use Rattle.join_parse.specs.Source as s
use Rattle.chem_model.specs.declared.name.Ref.{Ref}
use Rattle.chem_model.specs.declared.name.Pat.{Pat}
use Rattle.chem_model.specs.declared.program.SiteTerm.{SiteTerm}
use Rattle.chem_model.specs.Process as t
use Rattle.sort_laws.specs.declared.sorts.SortArg.{SortArg}
use Rattle.sort_laws.specs.Sorted.{Sorting}
use Rattle.sort_check.specs.declared.fault.Found.{Found}
use Rattle.sort_check.specs.Asked.{Asked}
use Rattle.sort_check.specs.inside.First.{first_of, noted_of}
use Rattle.sort_check.specs.inside.Pairs.{pair_arguments, pair_patterns, pair_body, pair_all}
use Rattle.sort_check.specs.inside.Pairs.{pair_level, pair_sites}
use Rattle.sort_check.specs.inside.Beside.{argument_beside, pair_several, pattern_beside}
use Rattle.sort_check.specs.inside.Beside.{process_beside, definition_beside, site_beside}

pub first-append : (args : ℕ → List SortArg) (o : Option Found) (xs ys : List Asked)
    → first_of args o (xs ++ ys) ≡ first_of args (first_of args o xs) ys
first-append args o [] ys = refl
first-append args o (x ∷ xs) ys = first-append args (noted_of args o x) xs ys

-- ---- what is left of two lists

drop_at : {X : Type 0} (xs : List X) (i : ℕ) → i < length xs
    → (x : X) × (drop i xs ≡ x ∷ drop (suc i) xs) × ((d : X) → get_or xs i d ≡ x)
    × (slice_get xs i ≡ Some x)
drop_at [] i h = absurd (omega arith)
drop_at (x ∷ xs) zero h = (x, refl, λ d. refl, refl)
drop_at {X} (x ∷ xs) (suc i) h = let r = drop_at xs i (omega arith) in (r.0, r.1, r.2, r.3)

drop_suc : {X : Type 0} (xs : List X) (i : ℕ) → i < length xs
    → (x : X) × (drop i xs ≡ x ∷ drop (i + 1) xs) × ((d : X) → get_or xs i d ≡ x)
    × (slice_get xs i ≡ Some x)
drop_suc {X} xs i h =
    let r = drop_at xs i h in
    let same : suc i ≡ i + 1 = omega arith in
    (r.0, subst (λ n. drop i xs ≡ r.0 ∷ drop n xs) same r.1, r.2, r.3)

pub drop_past : {X : Type 0} (xs : List X) (i : ℕ) → length xs ≤ i
    → (drop i xs ≡ []) × (slice_get xs i ≡ None)
drop_past [] zero h = (refl, refl)
drop_past [] (suc i) h = (refl, refl)
drop_past (x ∷ xs) zero h = absurd (omega arith)
drop_past (x ∷ xs) (suc i) h = drop_past xs i (omega arith)

pub read_at : {X : Type 0} (xs : List X) (i : ℕ) (x : X) → i < length xs → x ≡ get_or xs i x
    → drop i xs ≡ x ∷ drop (i + 1) xs
read_at xs i x h e =
    let d = drop_suc xs i h in
    d.1 ∙ ap (λ y. y ∷ drop (i + 1) xs) (sym (e ∙ d.2 x))

-- ---- a list beside another: one more member

-- what is asked of a member, and of the rest
module _ {X Y : Type 0} (z : List X → List Y → List Asked) (one : X → Option Y → List Asked)
    (ended : (xs : List X) → z xs [] ≡ []) (empty : (x : X) → one x None ≡ [])
    (more : (x : X) (xs : List X) (y : Y) (ys : List Y)
    → z (x ∷ xs) (y ∷ ys) ≡ one x (Some y) ++ z xs ys) where
  next : (xs : List X) (ys : List Y) (i : ℕ) (x : X) → i < length xs → x ≡ get_or xs i x
      → z (drop i xs) (drop i ys) ≡ one x (slice_get ys i) ++ z (drop (i + 1) xs) (drop (i + 1) ys)
  next xs ys i x h e = go (ltb i (length ys)) refl
    where
      here : drop i xs ≡ x ∷ drop (i + 1) xs
      here = read_at xs i x h e

      go : (b : Bool) → ltb i (length ys) ≡ b
          → z (drop i xs) (drop i ys)
          ≡ one x (slice_get ys i) ++ z (drop (i + 1) xs) (drop (i + 1) ys)
      go true c =
          let d = drop_suc ys i (ltb-true i (length ys) c) in
          (λ j. z (here j) (d.1 j)) ∙ more x (drop (i + 1) xs) d.0 (drop (i + 1) ys)
          ∙ ap (λ o. one x o ++ z (drop (i + 1) xs) (drop (i + 1) ys)) (sym d.3)
      go false c =
          let past = ltb-false i (length ys) c in
          let d = drop_past ys i past in
          let f = drop_past ys (i + 1) (omega (arith, past)) in
          ap (z (drop i xs)) d.0 ∙ ended (drop i xs)
          ∙ (λ j. sym (empty x) j ++ sym (ended (drop (i + 1) xs)) j)
          ∙ (λ j. one x (sym d.1 j) ++ z (drop (i + 1) xs) (sym f.0 j))

  -- the step of a walk
  pub stepped :
      (args : ℕ → List SortArg) (xs : List X) (ys : List Y) (i : ℕ) (x : X)
      (start now then : Option Found) → i < length xs → x ≡ get_or xs i x
      → first_of args now (z (drop i xs) (drop i ys)) ≡ first_of args start (z xs ys)
      → then ≡ first_of args now (one x (slice_get ys i))
      → first_of args then (z (drop (i + 1) xs) (drop (i + 1) ys)) ≡ first_of args start (z xs ys)
  stepped args xs ys i x start now then h e inv made =
      ap (λ o. first_of args o (z (drop (i + 1) xs) (drop (i + 1) ys))) made
      ∙ sym (first-append args now (one x (slice_get ys i)) (z (drop (i + 1) xs) (drop (i + 1) ys)))
      ∙ ap (first_of args now) (sym (next xs ys i x h e)) ∙ inv

-- ---- the walks

module _ (r : Sorting) where
  patterns-ended : (ps : List PatTree) → pair_patterns r ps [] ≡ []
  patterns-ended [] = refl
  patterns-ended (p ∷ ps) = refl

  pub patterns-stepped :
      (ps : List PatTree) (qs : List Pat) (i : ℕ) (p : PatTree) (start now then : Option Found)
      → i < length ps → p ≡ get_or ps i p
      → first_of r.args now (pair_patterns r (drop i ps) (drop i qs))
      ≡ first_of r.args start (pair_patterns r ps qs)
      → then ≡ first_of r.args now (pattern_beside r p (slice_get qs i))
      → first_of r.args then (pair_patterns r (drop (i + 1) ps) (drop (i + 1) qs))
      ≡ first_of r.args start (pair_patterns r ps qs)
  patterns-stepped = stepped (pair_patterns r) (pattern_beside r) patterns-ended (λ p. refl)
      (λ p ps q qs. refl) r.args

  sites-ended : (xs : List PlaceTree) → pair_sites r xs [] ≡ []
  sites-ended [] = refl
  sites-ended (x ∷ xs) = refl

  sites-more : (x : PlaceTree) (xs : List PlaceTree) (y : SiteTerm) (ys : List SiteTerm)
      → pair_sites r (x ∷ xs) (y ∷ ys) ≡ site_beside r x (Some y) ++ pair_sites r xs ys
  sites-more x xs y ys = refl

  pub sites-stepped :
      (ps : List PlaceTree) (qs : List SiteTerm) (i : ℕ) (p : PlaceTree)
      (start now then : Option Found) → i < length ps → p ≡ get_or ps i p
      → first_of r.args now (pair_sites r (drop i ps) (drop i qs))
      ≡ first_of r.args start (pair_sites r ps qs)
      → then ≡ first_of r.args now (site_beside r p (slice_get qs i))
      → first_of r.args then (pair_sites r (drop (i + 1) ps) (drop (i + 1) qs))
      ≡ first_of r.args start (pair_sites r ps qs)
  sites-stepped = stepped (pair_sites r) (site_beside r) sites-ended (λ p. refl) sites-more r.args

  abbrev all_in_lists : List s.Process → List t.Process → List Asked
  all_in_lists ps qs = pair_all r (s.processes ps) (t.processes qs)

  all-ended : (ps : List s.Process) → all_in_lists ps [] ≡ []
  all-ended [] = refl
  all-ended (p ∷ ps) = refl

  pub members-stepped :
      (ps : List s.Process) (qs : List t.Process) (i : ℕ) (p : s.Process)
      (start now then : Option Found) → i < length ps → p ≡ get_or ps i p
      → first_of r.args now (all_in_lists (drop i ps) (drop i qs))
      ≡ first_of r.args start (all_in_lists ps qs)
      → then ≡ first_of r.args now (process_beside r p (slice_get qs i))
      → first_of r.args then (all_in_lists (drop (i + 1) ps) (drop (i + 1) qs))
      ≡ first_of r.args start (all_in_lists ps qs)
  members-stepped =
      stepped all_in_lists (process_beside r) all-ended (λ p. refl) (λ p ps q qs. refl) r.args

  abbrev level_in_lists : List s.Definition → List t.Definition → List Asked
  level_in_lists ps qs = pair_level r (s.definitions ps) (t.definitions qs)

  level-ended : (ps : List s.Definition) → level_in_lists ps [] ≡ []
  level-ended [] = refl
  level-ended (p ∷ ps) = refl

  pub level-stepped :
      (ps : List s.Definition) (qs : List t.Definition) (i : ℕ) (p : s.Definition)
      (start now then : Option Found) → i < length ps → p ≡ get_or ps i p
      → first_of r.args now (level_in_lists (drop i ps) (drop i qs))
      ≡ first_of r.args start (level_in_lists ps qs)
      → then ≡ first_of r.args now (definition_beside r p (slice_get qs i))
      → first_of r.args then (level_in_lists (drop (i + 1) ps) (drop (i + 1) qs))
      ≡ first_of r.args start (level_in_lists ps qs)
  level-stepped = stepped level_in_lists (definition_beside r) level-ended (λ p. refl)
      (λ p ps q qs. refl) r.args

  -- a list of processes that isn't of one
  pub several-are : (ps : List s.Process) (q : t.Process) → length ps ≢ 1
      → pair_body r (s.processes ps) q ≡ pair_several r (s.processes ps) q
  several-are [] (t.Par qs) h = refl
  several-are [] (t.Msg x vs) h = refl
  several-are [] (t.Def ds p) h = refl
  several-are [] (t.Go b k) h = refl
  several-are [] (t.Fail b k) h = refl
  several-are [] t.Halt h = refl
  several-are (p ∷ []) q h = absurd (h refl)
  several-are (p ∷ u ∷ ps) (t.Par t.none) h = refl
  several-are (p ∷ u ∷ ps) (t.Par (t.one_more q qs)) h = refl
  several-are (p ∷ u ∷ ps) (t.Msg x vs) h = refl
  several-are (p ∷ u ∷ ps) (t.Def ds e) h = refl
  several-are (p ∷ u ∷ ps) (t.Go b k) h = refl
  several-are (p ∷ u ∷ ps) (t.Fail b k) h = refl
  several-are (p ∷ u ∷ ps) t.Halt h = refl

-- one after the other
pub chained : (args : ℕ → List SortArg) (a b c : Option Found) (xs ys zs : List Asked)
    → b ≡ first_of args a xs → c ≡ first_of args b ys → zs ≡ xs ++ ys → c ≡ first_of args a zs
chained args a b c xs ys zs e f g = f ∙ ap (λ o. first_of args o ys) e
    ∙ sym (first-append args a xs ys) ∙ ap (first_of args a) (sym g)

-- ---- arguments, which have three lists

module _ (r : Sorting) where
  arguments-next : (ss : List SortArg) (ws : List Arg) (vs : List Ref) (i : ℕ) (x : SortArg)
      → i < length ss → x ≡ get_or ss i x
      → pair_arguments r (drop i ss) (drop i ws) (drop i vs)
      ≡ argument_beside r x (slice_get ws i) (slice_get vs i)
      ++ pair_arguments r (drop (i + 1) ss) (drop (i + 1) ws) (drop (i + 1) vs)
  arguments-next ss ws vs i x h e = words (ltb i (length ws)) refl
    where
      here : drop i ss ≡ x ∷ drop (i + 1) ss
      here = read_at ss i x h e

      no_words : (us : List SortArg) (ys : List Ref) → pair_arguments r us [] ys ≡ []
      no_words [] ys = refl
      no_words (u ∷ us) ys = refl

      no_names : (us : List SortArg) (xs : List Arg) → pair_arguments r us xs [] ≡ []
      no_names [] xs = refl
      no_names (u ∷ us) [] = refl
      no_names (u ∷ us) (y ∷ xs) = refl

      no_name : (o : Option Arg) → argument_beside r x o None ≡ []
      no_name None = refl
      no_name (Some w) = refl

      names : (w : Arg) → drop i ws ≡ w ∷ drop (i + 1) ws → slice_get ws i ≡ Some w → (b : Bool)
          → ltb i (length vs) ≡ b
          → pair_arguments r (drop i ss) (drop i ws) (drop i vs)
          ≡ argument_beside r x (slice_get ws i) (slice_get vs i)
          ++ pair_arguments r (drop (i + 1) ss) (drop (i + 1) ws) (drop (i + 1) vs)
      names w dw gw true c =
          let d = drop_suc vs i (ltb-true i (length vs) c) in
          (λ j. pair_arguments r (here j) (dw j) (d.1 j))
          ∙ (λ j. argument_beside r x (sym gw j) (sym d.3 j)
          ++ pair_arguments r (drop (i + 1) ss) (drop (i + 1) ws) (drop (i + 1) vs))
      names w dw gw false c =
          let past = ltb-false i (length vs) c in
          let d = drop_past vs i past in
          let f = drop_past vs (i + 1) (omega (arith, past)) in
          ap (pair_arguments r (drop i ss) (drop i ws)) d.0 ∙ no_names (drop i ss) (drop i ws)
          ∙ (λ j.
          sym (no_name (slice_get ws i)) j ++ sym (no_names (drop (i + 1) ss) (drop (i + 1) ws)) j)
          ∙ (λ j. argument_beside r x (slice_get ws i) (sym d.1 j)
          ++ pair_arguments r (drop (i + 1) ss) (drop (i + 1) ws) (sym f.0 j))

      words : (b : Bool) → ltb i (length ws) ≡ b
          → pair_arguments r (drop i ss) (drop i ws) (drop i vs)
          ≡ argument_beside r x (slice_get ws i) (slice_get vs i)
          ++ pair_arguments r (drop (i + 1) ss) (drop (i + 1) ws) (drop (i + 1) vs)
      words true c =
          let d = drop_suc ws i (ltb-true i (length ws) c) in
          names d.0 d.1 d.3 (ltb i (length vs)) refl
      words false c =
          let past = ltb-false i (length ws) c in
          let d = drop_past ws i past in
          let f = drop_past ws (i + 1) (omega (arith, past)) in
          ap (λ l. pair_arguments r (drop i ss) l (drop i vs)) d.0
          ∙ no_words (drop i ss) (drop i vs) ∙ sym (no_words (drop (i + 1) ss) (drop (i + 1) vs))
          ∙ (λ j. argument_beside r x (sym d.1 j) (slice_get vs i)
          ++ pair_arguments r (drop (i + 1) ss) (sym f.0 j) (drop (i + 1) vs))

  pub arguments-stepped :
      (ss : List SortArg) (ws : List Arg) (vs : List Ref) (i : ℕ) (x : SortArg)
      (start now then : Option Found) → i < length ss → x ≡ get_or ss i x
      → first_of r.args now (pair_arguments r (drop i ss) (drop i ws) (drop i vs))
      ≡ first_of r.args start (pair_arguments r ss ws vs)
      → then ≡ first_of r.args now (argument_beside r x (slice_get ws i) (slice_get vs i))
      → first_of r.args
      then (pair_arguments r (drop (i + 1) ss) (drop (i + 1) ws) (drop (i + 1) vs))
      ≡ first_of r.args start (pair_arguments r ss ws vs)
  arguments-stepped ss ws vs i x start now then h e inv made =
      let rest = pair_arguments r (drop (i + 1) ss) (drop (i + 1) ws) (drop (i + 1) vs) in
      ap (λ o. first_of r.args o rest) made
      ∙ sym (first-append r.args now (argument_beside r x (slice_get ws i) (slice_get vs i)) rest)
      ∙ ap (first_of r.args now) (sym (arguments-next ss ws vs i x h e)) ∙ inv

  pub arguments-read :
      (ss : List SortArg) (ws : List Arg) (vs : List Ref) (i : ℕ) (d x : SortArg)
      (start now then : Option Found) → i < length ss → x ≡ get_or ss i d
      → first_of r.args now (pair_arguments r (drop i ss) (drop i ws) (drop i vs))
      ≡ first_of r.args start (pair_arguments r ss ws vs)
      → then ≡ first_of r.args now (argument_beside r x (slice_get ws i) (slice_get vs i))
      → first_of r.args
      then (pair_arguments r (drop (i + 1) ss) (drop (i + 1) ws) (drop (i + 1) vs))
      ≡ first_of r.args start (pair_arguments r ss ws vs)
  arguments-read ss ws vs i d x start now then h e inv made =
      let at = drop_suc ss i h in
      arguments-stepped ss ws vs i x start now then h (e ∙ at.2 d ∙ sym (at.2 x)) inv made
