-- A tree with no fault stands for terms whose patterns, blocks and scopes are right.
use Rattle.std.proofs.Common.{◌≡◌, ◌≢◌, ℕ, ◌+◌, ◌<◌, ◌≤◌, Bool, true, false, cond, List, [], ◌∷◌}
use Rattle.std.proofs.Common.{◌++◌, Option, Some, None, length, refl, sym, ap, ◌∙◌, subst, arith}
use Rattle.std.proofs.Common.{append-nil}
use Rattle.std.specs.List.{AllPairs, list_any}
use Rattle.std.proofs.lemmas.Bool.{or_left, or_right}
use Rattle.std.specs.Prelude.{IsTrue}
use Rattle.std.proofs.lemmas.Bool.Decides.{nat_tests}
use Rattle.std.specs.Str.{bytes_eq}
use Rattle.std.specs.Cmp.Lexicographic.{bytes_decides}
use Rattle.join_base.specs.declared.fault.Kind.TheVariants.{Scope4, Scope5}
use Rattle.join_parse.specs.declared.word.Word.{Word}
use Rattle.join_parse.specs.declared.word.Arg.{Arg}
use Rattle.join_parse.specs.declared.word.Arg.TheVariants as arg
use Rattle.join_parse.specs.declared.word.PatTree.{PatTree}
use Rattle.join_parse.specs.declared.word.SeenTree.{SeenTree}
use Rattle.join_parse.specs.Source as s
use Rattle.join_parse.specs.Grammar as g
use Rattle.scope_names.specs.declared.scope.Sort.{Sort}
use Rattle.scope_names.specs.declared.scope.Sort.TheVariants.{Channel, Location, Observed}
use Rattle.scope_names.specs.declared.scope.Sort.TheVariants.{Parameter}
use Rattle.chem_model.specs.declared.name.Ref.{Ref}
use Rattle.chem_model.specs.declared.name.Ref.TheVariants as ref
use Rattle.chem_model.specs.declared.name.Name.{Name}
use Rattle.chem_model.specs.declared.name.Pat.{Pat}
use Rattle.chem_model.specs.Each.{Each}
use Rattle.chem_model.specs.Process as t
use Rattle.chem_model.specs.Binders as chem
use Rattle.chem_model.specs.Binders.{is_among, times}
use Rattle.chem_model.specs.Scope.{Position, names_message, is_argument, in_request, IsPattern}
use Rattle.chem_model.specs.Scope.{AreRules, AreRulesAndPlaces, IsInScope, IsTerm, AreTerms}
use Rattle.chem_model.specs.Scope.{IsDefinition, AreDefinitions}
use Rattle.chem_model.specs.ProgramFacts.{IsDeclared}
use Rattle.scope_check.specs.Blocks.{Defining, channels, params, parameters, defining, defining_one}
use Rattle.scope_check.specs.Blocks.{places_of, block, first_in, observed_from, Scope, Resolved}
use Rattle.scope_check.specs.Blocks.{resolved_in, resolve, open_at, scopes_in, scopes_in_def}
use Rattle.scope_check.specs.Blocks.{scopes_in_defs}
use Rattle.scope_check.specs.Uses.{Manner, called, headed, sent, Use, used, sent_as, all_sent, uses}
use Rattle.scope_check.specs.Uses.{all_uses, definition_uses, level_uses}
use Rattle.scope_check.specs.Faults.{ons}
use Rattle.scope_check.proofs.FaultList.{used_by, use_faults}
use Rattle.scope_check.specs.inside.FaultList.{clashes, is_spelled_in, repeated_if, repeats}
use Rattle.scope_check.specs.inside.FaultList.{pattern_faults, process_faults, processes_faults}
use Rattle.scope_check.specs.inside.FaultList.{definition_faults, level_faults}
use Rattle.scope_check.specs.Numbers.{Binder, binder, is_same, keys, in_params, in_patterns}
use Rattle.scope_check.specs.Numbers.{in_process, in_processes, in_definition, in_definitions}
use Rattle.scope_check.specs.Numbers.{index_of}
use Rattle.scope_check.specs.Stands.{together, ref_as, ref_to, ref_of, arg_of, args_of, numbers}
use Rattle.scope_check.specs.Stands.{pats_of, process, members, definition, level}
use Rattle.scope_check.proofs.Lists.{keys-append, none_left, none_right, spelled-append}
use Rattle.scope_check.proofs.Lists.{same-spelling}
use Rattle.scope_check.proofs.Among.{among-here, among-front, among-back}
use Rattle.scope_check.proofs.Tables.{IsBinding}
use Rattle.scope_check.proofs.Uses.{faults-append}
use Rattle.scope_check.proofs.Size.{length-numbers, length-args}
use Rattle.scope_check.proofs.Sorts.{repeated-none, AllIn, in_front, in_back, in_both, tells}
use Rattle.scope_check.proofs.Sorts.{once-each}
use Rattle.scope_check.proofs.TermBlock.{pairs-nil, pairs-cons, bound_at, level-block}
use Rattle.scope_check.proofs.TermBlock.{params-numbers, params-bound}
use Rattle.scope_check.proofs.BlockFacts.{block-fine, locs-all}

-- observed names are declared
abbrev pub SortFine : (seen : ℕ) → Sort → Type 0
SortFine seen (Observed m i) = i < seen
SortFine seen (Channel m at) = Unit {0}
SortFine seen Location = Unit {0}
SortFine seen Parameter = Unit {0}

abbrev pub NamesFine : (seen : ℕ) → List Defining → Type 0
NamesFine seen [] = Unit {0}
NamesFine seen (d ∷ ds) = SortFine seen d.1 × NamesFine seen ds

abbrev pub EnvFine : (seen : ℕ) → List Scope → Type 0
EnvFine seen [] = Unit {0}
EnvFine seen (x ∷ env) = NamesFine seen x.names × EnvFine seen env

pub names-append : (seen : ℕ) (xs ys : List Defining) → NamesFine seen xs → NamesFine seen ys
    → NamesFine seen (xs ++ ys)
names-append seen [] ys a b = b
names-append seen (x ∷ xs) ys a b = (a.0, names-append seen xs ys a.1 b)

channels-fine : (seen at : ℕ) (pats : List PatTree) → NamesFine seen (channels at pats)
channels-fine seen at [] = tt
channels-fine seen at (p ∷ ps) = (tt, channels-fine seen at ps)

parameters-fine : (seen : ℕ) (ws : List Word) → NamesFine seen (parameters ws)
parameters-fine seen [] = tt
parameters-fine seen (w ∷ ws) = (tt, parameters-fine seen ws)

mutual
  one-fine : (seen : ℕ) (d : s.Definition) (at next : ℕ) → NamesFine seen (defining_one at next d)
  one-fine seen (s.Rule pats body) at next = channels-fine seen at pats
  one-fine seen (s.Place o a ds body) at next = (tt, defining-fine seen ds next (next + 1))

  pub defining-fine : (seen : ℕ) (ds : s.Definitions) (at next : ℕ)
      → NamesFine seen (defining at next ds)
  defining-fine seen s.no_definition at next = tt
  defining-fine seen (s.and_also d ds) at next =
      names-append seen (defining_one at next d) (defining at (next + places_of d) ds)
      (one-fine seen d at next) (defining-fine seen ds at (next + places_of d))

pub observed-fine : (ss : List SeenTree) (i seen : ℕ) → i + length ss ≤ seen
    → NamesFine seen (observed_from i ss)
observed-fine [] i seen h = tt
observed-fine (x ∷ ss) i seen h = (omega arith, observed-fine ss (i + 1) seen (omega arith))

-- ---- the levels of definitions

rules-one :
    (second : Bool) (number : Binder → ℕ) (ds : s.Definitions) (own : ℕ) (env : List Scope) (k : ℕ)
    → g.AreDefinitions second true ds → AreRules (t.definitions (level number own env k ds))
rules-one second number s.no_definition own env k h = tt
rules-one second number (s.and_also (s.Rule pats body) ds) own env k h =
    rules-one second number ds own env (k + scopes_in_def (s.Rule pats body)) h.1
rules-one second number (s.and_also (s.Place o a es body) ds) own env k h = absurd h.0

pub levels-fine :
    (second : Bool) (number : Binder → ℕ) (ds : s.Definitions) (own : ℕ) (env : List Scope) (k : ℕ)
    → g.AreDefinitions second false ds
    → AreRulesAndPlaces (t.definitions (level number own env k ds))
levels-fine second number s.no_definition own env k h = tt
levels-fine second number (s.and_also (s.Rule pats body) ds) own env k h =
    levels-fine second number ds own env (k + scopes_in_def (s.Rule pats body)) h.1
levels-fine second number (s.and_also (s.Place o a es body) ds) own env k h = (
  rules-one second number es own env k h.0.1,
  levels-fine second number ds own env (k + scopes_in_def (s.Place o a es body)) h.1,
)

-- ---- scopes

in-scope-more : (known : Name → Type 0) (front scope : List ℕ) (r : Ref) → IsInScope known scope r
    → IsInScope known (front ++ scope) r
in-scope-more known front scope (ref.Binder b) h = among-back front scope b h
in-scope-more known front scope (ref.Known n) h = h

module _ (bs : List Binder) (seen : ℕ) where
  -- all that the scopes bind
  abbrev pub bound_by : List Scope → List ℕ
  bound_by [] = []
  bound_by (x ∷ env) = bound_at (index_of bs) x.number x.names ++ bound_by env

  here-bound : (k : ℕ) (d : Defining) (ds : List Defining) → IsBinding d.1
      → is_among (bound_at (index_of bs) k (d ∷ ds)) (index_of bs (binder k d.0)) ≡ true
  here-bound k d ds h = by d.1 refl h
    where
      by : (x : Sort) → d.1 ≡ x → IsBinding x
          → is_among (bound_at (index_of bs) k (d ∷ ds)) (index_of bs (binder k d.0)) ≡ true
      by (Channel m at) e h =
          ap (λ z. is_among (bound_at (index_of bs) k ((d.0, z) ∷ ds)) (index_of bs (binder k d.0)))
          e ∙ among-here (bound_at (index_of bs) k ds) (index_of bs (binder k d.0))
      by Location e h =
          ap (λ z. is_among (bound_at (index_of bs) k ((d.0, z) ∷ ds)) (index_of bs (binder k d.0)))
          e ∙ among-here (bound_at (index_of bs) k ds) (index_of bs (binder k d.0))
      by (Observed m i) e h = absurd h
      by Parameter e h =
          ap (λ z. is_among (bound_at (index_of bs) k ((d.0, z) ∷ ds)) (index_of bs (binder k d.0)))
          e ∙ among-here (bound_at (index_of bs) k ds) (index_of bs (binder k d.0))

  first-bound : (k : ℕ) (names : List Defining) (text : List ℕ) (sort : Sort) → NamesFine seen names
      → first_in text names ≡ Some sort
      → SortFine seen sort
      × (IsBinding sort
      → is_among (bound_at (index_of bs) k names) (index_of bs (record { scope = k; text = text }))
      ≡ true)
  first-bound k [] text sort fine e = absurd cc
  first-bound k (d ∷ ds) text sort fine e =
      by (bytes_eq text d.0.text) refl (first-bound k ds text sort fine.1) e
    where
      by : (b : Bool) → bytes_eq text d.0.text ≡ b
          → (first_in text ds ≡ Some sort → SortFine seen sort × (IsBinding sort
          → is_among (bound_at (index_of bs) k ds) (index_of bs (record { scope = k; text = text }))
          ≡ true))
          → cond b (Some d.1) (first_in text ds) ≡ Some sort
          → SortFine seen sort
          × (IsBinding sort
          → is_among (bound_at (index_of bs) k (d ∷ ds))
          (index_of bs (record { scope = k; text = text })) ≡ true)
      by true q ih r =
          let same : text ≡ d.0.text = (bytes_decides text d.0.text).0 q in
          let is : d.1 ≡ sort = cc in (
            subst (SortFine seen) is fine.0,
            λ h. subst (λ x. is_among (bound_at (index_of bs) k (d ∷ ds))
                (index_of bs (record { scope = k; text = x })) ≡ true) (sym same)
                (here-bound k d ds (subst IsBinding (sym is) h)),
          )
      by false q ih r =
          let i = ih r in (
            i.0,
            λ h. among-back _ (bound_at (index_of bs) k ds)
                (index_of bs (record { scope = k; text = text })) (i.1 h),
          )

  resolved-scope : (version : ℕ) (p : Position) (env : List Scope) (text : List ℕ) (r : Resolved)
      → EnvFine seen env → resolve env text ≡ Some r
      → IsInScope (IsDeclared version seen p) (bound_by env)
      (ref_as (index_of bs) text r.scope r.sort)
  resolved-scope version p [] text r fine e = absurd cc
  resolved-scope version p (x ∷ env) text r fine e =
      by (first_in text x.names) refl e (resolved-scope version p env text r fine.1)
    where
      sorted : (sort : Sort) → first_in text x.names ≡ Some sort
          → IsInScope (IsDeclared version seen p) (bound_by (x ∷ env))
          (ref_as (index_of bs) text x.number sort)
      sorted (Observed m i) q = (first-bound x.number x.names text (Observed m i) fine.0 q).0
      sorted (Channel m at) q = among-front (bound_at (index_of bs) x.number x.names) (bound_by env)
          (index_of bs (record { scope = x.number; text = text }))
          ((first-bound x.number x.names text (Channel m at) fine.0 q).1 tt)
      sorted Location q = among-front (bound_at (index_of bs) x.number x.names) (bound_by env)
          (index_of bs (record { scope = x.number; text = text }))
          ((first-bound x.number x.names text Location fine.0 q).1 tt)
      sorted Parameter q = among-front (bound_at (index_of bs) x.number x.names) (bound_by env)
          (index_of bs (record { scope = x.number; text = text }))
          ((first-bound x.number x.names text Parameter fine.0 q).1 tt)

      by : (o : Option Sort) → first_in text x.names ≡ o
          → resolved_in x.number o (resolve env text) ≡ Some r
          → (resolve env text ≡ Some r
          → IsInScope (IsDeclared version seen p) (bound_by env)
          (ref_as (index_of bs) text r.scope r.sort))
          → IsInScope (IsDeclared version seen p) (bound_by (x ∷ env))
          (ref_as (index_of bs) text r.scope r.sort)
      by None q m ih =
          in-scope-more (IsDeclared version seen p) (bound_at (index_of bs) x.number x.names)
          (bound_by env) (ref_as (index_of bs) text r.scope r.sort) (ih m)
      by (Some sort) q m ih =
          let is : record { scope = x.number; sort = sort } ≡ r = cc in
          subst (λ (z : Resolved). IsInScope (IsDeclared version seen p) (bound_by (x ∷ env))
          (ref_as (index_of bs) text z.scope z.sort)) is (sorted sort q)

  use-fine : (version : ℕ) (p : Position) (m : Manner) (env : List Scope) (w : Word)
      → EnvFine seen env → used_by m w (resolve env w.text) ≡ []
      → IsInScope (IsDeclared version seen p) (bound_by env) (ref_of (index_of bs) env w)
  use-fine version p m env w fine e = by (resolve env w.text) refl e
    where
      by : (o : Option Resolved) → resolve env w.text ≡ o → used_by m w o ≡ []
          → IsInScope (IsDeclared version seen p) (bound_by env)
          (ref_to (index_of bs) w.text (resolve env w.text))
      by None q h = absurd cc
      by (Some r) q h = subst (λ o.
          IsInScope (IsDeclared version seen p) (bound_by env) (ref_to (index_of bs) w.text o))
          (sym q) (resolved-scope version p env w.text r fine q)

  pub together-fine : (version : ℕ) (scope : List ℕ) (ps : List t.Process)
      → AreTerms (IsDeclared version seen) scope (t.processes ps)
      → IsTerm (IsDeclared version seen) scope (together ps)
  together-fine version scope [] h = tt
  together-fine version scope (p ∷ []) h = h.0
  together-fine version scope (p ∷ q ∷ ps) h = h

  -- ---- join patterns

  in-params-append : (k : ℕ) (xs ys : List Word)
      → in_params k (xs ++ ys) ≡ in_params k xs ++ in_params k ys
  in-params-append k [] ys = refl
  in-params-append k (x ∷ xs) ys = ap (λ l. binder k x ∷ l) (in-params-append k xs ys)

  pub params-in : (own k : ℕ) (ps : List PatTree) → AllIn bs (in_patterns own k ps)
      → AllIn bs (in_params k (params ps))
  params-in own k [] h = tt
  params-in own k (p ∷ ps) h =
      subst (AllIn bs) (sym (in-params-append k p.params (params ps)))
      (in_both bs (in_params k p.params) (in_params k (params ps))
      (in_front bs (in_params k p.params) (in_patterns own k ps) h.1)
      (params-in own k ps (in_back bs (in_params k p.params) (in_patterns own k ps) h.1)))

  channels-in : (own k at : ℕ) (ps : List PatTree) → AllIn bs (in_patterns own k ps)
      → AllIn bs (keys own (channels at ps))
  channels-in own k at [] h = tt
  channels-in own k at (p ∷ ps) h =
      (h.0, channels-in own k at ps (in_back bs (in_params k p.params) (in_patterns own k ps) h.1))

  other-channels : (own k : ℕ) (w : Word) (before : List Word) (ps : List PatTree)
      → list_any (is_same (binder own w)) bs ≡ true → is_spelled_in w.text before ≡ true
      → repeats Scope5 before (ons ps) ≡ []
      → Each (λ q. ref.Binder (index_of bs (binder own w)) ≢ q.on) (pats_of (index_of bs) own k ps)
  other-channels own k w before [] there h none = tt
  other-channels own k w before (p ∷ ps) there h none =
      let now : is_spelled_in p.on.text before ≡ false =
      repeated-none (is_spelled_in p.on.text before) Scope5
      p.on (none_left _ (repeats Scope5 (before ++ p.on ∷ []) (ons ps)) none) in (
        λ e.
            (let n : index_of bs (binder own w) ≡ index_of bs (binder own p.on) = cc in
            let same : w.text ≡ p.on.text = tells bs own w.text p.on.text there n in
            let bad : is_spelled_in p.on.text before ≡ true =
            ap (λ x. is_spelled_in x before) (sym same) ∙ h in
            absurd cc),
        other-channels own k w (before ++ p.on ∷ []) ps there (spelled-append w.text before p.on
            ∙ or_left (is_spelled_in w.text before) (bytes_eq w.text p.on.text) h)
            (none_right (repeated_if (is_spelled_in p.on.text before) Scope5 p.on)
            (repeats Scope5 (before ++ p.on ∷ []) (ons ps)) none),
      )

  channels-apart : (own k : ℕ) (before : List Word) (ps : List PatTree)
      → AllIn bs (in_patterns own k ps) → repeats Scope5 before (ons ps) ≡ []
      → AllPairs (λ p q. p.on ≢ q.on) (pats_of (index_of bs) own k ps)
  channels-apart own k before [] h none = pairs-nil (λ (p q : Pat). p.on ≢ q.on)
  channels-apart own k before (p ∷ ps) h none =
      let rest = none_right (repeated_if (is_spelled_in p.on.text before) Scope5 p.on)
      (repeats Scope5 (before ++ p.on ∷ []) (ons ps)) none in
      pairs-cons (λ (p q : Pat). p.on ≢ q.on) (record {
        on = ref.Binder (index_of bs (binder own p.on));
        params = numbers (index_of bs) k p.params;
      }) (pats_of (index_of bs) own k ps)
      (other-channels own k p.on (before ++ p.on ∷ []) ps h.0 (spelled-append p.on.text before p.on
      ∙ or_right (is_spelled_in p.on.text before) (bytes_eq p.on.text p.on.text)
      (same-spelling p.on.text)) rest)
      (channels-apart own k (before ++ p.on ∷ []) ps
      (in_back bs (in_params k p.params) (in_patterns own k ps) h.1) rest)

  short-fine : (own k : ℕ) (ps : List PatTree) → g.AreShort ps
      → Each (λ p. length p.params ≤ 255) (pats_of (index_of bs) own k ps)
  short-fine own k [] h = tt
  short-fine own k (p ∷ ps) h =
      (omega (arith, h.0, length-numbers (index_of bs) k p.params), short-fine own k ps h.1)

  some-fine : (own k : ℕ) (ps : List PatTree) → g.IsNotEmpty ps
      → 0 < length (pats_of (index_of bs) own k ps)
  some-fine own k [] h = absurd h
  some-fine own k (p ∷ ps) h = omega arith

  pattern-fine : (own k : ℕ) (ps : List PatTree) → g.IsNotEmpty ps → g.AreShort ps
      → pattern_faults ps ≡ [] → AllIn bs (in_patterns own k ps)
      → IsPattern (pats_of (index_of bs) own k ps)
  pattern-fine own k ps some short none inside = record {
    some = some-fine own k ps some;
    channels = channels-apart own k [] ps inside
        (none_left (repeats Scope5 [] (ons ps)) (repeats Scope4 [] (params ps)) none);
    params = λ b. subst (λ l. times l b ≤ 1) (sym (params-numbers (index_of bs) own k ps))
        ((once-each bs Scope4 k [] (params ps) (params-in own k ps inside)
        (none_right (repeats Scope5 [] (ons ps)) (repeats Scope4 [] (params ps)) none)).0 b);
    short = short-fine own k ps short;
  }

  -- ---- the binders of a block

  mutual
    one-in : (d : s.Definition) (own k at next : ℕ) → AllIn bs (in_definition own k d)
        → AllIn bs (keys own (defining_one at next d))
    one-in (s.Rule pats body) own k at next h = channels-in own k at pats
        (in_front bs (in_patterns own k pats) (in_processes (k + 1) body) h)
    one-in (s.Place o a ds body) own k at next h = (
      h.0,
      all-in ds own k next (next + 1)
          (in_front bs (in_definitions own k ds) (in_processes (k + scopes_in_defs ds) body) h.1),
    )

    pub all-in : (ds : s.Definitions) (own k at next : ℕ) → AllIn bs (in_definitions own k ds)
        → AllIn bs (keys own (defining at next ds))
    all-in s.no_definition own k at next h = tt
    all-in (s.and_also d ds) own k at next h =
        subst (AllIn bs)
        (sym (keys-append own (defining_one at next d) (defining at (next + places_of d) ds)))
        (in_both bs (keys own (defining_one at next d))
        (keys own (defining at (next + places_of d) ds))
        (one-in d own k at next
        (in_front bs (in_definition own k d) (in_definitions own (k + scopes_in_def d) ds) h))
        (all-in ds own (k + scopes_in_def d) at (next + places_of d)
        (in_back bs (in_definition own k d) (in_definitions own (k + scopes_in_def d) ds) h)))

  -- ---- terms

  -- a number stands in the second version alone
  second-is : (version : ℕ) → IsTrue (g.is_second version) → version ≡ 2
  second-is version h = grind (arith, nat_tests, h)

  module _ (version : ℕ) where
    abbrev second : Bool
    second = g.is_second version

    arg-fine : (env : List Scope) (a : Arg) → EnvFine seen env → g.IsArgument second a
        → use_faults (sent_as env a) ≡ []
        → IsInScope (IsDeclared version seen is_argument) (bound_by env)
        (arg_of (index_of bs) env a)
    arg-fine env (arg.Word w) fine gr e = use-fine version is_argument sent env w fine
        (none_left (used_by sent w (resolve env w.text)) [] e)
    arg-fine env (arg.Num value place) fine gr e = (second-is version gr, tt)

    sent-fine : (env : List Scope) (vs : List Arg) → EnvFine seen env → g.AreArguments second vs
        → use_faults (all_sent env vs) ≡ []
        → Each (IsInScope (IsDeclared version seen is_argument) (bound_by env))
        (args_of (index_of bs) env vs)
    sent-fine env [] fine gr e = tt
    sent-fine env (a ∷ vs) fine gr e =
        let u = sym (faults-append (sent_as env a) (all_sent env vs)) ∙ e in (
          arg-fine env a fine gr.0 (none_left _ _ u),
          sent-fine env vs fine gr.1 (none_right (use_faults (sent_as env a)) _ u),
        )

    -- in the second version each argument may stand
    any-argument : (a : Arg) → IsTrue second → g.IsArgument second a
    any-argument (arg.Word w) h = tt
    any-argument (arg.Num value place) h = h

    -- a word as the argument of an operation
    cont-fine : (env : List Scope) (w : Word) (n : ℕ) (us : List Use) → EnvFine seen env
        → use_faults (used (called n) w env ∷ us) ≡ []
        → IsInScope (IsDeclared version seen is_argument) (bound_by env)
        (ref_of (index_of bs) env w)
    cont-fine env w n us fine e = use-fine version is_argument (called n) env w fine
        (none_left (used_by (called n) w (resolve env w.text)) (use_faults us) e)

    -- two arguments, and what is used behind them
    first-fine : (env : List Scope) (a : Arg) (us : List Use) → EnvFine seen env
        → g.IsArgument second a → use_faults (sent_as env a ++ us) ≡ []
        → IsInScope (IsDeclared version seen is_argument) (bound_by env)
        (arg_of (index_of bs) env a) × (use_faults us ≡ [])
    first-fine env a us fine gr e =
        let u = sym (faults-append (sent_as env a) us) ∙ e in
        (arg-fine env a fine gr (none_left _ _ u), none_right (use_faults (sent_as env a)) _ u)

    mutual
      process-term : (p : s.Process) (env : List Scope) (k : ℕ) → EnvFine seen env
          → g.IsProcess second p → process_faults p ≡ [] → use_faults (uses env k p) ≡ []
          → AllIn bs (in_process k p)
          → IsTerm (IsDeclared version seen) (bound_by env) (process (index_of bs) env k p)
      process-term s.Zero env k fine gr d u i = tt
      process-term (s.Msg on args) env k fine gr d u i = (
        use-fine version (names_message (length (args_of (index_of bs) env args)))
            (called (length args)) env on fine (none_left _ _ u),
        sent-fine env args fine
            gr.1 (none_right (used_by (called (length args)) on (resolve env on.text)) _ u),
        omega (arith, gr.0, length-args (index_of bs) env args),
      )
      process-term (s.Go b c) env k fine gr d u i = (
        use-fine version in_request headed env b fine (none_left _ _ u),
        use-fine version in_request (called 0) env c fine
            (none_left _ _ (none_right (used_by headed b (resolve env b.text)) _ u)),
      )
      process-term (s.Fail b c) env k fine gr d u i = (
        use-fine version in_request headed env b fine (none_left _ _ u),
        use-fine version in_request (called 0) env c fine
            (none_left _ _ (none_right (used_by headed b (resolve env b.text)) _ u)),
      )
      process-term s.Halt env k fine gr d u i = tt
      process-term (s.Add l r c) env k fine gr d u i =
          let cs = used (called 1) c env ∷ [] in
          let one = first-fine env l (sent_as env r ++ cs) fine (any-argument l gr) u in
          let other = first-fine env r cs fine (any-argument r gr) one.1 in (
            (second-is version gr, refl),
            (one.0, (other.0, (cont-fine env c 1 [] fine other.1, tt))),
            omega arith,
          )
      process-term (s.Same l r c e) env k fine gr d u i =
          let cs = used (called 0) c env ∷ used (called 0) e env ∷ [] in
          let one = first-fine env l (sent_as env r ++ cs) fine (any-argument l gr) u in
          let other = first-fine env r cs fine (any-argument r gr) one.1 in
          let last = none_right (used_by (called 0) c (resolve env c.text))
          (use_faults (used (called 0) e env ∷ [])) other.1 in (
            (second-is version gr, refl),
            (
              one.0,
              (
                other.0,
                (
                  cont-fine env c 0 (used (called 0) e env ∷ []) fine other.1,
                  (cont-fine env e 0 [] fine last, tt),
                ),
              ),
            ),
            omega arith,
          )
      process-term (s.Group ps) env k fine gr d u i = together-fine version (bound_by env)
          (members (index_of bs) env k ps) (members-term ps env k fine gr d u i)
      process-term (s.Def ds ps) env k fine gr d u i =
          let inner = open_at k (block ds) env in
          let n = k + 1 + scopes_in_defs ds in
          let term = t.definitions (level (index_of bs) k inner (k + 1) ds) in
          let body = members (index_of bs) inner n ps in
          let fine' : EnvFine seen inner = (defining-fine seen ds 0 1, fine) in
          let d1 = none_right (clashes [] (block ds)) (level_faults ds ++ processes_faults ps) d in
          let u1 = sym (faults-append (level_uses inner (k + 1) ds) (all_uses inner n ps)) ∙ u in
          let i0 = in_front bs (in_definitions k (k + 1) ds) (in_processes n ps) i in
          let i1 = in_back bs (in_definitions k (k + 1) ds) (in_processes n ps) i in
          let a = level-term ds k inner (k + 1) false fine'
          gr.0 (none_left (level_faults ds) (processes_faults ps) d1) (none_left _ _ u1) i0 in
          let b = together-fine version (bound_by inner) body (members-term ps inner n fine'
          gr.1 (none_right (level_faults ds) (processes_faults ps) d1)
          (none_right (use_faults (level_uses inner (k + 1) ds)) _ u1) i1) in
          let is : bound_at (index_of bs) k (block ds) ≡ chem.block term =
          sym (level-block (index_of bs) ds k (k + 1) 0 1 inner) in (
            block-fine bs ds k (k + 1) inner (block ds) [] [] (sym (append-nil (block ds)))
                (none_left (clashes [] (block ds)) (level_faults ds ++ processes_faults ps) d)
                (locs-all ds 0 1) (all-in ds k (k + 1) 0 1 i0),
            levels-fine second (index_of bs) ds k inner (k + 1) gr.0,
            subst (λ l. AreDefinitions (IsDeclared version seen) (l ++ bound_by env) term) is a,
            subst (λ l. IsTerm (IsDeclared version seen) (l ++ bound_by env) (together body)) is b,
          )

      pub members-term : (ps : s.Processes) (env : List Scope) (k : ℕ) → EnvFine seen env
          → g.AreProcesses second ps → processes_faults ps ≡ []
          → use_faults (all_uses env k ps) ≡ [] → AllIn bs (in_processes k ps)
          → AreTerms (IsDeclared version seen) (bound_by env)
          (t.processes (members (index_of bs) env k ps))
      members-term s.none env k fine gr d u i = absurd gr
      members-term (s.one_more p ps) env k fine gr d u i =
          let u1 = sym (faults-append (uses env k p) (all_uses env (k + scopes_in p) ps)) ∙ u in (
            process-term p env k fine gr.0 (none_left (process_faults p) (processes_faults ps) d)
                (none_left _ _ u1)
                (in_front bs (in_process k p) (in_processes (k + scopes_in p) ps) i),
            more-term ps p env (k + scopes_in p) fine
                gr.1 (none_right (process_faults p) (processes_faults ps) d)
                (none_right (use_faults (uses env k p)) _ u1)
                (in_back bs (in_process k p) (in_processes (k + scopes_in p) ps) i),
          )

      more-term : (ps : s.Processes) (p : s.Process) (env : List Scope) (k : ℕ) → EnvFine seen env
          → g.AreMore second p ps → processes_faults ps ≡ [] → use_faults (all_uses env k ps) ≡ []
          → AllIn bs (in_processes k ps)
          → AreTerms (IsDeclared version seen) (bound_by env)
          (t.processes (members (index_of bs) env k ps))
      more-term s.none p env k fine gr d u i = tt
      more-term (s.one_more q ps) p env k fine gr d u i =
          let u1 = sym (faults-append (uses env k q) (all_uses env (k + scopes_in q) ps)) ∙ u in (
            process-term q env k fine gr.1 (none_left (process_faults q) (processes_faults ps) d)
                (none_left _ _ u1)
                (in_front bs (in_process k q) (in_processes (k + scopes_in q) ps) i),
            more-term ps q env (k + scopes_in q) fine
                gr.2 (none_right (process_faults q) (processes_faults ps) d)
                (none_right (use_faults (uses env k q)) _ u1)
                (in_back bs (in_process k q) (in_processes (k + scopes_in q) ps) i),
          )

      definition-term : (d : s.Definition) (own : ℕ) (env : List Scope) (k : ℕ) (within : Bool)
          → EnvFine seen env → g.IsDefinition second within d → definition_faults d ≡ []
          → use_faults (definition_uses env k d) ≡ [] → AllIn bs (in_definition own k d)
          → IsDefinition (IsDeclared version seen) (bound_by env)
          (definition (index_of bs) own env k d)
      definition-term (s.Rule pats body) own env k within fine gr d u i =
          let inner = open_at k (parameters (params pats)) env in
          let i0 = in_front bs (in_patterns own k pats) (in_processes (k + 1) body) i in
          let i1 = in_back bs (in_patterns own k pats) (in_processes (k + 1) body) i in
          let b = together-fine version (bound_by inner) (members (index_of bs) inner (k + 1) body)
          (members-term body inner (k + 1) (parameters-fine seen (params pats), fine)
          gr.2 (none_right (pattern_faults pats) (processes_faults body) d) u i1) in (
            pattern-fine own k pats
                gr.0 gr.1 (none_left (pattern_faults pats) (processes_faults body) d) i0,
            subst (λ l. IsTerm (IsDeclared version seen) (l ++ bound_by env)
                (together (members (index_of bs) inner (k + 1) body)))
                (sym (params-bound (index_of bs) own k pats)) b,
          )
      definition-term (s.Place o a ds body) own env k true fine gr d u i = absurd gr
      definition-term (s.Place o a ds body) own env k false fine gr d u i =
          let u1 =
          sym (faults-append (level_uses env k ds) (all_uses env (k + scopes_in_defs ds) body))
          ∙ u in (
            level-term ds own env k true fine
                gr.1 (none_left (level_faults ds) (processes_faults body) d) (none_left _ _ u1)
                (in_front bs (in_definitions own k ds) (in_processes (k + scopes_in_defs ds) body)
                i.1),
            together-fine version (bound_by env)
                (members (index_of bs) env (k + scopes_in_defs ds) body)
                (members-term body env (k + scopes_in_defs ds) fine
                gr.2 (none_right (level_faults ds) (processes_faults body) d)
                (none_right (use_faults (level_uses env k ds)) _ u1) (in_back bs
                (in_definitions own k ds) (in_processes (k + scopes_in_defs ds) body) i.1)),
          )

      pub level-term : (ds : s.Definitions) (own : ℕ) (env : List Scope) (k : ℕ) (within : Bool)
          → EnvFine seen env → g.AreDefinitions second within ds → level_faults ds ≡ []
          → use_faults (level_uses env k ds) ≡ [] → AllIn bs (in_definitions own k ds)
          → AreDefinitions (IsDeclared version seen) (bound_by env)
          (t.definitions (level (index_of bs) own env k ds))
      level-term s.no_definition own env k within fine gr d u i = tt
      level-term (s.and_also x ds) own env k within fine gr d u i =
          let u1 =
          sym (faults-append (definition_uses env k x) (level_uses env (k + scopes_in_def x) ds))
          ∙ u in (
            definition-term x own env k within fine
                gr.0 (none_left (definition_faults x) (level_faults ds) d) (none_left _ _ u1)
                (in_front bs (in_definition own k x) (in_definitions own (k + scopes_in_def x) ds)
                i),
            level-term ds own env (k + scopes_in_def x) within fine
                gr.1 (none_right (definition_faults x) (level_faults ds) d)
                (none_right (use_faults (definition_uses env k x)) _ u1) (in_back bs
                (in_definition own k x) (in_definitions own (k + scopes_in_def x) ds) i),
          )
