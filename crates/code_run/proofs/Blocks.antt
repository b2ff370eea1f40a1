-- Naming and laying blocks, put together from their parts.
use Rattle.std.proofs.Common.{◌≡◌, ℕ, ◌+◌, ◌-◌, ◌<◌, ◌≤◌, List, [], ◌∷◌, ◌++◌, length, get_or, take}
use Rattle.std.proofs.Common.{drop, Some, Result, Ok, Err, OnOk, refl, sym, ap, ◌∙◌, subst}
use Rattle.std.proofs.Common.{append_assoc, arith, length-append}
use Rattle.std.specs.Prelude.{slice_get}
use Rattle.std.proofs.lemmas.List.{take_all}
use Rattle.std.proofs.lemmas.Option.{slice_get_within}
use Rattle.chem_model.specs.declared.memory.Memory.{Memory}
use Rattle.chem_model.specs.declared.name.Loc.{Loc}
use Rattle.chem_model.specs.declared.name.Name.{Name}
use Rattle.chem_model.specs.declared.name.Name.TheVariants as name
use Rattle.chem_model.specs.Each.{Each}
use Rattle.chem_laws.proofs.Lists.{Each-weaker, append_nil}
use Rattle.env_store.specs.declared.code.Level.{Level}
use Rattle.env_store.specs.declared.code.Block.{Block}
use Rattle.env_store.specs.CodeParts.{CodeParts}
use Rattle.env_store.specs.declared.code.Instr.TheVariants.{Enter}
use Rattle.env_store.specs.CodeFacts.{IsCode, IsLevelAt, IsBlockBelow, AreBelow, names_made}
use Rattle.env_store.specs.Running.{nothing_ran, then_ran, births_ran, group_ran, NumberedLevel}
use Rattle.env_store.specs.Running.{with_level, numbered_levels, channel_names, place_names}
use Rattle.env_store.specs.Running.{place_births, Making, places_ran, levels_entered, block_entered}
use Rattle.env_store.specs.Running.{Entered}
use Rattle.code_run.specs.declared.made.Run.{Run}
use Rattle.code_run.specs.inside.Steps.{Adds, IsThere, FitsFirst, levels_named, levels_laid}
use Rattle.code_run.proofs.Runs.{adds_then, drop_number}
use Rattle.code_run.proofs.Numbers.{block_long}

module _ (c : CodeParts) where
  -- a level of the code, with its number, is the first of what is numbered
  pub numbered_first : (n : ℕ) (ns : List ℕ) (v : Level) → slice_get c.levels n ≡ Some v
      → numbered_levels c.levels (n ∷ ns)
      ≡ record { number = n; level = v } ∷ numbered_levels c.levels ns
  numbered_first n ns v e = ap (λ o. with_level n o ++ numbered_levels c.levels ns) e

  pub levels_there : (d : ℕ) (ns : List ℕ) → Each (IsLevelAt c d) ns → Each (IsThere c) ns
  levels_there d ns h =
      Each-weaker (IsLevelAt c d) (IsThere c) (λ n at. slice_get_within c.levels n at.0 at.1) ns h

-- the first of a list and the others, as a slice pattern gives them
pub split : (ns : List ℕ) (d : ℕ) → 1 ≤ length ns
    → ns ≡ get_or ns 0 d ∷ take (length ns - 1) (drop 1 ns)
split [] d h = absurd (omega arith)
split (n ∷ ns) d h = ap (λ ms. n ∷ ms) (sym (take_all (length (n ∷ ns) - 1) ns (omega arith)))

-- one channel more is named
pub channels_more :
    (s : ℕ) (l : Loc) (from : ℕ) (counts : List ℕ) (i k next : ℕ) (start names new : List Name)
    → i < length counts
    → (names ++ channel_names s l k (drop i counts) ≡ start ++ channel_names s l from counts)
    × (k ≡ from + i)
    → new ≡ names ++ name.Chan s k l ∷ [] → next ≡ k + 1
    → (new ++ channel_names s l next (drop (i + 1) counts) ≡ start ++ channel_names s l from counts)
    × (next ≡ from + (i + 1))
channels_more s l from counts i k next start names new less so_far more up =
    let left = drop (i + 1) counts in
    let split : drop i counts ≡ get_or counts i 0 ∷ left = drop_number counts i less in
    let one : new ++ channel_names s l (k + 1) left
    ≡ names ++ name.Chan s k l ∷ channel_names s l (k + 1) left =
    ap (λ xs. xs ++ channel_names s l (k + 1) left) more
    ∙ append_assoc names (name.Chan s k l ∷ []) (channel_names s l (k + 1) left) in (
      ap (λ j. new ++ channel_names s l j left) up ∙ one
          ∙ ap (λ xs. names ++ channel_names s l k xs) (sym split) ∙ so_far.0,
      omega (arith, so_far.1),
    )

module _ (c : CodeParts) (s : ℕ) (l : Loc) (k : ℕ) where
  -- the names of a block: those of its own list, and then those of its places
  pub block_named :
      (levels : List ℕ) (own : ℕ) (places : List ℕ) (v : Level) (first : ℕ)
      (start mid end : List Name) → levels ≡ own ∷ places → slice_get c.levels own ≡ Some v
      → start ≡ [] → mid ≡ start ++ channel_names s l k v.counts → first ≡ k + length v.counts
      → end ≡ mid ++ place_names s first (numbered_levels c.levels places)
      → end ≡ levels_named s l k (numbered_levels c.levels levels)
  block_named levels own places v first start mid end split at nil one next more =
      more
      ∙ (λ i. (one ∙ ap (λ xs. xs ++ channel_names s l k v.counts) nil) i
      ++ place_names s (next i) (numbered_levels c.levels places))
      ∙ sym (ap (levels_named s l k)
      (ap (numbered_levels c.levels) split ∙ numbered_first c own places v at))

  -- what laying a block makes: its births, the group of its own list, and then its places
  pub block_made :
      (M : Making) (env : List Name) (levels : List ℕ) (own : ℕ) (places : List ℕ) (v : Level)
      (first : ℕ) (old : Run) (births : List Loc) (end new : Run) (o : Result (Unit {0}) Memory)
      → levels ≡ own ∷ places → slice_get c.levels own ≡ Some v → first ≡ k + length v.counts
      → births ≡ old.births ++ place_births s first (numbered_levels c.levels places)
      → Adds (record {
        next = old.next;
        births = births;
        groups = old.groups;
        posts = old.posts;
        outs = old.outs;
      }) end (group_ran s l env k old.next (record { number = own; level = v }))
      → OnOk o (Adds end new (places_ran M s env first end.next (numbered_levels c.levels places)))
      → OnOk o (Adds old new (levels_laid M s env l k old.next (numbered_levels c.levels levels)))
  block_made M env levels own places v first old births end new (Err m) split at next b g h = tt
  block_made M env levels own places v first old births end new (Ok u) split at next b g h =
      let vs = numbered_levels c.levels places in
      let w : NumberedLevel = record { number = own; level = v } in
      let kn = k + length v.counts in
      let mid : Run = record {
        next = old.next;
        births = births;
        groups = old.groups;
        posts = old.posts;
        outs = old.outs;
      } in
      let born : Adds old mid (births_ran old.next (place_births s first vs)) = (
        refl,
        b,
        sym (append_nil old.groups),
        sym (append_nil old.posts),
        sym (append_nil old.outs),
      ) in
      let whole = λ (j : ℕ). then_ran (births_ran old.next (place_births s j vs))
      (then_ran (group_ran s l env k old.next w) (places_ran M s env j (old.next + v.guards) vs)) in
      let at_end : Adds end new (places_ran M s env first (old.next + v.guards) vs) =
      subst (λ (n : ℕ). Adds end new (places_ran M s env first n vs)) g.0 h in
      let all : Adds old new (whole first) = adds_then old mid new
      (births_ran old.next (place_births s first vs)) (then_ran (group_ran s l env k old.next w)
      (places_ran M s env first (old.next + v.guards) vs)) born
      (adds_then mid end new (group_ran s l env k old.next w)
      (places_ran M s env first (old.next + v.guards) vs) g at_end) in
      let exact : Adds old new (whole kn) = subst (λ (j : ℕ). Adds old new (whole j)) next all in
      subst (λ us. Adds old new (levels_laid M s env l k old.next us))
      (sym (ap (numbered_levels c.levels) split ∙ numbered_first c own places v at)) exact

  -- entering is naming and then laying
  pub levels_entered_is : (M : Making) (env : List Name) (vs : List NumberedLevel)
      → let ns = levels_named s l k vs in
      levels_entered M s env l k vs
      ≡ record { names = ns; ran = levels_laid M s (env ++ ns) l k (k + length ns) vs }
  levels_entered_is M env [] =
      let zero : k ≡ k + length {A = Name} [] = omega arith in
      ap {B = Entered} (λ (n : ℕ). record { names = []; ran = nothing_ran n }) zero
  levels_entered_is M env (v ∷ vs) = refl

  entered_made :
      (M : Making) (env wide : List Name) (vs : List NumberedLevel) (n : ℕ) (old new : Run)
      (o : Result (Unit {0}) Memory) → let ns = levels_named s l k vs in
      n ≡ k + length ns → wide ≡ env ++ ns
      → OnOk o (Adds (record {
        next = n;
        births = old.births;
        groups = old.groups;
        posts = old.posts;
        outs = old.outs;
      }) new (levels_laid M s wide l k n vs))
      → OnOk o (Adds old new (levels_entered M s env l k vs).ran)
  entered_made M env wide vs n old new (Err m) next whole h = tt
  entered_made M env wide vs n old new (Ok u) next whole h =
      let at : Run = record {
        next = n;
        births = old.births;
        groups = old.groups;
        posts = old.posts;
        outs = old.outs;
      } in
      let ns = levels_named s l k vs in
      let laid : Adds at new (levels_laid M s (env ++ ns) l k (k + length ns) vs) =
      subst (λ (q : List Name × ℕ). Adds at new (levels_laid M s q.0 l k q.1 vs))
      (λ i. (whole i, next i)) h in
      subst (λ (e : Entered). Adds old new e.ran) (sym (levels_entered_is M env vs)) laid

-- ---- the block that an instruction enters

module _ (c : CodeParts) (d n : ℕ) (block : Block) (fits : FitsFirst c d (Enter n))
    (there : slice_get c.blocks n ≡ Some block) where
  same_block : fits.2.0 ≡ block
  same_block = cc (fits.2.1, there)

  pub block_levels : Each (IsLevelAt c (d + block.names)) block.levels
  block_levels =
      subst (λ (b : Block). Each (IsLevelAt c (d + b.names)) b.levels) same_block fits.2.2

  pub block_there : Each (IsThere c) block.levels
  block_there = levels_there c (d + block.names) block.levels block_levels

  pub block_below : (below : ℕ) → IsBlockBelow c below (slice_get c.blocks n) × Unit {0}
      → AreBelow below (numbered_levels c.levels block.levels)
  block_below below h = subst (IsBlockBelow c below) there h.0

  module _ (kept : IsCode c) (s : ℕ) (l : Loc) (k : ℕ) where
    named_long : (vs : List NumberedLevel) → length (levels_named s l k vs) ≡ names_made vs
    named_long [] = refl
    named_long (v ∷ vs) = block_long s l k v vs

    -- what it names are as many as it says
    many : length (levels_named s l k (numbered_levels c.levels block.levels)) ≡ block.names
    many =
        named_long (numbered_levels c.levels block.levels) ∙ sym (kept.blocks n block there).names

    module _ (env wide : List Name) (levels : List ℕ) (same : levels ≡ block.levels)
        (whole : wide ≡ env ++ levels_named s l k (numbered_levels c.levels levels)) where
      wide_is : wide ≡ env ++ levels_named s l k (numbered_levels c.levels block.levels)
      wide_is = whole ∙ ap (λ ns. env ++ levels_named s l k (numbered_levels c.levels ns)) same

      pub wide_levels : length env ≡ d → Each (IsLevelAt c (length wide)) levels
      wide_levels e =
          let long : length wide ≡ d + block.names = omega (
            arith,
            ap length wide_is,
            length-append env (levels_named s l k (numbered_levels c.levels block.levels)),
            many,
          ) in
          subst (λ (q : ℕ × List ℕ). Each (IsLevelAt c q.0) q.1) (λ i. (sym long i, sym same i))
          block_levels

      module _ (M : Making) (o : Result (Unit {0}) Memory) where
        abbrev entered : Entered
        entered = block_entered c M s env l k (slice_get c.blocks n)

        entered_is : entered ≡ levels_entered M s env l k (numbered_levels c.levels block.levels)
        entered_is = ap (block_entered c M s env l k) there

        pub enter_made : (next : ℕ) (old new : Run) → next ≡ k + block.names
            → OnOk o (Adds (record {
              next = next;
              births = old.births;
              groups = old.groups;
              posts = old.posts;
              outs = old.outs;
            }) new (levels_laid M s wide l k next (numbered_levels c.levels levels)))
            → OnOk o (Adds old new (block_entered c M s env l k (slice_get c.blocks n)).ran)
        enter_made next old new up h =
            let mid : Run = record {
              next = next;
              births = old.births;
              groups = old.groups;
              posts = old.posts;
              outs = old.outs;
            } in
            let vs = numbered_levels c.levels block.levels in
            let at : OnOk o (Adds mid new (levels_laid M s wide l k next vs)) = subst (λ ns.
            OnOk o (Adds mid new (levels_laid M s wide l k next (numbered_levels c.levels ns))))
            same h in
            subst (λ (e : Entered). OnOk o (Adds old new e.ran)) (sym entered_is) (entered_made c s
            l k M env wide vs next old new o (up ∙ ap (λ j. k + j) (sym many)) wide_is at)

        pub enter_env :
            OnOk o (wide ≡ env ++ (block_entered c M s env l k (slice_get c.blocks n)).names)
        enter_env = go o
          where
            vs : List NumberedLevel
            vs = numbered_levels c.levels block.levels

            names_are : levels_named s l k vs ≡ entered.names
            names_are =
                ap (λ (e : Entered). e.names)
                (sym (entered_is ∙ levels_entered_is c s l k M env vs))

            go : (r : Result (Unit {0}) Memory) → OnOk r (wide ≡ env ++ entered.names)
            go (Err m) = tt
            go (Ok u) = wide_is ∙ ap (λ xs. env ++ xs) names_are

-- ---- the places of a block that is laid

module _ (c : CodeParts) (d below : ℕ) (levels : List ℕ) (some : 1 ≤ length levels)
    (at : Each (IsLevelAt c d) levels) where
  abbrev others : List ℕ
  others = take (length levels - 1) (drop 1 levels)

  parts_at : Each (IsLevelAt c d) (get_or levels 0 0 ∷ others)
  parts_at = subst (Each (IsLevelAt c d)) (split levels 0 some) at

  pub places_at : Each (IsLevelAt c d) others
  places_at = parts_at.1

  pub places_there : Each (IsThere c) others
  places_there = levels_there c d others places_at

  pub places_below : AreBelow below (numbered_levels c.levels levels)
      → AreBelow below (numbered_levels c.levels others)
  places_below h =
      let own = get_or levels 0 0 in
      let numbered = ap (numbered_levels c.levels) (split levels 0 some)
      ∙ numbered_first c own others parts_at.0.0 parts_at.0.1 in
      (subst (AreBelow below) numbered h).1
