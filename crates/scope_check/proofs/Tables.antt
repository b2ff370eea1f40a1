-- With the tables of the tree's scopes, the translation answers what the tree stands for.
use Rattle.std.proofs.Common.{◌≡◌, ℕ, ◌+◌, List, [], ◌∷◌, Option, Some, None, refl, ap, ◌∙◌}
use Rattle.join_parse.specs.declared.word.Word.{Word}
use Rattle.join_parse.specs.declared.word.Arg.{Arg}
use Rattle.join_parse.specs.declared.word.Arg.TheVariants as arg
use Rattle.join_parse.specs.declared.word.PatTree.{PatTree}
use Rattle.join_parse.specs.Source as s
use Rattle.chem_model.specs.declared.name.Ref.TheVariants as ref
use Rattle.chem_model.specs.declared.name.Name.TheVariants as name
use Rattle.chem_model.specs.Operations.{add, same}
use Rattle.chem_model.specs.Process as t
use Rattle.scope_names.specs.declared.scope.Sort.{Sort}
use Rattle.scope_names.specs.declared.scope.Sort.TheVariants.{Channel, Location, Observed}
use Rattle.scope_names.specs.declared.scope.Sort.TheVariants.{Parameter}
use Rattle.scope_names.specs.declared.scope.Entry.{Entry}
use Rattle.scope_names.specs.Frames.{in_frame, in_env, inner}
use Rattle.scope_check.specs.Blocks.{Defining, params, parameters, block, first_in, Scope, Resolved}
use Rattle.scope_check.specs.Blocks.{resolved_in, resolve, open_at, scopes_in, scopes_in_def}
use Rattle.scope_check.specs.Blocks.{scopes_in_defs}
use Rattle.scope_check.specs.Numbers.{Binder, binder}
use Rattle.scope_check.specs.Stands.{together, ref_as, ref_to, ref_of, arg_of, args_of, numbers}
use Rattle.scope_check.specs.Stands.{pats_of, process, members, definition, level}
use Rattle.scope_check.specs.inside.Naming.{numbered_as}
use Rattle.scope_check.specs.inside.Twin.{Table, ref_as_entry, ref_by, arg_in, args_in, binder_by}
use Rattle.scope_check.specs.inside.Twin.{binder_in, binders_in, pats_in, table_at, process_in}
use Rattle.scope_check.specs.inside.Twin.{members_in, definition_in, level_in}

-- a sort that has a binder: all but an observed name
abbrev pub IsBinding : Sort → Type 0
IsBinding (Channel m at) = Unit {0}
IsBinding Location = Unit {0}
IsBinding (Observed m i) = ⊥
IsBinding Parameter = Unit {0}

binding-number : (s : Sort) (n : ℕ) → IsBinding s → numbered_as s n ≡ n
binding-number (Channel m at) n h = refl
binding-number Location n h = refl
binding-number (Observed m i) n h = absurd h
binding-number Parameter n h = refl

module _ (number : Binder → ℕ) where
  abbrev pub entry_of : ℕ → List ℕ → Sort → Entry
  entry_of k text sort =
      record { sort = sort; binder = numbered_as sort (number (record { scope = k; text = text })) }

  abbrev pub entered : ℕ → List ℕ → Option Sort → Option Entry
  entered k text None = None
  entered k text (Some sort) = Some (entry_of k text sort)

  -- A table stands for a scope where it answers as the scope does.
  abbrev pub StandsFor : Table → ℕ → List Defining → Type 0
  StandsFor table k names =
      (text : List ℕ) → in_frame text table ≡ entered k text (first_in text names)

  abbrev pub EnvStandsFor : List Table → List Scope → Type 0
  EnvStandsFor [] [] = Unit {0}
  EnvStandsFor [] (x ∷ env) = ⊥
  EnvStandsFor (a ∷ tables) [] = ⊥
  EnvStandsFor (a ∷ tables) (x ∷ env) = StandsFor a x.number x.names × EnvStandsFor tables env

  abbrev pub entered_resolved : List ℕ → Option Resolved → Option Entry
  entered_resolved text None = None
  entered_resolved text (Some r) = Some (entry_of r.scope text r.sort)

  pub env-resolves : (tables : List Table) (env : List Scope) (text : List ℕ)
      → EnvStandsFor tables env → in_env text tables ≡ entered_resolved text (resolve env text)
  env-resolves [] [] text h = refl
  env-resolves [] (x ∷ env) text h = absurd h
  env-resolves (a ∷ tables) [] text h = absurd h
  env-resolves (a ∷ tables) (x ∷ env) text h =
      (λ i. inner (h.0 text i) (env-resolves tables env text h.1 i))
      ∙ by (first_in text x.names) (resolve env text)
    where
      by : (o : Option Sort) (r : Option Resolved)
          → inner (entered x.number text o) (entered_resolved text r)
          ≡ entered_resolved text (resolved_in x.number o r)
      by None r = refl
      by (Some sort) r = refl

  ref-same : (text : List ℕ) (o : Option Resolved)
      → ref_by (entered_resolved text o) ≡ ref_to number text o
  ref-same text None = refl
  ref-same text (Some r) = by r.sort
    where
      by : (sort : Sort)
          → ref_as_entry sort (numbered_as sort (number (record { scope = r.scope; text = text })))
          ≡ ref_as number text r.scope sort
      by (Channel m at) = refl
      by Location = refl
      by (Observed m i) = refl
      by Parameter = refl

  pub ref-is : (tables : List Table) (env : List Scope) (w : Word) → EnvStandsFor tables env
      → ref_by (in_env w.text tables) ≡ ref_of number env w
  ref-is tables env w h =
      ap ref_by (env-resolves tables env w.text h) ∙ ref-same w.text (resolve env w.text)

  pub arg-is : (tables : List Table) (env : List Scope) (a : Arg) → EnvStandsFor tables env
      → arg_in tables a ≡ arg_of number env a
  arg-is tables env (arg.Word w) h = ref-is tables env w h
  arg-is tables env (arg.Num value place) h = refl

  pub args-are : (tables : List Table) (env : List Scope) (vs : List Arg) → EnvStandsFor tables env
      → args_in tables vs ≡ args_of number env vs
  args-are tables env [] h = refl
  args-are tables env (a ∷ vs) h = λ i. arg-is tables env a h i ∷ args-are tables env vs h i

  -- Every word is defined in its scope, as a binder.
  abbrev pub Defined : List Defining → Word → Type 0
  Defined names w = (sort : Sort) × (first_in w.text names ≡ Some sort) × IsBinding sort

  abbrev pub AllDefined : List Defining → List Word → Type 0
  AllDefined names [] = Unit {0}
  AllDefined names (w ∷ ws) = Defined names w × AllDefined names ws

  pub binder-is : (table : Table) (k : ℕ) (names : List Defining) (w : Word)
      → StandsFor table k names → Defined names w → binder_in table w ≡ number (binder k w)
  binder-is table k names w h d = ap binder_by (h w.text ∙ ap (entered k w.text) d.1)
      ∙ binding-number d.0 (number (binder k w)) d.2

  pub binders-are : (table : Table) (k : ℕ) (names : List Defining) (ws : List Word)
      → StandsFor table k names → AllDefined names ws → binders_in table ws ≡ numbers number k ws
  binders-are table k names [] h d = refl
  binders-are table k names (w ∷ ws) h d =
      λ i. binder-is table k names w h d.0 i ∷ binders-are table k names ws h d.1 i

  abbrev pub PatsDefined : (own names : List Defining) → List PatTree → Type 0
  PatsDefined own names [] = Unit {0}
  PatsDefined own names (p ∷ ps) =
      Defined own p.on × AllDefined names p.params × PatsDefined own names ps

  pub pats-are : (a b : Table) (own k : ℕ) (names inner_names : List Defining) (ps : List PatTree)
      → StandsFor a own names → StandsFor b k inner_names → PatsDefined names inner_names ps
      → pats_in a b ps ≡ pats_of number own k ps
  pats-are a b own k names inner_names [] h g d = refl
  pats-are a b own k names inner_names (p ∷ ps) h g d =
      λ i. record {
        on = ref.Binder (binder-is a own names p.on h d.0 i);
        params = binders-are b k inner_names p.params g d.1 i;
      } ∷ pats-are a b own k names inner_names ps h g d.2 i

  -- what a block's definitions need of the block: their own words stand in it
  abbrev mutual
    pub OwnDefined : List Defining → s.Definition → Type 0
    OwnDefined names (s.Rule pats body) = PatsDefined names (parameters (params pats)) pats
    OwnDefined names (s.Place o a ds body) = Defined names a × AllOwnDefined names ds

    pub AllOwnDefined : List Defining → s.Definitions → Type 0
    AllOwnDefined names s.no_definition = Unit {0}
    AllOwnDefined names (s.and_also d ds) = OwnDefined names d × AllOwnDefined names ds

  module _ (tables : List Table) where
    -- Table number k stands for the tree's scope number k.
    abbrev mutual
      pub Fits : ℕ → s.Process → Type 0
      Fits k s.Zero = Unit {0}
      Fits k (s.Msg on args) = Unit {0}
      Fits k (s.Go b c) = Unit {0}
      Fits k (s.Fail b c) = Unit {0}
      Fits k s.Halt = Unit {0}
      Fits k (s.Add l r c) = Unit {0}
      Fits k (s.Same l r c d) = Unit {0}
      Fits k (s.Group ps) = AllFit k ps
      Fits k (s.Def ds ps) =
          StandsFor (table_at tables k) k (block ds) × AllOwnDefined (block ds) ds
          × LevelFits (k + 1) ds × AllFit (k + 1 + scopes_in_defs ds) ps

      pub AllFit : ℕ → s.Processes → Type 0
      AllFit k s.none = Unit {0}
      AllFit k (s.one_more p ps) = Fits k p × AllFit (k + scopes_in p) ps

      pub DefinitionFits : ℕ → s.Definition → Type 0
      DefinitionFits k (s.Rule pats body) =
          StandsFor (table_at tables k) k (parameters (params pats)) × AllFit (k + 1) body
      DefinitionFits k (s.Place o a ds body) = LevelFits k ds × AllFit (k + scopes_in_defs ds) body

      pub LevelFits : ℕ → s.Definitions → Type 0
      LevelFits k s.no_definition = Unit {0}
      LevelFits k (s.and_also d ds) = DefinitionFits k d × LevelFits (k + scopes_in_def d) ds

    mutual
      pub process-is : (p : s.Process) (around : List Table) (env : List Scope) (k : ℕ)
          → EnvStandsFor around env → Fits k p
          → process_in tables around k p ≡ process number env k p
      process-is s.Zero around env k h f = refl
      process-is (s.Msg on args) around env k h f =
          λ i. t.Msg (ref-is around env on h i) (args-are around env args h i)
      process-is (s.Go b c) around env k h f =
          λ i. t.Go (ref-is around env b h i) (ref-is around env c h i)
      process-is (s.Fail b c) around env k h f =
          λ i. t.Fail (ref-is around env b h i) (ref-is around env c h i)
      process-is s.Halt around env k h f = refl
      process-is (s.Add l r c) around env k h f = λ i. t.Msg (ref.Known (name.Op add))
          (arg-is around env l h i ∷ arg-is around env r h i ∷ ref-is around env c h i ∷ [])
      process-is (s.Same l r c d) around env k h f =
          λ i. t.Msg (ref.Known (name.Op same)) (arg-is around env l h i ∷ arg-is around env r h i
          ∷ ref-is around env c h i ∷ ref-is around env d h i ∷ [])
      process-is (s.Group ps) around env k h f = ap together (members-are ps around env k h f)
      process-is (s.Def ds ps) around env k h f =
          let own = table_at tables k in
          let more = open_at k (block ds) env in
          λ i. t.Def (t.definitions
          (level-is ds own k (block ds) (own ∷ around) more (k + 1) f.0 f.1 (f.0, h) f.2 i))
          (together (members-are ps (own ∷ around) more (k + 1 + scopes_in_defs ds) (f.0, h) f.3 i))

      pub members-are : (ps : s.Processes) (around : List Table) (env : List Scope) (k : ℕ)
          → EnvStandsFor around env → AllFit k ps
          → members_in tables around k ps ≡ members number env k ps
      members-are s.none around env k h f = refl
      members-are (s.one_more p ps) around env k h f = λ i.
          process-is p around env k h f.0 i ∷ members-are ps around env (k + scopes_in p) h f.1 i

      pub definition-is :
          (d : s.Definition) (a : Table) (own : ℕ) (names : List Defining) (around : List Table)
          (env : List Scope) (k : ℕ) → StandsFor a own names → OwnDefined names d
          → EnvStandsFor around env → DefinitionFits k d
          → definition_in tables a around k d ≡ definition number own env k d
      definition-is (s.Rule pats body) a own names around env k g o h f =
          let mine = table_at tables k in
          λ i. t.Rule (pats-are a mine own k names (parameters (params pats)) pats g f.0 o i)
          (together (members-are body (mine ∷ around) (open_at k (parameters (params pats)) env)
          (k + 1) (f.0, h) f.1 i))
      definition-is (s.Place o n ds body) a own names around env k g od h f =
          λ i. t.Place (ref.Binder (binder-is a own names n g od.0 i))
          (t.definitions (level-is ds a own names around env k g od.1 h f.0 i))
          (together (members-are body around env (k + scopes_in_defs ds) h f.1 i))

      pub level-is :
          (ds : s.Definitions) (a : Table) (own : ℕ) (names : List Defining) (around : List Table)
          (env : List Scope) (k : ℕ) → StandsFor a own names → AllOwnDefined names ds
          → EnvStandsFor around env → LevelFits k ds
          → level_in tables a around k ds ≡ level number own env k ds
      level-is s.no_definition a own names around env k g o h f = refl
      level-is (s.and_also d ds) a own names around env k g o h f =
          λ i. definition-is d a own names around env k g o.0 h f.0 i
          ∷ level-is ds a own names around env (k + scopes_in_def d) g o.1 h f.1 i
