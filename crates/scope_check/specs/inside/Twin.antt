-- What the translation computes, over the tables of all scopes; `Tables` and `Uses` of `proofs/`
-- tie it to what a tree stands for.
use Rattle.std.specs.Prelude.{ℕ, ◌+◌, List, [], ◌∷◌, ◌++◌, Option, Some, None, length}
use Rattle.std.proofs.Common.{get_or}
use Rattle.join_parse.specs.declared.word.Word.{Word}
use Rattle.join_parse.specs.declared.word.Arg.{Arg}
use Rattle.join_parse.specs.declared.word.Arg.TheVariants as arg
use Rattle.join_parse.specs.declared.word.PatTree.{PatTree}
use Rattle.join_parse.specs.Source as s
use Rattle.chem_model.specs.declared.name.Ref.{Ref}
use Rattle.chem_model.specs.declared.name.Ref.TheVariants as ref
use Rattle.chem_model.specs.declared.name.Name.TheVariants as name
use Rattle.chem_model.specs.declared.name.Pat.{Pat}
use Rattle.chem_model.specs.Operations.{add, same}
use Rattle.chem_model.specs.Process as t
use Rattle.scope_names.specs.declared.scope.Sort.{Sort}
use Rattle.scope_names.specs.declared.scope.Sort.TheVariants.{Channel, Location, Observed}
use Rattle.scope_names.specs.declared.scope.Sort.TheVariants.{Parameter}
use Rattle.scope_names.specs.declared.scope.Entry.{Entry}
use Rattle.scope_names.specs.Frames.{in_frame, in_env}
use Rattle.join_base.specs.declared.fault.Kind.TheVariants.{Scope1}
use Rattle.scope_check.specs.declared.fault.Fault.{Fault}
use Rattle.join_parse.specs.declared.tree.PlaceTree.{PlaceTree}
use Rattle.chem_model.specs.declared.program.SiteTerm.{SiteTerm}
use Rattle.scope_check.specs.Blocks.{scopes_in, scopes_in_all, scopes_in_def, scopes_in_defs}
use Rattle.scope_check.specs.inside.FaultList.{fault, called_as, headed_for}
use Rattle.scope_check.specs.Stands.{together}

abbrev pub Table : Type 0
Table = List (List ℕ × Entry)

abbrev pub called_by : Word → ℕ → Option Entry → List Fault
called_by w n None = fault Scope1 w
called_by w n (Some e) = called_as w n e.sort

abbrev pub headed_by : Word → Option Entry → List Fault
headed_by w None = fault Scope1 w
headed_by w (Some e) = headed_for w e.sort

abbrev pub sent_by : Word → Option Entry → List Fault
sent_by w None = fault Scope1 w
sent_by w (Some e) = []

abbrev pub arg_faults : List Table → Arg → List Fault
arg_faults env (arg.Word w) = sent_by w (in_env w.text env)
arg_faults env (arg.Num value place) = []

abbrev pub sent_in : List Table → List Arg → List Fault
sent_in env [] = []
sent_in env (a ∷ vs) = arg_faults env a ++ sent_in env vs

abbrev pub ref_as_entry : Sort → ℕ → Ref
ref_as_entry (Observed m i) b = ref.Known (name.Seen i)
ref_as_entry (Channel m at) b = ref.Binder b
ref_as_entry Location b = ref.Binder b
ref_as_entry Parameter b = ref.Binder b

abbrev pub ref_by : Option Entry → Ref
ref_by None = ref.Binder 0
ref_by (Some e) = ref_as_entry e.sort e.binder

abbrev pub ref_in : List Table → Word → Ref
ref_in env w = ref_by (in_env w.text env)

abbrev pub arg_in : List Table → Arg → Ref
arg_in env (arg.Word w) = ref_in env w
arg_in env (arg.Num value place) = ref.Known (name.Num value)

abbrev pub args_in : List Table → List Arg → List Ref
args_in env [] = []
args_in env (a ∷ vs) = arg_in env a ∷ args_in env vs

-- messages on operations, with the faults of their uses
abbrev pub added_in : List Table → (left right : Arg) → Word → t.Process
added_in env l r c =
    t.Msg (ref.Known (name.Op add)) (arg_in env l ∷ arg_in env r ∷ ref_in env c ∷ [])

abbrev pub compared_in : List Table → (left right : Arg) → (alike apart : Word) → t.Process
compared_in env l r c d =
    t.Msg (ref.Known (name.Op same))
    (arg_in env l ∷ arg_in env r ∷ ref_in env c ∷ ref_in env d ∷ [])

abbrev pub added_faults : List Table → (left right : Arg) → Word → List Fault
added_faults env l r c =
    arg_faults env l ++ (arg_faults env r ++ called_by c 1 (in_env c.text env))

abbrev pub compared_faults : List Table → (left right : Arg) → (alike apart : Word) → List Fault
compared_faults env l r c d =
    arg_faults env l ++ (arg_faults env r
    ++ (called_by c 0 (in_env c.text env) ++ called_by d 0 (in_env d.text env)))

abbrev pub binder_by : Option Entry → ℕ
binder_by None = 0
binder_by (Some e) = e.binder

abbrev pub binder_in : Table → Word → ℕ
binder_in table w = binder_by (in_frame w.text table)

abbrev pub binders_in : Table → List Word → List ℕ
binders_in table [] = []
binders_in table (w ∷ ws) = binder_in table w ∷ binders_in table ws

abbrev pub pats_in : (own params : Table) → List PatTree → List Pat
pats_in own params [] = []
pats_in own params (p ∷ ps) =
    record { on = ref.Binder (binder_in own p.on); params = binders_in params p.params }
    ∷ pats_in own params ps

module _ (tables : List Table) where
  abbrev pub table_at : ℕ → Table
  table_at i = get_or tables i []

  abbrev mutual
    pub process_in : List Table → ℕ → s.Process → t.Process
    process_in env at s.Zero = t.Par t.none
    process_in env at (s.Msg on args) = t.Msg (ref_by (in_env on.text env)) (args_in env args)
    process_in env at (s.Go b c) = t.Go (ref_by (in_env b.text env)) (ref_by (in_env c.text env))
    process_in env at (s.Fail b c) =
        t.Fail (ref_by (in_env b.text env)) (ref_by (in_env c.text env))
    process_in env at s.Halt = t.Halt
    process_in env at (s.Add l r c) = added_in env l r c
    process_in env at (s.Same l r c d) = compared_in env l r c d
    process_in env at (s.Group ps) = together (members_in env at ps)
    process_in env at (s.Def ds ps) =
        t.Def (t.definitions (level_in (table_at at) (table_at at ∷ env) (at + 1) ds))
        (together (members_in (table_at at ∷ env) (at + 1 + scopes_in_defs ds) ps))

    pub members_in : List Table → ℕ → s.Processes → List t.Process
    members_in env at s.none = []
    members_in env at (s.one_more p ps) = process_in env at p ∷ members_in env (at + scopes_in p) ps

    pub definition_in : (own : Table) → List Table → ℕ → s.Definition → t.Definition
    definition_in own env at (s.Rule pats body) =
        t.Rule (pats_in own (table_at at) pats)
        (together (members_in (table_at at ∷ env) (at + 1) body))
    definition_in own env at (s.Place o a ds body) =
        t.Place (ref.Binder (binder_in own a)) (t.definitions (level_in own env at ds))
        (together (members_in env (at + scopes_in_defs ds) body))

    pub level_in : (own : Table) → List Table → ℕ → s.Definitions → List t.Definition
    level_in own env at s.no_definition = []
    level_in own env at (s.and_also d ds) =
        definition_in own env at d ∷ level_in own env (at + scopes_in_def d) ds

  -- the faults of uses, in the order of the walk
  abbrev mutual
    pub uses_in : List Table → ℕ → s.Process → List Fault
    uses_in env at s.Zero = []
    uses_in env at (s.Msg on args) =
        called_by on (length args) (in_env on.text env) ++ sent_in env args
    uses_in env at (s.Go b c) = headed_by b (in_env b.text env) ++ called_by c 0 (in_env c.text env)
    uses_in env at (s.Fail b c) =
        headed_by b (in_env b.text env) ++ called_by c 0 (in_env c.text env)
    uses_in env at s.Halt = []
    uses_in env at (s.Add l r c) = added_faults env l r c
    uses_in env at (s.Same l r c d) = compared_faults env l r c d
    uses_in env at (s.Group ps) = all_uses_in env at ps
    uses_in env at (s.Def ds ps) =
        level_uses_in (table_at at ∷ env) (at + 1) ds
        ++ all_uses_in (table_at at ∷ env) (at + 1 + scopes_in_defs ds) ps

    pub all_uses_in : List Table → ℕ → s.Processes → List Fault
    all_uses_in env at s.none = []
    all_uses_in env at (s.one_more p ps) = uses_in env at p ++ all_uses_in env (at + scopes_in p) ps

    pub definition_uses_in : List Table → ℕ → s.Definition → List Fault
    definition_uses_in env at (s.Rule pats body) = all_uses_in (table_at at ∷ env) (at + 1) body
    definition_uses_in env at (s.Place o a ds body) =
        level_uses_in env at ds ++ all_uses_in env (at + scopes_in_defs ds) body

    pub level_uses_in : List Table → ℕ → s.Definitions → List Fault
    level_uses_in env at s.no_definition = []
    level_uses_in env at (s.and_also d ds) =
        definition_uses_in env at d ++ level_uses_in env (at + scopes_in_def d) ds

  abbrev pub site_terms_in : (own : Table) → List Table → ℕ → List PlaceTree → List SiteTerm
  site_terms_in own env at [] = []
  site_terms_in own env at (x ∷ xs) =
      record {
        name = binder_in own x.name;
        defs = level_in own env at (s.definitions x.defs);
        body =
            together
            (members_in env (at + scopes_in_defs (s.definitions x.defs)) (s.processes x.body));
      } ∷ site_terms_in own env
      (at + (scopes_in_defs (s.definitions x.defs) + scopes_in_all (s.processes x.body))) xs
