-- The program that a tree stands for.
use Rattle.std.specs.Prelude.{ℕ, ◌+◌, List, [], ◌∷◌, Option, Some, None, length}
use Rattle.join_parse.specs.declared.word.Word.{Word}
use Rattle.join_parse.specs.declared.word.Arg.{Arg}
use Rattle.join_parse.specs.declared.word.Arg.TheVariants as arg
use Rattle.join_parse.specs.declared.word.PatTree.{PatTree}
use Rattle.join_parse.specs.declared.word.SeenTree.{SeenTree}
use Rattle.join_parse.specs.declared.tree.PlaceTree.{PlaceTree}
use Rattle.join_parse.specs.Grammar.{TreeOfText}
use Rattle.join_parse.specs.Source as s
use Rattle.join_parse.specs.Source.{processes, definitions}
use Rattle.chem_model.specs.declared.name.Ref.{Ref}
use Rattle.chem_model.specs.declared.name.Ref.TheVariants as ref
use Rattle.chem_model.specs.declared.name.Name.TheVariants as name
use Rattle.chem_model.specs.declared.name.Pat.{Pat}
use Rattle.chem_model.specs.Operations.{add, same}
use Rattle.chem_model.specs.Process as t
use Rattle.scope_names.specs.declared.scope.Sort.{Sort}
use Rattle.scope_names.specs.declared.scope.Sort.TheVariants.{Channel, Location}
use Rattle.scope_names.specs.declared.scope.Sort.TheVariants.{Observed, Parameter}
use Rattle.chem_model.specs.declared.program.SeenDecl.{SeenDecl}
use Rattle.chem_model.specs.declared.program.SiteTerm.{SiteTerm}
use Rattle.chem_model.specs.ProgramFacts.{ProgramTerms}
use Rattle.scope_check.specs.Blocks.{block, params, parameters, outermost, Scope}
use Rattle.scope_check.specs.Blocks.{Resolved, resolve, open_at, scopes_in}
use Rattle.scope_check.specs.Blocks.{scopes_in_all, scopes_in_def, scopes_in_defs}
use Rattle.scope_check.specs.Numbers.{Binder, binder, binders, site_level, index_of}

-- A list of one process stands for that process, and any other list for the parallel composition of
-- its members.
abbrev pub together : List t.Process → t.Process
together [] = t.Par t.none
together (p ∷ []) = p
together (p ∷ q ∷ ps) = t.Par (t.processes (p ∷ q ∷ ps))

-- Where this is the numbering of the binders.
module _ (number : Binder → ℕ) where
  abbrev pub ref_as : List ℕ → ℕ → Sort → Ref
  ref_as text k (Observed m i) = ref.Known (name.Seen i)
  ref_as text k (Channel m at) = ref.Binder (number (record { scope = k; text = text }))
  ref_as text k Location = ref.Binder (number (record { scope = k; text = text }))
  ref_as text k Parameter = ref.Binder (number (record { scope = k; text = text }))

  abbrev pub ref_to : List ℕ → Option Resolved → Ref
  ref_to text None = ref.Binder 0
  ref_to text (Some r) = ref_as text r.scope r.sort

  abbrev pub ref_of : List Scope → Word → Ref
  ref_of env w = ref_to w.text (resolve env w.text)

  abbrev pub numbers : ℕ → List Word → List ℕ
  numbers k [] = []
  numbers k (w ∷ ws) = number (binder k w) ∷ numbers k ws

  abbrev pub pats_of : (own k : ℕ) → List PatTree → List Pat
  pats_of own k [] = []
  pats_of own k (p ∷ ps) =
      record { on = ref.Binder (number (binder own p.on)); params = numbers k p.params }
      ∷ pats_of own k ps

  -- an argument stands for what its word is resolved to, or for its number
  abbrev pub arg_of : List Scope → Arg → Ref
  arg_of env (arg.Word w) = ref_of env w
  arg_of env (arg.Num value place) = ref.Known (name.Num value)

  abbrev pub args_of : List Scope → List Arg → List Ref
  args_of env [] = []
  args_of env (a ∷ vs) = arg_of env a ∷ args_of env vs

  abbrev mutual
    pub process : List Scope → ℕ → s.Process → t.Process
    process env k s.Zero = t.Par t.none
    process env k (s.Msg on args) = t.Msg (ref_of env on) (args_of env args)
    process env k (s.Go b c) = t.Go (ref_of env b) (ref_of env c)
    process env k (s.Fail b c) = t.Fail (ref_of env b) (ref_of env c)
    process env k s.Halt = t.Halt
    process env k (s.Add l r c) =
        t.Msg (ref.Known (name.Op add)) (arg_of env l ∷ arg_of env r ∷ ref_of env c ∷ [])
    process env k (s.Same l r c d) =
        t.Msg (ref.Known (name.Op same))
        (arg_of env l ∷ arg_of env r ∷ ref_of env c ∷ ref_of env d ∷ [])
    process env k (s.Group ps) = together (members env k ps)
    process env k (s.Def ds ps) =
        t.Def (t.definitions (level k (open_at k (block ds) env) (k + 1) ds))
        (together (members (open_at k (block ds) env) (k + 1 + scopes_in_defs ds) ps))

    pub members : List Scope → ℕ → s.Processes → List t.Process
    members env k s.none = []
    members env k (s.one_more p ps) = process env k p ∷ members env (k + scopes_in p) ps

    pub definition : (own : ℕ) → List Scope → ℕ → s.Definition → t.Definition
    definition own env k (s.Rule pats body) =
        t.Rule (pats_of own k pats)
        (together (members (open_at k (parameters (params pats)) env) (k + 1) body))
    definition own env k (s.Place o a ds body) =
        t.Place (ref.Binder (number (binder own a))) (t.definitions (level own env k ds))
        (together (members env (k + scopes_in_defs ds) body))

    pub level : (own : ℕ) → List Scope → ℕ → s.Definitions → List t.Definition
    level own env k s.no_definition = []
    level own env k (s.and_also d ds) =
        definition own env k d ∷ level own env (k + scopes_in_def d) ds

  abbrev pub site_terms : List Scope → ℕ → List PlaceTree → List SiteTerm
  site_terms env k [] = []
  site_terms env k (x ∷ xs) =
      record {
        name = number (binder 0 x.name);
        defs = level 0 env k (definitions x.defs);
        body =
            together (members env (k + scopes_in_defs (definitions x.defs)) (processes x.body));
      } ∷ site_terms env
      (k + (scopes_in_defs (definitions x.defs) + scopes_in_all (processes x.body))) xs

abbrev pub seen_decls : List SeenTree → List SeenDecl
seen_decls [] = []
seen_decls (x ∷ xs) = record { count = x.count; spell = x.name.text } ∷ seen_decls xs

abbrev pub texts : List Binder → List (List ℕ)
texts [] = []
texts (b ∷ bs) = b.text ∷ texts bs

abbrev pub program : TreeOfText → ProgramTerms
program tree = record {
  version = tree.version;
  seen = seen_decls tree.seen;
  sites = site_terms (index_of (binders tree)) (open_at 0 (outermost tree) []) 1 tree.sites;
  tops = length (site_level tree);
  spell = texts (binders tree);
}
