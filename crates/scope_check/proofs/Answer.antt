-- What the check answers: the walks' tables, terms and faults are those of the tree.
use Rattle.std.proofs.Common.{◌≡◌, ℕ, ◌+◌, ◌≤◌, ◌⊎◌, List, [], ◌∷◌, ◌++◌, Option, Some, None, inl}
use Rattle.std.proofs.Common.{inr, length, drop, get_or, refl, sym, ap, ◌∙◌, subst, arith}
use Rattle.std.proofs.Common.{append-nil, Result, Ok, Err}
use Rattle.std.specs.Result.{IfOk, IfErr}
use Rattle.join_lex.specs.Lexical.{IsOrMemory}
use Rattle.join_parse.specs.declared.tree.PlaceTree.{PlaceTree}
use Rattle.join_parse.specs.Source as s
use Rattle.join_parse.specs.Grammar.{TreeOfText}
use Rattle.join_parse.specs.TreeFacts.{IsTree}
use Rattle.chem_model.specs.declared.program.SeenDecl.{SeenDecl}
use Rattle.chem_model.specs.declared.program.SiteTerm.{SiteTerm}
use Rattle.chem_model.specs.ProgramFacts.{ProgramTerms, IsProgram, most_sites}
use Rattle.scope_check.specs.declared.fault.Fault.{Fault}
use Rattle.join_base.specs.declared.fault.Front.{Front}
use Rattle.join_base.specs.declared.fault.Front.TheVariants.{Refused, Memory}
use Rattle.join_base.specs.declared.fault.Kind.{Kind}
use Rattle.join_base.specs.declared.fault.Kind.TheVariants.{Lex1, Lex2, Lex3, Grammar1, Grammar2}
use Rattle.join_base.specs.declared.fault.Kind.TheVariants.{Scope1, Scope2, Scope3, Scope4, Scope5}
use Rattle.join_base.specs.declared.fault.Kind.TheVariants.{Scope6, Arity1, Arity2, Arity3, Arity4}
use Rattle.scope_check.specs.Order.{rank, IsSooner, IsFirst}
use Rattle.scope_check.specs.inside.Order.{first_of}
use Rattle.scope_check.specs.Blocks.{Defining, defining, block, place_of, sites_of, observed_from}
use Rattle.scope_check.specs.Blocks.{outermost, Scope, open_at, scopes_in_def, scopes_in_defs}
use Rattle.scope_check.specs.Uses.{uses_of}
use Rattle.scope_check.specs.Faults.{IsFault}
use Rattle.scope_check.proofs.FaultList.{use_faults, declared_faults, fault_list}
use Rattle.scope_check.specs.inside.FaultList.{clashes, level_faults, many}
use Rattle.scope_check.specs.Numbers.{Binder, binders, index_of}
use Rattle.scope_check.specs.Stands.{together, site_terms, seen_decls, program}
use Rattle.scope_check.specs.inside.Twin.{Table, site_terms_in, level_uses_in}
use Rattle.scope_check.specs.inside.Clashes.{clashes_in}
use Rattle.scope_check.specs.inside.Naming.{Level, name_all, walk_level}
use Rattle.join_parse.specs.declared.word.SeenTree.{SeenTree}
use Rattle.scope_check.specs.Checked.{IsProgramOf, IsRefusedAs, HasOneOutcome}
use Rattle.scope_check.proofs.Lists.{none_left, none_right}
use Rattle.scope_check.proofs.Folds.{first-append}
use Rattle.scope_check.proofs.Declares.{all_clashes}
use Rattle.scope_check.proofs.Tables.{StandsFor, EnvStandsFor, AllOwnDefined, LevelFits, binder-is}
use Rattle.scope_check.proofs.Tables.{members-are, level-is}
use Rattle.scope_check.proofs.Own.{DefinesAll, own_all}
use Rattle.scope_check.proofs.Uses.{level-uses-are}
use Rattle.scope_check.proofs.Sorts.{Has, has-right, Settled, settled}
use Rattle.scope_check.proofs.Same.{first-fault}
use Rattle.scope_check.proofs.Outermost.{first_pass, second_pass, tables_of, passes-so}
use Rattle.scope_check.proofs.Program.{no-fault, program-kept}

-- the faults of all walks, one after the other
pub all-noted : (t : TreeOfText) (a b c d : Option Fault)
    → a ≡ first_of None (many (drop (most_sites t.version) t.sites))
    → b ≡ first_of a (clashes_in [] (outermost t))
    → c ≡ first_of b (level_faults (sites_of t.sites))
    → d ≡ first_of c (level_uses_in (tables_of t) ((second_pass t).own ∷ []) 1 (sites_of t.sites))
    → d ≡ first_of None (fault_list t)
all-noted t a b c d p q r u =
    let passes = passes-so t in
    let names = clashes [] (outermost t) in
    let within = level_faults (sites_of t.sites) in
    let used = use_faults (uses_of t) in
    let above = many (drop (most_sites t.version) t.sites) in
    let uses : level_uses_in (tables_of t) ((second_pass t).own ∷ []) 1 (sites_of t.sites) ≡ used =
    level-uses-are (index_of (binders t)) (tables_of t) (sites_of t.sites)
    ((second_pass t).own ∷ []) (open_at 0 (outermost t) []) 1 (passes.own, tt) passes.fit in
    u ∙ (λ i. first_of (r i) (uses i))
    ∙ ap (λ o. first_of (first_of o within) used)
    (q ∙ (λ i. first_of (p i) (all_clashes (outermost t) i)))
    ∙ ap (λ o. first_of o used) (sym (first-append (first_of None above) names within))
    ∙ sym (first-append (first_of None above) (names ++ within) used)
    ∙ sym (first-append None above ((names ++ within) ++ used))

-- ---- the terms of the sites, where no name clashes

defines-all : (number : Binder → ℕ) (names : List Defining) → Settled names
    → DefinesAll number names
defines-all number names fixed front back d e b = (
  d.1,
  fixed d.0.text d.1 (subst (Has d.0.text d.1) (sym e)
      (has-right d.0.text d.1 front (d ∷ back) (inl (refl, refl)))),
  b,
)

sites-are :
    (number : Binder → ℕ) (tables : List Table) (own : Table) (names : List Defining)
    (env : List Scope) (around : List Table) (xs : List PlaceTree) (k : ℕ)
    → StandsFor number own 0 names → AllOwnDefined number names (sites_of xs)
    → EnvStandsFor number around env → LevelFits number tables k (sites_of xs)
    → site_terms_in tables own around k xs ≡ site_terms number env k xs
sites-are number tables own names env around [] k g o h f = refl
sites-are number tables own names env around (x ∷ xs) k g o h f =
    let ds = s.definitions x.defs in
    let ps = s.processes x.body in
    let n = k + scopes_in_defs ds in
    λ i. record {
      name = binder-is number own 0 names x.name g o.0.0 i;
      defs = level-is number tables ds own 0 names around env k g o.0.1 h f.0.0 i;
      body = together (members-are number tables ps around env n h f.0.1 i);
    }
    ∷ sites-are number tables own names env around xs (k + scopes_in_def (place_of x)) g o.1 h f.1 i

terms-are : (t : TreeOfText) → clashes [] (outermost t) ≡ []
    → site_terms_in (tables_of t) (second_pass t).own ((second_pass t).own ∷ []) 1 t.sites
    ≡ (program t).sites
terms-are t clear =
    let number : Binder → ℕ = index_of (binders t) in
    let passes = passes-so t in
    let names = block (sites_of t.sites) in
    let defined = own_all number (sites_of t.sites) 0 1 (outermost t) (observed_from 0 t.seen) []
    (defines-all number (outermost t) (settled (outermost t) clear))
    (ap (λ l. observed_from 0 t.seen ++ l) (sym (append-nil names))) in
    sites-are number (tables_of t) (second_pass t).own (outermost t) (open_at 0 (outermost t) [])
    ((second_pass t).own ∷ []) t.sites 1 passes.own defined (passes.own, tt) passes.fit

pub record Answers (t : TreeOfText) (p : ProgramTerms) : Type 0 where
  pub kept : IsProgram p
  pub is : IsProgramOf t p

-- where the walks noted nothing, what they made is the program
pub answers : (t : TreeOfText) → IsTree t → (least : Option Fault)
    → least ≡ first_of None (fault_list t) → least ≡ None
    → (version : ℕ) (seen : List SeenDecl) (sites : List SiteTerm) (tops : ℕ)
    (spell : List (List ℕ))
    → version ≡ t.version → seen ≡ seen_decls t.seen
    → sites ≡ site_terms_in (tables_of t) (second_pass t).own ((second_pass t).own ∷ []) 1 t.sites
    → tops ≡ length (first_pass t).spell → spell ≡ (second_pass t).spell
    → Answers t
    (record { version = version; seen = seen; sites = sites; tops = tops; spell = spell })
answers t tree least noted nothing version seen sites tops spell v a b c d =
    let passes = passes-so t in
    let none : fault_list t ≡ [] = no-fault (fault_list t) (sym noted ∙ nothing) in
    let rest = none_right (many (drop (most_sites t.version) t.sites))
    (declared_faults t ++ use_faults (uses_of t)) none in
    let clear : clashes [] (outermost t) ≡ [] =
    none_left (clashes [] (outermost t)) (level_faults (sites_of t.sites))
    (none_left (declared_faults t) (use_faults (uses_of t)) rest) in
    let is : record { version = version; seen = seen; sites = sites; tops = tops; spell = spell }
    ≡ program t =
    λ i. record {
      version = v i;
      seen = a i;
      sites = (b ∙ terms-are t clear) i;
      tops = (c ∙ passes.tops) i;
      spell = (d ∙ passes.spell) i;
    } in
    record {
      kept = subst IsProgram (sym is) (program-kept t tree none);
      is = record {
        is = is;
        none = subst (IsFirst (IsFault t)) (sym noted ∙ nothing) (first-fault t);
      };
    }

-- where they noted a fault, it is the first one
pub refused : (t : TreeOfText) (least : Option Fault) (f : Fault)
    → least ≡ first_of None (fault_list t) → least ≡ Some f → IsFirst (IsFault t) (Some f)
refused t least f noted some = subst (IsFirst (IsFault t)) (sym noted ∙ some) (first-fault t)

-- as many tables as scopes
pub room : (t : TreeOfText) (scopes : List Table) → scopes ≡ tables_of t
    → 1 + scopes_in_defs (sites_of t.sites) ≤ length scopes
room t scopes e = omega (arith, ap length e, (passes-so t).long)

-- ---- one outcome

same-kind : (a b : Kind) → rank a ≡ rank b → a ≡ b
same-kind Lex1 Lex1 e = refl
same-kind Lex2 Lex2 e = refl
same-kind Lex3 Lex3 e = refl
same-kind Grammar1 Grammar1 e = refl
same-kind Grammar2 Grammar2 e = refl
same-kind Scope1 Scope1 e = refl
same-kind Scope2 Scope2 e = refl
same-kind Scope3 Scope3 e = refl
same-kind Scope4 Scope4 e = refl
same-kind Scope5 Scope5 e = refl
same-kind Scope6 Scope6 e = refl
same-kind Arity1 Arity1 e = refl
same-kind Arity2 Arity2 e = refl
same-kind Arity3 Arity3 e = refl
same-kind Arity4 Arity4 e = refl
same-kind a b e = absurd (omega (arith, e))

same-fault : (f g : Fault) → IsSooner f g → IsSooner g f → f ≡ g
same-fault f g (inl a) (inl b) = absurd (omega arith)
same-fault f g (inl a) (inr b) = absurd (omega (arith, a, b.0))
same-fault f g (inr a) (inl b) = absurd (omega (arith, b, a.0))
same-fault f g (inr a) (inr b) =
    let k : rank f.kind ≡ rank g.kind = omega (arith, a.1, b.1) in
    λ i. record { kind = same-kind f.kind g.kind k i; place = a.0 i }

some_outcome : (t : TreeOfText) (o : Option Fault) → IsFirst (IsFault t) o
    → ((p : ProgramTerms) × IsProgramOf t p) ⊎ ((f : Fault) × IsFirst (IsFault t) (Some f))
some_outcome t None first = inl (program t, record { is = refl; none = first })
some_outcome t (Some f) first = inr (f, first)

pub one_outcome : (t : TreeOfText) → HasOneOutcome t
one_outcome t = record {
  some = some_outcome t (first_of None (fault_list t)) (first-fault t);
  one_program = λ p q a b. a.is ∙ sym b.is;
  one_fault = λ f g a b. same-fault f g (a.1 g b.0) (b.1 f a.0);
  never_both = λ p f a b. a.none f b.0;
}

-- where the answer is sound, it is exact but for want of memory
pub reads : (t : TreeOfText) (result : Result ProgramTerms Front) → IfOk result (IsProgramOf t)
    → IfErr result (IsRefusedAs t) → (p : ProgramTerms) → IsProgramOf t p → IsOrMemory (Ok p) result
reads t (Ok q) i f p j = inl (ap Ok ((one_outcome t).one_program q p i j))
reads t (Err (Refused kind place)) i f p j =
    absurd ((one_outcome t).never_both p (record { kind = kind; place = place }) j f)
reads t (Err Memory) i f p j = inr refl

pub refuses : (t : TreeOfText) (result : Result ProgramTerms Front) → IfOk result (IsProgramOf t)
    → IfErr result (IsRefusedAs t) → (g : Fault) → IsFirst (IsFault t) (Some g)
    → IsOrMemory (Err (Refused g.kind g.place)) result
refuses t (Ok q) i f g first = absurd ((one_outcome t).never_both q g i first)
refuses t (Err (Refused kind place)) i f g first =
    inl (ap (λ (x : Fault). Err (Refused x.kind x.place))
    ((one_outcome t).one_fault (record { kind = kind; place = place }) g f first))
refuses t (Err Memory) i f g first = inr refl

-- ---- the parts that the call made of a tree

pub names-are :
    (t : TreeOfText) (trees : List PlaceTree) (seen : List SeenTree) (names : List Defining)
    → trees ≡ t.sites → seen ≡ t.seen
    → names ≡ observed_from 0 seen ++ defining 0 1 (sites_of trees) → names ≡ outermost t
names-are t trees seen names a b n =
    n ∙ (λ i. observed_from 0 (b i) ++ defining 0 1 (sites_of (a i)))

abbrev pub passed : List Defining → List PlaceTree → Level
passed names trees =
    walk_level 0 1 (name_all [] [] names).spell (name_all [] [] names).table (sites_of trees)

pub tables-are :
    (t : TreeOfText) (trees : List PlaceTree) (names : List Defining) (scopes : List Table)
    → trees ≡ t.sites → names ≡ outermost t
    → scopes ≡ (passed names trees).own ∷ (passed names trees).tables → scopes ≡ tables_of t
tables-are t trees names scopes a n e =
    e ∙ (λ i. (passed (n i) (a i)).own ∷ (passed (n i) (a i)).tables)

pub noted-by :
    (t : TreeOfText) (version : ℕ) (trees : List PlaceTree) (names : List Defining)
    (scopes : List Table) (a b c d : Option Fault) → version ≡ t.version → trees ≡ t.sites
    → names ≡ outermost t → scopes ≡ tables_of t
    → a ≡ first_of None (many (drop (most_sites version) trees))
    → b ≡ first_of a (clashes_in [] names) → c ≡ first_of b (level_faults (sites_of trees))
    → d ≡ first_of c (level_uses_in scopes (get_or scopes 0 [] ∷ []) 1 (sites_of trees))
    → d ≡ first_of None (fault_list t)
noted-by t version trees names scopes a b c d v e n s p q r u =
    all-noted t a b c d (p ∙ (λ i. first_of None (many (drop (most_sites (v i)) (e i)))))
    (q ∙ (λ i. first_of a (clashes_in [] (n i))))
    (r ∙ (λ i. first_of b (level_faults (sites_of (e i)))))
    (u ∙ (λ i. first_of c (level_uses_in (s i) (get_or (s i) 0 [] ∷ []) 1 (sites_of (e i)))))

pub sites-made :
    (t : TreeOfText) (trees : List PlaceTree) (scopes : List Table) (sites : List SiteTerm)
    → trees ≡ t.sites → scopes ≡ tables_of t
    → sites ≡ site_terms_in scopes (get_or scopes 0 []) (get_or scopes 0 [] ∷ []) 1 trees
    → sites ≡ site_terms_in (tables_of t) (second_pass t).own ((second_pass t).own ∷ []) 1 t.sites
sites-made t trees scopes sites e s v =
    v ∙ (λ i. site_terms_in (s i) (get_or (s i) 0 []) (get_or (s i) 0 [] ∷ []) 1 (e i))

pub tops-made : (t : TreeOfText) (names : List Defining) (tops : ℕ) → names ≡ outermost t
    → tops ≡ length (name_all [] [] names).spell → tops ≡ length (first_pass t).spell
tops-made t names tops n e = e ∙ (λ i. length (name_all [] [] (n i)).spell)

pub spell-made :
    (t : TreeOfText) (trees : List PlaceTree) (names : List Defining) (spell : List (List ℕ))
    → trees ≡ t.sites → names ≡ outermost t → spell ≡ (passed names trees).spell
    → spell ≡ (second_pass t).spell
spell-made t trees names spell a n e = e ∙ (λ i. (passed (n i) (a i)).spell)

pub room-for : (t : TreeOfText) (trees : List PlaceTree) (scopes : List Table) → trees ≡ t.sites
    → scopes ≡ tables_of t → 1 + scopes_in_defs (sites_of trees) ≤ length scopes
room-for t trees scopes e s =
    omega (arith, room t scopes s, ap (λ l. scopes_in_defs (sites_of l)) e)
