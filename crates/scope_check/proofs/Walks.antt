-- The first walk numbers the binders in source order, and its tables stand for the tree's scopes.
use Rattle.std.proofs.Common.{◌≡◌, ℕ, ◌+◌, ◌<◌, ◌≤◌, inl, inr, ◌||◌, List, [], ◌∷◌, ◌++◌, length}
use Rattle.std.proofs.Common.{drop, get_or, refl, sym, ap, ◌∙◌, subst, arith, append_assoc}
use Rattle.std.proofs.Common.{append-nil, length-append, is_some}
use Rattle.join_parse.specs.declared.word.Word.{Word}
use Rattle.join_parse.specs.declared.word.PatTree.{PatTree}
use Rattle.join_parse.specs.Source.{Process, Zero, Msg, Go, Fail, Halt, Add, Same, Group, Def}
use Rattle.join_parse.specs.Source.{Processes, none, one_more, Definition, Rule, Place, Definitions}
use Rattle.join_parse.specs.Source.{no_definition, and_also}
use Rattle.scope_names.specs.declared.scope.Sort.TheVariants.{Channel, Location, Parameter}
use Rattle.scope_check.specs.Blocks.{Defining, channels, params, parameters, defining, defining_one}
use Rattle.scope_check.specs.Blocks.{places_of, block, first_in, scopes_in, scopes_in_all}
use Rattle.scope_check.specs.Blocks.{scopes_in_def, scopes_in_defs}
use Rattle.scope_check.specs.Numbers.{Binder, binder, is_same, in_params, in_patterns, in_process}
use Rattle.scope_check.specs.Numbers.{in_processes, in_definition, in_definitions, firsts_after}
use Rattle.scope_check.specs.inside.Twin.{Table}
use Rattle.scope_check.specs.inside.Naming.{Named, name_one, name_words, Joined, name_patterns}
use Rattle.scope_check.specs.inside.Naming.{Walked, Level, walk, walk_all, walk_one, walk_level}
use Rattle.scope_check.proofs.Counting.{Counts}
use Rattle.scope_check.proofs.Lists.{any-append, or-false, parameters-append}
use Rattle.scope_check.proofs.Steps.{key, Before, before-more, name-step}
use Rattle.scope_check.proofs.Outside.{Outside, outside-append, outside-cons, params-outside}
use Rattle.scope_check.proofs.Outside.{patterns-outside, process-outside, processes-outside}
use Rattle.scope_check.proofs.Outside.{definition-outside, definitions-outside}
use Rattle.scope_check.proofs.Tables.{StandsFor, Fits, AllFit, DefinitionFits, LevelFits}
use Rattle.scope_check.proofs.Own.{after, at_drop, own_block}

-- no scope from k on has been opened
abbrev pub Fresh : ℕ → List Binder → Type 0
Fresh k before = (j : ℕ) → k ≤ j → Outside j before

-- what binds elsewhere changes nothing here
before-past : (before bs : List Binder) (k : ℕ) (names : List Defining) → Before before k names
    → Outside k bs → Before (before ++ bs) k names
before-past before bs k names h o text = any-append (is_same (key k text)) before bs
    ∙ (λ i. h text i || o text i) ∙ or-false (is_some (first_in text names))

before-none : (before : List Binder) (k : ℕ) → Outside k before → Before before k []
before-none before k o text = o text

fresh-past : (before bs : List Binder) (k n : ℕ) → Fresh k before
    → ((j : ℕ) → k + n ≤ j → Outside j bs) → Fresh (k + n) (before ++ bs)
fresh-past before bs k n f o j h = outside-append j before bs (f j (omega arith)) (o j h)

module _ (number : Binder → ℕ) (whole : List (List ℕ)) where
  pub record WordsSo (before rest : List Binder) (k : ℕ) (names : List Defining) (ws : List Word)
      (n : Named) : Type 0 where
    pub stands : StandsFor number n.table k (names ++ parameters ws)
    pub seen : Before (before ++ in_params k ws) k (names ++ parameters ws)
    pub counts : Counts number whole n.spell (firsts_after (before ++ in_params k ws) rest)

  words-so :
      (ws : List Word) (spell : List (List ℕ)) (table : Table) (before rest : List Binder) (k : ℕ)
      (names : List Defining)
      → StandsFor number table k names → Before before k names
      → Counts number whole spell (firsts_after before (in_params k ws ++ rest))
      → WordsSo before rest k names ws (name_words spell table ws)
  words-so [] spell table before rest k names s b c = record {
    stands = subst (StandsFor number table k) (sym (append-nil names)) s;
    seen = subst (λ l. Before l k (names ++ [])) (sym (append-nil before))
        (subst (Before before k) (sym (append-nil names)) b);
    counts =
        subst (λ l. Counts number whole spell (firsts_after l rest)) (sym (append-nil before)) c;
  }
  words-so (w ∷ ws) spell table before rest k names s b c =
      let d : Defining = (w, Parameter) in
      let a =
      name-step number whole spell table before (in_params k ws ++ rest) k names d tt s b c in
      let n = name_one spell table w Parameter in
      let r = words-so ws n.spell n.table (before ++ binder k w ∷ []) rest k (names ++ d ∷ [])
      a.stands (before-more before k names d b) a.counts in
      let ns = append_assoc names (d ∷ []) (parameters ws) in
      let bs = append_assoc before (binder k w ∷ []) (in_params k ws) in
      let m = name_words n.spell n.table ws in
      record {
        stands = subst (StandsFor number m.table k) ns r.stands;
        seen = subst (λ l. Before l k (names ++ parameters (w ∷ ws))) bs
            (subst (Before ((before ++ binder k w ∷ []) ++ in_params k ws) k) ns r.seen);
        counts = subst (λ l. Counts number whole m.spell (firsts_after l rest)) bs r.counts;
      }

  pub record PatsSo (before rest : List Binder) (at own k : ℕ) (names inner : List Defining)
      (ps : List PatTree) (j : Joined) : Type 0 where
    pub stands : StandsFor number j.own own (names ++ channels at ps)
    pub params_stand : StandsFor number j.params k (inner ++ parameters (params ps))
    pub seen : Before (before ++ in_patterns own k ps) own (names ++ channels at ps)
    pub counts : Counts number whole j.spell (firsts_after (before ++ in_patterns own k ps) rest)

  pats-so :
      (ps : List PatTree) (at : ℕ) (spell : List (List ℕ)) (ot pt : Table)
      (before rest : List Binder) (own k : ℕ) (names inner : List Defining) → own < k
      → StandsFor number ot own names → StandsFor number pt k inner → Before before own names
      → Before before k inner
      → Counts number whole spell (firsts_after before (in_patterns own k ps ++ rest))
      → PatsSo before rest at own k names inner ps (name_patterns at spell ot pt ps)
  pats-so [] at spell ot pt before rest own k names inner lt s q b e c = record {
    stands = subst (StandsFor number ot own) (sym (append-nil names)) s;
    params_stand = subst (StandsFor number pt k) (sym (append-nil inner)) q;
    seen = subst (λ l. Before l own (names ++ [])) (sym (append-nil before))
        (subst (Before before own) (sym (append-nil names)) b);
    counts =
        subst (λ l. Counts number whole spell (firsts_after l rest)) (sym (append-nil before)) c;
  }
  pats-so (p ∷ ps) at spell ot pt before rest own k names inner lt s q b e c =
      let d : Defining = (p.on, Channel (length p.params) at) in
      let more = in_patterns own k ps in
      let c1 = subst (λ l. Counts number whole spell (firsts_after before l))
      (append_assoc (binder own p.on ∷ in_params k p.params) more rest) c in
      let a = name-step number whole spell ot before (in_params k p.params ++ (more ++ rest)) own
      names d tt s b c1 in
      let n = name_one spell ot p.on (Channel (length p.params) at) in
      let b1 = before ++ binder own p.on ∷ [] in
      let e1 = before-past before (binder own p.on ∷ []) k inner e
      (outside-cons k own p.on [] (λ x. omega arith) (λ text. refl)) in
      let w = words-so p.params n.spell pt b1 (more ++ rest) k inner q e1 a.counts in
      let m = name_words n.spell pt p.params in
      let b2 = b1 ++ in_params k p.params in
      let o2 = before-past b1 (in_params k p.params) own (names ++ d ∷ [])
      (before-more before own names d b) (params-outside p.params own k (λ x. omega arith)) in
      let r = pats-so ps at m.spell n.table m.table b2 rest own k (names ++ d ∷ [])
      (inner ++ parameters p.params) lt a.stands w.stands o2 w.seen w.counts in
      let j = name_patterns at m.spell n.table m.table ps in
      let ns = append_assoc names (d ∷ []) (channels at ps) in
      let bs : b2 ++ more ≡ before ++ in_patterns own k (p ∷ ps) =
      append_assoc b1 (in_params k p.params) more
      ∙ append_assoc before (binder own p.on ∷ []) (in_params k p.params ++ more) in
      record {
        stands = subst (StandsFor number j.own own) ns r.stands;
        params_stand = subst (StandsFor number j.params k)
            (append_assoc inner (parameters p.params) (parameters (params ps))
            ∙ ap (λ l. inner ++ l) (sym (parameters-append p.params (params ps)))) r.params_stand;
        seen = subst (λ l. Before l own (names ++ channels at (p ∷ ps))) bs
            (subst (Before (b2 ++ more) own) ns r.seen);
        counts = subst (λ l. Counts number whole j.spell (firsts_after l rest)) bs r.counts;
      }

  pub record WalkSo (before rest bs : List Binder) (n : ℕ)
      (fits : (ts after : List Table) → List Table → Type 0) (w : Walked) : Type 0 where
    pub counts : Counts number whole w.spell (firsts_after (before ++ bs) rest)
    pub long : length w.tables ≡ n
    pub fit : (ts after : List Table) → fits ts after w.tables

  pub record LevelSo (before rest bs : List Binder) (own n : ℕ) (names : List Defining)
      (fits : (ts after : List Table) → List Table → Type 0) (l : Level) : Type 0 where
    pub stands : StandsFor number l.own own names
    pub seen : Before (before ++ bs) own names
    pub counts : Counts number whole l.spell (firsts_after (before ++ bs) rest)
    pub long : length l.tables ≡ n
    pub fit : (ts after : List Table) → fits ts after l.tables

  -- what comes before stays as it is where nothing is added
  nothing : (before rest : List Binder) (spell : List (List ℕ))
      → Counts number whole spell (firsts_after before rest)
      → Counts number whole spell (firsts_after (before ++ []) rest)
  nothing before rest spell c =
      subst (λ l. Counts number whole spell (firsts_after l rest)) (sym (append-nil before)) c

  mutual
    pub walk-so : (p : Process) (spell : List (List ℕ)) (k : ℕ) (before rest : List Binder)
        → Fresh k before → Counts number whole spell (firsts_after before (in_process k p ++ rest))
        → WalkSo before rest (in_process k p) (scopes_in p)
        (λ ts more w. drop k ts ≡ w ++ more → Fits number ts k p) (walk spell p)
    walk-so Zero spell k before rest f c =
        record { counts = nothing before rest spell c; long = refl; fit = λ ts more e. tt }
    walk-so (Msg on args) spell k before rest f c =
        record { counts = nothing before rest spell c; long = refl; fit = λ ts more e. tt }
    walk-so (Go b d) spell k before rest f c =
        record { counts = nothing before rest spell c; long = refl; fit = λ ts more e. tt }
    walk-so (Fail b d) spell k before rest f c =
        record { counts = nothing before rest spell c; long = refl; fit = λ ts more e. tt }
    walk-so Halt spell k before rest f c =
        record { counts = nothing before rest spell c; long = refl; fit = λ ts more e. tt }
    walk-so (Add l r d) spell k before rest f c =
        record { counts = nothing before rest spell c; long = refl; fit = λ ts more e. tt }
    walk-so (Same l r d e) spell k before rest f c =
        record { counts = nothing before rest spell c; long = refl; fit = λ ts more e. tt }
    walk-so (Group ps) spell k before rest f c =
        let r = all-so ps spell k before rest f c in
        record { counts = r.counts; long = r.long; fit = r.fit }
    walk-so (Def ds ps) spell k before rest f c =
        let n = scopes_in_defs ds in
        let x = in_definitions k (k + 1) ds in let y = in_processes (k + 1 + n) ps in
        let c1 =
        subst (λ l. Counts number whole spell (firsts_after before l)) (append_assoc x y rest) c in
        let l = level-so ds 0 1 spell [] (k + 1) before (y ++ rest) k [] (omega arith)
        (λ j h. f j (omega arith)) (λ text. refl) (before-none before k (f k (omega arith))) c1 in
        let lv = walk_level 0 1 spell [] ds in
        let f2 : Fresh (k + 1 + n) (before ++ x) = λ j h. outside-append j before x
        (f j (omega arith)) (definitions-outside ds j k (k + 1) (λ e. omega arith) (inr h)) in
        let b = all-so ps lv.spell (k + 1 + n) (before ++ x) rest f2 l.counts in
        let bw = walk_all lv.spell ps in
        record {
          counts = subst (λ z. Counts number whole bw.spell (firsts_after z rest))
              (append_assoc before x y) b.counts;
          long = omega (arith, length-append lv.tables bw.tables, l.long, b.long);
          fit = λ ts more e.
              let here : get_or ts k [] ≡ lv.own =
              at_drop k ts lv.own ((lv.tables ++ bw.tables) ++ more) e in
              let one : drop (k + 1) ts ≡ lv.tables ++ (bw.tables ++ more) =
              after (lv.own ∷ []) k (k + 1) ts ((lv.tables ++ bw.tables) ++ more) (omega arith) e
              ∙ append_assoc lv.tables bw.tables more in
              let two : drop (k + 1 + n) ts ≡ bw.tables ++ more =
              after lv.tables (k + 1) (k + 1 + n) ts (bw.tables ++ more) (omega (arith, l.long))
              one in (
                subst (λ t. StandsFor number t k (block ds)) (sym here) l.stands,
                own_block number ds,
                l.fit ts (bw.tables ++ more) one,
                b.fit ts more two,
              );
        }

    pub all-so : (ps : Processes) (spell : List (List ℕ)) (k : ℕ) (before rest : List Binder)
        → Fresh k before
        → Counts number whole spell (firsts_after before (in_processes k ps ++ rest))
        → WalkSo before rest (in_processes k ps) (scopes_in_all ps)
        (λ ts more w. drop k ts ≡ w ++ more → AllFit number ts k ps) (walk_all spell ps)
    all-so none spell k before rest f c =
        record { counts = nothing before rest spell c; long = refl; fit = λ ts more e. tt }
    all-so (one_more p ps) spell k before rest f c =
        let n = scopes_in p in
        let x = in_process k p in let y = in_processes (k + n) ps in
        let c1 =
        subst (λ l. Counts number whole spell (firsts_after before l)) (append_assoc x y rest) c in
        let a = walk-so p spell k before (y ++ rest) f c1 in
        let aw = walk spell p in
        let b = all-so ps aw.spell (k + n) (before ++ x) rest
        (fresh-past before x k n f (λ j h. process-outside p j k (inr h))) a.counts in
        let bw = walk_all aw.spell ps in
        record {
          counts = subst (λ z. Counts number whole bw.spell (firsts_after z rest))
              (append_assoc before x y) b.counts;
          long = omega (arith, length-append aw.tables bw.tables, a.long, b.long);
          fit = λ ts more e.
              let one : drop k ts ≡ aw.tables ++ (bw.tables ++ more) =
              e ∙ append_assoc aw.tables bw.tables more in (
                a.fit ts (bw.tables ++ more) one,
                b.fit ts more
                    (after aw.tables k (k + n) ts (bw.tables ++ more) (omega (arith, a.long)) one),
              );
        }

    pub one-so :
        (d : Definition) (at place : ℕ) (spell : List (List ℕ)) (own_table : Table) (k : ℕ)
        (before rest : List Binder) (own : ℕ) (names : List Defining) → own < k → Fresh k before
        → StandsFor number own_table own names → Before before own names
        → Counts number whole spell (firsts_after before (in_definition own k d ++ rest))
        → LevelSo before rest (in_definition own k d) own (scopes_in_def d)
        (names ++ defining_one at place d)
        (λ ts more w. drop k ts ≡ w ++ more → DefinitionFits number ts k d)
        (walk_one at place spell own_table d)
    one-so (Rule pats body) at place spell ot k before rest own names lt f s b c =
        let x = in_patterns own k pats in let y = in_processes (k + 1) body in
        let c1 =
        subst (λ l. Counts number whole spell (firsts_after before l)) (append_assoc x y rest) c in
        let p = pats-so pats at spell ot [] before (y ++ rest) own k names [] lt s (λ text. refl) b
        (before-none before k (f k (omega arith))) c1 in
        let j = name_patterns at spell ot [] pats in
        let f2 : Fresh (k + 1) (before ++ x) = λ i h. outside-append i before x (f i (omega arith))
        (patterns-outside pats i own k (λ e. omega arith) (λ e. omega arith)) in
        let w = all-so body j.spell (k + 1) (before ++ x) rest f2 p.counts in
        let bw = walk_all j.spell body in
        record {
          stands = p.stands;
          seen = subst (λ z. Before z own (names ++ channels at pats)) (append_assoc before x y)
              (before-past (before ++ x) y own (names ++ channels at pats)
              p.seen (processes-outside body own (k + 1) (inl (omega arith))));
          counts = subst (λ z. Counts number whole bw.spell (firsts_after z rest))
              (append_assoc before x y) w.counts;
          long = omega (arith, w.long);
          fit = λ ts more e. (
            subst (λ t. StandsFor number t k (parameters (params pats)))
                (sym (at_drop k ts j.params (bw.tables ++ more) e)) p.params_stand,
            w.fit ts more (after (j.params ∷ []) k (k + 1) ts (bw.tables ++ more) (omega arith) e),
          );
        }
    one-so (Place o a ds body) at place spell ot k before rest own names lt f s b c =
        let n = scopes_in_defs ds in
        let d : Defining = (a, Location) in
        let x = in_definitions own k ds in let y = in_processes (k + n) body in
        let c1 = subst (λ l. Counts number whole spell (firsts_after before l))
        (append_assoc (binder own a ∷ x) y rest) c in
        let one = name-step number whole spell ot before (x ++ (y ++ rest)) own names d tt s b c1 in
        let nm = name_one spell ot a Location in
        let b1 = before ++ binder own a ∷ [] in
        let f1 : Fresh k b1 = λ j h. outside-append j before (binder own a ∷ []) (f j h)
        (outside-cons j own a [] (λ e. omega arith) (λ text. refl)) in
        let l = level-so ds place (place + 1) nm.spell nm.table k b1 (y ++ rest) own
        (names ++ d ∷ []) lt f1 one.stands (before-more before own names d b) one.counts in
        let lv = walk_level place (place + 1) nm.spell nm.table ds in
        let b2 = b1 ++ x in
        let f2 : Fresh (k + n) b2 =
        fresh-past b1 x k n f1 (λ j h. definitions-outside ds j own k (λ e. omega arith) (inr h)) in
        let w = all-so body lv.spell (k + n) b2 rest f2 l.counts in
        let bw = walk_all lv.spell body in
        let ns = append_assoc names (d ∷ []) (defining place (place + 1) ds) in
        let bs : b2 ++ y ≡ before ++ in_definition own k (Place o a ds body) =
        append_assoc b1 x y ∙ append_assoc before (binder own a ∷ []) (x ++ y) in
        record {
          stands = subst (StandsFor number lv.own own) ns l.stands;
          seen = subst (λ z. Before z own (names ++ defining_one at place (Place o a ds body))) bs
              (before-past b2 y own (names ++ defining_one at place (Place o a ds body))
              (subst (Before b2 own) ns l.seen)
              (processes-outside body own (k + n) (inl (omega arith))));
          counts = subst (λ z. Counts number whole bw.spell (firsts_after z rest)) bs w.counts;
          long = omega (arith, length-append lv.tables bw.tables, l.long, w.long);
          fit = λ ts more e.
              let first : drop k ts ≡ lv.tables ++ (bw.tables ++ more) =
              e ∙ append_assoc lv.tables bw.tables more in (
                l.fit ts (bw.tables ++ more) first,
                w.fit ts more (after lv.tables k (k + n) ts (bw.tables ++ more)
                    (omega (arith, l.long)) first),
              );
        }

    pub level-so :
        (ds : Definitions) (at place : ℕ) (spell : List (List ℕ)) (own_table : Table) (k : ℕ)
        (before rest : List Binder) (own : ℕ) (names : List Defining) → own < k → Fresh k before
        → StandsFor number own_table own names → Before before own names
        → Counts number whole spell (firsts_after before (in_definitions own k ds ++ rest))
        → LevelSo before rest (in_definitions own k ds) own (scopes_in_defs ds)
        (names ++ defining at place ds)
        (λ ts more w. drop k ts ≡ w ++ more → LevelFits number ts k ds)
        (walk_level at place spell own_table ds)
    level-so no_definition at place spell ot k before rest own names lt f s b c = record {
      stands = subst (StandsFor number ot own) (sym (append-nil names)) s;
      seen = subst (λ l. Before l own (names ++ [])) (sym (append-nil before))
          (subst (Before before own) (sym (append-nil names)) b);
      counts = nothing before rest spell c;
      long = refl;
      fit = λ ts more e. tt;
    }
    level-so (and_also d ds) at place spell ot k before rest own names lt f s b c =
        let n = scopes_in_def d in
        let x = in_definition own k d in let y = in_definitions own (k + n) ds in
        let c1 =
        subst (λ l. Counts number whole spell (firsts_after before l)) (append_assoc x y rest) c in
        let a = one-so d at place spell ot k before (y ++ rest) own names lt f s b c1 in
        let av = walk_one at place spell ot d in
        let ns1 = names ++ defining_one at place d in
        let r = level-so ds at (place + places_of d) av.spell av.own (k + n) (before ++ x) rest own
        ns1 (omega arith)
        (fresh-past before x k n f (λ j h. definition-outside d j own k (λ e. omega arith) (inr h)))
        a.stands a.seen a.counts in
        let rv = walk_level at (place + places_of d) av.spell av.own ds in
        let ns =
        append_assoc names (defining_one at place d) (defining at (place + places_of d) ds) in
        let bs = append_assoc before x y in
        record {
          stands = subst (StandsFor number rv.own own) ns r.stands;
          seen = subst (λ z. Before z own (names ++ defining at place (and_also d ds))) bs
              (subst (Before ((before ++ x) ++ y) own) ns r.seen);
          counts = subst (λ z. Counts number whole rv.spell (firsts_after z rest)) bs r.counts;
          long = omega (arith, length-append av.tables rv.tables, a.long, r.long);
          fit = λ ts more e.
              let first : drop k ts ≡ av.tables ++ (rv.tables ++ more) =
              e ∙ append_assoc av.tables rv.tables more in (
                a.fit ts (rv.tables ++ more) first,
                r.fit ts more (after av.tables k (k + n) ts (rv.tables ++ more)
                    (omega (arith, a.long)) first),
              );
        }
