-- The outermost block: its names are numbered first, and then all that its bodies bind.
use Rattle.std.proofs.Common.{◌≡◌, ℕ, ◌+◌, Bool, true, false, cond, ◌||◌, List, [], ◌∷◌, ◌++◌}
use Rattle.std.proofs.Common.{Option, Some, None, length, drop, refl, sym, ap, ◌∙◌, subst, arith}
use Rattle.std.proofs.Common.{append_assoc, append-nil, is_some}
use Rattle.std.proofs.lemmas.Bool.{or_parts}
use Rattle.std.specs.Str.{bytes_eq}
use Rattle.std.specs.List.{list_any}
use Rattle.join_parse.specs.declared.word.Word.{Word}
use Rattle.join_parse.specs.declared.word.SeenTree.{SeenTree}
use Rattle.join_parse.specs.Grammar.{TreeOfText}
use Rattle.scope_names.specs.declared.scope.Sort.{Sort}
use Rattle.scope_names.specs.declared.scope.Sort.TheVariants.{Observed}
use Rattle.scope_names.specs.declared.scope.Entry.{Entry}
use Rattle.scope_names.specs.Frames.{in_frame}
use Rattle.scope_check.specs.Blocks.{Defining, block, sites_of, observed_from, outermost, first_in}
use Rattle.scope_check.specs.Blocks.{scopes_in_defs}
use Rattle.scope_check.specs.Numbers.{Binder, binder, is_same, firsts_after, keys, observed}
use Rattle.scope_check.specs.Numbers.{site_names, all_binding, site_level, others, binders}
use Rattle.scope_check.specs.Numbers.{index_of}
use Rattle.scope_check.specs.Stands.{texts}
use Rattle.scope_check.specs.inside.Naming.{Named, numbered_as, name_if, name_one, name_all, Level}
use Rattle.scope_check.specs.inside.Naming.{walk_level}
use Rattle.scope_check.specs.inside.Twin.{Table}
use Rattle.scope_check.proofs.Counting.{Consecutive, Counts}
use Rattle.scope_check.proofs.Lists.{or_sort, first-append, or_entry, frame-append, frame-kept}
use Rattle.scope_check.proofs.Lists.{any-append}
use Rattle.scope_check.proofs.Tables.{StandsFor, entered, LevelFits}
use Rattle.scope_check.proofs.Steps.{key, Before, before-more, name-step}
use Rattle.scope_check.proofs.Outside.{Outside, outside-cons}
use Rattle.scope_check.proofs.Own.{AllBinding, defining-binding}
use Rattle.scope_check.proofs.Walks.{Fresh, LevelSo, level-so}
use Rattle.scope_check.proofs.Counted.{Covers, counted}

abbrev entry_as : List (List ℕ) → Sort → Entry
entry_as spell s = record { sort = s; binder = numbered_as s (length spell) }

-- what a table answers after one more word
name-finds : (text : List ℕ) (spell : List (List ℕ)) (table : Table) (w : Word) (s : Sort)
    → in_frame text (name_one spell table w s).table
    ≡ or_entry (in_frame text table) (cond (bytes_eq text w.text) (Some (entry_as spell s)) None)
name-finds text spell table w s = by (in_frame w.text table) refl
  where
    by : (o : Option Entry) → in_frame w.text table ≡ o
        → in_frame text (name_if (is_some (in_frame w.text table)) spell table w s).table
        ≡ or_entry (in_frame text table)
        (cond (bytes_eq text w.text) (Some (entry_as spell s)) None)
    by (Some e) q = ap (λ o. in_frame text (name_if (is_some o) spell table w s).table) q
        ∙ frame-kept text table w e (entry_as spell s) q (bytes_eq text w.text) refl
    by None q = ap (λ o. in_frame text (name_if (is_some o) spell table w s).table) q
        ∙ frame-append text table ((w.text, entry_as spell s) ∷ [])

observed-spell : (spell : List (List ℕ)) (table : Table) (w : Word) (m i : ℕ)
    → (name_one spell table w (Observed m i)).spell ≡ spell
observed-spell spell table w m i = by (is_some (in_frame w.text table))
  where
    by : (b : Bool) → (name_if b spell table w (Observed m i)).spell ≡ spell
    by true = refl
    by false = refl

module _ (number : Binder → ℕ) where
  observed-step :
      (spell : List (List ℕ)) (table : Table) (w : Word) (m i : ℕ) (names : List Defining)
      → StandsFor number table 0 names
      → StandsFor number (name_one spell table w (Observed m i)).table 0
      (names ++ (w, Observed m i) ∷ [])
  observed-step spell table w m i names h text =
      name-finds text spell table w (Observed m i)
      ∙ ap
      (λ o. or_entry o (cond (bytes_eq text w.text) (Some (entry_as spell (Observed m i))) None))
      (h text)
      ∙ both (first_in text names) (bytes_eq text w.text)
      ∙ ap (entered number 0 text) (sym (first-append text names ((w, Observed m i) ∷ [])))
    where
      both : (o : Option Sort) (b : Bool)
          → or_entry (entered number 0 text o) (cond b (Some (entry_as spell (Observed m i))) None)
          ≡ entered number 0 text (or_sort o (cond b (Some (Observed m i)) None))
      both None true = refl
      both None false = refl
      both (Some s) b = refl

  record SeenSo (spell : List (List ℕ)) (names more : List Defining) (n : Named) : Type 0 where
    stands : StandsFor number n.table 0 (names ++ more)
    same : n.spell ≡ spell

  observed-so :
      (ss : List SeenTree) (i : ℕ) (spell : List (List ℕ)) (table : Table) (names : List Defining)
      → StandsFor number table 0 names
      → SeenSo spell names (observed_from i ss) (name_all spell table (observed_from i ss))
  observed-so [] i spell table names h =
      record { stands = subst (StandsFor number table 0) (sym (append-nil names)) h; same = refl }
  observed-so (x ∷ ss) i spell table names h =
      let d : Defining = (x.name, Observed x.count i) in
      let a = name_one spell table x.name (Observed x.count i) in
      let r = observed-so ss (i + 1) a.spell a.table (names ++ d ∷ [])
      (observed-step spell table x.name x.count i names h) in
      record {
        stands =
            subst (StandsFor number (name_all a.spell a.table (observed_from (i + 1) ss)).table 0)
            (append_assoc names (d ∷ []) (observed_from (i + 1) ss)) r.stands;
        same = r.same ∙ observed-spell spell table x.name x.count i;
      }

  module _ (whole : List (List ℕ)) where
    record NamesSo (before rest : List Binder) (k : ℕ) (names more : List Defining)
        (n : Named) : Type 0 where
      stands : StandsFor number n.table k (names ++ more)
      seen : Before (before ++ keys k more) k (names ++ more)
      counts : Counts number whole n.spell (firsts_after (before ++ keys k more) rest)

    names-so :
        (ds : List Defining) (spell : List (List ℕ)) (table : Table) (before rest : List Binder)
        (k : ℕ) (names : List Defining) → AllBinding ds
        → StandsFor number table k names → Before before k names
        → Counts number whole spell (firsts_after before (keys k ds ++ rest))
        → NamesSo before rest k names ds (name_all spell table ds)
    names-so [] spell table before rest k names a s b c = record {
      stands = subst (StandsFor number table k) (sym (append-nil names)) s;
      seen = subst (λ l. Before l k (names ++ [])) (sym (append-nil before))
          (subst (Before before k) (sym (append-nil names)) b);
      counts =
          subst (λ l. Counts number whole spell (firsts_after l rest)) (sym (append-nil before)) c;
    }
    names-so (d ∷ ds) spell table before rest k names a s b c =
        let one =
        name-step number whole spell table before (keys k ds ++ rest) k names d a.0 s b c in
        let n = name_one spell table d.0 d.1 in
        let r = names-so ds n.spell n.table (before ++ binder k d.0 ∷ []) rest k (names ++ d ∷ [])
        a.1 one.stands (before-more before k names d b) one.counts in
        let ns = append_assoc names (d ∷ []) ds in
        let bs = append_assoc before (binder k d.0 ∷ []) (keys k ds) in
        let m = name_all n.spell n.table ds in
        record {
          stands = subst (StandsFor number m.table k) ns r.stands;
          seen = subst (λ l. Before l k (names ++ d ∷ ds)) bs
              (subst (Before ((before ++ binder k d.0 ∷ []) ++ keys k ds) k) ns r.seen);
          counts = subst (λ l. Counts number whole m.spell (firsts_after l rest)) bs r.counts;
        }

-- names in two steps
name-all-append : (xs ys : List Defining) (spell : List (List ℕ)) (table : Table)
    → name_all spell table (xs ++ ys)
    ≡ name_all (name_all spell table xs).spell (name_all spell table xs).table ys
name-all-append [] ys spell table = refl
name-all-append (x ∷ xs) ys spell table =
    let a = name_one spell table x.0 x.1 in
    name-all-append xs ys a.spell a.table

-- the binders of a list stand before as its names do
before-keys : (ds : List Defining) (k : ℕ) (before : List Binder) (names : List Defining)
    → Before before k names → Before (before ++ keys k ds) k (names ++ ds)
before-keys [] k before names b = subst (λ l. Before l k (names ++ [])) (sym (append-nil before))
    (subst (Before before k) (sym (append-nil names)) b)
before-keys (d ∷ ds) k before names b =
    let r = before-keys ds k (before ++ binder k d.0 ∷ []) (names ++ d ∷ [])
    (before-more before k names d b) in
    subst (λ l. Before l k (names ++ d ∷ ds)) (append_assoc before (binder k d.0 ∷ []) (keys k ds))
    (subst (Before ((before ++ binder k d.0 ∷ []) ++ keys k ds) k) (append_assoc names (d ∷ []) ds)
    r)

-- they bind in their scope alone
keys-outside : (ds : List Defining) (j k : ℕ) → (j ≡ k → ⊥) → Outside j (keys k ds)
keys-outside [] j k o = λ text. refl
keys-outside (d ∷ ds) j k o = outside-cons j k d.0 (keys k ds) o (keys-outside ds j k o)

-- what isn't in a list isn't among its first occurrences
pub firsts-within : (bs before : List Binder) (b : Binder) → list_any (is_same b) bs ≡ false
    → list_any (is_same b) (firsts_after before bs) ≡ false
firsts-within [] before b e = refl
firsts-within (c ∷ bs) before b e =
    by (list_any (is_same c) before) (firsts_after (before ++ c ∷ []) bs)
    (firsts-within bs (before ++ c ∷ []) b (or_parts (is_same b c) (list_any (is_same b) bs) e).1)
  where
    by : (v : Bool) (more : List Binder) → list_any (is_same b) more ≡ false
        → list_any (is_same b) (cond v more (c ∷ more)) ≡ false
    by true more ih = ih
    by false more ih = (λ i. (or_parts (is_same b c) (list_any (is_same b) bs) e).0 i || ih i)

-- the binders of a tree have the numbers 0, 1, 2 and so on
pub numbers-site : (t : TreeOfText) → Consecutive (index_of (binders t)) 0 (site_level t)
numbers-site t = counted (site_names t) (observed t) [] (others t) (λ b e. refl)

pub numbers-other : (t : TreeOfText)
    → Consecutive (index_of (binders t)) (length (site_level t)) (others t)
numbers-other t =
    subst (λ l. Consecutive (index_of (site_level t ++ l)) (length (site_level t)) (others t))
    (append-nil (others t))
    (counted (all_binding t) (observed t ++ site_names t) (site_level t) [] covers)
  where
    covers : Covers (observed t ++ site_names t) (site_level t)
    covers b e = firsts-within (site_names t) (observed t) b
        (or_parts (list_any (is_same b) (observed t)) (list_any (is_same b) (site_names t))
        (sym (any-append (is_same b) (observed t) (site_names t)) ∙ e)).1

texts-append : (xs ys : List Binder) → texts (xs ++ ys) ≡ texts xs ++ texts ys
texts-append [] ys = refl
texts-append (x ∷ xs) ys = ap (λ l. x.text ∷ l) (texts-append xs ys)

-- a spelling that stands twice is resolved as one that stands once
first-twice : (text : List ℕ) (xs ys : List Defining)
    → first_in text ((xs ++ ys) ++ ys) ≡ first_in text (xs ++ ys)
first-twice text xs ys =
    first-append text (xs ++ ys) ys
    ∙ ap (λ o. or_sort o (first_in text ys)) (first-append text xs ys)
    ∙ twice (first_in text xs) (first_in text ys) ∙ sym (first-append text xs ys)
  where
    twice : (a b : Option Sort) → or_sort (or_sort a b) b ≡ or_sort a b
    twice None None = refl
    twice None (Some s) = refl
    twice (Some s) b = refl

pub length-texts : (bs : List Binder) → length (texts bs) ≡ length bs
length-texts [] = refl
length-texts (b ∷ bs) = omega (arith, length-texts bs)

-- ---- the two passes

abbrev pub first_pass : TreeOfText → Named
first_pass t = name_all [] [] (outermost t)

abbrev pub second_pass : TreeOfText → Level
second_pass t = walk_level 0 1 (first_pass t).spell (first_pass t).table (sites_of t.sites)

abbrev pub tables_of : TreeOfText → List Table
tables_of t = (second_pass t).own ∷ (second_pass t).tables

pub record PassesSo (t : TreeOfText) : Type 0 where
  pub tops : length (first_pass t).spell ≡ length (site_level t)
  pub spell : (second_pass t).spell ≡ texts (binders t)
  pub own : StandsFor (index_of (binders t)) (second_pass t).own 0 (outermost t)
  pub long : length (second_pass t).tables ≡ scopes_in_defs (sites_of t.sites)
  pub fit : LevelFits (index_of (binders t)) (tables_of t) 1 (sites_of t.sites)

abbrev number_in : TreeOfText → Binder → ℕ
number_in t = index_of (binders t)

abbrev seen_in : TreeOfText → List Defining
seen_in t = observed_from 0 t.seen

abbrev names_in : TreeOfText → List Defining
names_in t = block (sites_of t.sites)

abbrev zero_pass : TreeOfText → Named
zero_pass t = name_all [] [] (seen_in t)

abbrev one_pass : TreeOfText → Named
one_pass t = name_all (zero_pass t).spell (zero_pass t).table (names_in t)

split-pass : (t : TreeOfText) → first_pass t ≡ one_pass t
split-pass t = name-all-append (seen_in t) (names_in t) [] []

start-pass : (t : TreeOfText) → SeenSo (number_in t) [] [] (seen_in t) (zero_pass t)
start-pass t = observed-so (number_in t) t.seen 0 [] [] [] (λ text. refl)

one-so : (t : TreeOfText)
    → NamesSo (number_in t) (texts (site_level t)) (observed t) [] 0 (seen_in t) (names_in t)
    (one_pass t)
one-so t =
    let whole = texts (site_level t) in
    let start = start-pass t in
    let counts : Counts (number_in t) whole [] (firsts_after (observed t) (site_names t ++ [])) =
    subst (λ l. Counts (number_in t) whole [] (firsts_after (observed t) l))
    (sym (append-nil (site_names t))) (numbers-site t, refl) in
    names-so (number_in t) whole (names_in t) (zero_pass t).spell (zero_pass t).table (observed t)
    [] 0 (seen_in t) (defining-binding (sites_of t.sites) 0 1) start.stands
    (before-keys (seen_in t) 0 [] [] (λ text. refl))
    (subst (λ s. Counts (number_in t) whole s (firsts_after (observed t) (site_names t ++ [])))
    (sym start.same) counts)

one-spell : (t : TreeOfText) → (first_pass t).spell ≡ texts (site_level t)
one-spell t = ap (λ (n : Named). n.spell) (split-pass t) ∙ sym (append-nil (one_pass t).spell)
    ∙ (one-so t).counts.1

fresh-one : (t : TreeOfText) → Fresh 1 (observed t ++ site_names t)
fresh-one t j h text =
    any-append (is_same (key j text)) (observed t) (site_names t)
    ∙ (λ i. keys-outside (seen_in t) j 0 (λ e. omega (arith, h, e)) text i
    || keys-outside (names_in t) j 0 (λ e. omega (arith, h, e)) text i)

two-so : (t : TreeOfText)
    → LevelSo (number_in t) (texts (binders t)) (observed t ++ site_names t) [] (all_binding t) 0
    (scopes_in_defs (sites_of t.sites)) (outermost t ++ names_in t)
    (λ ts more w. drop 1 ts ≡ w ++ more → LevelFits (number_in t) ts 1 (sites_of t.sites))
    (second_pass t)
two-so t =
    let whole = texts (binders t) in
    let counts : Counts (number_in t) whole (texts (site_level t))
    (firsts_after (observed t ++ site_names t) (all_binding t ++ [])) =
    subst (λ l.
    Counts (number_in t) whole (texts (site_level t)) (firsts_after (observed t ++ site_names t) l))
    (sym (append-nil (all_binding t))) (
      subst (λ n. Consecutive (number_in t) n (others t)) (sym (length-texts (site_level t)))
          (numbers-other t),
      sym (texts-append (site_level t) (others t)),
    ) in
    level-so (number_in t) whole (sites_of t.sites) 0 1 (first_pass t).spell (first_pass t).table 1
    (observed t ++ site_names t) [] 0 (outermost t) (omega arith) (fresh-one t)
    (subst (λ (n : Named). StandsFor (number_in t) n.table 0 (outermost t)) (sym (split-pass t))
    (one-so t).stands)
    (one-so t).seen
    (subst (λ s.
    Counts (number_in t) whole s (firsts_after (observed t ++ site_names t) (all_binding t ++ [])))
    (sym (one-spell t)) counts)

pub passes-so : (t : TreeOfText) → PassesSo t
passes-so t = record {
  tops = ap length (one-spell t) ∙ length-texts (site_level t);
  spell = sym (append-nil (second_pass t).spell) ∙ (two-so t).counts.1;
  own = λ text. (two-so t).stands text
      ∙ ap (entered (number_in t) 0 text) (first-twice text (seen_in t) (names_in t));
  long = (two-so t).long;
  fit = (two-so t).fit (tables_of t) [] (sym (append-nil (second_pass t).tables));
}
