-- The tables of what came so far find exactly what stands twice.
use Rattle.std.proofs.Common.{◌≡◌, ℕ, Bool, true, false, cond, ◌||◌, List, [], ◌∷◌, ◌++◌, Option}
use Rattle.std.proofs.Common.{Some, None, refl, sym, ap, ◌∙◌, subst, is_some, append_assoc}
use Rattle.std.proofs.Common.{append-nil}
use Rattle.std.specs.Str.{bytes_eq}
use Rattle.join_base.specs.declared.fault.Kind.{Kind}
use Rattle.join_base.specs.declared.fault.Kind.TheVariants.{Scope4, Scope5}
use Rattle.join_parse.specs.declared.word.Word.{Word}
use Rattle.join_parse.specs.declared.word.PatTree.{PatTree}
use Rattle.scope_names.specs.declared.scope.Sort.{Sort}
use Rattle.scope_names.specs.declared.scope.Sort.TheVariants.{Parameter}
use Rattle.scope_names.specs.declared.scope.Entry.{Entry}
use Rattle.scope_names.specs.Frames.{in_frame}
use Rattle.scope_check.specs.Blocks.{Defining, params, first_in}
use Rattle.scope_check.specs.Faults.{ons}
use Rattle.scope_check.specs.inside.FaultList.{clash_if, clashes, is_spelled_in, repeated_if}
use Rattle.scope_check.specs.inside.FaultList.{repeats, pattern_faults}
use Rattle.scope_check.specs.inside.Clashes.{clash_with, remember_if, remember, clashes_in}
use Rattle.scope_check.specs.inside.Clashes.{remember_all, repeats_in, channel_repeats}
use Rattle.scope_check.specs.inside.Clashes.{parameter_repeats}
use Rattle.scope_check.specs.inside.Twin.{Table}
use Rattle.scope_check.proofs.Lists.{or_sort, first-append, or_entry, frame-append, frame-kept}
use Rattle.scope_check.proofs.Lists.{spelled-append}

abbrev new_entry : Sort → Entry
new_entry s = record { sort = s; binder = 0 }

-- what a table answers after one more word
remember-finds : (text : List ℕ) (table : Table) (w : Word) (s : Sort)
    → in_frame text (remember table w s)
    ≡ or_entry (in_frame text table) (cond (bytes_eq text w.text) (Some (new_entry s)) None)
remember-finds text table w s = by (in_frame w.text table) refl
  where
    by : (o : Option Entry) → in_frame w.text table ≡ o
        → in_frame text (remember_if (is_some (in_frame w.text table)) table w s)
        ≡ or_entry (in_frame text table) (cond (bytes_eq text w.text) (Some (new_entry s)) None)
    by (Some e) q = ap (λ o. in_frame text (remember_if (is_some o) table w s)) q
        ∙ frame-kept text table w e (new_entry s) q (bytes_eq text w.text) refl
    by None q = ap (λ o. in_frame text (remember_if (is_some o) table w s)) q
        ∙ frame-append text table ((w.text, new_entry s) ∷ [])

abbrev sort_of : Option Entry → Option Sort
sort_of None = None
sort_of (Some e) = Some e.sort

abbrev pub Sorts : Table → List Defining → Type 0
Sorts table before = (text : List ℕ) → sort_of (in_frame text table) ≡ first_in text before

sorts-more : (table : Table) (before : List Defining) (d : Defining) → Sorts table before
    → Sorts (remember table d.0 d.1) (before ++ d ∷ [])
sorts-more table before d h text =
    ap sort_of (remember-finds text table d.0 d.1)
    ∙ both (in_frame text table) (bytes_eq text d.0.text)
    ∙ ap (λ o. or_sort o (cond (bytes_eq text d.0.text) (Some d.1) None)) (h text)
    ∙ sym (first-append text before (d ∷ []))
  where
    both : (o : Option Entry) (b : Bool)
        → sort_of (or_entry o (cond b (Some (new_entry d.1)) None))
        ≡ or_sort (sort_of o) (cond b (Some d.1) None)
    both None true = refl
    both None false = refl
    both (Some e) b = refl

clash-same : (o : Option Entry) (w : Word) (s : Sort) → clash_with o w s ≡ clash_if (sort_of o) w s
clash-same None w s = refl
clash-same (Some e) w s = refl

pub clashes-are : (names before : List Defining) (table : Table) → Sorts table before
    → clashes_in table names ≡ clashes before names
clashes-are [] before table h = refl
clashes-are (d ∷ ds) before table h =
    λ i.
    (clash-same (in_frame d.0.text table) d.0 d.1 ∙ ap (λ o. clash_if o d.0 d.1) (h d.0.text)) i
    ++ clashes-are ds (before ++ d ∷ []) (remember table d.0 d.1) (sorts-more table before d h) i

pub all_clashes : (names : List Defining) → clashes_in [] names ≡ clashes [] names
all_clashes names = clashes-are names [] [] (λ text. refl)

abbrev pub Stands : Table → List Word → Type 0
Stands table before = (text : List ℕ) → is_some (in_frame text table) ≡ is_spelled_in text before

stands-more : (table : Table) (before : List Word) (w : Word) → Stands table before
    → Stands (remember table w Parameter) (before ++ w ∷ [])
stands-more table before w h text =
    ap is_some (remember-finds text table w Parameter)
    ∙ both (in_frame text table) (bytes_eq text w.text)
    ∙ ap (λ b. b || bytes_eq text w.text) (h text)
    ∙ sym (spelled-append text before w)
  where
    both : (o : Option Entry) (b : Bool)
        → is_some (or_entry o (cond b (Some (new_entry Parameter)) None)) ≡ (is_some o || b)
    both None true = refl
    both None false = refl
    both (Some e) b = refl

stands-all : (ws before : List Word) (table : Table) → Stands table before
    → Stands (remember_all table ws) (before ++ ws)
stands-all [] before table h = subst (Stands table) (sym (append-nil before)) h
stands-all (w ∷ ws) before table h =
    subst (Stands (remember_all (remember table w Parameter) ws)) (append_assoc before (w ∷ []) ws)
    (stands-all ws (before ++ w ∷ []) (remember table w Parameter) (stands-more table before w h))

repeats-are : (kind : Kind) (ws before : List Word) (table : Table) → Stands table before
    → repeats_in kind table ws ≡ repeats kind before ws
repeats-are kind [] before table h = refl
repeats-are kind (w ∷ ws) before table h = λ i. repeated_if (h w.text i) kind w
    ++ repeats-are kind ws (before ++ w ∷ []) (remember table w Parameter)
    (stands-more table before w h) i

channels-are : (ps : List PatTree) (before : List Word) (table : Table) → Stands table before
    → channel_repeats table ps ≡ repeats Scope5 before (ons ps)
channels-are [] before table h = refl
channels-are (p ∷ ps) before table h = λ i. repeated_if (h p.on.text i) Scope5 p.on
    ++ channels-are ps (before ++ p.on ∷ []) (remember table p.on Parameter)
    (stands-more table before p.on h) i

repeats-append : (kind : Kind) (xs ys before : List Word)
    → repeats kind before (xs ++ ys) ≡ repeats kind before xs ++ repeats kind (before ++ xs) ys
repeats-append kind [] ys before = ap (λ l. repeats kind l ys) (sym (append-nil before))
repeats-append kind (x ∷ xs) ys before =
    let here = repeated_if (is_spelled_in x.text before) kind x in
    ap (λ l. here ++ l) (repeats-append kind xs ys (before ++ x ∷ []))
    ∙ ap (λ l. here ++ (repeats kind (before ++ x ∷ []) xs ++ repeats kind l ys))
    (append_assoc before (x ∷ []) xs)
    ∙ sym
    (append_assoc here (repeats kind (before ++ x ∷ []) xs) (repeats kind (before ++ x ∷ xs) ys))

parameters-are : (ps : List PatTree) (before : List Word) (table : Table) → Stands table before
    → parameter_repeats table ps ≡ repeats Scope4 before (params ps)
parameters-are [] before table h = refl
parameters-are (p ∷ ps) before table h =
    (λ i. repeats-are Scope4 p.params before table h i
    ++ parameters-are ps (before ++ p.params) (remember_all table p.params)
    (stands-all p.params before table h) i)
    ∙ sym (repeats-append Scope4 p.params (params ps) before)

pub join-is : (ps : List PatTree)
    → channel_repeats [] ps ++ parameter_repeats [] ps ≡ pattern_faults ps
join-is ps = λ i. channels-are ps [] [] (λ text. refl) i ++ parameters-are ps [] [] (λ text. refl) i
