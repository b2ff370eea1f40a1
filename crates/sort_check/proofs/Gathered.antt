-- The lists of sorts that are gathered of a program.
use Rattle.std.proofs.Common.{◌≡◌, ℕ, zero, suc, ◌+◌, ◌<◌, ◌≤◌, List, [], ◌∷◌, ◌++◌, Option, None}
use Rattle.std.proofs.Common.{Bool, true, false, cond, drop, get_or, refl, sym, ap, ◌∙◌, subst}
use Rattle.std.proofs.Common.{arith, length, append_assoc, ltb, ltb-true, ltb-false, ◌==◌, eqb-true}
use Rattle.std.proofs.Common.{eq-eqb}
use Rattle.std.specs.Prelude.{slice_get, slice_set}
use Rattle.std.proofs.lemmas.Option.{slice_get_past}
use Rattle.chem_model.specs.declared.program.SeenDecl.{SeenDecl}
use Rattle.chem_model.specs.declared.program.SiteTerm.{SiteTerm}
use Rattle.chem_model.specs.Binders.{block, once}
use Rattle.chem_model.specs.ProgramFacts.{ProgramTerms, IsProgram, IsDeclared, bound, places}
use Rattle.sort_laws.specs.declared.sorts.Entry.{Entry}
use Rattle.sort_laws.specs.declared.sorts.SortArg.{SortArg}
use Rattle.sort_laws.specs.declared.sorts.SortUse.{SortUse}
use Rattle.sort_laws.specs.declared.sorts.Sorts.{Sorts}
use Rattle.sort_laws.specs.Sorted.{Sorting}
use Rattle.sort_laws.specs.Table as table
use Rattle.sort_laws.specs.Table.{entries_for, used_as, spelled_as, declared_as, channel_sort}
use Rattle.sort_laws.specs.Table.{seen_sort, args_of, sort_in, program_entries, binder_sort}
use Rattle.sort_laws.specs.Table.{sorting}
use Rattle.sort_laws.proofs.Counts.{keyed, no_entry, own_channels, inner_definitions, whole_counted}
use Rattle.sort_check.specs.inside.Pairs.{flat, sort_at, by_lists}
use Rattle.sort_check.specs.inside.Gathered.{sorts_of, seen_sorts, entries_of_definitions}
use Rattle.sort_check.specs.inside.Gathered.{entries_of_sites, site_entries}
use Rattle.sort_check.specs.inside.Filled.{FilledBy}
use Rattle.sort_check.specs.inside.Told.{in_map, TellsAs}

-- ---- parameters

entries-next : (ss : List SortArg) (bs : List ℕ) (i d : ℕ) → i < length bs
    → entries_for (drop i ss) (drop i bs)
    ≡ record { binder = get_or bs i d; sort = slice_get ss i }
    ∷ entries_for (drop (suc i) ss) (drop (suc i) bs)
entries-next ss [] i d h = absurd (omega arith)
entries-next [] (b ∷ bs) zero d h = refl
entries-next (s ∷ ss) (b ∷ bs) zero d h = refl
entries-next [] (b ∷ bs) (suc i) d h =
    (λ j. entries_for (no_more i j) (drop i bs)) ∙ entries-next [] bs i d (omega arith)
    ∙ (λ j. record { binder = get_or bs i d; sort = none_there i j }
    ∷ entries_for (sym (no_more (suc i)) j) (drop (suc i) bs))
  where
    no_more : (k : ℕ) → [] ≡ drop {A = SortArg} k []
    no_more zero = refl
    no_more (suc k) = refl

    none_there : (k : ℕ) → slice_get {X = SortArg} [] k ≡ None
    none_there k = slice_get_past [] k (omega arith)
entries-next (s ∷ ss) (b ∷ bs) (suc i) d h = entries-next ss bs i d (omega arith)

pub entries-stepped :
    (ss : List SortArg) (bs : List ℕ) (i d : ℕ) (o : Option SortArg) (start now then : List Entry)
    → i < length bs → o ≡ slice_get ss i → now ++ entries_for (drop i ss) (drop i bs) ≡ start
    → then ≡ now ++ record { binder = get_or bs i d; sort = o } ∷ []
    → then ++ entries_for (drop (i + 1) ss) (drop (i + 1) bs) ≡ start
entries-stepped ss bs i d o start now then h e inv pushed =
    let rest = entries_for (drop (i + 1) ss) (drop (i + 1) bs) in
    let same : suc i ≡ i + 1 = omega arith in
    let next : entries_for (drop i ss) (drop i bs)
    ≡ record { binder = get_or bs i d; sort = slice_get ss i } ∷ rest =
    subst (λ k. entries_for (drop i ss) (drop i bs)
    ≡ record { binder = get_or bs i d; sort = slice_get ss i }
    ∷ entries_for (drop k ss) (drop k bs)) same (entries-next ss bs i d h) in
    ap (λ l. l ++ rest) pushed
    ∙ append_assoc now (record { binder = get_or bs i d; sort = o } ∷ []) rest
    ∙ (λ j. now ++ record { binder = get_or bs i d; sort = e j } ∷ rest)
    ∙ ap (λ l. now ++ l) (sym next) ∙ inv

-- ---- lists of sorts

sorts_are : (uses : List SortUse) (spell : List (List ℕ)) (b : ℕ)
    → sort_at (sorts_of (used_as uses) spell) b ≡ channel_sort uses spell b
sorts_are uses [] b = ap flat (slice_get_past [] b (omega arith))
    ∙ sym (ap (spelled_as uses) (slice_get_past [] b (omega arith)))
sorts_are uses (text ∷ more) zero = refl
sorts_are uses (text ∷ more) (suc b) = sorts_are uses more b

pub seen_are : (uses : List SortUse) (seen : List SeenDecl) (i : ℕ)
    → sort_at (seen_sorts (used_as uses) seen) i ≡ seen_sort uses seen i
seen_are uses [] i = ap flat (slice_get_past [] i (omega arith))
    ∙ sym (ap (declared_as uses) (slice_get_past [] i (omega arith)))
seen_are uses (d ∷ ds) zero = refl
seen_are uses (d ∷ ds) (suc i) = seen_are uses ds i

length-sorts : (said : List ℕ → Option SortArg) (spell : List (List ℕ))
    → length (sorts_of said spell) ≡ length spell
length-sorts said [] = refl
length-sorts said (text ∷ more) = ap suc (length-sorts said more)

-- a map that tells what the lines say
pub said_as : (uses : List SortUse) (map : List (List ℕ × ℕ)) → TellsAs uses map
    → in_map map ≡ used_as uses
said_as uses map told = λ j text. told text j

-- ---- setting what entries say

set_length : (xs : List (Option SortArg)) (i : ℕ) (o : Option SortArg)
    → length (slice_set xs i o) ≡ length xs
set_length [] i o = refl
set_length (x ∷ xs) zero o = refl
set_length (x ∷ xs) (suc i) o = ap suc (set_length xs i o)

set_same : (xs : List (Option SortArg)) (b : ℕ) (o : Option SortArg) → b < length xs
    → sort_at (slice_set xs b o) b ≡ o
set_same [] b o h = absurd (omega arith)
set_same (x ∷ xs) zero o h = refl
set_same (x ∷ xs) (suc b) o h = set_same xs b o (omega arith)

set_other : (xs : List (Option SortArg)) (i b : ℕ) (o : Option SortArg) → (i ≡ b → ⊥)
    → sort_at (slice_set xs i o) b ≡ sort_at xs b
set_other [] i b o n = refl
set_other (x ∷ xs) zero zero o n = absurd (n refl)
set_other (x ∷ xs) zero (suc b) o n = refl
set_other (x ∷ xs) (suc i) zero o n = refl
set_other (x ∷ xs) (suc i) (suc b) o n = set_other xs i b o (λ e. n (ap suc e))

set_found : (xs : List (Option SortArg)) (i b : ℕ) (o : Option SortArg) → b < length xs
    → sort_at (slice_set xs i o) b ≡ cond (i == b) o (sort_at xs b)
set_found xs i b o h = go (i == b) refl
  where
    go : (u : Bool) → i == b ≡ u → sort_at (slice_set xs i o) b ≡ cond u o (sort_at xs b)
    go true c = ap (λ k. sort_at (slice_set xs k o) b) (eqb-true i b c) ∙ set_same xs b o h
    go false c = set_other xs i b o (λ e. let clash : true ≡ false = sym (eq-eqb i b e) ∙ c in cc)

drop_last : (es : List Entry) (left : ℕ) (e : Entry) → left < length es → e ≡ get_or es left e
    → drop left es ≡ e ∷ drop (suc left) es
drop_last [] left e h g = absurd (omega arith)
drop_last (x ∷ es) zero e h g = ap (λ y. y ∷ es) (sym g)
drop_last (x ∷ es) (suc left) e h g = drop_last es left e (omega arith) g

pub filled-stepped :
    (old now then : List (Option SortArg)) (es : List Entry) (left before : ℕ) (e : Entry)
    → before ≡ left + 1 → left < length es → e ≡ get_or es left e
    → FilledBy old (drop before es) now → then ≡ slice_set now e.binder e.sort
    → FilledBy old (drop left es) then
filled-stepped old now then es left before e b h g inv made = record {
  same = ap length made ∙ set_length now e.binder e.sort ∙ inv.same;
  found = λ n within. (
      let same_before : before ≡ suc left = omega (arith, b) in
      let here : drop left es ≡ e ∷ drop before es =
      drop_last es left e h g ∙ ap (λ k. e ∷ drop k es) (sym same_before) in
      ap (λ l. sort_at l n) made ∙ set_found now e.binder n e.sort (omega (arith, within, inv.same))
      ∙ ap (λ o. cond (e.binder == n) e.sort o) (inv.found n within)
      ∙ ap (λ l. sort_in (sort_at old) l n) (sym here)
      );
}

member_read : (es : List Entry) (left : ℕ) (d e : Entry) → left < length es
    → get_or es left d ≡ get_or es left e
member_read [] left d e h = absurd (omega arith)
member_read (x ∷ es) zero d e h = refl
member_read (x ∷ es) (suc left) d e h = member_read es left d e (omega arith)

pub filled-read :
    (old now then : List (Option SortArg)) (es : List Entry) (left before : ℕ) (d : Entry)
    → before ≡ left + 1 → left < length es → FilledBy old (drop before es) now
    → then ≡ slice_set now (get_or es left d).binder (get_or es left d).sort
    → FilledBy old (drop left es) then
filled-read old now then es left before d b h inv made = filled-stepped old now
    then es left before (get_or es left d) b h (member_read es left d (get_or es left d) h) inv made

-- ---- the binders of a program

sites_are : (r : Sorting) (xs : List SiteTerm)
    → entries_of_sites r xs ≡ entries_of_definitions r (places xs)
sites_are r [] = refl
sites_are r (x ∷ xs) = ap (λ l. site_entries r x ++ l) (sites_are r xs)

-- a binder that isn't spelled has no sort
none_past : (sorts : Sorts) (p : ProgramTerms) → IsProgram p → (b : ℕ) → length p.spell ≤ b
    → binder_sort sorts p b ≡ None
none_past sorts p program b h =
    let args = args_of sorts.decls in
    let channel = channel_sort sorts.uses p.spell in
    let seen = seen_sort sorts.uses p.seen in
    let D = places p.sites in
    let few = whole_counted args channel seen (IsDeclared p.version (length p.seen)) (block D) D
    program.one_block program.terms b in
    no_entry channel (program_entries sorts p) b (go (bound p b) refl few)
    ∙ ap (spelled_as sorts.uses) (slice_get_past p.spell b h)
  where
    go : (n : ℕ) → bound p b ≡ n
        → keyed (program_entries sorts p) b
        + once (own_channels (places p.sites) ++ inner_definitions (places p.sites)) b ≤ bound p b
        → keyed (program_entries sorts p) b ≡ 0
    go zero c f = omega (arith, c, f)
    go (suc n) c f = let lt = program.spelled b (omega (arith, c)) in absurd (omega (arith, lt, h))

pub binders_are : (sorts : Sorts) (p : ProgramTerms) → IsProgram p
    → (channels seen new : List (Option SortArg)) (es : List Entry)
    → channels ≡ sorts_of (used_as sorts.uses) p.spell
    → seen ≡ seen_sorts (used_as sorts.uses) p.seen
    → es ≡ entries_of_sites (by_lists sorts.decls channels seen) p.sites → FilledBy channels es new
    → (b : ℕ) → sort_at new b ≡ binder_sort sorts p b
binders_are sorts p program channels seen new es c s e filled b =
    let args = args_of sorts.decls in
    let chan : (i : ℕ) → sort_at channels i ≡ channel_sort sorts.uses p.spell i =
    λ i. ap (λ l. sort_at l i) c ∙ sorts_are sorts.uses p.spell i in
    let obs : (i : ℕ) → sort_at seen i ≡ seen_sort sorts.uses p.seen i =
    λ i. ap (λ l. sort_at l i) s ∙ seen_are sorts.uses p.seen i in
    let all : es ≡ program_entries sorts p =
    e ∙ sites_are (by_lists sorts.decls channels seen) p.sites
    ∙ (λ j. table.entries_of_definitions args (λ i. chan i j) (λ i. obs i j) (places p.sites)) in
    let long : length channels ≡ length p.spell =
    ap length c ∙ length-sorts (used_as sorts.uses) p.spell in
    go (ltb b (length channels)) refl chan all long
  where
    go : (u : Bool) → ltb b (length channels) ≡ u
        → ((i : ℕ) → sort_at channels i ≡ channel_sort sorts.uses p.spell i)
        → es ≡ program_entries sorts p → length channels ≡ length p.spell
        → sort_at new b ≡ binder_sort sorts p b
    go true t chan all long =
        filled.found b (ltb-true b (length channels) t) ∙ (λ j. sort_in (λ i. chan i j) (all j) b)
    go false t chan all long =
        let past = ltb-false b (length channels) t in
        ap flat (slice_get_past new b (omega (arith, past, filled.same)))
        ∙ sym (none_past sorts p program b (omega (arith, past, long)))

pub kept_are : (sorts : Sorts) (p : ProgramTerms) (binders seen : List (Option SortArg))
    → ((b : ℕ) → sort_at binders b ≡ binder_sort sorts p b)
    → seen ≡ seen_sorts (used_as sorts.uses) p.seen
    → by_lists sorts.decls binders seen ≡ sorting sorts p
kept_are sorts p binders seen e s =
    let obs : (i : ℕ) → sort_at seen i ≡ seen_sort sorts.uses p.seen i =
    λ i. ap (λ l. sort_at l i) s ∙ seen_are sorts.uses p.seen i in
    λ j. record { args = args_of sorts.decls; binder = λ b. e b j; seen = λ i. obs i j }
