-- Spellings in lists that are joined.
use Rattle.std.proofs.Common.{◌≡◌, ℕ, Bool, true, false, cond, ◌||◌, List, [], ◌∷◌, ◌++◌, Option}
use Rattle.std.proofs.Common.{Some, None, refl, sym, ap, ◌∙◌, subst}
use Rattle.std.specs.Str.{bytes_eq}
use Rattle.std.specs.List.{list_any}
use Rattle.std.specs.Cmp.Lexicographic.{bytes_decides}
use Rattle.join_parse.specs.declared.word.Word.{Word}
use Rattle.scope_names.specs.declared.scope.Sort.{Sort}
use Rattle.scope_names.specs.declared.scope.Sort.TheVariants.{Parameter}
use Rattle.scope_names.specs.declared.scope.Entry.{Entry}
use Rattle.scope_names.specs.Frames.{in_frame}
use Rattle.scope_check.specs.declared.fault.Fault.{Fault}
use Rattle.scope_check.specs.Blocks.{Defining, parameters, first_in}
use Rattle.scope_check.specs.inside.FaultList.{is_spelled_in}
use Rattle.scope_check.specs.Numbers.{binder, keys}
use Rattle.scope_check.specs.inside.Twin.{Table}

abbrev pub or_sort : Option Sort → Option Sort → Option Sort
or_sort None o = o
or_sort (Some s) o = Some s

pub first-append : (text : List ℕ) (xs ys : List Defining)
    → first_in text (xs ++ ys) ≡ or_sort (first_in text xs) (first_in text ys)
first-append text [] ys = refl
first-append text (x ∷ xs) ys = by (bytes_eq text x.0.text) (first-append text xs ys)
  where
    by : (b : Bool) → first_in text (xs ++ ys) ≡ or_sort (first_in text xs) (first_in text ys)
        → cond b (Some x.1) (first_in text (xs ++ ys))
        ≡ or_sort (cond b (Some x.1) (first_in text xs)) (first_in text ys)
    by true ih = refl
    by false ih = ih

abbrev pub or_entry : Option Entry → Option Entry → Option Entry
or_entry None o = o
or_entry (Some s) o = Some s

pub frame-append : (text : List ℕ) (xs ys : Table)
    → in_frame text (xs ++ ys) ≡ or_entry (in_frame text xs) (in_frame text ys)
frame-append text [] ys = refl
frame-append text (x ∷ xs) ys = by (bytes_eq text x.0) (frame-append text xs ys)
  where
    by : (b : Bool) → in_frame text (xs ++ ys) ≡ or_entry (in_frame text xs) (in_frame text ys)
        → cond b (Some x.1) (in_frame text (xs ++ ys))
        ≡ or_entry (cond b (Some x.1) (in_frame text xs)) (in_frame text ys)
    by true ih = refl
    by false ih = ih

-- a word that stands in a table already changes no answer
pub frame-kept : (text : List ℕ) (table : Table) (w : Word) (old new : Entry)
    → in_frame w.text table ≡ Some old → (b : Bool) → bytes_eq text w.text ≡ b
    → in_frame text table ≡ or_entry (in_frame text table) (cond b (Some new) None)
frame-kept text table w old new q true t =
    let is : in_frame text table ≡ Some old =
    ap (λ x. in_frame x table) ((bytes_decides text w.text).0 t) ∙ q in
    subst (λ o. o ≡ or_entry o (Some new)) (sym is) refl
frame-kept text table w old new q false t = nothing (in_frame text table)
  where
    nothing : (o : Option Entry) → o ≡ or_entry o None
    nothing None = refl
    nothing (Some x) = refl

pub any-append : {A : Type 0} (f : A → Bool) (xs ys : List A)
    → list_any f (xs ++ ys) ≡ (list_any f xs || list_any f ys)
any-append f [] ys = refl
any-append f (x ∷ xs) ys = by (f x) (any-append f xs ys)
  where
    by : (b : Bool) → list_any f (xs ++ ys) ≡ (list_any f xs || list_any f ys)
        → (b || list_any f (xs ++ ys)) ≡ ((b || list_any f xs) || list_any f ys)
    by true ih = refl
    by false ih = ih

pub or-false : (b : Bool) → (b || false) ≡ b
or-false true = refl
or-false false = refl

pub spelled-append : (text : List ℕ) (xs : List Word) (w : Word)
    → is_spelled_in text (xs ++ w ∷ []) ≡ (is_spelled_in text xs || bytes_eq text w.text)
spelled-append text xs w = any-append (λ v. bytes_eq text v.text) xs (w ∷ [])
    ∙ ap (λ b. is_spelled_in text xs || b) (or-false (bytes_eq text w.text))

pub parameters-append : (xs ys : List Word) → parameters (xs ++ ys) ≡ parameters xs ++ parameters ys
parameters-append [] ys = refl
parameters-append (x ∷ xs) ys = ap (λ l. (x, Parameter) ∷ l) (parameters-append xs ys)

pub keys-append : (k : ℕ) (xs ys : List Defining) → keys k (xs ++ ys) ≡ keys k xs ++ keys k ys
keys-append k [] ys = refl
keys-append k (x ∷ xs) ys = ap (λ l. binder k x.0 ∷ l) (keys-append k xs ys)

pub same-spelling : (text : List ℕ) → bytes_eq text text ≡ true
same-spelling text = (bytes_decides text text).1 refl

-- no fault in two lists
pub none_left : (xs ys : List Fault) → xs ++ ys ≡ [] → xs ≡ []
none_left [] ys e = refl
none_left (x ∷ xs) ys e = cc

pub none_right : (xs ys : List Fault) → xs ++ ys ≡ [] → ys ≡ []
none_right [] ys e = e
none_right (x ∷ xs) ys e = cc
