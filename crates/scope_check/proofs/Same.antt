-- The list of faults has exactly the members of the set.
use Rattle.std.proofs.Common.{◌≡◌, ◌≢◌, inl, inr, ℕ, zero, suc, ◌≤◌, Bool, true, false, ◌||◌, List}
use Rattle.std.proofs.Common.{[], ◌∷◌, ◌++◌, length, drop, refl, sym, ap, ◌∙◌, subst, arith, Option}
use Rattle.std.proofs.Common.{Some, None, eqb, append_assoc, append-nil}
use Rattle.std.proofs.lemmas.Bool.{or_right}
use Rattle.std.proofs.lemmas.Bool.Decides.{nat_tests}
use Rattle.std.specs.Str.{bytes_eq}
use Rattle.std.specs.Cmp.Lexicographic.{bytes_decides}
use Rattle.join_base.specs.declared.fault.Kind.{Kind}
use Rattle.join_base.specs.declared.fault.Kind.TheVariants.{Scope1, Scope2, Scope3, Scope4, Scope5}
use Rattle.join_base.specs.declared.fault.Kind.TheVariants.{Scope6, Arity1, Arity2, Arity3, Arity4}
use Rattle.join_parse.specs.declared.word.Word.{Word}
use Rattle.join_parse.specs.declared.tree.PlaceTree.{PlaceTree}
use Rattle.join_parse.specs.Source.{Process, Zero, Msg, Go, Fail, Halt, Add, Same, Group, Def}
use Rattle.join_parse.specs.Source.{Processes, none, one_more, Definition, Rule, Place, Definitions}
use Rattle.join_parse.specs.Source.{no_definition, and_also}
use Rattle.join_parse.specs.Grammar.{TreeOfText}
use Rattle.chem_model.specs.Each.{IsIn}
use Rattle.scope_names.specs.declared.scope.Sort.{Sort}
use Rattle.scope_names.specs.declared.scope.Sort.TheVariants.{Channel, Location, Observed}
use Rattle.scope_names.specs.declared.scope.Sort.TheVariants.{Parameter}
use Rattle.scope_check.specs.declared.fault.Fault.{Fault}
use Rattle.scope_check.specs.Order.{IsFirst}
use Rattle.scope_check.specs.inside.Order.{first_of}
use Rattle.scope_check.specs.Blocks.{Defining, params, block, sites_of, outermost, first_in}
use Rattle.scope_check.specs.Blocks.{Resolved, resolve}
use Rattle.scope_check.specs.Uses.{Manner, called, headed, sent, Use, uses_of, Declared, a_block}
use Rattle.scope_check.specs.Uses.{a_join, declared, all_declared, definition_declared}
use Rattle.scope_check.specs.Uses.{level_declared, declared_of}
use Rattle.scope_check.specs.Faults.{WrongAs, WrongBy, WrongAfter, Repeated, ons, WrongDeclared}
use Rattle.scope_check.specs.Faults.{WrongSite, IsFault, of_use, of_declared, of_site}
use Rattle.scope_check.specs.inside.FaultList.{fault, unless, clash, clash_if, clashes}
use Rattle.scope_check.specs.inside.FaultList.{is_spelled_in, repeated_if, repeats, pattern_faults}
use Rattle.scope_check.specs.inside.FaultList.{process_faults, processes_faults, definition_faults}
use Rattle.scope_check.specs.inside.FaultList.{level_faults, many}
use Rattle.chem_model.specs.ProgramFacts.{most_sites}
use Rattle.scope_check.proofs.FaultList.{used_as, used_by, use_faults, declared_faults, fault_list}
use Rattle.scope_check.proofs.Firsts.{in-append, in-left, in-right, first-of-set}

-- ---- members of lists

abbrev gather : {A : Type 0} → (A → List Fault) → List A → List Fault
gather g [] = []
gather g (x ∷ xs) = g x ++ gather g xs

gather-only : {A : Type 0} (g : A → List Fault) (f : Fault) (xs : List A) → IsIn f (gather g xs)
    → (x : A) × IsIn x xs × IsIn f (g x)
gather-only g f [] i = absurd i
gather-only g f (x ∷ xs) i =
    elim (in-append f (g x) (gather g xs)
    i) [ inl a ↦ (x, inl refl, a) | inr b ↦ (let r = gather-only g f xs b in (r.0, inr r.1, r.2)) ]

gather-all : {A : Type 0} (g : A → List Fault) (f : Fault) (x : A) (xs : List A) → IsIn x xs
    → IsIn f (g x) → IsIn f (gather g xs)
gather-all g f x [] m i = absurd m
gather-all g f x (y ∷ ys) (inl e) i = in-left f (g y) (gather g ys) (subst (λ z. IsIn f (g z)) e i)
gather-all g f x (y ∷ ys) (inr m) i = in-right f (g y) (gather g ys) (gather-all g f x ys m i)

-- ---- one fault

one-only : (f : Fault) (k : Kind) (w : Word) → IsIn f (fault k w)
    → (f.place ≡ w.place) × (f.kind ≡ k)
one-only f k w (inl e) = (ap (λ (x : Fault). x.place) e, ap (λ (x : Fault). x.kind) e)
one-only f k w (inr i) = absurd i

one-all : (f : Fault) (k : Kind) (w : Word) → f.place ≡ w.place → f.kind ≡ k → IsIn f (fault k w)
one-all f k w p q = inl (λ i. record { kind = q i; place = p i })

unless-only : (f : Fault) (m n : ℕ) (k : Kind) (w : Word) → IsIn f (unless (eqb m n) (fault k w))
    → (f.place ≡ w.place) × (f.kind ≡ k) × (m ≢ n)
unless-only f m n k w i = by (eqb m n) refl i
  where
    by : (b : Bool) → eqb m n ≡ b → IsIn f (unless b (fault k w))
        → (f.place ≡ w.place) × (f.kind ≡ k) × (m ≢ n)
    by true e j = absurd j
    by false e j = let o = one-only f k w j in (o.0, o.1, λ same. grind (arith, nat_tests))

unless-all : (f : Fault) (m n : ℕ) (k : Kind) (w : Word) → f.place ≡ w.place → f.kind ≡ k → m ≢ n
    → IsIn f (unless (eqb m n) (fault k w))
unless-all f m n k w p q other = by (eqb m n) refl
  where
    by : (b : Bool) → eqb m n ≡ b → IsIn f (unless b (fault k w))
    by true e = absurd (other (grind (arith, nat_tests)))
    by false e = one-all f k w p q

-- ---- uses

as-only : (f : Fault) (m : Manner) (w : Word) (s : Sort) → IsIn f (used_as m w s)
    → (f.place ≡ w.place) × WrongAs m s f.kind
as-only f (called n) w (Channel m at) i = let o = unless-only f m n Arity1 w i in (o.0, (o.1, o.2))
as-only f (called n) w (Observed m x) i = let o = unless-only f m n Arity1 w i in (o.0, (o.1, o.2))
as-only f (called n) w Location i = one-only f Arity3 w i
as-only f (called n) w Parameter i = absurd i
as-only f headed w (Channel m at) i = one-only f Arity4 w i
as-only f headed w (Observed m x) i = one-only f Arity4 w i
as-only f headed w Location i = absurd i
as-only f headed w Parameter i = absurd i
as-only f sent w s i = absurd i

as-all : (f : Fault) (m : Manner) (w : Word) (s : Sort) → f.place ≡ w.place → WrongAs m s f.kind
    → IsIn f (used_as m w s)
as-all f (called n) w (Channel m at) p h = unless-all f m n Arity1 w p h.0 h.1
as-all f (called n) w (Observed m x) p h = unless-all f m n Arity1 w p h.0 h.1
as-all f (called n) w Location p h = one-all f Arity3 w p h
as-all f (called n) w Parameter p h = absurd h
as-all f headed w (Channel m at) p h = one-all f Arity4 w p h
as-all f headed w (Observed m x) p h = one-all f Arity4 w p h
as-all f headed w Location p h = absurd h
as-all f headed w Parameter p h = absurd h
as-all f sent w s p h = absurd h

by-only : (f : Fault) (m : Manner) (w : Word) (r : Option Resolved) → IsIn f (used_by m w r)
    → (f.place ≡ w.place) × WrongBy m r f.kind
by-only f m w None i = one-only f Scope1 w i
by-only f m w (Some r) i = as-only f m w r.sort i

by-all : (f : Fault) (m : Manner) (w : Word) (r : Option Resolved) → f.place ≡ w.place
    → WrongBy m r f.kind → IsIn f (used_by m w r)
by-all f m w None p h = one-all f Scope1 w p h
by-all f m w (Some r) p h = as-all f m w r.sort p h

abbrev use_fault : Use → List Fault
use_fault u = used_by u.manner u.word (resolve u.around u.word.text)

uses-gathered : (us : List Use) → use_faults us ≡ gather use_fault us
uses-gathered [] = refl
uses-gathered (u ∷ us) = ap (λ l. use_fault u ++ l) (uses-gathered us)

-- ---- blocks

clash-only : (f : Fault) (first : Sort) (w : Word) (later : Sort) → IsIn f (clash first w later)
    → (f.place ≡ w.place) × WrongAfter first later f.kind
clash-only f (Channel m at) w (Channel n here) i =
    elim (in-append f (unless (eqb m n) (fault Arity2 w)) (unless (eqb at here) (fault Scope2 w))
    i) [
      | inl a ↦ (let o = unless-only f m n Arity2 w a in (o.0, inl (o.1, o.2)))
      | inr b ↦ (let o = unless-only f at here Scope2 w b in (o.0, inr (o.1, o.2)))
    ]
clash-only f (Channel m at) w Location i = one-only f Scope3 w i
clash-only f (Channel m at) w (Observed n x) i = one-only f Scope3 w i
clash-only f (Channel m at) w Parameter i = one-only f Scope3 w i
clash-only f Location w later i = one-only f Scope3 w i
clash-only f (Observed n x) w later i = one-only f Scope3 w i
clash-only f Parameter w later i = one-only f Scope3 w i

clash-all : (f : Fault) (first : Sort) (w : Word) (later : Sort) → f.place ≡ w.place
    → WrongAfter first later f.kind → IsIn f (clash first w later)
clash-all f (Channel m at) w (Channel n here) p (inl a) =
    in-left f (unless (eqb m n) (fault Arity2 w)) (unless (eqb at here) (fault Scope2 w))
    (unless-all f m n Arity2 w p a.0 a.1)
clash-all f (Channel m at) w (Channel n here) p (inr b) =
    in-right f (unless (eqb m n) (fault Arity2 w)) (unless (eqb at here) (fault Scope2 w))
    (unless-all f at here Scope2 w p b.0 b.1)
clash-all f (Channel m at) w Location p h = one-all f Scope3 w p h
clash-all f (Channel m at) w (Observed n x) p h = one-all f Scope3 w p h
clash-all f (Channel m at) w Parameter p h = one-all f Scope3 w p h
clash-all f Location w later p h = one-all f Scope3 w p h
clash-all f (Observed n x) w later p h = one-all f Scope3 w p h
clash-all f Parameter w later p h = one-all f Scope3 w p h

-- a later occurrence among these, after those before
record Clashing (before names : List Defining) (f : Fault) : Type 0 where
  front : List Defining
  later : Defining
  back : List Defining
  all : names ≡ front ++ later ∷ back
  first : Sort
  defined : first_in later.0.text (before ++ front) ≡ Some first
  here : f.place ≡ later.0.place
  wrong : WrongAfter first later.1 f.kind

clashes-only : (f : Fault) (before names : List Defining) → IsIn f (clashes before names)
    → Clashing before names f
clashes-only f before [] i = absurd i
clashes-only f before (d ∷ ds) i =
    elim (in-append f (clash_if (first_in d.0.text before) d.0 d.1) (clashes (before ++ d ∷ []) ds)
    i) [
      | inl a ↦ now (first_in d.0.text before) refl a
      | inr b ↦ after (clashes-only f (before ++ d ∷ []) ds b)
    ]
  where
    now : (o : Option Sort) → first_in d.0.text before ≡ o → IsIn f (clash_if o d.0 d.1)
        → Clashing before (d ∷ ds) f
    now None e j = absurd j
    now (Some s) e j =
        let o = clash-only f s d.0 d.1 j in
        record {
          front = [];
          later = d;
          back = ds;
          all = refl;
          first = s;
          defined = ap (first_in d.0.text) (append-nil before) ∙ e;
          here = o.0;
          wrong = o.1;
        }

    after : Clashing (before ++ d ∷ []) ds f → Clashing before (d ∷ ds) f
    after c = record {
      front = d ∷ c.front;
      later = c.later;
      back = c.back;
      all = ap (λ l. d ∷ l) c.all;
      first = c.first;
      defined =
          ap (first_in c.later.0.text) (sym (append_assoc before (d ∷ []) c.front)) ∙ c.defined;
      here = c.here;
      wrong = c.wrong;
    }

clashes-at :
    (f : Fault) (before front : List Defining) (d : Defining) (back : List Defining) (s : Sort)
    → first_in d.0.text (before ++ front) ≡ Some s
    → f.place ≡ d.0.place → WrongAfter s d.1 f.kind → IsIn f (clashes before (front ++ d ∷ back))
clashes-at f before [] d back s e p h =
    let is : first_in d.0.text before ≡ Some s =
    ap (first_in d.0.text) (sym (append-nil before)) ∙ e in
    in-left f (clash_if (first_in d.0.text before) d.0 d.1) (clashes (before ++ d ∷ []) back)
    (subst (λ o. IsIn f (clash_if o d.0 d.1)) (sym is) (clash-all f s d.0 d.1 p h))
clashes-at f before (x ∷ front) d back s e p h =
    in-right f (clash_if (first_in x.0.text before) x.0 x.1)
    (clashes (before ++ x ∷ []) (front ++ d ∷ back))
    (clashes-at f (before ++ x ∷ []) front d back s
    (ap (first_in d.0.text) (append_assoc before (x ∷ []) front) ∙ e) p h)

-- ---- join patterns

any-only : (text : List ℕ) (ws : List Word) → is_spelled_in text ws ≡ true
    → (w : Word) × IsIn w ws × (text ≡ w.text)
any-only text [] e = absurd cc
any-only text (w ∷ ws) e = by (bytes_eq text w.text) refl (any-only text ws) e
  where
    by : (b : Bool) → bytes_eq text w.text ≡ b
        → (is_spelled_in text ws ≡ true → (x : Word) × IsIn x ws × (text ≡ x.text))
        → (b || is_spelled_in text ws) ≡ true → (x : Word) × IsIn x (w ∷ ws) × (text ≡ x.text)
    by true q ih r = (w, inl refl, (bytes_decides text w.text).0 q)
    by false q ih r = let m = ih r in (m.0, inr m.1, m.2)

any-all : (text : List ℕ) (w : Word) (ws : List Word) → IsIn w ws → text ≡ w.text
    → is_spelled_in text ws ≡ true
any-all text w [] i q = absurd i
any-all text w (x ∷ xs) (inl e) q = ap (λ b. b || is_spelled_in text xs)
    ((bytes_decides text x.text).1 (q ∙ ap (λ (y : Word). y.text) e))
any-all text w (x ∷ xs) (inr i) q =
    or_right (bytes_eq text x.text) (is_spelled_in text xs) (any-all text w xs i q)

record Repeating (kind : Kind) (before words : List Word) (f : Fault) : Type 0 where
  front : List Word
  later : Word
  back : List Word
  all : words ≡ front ++ later ∷ back
  spelled : is_spelled_in later.text (before ++ front) ≡ true
  here : f.place ≡ later.place
  wrong : f.kind ≡ kind

repeats-only : (f : Fault) (kind : Kind) (before ws : List Word) → IsIn f (repeats kind before ws)
    → Repeating kind before ws f
repeats-only f kind before [] i = absurd i
repeats-only f kind before (w ∷ ws) i =
    elim (in-append f (repeated_if (is_spelled_in w.text before) kind w)
    (repeats kind (before ++ w ∷ []) ws) i) [
      | inl a ↦ now (is_spelled_in w.text before) refl a
      | inr b ↦ after (repeats-only f kind (before ++ w ∷ []) ws b)
    ]
  where
    now : (b : Bool) → is_spelled_in w.text before ≡ b → IsIn f (repeated_if b kind w)
        → Repeating kind before (w ∷ ws) f
    now true e j =
        let o = one-only f kind w j in
        record {
          front = [];
          later = w;
          back = ws;
          all = refl;
          spelled = ap (is_spelled_in w.text) (append-nil before) ∙ e;
          here = o.0;
          wrong = o.1;
        }
    now false e j = absurd j

    after : Repeating kind (before ++ w ∷ []) ws f → Repeating kind before (w ∷ ws) f
    after c = record {
      front = w ∷ c.front;
      later = c.later;
      back = c.back;
      all = ap (λ l. w ∷ l) c.all;
      spelled =
          ap (is_spelled_in c.later.text) (sym (append_assoc before (w ∷ []) c.front)) ∙ c.spelled;
      here = c.here;
      wrong = c.wrong;
    }

repeats-at : (f : Fault) (kind : Kind) (before front : List Word) (w : Word) (back : List Word)
    → is_spelled_in w.text (before ++ front) ≡ true
    → f.place ≡ w.place → f.kind ≡ kind → IsIn f (repeats kind before (front ++ w ∷ back))
repeats-at f kind before [] w back e p q =
    let is : is_spelled_in w.text before ≡ true =
    ap (is_spelled_in w.text) (sym (append-nil before)) ∙ e in
    in-left f (repeated_if (is_spelled_in w.text before) kind w)
    (repeats kind (before ++ w ∷ []) back)
    (subst (λ b. IsIn f (repeated_if b kind w)) (sym is) (one-all f kind w p q))
repeats-at f kind before (x ∷ front) w back e p q =
    in-right f (repeated_if (is_spelled_in x.text before) kind x)
    (repeats kind (before ++ x ∷ []) (front ++ w ∷ back))
    (repeats-at f kind (before ++ x ∷ []) front w back
    (ap (is_spelled_in w.text) (append_assoc before (x ∷ []) front) ∙ e) p q)

repeated-only : (f : Fault) (kind : Kind) (ws : List Word) → IsIn f (repeats kind [] ws)
    → Repeated kind ws f
repeated-only f kind ws i =
    let r = repeats-only f kind [] ws i in
    let m = any-only r.later.text r.front r.spelled in
    record {
      before = r.front;
      later = r.later;
      after = r.back;
      all = r.all;
      earlier = m.0;
      stands_before = m.1;
      same = m.2;
      here = r.here;
      wrong = r.wrong;
    }

repeated-all : (f : Fault) (kind : Kind) (ws : List Word) → Repeated kind ws f
    → IsIn f (repeats kind [] ws)
repeated-all f kind ws r =
    subst (λ l. IsIn f (repeats kind [] l)) (sym r.all) (repeats-at f kind [] r.before r.later
    r.after (any-all r.later.text r.earlier r.before r.stands_before r.same) r.here r.wrong)

-- ---- all that is declared

abbrev declared_fault : Declared → List Fault
declared_fault (a_block names) = clashes [] names
declared_fault (a_join pats) = pattern_faults pats

gather-append : (xs ys : List Declared)
    → gather declared_fault (xs ++ ys) ≡ gather declared_fault xs ++ gather declared_fault ys
gather-append [] ys = refl
gather-append (x ∷ xs) ys = ap (λ l. declared_fault x ++ l) (gather-append xs ys)
    ∙ sym (append_assoc (declared_fault x) (gather declared_fault xs) (gather declared_fault ys))

mutual
  process-gathered : (p : Process) → process_faults p ≡ gather declared_fault (declared p)
  process-gathered Zero = refl
  process-gathered (Msg on args) = refl
  process-gathered (Go b c) = refl
  process-gathered (Fail b c) = refl
  process-gathered Halt = refl
  process-gathered (Add l r c) = refl
  process-gathered (Same l r c d) = refl
  process-gathered (Group ps) = processes-gathered ps
  process-gathered (Def ds ps) =
      ap (λ l. clashes [] (block ds) ++ l) ((λ i. level-gathered ds i ++ processes-gathered ps i)
      ∙ sym (gather-append (level_declared ds) (all_declared ps)))

  processes-gathered : (ps : Processes)
      → processes_faults ps ≡ gather declared_fault (all_declared ps)
  processes-gathered none = refl
  processes-gathered (one_more p ps) = (λ i. process-gathered p i ++ processes-gathered ps i)
      ∙ sym (gather-append (declared p) (all_declared ps))

  definition-gathered : (d : Definition)
      → definition_faults d ≡ gather declared_fault (definition_declared d)
  definition-gathered (Rule pats body) =
      ap (λ l. pattern_faults pats ++ l) (processes-gathered body)
  definition-gathered (Place o a ds body) = (λ i. level-gathered ds i ++ processes-gathered body i)
      ∙ sym (gather-append (level_declared ds) (all_declared body))

  level-gathered : (ds : Definitions) → level_faults ds ≡ gather declared_fault (level_declared ds)
  level-gathered no_definition = refl
  level-gathered (and_also d ds) = (λ i. definition-gathered d i ++ level-gathered ds i)
      ∙ sym (gather-append (definition_declared d) (level_declared ds))

declared-gathered : (t : TreeOfText) → declared_faults t ≡ gather declared_fault (declared_of t)
declared-gathered t = ap (λ l. clashes [] (outermost t) ++ l) (level-gathered (sites_of t.sites))

declared-only : (f : Fault) (d : Declared) → IsIn f (declared_fault d) → WrongDeclared d f
declared-only f (a_block names) i =
    let c = clashes-only f [] names i in
    record {
      before = c.front;
      later = c.later;
      after = c.back;
      all = c.all;
      first = c.first;
      defined = c.defined;
      here = c.here;
      wrong = c.wrong;
    }
declared-only f (a_join pats) i =
    elim (in-append f (repeats Scope5 [] (ons pats)) (repeats Scope4 [] (params pats)) i) [
      | inl a ↦ inl (repeated-only f Scope5 (ons pats) a)
      | inr b ↦ inr (repeated-only f Scope4 (params pats) b)
    ]

declared-all : (f : Fault) (d : Declared) → WrongDeclared d f → IsIn f (declared_fault d)
declared-all f (a_block names) c = subst (λ l. IsIn f (clashes [] l)) (sym c.all)
    (clashes-at f [] c.before c.later c.after c.first c.defined c.here c.wrong)
declared-all f (a_join pats) (inl a) = in-left f (repeats Scope5 [] (ons pats))
    (repeats Scope4 [] (params pats)) (repeated-all f Scope5 (ons pats) a)
declared-all f (a_join pats) (inr b) = in-right f (repeats Scope5 [] (ons pats))
    (repeats Scope4 [] (params pats)) (repeated-all f Scope4 (params pats) b)

-- ---- sites above the limit

site-more : (limit : ℕ) (s : PlaceTree) (ss : List PlaceTree) (f : Fault) → WrongSite limit ss f
    → WrongSite (suc limit) (s ∷ ss) f
site-more limit s ss f w = record {
  before = s ∷ w.before;
  site = w.site;
  after = w.after;
  all = ap (λ l. s ∷ l) w.all;
  above = omega (arith, w.above);
  here = w.here;
  wrong = w.wrong;
}

many-only : (f : Fault) (ss : List PlaceTree) → IsIn f (many ss) → WrongSite 0 ss f
many-only f [] i = absurd i
many-only f (s ∷ ss) (inl e) = record {
  before = [];
  site = s;
  after = ss;
  all = refl;
  above = omega arith;
  here = ap (λ (x : Fault). x.place) e;
  wrong = ap (λ (x : Fault). x.kind) e;
}
many-only f (s ∷ ss) (inr i) =
    let w = many-only f ss i in
    record {
      before = s ∷ w.before;
      site = w.site;
      after = w.after;
      all = ap (λ l. s ∷ l) w.all;
      above = omega arith;
      here = w.here;
      wrong = w.wrong;
    }

sites-only : (limit : ℕ) (f : Fault) (ss : List PlaceTree) → IsIn f (many (drop limit ss))
    → WrongSite limit ss f
sites-only zero f ss i = many-only f ss i
sites-only (suc limit) f [] i = absurd i
sites-only (suc limit) f (s ∷ ss) i = site-more limit s ss f (sites-only limit f ss i)

many-at : (f : Fault) (before : List PlaceTree) (s : PlaceTree) (after : List PlaceTree)
    → f.place ≡ s.opener → f.kind ≡ Scope6 → IsIn f (many (before ++ s ∷ after))
many-at f [] s after p q = inl (λ i. record { kind = q i; place = p i })
many-at f (b ∷ before) s after p q = inr (many-at f before s after p q)

sites-at :
    (limit : ℕ) (f : Fault) (before : List PlaceTree) (s : PlaceTree) (after : List PlaceTree)
    → limit ≤ length before → f.place ≡ s.opener → f.kind ≡ Scope6
    → IsIn f (many (drop limit (before ++ s ∷ after)))
sites-at zero f before s after h p q = many-at f before s after p q
sites-at (suc limit) f [] s after h p q = absurd (omega arith)
sites-at (suc limit) f (b ∷ before) s after h p q =
    sites-at limit f before s after (omega arith) p q

-- ---- the whole

only-list : (t : TreeOfText) (f : Fault) → IsIn f (fault_list t) → IsFault t f
only-list t f i =
    elim (in-append f (many (drop (most_sites t.version) t.sites))
    (declared_faults t ++ use_faults (uses_of t)) i) [
      | inl a ↦ of_site (sites-only (most_sites t.version) f t.sites a)
      | inr b ↦ elim (in-append f (declared_faults t) (use_faults (uses_of t)) b) [
        | inl c ↦ (let m =
            gather-only declared_fault f (declared_of t) (subst (IsIn f) (declared-gathered t) c) in
            of_declared m.0 m.1 (declared-only f m.0 m.2))
        | inr c ↦ (let m =
            gather-only use_fault f (uses_of t) (subst (IsIn f) (uses-gathered (uses_of t)) c) in
            let o = by-only f m.0.manner m.0.word (resolve m.0.around m.0.word.text) m.2 in
            of_use m.0 m.1 (record { here = o.0; wrong = o.1 }))
      ]
    ]

all-list : (t : TreeOfText) (f : Fault) → IsFault t f → IsIn f (fault_list t)
all-list t f (of_site w) =
    in-left f (many (drop (most_sites t.version) t.sites))
    (declared_faults t ++ use_faults (uses_of t))
    (subst (λ l. IsIn f (many (drop (most_sites t.version) l))) (sym w.all)
    (sites-at (most_sites t.version) f w.before w.site w.after w.above w.here w.wrong))
all-list t f (of_declared d m w) =
    in-right f (many (drop (most_sites t.version) t.sites))
    (declared_faults t ++ use_faults (uses_of t))
    (in-left f (declared_faults t) (use_faults (uses_of t))
    (subst (IsIn f) (sym (declared-gathered t))
    (gather-all declared_fault f d (declared_of t) m (declared-all f d w))))
all-list t f (of_use u m w) =
    in-right f (many (drop (most_sites t.version) t.sites))
    (declared_faults t ++ use_faults (uses_of t))
    (in-right f (declared_faults t) (use_faults (uses_of t))
    (subst (IsIn f) (sym (uses-gathered (uses_of t))) (gather-all use_fault f u (uses_of t) m
    (by-all f u.manner u.word (resolve u.around u.word.text) w.here w.wrong))))

pub first-fault : (t : TreeOfText) → IsFirst (IsFault t) (first_of None (fault_list t))
first-fault t = first-of-set (IsFault t) (fault_list t) (only-list t) (all-list t)
