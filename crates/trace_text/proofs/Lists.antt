-- Names by the first of a list, and ranks by what is left of a trace.
use Rattle.std.proofs.Common.{◌≡◌, ◌<◌, ◌≤◌, ℕ, ◌+◌, ◌-◌, suc, List, [], ◌∷◌, ◌++◌, length, get_or}
use Rattle.std.proofs.Common.{take, drop, drop-cons, add-one, cond, ◌&&◌, not, refl, ap, sym, ◌∙◌}
use Rattle.std.proofs.Common.{append-nil, append_assoc, codes, Result, Ok, Err, arith}
use Rattle.std.specs.Prelude.{IfOk}
use Rattle.std.proofs.lemmas.List.{take_all}
use Rattle.chem_model.specs.declared.name.Name.{Name}
use Rattle.chem_model.specs.declared.event.Out.{Out}
use Rattle.chem_model.specs.ProgramFacts.{ProgramTerms}
use Rattle.chem_model.specs.Fill.{Naming}
use Rattle.trace_text.specs.TraceText.{is_ranked, is_among, ranked_after, arguments, name_text}
use Rattle.trace_text.specs.TraceText.{names_text}
use Rattle.trace_text.specs.inside.Later.{later_text}

names_first : (p : ProgramTerms) (named : Naming) (ranks : List Name) (x : Name) (xs : List Name)
    → names_text p named ranks (x ∷ xs) ≡ name_text p named ranks x ++ later_text p named ranks xs
names_first p named ranks x [] = sym (append-nil (name_text p named ranks x))
names_first p named ranks x (y ∷ more) =
    ap (λ (rest : List ℕ). name_text p named ranks x ++ codes ", " ++ rest)
    (names_first p named ranks y more)
    ∙ append_assoc (name_text p named ranks x) (codes ", ")
    (name_text p named ranks y ++ later_text p named ranks more)

-- the text of names is the first, and those that come later
pub names_open :
    (p : ProgramTerms) (named : Naming) (ranks members names : List Name) (d : Name)
    (start mid end : List ℕ) → members ≡ names → 1 ≤ length members
    → mid ≡ start ++ name_text p named ranks (get_or members 0 d)
    → end ≡ mid ++ later_text p named ranks (take (length members - 1) (drop 1 members))
    → end ≡ start ++ names_text p named ranks names
names_open p named ranks [] names d start mid end same some one more = absurd (omega arith)
names_open p named ranks (x ∷ xs) names d start mid end same some one more =
    let left = take (length (x ∷ xs) - 1) xs in
    let all : left ≡ xs = take_all (length (x ∷ xs) - 1) xs (omega arith) in
    let whole : name_text p named ranks x ++ later_text p named ranks left
    ≡ names_text p named ranks names =
    ap (λ (rest : List Name). name_text p named ranks x ++ later_text p named ranks rest) all
    ∙ (sym (names_first p named ranks x xs) ∙ ap (names_text p named ranks) same) in
    more
    ∙ (ap (λ (text : List ℕ). text ++ later_text p named ranks left) one
    ∙ (append_assoc start (name_text p named ranks x) (later_text p named ranks left)
    ∙ ap (λ (text : List ℕ). start ++ text) whole))

-- ranks go on where they stopped
pub ranked_more : (p : ProgramTerms) (named : Naming) (before xs ys : List Name)
    → ranked_after p named before (xs ++ ys)
    ≡ ranked_after p named (ranked_after p named before xs) ys
ranked_more p named before [] ys = refl
ranked_more p named before (x ∷ xs) ys = ranked_more p named
    (cond (is_ranked p named x && not (is_among before x)) (before ++ x ∷ []) before) xs ys

-- one observable less is left
pub ranked_step :
    (p : ProgramTerms) (named : Naming) (outs : List Out) (before now : List Name) (o : Out) (i : ℕ)
    → i < length outs → o ≡ get_or outs i o → now ≡ ranked_after p named before o.args
    → ranked_after p named now (arguments (drop (i + 1) outs))
    ≡ ranked_after p named before (arguments (drop i outs))
ranked_step p named outs before now o i h is counted =
    let left = arguments (drop (suc i) outs) in
    let opened : arguments (drop i outs) ≡ o.args ++ left =
    ap arguments (drop-cons outs i o h) ∙ ap (λ (first : Out). first.args ++ left) (sym is) in
    rw add-one (ap (λ (names : List Name). ranked_after p named names left) counted
    ∙ (sym (ranked_more p named before o.args left)
    ∙ ap (ranked_after p named before) (sym opened)))

-- what comes out where there is memory, said otherwise
pub ok_then : {A E : Type 0} (r : Result A E) (x y : A) → IfOk r (λ a. a ≡ x) → x ≡ y
    → IfOk r (λ a. a ≡ y)
ok_then (Ok a) x y is same = is ∙ same
ok_then (Err f) x y is same = tt
