-- What the reading of a line keeps, and which lines ask for nothing.
use Rattle.std.proofs.Common.{◌≡◌, ◌∙◌, ℕ, Bool, cond, true, false, refl, ap, ap₂, List, [], ◌∷◌}
use Rattle.std.proofs.Common.{Option, Some, None, codes, length}
use Rattle.std.specs.Prelude.{◌&&◌, ◌||◌, is_some, nat_le, not, option_and_then, option_map}
use Rattle.std.specs.Str.{bytes_eq}
use Rattle.std.specs.Str.Parse.{digits_value}
use Rattle.join_words.specs.Line.{Field, Kind, Line, Plain, Reading, Text, budget, by, finished}
use Rattle.join_words.specs.Line.{flag, given, into, is_dashed, kind_of, logged, loss, name_of}
use Rattle.join_words.specs.Line.{none, one, option_word, read_from, read_word, two, unknown}
use Rattle.join_words.specs.Line.{value_of, valued, with_plain, word_at, workers}
use Rattle.join_words.specs.Asks.{judged, number_in, number_or, by_mode, bare_job, bare_or_run}
use Rattle.join_words.specs.Asks.{any_run_as, generated, lossy_as, nothing_asked, run_as}
use Rattle.join_words.specs.declared.answer.Job.{Job}
use Rattle.join_words.specs.declared.answer.Asked.{Asked}
use Rattle.join_words.specs.declared.answer.By.TheVariants.{Lossy}

abbrev pub at : Field → Line → Option Text
at budget l = l.budget
at workers l = l.workers
at by l = l.by
at loss l = l.loss

abbrev pub set : Field → Text → Line → Line
set budget v l = record l { budget = Some v }
set workers v l = record l { workers = Some v }
set by v l = record l { by = Some v }
set loss v l = record l { loss = Some v }

pub given-is : (f : Field) (v : Text) (l : Line)
    → given f v l ≡ cond (is_some (at f l)) None (Some (set f v l))
given-is budget v l = refl
given-is workers v l = refl
given-is by v l = refl
given-is loss v l = refl

abbrev pub rest : Reading → List Text → Option Line
rest r words = option_and_then finished (read_from r words)

abbrev pub asks : Reading → List Text → Option Asked
asks r words = option_and_then judged (rest r words)

pub rest-next : (r after : Reading) (w : Text) (ws : List Text) → read_word r w ≡ Some after
    → rest r (w ∷ ws) ≡ rest after ws
unfolding read_from
rest-next r after w ws e =
    ap (λ o. option_and_then finished (option_and_then (λ q. read_from q ws) o)) e

pub asks-none : (r : Reading) (w : Text) (ws : List Text) → read_word r w ≡ None
    → asks r (w ∷ ws) ≡ None
unfolding read_from
asks-none r w ws e = ap (λ o.
    option_and_then judged (option_and_then finished (option_and_then (λ q. read_from q ws) o))) e

-- ---- a value that begins with `-` is neither a number nor a mode

and_false : (a : Bool) → (a && false) ≡ false
and_false true = refl
and_false false = refl

no_number : (low high : ℕ) (t : Text) → number_in low high (45 ∷ t) ≡ None
no_number low high t =
    let n : ((nat_le 1 (length (45 ∷ t)) && nat_le (length (45 ∷ t)) 7) && false) ≡ false =
    and_false _ in
    ap (λ b.
    cond (b && (nat_le low (digits_value 10 (45 ∷ t)) && nat_le (digits_value 10 (45 ∷ t)) high))
    (Some (digits_value 10 (45 ∷ t))) None) n

then_none : {X Y : Type 0} (o : Option X) → option_and_then {T = X} {U = Y} (λ _. None) o ≡ None
then_none None = refl
then_none (Some x) = refl

both_none : {X : Type 0} (b : Bool) → cond {A = Option X} b None None ≡ None
both_none true = refl
both_none false = refl

either_true : (a c : Bool) → (a || (true || c)) ≡ true
either_true true c = refl
either_true false c = refl

or_true : (a : Bool) → (a || true) ≡ true
or_true true = refl
or_true false = refl

-- neither a run nor a command without options takes `--by`
no_by : (l : Line) (t : Text) → l.by ≡ Some (45 ∷ t) → (p : Plain) (b w : ℕ)
    → by_mode l p b w ≡ None
no_by l t e none b w = refl
no_by l t e (one m) b w =
    ap (λ o. cond (bytes_eq m (codes "gen")) None o) (no_bare (bare_job m))
    ∙ both_none (bytes_eq m (codes "gen"))
  where
    no_lossy : lossy_as l b ≡ None
    no_lossy = ap (λ (o : Option Text). cond (is_some l.workers || (is_some o || l.log)) None
        (option_map (λ n. record nothing_asked { by = Lossy; budget = b; loss = n })
        (number_or 0 0 3 l.loss))) e
        ∙ ap (λ x. cond x None
        (option_map (λ n. record nothing_asked { by = Lossy; budget = b; loss = n })
        (number_or 0 0 3 l.loss))) (either_true (is_some l.workers) l.log)

    no_run : run_as l m b w ≡ None
    no_run = rw e refl

    no_bare : (o : Option Job) → bare_or_run l o m b w ≡ None
    no_bare None = ap₂ (λ x y. cond (bytes_eq m (codes "lossy")) x y) no_lossy no_run
        ∙ both_none (bytes_eq m (codes "lossy"))
    no_bare (Some j) =
        ap (λ (o : Option Text). cond (not
        (is_some l.budget || (is_some l.workers || (is_some o || (is_some l.loss || l.log)))))
        (Some (record nothing_asked { job = j })) None) e
        ∙ ap (λ x. cond (not (is_some l.budget || x))
        (Some (record nothing_asked { job = j })) None)
        (either_true (is_some l.workers) (is_some l.loss || l.log))
        ∙ ap (λ x. cond (not x) (Some (record nothing_asked { job = j })) None)
        (or_true (is_some l.budget))
no_by l t e (two m n) b w = rw e (rw (then_none {X = ℕ} {Y = Asked} (number_in 1 64 n))
    (rw (both_none {X = Asked} (is_some l.loss || l.log))
    (both_none (bytes_eq m (codes "gen")))))

-- nor does any line ask for something whose `--loss` is no number
no_loss : (l : Line) (t : Text) → l.loss ≡ Some (45 ∷ t) → (p : Plain) (b w : ℕ)
    → by_mode l p b w ≡ None
no_loss l t e none b w = refl
no_loss l t e (one m) b w =
    ap (λ o. cond (bytes_eq m (codes "gen")) None o) (no_bare (bare_job m))
    ∙ both_none (bytes_eq m (codes "gen"))
  where
    made : ℕ → Asked
    made n = record nothing_asked { by = Lossy; budget = b; loss = n }

    no_lossy : lossy_as l b ≡ None
    no_lossy = ap (λ (o : Option Text).
        cond (is_some l.workers || (is_some l.by || l.log)) None
        (option_map made (number_or 0 0 3 o))) e
        ∙ ap (λ o. cond (is_some l.workers || (is_some l.by || l.log)) None (option_map made o))
        (no_number 0 3 t)
        ∙ both_none (is_some l.workers || (is_some l.by || l.log))

    no_run : run_as l m b w ≡ None
    no_run = ap (λ (o : Option Text). run_as (record l { loss = o }) m b w) e
        ∙ ap (λ x. cond x None (run_as (record l { by = None; loss = None }) m b w))
        (or_true (is_some l.by))

    no_bare : (o : Option Job) → bare_or_run l o m b w ≡ None
    no_bare None = ap₂ (λ x y. cond (bytes_eq m (codes "lossy")) x y) no_lossy no_run
        ∙ both_none (bytes_eq m (codes "lossy"))
    no_bare (Some j) =
        ap (λ (o : Option Text). cond (not
        (is_some l.budget || (is_some l.workers || (is_some l.by || (is_some o || l.log)))))
        (Some (record nothing_asked { job = j })) None) e
        ∙ ap (λ x. cond (not (is_some l.budget || (is_some l.workers || x)))
        (Some (record nothing_asked { job = j })) None) (either_true (is_some l.by) l.log)
        ∙ ap (λ x. cond (not (is_some l.budget || x))
        (Some (record nothing_asked { job = j })) None) (or_true (is_some l.workers))
        ∙ ap (λ x. cond (not x) (Some (record nothing_asked { job = j })) None)
        (or_true (is_some l.budget))
no_loss l t e (two m n) b w =
    ap (λ (o : Option Text).
    cond (bytes_eq m (codes "gen")) (generated (record l { loss = o }) n b w) None) e
    ∙ both_none (bytes_eq m (codes "gen"))

-- where no budget and no number of workers leaves something to ask for, nothing is asked for
by_none : (l : Line) → ((b w : ℕ) → by_mode l l.plain b w ≡ None) → judged l ≡ None
by_none l asks_none = go (number_or 100000 0 4000000 l.budget) (number_or 4 1 16 l.workers)
  where
    go : (b w : Option ℕ)
        → option_and_then (λ b. option_and_then (λ w. by_mode l l.plain b w) w) b ≡ None
    go None w = refl
    go (Some b) None = refl
    go (Some b) (Some w) = asks_none b w

pub spoils : (f : Field) (t : Text) (l : Line) → at f l ≡ Some (45 ∷ t) → judged l ≡ None
spoils budget t l e =
    ap (λ o.
    option_and_then (λ b. option_and_then (λ w. by_mode l l.plain b w) (number_or 4 1 16 l.workers))
    (number_or 100000 0 4000000 o)) e
    ∙ ap (option_and_then
    (λ b. option_and_then (λ w. by_mode l l.plain b w) (number_or 4 1 16 l.workers)))
    (no_number 0 4000000 t)
spoils workers t l e =
    ap
    (λ o. option_and_then (λ b. option_and_then (λ w. by_mode l l.plain b w) (number_or 4 1 16 o))
    (number_or 100000 0 4000000 l.budget)) e
    ∙ ap (λ o. option_and_then (λ b. option_and_then (λ w. by_mode l l.plain b w) o)
    (number_or 100000 0 4000000 l.budget)) (no_number 1 16 t)
    ∙ then_none (number_or 100000 0 4000000 l.budget)
spoils by t l e = by_none l (λ b w. no_by l t e l.plain b w)
spoils loss t l e = by_none l (λ b w. no_loss l t e l.plain b w)

-- ---- what was given stays

abbrev StaysIn : Field → Text → Option Line → Type 0
StaysIn f v None = Unit {0}
StaysIn f v (Some l) = at f l ≡ Some v

abbrev Stays : Field → Text → Option Reading → Type 0
Stays f v None = Unit {0}
Stays f v (Some r) = at f r.line ≡ Some v

unless : (f : Field) (v : Text) (l : Line) (b : Bool) → at f l ≡ Some v
    → StaysIn f v (cond b None (Some l))
unless f v l true e = tt
unless f v l false e = e

given-stays : (f g : Field) (v w : Text) (l : Line) → at f l ≡ Some v → StaysIn f v (given g w l)
given-stays budget budget v w l e = rw e tt
given-stays workers workers v w l e = rw e tt
given-stays by by v w l e = rw e tt
given-stays loss loss v w l e = rw e tt
given-stays budget workers v w l e = unless budget v (set workers w l) (is_some l.workers) e
given-stays budget by v w l e = unless budget v (set by w l) (is_some l.by) e
given-stays budget loss v w l e = unless budget v (set loss w l) (is_some l.loss) e
given-stays workers budget v w l e = unless workers v (set budget w l) (is_some l.budget) e
given-stays workers by v w l e = unless workers v (set by w l) (is_some l.by) e
given-stays workers loss v w l e = unless workers v (set loss w l) (is_some l.loss) e
given-stays by budget v w l e = unless by v (set budget w l) (is_some l.budget) e
given-stays by workers v w l e = unless by v (set workers w l) (is_some l.workers) e
given-stays by loss v w l e = unless by v (set loss w l) (is_some l.loss) e
given-stays loss budget v w l e = unless loss v (set budget w l) (is_some l.budget) e
given-stays loss workers v w l e = unless loss v (set workers w l) (is_some l.workers) e
given-stays loss by v w l e = unless loss v (set by w l) (is_some l.by) e

plain-stays : (f : Field) (v w : Text) (p : Plain) (l : Line) → at f l ≡ Some v
    → StaysIn f v (with_plain p w l)
plain-stays budget v w none l e = e
plain-stays budget v w (one m) l e = e
plain-stays budget v w (two m n) l e = tt
plain-stays workers v w none l e = e
plain-stays workers v w (one m) l e = e
plain-stays workers v w (two m n) l e = tt
plain-stays by v w none l e = e
plain-stays by v w (one m) l e = e
plain-stays by v w (two m n) l e = tt
plain-stays loss v w none l e = e
plain-stays loss v w (one m) l e = e
plain-stays loss v w (two m n) l e = tt

log-stays : (f : Field) (v : Text) (l : Line) → at f l ≡ Some v → StaysIn f v (logged l)
log-stays budget v l e = unless budget v (record l { log = true }) l.log e
log-stays workers v l e = unless workers v (record l { log = true }) l.log e
log-stays by v l e = unless by v (record l { log = true }) l.log e
log-stays loss v l e = unless loss v (record l { log = true }) l.log e

into-stays : (f : Field) (v : Text) (r : Reading) (o : Option Line) → StaysIn f v o
    → Stays f v (into r o)
into-stays f v r None h = tt
into-stays f v r (Some l) h = h

option-stays : (f : Field) (v : Text) (k : Kind) (value : Option Text) (r : Reading)
    → at f r.line ≡ Some v → Stays f v (option_word k value r)
option-stays f v (valued g) None r e = e
option-stays f v (valued g) (Some w) r e =
    into-stays f v r (given g w r.line) (given-stays f g v w r.line e)
option-stays f v flag None r e = into-stays f v r (logged r.line) (log-stays f v r.line e)
option-stays f v flag (Some w) r e = tt
option-stays f v unknown value r e = tt

word-stays : (f : Field) (v w : Text) (waits : Option Field) (r : Reading) → at f r.line ≡ Some v
    → Stays f v (word_at waits w r)
word-stays f v w (Some g) r e = go (given g w r.line) (given-stays f g v w r.line e)
  where
    go : (o : Option Line) → StaysIn f v o
        → Stays f v (option_map (λ l. record r { line = l; waits = None }) o)
    go None h = tt
    go (Some l) h = h
word-stays f v w None r e = go (is_dashed w && not r.ended) (bytes_eq w (codes "--"))
  where
    dashed : (b : Bool)
        → Stays f v (cond b (Some (record r { ended = true }))
        (option_word (kind_of (name_of w)) (value_of w) r))
    dashed true = e
    dashed false = option-stays f v (kind_of (name_of w)) (value_of w) r e

    go : (a b : Bool)
        → Stays f v (cond a (cond b (Some (record r { ended = true }))
        (option_word (kind_of (name_of w)) (value_of w) r))
        (into r (with_plain r.line.plain w r.line)))
    go true b = dashed b
    go false b = into-stays f v r (with_plain r.line.plain w r.line)
        (plain-stays f v w r.line.plain r.line e)

pub spoiled : (f : Field) (t : Text) (words : List Text) (r : Reading) → at f r.line ≡ Some (45 ∷ t)
    → asks r words ≡ None
unfolding read_from
spoiled f t [] r e = go (is_some r.waits)
  where
    go : (b : Bool) → option_and_then judged (cond b None (Some r.line)) ≡ None
    go true = refl
    go false = spoils f t r.line e
spoiled f t (w ∷ ws) r e =
    go (read_word r w) (word-stays f (45 ∷ t) w r.waits r e) (λ q. spoiled f t ws q)
  where
    go : (o : Option Reading) → Stays f (45 ∷ t) o
        → ((q : Reading) → at f q.line ≡ Some (45 ∷ t) → asks q ws ≡ None)
        → option_and_then judged
        (option_and_then finished (option_and_then (λ q. read_from q ws) o)) ≡ None
    go None h next = refl
    go (Some q) h next = next q h
